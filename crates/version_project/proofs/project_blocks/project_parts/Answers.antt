use Rattle.std.proofs.Common.{◌≡◌, ◌+◌, ◌++◌, drop, sym, ◌∙◌, subst}
use Rattle.version_project.specs.Each.{known_parts}
use Rattle.sbe_types.specs.declared.schema.DataField.{DataField}
use Rattle.sbe_types.specs.declared.message.DataVal.{DataVal}
use Rattle.version_laws.specs.Projected.{old_part}
use Rattle.version_project.proofs.OldParts.{old_has, old_lacks}
use Rattle.version_project.proofs.ProjectWalk.{each_go, each_pass}
use Rattle.version_project.proofs.project_blocks.project_parts.Goals.{then-part-version+in_ok-copy+in_ok-push, else-part-version}
use Rattle.version_project.proofs.project_blocks.project_parts.Goals as goal

pub loop-i-preserved : goal.loop-i-preserved
loop-i-preserved c = elim c.if-part-version.branch [
  | then-part-version+in_ok-copy+in_ok-push w ↦
      subst (λ out. out ++ known_parts c.args.version (drop (c.loop-i.i + 1) c.args.parts.now) (drop (c.loop-i.i + 1) c.args.values.now) ≡ known_parts c.args.version c.args.parts.now c.args.values.now) (sym (w.out-is ∙ w.in_ok-push.ensures.ok))
      (each_go (old_part c.args.version) (λ (p : DataField) (v : DataVal). v) c.args.parts.now _ c.args.values.now c.loop-i.out c.loop-i.i _ _ _ _ c.as_slice-part-items.ensures c.loop-i-test.true c.part-item.is c.at-value.ensures (old_has c.args.version _ w.if-part-version.true) w.in_ok-copy.ensures c.loop-i.invariant)
  | else-part-version w ↦
      subst (λ out. out ++ known_parts c.args.version (drop (c.loop-i.i + 1) c.args.parts.now) (drop (c.loop-i.i + 1) c.args.values.now) ≡ known_parts c.args.version c.args.parts.now c.args.values.now) (sym w.out-is)
      (each_pass (old_part c.args.version) (λ (p : DataField) (v : DataVal). v) c.args.parts.now _ c.args.values.now c.loop-i.out c.loop-i.i _ _ _ c.as_slice-part-items.ensures c.loop-i-test.true c.part-item.is c.at-value.ensures (old_lacks c.args.version _ w.if-part-version.false) c.loop-i.invariant)
]
