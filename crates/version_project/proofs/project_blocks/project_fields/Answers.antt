use Rattle.std.proofs.Common.{◌≡◌, ◌+◌, ◌++◌, drop, sym, ◌∙◌, subst}
use Rattle.version_project.specs.Each.{known_fields}
use Rattle.sbe_types.specs.declared.schema.Field.{Field}
use Rattle.sbe_types.specs.declared.message.Value.{Value}
use Rattle.version_laws.specs.Projected.{old_field}
use Rattle.version_project.proofs.OldParts.{old_has, old_lacks}
use Rattle.version_project.proofs.ProjectWalk.{each_go, each_pass}
use Rattle.version_project.proofs.project_blocks.project_fields.Goals.{then-field-version+in_ok-copy+in_ok-push, else-field-version}
use Rattle.version_project.proofs.project_blocks.project_fields.Goals as goal

pub loop-i-preserved : goal.loop-i-preserved
loop-i-preserved c = elim c.if-field-version.branch [
  | then-field-version+in_ok-copy+in_ok-push w ↦
      subst (λ out. out ++ known_fields c.args.version (drop (c.loop-i.i + 1) c.args.fields.now) (drop (c.loop-i.i + 1) c.args.values.now) ≡ known_fields c.args.version c.args.fields.now c.args.values.now) (sym (w.out-is ∙ w.in_ok-push.ensures.ok))
      (each_go (old_field c.args.version) (λ (f : Field) (v : Value). v) c.args.fields.now _ c.args.values.now c.loop-i.out c.loop-i.i _ _ _ _ c.as_slice-field-items.ensures c.loop-i-test.true c.field-item.is c.at-value.ensures (old_has c.args.version _ w.if-field-version.true) w.in_ok-copy.ensures c.loop-i.invariant)
  | else-field-version w ↦
      subst (λ out. out ++ known_fields c.args.version (drop (c.loop-i.i + 1) c.args.fields.now) (drop (c.loop-i.i + 1) c.args.values.now) ≡ known_fields c.args.version c.args.fields.now c.args.values.now) (sym w.out-is)
      (each_pass (old_field c.args.version) (λ (f : Field) (v : Value). v) c.args.fields.now _ c.args.values.now c.loop-i.out c.loop-i.i _ _ _ c.as_slice-field-items.ensures c.loop-i-test.true c.field-item.is c.at-value.ensures (old_lacks c.args.version _ w.if-field-version.false) c.loop-i.invariant)
]
