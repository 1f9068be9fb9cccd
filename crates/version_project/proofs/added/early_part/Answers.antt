use Rattle.std.proofs.Common.{◌≡◌, sym, ◌∙◌, subst}
use Rattle.std.specs.Prelude.{IfOk}
use Rattle.version_project.proofs.AddedWalk.{early_part_old, early_part_last, early_part_stops}
use Rattle.version_project.proofs.added.early_part.Goals.{else-part-version-via-then-part-version+else-has_old_part, else-part-version-via-else-part-version}
use Rattle.version_project.proofs.added.early_part.Goals as goal

pub returns-then-has_old_part : goal.returns-then-has_old_part
returns-then-has_old_part c =
    subst (λ w. IfOk c.named.result (λ d. d ≡ w))
    (early_part_stops c.args.version c.args.parts.now _ c.loop-i.i _ c.at-part.ensures c.if-part-version.true (sym c.has_old_part.ensures ∙ c.if-has_old_part.true) c.loop-i.invariant)
    c.named.ensures

pub loop-i-preserved : goal.loop-i-preserved
loop-i-preserved c = elim c.else-part-version.branch [
  | else-part-version-via-then-part-version+else-has_old_part w ↦
      early_part_last c.args.version c.args.parts.now _ c.loop-i.i _ c.at-part.ensures (sym w.has_old_part.ensures ∙ w.if-has_old_part.false) c.loop-i.invariant
  | else-part-version-via-else-part-version w ↦ early_part_old c.args.version c.args.parts.now _ c.loop-i.i _ c.at-part.ensures w.if-part-version.false c.loop-i.invariant
]
