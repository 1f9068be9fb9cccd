use Rattle.std.proofs.Common.{◌≡◌, subst}
use Rattle.std.specs.Prelude.{IfOk}
use Rattle.version_project.proofs.AddedWalk.{part_goes, part_new}
use Rattle.version_project.proofs.added.added_part.Goals as goal

pub returns-then-part-version : goal.returns-then-part-version
returns-then-part-version c =
    subst (λ w. IfOk c.named.result (λ d. d ≡ w)) (part_new c.args.version c.args.parts.now _ c.loop-i.i _ c.at-part.ensures c.if-part-version.true c.loop-i.invariant) c.named.ensures

pub loop-i-preserved : goal.loop-i-preserved
loop-i-preserved c = part_goes c.args.version c.args.parts.now _ c.loop-i.i _ c.at-part.ensures c.if-part-version.false c.loop-i.invariant
