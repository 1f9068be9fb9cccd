use Rattle.version_project.proofs.OldParts.{old_has_group, old_lacks_group}
use Rattle.version_project.specs.IsPlain.{old_group}
use Rattle.version_project.proofs.RootWalk.{any_found, any_goes_on}
use Rattle.version_project.proofs.known.has_old_group.Goals as goal

pub returns-then-at-version : goal.returns-then-at-version
returns-then-at-version c = any_found (old_group c.args.version) c.args.groups.now c.loop-i.i c.args.from _ c.at.ensures (old_has_group c.args.version _ c.if-at-version.true) c.loop-i.invariant

pub loop-i-preserved : goal.loop-i-preserved
loop-i-preserved c = any_goes_on (old_group c.args.version) c.args.groups.now c.loop-i.i c.args.from _ c.at.ensures (old_lacks_group c.args.version _ c.if-at-version.false) c.loop-i.invariant
