use Rattle.std.proofs.Common.{sym, subst}
use Rattle.std.specs.List.{All}
use Rattle.bridge_cover.specs.Kinds.{GroupHasKinds}
use Rattle.bridge_cover.proofs.Kinded.{group_kinds}
use Rattle.bridge_cover.proofs.walk.groups_of.Goals as goal

pub returns-clause-order : goal.returns-clause-order
returns-clause-order c = subst (All GroupHasKinds) (sym c.as_slice.ensures) (group_kinds c.args.level.now c.requires)
