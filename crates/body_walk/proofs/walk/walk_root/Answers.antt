use Rattle.std.proofs.Common.{sym}
use Rattle.body_walk.proofs.Opens.{flat_groups, flat_parts}
use Rattle.body_walk.proofs.walk.walk_root.Goals as goal

pub behind_root-requires-clause-groups : goal.behind_root-requires-clause-groups
behind_root-requires-clause-groups c = flat_groups c.args.level.now (sym c.if-is_flat.ensures)

pub behind_root-requires-clause-parts : goal.behind_root-requires-clause-parts
behind_root-requires-clause-parts c = flat_parts c.args.level.now (sym c.if-is_flat.ensures)
