use Rattle.std.proofs.Common.{refl}
use denote.Hole.Carrier as carrier
use Rattle.sbe_types.specs.declared.schema.Level as level
use Rattle.version_laws.specs.Differ.{level_differs, groups_differ, group_differs}
use Rattle.version_laws.specs.Forward.{added_in, added_group, added_below, added_at_root}
use Rattle.version_laws.proofs.worked.list_rows.Goals as goal

pub returns-clause-gained : goal.returns-clause-gained
unfolding level_differs groups_differ group_differs added_in added_group added_below added_at_root level.out-Level carrier.out
returns-clause-gained c = refl

pub returns-clause-gained_later : goal.returns-clause-gained_later
unfolding level_differs groups_differ group_differs added_in added_group added_below added_at_root level.out-Level carrier.out
returns-clause-gained_later c = refl

pub returns-clause-lost : goal.returns-clause-lost
unfolding level_differs groups_differ group_differs added_in added_group added_below added_at_root level.out-Level carrier.out
returns-clause-lost c = refl

pub returns-clause-renumbered : goal.returns-clause-renumbered
unfolding level_differs groups_differ group_differs added_in added_group added_below added_at_root level.out-Level carrier.out
returns-clause-renumbered c = refl
