use Rattle.std.proofs.Common.{refl}
use denote.Hole.Carrier as carrier
use Rattle.sbe_types.specs.declared.schema.Level as level
use Rattle.version_laws.specs.Differ.{level_differs, groups_differ, group_differs}
use Rattle.version_laws.specs.Forward.{added_in, added_group, added_below, added_at_root}
use Rattle.version_laws.proofs.worked.group_rows.Goals as goal

pub returns-clause-renamed : goal.returns-clause-renamed
unfolding level_differs groups_differ group_differs added_in added_group added_below added_at_root level.out-Level carrier.out
returns-clause-renamed c = refl

pub returns-clause-dimension : goal.returns-clause-dimension
unfolding level_differs groups_differ group_differs added_in added_group added_below added_at_root level.out-Level carrier.out
returns-clause-dimension c = refl

pub returns-clause-nested : goal.returns-clause-nested
unfolding level_differs groups_differ group_differs added_in added_group added_below added_at_root level.out-Level carrier.out
returns-clause-nested c = refl

pub returns-clause-data_of_entries : goal.returns-clause-data_of_entries
unfolding level_differs groups_differ group_differs added_in added_group added_below added_at_root level.out-Level carrier.out
returns-clause-data_of_entries c = refl

pub returns-clause-added : goal.returns-clause-added
unfolding level_differs groups_differ group_differs added_in added_group added_below added_at_root level.out-Level carrier.out
returns-clause-added c = refl

pub returns-clause-added_last : goal.returns-clause-added_last
unfolding level_differs groups_differ group_differs added_in added_group added_below added_at_root level.out-Level carrier.out
returns-clause-added_last c = refl
