use Rattle.std.proofs.Common.{refl}
use denote.Hole.Carrier as carrier
use Rattle.sbe_types.specs.declared.schema.Level as level
use Rattle.version_laws.specs.Differ.{level_differs, groups_differ, group_differs}
use Rattle.version_laws.specs.Forward.{added_in, added_group, added_below, added_at_root}
use Rattle.version_laws.proofs.worked.schema_rows.Goals as goal

pub returns-clause-id : goal.returns-clause-id
unfolding level_differs groups_differ group_differs added_in added_group added_below added_at_root level.out-Level carrier.out
returns-clause-id c = refl

pub returns-clause-byte_order : goal.returns-clause-byte_order
unfolding level_differs groups_differ group_differs added_in added_group added_below added_at_root level.out-Level carrier.out
returns-clause-byte_order c = refl

pub returns-clause-header : goal.returns-clause-header
unfolding level_differs groups_differ group_differs added_in added_group added_below added_at_root level.out-Level carrier.out
returns-clause-header c = refl

pub returns-clause-version : goal.returns-clause-version
unfolding level_differs groups_differ group_differs added_in added_group added_below added_at_root level.out-Level carrier.out
returns-clause-version c = refl
