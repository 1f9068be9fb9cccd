use Rattle.std.proofs.Common.{refl}
use denote.Hole.Carrier as carrier
use Rattle.sbe_types.specs.declared.schema.Level as level
use Rattle.version_laws.specs.Differ.{level_differs, groups_differ, group_differs}
use Rattle.version_laws.specs.Forward.{added_in, added_group, added_below, added_at_root}
use Rattle.version_laws.proofs.worked.field_rows.Goals as goal

pub returns-clause-missing : goal.returns-clause-missing
unfolding level_differs groups_differ group_differs added_in added_group added_below added_at_root level.out-Level carrier.out
returns-clause-missing c = refl

pub returns-clause-renamed : goal.returns-clause-renamed
unfolding level_differs groups_differ group_differs added_in added_group added_below added_at_root level.out-Level carrier.out
returns-clause-renamed c = refl

pub returns-clause-one_more : goal.returns-clause-one_more
unfolding level_differs groups_differ group_differs added_in added_group added_below added_at_root level.out-Level carrier.out
returns-clause-one_more c = refl

pub returns-clause-since : goal.returns-clause-since
unfolding level_differs groups_differ group_differs added_in added_group added_below added_at_root level.out-Level carrier.out
returns-clause-since c = refl

pub returns-clause-place : goal.returns-clause-place
unfolding level_differs groups_differ group_differs added_in added_group added_below added_at_root level.out-Level carrier.out
returns-clause-place c = refl

pub returns-clause-in_padding : goal.returns-clause-in_padding
unfolding level_differs groups_differ group_differs added_in added_group added_below added_at_root level.out-Level carrier.out
returns-clause-in_padding c = refl

pub returns-clause-member_moved : goal.returns-clause-member_moved
unfolding level_differs groups_differ group_differs added_in added_group added_below added_at_root level.out-Level carrier.out
returns-clause-member_moved c = refl
