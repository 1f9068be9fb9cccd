use Rattle.std.proofs.Common.{refl}
use denote.Hole.Carrier as carrier
use Rattle.sbe_types.specs.declared.schema.Level as level
use Rattle.version_laws.specs.Differ.{level_differs, groups_differ, group_differs}
use Rattle.version_laws.specs.Forward.{added_in, added_group, added_below, added_at_root}
use Rattle.version_laws.proofs.worked.message_rows.Goals as goal

pub returns-clause-missing : goal.returns-clause-missing
unfolding level_differs groups_differ group_differs added_in added_group added_below added_at_root level.out-Level carrier.out
returns-clause-missing c = refl

pub returns-clause-renamed : goal.returns-clause-renamed
unfolding level_differs groups_differ group_differs added_in added_group added_below added_at_root level.out-Level carrier.out
returns-clause-renamed c = refl

pub returns-clause-turned : goal.returns-clause-turned
unfolding level_differs groups_differ group_differs added_in added_group added_below added_at_root level.out-Level carrier.out
returns-clause-turned c = refl

pub returns-clause-first : goal.returns-clause-first
unfolding level_differs groups_differ group_differs added_in added_group added_below added_at_root level.out-Level carrier.out
returns-clause-first c = refl
