use Rattle.std.proofs.Common.{refl}
use denote.Hole.Carrier as carrier
use Rattle.sbe_types.specs.declared.schema.Level as level
use Rattle.version_laws.specs.Differ.{level_differs, groups_differ, group_differs}
use Rattle.version_laws.specs.Forward.{added_in, added_group, added_below, added_at_root}
use Rattle.version_laws.proofs.worked.event_goes_both_ways.Goals as goal

pub returns : goal.returns
unfolding level_differs groups_differ group_differs added_in added_group added_below added_at_root level.out-Level carrier.out
returns c = refl
