use Rattle.std.proofs.Common.{◌≡◌, take}
use Rattle.std.specs.Prelude.{sum_by}
use Rattle.schema_lines.specs.Counts.{groups_with, parts_with}
use Rattle.schema_lines.proofs.counts.+count.Given as goal

abbrev pub invariant-count_groups-loop-group : goal.invariant-count_groups-loop-group
invariant-count_groups-loop-group l = record {
  groups : l.counts.groups ≡ sum_by groups_with (take l.group-index l.groups);
  parts : l.counts.parts ≡ sum_by parts_with (take l.group-index l.groups);
}
