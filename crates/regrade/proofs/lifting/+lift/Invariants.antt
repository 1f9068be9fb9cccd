use Rattle.std.proofs.Common.{◌≡◌, ◌++◌, drop, map}
use Rattle.version_laws.specs.Projected.{lifted_block}
use Rattle.regrade.specs.Each.{lifted_groups_each}
use Rattle.regrade.proofs.lifting.+lift.Given as goal

abbrev pub invariant-lift_groups-loop-i : goal.invariant-lift_groups-loop-i
invariant-lift_groups-loop-i l = l.lifted ++ lifted_groups_each l.version (drop l.i l.groups) (drop l.next l.values) ≡ lifted_groups_each l.version l.groups l.values

abbrev pub invariant-lift_entries-loop-entry : goal.invariant-lift_entries-loop-entry
invariant-lift_entries-loop-entry l = l.lifted ++ map (lifted_block l.version l.level) (drop l.entry-index l.entries) ≡ map (lifted_block l.version l.level) l.entries
