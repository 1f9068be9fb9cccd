use Rattle.std.proofs.Common.{◌≡◌, ◌++◌, drop, map}
use Rattle.version_project.specs.Each.{known_groups}
use Rattle.version_laws.specs.Projected.{projected_block}
use Rattle.version_project.proofs.project_blocks.+project.Given as goal

abbrev pub invariant-project_groups-loop-i : goal.invariant-project_groups-loop-i
invariant-project_groups-loop-i l =
    l.out ++ known_groups l.version (drop l.i l.groups) (drop l.i l.values) ≡ known_groups l.version l.groups l.values

abbrev pub invariant-project_entries-loop-entry : goal.invariant-project_entries-loop-entry
invariant-project_entries-loop-entry l = l.out ++ map (projected_block l.version l.level) (drop l.entry-index l.entries) ≡ map (projected_block l.version l.level) l.entries
