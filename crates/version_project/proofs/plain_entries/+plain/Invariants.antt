use Rattle.std.proofs.Common.{◌≡◌, drop}
use Rattle.std.specs.List.{list_all}
use Rattle.version_project.specs.IsPlain.{all_pairs, entry_is_plain, group_is_plain}
use Rattle.version_project.proofs.plain_entries.+plain.Given as goal

abbrev pub invariant-plain_entries-loop-entry : goal.invariant-plain_entries-loop-entry
invariant-plain_entries-loop-entry l = list_all (entry_is_plain l.version l.level) (drop l.entry-index l.entries) ≡ list_all (entry_is_plain l.version l.level) l.entries

abbrev pub invariant-plain_groups-loop-i : goal.invariant-plain_groups-loop-i
invariant-plain_groups-loop-i l = all_pairs (group_is_plain l.version) (drop l.i l.groups) (drop l.i l.values) ≡ all_pairs (group_is_plain l.version) l.groups l.values
