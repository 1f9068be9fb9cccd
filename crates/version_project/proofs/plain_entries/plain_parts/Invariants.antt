use Rattle.std.proofs.Common.{◌≡◌, drop}
use Rattle.version_project.specs.IsPlain.{all_pairs, part_is_plain}
use Rattle.version_project.proofs.plain_entries.plain_parts.Given as goal

abbrev pub invariant-loop-i : goal.invariant-loop-i
invariant-loop-i l = all_pairs (part_is_plain l.version) (drop l.i l.parts) (drop l.i l.values) ≡ all_pairs (part_is_plain l.version) l.parts l.values
