use Rattle.std.proofs.Common.{◌≡◌, ◌+◌, drop}
use Rattle.regrade_laws.specs.Counts.{count_pairs, drops_part}
use Rattle.regrade.proofs.dropping.dropped_parts.Given as goal

abbrev pub invariant-loop-i : goal.invariant-loop-i
invariant-loop-i l = l.dropped + count_pairs (drops_part l.version) (drop l.i l.parts) (drop l.i l.values) ≡ count_pairs (drops_part l.version) l.parts l.values
