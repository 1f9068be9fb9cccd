use Rattle.std.proofs.Common.{◌≡◌, ◌+◌, drop}
use Rattle.regrade_laws.specs.Counts.{count_pairs, drops_field}
use Rattle.regrade.proofs.dropping.dropped_fields.Given as goal

abbrev pub invariant-loop-i : goal.invariant-loop-i
invariant-loop-i l = l.dropped + count_pairs (drops_field l.version) (drop l.i l.fields) (drop l.i l.values) ≡ count_pairs (drops_field l.version) l.fields l.values
