use Rattle.std.proofs.Common.{◌≡◌, ◌≤◌, ◌/◌, ◌%◌, ◌^◌}
use Rattle.fix_values.specs.Decimals.{digits_at, without_trailing}
use Rattle.value_texts.proofs.small.shortened.Given as goal

abbrev pub decreases-loop-places : goal.decreases-loop-places
decreases-loop-places l = l.places

abbrev pub invariant-loop-places : goal.invariant-loop-places
invariant-loop-places l = record {
  few : l.places ≤ l.fn.places;
  whole : l.size / 10 ^ l.places ≡ l.fn.size / 10 ^ l.fn.places;
  fraction : without_trailing (digits_at l.places (l.size % 10 ^ l.places)) ≡ without_trailing (digits_at l.fn.places (l.fn.size % 10 ^ l.fn.places));
}
