use Rattle.std.proofs.Common.{◌≡◌, ◌+◌, ◌/◌, ◌%◌, ◌^◌, drop, length}
use Rattle.fix_values.specs.Decimals.{digits_at}
use Rattle.value_texts.specs.declared.small.TheConstants.{SMALL_ROOM}
use Rattle.value_texts.proofs.small.write_places.Given as goal

abbrev pub invariant-loop : goal.invariant-loop
invariant-loop l = record {
  long : length l.room ≡ SMALL_ROOM;
  begin : l.at + l.counter ≡ SMALL_ROOM;
  whole : l.whole ≡ l.fn.size / 10 ^ l.counter;
  text : drop l.at l.room ≡ digits_at l.counter (l.fn.size % 10 ^ l.counter);
}
