use Rattle.std.proofs.Common.{◌≡◌, ◌++◌, map}
use Rattle.sbe_c.specs.Outcomes.{number_told}
use Rattle.sbe_c.specs.Reading.{value_at}
use Rattle.sbe_c.proofs.reading.numbers_over.Given as goal

abbrev pub invariant-loop-entry : goal.invariant-loop-entry
invariant-loop-entry l = map number_told l.numbers.items ++ map (value_at l.field) l.entry-iterator ≡ map (value_at l.field) l.fn.entries
