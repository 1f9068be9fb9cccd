-- The moments that texts spell, in the units of their parts. Own profile.
use Rattle.std.specs.Prelude.{◌≡◌, ℕ, min, ℤ, Result, Ok, Err}
use Rattle.sbe_types.specs.declared.kind.Leaf.{Leaf as LeafOf}
use Rattle.sbe_types.specs.declared.message.Value.{Value}
use Rattle.fix_values.specs.declared.rule.V.{V}
use Rattle.fix_values.specs.Decimals.{leaf_number}
use Rattle.fix_dates.specs.declared.moment.Moment.{Moment}
use Rattle.date_answers.specs.Answers.{Instant, in_unit}
use Rattle.bridge_rules.specs.Rules.{UnitBy}
use Rattle.bridge_rules.specs.Values.{Misread, TimeCount, in_unit_of, moment_value, time_count, value_from}

-- the moment is the instant, with as many digits up to nine; or both are refused for the same reason
abbrev pub IsInstant : Result Moment V → Result Instant V → Type 0
IsInstant (Ok m) (Ok i) = (m.nanos ≡ i.nanos) × (m.digits ≡ min 9 i.digits)
IsInstant (Err v) (Err w) = v ≡ w
IsInstant (Ok m) (Err w) = ⊥
IsInstant (Err v) (Ok i) = ⊥

-- a number of nanoseconds counted in a unit, as one of the leaf's numbers
abbrev pub count_of : LeafOf → ℕ → ℤ → Result TimeCount V
count_of leaf unit nanos = time_count unit (leaf_number leaf (in_unit nanos unit))

-- the value of an instant in the unit of its part
abbrev pub counted_of : LeafOf → UnitBy → ℤ → ℕ → Result Value Misread
counted_of leaf unit nanos digits = value_from (moment_value unit) (in_unit_of leaf unit (Ok (record { nanos = nanos; digits = digits })))
