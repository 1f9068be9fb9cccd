-- The names of valid values and choices lead back to them.
use Rattle.std.specs.Prelude.{◌≡◌, ◌<◌, ◌^◌, ℕ, ℤ, List, Ok}
use Rattle.sbe_types.specs.declared.kind.Primitive.{Primitive}
use Rattle.sbe_types.specs.declared.kind.Leaf.{Leaf}
use Rattle.sbe_types.specs.declared.kind.Named.{Named}
use Rattle.sbe_types.specs.declared.message.Value.TheVariants as value
use Rattle.sbe_types.specs.Numbers.{prim_width}
use Rattle.schema_facts.specs.InOrder.{AreListed, IsNumberOf, IsBitOf}
use Rattle.json_values.specs.Values.{enum_data, set_data}
use Rattle.line_values.specs.Values.{enum_in, set_in}
use Rattle.line_laws.specs.AsRead.{as_read}

-- The law: the number of an enum reads back, whether a valid value has it or not.
abbrev pub EnumsReadBack : Type 0
EnumsReadBack = (l : Leaf) (names : List Named) (n : ℤ) → AreListed (IsNumberOf l.prim) names → enum_in l names (as_read (enum_data names n)) ≡ Ok (value.Enum n)

-- The law: a set reads back, whether each of its bits is a choice or not.
abbrev pub SetsReadBack : Type 0
SetsReadBack =
    (prim : Primitive) (names : List Named) (bits : ℕ) → AreListed (IsBitOf (prim_width prim)) names → bits < 2 ^ 64
    → set_in names (as_read (set_data names bits)) ≡ Ok (value.Set bits)
