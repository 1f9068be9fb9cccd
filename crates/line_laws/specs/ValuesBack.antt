-- A value that fits its kind reads back from its data.
use Rattle.std.specs.Prelude.{◌≡◌, Option, Some, None, Ok, List, [], ◌∷◌, ⊤}
use Rattle.std.specs.Option.{option_map}
use Rattle.byte_digits.specs.Digits.{IsBytes}
use Rattle.serde_json.specs.Data.{Data}
use Rattle.sbe_types.specs.declared.kind.Order.{Order}
use Rattle.sbe_types.specs.declared.kind.ConstValue.{ConstValue}
use Rattle.sbe_types.specs.declared.kind.ConstValue.TheVariants as constant
use Rattle.sbe_types.specs.declared.kind.Kind.{Kind, Leaf, Enum, Set, Const, Comp', Row_of-Member, end_of-Member, more_of-Member}
use Rattle.sbe_types.specs.declared.message.Value.{Value}
use Rattle.sbe_types.specs.declared.message.Value.TheVariants as value
use Rattle.sbe_types.specs.Wire.{FitsKind, member_values}
use Rattle.schema_facts.specs.InOrder.{IsKindInOrder}
use Rattle.json_values.specs.Values.{value_data}
use Rattle.line_values.specs.Refusals.{Reading}
use Rattle.line_values.specs.Objects.{there_or}
use Rattle.line_values.specs.Values.{lack, kind_in}
use Rattle.line_laws.specs.AsRead.{as_read}

-- ---- bytes

-- a text consists of bytes; any other value may be anything
abbrev pub TextHasBytes : Value → Type 0
TextHasBytes (value.Text bytes) = IsBytes bytes
TextHasBytes (value.Num n) = ⊤
TextHasBytes value.Null = ⊤
TextHasBytes (value.Nums elements) = ⊤
TextHasBytes (value.Enum n) = ⊤
TextHasBytes (value.Set bits) = ⊤
TextHasBytes (value.Comp' n values) = ⊤
TextHasBytes value.Const = ⊤
TextHasBytes value.Absent = ⊤

-- a constant that is a text consists of bytes
abbrev pub ConstantHasBytes : ConstValue → Type 0
ConstantHasBytes (constant.Text bytes) = IsBytes bytes
ConstantHasBytes (constant.Num n) = ⊤
ConstantHasBytes (constant.Code prim named) = ⊤

abbrev mutual
  -- the texts of a value, and the constants of its kind, consist of bytes, as the code's types ensure
  pub HasBytes : Kind → Value → Type 0
  HasBytes (Leaf l) v = TextHasBytes v
  HasBytes (Enum l names) v = ⊤
  HasBytes (Set p names) v = ⊤
  HasBytes (Const c) v = ConstantHasBytes c
  HasBytes (Comp' n members) v = RowHasBytes members (member_values v)

  -- the same for the values of a composite's members
  pub RowHasBytes : {n : _} → Row_of-Member n → Option (List Value) → Type 0
  RowHasBytes row None = ⊤
  RowHasBytes end_of-Member (Some vs) = ⊤
  RowHasBytes (more_of-Member name offset kind rest) (Some []) = ⊤
  RowHasBytes (more_of-Member name offset kind rest) (Some (v ∷ vs)) = HasBytes kind v × RowHasBytes rest (Some vs)

-- ---- values

-- the value of a kind, by the data under its name
abbrev pub read_under : Kind → Option Data → Reading Value
read_under kind found = there_or (lack kind) (λ d. kind_in kind d) found

-- The law: a value that fits its kind reads back from its data.
abbrev pub ValuesReadBack : Type 0
ValuesReadBack =
    (order : Order) (kind : Kind) (v : Value) → IsKindInOrder kind → HasBytes kind v → FitsKind order kind v
    → read_under kind (option_map as_read (value_data kind v)) ≡ Ok v
