-- The rules by which one part of an SBE message and one tag-value field stand for each other, each a row of the table
-- of kinds and datatypes. From SBE 1.0, Field encoding, and the FIX tag-value encoding, datatypes. Own profile: which
-- go together.
use Rattle.std.specs.Prelude.{ℕ, Bool, true, false, List, ℤ}
use Rattle.sbe_types.specs.declared.kind.Leaf.{Leaf as LeafOf}
use Rattle.sbe_types.specs.declared.message.Value.{Value}
use Rattle.sbe_types.specs.declared.kind.Named.{Named}
use Rattle.sbe_types.specs.declared.kind.Primitive.{Primitive}
use Rattle.sbe_types.specs.declared.kind.Primitive.TheVariants.{Char, I8, I16, I32, I64, U8, U16, U32, U64}
use Rattle.fix_values.specs.declared.rule.Code.{Code}

-- where a time is counted from
pub data From : Type 0 where
  from_1970 : From
  from_midnight : From

-- the unit of a moment: a constant, or a member of this type
pub data UnitBy : Type 0 where
  always : ℕ → UnitBy
  on_wire : LeafOf → UnitBy

-- the members of a month
pub record MonthLeaves : Type 0 where
  pub year : LeafOf
  pub month : LeafOf
  pub day : LeafOf
  pub week : LeafOf

-- the row of the table of kinds and datatypes that a part follows
pub data Rule : Type 0 where
  -- an integer as a whole number
  integer : LeafOf → Rule
  -- an integer as a decimal
  integer_decimal : LeafOf → Rule
  -- a decimal whose exponent is a constant: its mantissa's type, and the exponent
  fixed_decimal : LeafOf → ℤ → Rule
  -- a decimal whose exponent is on the wire: the types of both
  floating_decimal : LeafOf → LeafOf → Rule
  -- a char as a char or a text
  single_char : LeafOf → Rule
  -- a char array as a text
  char_array : LeafOf → Rule
  -- an enum as a code of a code set, or as a char or a text: its valid values, and their codes
  enum_code : LeafOf → List Named → List Code → Rule
  -- an enum as a whole number: its valid values, and the digits of each
  enum_number : LeafOf → List Named → List Code → Rule
  -- an enum as a Boolean
  enum_boolean : LeafOf → List Named → Rule
  -- a set: its choices, and their codes
  choice_set : List Named → List Code → Rule
  -- data, by the type of its length; its value here is the text of its bytes
  raw_data : LeafOf → Rule
  -- data as a text
  text_data : LeafOf → Rule
  -- an integer as a day
  day_count : LeafOf → Rule
  -- a time and its unit as a moment
  moment : From → LeafOf → UnitBy → Rule
  -- a year, a month, and a day or a week of it
  month_year : MonthLeaves → Rule
  -- any text
  any_text : Rule
  -- a constant, by the rule of the kind of its value, and that value
  constant : Rule → Value → Rule

-- the primitive is a character
abbrev pub is_char : Primitive → Bool
is_char Char = true
is_char I8 = false
is_char I16 = false
is_char I32 = false
is_char I64 = false
is_char U8 = false
is_char U16 = false
is_char U32 = false
is_char U64 = false
