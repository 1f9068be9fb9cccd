-- The codes and datatypes of a mapping, as the code represents them.
use Rattle.std.specs.Prelude.{◌≡◌, ◌<◌, true, List, [], ◌∷◌, map, Option, Some, None}
use Rattle.sbe_types.specs.declared.kind.Named.{Named}
use Rattle.sbe_types.specs.declared.kind.Primitive.{Primitive}
use Rattle.sbe_types.specs.Numbers.{natural}
use Rattle.map_types.specs.declared.tree.CodeEl.{CodeEl}
use Rattle.bridge_rules.specs.Rules.{is_char}
use Rattle.bridge_rules.specs.Datatypes.{NamedCode, Datatype, whole_number, decimal_number, character, text, boolean, timestamp, time_of_day, calendar_day, month_of_year, raw, code_set, character_set, unbridged}
use Rattle.bridge_table.specs.declared.datatype.Datatype.{Datatype as FieldDatatype}
use Rattle.bridge_table.specs.declared.datatype.Datatype.TheVariants as given

-- a code of a code set: its name, and its value as its text
abbrev pub named_code : CodeEl → NamedCode
named_code c = record { name = c.name; text = c.value }

-- the codes of a code set
abbrev pub named_codes : List CodeEl → List NamedCode
named_codes codes = map named_code codes

-- the datatype that a value of the code represents
abbrev pub datatype_of_row : FieldDatatype → Datatype
datatype_of_row given.WholeNumber = whole_number
datatype_of_row given.DecimalNumber = decimal_number
datatype_of_row given.Character = character
datatype_of_row given.Text = text
datatype_of_row given.Boolean = boolean
datatype_of_row given.Timestamp = timestamp
datatype_of_row given.TimeOfDay = time_of_day
datatype_of_row given.CalendarDay = calendar_day
datatype_of_row given.MonthOfYear = month_of_year
datatype_of_row given.Raw = raw
datatype_of_row (given.CodeSet table) = code_set (named_codes table)
datatype_of_row (given.CharacterSet table) = character_set (named_codes table)
datatype_of_row given.Unbridged = unbridged

-- a list of one item, or of none
abbrev pub option_list : {X : Type 0} → Option X → List X
option_list None = []
option_list (Some x) = x ∷ []

-- if the valid value is a character, its number is a byte
abbrev pub IsByteOf : Primitive → Named → Type 0
IsByteOf prim name = is_char prim ≡ true → natural name.number < 256
