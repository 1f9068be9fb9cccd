-- The table of kinds and datatypes: the rule by which a part of a template and the fields of a datatype stand for each
-- other. From SBE 1.0 and FIX Orchestra, datatypes and code sets. Own profile: which go together.
use Rattle.std.specs.Prelude.{ℕ, ◌+◌, Bool, true, false, not, ◌&&◌, ◌||◌, ◌==◌, int_le, if◌then◌else◌, List, [], ◌∷◌, ◌++◌, map, length, codes, ℤ, pos, negsuc, Option, Some, None, bytes_eq}
use Rattle.std.specs.Fmt.{signed_decimal}
use Rattle.std.specs.List.{list_any, list_all}
use Rattle.sbe_types.specs.declared.kind.Primitive.{Primitive}
use Rattle.sbe_types.specs.declared.kind.Primitive.TheVariants.{Char, I8, I16, I32, I64, U8, U16, U32, U64}
use Rattle.sbe_types.specs.declared.kind.Presence.TheVariants.{Required}
use Rattle.sbe_types.specs.declared.kind.LeafShape.TheVariants.{Number, RangedText, EncodedText, Octets, Numbers}
use Rattle.sbe_types.specs.declared.kind.LeafShape.{LeafShape}
use Rattle.sbe_types.specs.declared.kind.Leaf.{Leaf as LeafOf}
use Rattle.sbe_types.specs.declared.kind.Named.{Named}
use Rattle.sbe_types.specs.declared.kind.ConstValue.{ConstValue}
use Rattle.sbe_types.specs.declared.kind.ConstValue.TheVariants as const
use Rattle.sbe_types.specs.declared.kind.Member.{Member}
use Rattle.sbe_types.specs.declared.kind.Kind.{Kind, Leaf, Enum, Set, Const, Comp', items-the_row-Member}
use Rattle.sbe_types.specs.declared.message.Value as value
use Rattle.sbe_types.specs.declared.schema.DataField.{DataField}
use Rattle.sbe_types.specs.Numbers.{natural}
use Rattle.sbe_types.specs.Shown.{is_optional}
use Rattle.fix_values.specs.declared.rule.Code.{Code}
use Rattle.fix_values.specs.Codes.{is_apart, same_text, same_truth}
use Rattle.date_answers.specs.Answers.{is_unit}
use Rattle.bridge_rules.specs.Rules.{From, from_1970, from_midnight, always, on_wire, Rule, integer, integer_decimal, fixed_decimal, floating_decimal, single_char, char_array, enum_code, enum_number, enum_boolean, choice_set, raw_data, text_data, day_count, moment, month_year, any_text, constant, is_char}
use Rattle.bridge_rules.specs.Members.{and_then}
use Rattle.bridge_rules.specs.Datatypes.{NamedCode, Datatype, whole_number, decimal_number, character, text, boolean, timestamp, time_of_day, calendar_day, month_of_year, raw, code_set, character_set}

-- the rule, if the condition holds
abbrev pub rule_if : Bool → Rule → Option Rule
rule_if true rule = Some rule
rule_if false rule = None

-- the shape is one number, not a text or array
abbrev pub is_number : LeafShape → Bool
is_number Number = true
is_number RangedText = false
is_number EncodedText = false
is_number Octets = false
is_number Numbers = false

-- an array of characters
abbrev pub is_array : LeafShape → Bool
is_array RangedText = true
is_array EncodedText = true
is_array Number = false
is_array Octets = false
is_array Numbers = false

-- a single integer
abbrev pub is_integer : LeafOf → Bool
is_integer leaf = is_number leaf.shape && not (is_char leaf.prim)

-- a single character
abbrev pub is_char_leaf : LeafOf → Bool
is_char_leaf leaf = is_number leaf.shape && is_char leaf.prim

-- the rule of a character or an array of them, as a text
abbrev pub text_rule : LeafOf → Option Rule
text_rule leaf = if is_char_leaf leaf then Some (single_char leaf) else rule_if (is_array leaf.shape) (char_array leaf)

-- the rule of a single number, a character or an array of characters
abbrev pub leaf_rule : LeafOf → Datatype → Option Rule
leaf_rule leaf whole_number = rule_if (is_integer leaf) (integer leaf)
leaf_rule leaf decimal_number = rule_if (is_integer leaf) (integer_decimal leaf)
leaf_rule leaf calendar_day = rule_if (is_integer leaf) (day_count leaf)
leaf_rule leaf character = rule_if (is_char_leaf leaf) (single_char leaf)
leaf_rule leaf text = text_rule leaf
leaf_rule leaf other = None

-- the text of an enum's number itself
abbrev pub number_text : Primitive → ℤ → List ℕ
number_text prim n = if is_char prim then natural n ∷ [] else signed_decimal n

-- the text of the code with this name
abbrev pub named_text : List NamedCode → List ℕ → Option (List ℕ)
named_text [] name = None
named_text (c ∷ cs) name = if bytes_eq c.name name then Some c.text else named_text cs name

-- the code of a valid value with this text
abbrev pub code_with : Named → List ℕ → Code
code_with name t = record { number = name.number; text = t }

-- the code of a valid value: the one with its name, or else the one whose text is that of its number
abbrev pub code_of : Primitive → List NamedCode → Named → Option (List ℕ) → List Code
code_of prim codes name (Some t) = code_with name t ∷ []
code_of prim codes name None =
    if list_any (λ c. bytes_eq c.text (number_text prim name.number)) codes then code_with name (number_text prim name.number) ∷ [] else []

-- the codes of valid values, in their order
abbrev pub codes_of : Primitive → List NamedCode → List Named → List Code
codes_of prim codes [] = []
codes_of prim codes (name ∷ names) = code_of prim codes name (named_text codes name.name) ++ codes_of prim codes names

-- each valid value with the text of its number
abbrev pub number_codes : Primitive → List Named → List Code
number_codes prim names = map (λ name. code_with name (number_text prim name.number)) names

-- the code of a set's choice, which is found only by its name
abbrev pub choice_code : Named → Option (List ℕ) → List Code
choice_code name None = []
choice_code name (Some t) = code_with name t ∷ []

-- the codes of choices, in their order
abbrev pub choice_codes : List NamedCode → List Named → List Code
choice_codes codes [] = []
choice_codes codes (name ∷ names) = choice_code name (named_text codes name.name) ++ choice_codes codes names

-- the character of a valid value is a digit
abbrev pub is_digit : Named → Bool
is_digit name = int_le (pos 48) name.number && int_le name.number (pos 57)

-- the rule of an enum by the codes of its valid values, if no two have the same text
abbrev pub by_codes : (LeafOf → List Named → List Code → Rule) → LeafOf → List Named → List Code → Option Rule
by_codes rule leaf names codes = rule_if (is_apart same_text codes) (rule leaf names codes)

-- the rule of an enum: by the codes of a code set, by the values themselves, or as a Boolean
abbrev pub enum_rule : LeafOf → List Named → Datatype → Option Rule
enum_rule leaf names (code_set codes) = by_codes enum_code leaf names (codes_of leaf.prim codes names)
enum_rule leaf names character = by_codes enum_code leaf names (number_codes leaf.prim names)
enum_rule leaf names text = by_codes enum_code leaf names (number_codes leaf.prim names)
enum_rule leaf names whole_number = if not (is_char leaf.prim) || list_all is_digit names then by_codes enum_number leaf names (number_codes leaf.prim names) else None
enum_rule leaf names boolean = rule_if (is_apart same_truth names) (enum_boolean leaf names)
enum_rule leaf names other = None

-- the rule of a set: each code is one character, and no two choices have the same one
abbrev pub set_rule : List Named → Datatype → Option Rule
set_rule names (character_set codes) =
    rule_if (list_all (λ (c : NamedCode). length c.text == 1) codes && is_apart same_text (choice_codes codes names)) (choice_set names (choice_codes codes names))
set_rule names other = None

-- the composite has exactly these members
abbrev pub are_named : List (List ℕ) → List Member → Bool
are_named [] [] = true
are_named [] (m ∷ ms) = false
are_named (name ∷ names) [] = false
are_named (name ∷ names) (m ∷ ms) = bytes_eq m.name name && are_named names ms

-- the number of a constant, if it has one
abbrev pub const_number : ConstValue → Option ℤ
const_number (const.Num n) = Some n
const_number (const.Text t) = None
const_number (const.Code prim name) = Some name.number

-- the rule of a mantissa and an exponent
abbrev pub decimal_by : List Kind → Option Rule
decimal_by (Leaf m ∷ Const (const.Num e) ∷ []) = rule_if (is_integer m) (fixed_decimal m e)
decimal_by (Leaf m ∷ Leaf e ∷ []) = rule_if (is_integer m && is_integer e) (floating_decimal m e)
decimal_by kinds = None

-- the primitive is uint8
abbrev pub is_byte_type : Primitive → Bool
is_byte_type U8 = true
is_byte_type Char = false
is_byte_type I8 = false
is_byte_type I16 = false
is_byte_type I32 = false
is_byte_type I64 = false
is_byte_type U16 = false
is_byte_type U32 = false
is_byte_type U64 = false

-- a single uint8
abbrev pub is_single_byte : LeafOf → Bool
is_single_byte leaf = is_number leaf.shape && is_byte_type leaf.prim

-- the rule of a time in a constant unit
abbrev pub constant_unit : From → LeafOf → Option ℤ → Option Rule
constant_unit from time None = None
constant_unit from time (Some u) = rule_if (is_integer time && (int_le (pos 0) u && is_unit (natural u))) (moment from time (always (natural u)))

-- the rule of a time and its unit
abbrev pub moment_by : From → List Kind → Option Rule
moment_by from (Leaf time ∷ Const c ∷ []) = constant_unit from time (const_number c)
moment_by from (Leaf time ∷ Leaf unit ∷ []) = rule_if (is_integer time && (is_single_byte unit && not (is_optional unit.presence))) (moment from time (on_wire unit))
moment_by from kinds = None

-- a single uint8 that may be null
abbrev pub is_optional_byte : LeafOf → Bool
is_optional_byte leaf = is_single_byte leaf && is_optional leaf.presence

-- the rule of a year, a month, a day and a week
abbrev pub month_by : List Kind → Option Rule
month_by (Leaf y ∷ Leaf m ∷ Leaf d ∷ Leaf w ∷ []) =
    rule_if (is_integer y && (is_integer m && (is_optional_byte d && is_optional_byte w))) (month_year (record { year = y; month = m; day = d; week = w }))
month_by kinds = None

-- the kinds of members
abbrev pub kinds_of : List Member → List Kind
kinds_of ms = map (λ (m : Member). m.kind) ms

-- the rule of a composite: a decimal, a moment, a time of day or a month, by the names of its members
abbrev pub composite_rule : List Member → Datatype → Option Rule
composite_rule ms decimal_number = if are_named (codes "mantissa" ∷ codes "exponent" ∷ []) ms then decimal_by (kinds_of ms) else None
composite_rule ms timestamp = if are_named (codes "time" ∷ codes "unit" ∷ []) ms then moment_by from_1970 (kinds_of ms) else None
composite_rule ms time_of_day = if are_named (codes "time" ∷ codes "unit" ∷ []) ms then moment_by from_midnight (kinds_of ms) else None
composite_rule ms month_of_year = if are_named (codes "year" ∷ codes "month" ∷ codes "day" ∷ codes "week" ∷ []) ms then month_by (kinds_of ms) else None
composite_rule ms other = None

-- a type that admits every number of an i128
abbrev pub every_number : Primitive → LeafOf
every_number prim = record { prim = prim; length = 1; shape = Number; presence = Required; null = pos 0; low = negsuc 170141183460469231731687303715884105727; high = pos 170141183460469231731687303715884105727 }

-- a type that admits every byte, and the byte b
abbrev pub every_byte : ℕ → LeafOf
every_byte b = record { prim = Char; length = 1; shape = Number; presence = Required; null = pos 0; low = pos 0; high = pos (255 + b) }

-- the rule of a constant text
abbrev pub text_constant : List ℕ → Datatype → Option Rule
text_constant t text = Some (constant any_text (value.Text t))
text_constant (b ∷ []) character = Some (constant (single_char (every_byte b)) (value.Num (pos b)))
text_constant t other = None

-- the rule of a constant number
abbrev pub number_constant : ℤ → Datatype → Option Rule
number_constant n whole_number = Some (constant (integer (every_number I64)) (value.Num n))
number_constant n decimal_number = Some (constant (integer_decimal (every_number I64)) (value.Num n))
number_constant n calendar_day = Some (constant (day_count (every_number I64)) (value.Num n))
number_constant n other = None

-- a constant counts as the kind of its value
abbrev pub const_rule : ConstValue → Datatype → Option Rule
const_rule (const.Num n) d = number_constant n d
const_rule (const.Text t) d = text_constant t d
const_rule (const.Code prim name) d = and_then (enum_rule (every_number prim) (name ∷ []) d) (λ rule. Some (constant rule (value.Enum name.number)))

-- the rule of a kind and a datatype, if the table has one
abbrev pub rule_of : Kind → Datatype → Option Rule
rule_of (Leaf l) d = leaf_rule l d
rule_of (Enum l names) d = enum_rule l names d
rule_of (Comp' n members) d = composite_rule (items-the_row-Member _ members) d
rule_of (Set p names) d = set_rule names d
rule_of (Const c) d = const_rule c d

-- the same for data
abbrev pub data_rule : DataField → Datatype → Option Rule
data_rule part raw = Some (raw_data part.length)
data_rule part text = Some (text_data part.length)
data_rule part other = None
