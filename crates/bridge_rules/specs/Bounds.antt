-- What is required of a rule's types and codes so that the laws hold of it, and which kinds and datatypes have it:
-- those of a checked schema and of a mapping in order. Own profile.
use Rattle.std.specs.Prelude.{◌≡◌, ℕ, ◌<◌, ◌^◌, true, ⊤, List, ℤ, pos, unsigned_abs, Some, Ok, FitsSigned, Bool, ◌&&◌, nat_lt, nat_le, length}
use Rattle.std.specs.List.{list_all}
use Rattle.std.specs.Int.{w128}
use Rattle.sbe_types.specs.declared.kind.Leaf.{Leaf as LeafOf}
use Rattle.sbe_types.specs.declared.message.Value.{Value}
use Rattle.sbe_types.specs.Numbers.{natural}
use Rattle.fix_values.specs.declared.rule.Code.{Code}
use Rattle.fix_values.specs.Numerals.{integer_of, is_value}
use Rattle.fix_values.specs.Codes.{code_text, has_short_text, is_apart, is_choice, same_truth}
use Rattle.fix_values.specs.declared.rule.TheConstants.{MOST_BYTES}
use Rattle.bridge_rules.specs.Rules.{Rule, integer, integer_decimal, fixed_decimal, floating_decimal, single_char, char_array, enum_code, enum_number, enum_boolean, choice_set, raw_data, text_data, day_count, moment, month_year, any_text, constant}
use Rattle.bridge_rules.specs.Members.{same_value}
use Rattle.bridge_rules.specs.Items.{Item, digit_or_number, item_by}
use Rattle.bridge_rules.specs.Good.{Good}
use Rattle.bridge_rules.specs.Datatypes.{NamedCode, Datatype, code_set}
use Rattle.bridge_rules.specs.Sound.{IsShown, AreCodes}
use Rattle.bridge_rules.specs.Again.{CanRepeat}

-- each number of the type has at most 39 digits
abbrev pub IsNarrow : LeafOf → Type 0
IsNarrow leaf = (n : ℤ) → is_value leaf n ≡ true → unsigned_abs n < 10 ^ 39

-- no number of the type is negative
abbrev pub IsUnsigned : LeafOf → Type 0
IsUnsigned leaf = (n : ℤ) → is_value leaf n ≡ true → n ≡ pos (natural n)

-- the text of each code spells its number, or the digit that its character is
abbrev pub AreWrittenNumbers : LeafOf → List Code → Type 0
AreWrittenNumbers leaf codes = (n : ℤ) (t : List ℕ) → code_text codes n ≡ Ok t → integer_of t ≡ Some (digit_or_number leaf.prim n)

-- the constant is a value of its rule, and has an item
pub record IsOwnValue (rule : Rule) (own : Value) : Type 0 where
  pub good : Good rule own
  pub item : Item
  pub has : item_by rule own ≡ Some item
  pub same : same_value own own ≡ true

-- the types of a rule are narrow enough, and its codes short enough, that its laws hold
abbrev pub IsBounded : Rule → Type 0
IsBounded (integer leaf) = ⊤
IsBounded (integer_decimal leaf) = IsNarrow leaf
IsBounded (fixed_decimal leaf exponent) = IsNarrow leaf
IsBounded (floating_decimal leaf exponent) = IsNarrow leaf
IsBounded (single_char leaf) = IsUnsigned leaf
IsBounded (char_array leaf) = ⊤
IsBounded (enum_code leaf names codes) = AreCodes names codes
IsBounded (enum_number leaf names codes) = AreCodes names codes × AreWrittenNumbers leaf codes
IsBounded (enum_boolean leaf names) = is_apart same_truth names ≡ true
IsBounded (choice_set names codes) = AreCodes names codes × (list_all is_choice codes ≡ true)
IsBounded (raw_data leaf) = ⊤
IsBounded (text_data leaf) = ⊤
IsBounded (day_count leaf) = ⊤
IsBounded (moment from leaf unit) = ⊤
IsBounded (month_year leaves) = ⊤
IsBounded any_text = ⊤
IsBounded (constant rule own) = IsBounded rule × IsOwnValue rule own

-- each number of the type fits an i128, and has at most 38 digits
abbrev pub IsShort : LeafOf → Type 0
IsShort leaf = (n : ℤ) → is_value leaf n ≡ true → FitsSigned w128 n × (unsigned_abs n < 10 ^ 38)

-- what else is required of a rule, so that the texts it writes of good values have their items
abbrev pub CanShow : Rule → Type 0
CanShow (integer leaf) = IsShort leaf
CanShow (integer_decimal leaf) = IsShort leaf
CanShow (fixed_decimal leaf exponent) = IsShort leaf
CanShow (floating_decimal leaf exponent) = IsShort leaf
CanShow (single_char leaf) = ⊤
CanShow (char_array leaf) = ⊤
CanShow (enum_code leaf names codes) = list_all has_short_text codes ≡ true
CanShow (enum_number leaf names codes) = list_all has_short_text codes ≡ true
CanShow (enum_boolean leaf names) = ⊤
CanShow (choice_set names codes) = ⊤
CanShow (raw_data leaf) = ⊤
CanShow (text_data leaf) = ⊤
CanShow (day_count leaf) = ⊤
CanShow (moment from leaf unit) = ⊤
CanShow (month_year leaves) = ⊤
CanShow any_text = ⊤
CanShow (constant rule own) = IsShown rule own

-- the text of a code has 1 to 64 bytes
abbrev pub is_short : List ℕ → Bool
is_short t = nat_lt 0 (length t) && nat_le (length t) MOST_BYTES

-- what holds of a datatype of a mapping
abbrev pub IsMapped : Datatype → Type 0
IsMapped (code_set cs) = list_all (λ (c : NamedCode). is_short c.text) cs ≡ true
IsMapped d = ⊤

-- what the laws of messages require of a rule
abbrev pub IsFit : Rule → Type 0
IsFit rule = IsBounded rule × CanShow rule × CanRepeat rule
