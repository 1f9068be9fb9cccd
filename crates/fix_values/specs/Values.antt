-- The text of one value by its rule, and the value of one text. From the FIX tag-value encoding, datatypes int, float,
-- char, Boolean and String. Own profile: the refusals and their order, and that nothing is rounded.
use Rattle.std.specs.Prelude.{◌≡◌, ℕ, Bool, true, ◌&&◌, ◌==◌, nat_le, int_le, if◌then◌else◌, List, [], ◌∷◌, length, ℤ, pos, Option, Some, None, Result, Ok, Err}
use Rattle.std.specs.Fmt.{signed_decimal}
use Rattle.std.specs.List.{list_all}
use Rattle.sbe_types.specs.declared.kind.Leaf.{Leaf as LeafOf}
use Rattle.sbe_types.specs.Numbers.{natural}
use Rattle.sbe_types.specs.Shows.{is_text_byte}
use Rattle.fix_values.specs.declared.rule.V.{V}
use Rattle.fix_values.specs.declared.rule.V.TheVariants.{Spelling, Range, Soh, Empty}
use Rattle.fix_values.specs.declared.rule.Dec.{Dec}
use Rattle.fix_values.specs.declared.rule.NumRule.{NumRule}
use Rattle.fix_values.specs.declared.rule.NumRule.TheVariants as rule
use Rattle.fix_values.specs.declared.text.TheConstants.{SOH}
use Rattle.fix_values.specs.Numerals.{integer_of}
use Rattle.fix_values.specs.Decimals.{decimal_of, fitted, leaf_number}
use Rattle.fix_values.specs.Codes.{has_soh, code_text, code_number, set_text, set_number, boolean_shown, boolean_number, has_short_text, is_choice, is_apart, same_number, same_text, same_truth}

-- the text of a character: the byte of its number, unless it is SOH
abbrev pub char_text : ℕ → Result (List ℕ) V
char_text b = if b == SOH then Err Spelling else Ok (b ∷ [])

-- the text of a number by its rule
abbrev pub text_of : NumRule → ℤ → Result (List ℕ) V
text_of rule.Int n = Ok (signed_decimal n)
text_of rule.Decimal n = Ok (signed_decimal n)
text_of rule.Char n = char_text (natural n)
text_of (rule.Boolean names) n = boolean_shown names n
text_of (rule.Code codes) n = code_text codes n
text_of (rule.Codes codes) n = set_text codes (natural n)

-- a whole number that was spelled, or the refusal that there is none
abbrev pub spelled_number : Option ℤ → Result ℤ V
spelled_number None = Err Spelling
spelled_number (Some n) = Ok n

-- The number that a text spells, if it is one of the leaf's.
abbrev pub integer_value : LeafOf → List ℕ → Result ℤ V
integer_value leaf text = leaf_number leaf (spelled_number (integer_of text))

-- a decimal as a whole number of the leaf's, if it is one
abbrev pub whole_value : LeafOf → Result Dec V → Result ℤ V
whole_value leaf (Ok d) = fitted d leaf (pos 0)
whole_value leaf (Err v) = Err v

-- The character that a text is, if it is one of the leaf's.
abbrev pub char_value : LeafOf → List ℕ → Result ℤ V
char_value leaf [] = Err Spelling
char_value leaf (b ∷ []) = leaf_number leaf (Ok (pos b))
char_value leaf (b ∷ c ∷ bs) = Err Spelling

-- the number that a text spells by its rule, as one of the leaf's
abbrev pub value_of : NumRule → LeafOf → List ℕ → Result ℤ V
value_of rule.Int leaf text = integer_value leaf text
value_of rule.Decimal leaf text = whole_value leaf (decimal_of text)
value_of rule.Char leaf text = char_value leaf text
value_of (rule.Boolean names) leaf text = boolean_number names leaf text
value_of (rule.Code codes) leaf text = code_number codes leaf text
value_of (rule.Codes codes) leaf text = set_number codes text

-- numbers can be shown by the rule: its codes have texts of 1 to 64 bytes; those of a set have one byte each, and
-- different bits
abbrev pub can_show : NumRule → Bool
can_show rule.Int = true
can_show rule.Decimal = true
can_show rule.Char = true
can_show (rule.Boolean names) = true
can_show (rule.Code codes) = list_all has_short_text codes
can_show (rule.Codes codes) = list_all is_choice codes && is_apart same_number codes

-- texts can be read by the rule: in addition, no two codes or listed values have the same text
abbrev pub can_read : NumRule → Bool
can_read rule.Int = true
can_read rule.Decimal = true
can_read rule.Char = true
can_read (rule.Boolean names) = is_apart same_truth names
can_read (rule.Code codes) = list_all has_short_text codes && is_apart same_text codes
can_read (rule.Codes codes) = list_all is_choice codes && (is_apart same_number codes && is_apart same_text codes)

-- the rule may be asked for the number: a byte for a character, 64 bits for a set
abbrev pub is_asked : NumRule → ℤ → Bool
is_asked rule.Int n = true
is_asked rule.Decimal n = true
is_asked rule.Char n = int_le (pos 0) n && int_le n (pos 255)
is_asked (rule.Boolean names) n = true
is_asked (rule.Code codes) n = true
is_asked (rule.Codes codes) n = int_le (pos 0) n && int_le n (pos 18446744073709551615)

-- what a show call leaves: its answer, and the text if there is one, else nothing
abbrev pub Leaves : Result Unit V → List ℕ → Result (List ℕ) V → Type 0
Leaves answer written (Ok text) = (answer ≡ Ok tt) × (written ≡ text)
Leaves answer written (Err v) = (answer ≡ Err v) × (written ≡ [])

-- the answer for a text that is to be written: it mustn't be empty or contain SOH
abbrev pub text_shown : List ℕ → Result Unit V
text_shown [] = Err Empty
text_shown (b ∷ bs) = if has_soh (b ∷ bs) then Err Soh else Ok tt

-- the answer for a text read into a char array: it mustn't be longer than the array, and its bytes must be allowed
abbrev pub text_read : LeafOf → List ℕ → Result Unit V
text_read leaf text = if nat_le (length text) leaf.length then (if list_all (is_text_byte leaf) text then Ok tt else Err Spelling) else Err Range
