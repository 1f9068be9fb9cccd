-- The texts of listed values: codes, sets of codes and Booleans. From FIX Orchestra, code sets, and the FIX tag-value
-- encoding, datatypes MultipleCharValue and Boolean. Own profile: the order in which a set is shown, that no character
-- occurs twice, and that SOH in a code is refused.
use Rattle.std.specs.Prelude.{ℕ, ◌/◌, ◌%◌, ◌^◌, Bool, true, false, not, ◌&&◌, ◌||◌, ◌==◌, nat_eq, nat_lt, int_le, nat_le, if◌then◌else◌, List, [], ◌∷◌, length, map, codes, ℤ, pos, bytes_eq, find, filter, sum_by, Option, Some, None, Result, Ok, Err}
use Rattle.std.specs.List.{list_any, list_all, join_with_byte}
use Rattle.std.specs.Ordering.{int_eq}
use Rattle.sbe_types.specs.declared.kind.Leaf.{Leaf as LeafOf}
use Rattle.sbe_types.specs.declared.kind.Named.{Named}
use Rattle.sbe_types.specs.Numbers.{natural}
use Rattle.sbe_types.specs.Shown.{is_null, is_listed}
use Rattle.fix_values.specs.declared.rule.V.{V}
use Rattle.fix_values.specs.declared.rule.V.TheVariants.{Spelling, Soh, Empty, UnknownCode}
use Rattle.fix_values.specs.declared.rule.Code.{Code}
use Rattle.fix_values.specs.declared.rule.TheConstants.{MOST_BYTES}
use Rattle.fix_values.specs.declared.text.TheConstants.{SOH}

-- SOH, which ends a field, is among the bytes
abbrev pub has_soh : List ℕ → Bool
has_soh bytes = list_any (λ b. b == SOH) bytes

-- the text of a code that was found
abbrev pub found_text : Option Code → Result (List ℕ) V
found_text None = Err UnknownCode
found_text (Some code) = if has_soh code.text then Err Soh else Ok code.text

-- the text of the first code with this number
abbrev pub code_text : List Code → ℤ → Result (List ℕ) V
code_text codes n = found_text (find (λ code. int_eq code.number n) codes)

-- The number of a code that was found.
abbrev pub found_number : Option Code → Result ℤ V
found_number None = Err UnknownCode
found_number (Some code) = Ok code.number

-- the number of the code with exactly this text; the null of an optional leaf counts as not listed
abbrev pub code_number : List Code → LeafOf → List ℕ → Result ℤ V
code_number codes leaf text = found_number (find (λ code. bytes_eq code.text text && not (is_null leaf code.number)) codes)

-- the bit of a code
abbrev pub bit_of : Code → ℕ
bit_of code = 2 ^ natural code.number

-- whether a set's number has the bit of a code
abbrev pub has_bit : ℕ → Code → Bool
has_bit n code = n / bit_of code % 2 == 1

-- the codes of a set's bits, in the list's order
abbrev pub codes_in : List Code → ℕ → List Code
codes_in codes n = filter (has_bit n) codes

-- the sum of the bits of codes
abbrev pub bits_of : List Code → ℕ
bits_of codes = sum_by bit_of codes

-- the texts of codes, separated by spaces
abbrev pub spaced_texts : List Code → List ℕ
spaced_texts codes = join_with_byte 32 (map (λ code. code.text) codes)

-- the text of a set with the number n whose codes have the bits `shown`: each bit needs a code, and there must be at
-- least one
abbrev pub judged_set : ℕ → ℕ → List ℕ → Result (List ℕ) V
judged_set shown n text = if shown == n then (if length text == 0 then Err Empty else (if has_soh text then Err Soh else Ok text)) else Err UnknownCode

-- the text of a set
abbrev pub set_text : List Code → ℕ → Result (List ℕ) V
set_text codes n = judged_set (bits_of (codes_in codes n)) n (spaced_texts (codes_in codes n))

-- every other byte, beginning with the first or with the second
abbrev pub every_other : Bool → List ℕ → List ℕ
every_other here [] = []
every_other true (b ∷ bs) = b ∷ every_other false bs
every_other false (b ∷ bs) = every_other true bs

-- the characters of a set's text
abbrev pub characters : List ℕ → List ℕ
characters text = every_other true text

-- the number is in the list
abbrev pub is_among : ℕ → List ℕ → Bool
is_among n xs = list_any (nat_eq n) xs

-- no number occurs twice in the list
abbrev pub is_distinct : List ℕ → Bool
is_distinct [] = true
is_distinct (x ∷ xs) = not (is_among x xs) && is_distinct xs

-- the text of a set: characters separated by single spaces, none of them twice (FIX datatype MultipleCharValue)
abbrev pub is_set_text : List ℕ → Bool
is_set_text text = (length text % 2 == 1) && (list_all (λ b. b == 32) (every_other false text) && is_distinct (characters text))

-- the code whose text is this one character
abbrev pub is_code_of : ℕ → Code → Bool
is_code_of c code = bytes_eq code.text (c ∷ [])

-- whether a character has a code
abbrev pub has_code : List Code → ℕ → Bool
has_code codes c = list_any (is_code_of c) codes

-- whether the text of a code is one of the characters
abbrev pub is_named : List ℕ → Code → Bool
is_named cs code = list_any (λ c. is_code_of c code) cs

-- the number with the bits whose codes are named in a text
abbrev pub set_number : List Code → List ℕ → Result ℤ V
set_number codes text =
    let cs = characters text in
    if is_set_text text then (if list_all (has_code codes) cs then Ok (pos (bits_of (filter (is_named cs) codes))) else Err UnknownCode) else Err Spelling

-- the text of a truth value: `Y` for 1 or the character `Y`, `N` for 0 or the character `N` (FIX datatype Boolean)
abbrev pub boolean_text : ℤ → Option ℕ
boolean_text n = if int_eq n (pos 1) || int_eq n (pos 89) then Some 89 else (if int_eq n (pos 0) || int_eq n (pos 78) then Some 78 else None)

-- The text of a truth value that was found.
abbrev pub truth_text : Option ℕ → Result (List ℕ) V
truth_text None = Err UnknownCode
truth_text (Some b) = Ok (b ∷ [])

-- the text of a listed truth value
abbrev pub boolean_shown : List Named → ℤ → Result (List ℕ) V
boolean_shown names n = if is_listed names n then truth_text (boolean_text n) else Err UnknownCode

-- whether the text of a listed value is this byte
abbrev pub is_truth : ℕ → Option ℕ → Bool
is_truth b None = false
is_truth b (Some t) = b == t

-- The number of a listed value that was found.
abbrev pub named_number : Option Named → Result ℤ V
named_number None = Err UnknownCode
named_number (Some name) = Ok name.number

-- the listed number whose text is this byte; the null of an optional leaf counts as not listed
abbrev pub truth_number : List Named → LeafOf → ℕ → Result ℤ V
truth_number names leaf b = named_number (find (λ name. is_truth b (boolean_text name.number) && not (is_null leaf name.number)) names)

-- the listed number of the text of a truth value
abbrev pub boolean_number : List Named → LeafOf → List ℕ → Result ℤ V
boolean_number names leaf [] = Err Spelling
boolean_number names leaf (b ∷ []) = if b == 89 || b == 78 then truth_number names leaf b else Err Spelling
boolean_number names leaf (b ∷ c ∷ bs) = Err Spelling

-- the text of a code has 1 to 64 bytes
abbrev pub has_short_text : Code → Bool
has_short_text code = nat_lt 0 (length code.text) && nat_le (length code.text) MOST_BYTES

-- the text of a choice has one byte, and its number is one of the bits of a set
abbrev pub is_choice : Code → Bool
is_choice code = (length code.text == 1) && (int_le (pos 0) code.number && int_le code.number (pos 63))

-- no two elements agree by this test
abbrev pub is_apart : {X : Type 0} → (X → X → Bool) → List X → Bool
is_apart same [] = true
is_apart same (x ∷ xs) = not (list_any (same x) xs) && is_apart same xs

-- Two codes have the same number.
abbrev pub same_number : Code → Code → Bool
same_number a b = int_eq a.number b.number

-- Two codes have the same text.
abbrev pub same_text : Code → Code → Bool
same_text a b = bytes_eq a.text b.text

-- Two truth values are the same.
abbrev pub is_same_truth : Option ℕ → Option ℕ → Bool
is_same_truth None b = false
is_same_truth (Some t) b = is_truth t b

-- two listed values have the same text
abbrev pub same_truth : Named → Named → Bool
same_truth a b = is_same_truth (boolean_text a.number) (boolean_text b.number)
