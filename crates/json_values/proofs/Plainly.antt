-- Bytes that stand for themselves, and digits to the base 16.
use Rattle.std.proofs.Common.{◌≡◌, ℕ, zero, suc, length, take, drop, nat_lt, ◌<◌, ◌≤◌, ◌*◌, ◌/◌, ◌%◌, ◌==◌, ◌&&◌, Bool, true, false, List, [], ◌∷◌, ◌++◌, slice_index, refl, sym, ap, ap₂, ◌∙◌, arith, append_assoc, inl, inr}
use Rattle.std.specs.Prelude.{codes}
use Rattle.std.specs.List.{list_all}
use Rattle.std.proofs.lemmas.Bool.{and_parts, cases_lt, eqb-true, agree_below_at}
use Rattle.std.proofs.lemmas.Slice.Eq.{bytes_eq-Decides}
use Rattle.std.specs.Str.{bytes_eq}
use Rattle.std.proofs.lemmas.Bool.Decides.{nat_tests}
use Rattle.hex.specs.Hex.{encode_with, encode_lower, lower_digits}
use Rattle.std.specs.Char.{digit_char}
use Rattle.json.specs.Print.{escape, escape_byte, escape_letter}
use Rattle.serde_json.specs.Data.{string}
use Rattle.json_values.specs.Values.{text_data, hex, hex_pairs, is_printable}
use Rattle.sbe_types.specs.InForm.{is_letter, is_name_byte}
use Rattle.json_values.specs.Names.{NamesStand}
use Rattle.json_values.specs.Plain.{plain_text, is_plain_byte}
use Rattle.sbe_base.specs.Objects.{Object}
use Rattle.printers.specs.Prints.{Prints}
use Rattle.printers.specs.declared.printer.Printer.{Printer}
use Rattle.printers.proofs.Printing.{reprinted}

plain_byte : (b : ℕ) → is_plain_byte b ≡ true → escape_byte b ≡ b ∷ []
unfolding escape_byte
plain_byte b h = grind (arith, nat_tests)

pub plain_stands : (bytes : List ℕ) → list_all is_plain_byte bytes ≡ true → escape bytes ≡ bytes
plain_stands [] h = refl
plain_stands (b ∷ bs) h =
    let parts = and_parts (is_plain_byte b) (list_all is_plain_byte bs) h in
    ap₂ (λ (x y : List ℕ). x ++ y) (plain_byte b parts.0) (plain_stands bs parts.1)

printable_too : (bytes : List ℕ) → list_all is_plain_byte bytes ≡ true → list_all is_printable bytes ≡ true
printable_too [] h = refl
printable_too (b ∷ bs) h =
    let parts = and_parts (is_plain_byte b) (list_all is_plain_byte bs) h in
    let byte = and_parts (is_printable b) _ parts.0 in
    ap₂ (λ x y. x && y) byte.0 (printable_too bs parts.1)

-- bytes that stand for themselves, between quotes
pub quoted_plain : (bytes : List ℕ) → list_all is_plain_byte bytes ≡ true → codes "\"" ++ (bytes ++ codes "\"") ≡ plain_text (string bytes)
quoted_plain bytes h = ap (λ s. 34 ∷ (s ++ 34 ∷ [])) (sym (plain_stands bytes h))

string_by : (bytes : List ℕ) → list_all is_printable bytes ≡ true → plain_text (string bytes) ≡ plain_text (text_data bytes)
string_by bytes h = rw h

hex_by : (bytes : List ℕ) → list_all is_printable bytes ≡ false → plain_text (hex bytes) ≡ plain_text (text_data bytes)
hex_by bytes h = rw h

-- a text whose bytes stand for themselves
pub shows_plain : {O : Type 0} {state : O → Object (List ℕ)} {a b : Printer O} (bytes : List ℕ) → list_all is_plain_byte bytes ≡ true → Prints state a b (plain_text (string bytes)) → Prints state a b (plain_text (text_data bytes))
shows_plain bytes h w = reprinted (string_by bytes (printable_too bytes h)) w

-- a text of printable bytes
pub shows_printable : {O : Type 0} {state : O → Object (List ℕ)} {a b : Printer O} (bytes : List ℕ) → list_all is_printable bytes ≡ true → Prints state a b (plain_text (string bytes)) → Prints state a b (plain_text (text_data bytes))
shows_printable bytes h w = reprinted (string_by bytes h) w

-- any other text
pub shows_hex : {O : Type 0} {state : O → Object (List ℕ)} {a b : Printer O} (bytes : List ℕ) → list_all is_printable bytes ≡ false → Prints state a b (plain_text (hex bytes)) → Prints state a b (plain_text (text_data bytes))
shows_hex bytes h w = reprinted (hex_by bytes h) w

-- ---- digits to the base 16

-- a test of the first n places
abbrev pub all_below : (ℕ → Bool) → ℕ → Bool
all_below p zero = true
all_below p (suc n) = p n && all_below p n

pub below_at : (p : ℕ → Bool) (n k : ℕ) → all_below p n ≡ true → k < n → p k ≡ true
below_at p zero k h lt = absurd (omega arith)
below_at p (suc n) k h lt =
    let parts = and_parts (p n) (all_below p n) h in
    elim (cases_lt k n) [
      | inl below ↦ below_at p n k parts.1 below
      | inr top ↦
          let e : k ≡ n = omega arith in
          rw e parts.0
    ]

digit_plain : (n : ℕ) → n < 16 → is_plain_byte (slice_index lower_digits n) ≡ true
digit_plain n h = below_at (λ d. is_plain_byte (slice_index lower_digits d)) 16 n refl h

pub digits_plain : (bytes : List ℕ) → ((i : ℕ) → slice_index bytes i < 256) → list_all is_plain_byte (encode_lower bytes) ≡ true
unfolding encode_with
digits_plain [] h = refl
digits_plain (b ∷ bs) h =
    let byte : b < 256 = h 0 in
    let rest = digits_plain bs (λ i. h (suc i)) in
    ap₂ (λ x y. x && y) (digit_plain (b / 16) (omega (arith, byte))) (ap₂ (λ x y. x && y) (digit_plain (b % 16) (omega arith)) rest)

-- bytes in an object, by their digits
pub hex_is : (bytes : List ℕ) → ((i : ℕ) → slice_index bytes i < 256) → codes "{\"hex\":\"" ++ (encode_lower bytes ++ codes "\"}") ≡ plain_text (hex bytes)
hex_is bytes h =
    let stands = plain_stands (encode_lower bytes) (digits_plain bytes h) in
    ap (λ s. codes "{\"hex\":\"" ++ s) (sym (append_assoc (encode_lower bytes) (34 ∷ []) (125 ∷ [])) ∙ ap (λ s. (s ++ 34 ∷ []) ++ 125 ∷ []) (sym stands))

pub digits_next : (b : ℕ) (bs : List ℕ) → encode_lower (b ∷ bs) ≡ encode_lower (b ∷ []) ++ encode_lower bs
unfolding encode_with
digits_next b bs = refl

pub no_digits : [] ≡ encode_lower []
unfolding encode_with
no_digits = refl

digit_is : (n : ℕ) → n < 16 → slice_index lower_digits n ≡ digit_char n
digit_is n h = eqb-true _ _ (below_at (λ d. slice_index lower_digits d == digit_char d) 16 n refl h)

-- the escape of a byte below a space
pub control_is : (byte high low : ℕ) → byte < 256 → high ≡ slice_index lower_digits (byte / 16) → low ≡ slice_index lower_digits (byte % 16)
    → 92 ∷ 117 ∷ 48 ∷ 48 ∷ high ∷ low ∷ [] ≡ 92 ∷ 117 ∷ 48 ∷ 48 ∷ digit_char (byte / 16) ∷ digit_char (byte % 16) ∷ []
control_is byte high low within h l =
    ap₂ (λ (x y : ℕ). 92 ∷ 117 ∷ 48 ∷ 48 ∷ x ∷ y ∷ []) (h ∙ digit_is (byte / 16) (omega (arith, within))) (l ∙ digit_is (byte % 16) (omega arith))

-- ---- escapes

by_letter : (byte : ℕ) → 0 < escape_letter byte → 92 ∷ escape_letter byte ∷ [] ≡ escape_byte byte
unfolding escape_byte
by_letter byte h = grind (arith, nat_tests)

by_number : (byte : ℕ) → escape_letter byte ≤ 0 → byte < 32 → 92 ∷ 117 ∷ 48 ∷ 48 ∷ digit_char (byte / 16) ∷ digit_char (byte % 16) ∷ [] ≡ escape_byte byte
unfolding escape_byte
by_number byte h k = grind (arith, nat_tests)

by_itself : (byte : ℕ) → escape_letter byte ≤ 0 → 32 ≤ byte → byte ∷ [] ≡ escape_byte byte
unfolding escape_byte
by_itself byte h k = grind (arith, nat_tests)

pub escapes_short : {O : Type 0} {state : O → Object (List ℕ)} {a b : Printer O} (byte letter : ℕ) → letter ≡ escape_letter byte → 0 < letter → Prints state a b (92 ∷ letter ∷ []) → Prints state a b (escape_byte byte)
escapes_short byte letter is h w = reprinted (ap (λ (l : ℕ). 92 ∷ l ∷ []) is ∙ by_letter byte (omega (arith, is, h))) w

pub escapes_control : {O : Type 0} {state : O → Object (List ℕ)} {a b : Printer O} (byte letter : ℕ) → letter ≡ escape_letter byte → letter ≤ 0 → byte < 32
    → Prints state a b (92 ∷ 117 ∷ 48 ∷ 48 ∷ digit_char (byte / 16) ∷ digit_char (byte % 16) ∷ []) → Prints state a b (escape_byte byte)
escapes_control byte letter is h k w = reprinted (by_number byte (omega (arith, is, h)) k) w

pub escapes_none : {O : Type 0} {state : O → Object (List ℕ)} {a b : Printer O} (byte letter : ℕ) → letter ≡ escape_letter byte → letter ≤ 0 → 32 ≤ byte → Prints state a b (byte ∷ []) → Prints state a b (escape_byte byte)
escapes_none byte letter is h k w = reprinted (by_itself byte (omega (arith, is, h)) k) w

-- ---- names

name_byte : (b : ℕ) → is_name_byte b ≡ true → is_plain_byte b ≡ true
name_byte b h = grind (arith, nat_tests)

name_bytes : (name : List ℕ) → list_all is_name_byte name ≡ true → list_all is_plain_byte name ≡ true
name_bytes [] h = refl
name_bytes (b ∷ bs) h =
    let parts = and_parts (is_name_byte b) (list_all is_name_byte bs) h in
    ap₂ (λ x y. x && y) (name_byte b parts.0) (name_bytes bs parts.1)

pub names_stand : NamesStand
names_stand name h =
    let all = and_parts (nat_lt 0 (length name) && is_letter (slice_index name 0)) (list_all is_name_byte name) h.form in
    plain_stands name (name_bytes name all.1)

-- the digits of a byte, in the table
pub hex_pair_there : (n : ℕ) → n < 256 → take 2 (drop (2 * n) hex_pairs) ≡ encode_lower (n ∷ [])
unfolding encode_with
hex_pair_there n h =
    (bytes_eq-Decides (take 2 (drop (2 * n) hex_pairs)) (encode_lower (n ∷ []))).0
    (agree_below_at (λ k. bytes_eq (take 2 (drop (2 * k) hex_pairs)) (encode_lower (k ∷ []))) (λ k. true) 256 n refl h)
