-- Texts and numbers read back.
use Rattle.std.proofs.Common.{◌≡◌, ℕ, Bool, true, false, cond, ◌&&◌, List, [], ◌∷◌, Some, Ok, ℤ, pos, negsuc, refl, ap, arith}
use Rattle.std.specs.Prelude.{int_le, nat_le, nat_lt, IsAscii, codes, length, slice_index}
use Rattle.std.specs.List.{list_all}
use Rattle.std.specs.Str.{IsUtf8}
use Rattle.std.proofs.lemmas.Bool.{and_parts}
use Rattle.std.proofs.lemmas.Bool.Decides.{nat_tests}
use Rattle.std.proofs.lemmas.Int.{ints}
use borrow.Author.Tests.{ltb-true}
use Rattle.std.proofs.lemmas.Str.{IsUtf8-from_ascii}
use Rattle.std.proofs.lemmas.Str.Ascii.{IsAscii-nil, IsAscii-cons}
use Rattle.json.proofs.Printed.Utf8.{are_ascii, IsUtf8-are_ascii}
use Rattle.hex.specs.Hex.{encode_lower, lower_digits}
use Rattle.hex.proofs.HexLemmas.{decode_of-encode_lower, IsAscii-encode_with}
use Rattle.byte_digits.specs.Digits.{IsBytes}
use Rattle.serde_json.specs.Data.{number, string}
use Rattle.serde_json.specs.Find.{of_integer}
use Rattle.sbe_types.specs.declared.kind.Primitive.{Primitive}
use Rattle.sbe_types.specs.declared.kind.Primitive.TheVariants.{Char, I8, I16, I32, I64, U8, U16, U32, U64}
use Rattle.sbe_types.specs.declared.kind.Leaf.{Leaf as LeafOf}
use Rattle.sbe_types.specs.InForm.{IsName, is_letter, is_name_byte}
use Rattle.sbe_types.specs.Shown.{admits}
use Rattle.schema_rules.specs.Ranges.{is_number_of}
use Rattle.json_values.specs.Values.{text_data, hex, is_printable}
use Rattle.line_values.specs.Objects.{bytes_in, decoded}
use Rattle.line_laws.specs.AsRead.{as_read, IsInteger}
use Rattle.line_laws.proofs.Shown.{IsPrinted}

-- ---- texts

text_by : (bytes : List ℕ) (t : Bool) → IsBytes bytes → bytes_in (as_read (cond t (string bytes) (hex bytes))) ≡ Ok bytes
text_by bytes true h = refl
text_by bytes false h = ap decoded (decode_of-encode_lower bytes h)

-- the bytes of a text read back, as a string or by their digits
pub text_back : (bytes : List ℕ) → IsBytes bytes → bytes_in (as_read (text_data bytes)) ≡ Ok bytes
text_back bytes h = text_by bytes (list_all is_printable bytes) h

seen_ascii : (bytes : List ℕ) → list_all is_printable bytes ≡ true → are_ascii bytes ≡ true
seen_ascii [] h = refl
seen_ascii (b ∷ bs) h =
    let two = and_parts (is_printable b) (list_all is_printable bs) h in
    let low = and_parts (nat_le 32 b) (nat_le b 126) two.0 in
    let small : nat_lt b 128 ≡ true = grind (arith, nat_tests) in
    rw small (seen_ascii bs two.1)

all_below : (xs : List ℕ) → are_ascii xs ≡ true → IsAscii xs
all_below [] h = IsAscii-nil
all_below (x ∷ xs) h = let two = and_parts _ _ h in IsAscii-cons x xs (ltb-true _ _ two.0) (all_below xs two.1)

digits_text : (bytes : List ℕ) → IsUtf8 (encode_lower bytes)
digits_text bytes = IsUtf8-from_ascii (encode_lower bytes) (IsAscii-encode_with lower_digits bytes (all_below lower_digits refl))

key_text : IsUtf8 (codes "hex")
key_text = IsUtf8-are_ascii (codes "hex") refl

printed_by : (bytes : List ℕ) (t : Bool) → list_all is_printable bytes ≡ t → IsPrinted 1 (Some (cond t (string bytes) (hex bytes)))
printed_by bytes true h = record { integers = tt; texts = IsUtf8-are_ascii bytes (seen_ascii bytes h); deep = omega arith }
printed_by bytes false h = record { integers = (tt, tt); texts = (key_text, digits_text bytes, tt); deep = omega arith }

pub text_printed : (bytes : List ℕ) → IsPrinted 1 (Some (text_data bytes))
text_printed bytes = printed_by bytes (list_all is_printable bytes) refl

-- ---- numbers

-- a number of 64 bits, signed or not
abbrev pub IsKept : ℤ → Type 0
IsKept n = IsInteger (of_integer n)

kept_between : (low high n : ℤ) → int_le (negsuc 9223372036854775807) low ≡ true → int_le high (pos 18446744073709551615) ≡ true → int_le low n ≡ true → int_le n high ≡ true → IsKept n
kept_between low high (pos n) a b c d = grind (arith, ints, nat_tests)
kept_between low high (negsuc n) a b c d = grind (arith, ints, nat_tests)

-- a number of a primitive
pub number_kept : (p : Primitive) (n : ℤ) → is_number_of p n ≡ true → IsKept n
number_kept Char n h = let two = and_parts _ _ h in kept_between (pos 0) (pos 255) n refl refl two.0 two.1
number_kept I8 n h = let two = and_parts _ _ h in kept_between (negsuc 127) (pos 127) n refl refl two.0 two.1
number_kept I16 n h = let two = and_parts _ _ h in kept_between (negsuc 32767) (pos 32767) n refl refl two.0 two.1
number_kept I32 n h = let two = and_parts _ _ h in kept_between (negsuc 2147483647) (pos 2147483647) n refl refl two.0 two.1
number_kept I64 n h = let two = and_parts _ _ h in kept_between (negsuc 9223372036854775807) (pos 9223372036854775807) n refl refl two.0 two.1
number_kept U8 n h = let two = and_parts _ _ h in kept_between (pos 0) (pos 255) n refl refl two.0 two.1
number_kept U16 n h = let two = and_parts _ _ h in kept_between (pos 0) (pos 65535) n refl refl two.0 two.1
number_kept U32 n h = let two = and_parts _ _ h in kept_between (pos 0) (pos 4294967295) n refl refl two.0 two.1
number_kept U64 n h = let two = and_parts _ _ h in kept_between (pos 0) (pos 18446744073709551615) n refl refl two.0 two.1

within : (least low n high most : ℤ) → (int_le least low && int_le low most) ≡ true → (int_le least high && int_le high most) ≡ true → (int_le low n && int_le n high) ≡ true → (int_le least n && int_le n most) ≡ true
within least low n high most a b c =
    let p = and_parts _ _ a in
    let q = and_parts _ _ b in
    let r = and_parts _ _ c in
    let x = int_le_join least low n p.0 r.0 in
    let y = int_le_join n high most r.1 q.1 in
    rw (x, y) refl
  where
    int_le_join : (a b c : ℤ) → int_le a b ≡ true → int_le b c ≡ true → int_le a c ≡ true
    int_le_join a b c h k = grind (arith, ints, nat_tests)

-- a number in the range of a leaf is one of its primitive's
pub admitted_kept : (l : LeafOf) (n : ℤ) → is_number_of l.prim l.low ≡ true → is_number_of l.prim l.high ≡ true → admits l n ≡ true → IsKept n
admitted_kept l n low high h = number_kept l.prim n (within _ l.low n l.high _ low high h)

pub number_printed : (n : ℤ) → IsKept n → IsPrinted 1 (Some (number (of_integer n)))
number_printed n h = record { integers = h; texts = tt; deep = omega arith }

-- ---- names

name_byte : (c : ℕ) → is_name_byte c ≡ true → nat_lt c 128 ≡ true
name_byte c h = grind (arith, nat_tests)

name_bytes : (name : List ℕ) → list_all is_name_byte name ≡ true → are_ascii name ≡ true
name_bytes [] h = refl
name_bytes (c ∷ cs) h = let two = and_parts (is_name_byte c) (list_all is_name_byte cs) h in rw (name_byte c two.0) (name_bytes cs two.1)

-- a name is UTF-8
pub name_text : (name : List ℕ) → IsName name → IsUtf8 name
name_text name h = IsUtf8-are_ascii name (name_bytes name (and_parts (nat_lt 0 (length name) && is_letter (slice_index name 0)) (list_all is_name_byte name) h.form).1)
