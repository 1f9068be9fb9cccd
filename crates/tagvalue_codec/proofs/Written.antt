-- The text over fields that may follow one another is a text of them.
use Rattle.std.proofs.Common.{◌≡◌, ◌≢◌, ℕ, ◌≤◌, ◌<◌, true, List, [], ◌∷◌, ◌++◌, length, refl, ap, ◌∙◌, arith, append_assoc}
use Rattle.std.specs.Prelude.{decimal, nat_lt, nat_le}
use Rattle.std.specs.List.{AllByRecursion}
use Rattle.std.specs.Char.{is_ascii_digit}
use Rattle.std.specs.Str.{all_ascii_digits}
use Rattle.std.proofs.lemmas.Bool.{and_parts as both, and_from as together, lt-ltb, le-leb}
use Rattle.std.proofs.lemmas.Bool.Decides.{nat_tests}
use Rattle.std.proofs.lemmas.Fmt.{digits_value-decimal, digits_decimal, decimal_nonempty, length-decimal-le}
use Rattle.std.proofs.lemmas.Str.Parse.{numerals_by_value, tells_all_ascii_digits}
use Rattle.tagvalue_codec.specs.declared.data_tags.Pair.{Pair}
use Rattle.tagvalue_codec.specs.Fields.{soh, Field, field_bytes}
use Rattle.tagvalue_codec.specs.Texts.{Free, Body, most_between, sum_over, sum_field, IsAt, IsSize, parts, front_of, FixText, size_field, fields_over, text_over}
use Rattle.tagvalue_codec.proofs.Judging.{last_bytes}

no_soh : (c : ℕ) → is_ascii_digit c ≡ true → c ≢ soh
no_soh c h e = let low : 48 ≤ c = grind (arith, nat_tests) in omega arith

-- digits are no SOH
digits_plain : (ds : List ℕ) → all_ascii_digits ds ≡ true → AllByRecursion (λ b. b ≢ soh) ds
digits_plain [] h = tt
digits_plain (c ∷ ds) h = (no_soh c (both (is_ascii_digit c) (all_ascii_digits ds) h).0, digits_plain ds (both (is_ascii_digit c) (all_ascii_digits ds) h).1)

size_is : (n : ℕ) → n < 1000000000 → IsSize (size_field n)
size_is n small =
    let model = numerals_by_value _ tells_all_ascii_digits in
    let all : all_ascii_digits (decimal n) ≡ true = digits_decimal model n (omega arith) in
    let some : 0 < length (decimal n) = decimal_nonempty n (omega arith) in
    let few : length (decimal n) ≤ 9 = length-decimal-le 9 n (omega arith) (omega arith) (omega arith) in
    record {
      at = record { plain = record { tagged = record { above = omega arith; below = omega arith }; some = some; plain = digits_plain (decimal n) all }; same = refl };
      digits = together (nat_lt 0 (length (decimal n))) _ (lt-ltb 0 (length (decimal n)) some) (together (nat_le (length (decimal n)) 9) (all_ascii_digits (decimal n)) (le-leb (length (decimal n)) 9 few) all);
    }

regroup : (a b c d : List ℕ) → (a ++ (b ++ c)) ++ d ≡ a ++ (b ++ (c ++ d))
regroup a b c d = append_assoc a (b ++ c) d ∙ ap (λ x. a ++ x) (append_assoc b c d)

pub written_is_text : (tags : List Pair) (begin : List ℕ) (kind : Field) (others : List Field) (rest : List ℕ) → IsAt 8 (record { tag = 8; value = begin }) → IsAt 35 kind → Body tags Free others rest → length others ≤ most_between →
    length (field_bytes kind ++ rest) < 1000000000 → FixText tags (fields_over begin kind others (field_bytes kind ++ rest)) (text_over begin (field_bytes kind ++ rest))
written_is_text tags begin kind others rest first third body few small =
    let b : Field = record { tag = 8; value = begin } in
    let n = length (field_bytes kind ++ rest) in
    let last = field_bytes (sum_field (front_of b (size_field n) kind rest)) in
    record {
      parts = parts b (size_field n) kind rest last;
      others = others;
      typed = record {
        spans = record {
          opens = record { text_is = regroup (field_bytes b) (field_bytes (size_field n)) (field_bytes kind ++ rest) last; first = first; second = size_is n small };
          seven = ap length (last_bytes (sum_over (front_of b (size_field n) kind rest)));
          right = digits_value-decimal (numerals_by_value _ tells_all_ascii_digits) n (omega arith);
        };
        third = third;
      };
      body = body;
      few = few;
      sum_is = refl;
      fields_are = refl;
    }
