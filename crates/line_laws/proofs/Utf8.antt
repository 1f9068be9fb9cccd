-- A printed text is UTF-8.
use Rattle.std.proofs.Common.{ℕ, pos, negsuc, Bool, true, false, List, [], ◌∷◌, refl}
use Rattle.std.specs.Str.{IsUtf8}
use Rattle.std.proofs.lemmas.Str.{IsUtf8-append, IsUtf8-from_ascii}
use Rattle.std.proofs.lemmas.Fmt.{IsAscii-decimal, IsAscii-signed}
use Rattle.json.proofs.Printed.Utf8.{IsUtf8-are_ascii, IsUtf8-quoted, IsUtf8-boolean}
use Rattle.json.specs.Print.{quoted}
use Rattle.serde_json.specs.Data.{Num, unsigned, negative, float, Data, null, boolean, number, string, array, object, Items, no_items, item, Members, no_members, member}
use Rattle.serde_json.specs.Written.{number_text, comma_if, compact_text, items_text, members_text}
use Rattle.line_laws.specs.AsRead.{IsInteger, HasIntegers, ItemsHaveIntegers, MembersHaveIntegers, HasTexts, ItemsHaveTexts, MembersHaveTexts, TextIsUtf8}

number_utf8 : (n : Num) → IsInteger n → IsUtf8 (number_text n)
number_utf8 (unsigned n) h = IsUtf8-from_ascii _ (IsAscii-decimal n h)
number_utf8 (negative (pos n)) h = absurd h
number_utf8 (negative (negsuc n)) h = IsUtf8-from_ascii _ (IsAscii-signed (negsuc n) h)
number_utf8 (float x) h = absurd h

comma_utf8 : (b : Bool) → IsUtf8 (comma_if b)
comma_utf8 true = IsUtf8-are_ascii (44 ∷ []) refl
comma_utf8 false = IsUtf8-are_ascii [] refl

then_text : (x : ℕ) (xs : List ℕ) → IsUtf8 (x ∷ []) → IsUtf8 xs → IsUtf8 (x ∷ xs)
then_text x xs h k = IsUtf8-append (x ∷ []) xs h k

mutual
  utf8 : (d : Data) → HasIntegers d → HasTexts d → IsUtf8 (compact_text d)
  utf8 null h t = IsUtf8-are_ascii _ refl
  utf8 (boolean b) h t = IsUtf8-boolean b
  utf8 (number n) h t = number_utf8 n h
  utf8 (string s) h t = IsUtf8-quoted s t
  utf8 (array ds) h t = then_text 91 _ (IsUtf8-are_ascii _ refl) (items_utf8 false ds h t)
  utf8 (object ms) h t = then_text 123 _ (IsUtf8-are_ascii _ refl) (members_utf8 false ms h t)

  items_utf8 : (later : Bool) (ds : Items) → ItemsHaveIntegers ds → ItemsHaveTexts ds → IsUtf8 (items_text later ds)
  items_utf8 later no_items h t = IsUtf8-are_ascii (93 ∷ []) refl
  items_utf8 later (item d ds) h t = IsUtf8-append (comma_if later) _ (comma_utf8 later) (IsUtf8-append (compact_text d) _ (utf8 d h.0 t.0) (items_utf8 true ds h.1 t.1))

  members_utf8 : (later : Bool) (ms : Members) → MembersHaveIntegers ms → MembersHaveTexts ms → IsUtf8 (members_text later ms)
  members_utf8 later no_members h t = IsUtf8-are_ascii (125 ∷ []) refl
  members_utf8 later (member k d ms) h t =
      IsUtf8-append (comma_if later) _ (comma_utf8 later)
      (IsUtf8-append (quoted k) _ (IsUtf8-quoted k t.0) (then_text 58 _ (IsUtf8-are_ascii _ refl) (IsUtf8-append (compact_text d) _ (utf8 d h.0 t.1) (members_utf8 true ms h.1 t.2))))

pub text_is_utf8 : TextIsUtf8
text_is_utf8 = utf8
