-- How many fields a text can have, by its bytes.
use Rattle.std.proofs.Common.{◌≡◌, ◌≤◌, ◌+◌, ◌*◌, ℕ, cond, List, [], ◌∷◌, ◌++◌, length, decimal, ap, arith, length-append}
use Rattle.std.specs.Prelude.{◌==◌, count_by}
use Rattle.std.proofs.lemmas.List.Sums.{sum_by-append}
use Rattle.tagvalue_codec.specs.Fields.{Field, bytes_of, field_bytes, soh, tag_bytes}
use Rattle.back_texts.specs.Backs.{HasFewFields}

-- ---- by the number of bytes

field_long : (f : Field) → 2 ≤ length (field_bytes f)
field_long f =
    let one = length-append (tag_bytes f.tag) (f.value ++ (soh ∷ [])) in
    let two = length-append (decimal f.tag) (61 ∷ []) in
    let three = length-append f.value (soh ∷ []) in
    omega (arith, one, two, three)

fields_long : (fields : List Field) → 2 * length fields ≤ length (bytes_of fields)
fields_long [] = omega arith
fields_long (f ∷ fs) =
    let first = field_long f in
    let rest = fields_long fs in
    omega (arith, first, rest, length-append (field_bytes f) (bytes_of fs))

pub few_by_length : (text : List ℕ) → length text ≤ 8192 → HasFewFields text
few_by_length text short fields is =
    let whole : length text ≡ length (bytes_of fields) = ap length is in
    omega (arith, short, whole, fields_long fields)

-- ---- by the number of bytes that end a field

abbrev ends : List ℕ → ℕ
ends bytes = count_by (λ b. b == soh) bytes

ends_append : (a b : List ℕ) → ends (a ++ b) ≡ ends a + ends b
ends_append a b = sum_by-append (λ x. cond (x == soh) 1 0) a b

field_ends : (f : Field) → 1 ≤ ends (field_bytes f)
field_ends f =
    let one = ends_append (tag_bytes f.tag) (f.value ++ (soh ∷ [])) in
    let two = ends_append f.value (soh ∷ []) in
    omega (arith, one, two)

fields_end : (fields : List Field) → length fields ≤ ends (bytes_of fields)
fields_end [] = omega arith
fields_end (f ∷ fs) =
    let first = field_ends f in
    let rest = fields_end fs in
    omega (arith, first, rest, ends_append (field_bytes f) (bytes_of fs))

pub few_by_ends : (text : List ℕ) → ends text ≤ 4096 → HasFewFields text
few_by_ends text few fields is =
    let whole : ends text ≡ ends (bytes_of fields) = ap ends is in
    omega (arith, few, whole, fields_end fields)
