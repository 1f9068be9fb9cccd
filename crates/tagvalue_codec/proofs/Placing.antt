-- What is found at a place of a text.
use Rattle.std.proofs.Common.{◌≡◌, ◌≢◌, ◌⊎◌, inl, inr, ℕ, suc, ◌+◌, ◌-◌, ◌≤◌, ◌<◌, Bool, true, false, cond, List, [], ◌∷◌, length, take, drop, get_or, Option, Some, None, refl, sym, ap, ◌∙◌, arith, length-append, length-drop}
use Rattle.std.specs.Prelude.{nat_lt, ◌==◌}
use Rattle.std.proofs.lemmas.Bool.{eqb-true, eq-eqb, ne_eqb, lt-ltb}
use Rattle.std.proofs.lemmas.Bool.Decides.{nat_tests}
use Rattle.std.proofs.lemmas.List.{drop-drop, length-take-le}
use Rattle.tagvalue_codec.specs.declared.table.FixField.{FixField}
use Rattle.tagvalue_codec.specs.Fields.{soh, Field, tag_bytes, is_number}
use Rattle.tagvalue_codec.specs.Reading.{Finder, plain_len, exact_read, value_read, with_tag, with_value, field_read, kept_if, tagged_read, size_read}
use Rattle.tagvalue_codec.specs.Places.{TagAt, FoundAt}
use Rattle.tagvalue_codec.proofs.Finding.{tag_sound}

soh_by : (c : ℕ) (b : List ℕ) (is : Bool) → (c == soh) ≡ is → (plain_len b < length b → get_or b (plain_len b) 0 ≡ soh) → cond is 0 (suc (plain_len b)) < suc (length b) → get_or (c ∷ b) (cond is 0 (suc (plain_len b))) 0 ≡ soh
soh_by c b true is later k = eqb-true c soh is
soh_by c b false is later k = later (omega arith)

is_not_below : (a b : ℕ) → b ≤ a → nat_lt a b ≡ false
is_not_below a b h = grind (arith, nat_tests)

-- the byte after those without SOH
pub soh_there : (b : List ℕ) → plain_len b < length b → get_or b (plain_len b) 0 ≡ soh
soh_there [] h = absurd (omega arith)
soh_there (c ∷ b) h = soh_by c b (c == soh) refl (soh_there b) h

pub exact_none : (b : List ℕ) (n : ℕ) → length b ≤ n → exact_read n b ≡ None
exact_none b n short = rw (is_not_below n (length b) short) refl

pub exact_there : (b : List ℕ) (n : ℕ) → n < length b → get_or b n 0 ≡ soh → exact_read n b ≡ Some (take n b, drop (suc n) b)
exact_there b n within is = rw (lt-ltb n (length b) within, eq-eqb (get_or b n 0) soh is) refl

-- a value that begins at `from` and ends at `to`
pub value_there : (text : List ℕ) (from to : ℕ) → from < to → to < length text → to ≡ from + plain_len (drop from text) →
    value_read (drop from text) ≡ Some (take (to - from) (drop from text), drop (to + 1) text)
value_there text from to some within is =
    let many : plain_len (drop from text) ≡ to - from = omega arith in
    let long : length (drop from text) ≡ length text - from = length-drop from text in
    let here : get_or (drop from text) (plain_len (drop from text)) 0 ≡ soh = soh_there (drop from text) (omega arith) in
    let inside : plain_len (drop from text) < length (drop from text) = omega arith in
    let next : from + suc (plain_len (drop from text)) ≡ to + 1 = omega arith in
    rw (lt-ltb 0 (plain_len (drop from text)) (omega arith)) (exact_there (drop from text) (plain_len (drop from text)) inside here
    ∙ ap (λ k. Some (k, drop (suc (plain_len (drop from text))) (drop from text))) (ap (λ k. take k (drop from text)) many)
    ∙ ap (λ r. Some (take (to - from) (drop from text), r)) (drop-drop (suc (plain_len (drop from text))) from text ∙ ap (λ k. drop k text) next))

pub tag_length : (text : List ℕ) (at tag from : ℕ) → TagAt text at tag from → from ≡ at + length (tag_bytes tag)
tag_length text at tag from t =
    let s = tag_sound (drop at text) tag (drop from text) t.found in
    omega (arith, t.later, t.within, ap length s.1, length-append (tag_bytes tag) (drop from text), length-drop at text, length-drop from text)

-- where no value ends, none is read
pub value_lacks : (text : List ℕ) (from to : ℕ) → from ≤ length text → to ≡ from + plain_len (drop from text) → (length text ≤ to) ⊎ (to ≡ from) → value_read (drop from text) ≡ None
value_lacks text from to within is (inl long) = by_some (nat_lt 0 (plain_len (drop from text))) where
  by_some : (some : Bool) → cond {A = Option (List ℕ × List ℕ)} some (exact_read (plain_len (drop from text)) (drop from text)) None ≡ None
  by_some true = exact_none (drop from text) (plain_len (drop from text)) (omega (arith, length-drop from text))
  by_some false = refl
value_lacks text from to within is (inr none) = rw (is_not_below 0 (plain_len (drop from text)) (omega arith)) refl

pub same_field : (tag at a b c d : ℕ) → a ≡ b → c ≡ d → ◌≡◌ {A = FixField} (record { tag = tag; at = at; from = a; to = c }) (record { tag = tag; at = at; from = b; to = d })
same_field tag at a b c d e f i = record { tag = tag; at = at; from = e i; to = f i }

-- a field that is found
pub field_found : (text : List ℕ) (at tag from to : ℕ) → TagAt text at tag from → to ≡ from + plain_len (drop from text) → to < length text → to ≢ from →
    FoundAt field_read text at (record { tag = tag; at = at; from = from; to = to })
field_found text at tag from to t is within some =
    let after : from < to = omega arith in
    let start : from ≡ at + length (tag_bytes tag) = tag_length text at tag from t in
    let long : length (take (to - from) (drop from text)) ≡ to - from = length-take-le (to - from) (drop from text) (omega (arith, length-drop from text)) in
    record {
      field = record { tag = tag; value = take (to - from) (drop from text) };
      found = ap (with_value value_read) t.found ∙ ap (with_tag tag) (value_there text from to after within is);
      placed_is = same_field tag at from (at + length (tag_bytes tag)) to (at + length (tag_bytes tag) + length (take (to - from) (drop from text))) start (omega (arith, start, long));
      value_is = refl;
      later = omega (arith, t.later);
      within = within;
    }

-- a field that isn't found
pub field_lacks : (text : List ℕ) (at tag from to : ℕ) → TagAt text at tag from → to ≡ from + plain_len (drop from text) → (length text ≤ to) ⊎ (to ≡ from) → field_read (drop at text) ≡ None
field_lacks text at tag from to t is why = ap (with_value value_read) t.found ∙ ap (with_tag tag) (value_lacks text from to t.within is why)

-- the same field, read by a stricter reader
pub stricter : (p q : Finder Field) (text : List ℕ) (at : ℕ) (f : FixField) (h : FoundAt p text at f) → (q (drop at text) ≡ Some (h.field, drop (f.to + 1) text)) → FoundAt q text at f
stricter p q text at f h is = record { field = h.field; found = is; placed_is = h.placed_is; value_is = h.value_is; later = h.later; within = h.within }

-- a field that is kept
pub kept_found : (test : Field → Bool) (p : Finder Field) (text : List ℕ) (at : ℕ) (f : FixField) (h : FoundAt p text at f) → test h.field ≡ true → FoundAt (λ b. kept_if test (p b)) text at f
kept_found test p text at f h good = stricter p (λ b. kept_if test (p b)) text at f h (rw (h.found, good) refl)

pub kept_lacks : (test : Field → Bool) (p : Finder Field) (text : List ℕ) (at : ℕ) (f : FixField) (h : FoundAt p text at f) → test h.field ≡ false → kept_if test (p (drop at text)) ≡ None
kept_lacks test p text at f h bad = rw (h.found, bad) refl

-- the tag of a field that is found
pub tag_same : (p : Finder Field) (text : List ℕ) (at : ℕ) (f : FixField) (h : FoundAt p text at f) → f.tag ≡ h.field.tag
tag_same p text at f h = ap (λ (x : FixField). x.tag) h.placed_is

pub tagged_found : (text : List ℕ) (at tag : ℕ) (f : FixField) → FoundAt field_read text at f → f.tag ≡ tag → FoundAt (tagged_read tag) text at f
tagged_found text at tag f h same = kept_found (λ g. g.tag == tag) field_read text at f h (eq-eqb _ tag (sym (tag_same field_read text at f h) ∙ same))

pub tagged_lacks : (text : List ℕ) (at tag : ℕ) (f : FixField) → FoundAt field_read text at f → f.tag ≢ tag → tagged_read tag (drop at text) ≡ None
tagged_lacks text at tag f h other = kept_lacks (λ g. g.tag == tag) field_read text at f h (ne_eqb _ tag (λ e. other (tag_same field_read text at f h ∙ e)))

pub size_found : (text : List ℕ) (at : ℕ) (f : FixField) → FoundAt (tagged_read 9) text at f → is_number (take (f.to - f.from) (drop f.from text)) ≡ true → FoundAt size_read text at f
size_found text at f h good = kept_found (λ g. is_number g.value) (tagged_read 9) text at f h (ap is_number h.value_is ∙ good)

pub size_lacks : (text : List ℕ) (at : ℕ) (f : FixField) → FoundAt (tagged_read 9) text at f → is_number (take (f.to - f.from) (drop f.from text)) ≡ false → size_read (drop at text) ≡ None
size_lacks text at f h bad = kept_lacks (λ g. is_number g.value) (tagged_read 9) text at f h (ap is_number h.value_is ∙ bad)
