-- The values of the fields that a table holds.
use Rattle.std.proofs.Common.{◌≡◌, ◌≤◌, ◌+◌, ◌-◌, cond, ℕ, zero, suc, Bool, true, false, List, [], ◌∷◌, ◌++◌, take, drop, length, slice_get, Some, refl, sym, ap, subst, ◌∙◌, arith}
use Rattle.std.specs.Prelude.{not, ◌&&◌, ◌||◌}
use Rattle.tagvalue_codec.specs.Fields.{Field, bytes_of, field_bytes, soh, tag_bytes}
use Rattle.tagvalue_codec.specs.declared.table.FixField.{FixField}
use Rattle.tagvalue_codec.specs.Reading.{placed, placed_at}
use Rattle.bridge_rules.proofs.OptionLemmas.{some_is, none_some}
use Rattle.bridge_terms.specs.Parts.{application_fields, is_application, TagLists}
use Rattle.bridge_terms.specs.Plans.{is_in}
use Rattle.bridge_plan.specs.Covers.{length_tags}
use Rattle.field_judge.specs.declared.field.AppField.{AppField}
use Rattle.field_judge.specs.Fields.{field_of, fields_of}
use Rattle.field_judge.proofs.SliceLemmas.{drop_got, dropped}

many : {X : Type 0} (xs ys : List X) → length (xs ++ ys) ≡ length xs + length ys
many [] ys = none (length ys)
  where
    none : (n : ℕ) → n ≡ 0 + n
    none n = omega arith
many (x ∷ xs) ys = ap suc (many xs ys) ∙ next (length xs) (length ys)
  where
    next : (m n : ℕ) → suc (m + n) ≡ suc m + n
    next m n = omega arith

drop_front : {X : Type 0} (xs ys : List X) → drop (length xs) (xs ++ ys) ≡ ys
drop_front [] ys = refl
drop_front (x ∷ xs) ys = drop_front xs ys

take_front : {X : Type 0} (xs ys : List X) → take (length xs) (xs ++ ys) ≡ xs
take_front [] ys = refl
take_front (x ∷ xs) ys = ap (λ zs. x ∷ zs) (take_front xs ys)

-- a field of the text is at its ranges
pub record IsHeld (text : List ℕ) (fs : List Field) (i : ℕ) (x : FixField) : Type 0 where
  pub field : Field
  pub there : slice_get fs i ≡ Some field
  pub tag : x.tag ≡ field.tag
  pub value : take (x.to - x.from) (drop x.from text) ≡ field.value
  pub order : x.from ≤ x.to
  pub within : x.to ≤ length text

first_held : (text front : List ℕ) (f : Field) (fs : List Field) → text ≡ front ++ bytes_of (f ∷ fs) → IsHeld text (f ∷ fs) 0 (placed_at (length front) f)
first_held text front f fs is =
    let a = front ++ tag_bytes f.tag in
    let rest = (soh ∷ []) ++ bytes_of fs in
    let split : text ≡ a ++ (f.value ++ rest) = is ∙ joined front (tag_bytes f.tag) f.value (soh ∷ []) (bytes_of fs) in
    let from : length front + length (tag_bytes f.tag) ≡ length a = sym (many front (tag_bytes f.tag)) in
    let size : length text ≡ length a + (length f.value + length rest) = ap length split ∙ many a (f.value ++ rest) ∙ ap (λ n. length a + n) (many f.value rest) in
    let from_to : length front + length (tag_bytes f.tag) + length f.value - (length front + length (tag_bytes f.tag)) ≡ length f.value = omega arith in
    record {
      field = f;
      there = refl;
      tag = refl;
      value = ap (λ n. take n (drop (length front + length (tag_bytes f.tag)) text)) from_to
          ∙ ap (λ n. take (length f.value) (drop n text)) from ∙ ap (λ t. take (length f.value) (drop (length a) t)) split
          ∙ ap (take (length f.value)) (drop_front a (f.value ++ rest)) ∙ take_front f.value rest;
      order = omega arith;
      within = omega (arith, from, size);
    }
  where
    assoc : {X : Type 0} (xs ys zs : List X) → (xs ++ ys) ++ zs ≡ xs ++ (ys ++ zs)
    assoc [] ys zs = refl
    assoc (x ∷ xs) ys zs = ap (λ ws. x ∷ ws) (assoc xs ys zs)

    joined : (a b c d e : List ℕ) → a ++ ((b ++ (c ++ d)) ++ e) ≡ (a ++ b) ++ (c ++ (d ++ e))
    joined a b c d e = ap (λ ws. a ++ ws) (assoc b (c ++ d) e ∙ ap (λ ws. b ++ ws) (assoc c d e)) ∙ sym (assoc a b (c ++ (d ++ e)))

pub held : (text front : List ℕ) (fs : List Field) (i : ℕ) (x : FixField) → text ≡ front ++ bytes_of fs → slice_get (placed (length front) fs) i ≡ Some x → IsHeld text fs i x
held text front [] i x is at = none_some at
held text front (f ∷ fs) zero x is at = subst (IsHeld text (f ∷ fs) 0) (some_is at) (first_held text front f fs is)
held text front (f ∷ fs) (suc i) x is at =
    let more = held text (front ++ field_bytes f) fs i x (is ∙ moved front (field_bytes f) (bytes_of fs)) (ap (λ n. slice_get (placed n fs) i) (many front (field_bytes f)) ∙ at) in
    record { field = more.field; there = more.there; tag = more.tag; value = more.value; order = more.order; within = more.within }
  where
    moved : (xs ys zs : List ℕ) → xs ++ (ys ++ zs) ≡ (xs ++ ys) ++ zs
    moved [] ys zs = refl
    moved (x ∷ xs) ys zs = ap (λ ws. x ∷ ws) (moved xs ys zs)

-- ---- the application's

pub kept_none : (lists : TagLists) (f : Field) (t : Bool) → t ≡ is_in f.tag lists.header || is_in f.tag (length_tags lists) → t ≡ true → application_fields lists (f ∷ []) ≡ []
kept_none lists f t is here = by_tests (is_in f.tag lists.header) (is_in f.tag (length_tags lists)) (sym is ∙ here)
  where
    by_tests : (a b : Bool) → a || b ≡ true → cond (not a && not b) (f ∷ []) [] ≡ []
    by_tests true b h = refl
    by_tests false true h = refl
    by_tests false false h = absurd (never h)
      where
        never : false ≡ true → ⊥
        never k = cc

pub kept_one : (lists : TagLists) (f : Field) (t : Bool) → t ≡ is_in f.tag lists.header || is_in f.tag (length_tags lists) → t ≡ false → application_fields lists (f ∷ []) ≡ f ∷ []
kept_one lists f t is none = by_tests (is_in f.tag lists.header) (is_in f.tag (length_tags lists)) (sym is ∙ none)
  where
    by_tests : (a b : Bool) → a || b ≡ false → cond (not a && not b) (f ∷ []) [] ≡ f ∷ []
    by_tests false false h = refl
    by_tests false true h = absurd (never h)
      where
        never : true ≡ false → ⊥
        never k = cc
    by_tests true b h = absurd (never h)
      where
        never : true ≡ false → ⊥
        never k = cc

pub one_more : (own : List AppField) (x : AppField) → fields_of (own ++ x ∷ []) ≡ fields_of own ++ field_of x ∷ []
one_more [] x = refl
one_more (y ∷ ys) x = ap (λ zs. field_of y ∷ zs) (one_more ys x)

pub same_field : (a : ℕ) (v : List ℕ) (f : Field) → a ≡ f.tag → v ≡ f.value → ◌≡◌ {A = Field} (record { tag = a; value = v }) f
same_field a v f same is = ap (λ (n : ℕ). record { tag = n; value = v }) same ∙ ap (λ (w : List ℕ). record { tag = f.tag; value = w }) is

pub filter_next : (lists : TagLists) (f : Field) (fs : List Field) → application_fields lists (f ∷ fs) ≡ application_fields lists (f ∷ []) ++ application_fields lists fs
filter_next lists f fs = by_test (is_application lists f)
  where
    by_test : (b : Bool) → cond b (f ∷ application_fields lists fs) (application_fields lists fs) ≡ cond b (f ∷ []) [] ++ application_fields lists fs
    by_test true = refl
    by_test false = refl

-- ---- one field after another

pub kept_on : (lists : TagLists) (fields : List Field) (i : ℕ) (f : Field) (old new : List Field) (whole : List Field) → slice_get fields i ≡ Some f → new ≡ old ++ application_fields lists (f ∷ [])
    → old ++ application_fields lists (drop i fields) ≡ whole → new ++ application_fields lists (drop (i + 1) fields) ≡ whole
kept_on lists fields i f old new whole at kept so_far =
    ap (λ ys. ys ++ application_fields lists (drop (i + 1) fields)) kept
    ∙ moved old (application_fields lists (f ∷ [])) (application_fields lists (drop (i + 1) fields))
    ∙ ap (λ ys. old ++ ys) (sym (filter_next lists f (drop (i + 1) fields)))
    ∙ ap (λ fs. old ++ application_fields lists fs) (sym (drop_got fields i f at)) ∙ so_far
  where
    moved : (xs ys zs : List Field) → (xs ++ ys) ++ zs ≡ xs ++ (ys ++ zs)
    moved [] ys zs = refl
    moved (x ∷ xs) ys zs = ap (λ ws. x ∷ ws) (moved xs ys zs)

as_many : (at : ℕ) (fs : List Field) → length (placed at fs) ≡ length fs
as_many at [] = refl
as_many at (f ∷ fs) = ap suc (as_many (at + length (field_bytes f)) fs)

pub nothing_added : {X : Type 0} (xs : List X) → xs ++ [] ≡ xs
nothing_added [] = refl
nothing_added (x ∷ xs) = ap (λ ys. x ∷ ys) (nothing_added xs)

pub all_kept : (lists : TagLists) (table : List FixField) (fields : List Field) (i : ℕ) (own whole : List Field) → table ≡ placed 0 fields → length table ≤ i
    → own ++ application_fields lists (drop i fields) ≡ whole → own ≡ whole
all_kept lists table fields i own whole is beyond so_far =
    let many : length table ≡ length fields = ap length is ∙ as_many 0 fields in
    sym (nothing_added own) ∙ ap (λ fs. own ++ application_fields lists fs) (sym (dropped fields i (omega (arith, beyond, many)))) ∙ so_far
