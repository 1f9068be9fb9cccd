-- A mark for each place of a level.
use Rattle.std.proofs.Common.{◌≡◌, ◌<◌, inl, inr, ℕ, zero, suc, Bool, true, false, List, [], ◌∷◌, length, get_or, set, replicate, slice_get, Some, None, refl, sym, ap, ◌∙◌}
use Rattle.std.specs.Prelude.{◌||◌, ◌==◌}
use Rattle.std.proofs.lemmas.Bool.{eqb-true, eq-eqb}
use Rattle.std.proofs.lemmas.List.{get_or-set_same, get_or-set_other}
use Rattle.id_tables.specs.Places.{place_of}
use Rattle.bridge_terms.specs.Plans.{is_in}
use Rattle.bridge_rules.proofs.BoolLemmas.{true_false, either, or_left}
use Rattle.bridge_rules.proofs.OptionLemmas.{some_is, some_none}
use Rattle.field_judge.specs.Marked.{Marked}
use Rattle.field_judge.proofs.Finding.{tag_at}

unmarked : (n k : ℕ) → get_or (replicate n false) k false ≡ false
unmarked zero k = refl
unmarked (suc n) zero = refl
unmarked (suc n) (suc k) = unmarked n k

pub as_many_marks : (n : ℕ) → length (replicate n false) ≡ n
as_many_marks zero = refl
as_many_marks (suc n) = ap suc (as_many_marks n)

pub none_marked : (tags : List ℕ) (n : ℕ) → Marked tags (replicate n false) []
none_marked tags n = record { marks = λ tag k h. unmarked n k; known = λ tag h. absurd (false_true h) }
  where
    false_true : false ≡ true → ⊥
    false_true h = cc

pub mark_of : (tags : List ℕ) (marks : List Bool) (gone : List ℕ) (tag k : ℕ) (b : Bool) → Marked tags marks gone → place_of tag tags ≡ Some k → get_or marks k false ≡ b → is_in tag gone ≡ b
mark_of tags marks gone tag k b m at h = sym (m.marks tag k at) ∙ h

pub unplaced : (tags : List ℕ) (marks : List Bool) (gone : List ℕ) (tag : ℕ) → Marked tags marks gone → place_of tag tags ≡ None → is_in tag gone ≡ false
unplaced tags marks gone tag m none = elim (either (is_in tag gone)) [
  | inl t ↦ let there = m.known tag t in some_none (sym there.1 ∙ none)
  | inr f ↦ f
]

marked_at : (tags : List ℕ) (marks : List Bool) (gone : List ℕ) (tag k : ℕ) → Marked tags marks gone → place_of tag tags ≡ Some k → k < length marks
    → (other j : ℕ) → place_of other tags ≡ Some j → (b : Bool) → (j == k) ≡ b → get_or (set marks k true) j false ≡ is_in other (tag ∷ gone)
marked_at tags marks gone tag k m at within other j there true same =
    let is : j ≡ k = eqb-true j k same in
    let tagged : tag ≡ other = some_is (sym (tag_at tag tags k at) ∙ ap (slice_get tags) (sym is) ∙ tag_at other tags j there) in
    ap (λ j. get_or (set marks k true) j false) is ∙ get_or-set_same marks k true false within
    ∙ sym (or_left (tag == other) (is_in other gone) (eq-eqb tag other tagged))
marked_at tags marks gone tag k m at within other j there false same =
    get_or-set_other marks k j true false (λ is. true_false (eq-eqb j k is) same) ∙ m.marks other j there
    ∙ sym (ap (λ b. b || is_in other gone) (apart (tag == other) refl))
  where
    apart : (b : Bool) → (tag == other) ≡ b → (tag == other) ≡ false
    apart false e = e
    apart true e = true_false (eq-eqb j k (some_is (sym there ∙ ap (λ n. place_of n tags) (sym (eqb-true tag other e)) ∙ at))) same

pub mark_more : (tags : List ℕ) (marks : List Bool) (gone : List ℕ) (tag k : ℕ) → Marked tags marks gone → place_of tag tags ≡ Some k → k < length marks → Marked tags (set marks k true) (tag ∷ gone)
mark_more tags marks gone tag k m at within = record {
  marks = λ other j there. marked_at tags marks gone tag k m at within other j there (j == k) refl;
  known = λ other h. elim (either (tag == other)) [
    | inl same ↦ (k, ap (λ n. place_of n tags) (sym (eqb-true tag other same)) ∙ at)
    | inr not ↦ m.known other (sym (ap (λ b. b || is_in other gone) not) ∙ h)
  ];
}
