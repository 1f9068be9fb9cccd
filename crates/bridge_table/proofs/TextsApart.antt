-- Each text is looked up once among those after it.
use Rattle.std.proofs.Common.{◌≡◌, ℕ, zero, suc, Bool, true, false, not, List, [], ◌∷◌, ◌++◌, drop, Some, refl, sym, ap, ◌∙◌}
use Rattle.std.specs.Prelude.{slice_get, ◌&&◌, ◌||◌, bytes_eq, if◌then◌else◌}
use Rattle.std.specs.List.{list_any}
use Rattle.fix_values.specs.declared.rule.Code.{Code}
use Rattle.fix_values.specs.Codes.{is_apart, same_text}
use Rattle.id_tables.proofs.NamePlaces.{drop_cons}

never : (b : Bool) → (b && false) ≡ false
never true = refl
never false = refl

-- codes of which the last ones aren't apart
pub apart_rest : (cs : List Code) (i : ℕ) → is_apart same_text (drop i cs) ≡ false → is_apart same_text cs ≡ false
apart_rest cs zero h = h
apart_rest [] (suc i) h = h
apart_rest (c ∷ cs) (suc i) h = ap (λ b. not (list_any (same_text c) cs) && b) (apart_rest cs i h) ∙ never (not (list_any (same_text c) cs))

-- one code and those after it
pub apart_from : (cs : List Code) (i : ℕ) (c : Code) → slice_get cs i ≡ Some c → (found : Bool) → list_any (same_text c) (drop (suc i) cs) ≡ found → is_apart same_text (drop (suc i) cs) ≡ true →
    is_apart same_text (drop i cs) ≡ not found
apart_from cs i c at found is apart =
    ap (is_apart same_text) (drop_cons cs i c at) ∙ ap (λ b. not b && is_apart same_text (drop (suc i) cs)) is ∙ ap (λ b. not found && b) apart ∙ kept found
  where
    kept : (b : Bool) → (not b && true) ≡ not b
    kept true = refl
    kept false = refl

-- whether it was there, by whether it was put
pub was_there : (put found : Bool) → put ≡ not found → put ≡ false → found ≡ true
was_there put true is h = refl
was_there put false is h = sym h ∙ is

pub was_new : (put found : Bool) → put ≡ not found → put ≡ true → found ≡ false
was_new put true is h = sym h ∙ is
was_new put false is h = refl

module _ {K : Type 0} (bytes : K → List ℕ) where
  -- the text is among the keys
  abbrev pub has : List K → List ℕ → Bool
  has ks text = list_any (λ k. bytes_eq text (bytes k)) ks

  swap : (a b c : Bool) → (a || (b || c)) ≡ (b || (a || c))
  swap true true c = refl
  swap true false c = refl
  swap false b c = refl

  has_last : (ks : List K) (k : K) (text : List ℕ) → has (ks ++ k ∷ []) text ≡ (bytes_eq text (bytes k) || has ks text)
  has_last [] k text = refl
  has_last (j ∷ ks) k text = ap (λ b. bytes_eq text (bytes j) || b) (has_last ks k text) ∙ swap (bytes_eq text (bytes j)) (bytes_eq text (bytes k)) (has ks text)

  -- the keys after a new one was put
  pub has_put : (ks : List K) (k : K) (found : Bool) → found ≡ false → (cs : List Code) (i : ℕ) (c : Code) → slice_get cs i ≡ Some c → bytes k ≡ c.text →
      ((text : List ℕ) → has ks text ≡ list_any (λ d. bytes_eq text d.text) (drop (suc i) cs)) →
      (text : List ℕ) → has (if found then ks else ks ++ k ∷ []) text ≡ list_any (λ d. bytes_eq text d.text) (drop i cs)
  has_put ks k true new cs i c at is before text = cc
  has_put ks k false new cs i c at is before text =
      has_last ks k text ∙ ap (λ t. bytes_eq text t || has ks text) is ∙ ap (λ b. bytes_eq text c.text || b) (before text)
      ∙ ap (list_any (λ d. bytes_eq text d.text)) (sym (drop_cons cs i c at))
