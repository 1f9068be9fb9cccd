-- The first part of fields, and the parts after its run.
use Rattle.std.proofs.Common.{◌≡◌, inl, inr, ℕ, Bool, false, List, [], ◌∷◌, refl, sym, ap, ◌∙◌}
use Rattle.tagvalue_codec.specs.Fields.{Field}
use Rattle.bridge_terms.specs.Parts.{Part, Cut, in_run, of_part, cut_after, parts_of, run_of, rest_of}
use Rattle.bridge_rules.proofs.BoolLemmas.{either, if_true, if_false}

parts_first : (owned : ℕ → ℕ → Bool) → ((tag : ℕ) → owned 0 tag ≡ false) → (f : Field) (fs : List Field) → parts_of owned (f ∷ fs) ≡ (of_part f (cut_after owned f.tag fs)).parts
parts_first owned none f fs = ap (λ (c : Cut). c.parts) (if_false (owned 0 f.tag) (in_run f (cut_after owned 0 fs)) (of_part f (cut_after owned f.tag fs)) (none f.tag))

cut_is : (owned : ℕ → ℕ → Bool) → ((tag : ℕ) → owned 0 tag ≡ false) → (owner : ℕ) (fs : List Field) →
    cut_after owned owner fs ≡ record { run = run_of owned owner fs; parts = parts_of owned (rest_of owned owner fs) }
cut_is owned none owner [] = refl
cut_is owned none owner (f ∷ fs) = elim (either (owned owner f.tag)) [
  | inl t ↦ if_true (owned owner f.tag) (in_run f (cut_after owned owner fs)) (of_part f (cut_after owned f.tag fs)) t
      ∙ ap (in_run f) (cut_is owned none owner fs)
      ∙ ap (λ run. record { run = run; parts = parts_of owned (rest_of owned owner fs) }) (sym (if_true (owned owner f.tag) (f ∷ run_of owned owner fs) [] t))
      ∙ ap (λ rest. record { run = run_of owned owner (f ∷ fs); parts = parts_of owned rest }) (sym (if_true (owned owner f.tag) (rest_of owned owner fs) (f ∷ fs) t))
  | inr n ↦ if_false (owned owner f.tag) (in_run f (cut_after owned owner fs)) (of_part f (cut_after owned f.tag fs)) n
      ∙ ap (λ (parts : List Part). record { run = []; parts = parts }) (sym (parts_first owned none f fs))
      ∙ ap (λ run. record { run = run; parts = parts_of owned (f ∷ fs) }) (sym (if_false (owned owner f.tag) (f ∷ run_of owned owner fs) [] n))
      ∙ ap (λ rest. record { run = run_of owned owner (f ∷ fs); parts = parts_of owned rest }) (sym (if_false (owned owner f.tag) (rest_of owned owner fs) (f ∷ fs) n))
]

-- one part after another
pub parts_step : (owned : ℕ → ℕ → Bool) → ((tag : ℕ) → owned 0 tag ≡ false) → (f : Field) (fs : List Field) →
    parts_of owned (f ∷ fs) ≡ record { tag = f.tag; text = f.value; run = run_of owned f.tag fs } ∷ parts_of owned (rest_of owned f.tag fs)
parts_step owned none f fs = parts_first owned none f fs ∙ ap (λ (c : Cut). (of_part f c).parts) (cut_is owned none f.tag fs)
