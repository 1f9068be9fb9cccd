-- A last field of the header is passed over.
use Rattle.std.proofs.Common.{◌≡◌, inl, inr, Bool, true, false, cond, List, [], ◌∷◌, ◌++◌, map, refl, sym, ap, ◌∙◌}
use Rattle.std.specs.Prelude.{◌&&◌, not}
use Rattle.tagvalue_codec.specs.Fields.{Field}
use Rattle.bridge_rules.proofs.BoolLemmas.{either, if_false, if_true}
use Rattle.bridge_terms.specs.Parts.{TagLists, application_fields, is_application}
use Rattle.bridge_terms.specs.Plans.{Each, is_in}

pub header_passed : (lists : TagLists) (f : Field) → is_in f.tag lists.header ≡ true → is_application lists f ≡ false
header_passed lists f h = ap (λ a. not a && not (is_in f.tag (map (λ pair. pair.0) lists.lengths))) h

pub last_passed : (lists : TagLists) (fs : List Field) (f : Field) → is_application lists f ≡ false → application_fields lists (fs ++ f ∷ []) ≡ application_fields lists fs
last_passed lists [] f h = if_false (is_application lists f) (f ∷ []) [] h
last_passed lists (g ∷ gs) f h = elim (either (is_application lists g)) [
  | inl t ↦
      if_true (is_application lists g) (g ∷ application_fields lists (gs ++ f ∷ [])) (application_fields lists (gs ++ f ∷ [])) t
      ∙ ap (λ r. g ∷ r) (last_passed lists gs f h)
      ∙ sym (if_true (is_application lists g) (g ∷ application_fields lists gs) (application_fields lists gs) t)
  | inr n ↦
      if_false (is_application lists g) (g ∷ application_fields lists (gs ++ f ∷ [])) (application_fields lists (gs ++ f ∷ [])) n
      ∙ last_passed lists gs f h
      ∙ sym (if_false (is_application lists g) (g ∷ application_fields lists gs) (application_fields lists gs) n)
]

-- what is kept are application fields
kept_by : (lists : TagLists) (f : Field) (b : Bool) (more : List Field) → is_application lists f ≡ b → Each (λ f. is_application lists f ≡ true) more
    → Each (λ f. is_application lists f ≡ true) (cond b (f ∷ more) more)
kept_by lists f true more is later = (is, later)
kept_by lists f false more is later = later

pub each_kept : (lists : TagLists) (fs : List Field) → Each (λ f. is_application lists f ≡ true) (application_fields lists fs)
each_kept lists [] = tt
each_kept lists (f ∷ fs) = kept_by lists f (is_application lists f) (application_fields lists fs) refl (each_kept lists fs)
