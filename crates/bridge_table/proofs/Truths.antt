-- Valid values that are written as the same Boolean as another.
use Rattle.std.proofs.Common.{◌≡◌, ℕ, false, List, [], ◌∷◌, Option, Some, None, refl, sym, ap, ◌∙◌}
use Rattle.std.specs.Prelude.{◌||◌}
use Rattle.std.specs.List.{list_any}
use Rattle.sbe_types.specs.declared.kind.Named.{Named}
use Rattle.fix_values.specs.Codes.{boolean_text, is_truth, is_same_truth, same_truth}

pub none_same : (a : Named) → boolean_text a.number ≡ None → (names : List Named) → list_any (same_truth a) names ≡ false
none_same a none [] = refl
none_same a none (b ∷ bs) = ap (λ (o : Option ℕ). is_same_truth o (boolean_text b.number) || list_any (same_truth a) bs) none ∙ none_same a none bs

pub some_same : (a : Named) (byte : ℕ) → boolean_text a.number ≡ Some byte → (names : List Named) →
    list_any (λ (b : Named). is_truth byte (boolean_text b.number)) names ≡ list_any (same_truth a) names
some_same a byte is names = ap (λ (o : Option ℕ). list_any (λ (b : Named). is_same_truth o (boolean_text b.number)) names) (sym is)
