-- The rows of the table of forms, one after another.
use Rattle.std.proofs.Common.{◌≡◌, ℕ, ◌+◌, Bool, false, List, ◌∷◌, drop, find, Some, ap, sym, ◌∙◌}
use Rattle.std.specs.Prelude.{slice_get}
use Rattle.std.proofs.lemmas.Option.{slice_get_within, get_or_from_slice_get}
use Rattle.std.proofs.lemmas.List.{at_drop_more}

-- what is looked for isn't the item at a place, so it is looked for after that place
pub passed_over : {A : Type 0} (p : A → Bool) (xs : List A) (i : ℕ) (x : A) → slice_get xs i ≡ Some x → p x ≡ false → find p (drop (i + 1) xs) ≡ find p (drop i xs)
passed_over p xs i x h other =
    let first : find p (x ∷ drop (i + 1) xs) ≡ find p (drop (i + 1) xs) = rw other in
    sym first ∙ ap (λ y. find p (y ∷ drop (i + 1) xs)) (sym (get_or_from_slice_get xs i x x h)) ∙ sym (at_drop_more (find p) xs i x (slice_get_within xs i x h))
