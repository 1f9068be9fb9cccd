-- Where the first 00 of some bytes stands.
use Rattle.std.proofs.Common.{◌≡◌, ◌≤◌, ◌<◌, ℕ, zero, suc, Bool, true, false, List, [], ◌∷◌, length, take, Some, None, refl, ap, ◌∙◌, arith}
use Rattle.std.specs.Prelude.{slice_index, not, ◌==◌}
use Rattle.std.proofs.lemmas.List.Sums.{take_while-cons}
use Rattle.memchr.specs.Find.{IsFirstByte, is_byte}
use Rattle.field_values.specs.Reports.{before_zero}

abbrev is_no_zero : ℕ → Bool
is_no_zero b = not (b == 0)

goes_on : (x : ℕ) (xs : List ℕ) (t : Bool) → (x == 0) ≡ t → (t ≡ true → ⊥) → before_zero (x ∷ xs) ≡ x ∷ before_zero xs
goes_on x xs true e never = absurd (never refl)
goes_on x xs false e never = let here : is_no_zero x ≡ true = ap not e in rw (take_while-cons is_no_zero x xs, here) refl

stops : (x : ℕ) (xs : List ℕ) → (x == 0) ≡ true → before_zero (x ∷ xs) ≡ []
stops x xs e = let here : is_no_zero x ≡ false = ap not e in rw (take_while-cons is_no_zero x xs, here) refl

none_from : (xs : List ℕ) → ((k : ℕ) → 0 ≤ k → k < length xs → (slice_index xs k == 0) ≡ true → ⊥) → before_zero xs ≡ xs
none_from [] h = refl
none_from (x ∷ xs) h =
    goes_on x xs (x == 0) refl (h 0 (omega arith) (omega arith)) ∙ ap (λ r. x ∷ r) (none_from xs (λ k low lt p. h (suc k) (omega arith) (omega arith) p))

first_from : (xs : List ℕ) (i : ℕ) → i < length xs → ((k : ℕ) → 0 ≤ k → k < i → (slice_index xs k == 0) ≡ true → ⊥) → (slice_index xs i == 0) ≡ true → before_zero xs ≡ take i xs
first_from [] i lt h is = absurd (omega arith)
first_from (x ∷ xs) zero lt h is = stops x xs is
first_from (x ∷ xs) (suc i) lt h is =
    goes_on x xs (x == 0) refl (h 0 (omega arith) (omega arith)) ∙ ap (λ r. x ∷ r) (first_from xs i (omega arith) (λ k low less p. h (suc k) (omega arith) (omega arith) p) is)

pub zero_none : (bytes : List ℕ) → IsFirstByte (is_byte 0) bytes None → before_zero bytes ≡ bytes
zero_none bytes h = none_from bytes h

pub zero_some : (bytes : List ℕ) (i : ℕ) → IsFirstByte (is_byte 0) bytes (Some i) → before_zero bytes ≡ take i bytes
zero_some bytes i h = first_from bytes i h.0.high h.0.before h.1
