-- Zeros, and what follows the first.
use Rattle.std.proofs.Common.{◌≡◌, ℕ, Bool, true, false, List, [], ◌∷◌, ◌++◌, refl, ap, ◌∙◌, subst}
use Rattle.std.specs.Prelude.{◌==◌, if◌then◌else◌}
use Rattle.std.specs.List.{list_all}
use Rattle.std.proofs.lemmas.Bool.{and_parts}
use Rattle.std.proofs.lemmas.Bool.Decides.{Decides-eqb}
use Rattle.clean_bodies.specs.Clean.{AreZeros, IsCleanText}
use Rattle.clean_walk.specs.inner.Zeros.{stays_zero}

pub zeros_are : (bytes : List ℕ) → list_all (λ b. b == 0) bytes ≡ true → AreZeros bytes
zeros_are [] h = refl
zeros_are (b ∷ bs) h =
    let parts = and_parts (b == 0) (list_all (λ b. b == 0) bs) h in
    ap (λ x. x ∷ bs) ((Decides-eqb b 0).0 parts.0) ∙ ap (λ xs. 0 ∷ xs) (zeros_are bs parts.1)

tail_zeros : (b : ℕ) (bs : List ℕ) → AreZeros (b ∷ bs) → AreZeros bs
tail_zeros b bs h = cc

last_zeros : (text after : List ℕ) → AreZeros (text ++ 0 ∷ after) → AreZeros after
last_zeros [] after h = tail_zeros 0 after h
last_zeros (x ∷ text) after h = last_zeros text after (tail_zeros x (text ++ 0 ∷ after) h)

false_true : ◌≡◌ {A = Bool} false true → ⊥
false_true h = cc

zero_by : (t : Bool) (b : ℕ) (bs : List ℕ) → b == 0 ≡ t → (stays_zero true bs ≡ true → AreZeros bs)
    → (if t then stays_zero true bs else (if true then false else stays_zero false bs)) ≡ true → AreZeros (b ∷ bs)
zero_by true b bs is go h = ap (λ x. x ∷ bs) ((Decides-eqb b 0).0 is) ∙ ap (λ xs. 0 ∷ xs) (go h)
zero_by false b bs is go h = absurd (false_true h)

ended_zeros : (bs : List ℕ) → stays_zero true bs ≡ true → AreZeros bs
ended_zeros [] h = refl
ended_zeros (b ∷ bs) h = zero_by (b == 0) b bs refl (ended_zeros bs) h

behind_by : (t : Bool) (text after : List ℕ) → (stays_zero false (text ++ 0 ∷ after) ≡ true → AreZeros after)
    → (if t then stays_zero true (text ++ 0 ∷ after) else (if false then false else stays_zero false (text ++ 0 ∷ after))) ≡ true → AreZeros after
behind_by true text after go h = last_zeros text after (ended_zeros (text ++ 0 ∷ after) h)
behind_by false text after go h = go h

-- what follows some 00 of a text
behind_zero : (text after : List ℕ) → stays_zero false (text ++ 0 ∷ after) ≡ true → AreZeros after
behind_zero [] after h = ended_zeros after h
behind_zero (x ∷ text) after h = behind_by (x == 0) text after (behind_zero text after) h

-- a text in which no byte is other than 00 after the first
pub text_clean : (bytes : List ℕ) → stays_zero false bytes ≡ true → IsCleanText bytes
text_clean bytes h text after whole = behind_zero text after (subst (λ b. stays_zero false b ≡ true) whole h)
