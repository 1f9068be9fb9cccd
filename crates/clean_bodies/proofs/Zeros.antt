-- Pieces of bytes between places, and zeros.
use Rattle.std.proofs.Common.{◌≡◌, ℕ, ◌+◌, ◌-◌, ◌≤◌, List, [], ◌++◌, length, take, drop, sym, ap, ◌∙◌, arith, length-drop}
use Rattle.std.specs.Prelude.{replicate}
use Rattle.std.proofs.lemmas.List.{length-take-le, drop-drop, take_all}
use Rattle.std.proofs.Math.Seq.{take-add}
use Rattle.clean_bodies.specs.Clean.{AreZeros, between}

-- pieces that meet
pub between_append : (a b c : ℕ) (bytes : List ℕ) → a ≤ b → b ≤ c → between a b bytes ++ between b c bytes ≡ between a c bytes
between_append a b c bytes h k =
    let total : c - a ≡ (b - a) + (c - b) = omega (arith, h, k) in
    let place : b ≡ a + (b - a) = omega (arith, h) in
    let moved : drop b bytes ≡ drop (b - a) (drop a bytes) = ap (λ n. drop n bytes) place ∙ sym (drop-drop (b - a) a bytes) in
    ap (λ r. between a b bytes ++ take (c - b) r) moved ∙ sym (take-add (b - a) (c - b) (drop a bytes)) ∙ ap (λ n. take n (drop a bytes)) (sym total)

-- a piece within the bytes
pub between_long : (a b : ℕ) (bytes : List ℕ) → a ≤ b → b ≤ length bytes → length (between a b bytes) ≡ b - a
between_long a b bytes h k = length-take-le (b - a) (drop a bytes) (omega (arith, length-drop a bytes, h, k))

pub gap_zeros : (a b : ℕ) (bytes : List ℕ) → a ≤ b → b ≤ length bytes → AreZeros (between a b bytes)
    → replicate (b - a) 0 ≡ between a b bytes
gap_zeros a b bytes h k zeros = ap (λ n. replicate n 0) (sym (between_long a b bytes h k)) ∙ sym zeros

-- no bytes
pub between_none : (a : ℕ) (bytes : List ℕ) → between a a bytes ≡ []
between_none a bytes = let none : a - a ≡ 0 = omega arith in ap (λ n. take n (drop a bytes)) none

pub whole_between : (n : ℕ) (bytes : List ℕ) → n ≡ length bytes → between 0 n bytes ≡ bytes
whole_between n bytes h = take_all (n - 0) bytes (omega (arith, h))
