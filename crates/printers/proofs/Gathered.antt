-- Bytes that were placed one after another.
use Rattle.std.proofs.Common.{◌≡◌, ℕ, ◌+◌, ◌≤◌, List, ◌++◌, length, take, ap, ◌∙◌, append_assoc, arith, length-take-le, take-take}
use Rattle.byte_places.specs.Places.{IsPlaced}
use Rattle.byte_places.proofs.Placing.{front_placed, placed_after}

-- three texts after what was there
pub three_placed : {a b c d : List ℕ} {i j k l : ℕ} (x y z : List ℕ) → IsPlaced a b i x j → IsPlaced b c j y k → IsPlaced c d k z l → take l d ≡ take i a ++ (x ++ (y ++ z))
three_placed {a} {b} {c} {d} {i} x y z p q r =
    (placed_after (x ++ y) z (placed_after x y p q) r).front ∙ ap (λ s. take i a ++ s) (append_assoc x y z)

-- the first n bytes of a text that was placed after what was there
pub lead_placed : {a b : List ℕ} {i j : ℕ} (n k : ℕ) (x : List ℕ) → n ≤ k → k ≤ length x → i ≤ length a → IsPlaced a b i (take k x) j → take (i + n) b ≡ take i a ++ take n x
lead_placed {a} {b} {i} {j} n k x less most within p =
    (front_placed n (take k x) within (omega (arith, less, length-take-le k x most)) p).front ∙ ap (λ r. take i a ++ r) (take-take n k x less)

-- a text, the first bytes of a second one, and a third one after what was there
pub middle_placed : {a b c d : List ℕ} {i j k l n : ℕ} (x y z : List ℕ) → n ≤ length y → j ≤ length b → IsPlaced a b i x j → IsPlaced b c j y k → IsPlaced c d (j + n) z l
    → take l d ≡ take i a ++ (x ++ (take n y ++ z))
middle_placed {n = n} x y z most within p q r = three_placed x (take n y) z p (front_placed n y within most q) r

-- the first bytes of a text, and two others after what was there
pub front_then : {a b c d : List ℕ} {i j k l n : ℕ} (x y z : List ℕ) → n ≤ length x → i ≤ length a → IsPlaced a b i x j → IsPlaced b c (i + n) y k → IsPlaced c d k z l
    → take l d ≡ take i a ++ (take n x ++ (y ++ z))
front_then {n = n} x y z most within p q r = three_placed (take n x) y z (front_placed n x within most p) q r
