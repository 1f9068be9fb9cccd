-- Bytes that are copied in blocks, of which only the first count.
use Rattle.std.proofs.Common.{◌≡◌, ℕ, zero, suc, ◌+◌, ◌≤◌, List, [], ◌∷◌, ◌++◌, take, drop, refl, sym, ap, ◌∙◌, take-take}

-- what agrees in the first bytes agrees in fewer
pub fewer_taken : (n k : ℕ) (a b : List ℕ) → n ≤ k → take k a ≡ take k b → take n a ≡ take n b
fewer_taken n k a b less same = sym (take-take n k a less) ∙ ap (take n) same ∙ take-take n k b less
