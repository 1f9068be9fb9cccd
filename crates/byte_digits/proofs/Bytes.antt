-- Parts of bytes are bytes.
use Rattle.std.proofs.Common.{ℕ, zero, suc, List, [], ◌∷◌, ◌++◌, take, drop, arith, take-append-drop}
use Rattle.byte_digits.specs.Digits.{IsBytes}

pub IsBytes-tail : (b : ℕ) (bytes : List ℕ) → IsBytes (b ∷ bytes) → IsBytes bytes
IsBytes-tail b bytes h i = h (suc i)

pub IsBytes-back : (front back : List ℕ) → IsBytes (front ++ back) → IsBytes back
IsBytes-back [] back h = h
IsBytes-back (b ∷ front) back h = IsBytes-back front back (IsBytes-tail b (front ++ back) h)

pub IsBytes-front : (front back : List ℕ) → IsBytes (front ++ back) → IsBytes front
IsBytes-front [] back h i = omega arith
IsBytes-front (b ∷ front) back h zero = h zero
IsBytes-front (b ∷ front) back h (suc i) = IsBytes-front front back (IsBytes-tail b (front ++ back) h) i

pub IsBytes-joined : (front back : List ℕ) → IsBytes front → IsBytes back → IsBytes (front ++ back)
IsBytes-joined [] back f h i = h i
IsBytes-joined (b ∷ front) back f h zero = f zero
IsBytes-joined (b ∷ front) back f h (suc i) = IsBytes-joined front back (IsBytes-tail b front f) h i

pub IsBytes-take : (n : ℕ) (bytes : List ℕ) → IsBytes bytes → IsBytes (take n bytes)
IsBytes-take n bytes h = IsBytes-front (take n bytes) (drop n bytes) (rw (take-append-drop n bytes) h)

pub IsBytes-drop : (n : ℕ) (bytes : List ℕ) → IsBytes bytes → IsBytes (drop n bytes)
IsBytes-drop n bytes h = IsBytes-back (take n bytes) (drop n bytes) (rw (take-append-drop n bytes) h)
