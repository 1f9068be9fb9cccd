-- Bytes that are placed one after another, and over one another.
use Rattle.std.proofs.Common.{◌≡◌, ℕ, ◌+◌, ◌-◌, ◌≤◌, List, ◌++◌, length, take, drop, ap, sym, ◌∙◌, arith, append_assoc, length-append, length-take-le, length-drop, take-take, take_all, take-append-drop, drop_at}
use Rattle.std.proofs.lemmas.List.{drop-drop}
use Rattle.std.proofs.Math.Seq.{take-append-add}
use Rattle.byte_places.specs.Places.{IsPlaced, IsPut}

-- bytes that are placed where others end
pub placed_after : {a b c : List ℕ} {i j k : ℕ} (x y : List ℕ) → IsPlaced a b i x j → IsPlaced b c j y k → IsPlaced a c i (x ++ y) k
placed_after {a} {i = i} x y p q = record {
  front = q.front ∙ ap (λ l. l ++ y) p.front ∙ append_assoc (take i a) x y;
  moved = omega (arith, p.moved, q.moved, length-append x y);
  long = q.long ∙ p.long;
}

-- of bytes that were placed, the first n
pub front_placed : {a b : List ℕ} {i j : ℕ} (n : ℕ) (x : List ℕ) → i ≤ length a → n ≤ length x → IsPlaced a b i x j → IsPlaced a b i (take n x) (i + n)
front_placed {a} {b} {i} {j} n x within most p =
    let long : length (take i a) ≡ i = length-take-le i a within in
    let less : i + n ≤ j = omega (arith, most, p.moved) in
    record {
      front = sym (take-take (i + n) j b less) ∙ ap (take (i + n)) p.front ∙ ap (λ m. take (m + n) (take i a ++ x)) (sym long) ∙ take-append-add (take i a) x n;
      moved = omega (arith, length-take-le n x most);
      long = p.long;
    }

-- the first n bytes and the last n, which meet or overlap, are all
pub ends_placed : {a b c : List ℕ} {i j k : ℕ} (n : ℕ) (x : List ℕ) → i ≤ length a → n ≤ length x → length x ≤ n + n → IsPlaced a b i (take n x) j
    → IsPlaced b c (i + (length x - n)) (take n (drop (length x - n) x)) k → IsPlaced a c i x k
ends_placed {a} {b} {c} {i} {j} {k} n x within most covered p q =
    let less = length x - n in
    let first : IsPlaced a b i (take less (take n x)) (i + less) = front_placed less (take n x) within (omega (arith, length-take-le n x most)) p in
    let both = placed_after (take less (take n x)) (take n (drop less x)) first q in
    let last : take n (drop less x) ≡ drop less x = take_all n (drop less x) (omega (arith, length-drop less x)) in
    let whole : take less (take n x) ++ take n (drop less x) ≡ x =
    ap (λ l. l ++ take n (drop less x)) (take-take less n x (omega arith)) ∙ (ap (λ l. take less x ++ l) last ∙ take-append-drop less x) in
    record {
      front = both.front ∙ ap (λ l. take i a ++ l) whole;
      moved = both.moved ∙ ap (λ l. i + length l) whole;
      long = both.long;
    }

-- what is the same after an offset is the same after a later one
later_rest : (i j : ℕ) (a b : List ℕ) → i ≤ j → drop i b ≡ drop i a → drop j b ≡ drop j a
later_rest i j a b later same =
    let sum : j ≡ i + (j - i) = omega arith in
    ap (λ n. drop n b) sum ∙ sym (drop-drop (j - i) i b) ∙ ap (drop (j - i)) same ∙ drop-drop (j - i) i a ∙ ap (λ n. drop n a) (sym sum)

-- the same with what follows them
pub ends_put : {a b c : List ℕ} {i j k : ℕ} (n : ℕ) (x : List ℕ) → i ≤ length a → n ≤ length x → length x ≤ n + n → IsPut a b i (take n x) j
    → IsPut b c (i + (length x - n)) (take n (drop (length x - n) x)) k → IsPut a c i x k
ends_put {a} {b} {c} {i} {j} {k} n x within most covered p q =
    let less = length x - n in
    let last : length (take n (drop less x)) ≡ n = length-take-le n (drop less x) (omega (arith, length-drop less x)) in
    record {
      placed = ends_placed n x within most covered p.placed q.placed;
      rest = q.rest ∙ later_rest j k a b (omega (arith, p.placed.moved, q.placed.moved, length-take-le n x most, last)) p.rest;
    }

-- what follows a chunk that was put into a list
pub after_chunk : (at n : ℕ) (room front put : List ℕ) → put ≡ take at room ++ (front ++ drop (length front) (drop at room)) → length front ≡ n → at + n ≤ length room → drop (at + n) put ≡ drop (at + n) room
after_chunk at n room front put is long within =
    let more = drop (length front) (drop at room) in
    let both : length (take at room ++ front) ≡ at + n = length-append (take at room) front ∙ omega (arith, length-take-le at room (omega arith), long) in
    ap (drop (at + n)) (is ∙ sym (append_assoc (take at room) front more))
    ∙ drop_at (take at room ++ front) more (at + n) (omega (arith, both))
    ∙ drop-drop (length front) at room ∙ ap (λ m. drop (at + m) room) long
