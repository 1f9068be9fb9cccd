-- A stream, of which so many bytes are within the limit, and what is held of it.
use Rattle.std.proofs.Common.{◌≡◌, ℕ, ◌+◌, ◌-◌, ◌≤◌, true, false, List, [], ◌∷◌, ◌++◌, length, take, Option, Some, sym, ap, ◌∙◌, arith, append_assoc, length-append}
use Rattle.std.specs.Prelude.{nat_lt}
use Rattle.std.proofs.lemmas.Bool.Decides.{nat_tests}
use Rattle.std.proofs.lemmas.List.{append-nil, take_all}
use Rattle.std.proofs.Math.Seq.{take-append_seam, take-append-add}
use Rattle.frame_stream.specs.Window.{HeldState, Moves}

-- how much of the stream is within the limit
abbrev pub most : HeldState → ℕ
most g = g.limit + length g.bytes - g.taken

-- what was held and left is what is held, and beyond it, and left
pub stream_is : (g n : HeldState) (l l' beyond : List ℕ) → Moves g n (Some l) (Some l') beyond → g.bytes ++ l ≡ n.bytes ++ (beyond ++ l')
stream_is g n l l' beyond m =
    ap (λ x. g.bytes ++ x) (m.consumed ∙ append_assoc m.more beyond l') ∙ sym (append_assoc g.bytes m.more (beyond ++ l')) ∙ ap (λ x. x ++ (beyond ++ l')) (sym m.grown)

-- the bytes that are held are within the limit
pub held_within : (g n : HeldState) (l r : Option (List ℕ)) (beyond : List ℕ) → Moves g n l r beyond → length n.bytes ≤ most g
held_within g n l r beyond m = omega (arith, m.taken, m.within, m.limit, ap length m.grown, length-append g.bytes m.more)

-- all of the stream is held, and is within the limit
pub all_held : (g n : HeldState) (l l' beyond : List ℕ) → Moves g n (Some l) (Some l') beyond → beyond ≡ [] → l' ≡ [] →
    (g.bytes ++ l ≡ n.bytes) × (take (most g) (g.bytes ++ l) ≡ n.bytes) × (nat_lt (most g) (length (g.bytes ++ l)) ≡ false)
all_held g n l l' beyond m nothing over =
    let all : g.bytes ++ l ≡ n.bytes = stream_is g n l l' beyond m ∙ ap (λ x. n.bytes ++ (x ++ l')) nothing ∙ ap (λ x. n.bytes ++ x) over ∙ append-nil n.bytes in
    let within = held_within g n (Some l) (Some l') beyond m in
    let size : length (g.bytes ++ l) ≡ length n.bytes = ap length all in
    (all, ap (take (most g)) all ∙ take_all (most g) n.bytes within, grind (arith, nat_tests, size, within))

-- what is held is all that is within the limit, and one more byte came
pub one_beyond : (g n : HeldState) (l l' beyond : List ℕ) (x : ℕ) → g.taken ≤ g.limit → Moves g n (Some l) (Some l') beyond → beyond ≡ x ∷ [] → n.taken ≡ n.limit →
    (take (most g) (g.bytes ++ l) ≡ n.bytes) × (nat_lt (most g) (length (g.bytes ++ l)) ≡ true)
one_beyond g n l l' beyond x low m one full =
    let all : g.bytes ++ l ≡ n.bytes ++ (x ∷ l') = stream_is g n l l' beyond m ∙ ap (λ y. n.bytes ++ (y ++ l')) one in
    let exact : most g ≡ length n.bytes = omega (arith, low, full, m.taken, m.limit, ap length m.grown, length-append g.bytes m.more) in
    let size : length (g.bytes ++ l) ≡ length n.bytes + (1 + length l') = omega (arith, ap length all, length-append n.bytes (x ∷ l')) in
    (ap (take (most g)) all ∙ ap (λ k. take k (n.bytes ++ (x ∷ l'))) exact ∙ take-append_seam n.bytes (x ∷ l'), grind (arith, nat_tests, size, exact))

-- the stream within the limit begins with what is held
pub front_held : (g n : HeldState) (l l' : List ℕ) → Moves g n (Some l) (Some l') [] → take (most g) (g.bytes ++ l) ≡ n.bytes ++ take (most g - length n.bytes) l'
front_held g n l l' m =
    let within = held_within g n (Some l) (Some l') [] m in
    let whole : most g ≡ length n.bytes + (most g - length n.bytes) = omega (arith, within) in
    ap (take (most g)) (stream_is g n l l' [] m) ∙ ap (λ k. take k (n.bytes ++ l')) whole ∙ take-append-add n.bytes l' (most g - length n.bytes)
