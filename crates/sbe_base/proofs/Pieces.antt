-- Bytes that are given in pieces.
use Rattle.std.proofs.Common.{◌≡◌, ℕ, ◌+◌, ◌-◌, ◌<◌, min, List, [], ◌++◌, length, take, drop, sym, ap, ◌∙◌, arith, length-drop}
use Rattle.std.proofs.lemmas.List.{take-append-drop, drop-drop, nil_from_length}
use Rattle.std.proofs.lemmas.Slice.{between_to_end}

-- the bytes from a place on, as a slice of the held bytes shows them
from_there : (bytes held : List ℕ) (at : ℕ) → held ≡ bytes → take (length held - at) (drop at held) ≡ drop at bytes
from_there bytes held at same = between_to_end held at (length held) (omega arith) ∙ ap (λ r. drop at r) same

-- the bytes left are the piece that was given and the bytes left after it
pub piece_then_rest : (bytes held given : List ℕ) (at n : ℕ) → held ≡ bytes → take n given ≡ take n (take (length held - at) (drop at held)) → drop at bytes ≡ take n given ++ drop (at + n) bytes
piece_then_rest bytes held given at n same taken =
    let front : take n given ≡ take n (drop at bytes) = taken ∙ ap (λ r. take n r) (from_there bytes held at same) in
    sym (take-append-drop n (drop at bytes)) ∙ ap (λ r. r ++ drop n (drop at bytes)) (sym front) ∙ ap (λ r. take n given ++ r) (drop-drop n at bytes)

-- an empty piece comes only at the end, or where there is no room for it
pub ended : (bytes held : List ℕ) (at n most room : ℕ) → held ≡ bytes → 0 < most → n ≡ min most (min room (length (take (length held - at) (drop at held)))) → n ≡ 0 → 0 < room → drop (at + n) bytes ≡ []
ended bytes held at n most room same some count nothing wide =
    let rest : length (drop at bytes) ≡ length bytes - at = length-drop at bytes in
    let after : length (drop (at + n) bytes) ≡ length bytes - (at + n) = length-drop (at + n) bytes in
    let exact : n ≡ min most (min room (length (drop at bytes))) = count ∙ ap (λ r. min most (min room (length r))) (from_there bytes held at same) in
    nil_from_length _ (omega arith)
