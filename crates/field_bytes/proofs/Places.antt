-- A piece over the bytes of a part.
use Rattle.std.proofs.Common.{◌≡◌, ◌+◌, ℕ, List, ◌++◌, length, take, drop, sym, ap, ◌∙◌}
use Rattle.std.proofs.lemmas.List.{drop-drop}
use borrow.Rule.Slice.PartMut.{put_mid}
use Rattle.field_bytes.specs.Laid.{laid_at}

-- the part that was lent is as long as the piece
pub part_laid : (at k : ℕ) (old piece : List ℕ) → length piece ≡ k → put_mid at k old piece ≡ laid_at at piece old
part_laid at k old piece long =
    ap (λ x. take at old ++ (piece ++ x)) (drop-drop k at old ∙ ap (λ n. drop (at + n) old) (sym long))
