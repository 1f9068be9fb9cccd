-- The pieces of a composite, over the list of its members.
use Rattle.std.proofs.Common.{◌≡◌, ◌+◌, ℕ, Bool, true, false, List, [], ◌∷◌, ◌++◌, refl, ap, ◌∙◌}
use Rattle.std.specs.Prelude.{codes}
use Rattle.sbe_types.specs.declared.kind.Kind.{Comp, Row_of-Member, end_of-Member, more_of-Member, items-the_row-Member, items_hidden-the_row-Member-0}
use Rattle.sbe_types.specs.declared.kind.Member.{Member}
use Rattle.sbe_types.specs.Places.{begin_of, end_past}
use Rattle.sbe_types.proofs.KindRows.{row_in}
use Rattle.json_rows.specs.Texts.{key_of}
use Rattle.json_rows.specs.Pieces.{Piece, literal, kind_pieces, member_pieces}

-- the pieces of members after members that end at e, with the closing bracket
abbrev pub listed_pieces : Bool → ℕ → ℕ → List Member → List Piece
listed_pieces later at e [] = literal (codes "}") ∷ []
listed_pieces later at e (m ∷ ms) = literal (key_of later m.name) ∷ (kind_pieces m.kind (at + begin_of e m.offset) ++ listed_pieces true at (end_past e m.offset m.kind) ms)

row_pieces : (n : _) (row : Row_of-Member n) (later : Bool) (at e : ℕ) → member_pieces later at e row ≡ listed_pieces later at e (items-the_row-Member n row)
row_pieces n end_of-Member later at e = refl
row_pieces n (more_of-Member name offset kind rest) later at e =
    ap (λ ps. literal (key_of later name) ∷ (kind_pieces kind (at + begin_of e offset) ++ ps)) (row_pieces _ rest true at (end_past e offset kind))

pub composite_pieces : (ms : List Member) (at : ℕ) → kind_pieces (Comp ms) at ≡ literal (codes "{") ∷ listed_pieces false at 0 ms
composite_pieces ms at =
    let row = row_in (Comp ms) in
    ap (λ ps. literal (codes "{") ∷ ps) (row_pieces row.0 row.1 false at 0 ∙ ap (listed_pieces false at 0) (items_hidden-the_row-Member-0 ms))
