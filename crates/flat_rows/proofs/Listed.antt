-- The values of a composite, over the list of its members.
use Rattle.std.proofs.Common.{◌≡◌, ◌+◌, ℕ, List, [], ◌∷◌, ◌++◌, refl, ap, ◌∙◌}
use Rattle.sbe_types.specs.declared.kind.Kind.{Comp, Row_of-Member, end_of-Member, more_of-Member, items-the_row-Member, items_hidden-the_row-Member-0}
use Rattle.sbe_types.specs.declared.kind.Member.{Member}
use Rattle.sbe_types.specs.Places.{begin_of, end_past}
use Rattle.sbe_types.proofs.KindRows.{row_in}
use Rattle.flat_rows.specs.Scalars.{Scalar, kind_scalars, member_scalars}

-- the values of members after members that end at e
abbrev pub listed_scalars : ℕ → ℕ → List Member → List Scalar
listed_scalars at e [] = []
listed_scalars at e (m ∷ ms) = kind_scalars m.kind (at + begin_of e m.offset) ++ listed_scalars at (end_past e m.offset m.kind) ms

row_scalars : (n : _) (row : Row_of-Member n) (at e : ℕ) → member_scalars at e row ≡ listed_scalars at e (items-the_row-Member n row)
row_scalars n end_of-Member at e = refl
row_scalars n (more_of-Member name offset kind rest) at e =
    ap (λ ss. kind_scalars kind (at + begin_of e offset) ++ ss) (row_scalars _ rest at (end_past e offset kind))

pub composite_scalars : (ms : List Member) (at : ℕ) → kind_scalars (Comp ms) at ≡ listed_scalars at 0 ms
composite_scalars ms at =
    let row = row_in (Comp ms) in
    row_scalars row.0 row.1 at 0 ∙ ap (listed_scalars at 0) (items_hidden-the_row-Member-0 ms)
