-- Blocks that are 00 wherever there is no value, by their values in wire order. Own profile.
use Rattle.std.specs.Prelude.{ℕ, ◌+◌, ◌≤◌, List, [], ◌∷◌, drop}
use Rattle.sbe_types.specs.Places.{width}
use Rattle.flat_rows.specs.declared.rows.FlatRow.{FlatRow}
use Rattle.flat_rows.specs.Scalars.{Scalar}
use Rattle.flat_rows.specs.BlockChecks.{bytes_there}
use Rattle.clean_bodies.specs.Clean.{AreZeros, between, IsCleanKind}

-- values after values that end at e: only zeros are before each, its bytes are clean, and only zeros follow the last
abbrev pub AreCleanValues : ℕ → List Scalar → List ℕ → Type 0
AreCleanValues e [] b = AreZeros (drop e b)
AreCleanValues e (s ∷ ss) b =
    (e ≤ s.place) × AreZeros (between e s.place b) × IsCleanKind s.kind (bytes_there s.kind s.place b) × AreCleanValues (s.place + width s.kind) ss b

-- The same for the value of one row.
pub record IsCleanRow (e : ℕ) (row : FlatRow) (b : List ℕ) : Type 0 where
  pub after : e ≤ row.place
  pub gap : AreZeros (between e row.place b)
  pub clean : IsCleanKind row.kind (bytes_there row.kind row.place b)
