-- What the bytes of a block at an offset of the body show of its fields, by their rows.
use Rattle.std.specs.Prelude.{◌≡◌, ◌≤◌, ℕ, ◌+◌, ◌-◌, not, ◌&&◌, false, true, if◌then◌else◌, Result, Ok, List, [], ◌∷◌, take, drop, ⊤}
use Rattle.sbe_types.specs.declared.schema.Field.{Field}
use Rattle.sbe_types.specs.Places.{width, is_const}
use Rattle.sbe_wire.specs.Faults.{Fault}
use Rattle.sbe_wire.specs.Reading.{◌>>=◌}
use Rattle.sbe_wire.specs.Versions.{is_alive}
use Rattle.layout_tables.specs.declared.rows.FieldRow.{FieldRow}
use Rattle.sbe_wire.specs.declared.mode.Mode.{Mode}
use Rattle.body_walk.specs.inner.Outcomes.{Piece, piece}
use Rattle.body_walk.specs.inner.Kinds.{part_check, IsReady}

-- whether a block shows a value of field i, by its row; a constant, or a field that isn't alive, isn't checked
abbrev pub field_check : Mode → Piece → ℕ → Field → FieldRow → Result Unit Fault
field_check mode b i f r =
    if is_alive mode.version r.since && not r.is_constant
    then part_check mode f.kind i (piece (b.at + r.place) (take (r.end - r.place) (drop r.place b.bytes)))
    else Ok tt

-- the same for fields, counted from i, up to the first fault
abbrev pub fields_check : Mode → Piece → ℕ → List Field → List FieldRow → Result Unit Fault
fields_check mode b i [] rows = Ok tt
fields_check mode b i (f ∷ fs) [] = Ok tt
fields_check mode b i (f ∷ fs) (r ∷ rs) = field_check mode b i f r >>= (λ _. fields_check mode b (i + 1) fs rs)

-- the row is the field's, and if the field is alive, its bytes are within a block of n bytes
pub record IsFieldRow (version n : ℕ) (f : Field) (r : FieldRow) : Type 0 where
  pub ready : IsReady f.kind
  pub since : r.since ≡ f.since
  pub constant : r.is_constant ≡ is_const f.kind
  pub wide : r.is_constant ≡ false → r.end ≡ r.place + width f.kind
  pub within : is_alive version r.since ≡ true → r.is_constant ≡ false → r.end ≤ n

-- each row is that of its field, as above
abbrev pub AreFieldRows : ℕ → ℕ → List Field → List FieldRow → Type 0
AreFieldRows version n [] [] = ⊤
AreFieldRows version n [] (r ∷ rs) = ⊥
AreFieldRows version n (f ∷ fs) [] = ⊥
AreFieldRows version n (f ∷ fs) (r ∷ rs) = IsFieldRow version n f r × AreFieldRows version n fs rs
