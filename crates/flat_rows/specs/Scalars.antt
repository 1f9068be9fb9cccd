-- The values of a block in wire order, with composites flattened, so that only single numbers, texts, arrays, enums and
-- sets are left. From SBE 1.0, Field Encoding, Composite encodings, and Message schema attribute offset.
use Rattle.std.specs.Prelude.{ℕ, ◌+◌, if◌then◌else◌, List, [], ◌∷◌, ◌++◌}
use Rattle.sbe_types.specs.declared.kind.Kind.{Kind, Leaf, Enum, Set, Const, Comp', Row_of-Member, end_of-Member, more_of-Member}
use Rattle.sbe_types.specs.declared.schema.Field.{Field}
use Rattle.sbe_types.specs.Places.{width, is_const, begin_of, end_past}

-- a value of a kind other than a composite or a constant, and the offset of its bytes in the block
pub record Scalar : Type 0 where
  pub kind : Kind
  pub place : ℕ

-- the value of a kind at an offset
abbrev pub scalar_at : Kind → ℕ → Scalar
scalar_at kind place = record { kind = kind; place = place }

abbrev mutual
  -- the values of a kind that begins at an offset of the block; a constant has none
  pub kind_scalars : Kind → ℕ → List Scalar
  kind_scalars (Leaf l) at = scalar_at (Leaf l) at ∷ []
  kind_scalars (Enum l names) at = scalar_at (Enum l names) at ∷ []
  kind_scalars (Set p names) at = scalar_at (Set p names) at ∷ []
  kind_scalars (Const c) at = []
  kind_scalars (Comp' n members) at = member_scalars at 0 members

  -- the values of the members of a composite that begins at offset `at`, after members that end at e
  pub member_scalars : ℕ → ℕ → {n : _} → Row_of-Member n → List Scalar
  member_scalars at e end_of-Member = []
  member_scalars at e (more_of-Member name offset kind rest) =
      kind_scalars kind (at + begin_of e offset) ++ member_scalars at (if is_const kind then e else begin_of e offset + width kind) rest

-- the values of fields after fields that end at e
abbrev pub field_scalars : ℕ → List Field → List Scalar
field_scalars e [] = []
field_scalars e (f ∷ fs) = kind_scalars f.kind (begin_of e f.offset) ++ field_scalars (end_past e f.offset f.kind) fs

-- the values of the fields of a block
abbrev pub scalars_of : List Field → List Scalar
scalars_of fields = field_scalars 0 fields
