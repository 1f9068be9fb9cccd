-- Widths, and the offsets of parts in a block or composite. Constants take no bytes and are skipped. From SBE 1.0,
-- Message structure, and for widths Field encoding.
use Rattle.std.specs.Prelude.{ℕ, zero, suc, ◌+◌, ◌*◌, Bool, true, false, if◌then◌else◌, Option, Some, None, unwrap_or, List, [], ◌∷◌, take, drop}
use Rattle.sbe_types.specs.declared.kind.Kind.{Kind, Leaf, Enum, Set, Const, Comp', Row_of-Member, end_of-Member, more_of-Member}
use Rattle.sbe_types.specs.declared.kind.Member.{Member}
use Rattle.sbe_types.specs.declared.schema.Field.{Field}
use Rattle.sbe_types.specs.Numbers.{prim_width}

-- the kind is a constant, which takes no bytes
abbrev pub is_const : Kind → Bool
is_const (Const c) = true
is_const (Leaf l) = false
is_const (Enum l names) = false
is_const (Set p names) = false
is_const (Comp' n members) = false

-- the offset of a part after parts that end at e: its stated offset, or e
abbrev pub begin_of : ℕ → Option ℕ → ℕ
begin_of e offset = unwrap_or offset e

abbrev mutual
  -- how many bytes a value takes; a composite takes the bytes up to the end of its members
  pub width : Kind → ℕ
  width (Leaf l) = prim_width l.prim * l.length
  width (Enum l names) = prim_width l.prim
  width (Set p names) = prim_width p
  width (Const c) = 0
  width (Comp' n members) = row_end 0 members

  -- the end of a composite's members when the members before them end at e
  pub row_end : ℕ → {n : _} → Row_of-Member n → ℕ
  row_end e end_of-Member = e
  row_end e (more_of-Member name offset kind rest) = row_end (if is_const kind then e else begin_of e offset + width kind) rest

-- the end of the parts when one more is added
abbrev pub end_past : ℕ → Option ℕ → Kind → ℕ
end_past e offset kind = if is_const kind then e else begin_of e offset + width kind

-- the end of a list of members after members that end at e
abbrev pub members_end : ℕ → List Member → ℕ
members_end e [] = e
members_end e (m ∷ ms) = members_end (end_past e m.offset m.kind) ms

-- the end of fields after fields that end at e
abbrev pub fields_end : ℕ → List Field → ℕ
fields_end e [] = e
fields_end e (f ∷ fs) = fields_end (end_past e f.offset f.kind) fs

-- the offset of a part after parts that end at e; a constant has none
abbrev pub place_of : ℕ → Option ℕ → Kind → Option ℕ
place_of e offset kind = if is_const kind then None else Some (begin_of e offset)

-- the offset of a composite's member i, where the members before the first end at e
abbrev pub member_place : ℕ → List Member → ℕ → Option ℕ
member_place e [] i = None
member_place e (m ∷ ms) zero = place_of e m.offset m.kind
member_place e (m ∷ ms) (suc i) = member_place (end_past e m.offset m.kind) ms i

-- the offset of a level's field i, where the fields before the first end at e
abbrev pub field_place : ℕ → List Field → ℕ → Option ℕ
field_place e [] i = None
field_place e (f ∷ fs) zero = place_of e f.offset f.kind
field_place e (f ∷ fs) (suc i) = field_place (end_past e f.offset f.kind) fs i

-- the n bytes at an offset; none without an offset
abbrev pub bytes_at : Option ℕ → ℕ → List ℕ → List ℕ
bytes_at None n b = []
bytes_at (Some place) n b = take n (drop place b)
