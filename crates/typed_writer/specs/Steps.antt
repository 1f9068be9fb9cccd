-- What each call of a writer does to what the buffer holds.
use Rattle.std.specs.Prelude.{◌≡◌, ℕ, ◌+◌, ◌-◌, ◌<◌, ◌≤◌, ◌&&◌, ◌||◌, Bool, true, false, not, if◌then◌else◌, Option, Some, None, List, [], ◌∷◌, length, drop, replicate, slice_get, slice_set, codes, pos}
use Rattle.std.specs.Option.{option_and_then, option_map_or}
use Rattle.sbe_types.specs.declared.kind.Order.{Order}
use Rattle.sbe_types.specs.declared.message.Value.{Value}
use Rattle.sbe_types.specs.declared.kind.Kind.{Kind, Leaf, Enum, Set, Const, Comp'}
use Rattle.sbe_types.specs.declared.schema.Field.{Field}
use Rattle.sbe_types.specs.declared.kind.Member.{Member}
use Rattle.sbe_types.specs.declared.schema.DataField.{DataField}
use Rattle.sbe_types.specs.declared.schema.Level.{Level}
use Rattle.sbe_types.specs.declared.schema.WireSchema.{WireSchema}
use Rattle.sbe_types.specs.declared.message.DataVal.TheVariants as dataval
use Rattle.sbe_types.specs.declared.path.Step.TheVariants as way
use Rattle.sbe_types.specs.Places.{width, members_end, field_place}
use Rattle.sbe_types.specs.Numbers.{prim_width}
use Rattle.sbe_types.specs.Shown.{is_optional, is_octets, admits}
use Rattle.sbe_types.specs.Wire.{both, wire_bytes}
use Rattle.sbe_wire.specs.Canonical.{named_bytes, header_numbers, dimension_numbers, part_bytes}
use Rattle.sbe_wire.specs.Misfit.{Misfit, misfit_in}
use Rattle.sbe_wire.specs.Named.{is_admitted}
use Rattle.schema_facts.specs.Levels.{fields_at, groups_at, parts_at, root_of}
use Rattle.layout_tables.specs.Parts.{dim_at, group_number}
use Rattle.kind_bytes.specs.Misfits.{field_misfit}
use Rattle.typed_writer.specs.declared.room.Full.{Full}
use Rattle.typed_writer.specs.declared.stack.Frame.{Frame}
use Rattle.typed_writer.specs.declared.states.StartErr.{StartErr}
use Rattle.typed_writer.specs.declared.states.StartErr.TheVariants as start_err
use Rattle.typed_writer.specs.declared.states.TailErr.{TailErr}
use Rattle.typed_writer.specs.declared.states.TailErr.TheVariants as tail_err
use Rattle.typed_writer.specs.declared.stack.Frame.TheVariants.{Fields, Tail, Entries}
use Rattle.kind_bytes.specs.Members.{followed_by}
use Rattle.typed_writer.specs.Empty.{empty_block}
use Rattle.typed_writer.specs.Held.{Held, spliced}
use Rattle.typed_writer.specs.States.{level_of, parts_done, entries_left, block_at}

-- ---- blocks

-- the empty block of level n
abbrev pub block_in : WireSchema → ℕ → Option (List ℕ)
block_in schema n = empty_block schema.order (block_at schema n) (fields_at schema n)

-- none of the fields of level n is set
abbrev pub none_set : WireSchema → ℕ → List Bool
none_set schema n = replicate (length (fields_at schema n)) false

-- an empty block is begun, of an entry of the innermost writer's group
pub record Opens (schema : WireSchema) (old new : Held) : Type 0 where
  pub bytes : followed_by old.bytes (block_in schema (level_of old.frames)) ≡ Some new.bytes
  pub frames : new.frames ≡ Fields (level_of old.frames) ∷ Entries (level_of old.frames) (entries_left old.frames - 1) ∷ drop 1 old.frames
  pub at : new.at ≡ length old.bytes
  pub set : new.set ≡ none_set schema (level_of old.frames)
  pub limit : new.limit ≡ old.limit

-- ---- fields

-- The field has to be set: it isn't a constant, nor an optional enum, nor an optional leaf other than octets.
abbrev pub must_be_set : Kind → Bool
must_be_set (Leaf l) = not (is_optional l.presence) || is_octets l.shape
must_be_set (Enum l names) = not (is_optional l.presence)
must_be_set (Set p names) = true
must_be_set (Const c) = false
must_be_set (Comp' n members) = true

-- the first field, counted from i, that has to be set and isn't
abbrev pub unset_from : ℕ → List Field → List Bool → Option ℕ
unset_from i [] bs = None
unset_from i (f ∷ fs) [] = None
unset_from i (f ∷ fs) (b ∷ bs) = if must_be_set f.kind && not b then Some i else unset_from (i + 1) fs bs

-- the first field of level n that has to be set and isn't
abbrev pub first_unset : WireSchema → ℕ → List Bool → Option ℕ
first_unset schema n set = unset_from 0 (fields_at schema n) set

-- the bytes of a value are put at an offset, and everything else is as it was
pub record IsWritten (order : Order) (kind : Kind) (v : Value) (at : ℕ) (old new : List ℕ) : Type 0 where
  pub piece : List ℕ
  pub wire : wire_bytes order kind v ≡ Some piece
  pub wide : length piece ≡ width kind
  pub bytes : new ≡ spliced old at piece

-- A value is put at the offset of a field of the block, and counts as set; everything else is as it was.
pub record Sets (order : Order) (kind : Kind) (v : Value) (place i : ℕ) (old new : Held) : Type 0 where
  pub written : IsWritten order kind v (old.at + place) old.bytes new.bytes
  pub set : new.set ≡ slice_set old.set i true
  pub frames : new.frames ≡ old.frames
  pub at : new.at ≡ old.at
  pub limit : new.limit ≡ old.limit

-- field i of level n is set to a value
abbrev pub SetsField : WireSchema → ℕ → ℕ → Value → Held → Held → Type 0
SetsField schema n i v old new =
    (f : Field) × (place : ℕ) × (slice_get (fields_at schema n) i ≡ Some f) × (field_place 0 (fields_at schema n) i ≡ Some place) × Sets schema.order f.kind v place i old new

-- why field i of level n can't be set to a value, if it can't
abbrev pub misfit_at : WireSchema → ℕ → ℕ → Value → Option Misfit
misfit_at schema n i v = option_and_then (λ (f : Field). misfit_in (way.Part i) (field_misfit f.kind v)) (slice_get (fields_at schema n) i)

-- ---- writers

-- the innermost writer continues as another
abbrev pub goes_on_as : Held → Frame → Held
goes_on_as held frame = record held { frames = frame ∷ drop 1 held.frames }

-- the innermost writer is done
abbrev pub ends : Held → Held
ends held = record held { frames = drop 1 held.frames }

-- `more` bytes don't fit
pub record IsFull (held : Held) (more : ℕ) (full : Full) : Type 0 where
  pub over : held.limit < length held.bytes + more
  pub needed : full.needed ≡ length held.bytes + more
  pub limit : full.limit ≡ held.limit

-- ---- the header and the root

-- the header of message t
abbrev pub header_in : WireSchema → ℕ → Option (List ℕ)
header_in schema t = option_and_then (λ (root : Level). named_bytes schema.order (header_numbers schema root) 0 schema.header.members) (slice_get schema.messages t)

-- how many bytes the header and the block of message t have
abbrev pub root_size : WireSchema → ℕ → ℕ
root_size schema t = members_end 0 schema.header.members + block_at schema (root_of schema t)

-- the header of message t and the empty block of its root were begun, and there is nothing else
pub record Begins (schema : WireSchema) (t : ℕ) (old new : Held) : Type 0 where
  pub bytes : both (header_in schema t) (block_in schema (root_of schema t)) ≡ Some new.bytes
  pub frames : new.frames ≡ Fields (root_of schema t) ∷ []
  pub at : new.at ≡ members_end 0 schema.header.members
  pub set : new.set ≡ none_set schema (root_of schema t)
  pub limit : new.limit ≡ old.limit

-- Why message t of the schema can't be begun with at most `limit` bytes: there is no such message, or its header and
-- block don't fit.
abbrev pub StartRefused : WireSchema → ℕ → ℕ → StartErr → Type 0
StartRefused schema t limit start_err.Template = length schema.messages ≤ t
StartRefused schema t limit (start_err.Full full) =
    (t < length schema.messages) × (limit < root_size schema t) × (full.needed ≡ root_size schema t) × (full.limit ≡ limit)

-- ---- groups and data

-- the dimension of the group whose level is number g, with the count `many`
abbrev pub dimension_in : WireSchema → ℕ → ℕ → Option (List ℕ)
dimension_in schema g many = option_and_then (λ (dim : List Member). named_bytes schema.order (dimension_numbers (block_at schema g) many) 0 dim) (dim_at schema g)

-- how many bytes that dimension has
abbrev pub dimension_size : WireSchema → ℕ → ℕ
dimension_size schema g = option_map_or (λ (dim : List Member). members_end 0 dim) (dim_at schema g) 0

-- the group may have `many` entries
abbrev pub admits_entries : WireSchema → ℕ → ℕ → Bool
admits_entries schema g many = option_map_or (λ (dim : List Member). is_admitted dim (codes "numInGroup") many) (dim_at schema g) false

-- the number of the next group's level
abbrev pub next_group : WireSchema → List Frame → ℕ
next_group schema frames = group_number schema (level_of frames) (parts_done frames)

-- the dimension of the next group was appended; its entries are still to come
pub record Groups (schema : WireSchema) (many : ℕ) (old new : Held) : Type 0 where
  pub admitted : admits_entries schema (next_group schema old.frames) many ≡ true
  pub bytes : followed_by old.bytes (dimension_in schema (next_group schema old.frames) many) ≡ Some new.bytes
  pub frames : new.frames ≡ Entries (next_group schema old.frames) many ∷ Tail (level_of old.frames) (parts_done old.frames + 1) ∷ drop 1 old.frames
  pub limit : new.limit ≡ old.limit

-- Why group number g of `many` entries can't be begun: it may not have as many, or its dimension doesn't fit.
abbrev pub GroupRefused : WireSchema → ℕ → ℕ → Held → TailErr → Type 0
GroupRefused schema g many held tail_err.Count = admits_entries schema g many ≡ false
GroupRefused schema g many held tail_err.Length = ⊥
GroupRefused schema g many held (tail_err.Full full) = (admits_entries schema g many ≡ true) × IsFull held (dimension_size schema g) full

-- the next data part of the innermost writer's level
abbrev pub next_data : WireSchema → List Frame → Option DataField
next_data schema frames = slice_get (parts_at schema (level_of frames)) (parts_done frames - length (groups_at schema (level_of frames)))

-- the bytes of the next data part, with its length number
abbrev pub data_in : WireSchema → List Frame → List ℕ → Option (List ℕ)
data_in schema frames bytes = option_and_then (λ (part : DataField). part_bytes schema.order part (dataval.Bytes bytes)) (next_data schema frames)

-- the next data part may have `many` bytes
abbrev pub admits_data : WireSchema → List Frame → ℕ → Bool
admits_data schema frames many = option_map_or (λ (part : DataField). admits part.length (pos many)) (next_data schema frames) false

-- the next data part was appended
pub record Adds (schema : WireSchema) (added : List ℕ) (old new : Held) : Type 0 where
  pub admitted : admits_data schema old.frames (length added) ≡ true
  pub bytes : followed_by old.bytes (data_in schema old.frames added) ≡ Some new.bytes
  pub frames : new.frames ≡ Tail (level_of old.frames) (parts_done old.frames + 1) ∷ drop 1 old.frames
  pub limit : new.limit ≡ old.limit

-- Why this data part can't have `many` bytes: it may not have as many, or they don't fit.
abbrev pub PartRefused : DataField → ℕ → Held → TailErr → Type 0
PartRefused part many held tail_err.Count = ⊥
PartRefused part many held tail_err.Length = admits part.length (pos many) ≡ false
PartRefused part many held (tail_err.Full full) = (admits part.length (pos many) ≡ true) × IsFull held (prim_width part.length.prim + many) full

-- Why the next data part can't have `many` bytes: it may not have as many, or they don't fit.
abbrev pub DataRefused : WireSchema → ℕ → Held → TailErr → Type 0
DataRefused schema many held e = (part : DataField) × (next_data schema held.frames ≡ Some part) × PartRefused part many held e
