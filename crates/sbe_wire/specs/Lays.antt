-- How a message lies in a body. From SBE 1.0, Message structure, Repeating group encoding, Variable-length data, and
-- Schema extension mechanism. Own profile: the floor, and that no bytes are left at a version that the schema knows.
use Rattle.std.specs.Prelude.{◌≡◌, ℕ, ◌≤◌, Some, List, [], ◌∷◌, ◌++◌, length, take, drop, IsTrue, pos, ⊤, slice_get, codes}
use Rattle.std.specs.Bool.{MatchBool}
use Rattle.sbe_types.specs.declared.kind.Order.{Order}
use Rattle.sbe_types.specs.declared.kind.Member.{Member}
use Rattle.sbe_types.specs.declared.schema.Field.{Field}
use Rattle.sbe_types.specs.declared.schema.DataField.{DataField}
use Rattle.sbe_types.specs.declared.schema.Group.{Group, Group'}
use Rattle.sbe_types.specs.declared.schema.Level.{Level, Level', out-Level, Row_of-Group, end_of-Group, more_of-Group}
use Rattle.sbe_types.specs.declared.schema.WireSchema.{WireSchema}
use Rattle.sbe_types.specs.declared.message.Value.{Value}
use Rattle.sbe_types.specs.declared.message.Value.TheVariants as value
use Rattle.sbe_types.specs.declared.message.DataVal.{DataVal}
use Rattle.sbe_types.specs.declared.message.DataVal.TheVariants as dataval
use Rattle.sbe_types.specs.declared.message.Block.{Block, out-Block}
use Rattle.sbe_types.specs.declared.message.GroupVal.{GroupVal}
use Rattle.sbe_types.specs.declared.message.GroupVal.TheVariants as groupval
use Rattle.sbe_types.specs.declared.message.Msg.{Msg}
use Rattle.sbe_types.specs.Numbers.{number_of, natural, prim_width}
use Rattle.sbe_types.specs.Places.{width, begin_of, end_past, members_end}
use Rattle.sbe_types.specs.Shown.{admits}
use Rattle.sbe_types.specs.Shows.{Shows}
use Rattle.sbe_wire.specs.declared.mode.Mode.{Mode}
use Rattle.sbe_wire.specs.Versions.{is_known, is_alive, floor, mode_of, BlockForm, form_of}
use Rattle.sbe_wire.specs.Named.{number_named, is_admitted}

-- ---- concatenated pieces of bytes

-- the bytes are those of the items, concatenated
abbrev pub IsConcatenation : {X : Type 0} → (X → List ℕ → Type 0) → List X → List ℕ → Type 0
IsConcatenation R [] b = b ≡ []
IsConcatenation R (x ∷ xs) b = (front : List ℕ) × (back : List ℕ) × (b ≡ front ++ back) × R x front × IsConcatenation R xs back

-- the bytes are those of the pairs, concatenated
abbrev pub IsConcatenationOfBoth : {X Y : Type 0} → (X → Y → List ℕ → Type 0) → List X → List Y → List ℕ → Type 0
IsConcatenationOfBoth R [] [] b = b ≡ []
IsConcatenationOfBoth R [] (y ∷ ys) b = ⊥
IsConcatenationOfBoth R (x ∷ xs) [] b = ⊥
IsConcatenationOfBoth R (x ∷ xs) (y ∷ ys) b = (front : List ℕ) × (back : List ℕ) × (b ≡ front ++ back) × R x y front × IsConcatenationOfBoth R xs ys back

-- ---- a block

-- a field after fields that end at e: the bytes at its offset show its value, or it isn't alive and is absent
abbrev pub FieldLays : Mode → ℕ → Field → Value → List ℕ → Type 0
FieldLays mode e f v b =
    MatchBool (is_alive mode.version f.since) (Shows mode.order mode.known f.kind v (take (width f.kind) (drop (begin_of e f.offset) b))) (v ≡ value.Absent)

-- one value for each field, after fields that end at e
abbrev pub FieldsLay : Mode → ℕ → List Field → List Value → List ℕ → Type 0
FieldsLay mode e [] [] b = ⊤
FieldsLay mode e [] (v ∷ vs) b = ⊥
FieldsLay mode e (f ∷ fs) [] b = ⊥
FieldsLay mode e (f ∷ fs) (v ∷ vs) b =
    FieldLays mode e f v b × FieldsLay mode (end_past e f.offset f.kind) fs vs b

-- the block reaches the floor, and its fields lie in it; what follows them is skipped
abbrev pub BlockLays : Mode → List Field → List Value → List ℕ → Type 0
BlockLays mode fields values b = (floor mode.version fields ≤ length b) × FieldsLay mode 0 fields values b

-- ---- data and groups

-- a length number that is admitted, and as many bytes as it says
pub record DataLies (order : Order) (part : DataField) (bytes b : List ℕ) : Type 0 where
  pub before : List ℕ
  pub whole : b ≡ before ++ bytes
  pub wide : length before ≡ prim_width part.length.prim
  pub counts : natural (number_of order part.length.prim before) ≡ length bytes
  pub admitted : IsTrue (admits part.length (pos (length bytes)))

-- data that is alive, or absent data, which has no bytes
abbrev pub DataLays : Order → ℕ → DataField → DataVal → List ℕ → Type 0
DataLays order version part v b =
    MatchBool (is_alive version part.since)
    ((bytes : List ℕ) × (v ≡ dataval.Bytes bytes) × DataLies order part bytes b)
    ((v ≡ dataval.Absent) × (b ≡ []))

-- the dimension gives a block length and a count, and the count is admitted
pub record DimensionLays (order : Order) (dim : List Member) (block count : ℕ) (b : List ℕ) : Type 0 where
  pub wide : length b ≡ members_end 0 dim
  pub says_block : number_named order dim (codes "blockLength") b ≡ block
  pub says_count : number_named order dim (codes "numInGroup") b ≡ count
  pub admitted : IsTrue (is_admitted dim (codes "numInGroup") count)

-- a block of k bytes, and then the groups and data of the entry
abbrev pub EntryLays : (Block → List ℕ → Type 0) → BlockForm → ℕ → Block → List ℕ → Type 0
EntryLays Tail form k entry b =
    (k ≤ length b) × BlockLays form.mode form.fields (out-Block entry).fields (take k b) × Tail entry (drop k b)

-- the dimension, and as many entries as it counts
abbrev pub GroupLies : (Block → List ℕ → Type 0) → BlockForm → List Member → List Block → List ℕ → Type 0
GroupLies Tail form dim entries b =
    (k : ℕ) × (head : List ℕ) × (back : List ℕ) × (b ≡ head ++ back) × DimensionLays form.mode.order dim k (length entries) head
    × IsConcatenation (EntryLays Tail form k) entries back

abbrev mutual
  -- the groups of a level and then its data
  pub TailLays : Mode → Level → Block → List ℕ → Type 0
  TailLays mode (Level' name id semantic since block_length fields _ groups parts) block b =
      (front : List ℕ) × (back : List ℕ) × (b ≡ front ++ back) × GroupsLay mode groups (out-Block block).groups front
      × IsConcatenationOfBoth (DataLays mode.order mode.version) parts (out-Block block).parts back

  -- the groups of a level, in order
  pub GroupsLay : Mode → {n : _} → Row_of-Group n → List GroupVal → List ℕ → Type 0
  GroupsLay mode end_of-Group [] b = b ≡ []
  GroupsLay mode end_of-Group (v ∷ vs) b = ⊥
  GroupsLay mode (more_of-Group g rest) [] b = ⊥
  GroupsLay mode (more_of-Group g rest) (v ∷ vs) b =
      (front : List ℕ) × (back : List ℕ) × (b ≡ front ++ back) × GroupLays mode g v front × GroupsLay mode rest vs back

  -- a group that isn't alive is absent and has no bytes
  pub GroupLays : Mode → Group → GroupVal → List ℕ → Type 0
  GroupLays mode (Group' dim level) v b =
      MatchBool (is_alive mode.version (out-Level level).since)
      ((entries : List Block) × (v ≡ groupval.Entries entries)
      × GroupLies (λ entry e. TailLays mode level entry e) (form_of mode level) dim entries b)
      ((v ≡ groupval.Absent) × (b ≡ []))

-- ---- a message

-- the four numbers of the header
pub record HeaderLays (schema : WireSchema) (block template version : ℕ) (b : List ℕ) : Type 0 where
  pub wide : length b ≡ members_end 0 schema.header.members
  pub says_block : number_named schema.order schema.header.members (codes "blockLength") b ≡ block
  pub says_template : number_named schema.order schema.header.members (codes "templateId") b ≡ template
  pub says_schema : number_named schema.order schema.header.members (codes "schemaId") b ≡ schema.id
  pub says_version : number_named schema.order schema.header.members (codes "version") b ≡ version

-- the body is the message: header, block, groups and data, and a rest, which only a version later than the schema's may
-- have
abbrev pub Lays : WireSchema → Msg → List ℕ → Type 0
Lays schema m body =
    (level : Level) × (header : List ℕ) × (block : List ℕ) × (tail : List ℕ) × (rest : List ℕ)
    × (slice_get schema.messages m.template ≡ Some level)
    × (body ≡ header ++ block ++ tail ++ rest)
    × HeaderLays schema (length block) (out-Level level).id m.version header
    × BlockLays (mode_of schema m.version) (out-Level level).fields (out-Block m.block).fields block
    × TailLays (mode_of schema m.version) level m.block tail
    × (IsTrue (is_known schema m.version) → rest ≡ [])
