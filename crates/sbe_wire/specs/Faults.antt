-- The first fault of a body: its code, the part, the byte and a number. The standard leaves to each reader what to do
-- with a bad body. Own profile.
use Rattle.std.specs.Prelude.{◌≡◌, ◌≢◌, ◌⊎◌, ◌<◌, ◌≤◌, ℕ, zero, suc, ◌+◌, Bool, true, false, not, ◌&&◌, ◌==◌, if◌then◌else◌, Option, Some, None, List, [], ◌∷◌, ◌++◌, length, take, drop, IsTrue, ℤ, pos, codes}
use Rattle.std.specs.List.{list_all}
use Rattle.sbe_types.specs.declared.kind.Order.{Order}
use Rattle.sbe_types.specs.declared.kind.LeafShape.{LeafShape}
use Rattle.sbe_types.specs.declared.kind.LeafShape.TheVariants.{Number, RangedText, EncodedText, Octets, Numbers}
use Rattle.sbe_types.specs.declared.kind.Leaf.{Leaf as LeafOf}
use Rattle.sbe_types.specs.declared.kind.Kind.{Kind, Leaf, Enum, Set, Const, Comp', Row_of-Member, end_of-Member, more_of-Member}
use Rattle.sbe_types.specs.declared.kind.Member.{Member}
use Rattle.sbe_types.specs.declared.path.Step.{Step}
use Rattle.sbe_types.specs.declared.path.Step.TheVariants as way
use Rattle.sbe_types.specs.declared.schema.Field.{Field}
use Rattle.sbe_types.specs.declared.schema.DataField.{DataField}
use Rattle.sbe_types.specs.declared.schema.Group.{Group, Group'}
use Rattle.sbe_types.specs.declared.schema.Level.{Level, Level', out-Level, Row_of-Group, end_of-Group, more_of-Group}
use Rattle.sbe_types.specs.declared.schema.WireSchema.{WireSchema}
use Rattle.sbe_types.specs.declared.message.Elem.{Elem}
use Rattle.sbe_types.specs.declared.message.Value.{Value}
use Rattle.sbe_types.specs.Numbers.{number_of, natural, prim_width}
use Rattle.sbe_types.specs.Places.{width, is_const, begin_of, end_past, members_end}
use Rattle.sbe_types.specs.Shown.{shown, shown_element, admits}
use Rattle.sbe_types.specs.Shows.{Shows, is_text_byte}
use Rattle.sbe_wire.specs.declared.codes.FCode.{FCode}
use Rattle.sbe_wire.specs.declared.codes.FCode.TheVariants as code
use Rattle.sbe_wire.specs.declared.mode.Mode.{Mode}
use Rattle.sbe_wire.specs.Versions.{acting, is_alive, floor, mode_of, BlockForm, form_of}
use Rattle.sbe_wire.specs.Named.{number_named, place_named, is_admitted}
use Rattle.sbe_wire.specs.Lays.{FieldLays, BlockLays, DataLays, DimensionLays, EntryLays, TailLays, GroupsLay, GroupLays, HeaderLays}

-- the offset counts from the first byte of the part that is checked, and the path begins at that part
pub record Fault : Type 0 where
  pub code : FCode
  pub path : List Step
  pub offset : ℕ
  pub detail : ℤ

-- the same fault after n more bytes
abbrev pub shifted : ℕ → Fault → Fault
shifted n f = record { code = f.code; path = f.path; offset = n + f.offset; detail = f.detail }

-- the same fault inside a part, an entry or an element
abbrev pub under : Step → Fault → Fault
under step f = record { code = f.code; path = step ∷ f.path; offset = f.offset; detail = f.detail }

-- a fault of the part itself
abbrev pub fault_at : FCode → ℕ → ℤ → Fault
fault_at code offset detail = record { code = code; path = []; offset = offset; detail = detail }

-- ---- sequences

-- a fault of the first part; or the first part lies in front, and what follows it has the fault
abbrev pub FaultAfter : {X : Type 0} → (Fault → List ℕ → Type 0) → (X → List ℕ → Type 0) → (X → Fault → List ℕ → Type 0) → Fault → List ℕ → Type 0
FaultAfter {X} F R G fault b =
    F fault b
    ⊎ ((x : X) × (front : List ℕ) × (back : List ℕ) × (f : Fault) × (b ≡ front ++ back) × R x front × G x f back × (fault ≡ shifted (length front) f))

-- there are fewer bytes than the part requires (F05)
abbrev pub TooShort : ℕ → Fault → List ℕ → Type 0
TooShort n fault b = (length b < n) × (fault ≡ fault_at code.Truncated 0 (pos n))

-- a fault inside a step
abbrev pub Under : Step → (Fault → List ℕ → Type 0) → Fault → List ℕ → Type 0
Under step F fault b = (f : Fault) × F f b × (fault ≡ under step f)

-- the first fault of n items, counted from i
abbrev pub TimesFault : {X : Type 0} → (Fault → List ℕ → Type 0) → (X → List ℕ → Type 0) → ℕ → ℕ → Fault → List ℕ → Type 0
TimesFault F R i zero fault b = ⊥
TimesFault F R i (suc n) fault b = FaultAfter (Under (way.Entry i) F) R (λ _. TimesFault F R (suc i) n) fault b

-- the first fault of parts, counted from i
abbrev pub EachFault : {X Y : Type 0} → (X → Fault → List ℕ → Type 0) → (X → Y → List ℕ → Type 0) → ℕ → List X → Fault → List ℕ → Type 0
EachFault F R i [] fault b = ⊥
EachFault F R i (x ∷ xs) fault b = FaultAfter (Under (way.Part i) (F x)) (R x) (λ _. EachFault F R (suc i) xs) fault b

-- ---- a value

-- the byte doesn't end a text, and a text may not contain it
abbrev pub is_bad_byte : LeafOf → ℕ → Bool
is_bad_byte leaf b = not (b == 0) && not (is_text_byte leaf b)

-- the first such byte before the first 00 (F09)
abbrev pub TextFault : LeafOf → Fault → List ℕ → Type 0
TextFault leaf fault b =
    (good : List ℕ) × (bad : ℕ) × (after : List ℕ) × (b ≡ good ++ bad ∷ after)
    × IsTrue (list_all (is_text_byte leaf) good) × IsTrue (is_bad_byte leaf bad) × (fault ≡ fault_at code.TextByte (length good) (pos bad))

-- the number shows no value (F06, F07, F08)
abbrev pub NumberFault : Kind → Bool → FCode → ℤ → Fault → Type 0
NumberFault kind known code n fault = (shown kind known n ≡ None) × (fault ≡ fault_at code 0 n)

-- the first of n elements, counted from i, that shows no value (F06)
abbrev pub ElementsFault : Order → LeafOf → ℕ → ℕ → Fault → List ℕ → Type 0
ElementsFault order leaf i zero fault b = ⊥
ElementsFault order leaf i (suc n) fault b =
    let number = number_of order leaf.prim (take (prim_width leaf.prim) b) in
    ((shown_element leaf number ≡ None) × (fault ≡ under (way.Elem i) (fault_at code.Range 0 number)))
    ⊎ ((e : Elem) × (f : Fault) × (shown_element leaf number ≡ Some e)
    × ElementsFault order leaf (suc i) n f (drop (prim_width leaf.prim) b) × (fault ≡ shifted (prim_width leaf.prim) f))

-- the first fault of a single number, a text or an array
abbrev pub LeafFault : Order → LeafShape → LeafOf → Fault → List ℕ → Type 0
LeafFault order Number leaf fault b = NumberFault (Leaf leaf) true code.Range (number_of order leaf.prim b) fault
LeafFault order RangedText leaf fault b = TextFault leaf fault b
LeafFault order EncodedText leaf fault b = TextFault leaf fault b
LeafFault order Octets leaf fault b = ElementsFault order leaf 0 leaf.length fault b
LeafFault order Numbers leaf fault b = ElementsFault order leaf 0 leaf.length fault b

abbrev mutual
  -- the first fault of bytes that are as many as the kind is wide
  pub KindFault : Order → Bool → Kind → Fault → List ℕ → Type 0
  KindFault order known (Leaf l) fault b = LeafFault order l.shape l fault b
  KindFault order known (Enum l names) fault b = NumberFault (Enum l names) known code.EnumUnknown (number_of order l.prim b) fault
  KindFault order known (Set p names) fault b = NumberFault (Set p names) known code.SetUnknown (number_of order p b) fault
  KindFault order known (Const c) fault b = ⊥
  KindFault order known (Comp' n members) fault b = RowFault order known 0 0 members fault b

  -- the first fault of members, counted from i, after members that end at e
  pub RowFault : Order → Bool → ℕ → ℕ → {n : _} → Row_of-Member n → Fault → List ℕ → Type 0
  RowFault order known e i end_of-Member fault b = ⊥
  RowFault order known e i (more_of-Member name offset kind rest) fault b =
      ((f : Fault) × KindFault order known kind f (take (width kind) (drop (begin_of e offset) b)) × (fault ≡ shifted (begin_of e offset) (under (way.Part i) f)))
      ⊎ ((v : Value) × Shows order known kind v (take (width kind) (drop (begin_of e offset) b))
      × RowFault order known (if is_const kind then e else begin_of e offset + width kind) (suc i) rest fault b)

-- ---- a block

-- the position of a field: the end of the fields before it, and how many they are
pub record Place : Type 0 where
  pub end : ℕ
  pub index : ℕ

-- a field is alive and shows no value
abbrev pub FieldFault : Mode → Place → Field → Fault → List ℕ → Type 0
FieldFault mode place field fault b =
    IsTrue (is_alive mode.version field.since)
    × ((f : Fault) × KindFault mode.order mode.known field.kind f (take (width field.kind) (drop (begin_of place.end field.offset) b))
    × (fault ≡ shifted (begin_of place.end field.offset) (under (way.Part place.index) f)))

-- the position after a field
abbrev pub next_place : Place → Field → Place
next_place place field = record { end = end_past place.end field.offset field.kind; index = suc place.index }

-- the first fault of fields from a position on
abbrev pub FieldsFault : Mode → Place → List Field → Fault → List ℕ → Type 0
FieldsFault mode place [] fault b = ⊥
FieldsFault mode place (field ∷ fields) fault b =
    FieldFault mode place field fault b
    ⊎ ((v : Value) × FieldLays mode place.end field v b × FieldsFault mode (next_place place field) fields fault b)

-- a block of k bytes is cut off, or one of its fields shows no value
abbrev pub BlockFault : Mode → List Field → ℕ → Fault → List ℕ → Type 0
BlockFault mode fields k fault b =
    TooShort k fault b ⊎ ((k ≤ length b) × FieldsFault mode (record { end = 0; index = 0 }) fields fault (take k b))

-- ---- data and groups

-- the count of the length number at the front of the bytes
abbrev pub count_of : Order → DataField → List ℕ → ℕ
count_of order part b = natural (number_of order part.length.prim (take (prim_width part.length.prim) b))

-- the length number is cut off (F05) or isn't admitted (F11), or the bytes are cut off (F05)
abbrev pub DataFault : Order → ℕ → DataField → Fault → List ℕ → Type 0
DataFault order version part fault b =
    IsTrue (is_alive version part.since)
    × (TooShort (prim_width part.length.prim) fault b
    ⊎ ((prim_width part.length.prim ≤ length b)
    × (((admits part.length (pos (count_of order part b)) ≡ false) × (fault ≡ fault_at code.Length 0 (pos (count_of order part b))))
    ⊎ ((admits part.length (pos (count_of order part b)) ≡ true) × TooShort (prim_width part.length.prim + count_of order part b) fault b))))

-- the count isn't admitted (F10), or the block length is below the floor and the count isn't 0 (F04)
abbrev pub DimensionRefused : Order → List Member → ℕ → Fault → List ℕ → Type 0
DimensionRefused order dim least fault head =
    let block = number_named order dim (codes "blockLength") head in
    let count = number_named order dim (codes "numInGroup") head in
    ((is_admitted dim (codes "numInGroup") count ≡ false) × (fault ≡ fault_at code.Count (place_named dim (codes "numInGroup")) (pos count)))
    ⊎ ((is_admitted dim (codes "numInGroup") count ≡ true) × (0 < count) × (block < least)
    × (fault ≡ fault_at code.BlockShort (place_named dim (codes "blockLength")) (pos block)))

-- the dimension is cut off, or refused
abbrev pub DimensionFault : Order → List Member → ℕ → Fault → List ℕ → Type 0
DimensionFault order dim least fault b =
    TooShort (members_end 0 dim) fault b
    ⊎ ((members_end 0 dim ≤ length b) × DimensionRefused order dim least fault (take (members_end 0 dim) b))

-- a fault of the block; or the block is in order, and its groups or data have the fault
abbrev pub EntryFault : (Fault → List ℕ → Type 0) → BlockForm → ℕ → Fault → List ℕ → Type 0
EntryFault Tail form k fault b =
    BlockFault form.mode form.fields k fault b
    ⊎ ((values : List Value) × (f : Fault) × (k ≤ length b) × BlockLays form.mode form.fields values (take k b) × Tail f (drop k b) × (fault ≡ shifted k f))

-- a dimension in order that counts no entries, or whose block length reaches the floor
abbrev pub DimensionGood : Order → List Member → ℕ → ℕ × ℕ → List ℕ → Type 0
DimensionGood order dim least d b = DimensionLays order dim d.0 d.1 b × ((d.1 ≡ 0) ⊎ (least ≤ d.0))

abbrev mutual
  -- the first fault of a level's groups and data
  pub TailFault : Mode → Level → Fault → List ℕ → Type 0
  TailFault mode (Level' name id semantic since block_length fields _ groups parts) fault b =
      FaultAfter (GroupsFault mode (length fields) groups) (GroupsLay mode groups)
      (λ vs. EachFault (DataFault mode.order mode.version) (DataLays mode.order mode.version) (length fields + length vs) parts) fault b

  -- the first fault of groups, counted from i
  pub GroupsFault : Mode → ℕ → {n : _} → Row_of-Group n → Fault → List ℕ → Type 0
  GroupsFault mode i end_of-Group fault b = ⊥
  GroupsFault mode i (more_of-Group g rest) fault b =
      FaultAfter (Under (way.Part i) (GroupFault mode g)) (GroupLays mode g)
      (λ _. GroupsFault mode (suc i) rest) fault b

  -- a fault of the dimension; or the dimension is in order, and an entry has the fault
  pub GroupFault : Mode → Group → Fault → List ℕ → Type 0
  GroupFault mode (Group' dim level) fault b =
      IsTrue (is_alive mode.version (out-Level level).since)
      × FaultAfter (DimensionFault mode.order dim (floor mode.version (out-Level level).fields)) (DimensionGood mode.order dim (floor mode.version (out-Level level).fields))
      (λ d. TimesFault (EntryFault (TailFault mode level) (form_of mode level) d.0)
      (EntryLays (λ entry e. TailLays mode level entry e) (form_of mode level) d.0) 0 d.1) fault b

-- ---- a body

-- the first message with this id: its number and its root level
abbrev pub message_named : ℕ → ℕ → List Level → Option (ℕ × Level)
message_named i id [] = None
message_named i id (level ∷ levels) = if (out-Level level).id == id then Some (i, level) else message_named (suc i) id levels

-- what a header gives: the block length, the message, and the version
pub record Heading : Type 0 where
  pub block : ℕ
  pub template : ℕ
  pub level : Level
  pub version : ℕ

-- the floor of the root at the version of its header
abbrev pub floor_in : WireSchema → Heading → ℕ
floor_in schema h = floor (acting schema h.version) (out-Level h.level).fields

-- a header of this schema and of one of its messages
pub record HeadingLays (schema : WireSchema) (h : Heading) (b : List ℕ) : Type 0 where
  pub numbers : HeaderLays schema h.block (out-Level h.level).id h.version b
  pub message : message_named 0 (out-Level h.level).id schema.messages ≡ Some (h.template, h.level)

-- the header is of another schema (F02), of no known message (F03), or its block length is below the floor (F04)
abbrev pub HeadingRefused : WireSchema → Fault → List ℕ → Type 0
HeadingRefused schema fault head =
    let members = schema.header.members in
    let schema_id = number_named schema.order members (codes "schemaId") head in
    let template_id = number_named schema.order members (codes "templateId") head in
    ((schema_id ≢ schema.id) × (fault ≡ fault_at code.SchemaId (place_named members (codes "schemaId")) (pos schema_id)))
    ⊎ ((schema_id ≡ schema.id) × (message_named 0 template_id schema.messages ≡ None)
    × (fault ≡ fault_at code.Template (place_named members (codes "templateId")) (pos template_id)))
    ⊎ ((h : Heading) × HeadingLays schema h head × (h.block < floor_in schema h)
    × (fault ≡ fault_at code.BlockShort (place_named members (codes "blockLength")) (pos h.block)))

-- the header is cut off (F01), or refused
abbrev pub HeadingFault : WireSchema → Fault → List ℕ → Type 0
HeadingFault schema fault b =
    let wide = members_end 0 schema.header.members in
    ((length b < wide) × (fault ≡ fault_at code.ShortHeader 0 (pos (length b))))
    ⊎ ((wide ≤ length b) × HeadingRefused schema fault (take wide b))

-- a header whose block length reaches the floor
abbrev pub HeadingGood : WireSchema → Heading → List ℕ → Type 0
HeadingGood schema h b = HeadingLays schema h b × (floor_in schema h ≤ h.block)

-- bytes follow the last part of a message whose version the schema knows (F12)
abbrev pub TrailingFault : Bool → Fault → List ℕ → Type 0
TrailingFault known fault b = IsTrue known × (0 < length b) × (fault ≡ fault_at code.Trailing 0 (pos (length b)))

-- a fault of the header; else of the root's block, groups or data; else the bytes after them
abbrev pub FirstFault : WireSchema → Fault → List ℕ → Type 0
FirstFault schema fault body =
    FaultAfter (HeadingFault schema) (HeadingGood schema)
    (λ h. let mode = mode_of schema h.version in
    let form = form_of mode h.level in
    FaultAfter (EntryFault (TailFault mode h.level) form h.block) (EntryLays (λ entry e. TailLays mode h.level entry e) form h.block)
    (λ _. TrailingFault mode.known)) fault body
