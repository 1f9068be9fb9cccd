-- The definitions as a program: the message that a body is, or its first fault. Own profile.
use Rattle.std.specs.Prelude.{ℕ, zero, suc, ◌+◌, ◌-◌, nat_le, nat_lt, Bool, true, not, ◌&&◌, ◌==◌, if◌then◌else◌, Option, Some, None, Result, Ok, Err, List, [], ◌∷◌, length, take, drop, take_while, ℤ, pos, codes}
use Rattle.std.specs.Option.{ok_or}
use Rattle.sbe_types.specs.declared.kind.Order.{Order}
use Rattle.sbe_types.specs.declared.kind.LeafShape.{LeafShape}
use Rattle.sbe_types.specs.declared.kind.LeafShape.TheVariants.{Number, RangedText, EncodedText, Octets, Numbers}
use Rattle.sbe_types.specs.declared.kind.Leaf.{Leaf as LeafOf}
use Rattle.sbe_types.specs.declared.kind.Kind.{Kind, Leaf, Enum, Set, Const, Comp', Row_of-Member, end_of-Member, more_of-Member}
use Rattle.sbe_types.specs.declared.kind.Member.{Member}
use Rattle.sbe_types.specs.declared.path.Step.{Step}
use Rattle.sbe_types.specs.declared.path.Step.TheVariants as way
use Rattle.sbe_types.specs.declared.schema.Field.{Field}
use Rattle.sbe_types.specs.declared.schema.DataField.{DataField}
use Rattle.sbe_types.specs.declared.schema.Group.{Group, Group'}
use Rattle.sbe_types.specs.declared.schema.Level.{Level, Level', out-Level, Row_of-Group, end_of-Group, more_of-Group}
use Rattle.sbe_types.specs.declared.schema.WireSchema.{WireSchema}
use Rattle.sbe_types.specs.declared.message.Elem.{Elem}
use Rattle.sbe_types.specs.declared.message.Value.{Value}
use Rattle.sbe_types.specs.declared.message.Value.TheVariants as value
use Rattle.sbe_types.specs.declared.message.DataVal.{DataVal}
use Rattle.sbe_types.specs.declared.message.DataVal.TheVariants as dataval
use Rattle.sbe_types.specs.declared.message.Block.{Block}
use Rattle.sbe_types.specs.declared.message.GroupVal.{GroupVal}
use Rattle.sbe_types.specs.declared.message.GroupVal.TheVariants as groupval
use Rattle.sbe_types.specs.declared.message.Msg.{Msg}
use Rattle.sbe_types.specs.Numbers.{number_of, prim_width}
use Rattle.sbe_types.specs.Places.{width, is_const, begin_of, end_past, members_end}
use Rattle.sbe_types.specs.Shown.{shown, shown_element, admits}
use Rattle.sbe_types.specs.Shows.{is_text_byte, text_value}
use Rattle.sbe_wire.specs.declared.codes.FCode.{FCode}
use Rattle.sbe_wire.specs.declared.codes.FCode.TheVariants as code
use Rattle.sbe_wire.specs.declared.mode.Mode.{Mode}
use Rattle.sbe_wire.specs.Versions.{is_alive, floor, mode_of}
use Rattle.sbe_wire.specs.Named.{number_named, place_named, is_admitted}
use Rattle.sbe_wire.specs.Faults.{Fault, shifted, under, fault_at, count_of, message_named, Heading, floor_in}

-- ---- readers: the value at the front of some bytes with the bytes after it, or the first fault

-- the value at the front of some bytes and the bytes after it, or the first fault
abbrev pub Reader : Type 0 → Type 0
Reader X = List ℕ → Result (X × List ℕ) Fault

-- continues with a value; a fault stays
infixl 10 ◌>>=◌
abbrev pub ◌>>=◌ : {X Y : Type 0} → Result X Fault → (X → Result Y Fault) → Result Y Fault
(Ok x) >>= f = f x
(Err e) >>= f = Err e

-- the same answer, with a fault n bytes further on
abbrev pub later : {X : Type 0} → ℕ → Result X Fault → Result X Fault
later n (Ok x) = Ok x
later n (Err f) = Err (shifted n f)

-- the same answer, with a fault inside a step
abbrev pub inside : {X : Type 0} → Step → Result X Fault → Result X Fault
inside step (Ok x) = Ok x
inside step (Err f) = Err (under step f)

-- the result of a value that was read from b and of the bytes after it
abbrev pub and_then : {X Y : Type 0} → List ℕ → Result (X × List ℕ) Fault → (X → List ℕ → Result Y Fault) → Result Y Fault
and_then b (Err f) q = Err f
and_then b (Ok r) q = later (length b - length r.1) (q r.0 r.1)

-- one reader, and then another that is given the value
abbrev pub then_read : {X Y : Type 0} → Reader X → (X → Reader Y) → Reader Y
then_read p q b = and_then b (p b) q

-- a value that takes no bytes
abbrev pub nothing : {X : Type 0} → X → Reader X
nothing x b = Ok (x, b)

-- a value that was read, as a check of it returns it
abbrev pub and_check : {X Y : Type 0} → (X → Result Y Fault) → Result (X × List ℕ) Fault → Result (Y × List ℕ) Fault
and_check q (Err f) = Err f
and_check q (Ok r) = q r.0 >>= (λ y. Ok (y, r.1))

-- a reader whose value is checked; a fault of the check is where the value began
abbrev pub read_and_check : {X Y : Type 0} → Reader X → (X → Result Y Fault) → Reader Y
read_and_check p q b = and_check q (p b)

-- a reader, and then a check of all that is left
abbrev pub then_all : {X Y : Type 0} → Reader X → (X → List ℕ → Result Y Fault) → List ℕ → Result Y Fault
then_all p q b = and_then b (p b) q

-- n bytes, or this fault
abbrev pub bytes_or : Fault → ℕ → Reader (List ℕ)
bytes_or fault n b = if nat_le n (length b) then Ok (take n b, drop n b) else Err fault

-- n bytes, or a fault with n as its detail (F05)
abbrev pub bytes_read : ℕ → Reader (List ℕ)
bytes_read n b = bytes_or (fault_at code.Truncated 0 (pos n)) n b

-- a reader inside a step
abbrev pub read_in : {X : Type 0} → Step → Reader X → Reader X
read_in step p b = inside step (p b)

-- n items, counted from i, read one after another
unfoldable pub times_read : {X : Type 0} → Reader X → ℕ → ℕ → Reader (List X)
times_read p i zero b = Ok ([], b)
times_read p i (suc n) b = then_read (read_in (way.Entry i) p) (λ x. then_read (times_read p (suc i) n) (λ xs. nothing (x ∷ xs))) b

-- one value for each part, counted from i
unfoldable pub each_read : {X Y : Type 0} → (X → Reader Y) → ℕ → List X → Reader (List Y)
each_read p i [] b = Ok ([], b)
each_read p i (x ∷ xs) b = then_read (read_in (way.Part i) (p x)) (λ y. then_read (each_read p (suc i) xs) (λ ys. nothing (y ∷ ys))) b

-- ---- a value, from bytes that are as many as its kind is wide

-- the value that a number shows, or a fault with this code
abbrev pub number_value : Kind → Bool → FCode → ℤ → Result Value Fault
number_value kind known code n = ok_or (shown kind known n) (fault_at code 0 n)

-- the value of a text, if nothing or a 00 follows it
abbrev pub text_ended : LeafOf → List ℕ → List ℕ → Result Value Fault
text_ended leaf text [] = Ok (text_value leaf text)
text_ended leaf text (b ∷ after) = if b == 0 then Ok (text_value leaf text) else Err (fault_at code.TextByte (length text) (pos b))

-- the value of a text: its good bytes, and what follows them
abbrev pub text_read : LeafOf → List ℕ → Result Value Fault
text_read leaf b = let text = take_while (is_text_byte leaf) b in text_ended leaf text (drop (length text) b)

-- an element of an array
abbrev pub element_read : Order → LeafOf → List ℕ → Result Elem Fault
element_read order leaf b =
    let n = number_of order leaf.prim (take (prim_width leaf.prim) b) in
    ok_or (shown_element leaf n) (fault_at code.Range 0 n)

-- n elements of an array, counted from i
unfoldable pub elements_read : Order → LeafOf → ℕ → ℕ → List ℕ → Result (List Elem) Fault
elements_read order leaf i zero b = Ok []
elements_read order leaf i (suc n) b = do
  e ← inside (way.Elem i) (element_read order leaf b)
  es ← later (prim_width leaf.prim) (elements_read order leaf (suc i) n (drop (prim_width leaf.prim) b))
  Ok (e ∷ es)

-- an array, with as many elements as it states
abbrev pub array_read : Order → LeafOf → List ℕ → Result Value Fault
array_read order leaf b = elements_read order leaf 0 leaf.length b >>= (λ es. Ok (value.Nums es))

-- the value of a single number, a text or an array
abbrev pub leaf_read : Order → LeafShape → LeafOf → List ℕ → Result Value Fault
leaf_read order Number leaf b = number_value (Leaf leaf) true code.Range (number_of order leaf.prim b)
leaf_read order RangedText leaf b = text_read leaf b
leaf_read order EncodedText leaf b = text_read leaf b
leaf_read order Octets leaf b = array_read order leaf b
leaf_read order Numbers leaf b = array_read order leaf b

unfoldable mutual
  -- the value of any kind
  pub value_read : Order → Bool → Kind → List ℕ → Result Value Fault
  value_read order known (Leaf l) b = leaf_read order l.shape l b
  value_read order known (Enum l names) b = number_value (Enum l names) known code.EnumUnknown (number_of order l.prim b)
  value_read order known (Set p names) b = number_value (Set p names) known code.SetUnknown (number_of order p b)
  value_read order known (Const c) b = Ok value.Const
  value_read order known (Comp' n members) b = row_read order known 0 0 members b >>= (λ vs. Ok (value.Comp vs))

  -- the values of members, counted from i, after members that end at e
  pub row_read : Order → Bool → ℕ → ℕ → {n : _} → Row_of-Member n → List ℕ → Result (List Value) Fault
  row_read order known e i end_of-Member b = Ok []
  row_read order known e i (more_of-Member name offset kind rest) b = do
    v ← later (begin_of e offset) (inside (way.Part i) (value_read order known kind (take (width kind) (drop (begin_of e offset) b))))
    vs ← row_read order known (if is_const kind then e else begin_of e offset + width kind) (suc i) rest b
    Ok (v ∷ vs)

-- ---- a block

-- the value of a field, which is absent if the field isn't alive
abbrev pub field_read : Mode → ℕ → ℕ → Field → List ℕ → Result Value Fault
field_read mode e i f b =
    if is_alive mode.version f.since
    then later (begin_of e f.offset) (inside (way.Part i) (value_read mode.order mode.known f.kind (take (width f.kind) (drop (begin_of e f.offset) b))))
    else Ok value.Absent

-- the values of fields, counted from i, after fields that end at e
unfoldable pub fields_read : Mode → ℕ → ℕ → List Field → List ℕ → Result (List Value) Fault
fields_read mode e i [] b = Ok []
fields_read mode e i (f ∷ fs) b = do
  v ← field_read mode e i f b
  vs ← fields_read mode (end_past e f.offset f.kind) (suc i) fs b
  Ok (v ∷ vs)

-- the values of a block of k bytes
abbrev pub block_read : Mode → List Field → ℕ → Reader (List Value)
block_read mode fields k = read_and_check (bytes_read k) (fields_read mode 0 0 fields)

-- ---- data and groups

-- data of n bytes after their length number
abbrev pub data_bytes : Order → DataField → ℕ → Reader DataVal
data_bytes order part n b =
    if admits part.length (pos n)
    then read_and_check (bytes_read (prim_width part.length.prim + n)) (λ whole. Ok (dataval.Bytes (drop (prim_width part.length.prim) whole))) b
    else Err (fault_at code.Length 0 (pos n))

-- the length number, and then the data
abbrev pub data_whole : Order → DataField → Reader DataVal
data_whole order part b =
    if nat_le (prim_width part.length.prim) (length b)
    then data_bytes order part (count_of order part b) b
    else Err (fault_at code.Truncated 0 (pos (prim_width part.length.prim)))

-- a data part, which is absent if it isn't alive
abbrev pub data_read : Order → ℕ → DataField → Reader DataVal
data_read order version part b = if is_alive version part.since then data_whole order part b else Ok (dataval.Absent, b)

-- the block length and the count of a dimension, where the floor of its entries is `least`
abbrev pub dimension_of : Order → List Member → ℕ → List ℕ → Result (ℕ × ℕ) Fault
dimension_of order dim least head =
    let block = number_named order dim (codes "blockLength") head in
    let count = number_named order dim (codes "numInGroup") head in
    if not (is_admitted dim (codes "numInGroup") count)
    then Err (fault_at code.Count (place_named dim (codes "numInGroup")) (pos count))
    else (if nat_lt 0 count && nat_lt block least
    then Err (fault_at code.BlockShort (place_named dim (codes "blockLength")) (pos block))
    else Ok (block, count))

-- the dimension at the front of the bytes
abbrev pub dimension_read : Order → List Member → ℕ → Reader (ℕ × ℕ)
dimension_read order dim least = read_and_check (bytes_read (members_end 0 dim)) (dimension_of order dim least)

-- the groups and the data of a level
abbrev pub Tail : Type 0
Tail = List GroupVal × List DataVal

-- a block with its fields, and its groups and data
abbrev pub block_of : List Value → Tail → Block
block_of fields tail = record { fields = fields; groups = tail.0; parts = tail.1 }

-- a block of k bytes, and then its groups and data
abbrev pub entry_read : Reader Tail → Mode → List Field → ℕ → Reader Block
entry_read tail mode fields k =
    then_read (block_read mode fields k) (λ values. then_read tail (λ t. nothing (block_of values t)))

unfoldable mutual
  -- the groups of a level and then its data
  pub tail_read : Mode → Level → Reader Tail
  tail_read mode (Level' name id semantic since block_length fields _ groups parts) b =
      then_read (groups_read mode (length fields) groups)
      (λ gs. then_read (each_read (data_read mode.order mode.version) (length fields + length gs) parts) (λ ds. nothing (gs, ds))) b

  -- groups, counted from i
  pub groups_read : Mode → ℕ → {n : _} → Row_of-Group n → Reader (List GroupVal)
  groups_read mode i end_of-Group b = Ok ([], b)
  groups_read mode i (more_of-Group g rest) b =
      then_read (read_in (way.Part i) (group_read mode g)) (λ v. then_read (groups_read mode (suc i) rest) (λ vs. nothing (v ∷ vs))) b

  -- a group, which is absent if it isn't alive
  pub group_read : Mode → Group → Reader GroupVal
  group_read mode (Group' dim level) b =
      if is_alive mode.version (out-Level level).since
      then then_read (dimension_read mode.order dim (floor mode.version (out-Level level).fields))
      (λ d. then_read (times_read (entry_read (tail_read mode level) mode (out-Level level).fields d.0) 0 d.1) (λ entries. nothing (groupval.Entries entries))) b
      else Ok (groupval.Absent, b)

-- ---- a body

-- the n bytes of a header, or a fault with how many are there (F01)
abbrev pub header_bytes : ℕ → Reader (List ℕ)
header_bytes n b = bytes_or (fault_at code.ShortHeader 0 (pos (length b))) n b

-- the heading, if its block length reaches the floor
abbrev pub floor_check : WireSchema → Heading → Result Heading Fault
floor_check schema h =
    if nat_lt h.block (floor_in schema h)
    then Err (fault_at code.BlockShort (place_named schema.header.members (codes "blockLength")) (pos h.block))
    else Ok h

-- the heading, if a message has this id
abbrev pub message_check : WireSchema → List ℕ → ℕ → Option (ℕ × Level) → Result Heading Fault
message_check schema head id None = Err (fault_at code.Template (place_named schema.header.members (codes "templateId")) (pos id))
message_check schema head id (Some m) =
    floor_check schema (record {
      block = number_named schema.order schema.header.members (codes "blockLength") head;
      template = m.0;
      level = m.1;
      version = number_named schema.order schema.header.members (codes "version") head;
    })

-- what the header gives, or why it is refused
abbrev pub heading_of : WireSchema → List ℕ → Result Heading Fault
heading_of schema head =
    let schema_id = number_named schema.order schema.header.members (codes "schemaId") head in
    let id = number_named schema.order schema.header.members (codes "templateId") head in
    if schema_id == schema.id
    then message_check schema head id (message_named 0 id schema.messages)
    else Err (fault_at code.SchemaId (place_named schema.header.members (codes "schemaId")) (pos schema_id))

-- the heading at the front of a body
abbrev pub heading_read : WireSchema → Reader Heading
heading_read schema = read_and_check (header_bytes (members_end 0 schema.header.members)) (heading_of schema)

-- the message; what is left is skipped if its version is later than the schema's
abbrev pub rest_check : Bool → Msg → List ℕ → Result Msg Fault
rest_check known m rest = if known && nat_lt 0 (length rest) then Err (fault_at code.Trailing 0 (pos (length rest))) else Ok m

-- the message of this heading and block
abbrev pub headed : Heading → Block → Msg
headed h block = record { template = h.template; version = h.version; block = block }

-- the message after a heading
abbrev pub root_read : WireSchema → Heading → List ℕ → Result Msg Fault
root_read schema h =
    let mode = mode_of schema h.version in
    then_all (entry_read (tail_read mode h.level) mode (out-Level h.level).fields h.block) (λ block. rest_check mode.known (headed h block))

-- the message that the body is, or its first fault
unfoldable pub message_of : WireSchema → List ℕ → Result Msg Fault
message_of schema body = then_all (heading_read schema) (root_read schema) body
