-- The first reason why a message can't be written. Own profile.
use Rattle.std.specs.Prelude.{ℕ, suc, ◌+◌, ◌^◌, nat_le, nat_lt, Bool, true, false, not, ◌&&◌, ◌==◌, if◌then◌else◌, Option, Some, None, Result, Ok, Err, List, [], ◌∷◌, length, find, ℤ, pos, slice_get, codes}
use Rattle.sbe_types.specs.declared.kind.LeafShape.{LeafShape}
use Rattle.sbe_types.specs.declared.kind.LeafShape.TheVariants.{Number, RangedText, EncodedText, Octets, Numbers}
use Rattle.sbe_types.specs.declared.kind.Leaf.{Leaf as LeafOf}
use Rattle.sbe_types.specs.declared.kind.Named.{Named}
use Rattle.sbe_types.specs.declared.kind.Kind.{Kind, Leaf, Enum, Set, Const, Comp', Row_of-Member, end_of-Member, more_of-Member}
use Rattle.sbe_types.specs.declared.kind.Member.{Member}
use Rattle.sbe_types.specs.declared.path.Step.{Step}
use Rattle.sbe_types.specs.declared.path.Step.TheVariants as way
use Rattle.sbe_types.specs.declared.schema.Field.{Field}
use Rattle.sbe_types.specs.declared.schema.DataField.{DataField}
use Rattle.sbe_types.specs.declared.schema.Group.{Group, Group'}
use Rattle.sbe_types.specs.declared.schema.Level.{Level, Level', out-Level, Row_of-Group, end_of-Group, more_of-Group, items-the_row-Group}
use Rattle.sbe_types.specs.declared.schema.WireSchema.{WireSchema}
use Rattle.sbe_types.specs.declared.message.Elem.{Elem}
use Rattle.sbe_types.specs.declared.message.Elem.TheVariants as elem
use Rattle.sbe_types.specs.declared.message.Value.{Value}
use Rattle.sbe_types.specs.declared.message.Value.TheVariants as value
use Rattle.sbe_types.specs.declared.message.DataVal.{DataVal}
use Rattle.sbe_types.specs.declared.message.DataVal.TheVariants as dataval
use Rattle.sbe_types.specs.declared.message.Block.{Block, out-Block}
use Rattle.sbe_types.specs.declared.message.GroupVal.{GroupVal}
use Rattle.sbe_types.specs.declared.message.Msg.{Msg}
use Rattle.sbe_types.specs.Numbers.{prim_width}
use Rattle.sbe_types.specs.Places.{width, members_end}
use Rattle.sbe_types.specs.Shown.{admits, is_null, is_optional, is_octets, is_listed, has_listed_bits}
use Rattle.sbe_types.specs.Shows.{is_empty, is_text_byte}
use Rattle.sbe_types.specs.Wire.{member_values}
use Rattle.sbe_wire.specs.declared.codes.NCode.{NCode}
use Rattle.sbe_wire.specs.declared.codes.NCode.TheVariants as code
use Rattle.sbe_wire.specs.Named.{is_admitted}
use Rattle.sbe_wire.specs.Canonical.{entries_in}

-- a code, the path of the part, and a number
pub record Misfit : Type 0 where
  pub code : NCode
  pub path : List Step
  pub detail : ℤ

-- a misfit of the part itself
abbrev pub misfit_here : NCode → ℤ → Option Misfit
misfit_here code detail = Some (record { code = code; path = []; detail = detail })

-- the same misfit inside a step
abbrev pub inside_step : Step → Misfit → Misfit
inside_step step m = record { code = m.code; path = step ∷ m.path; detail = m.detail }

-- the same inside a step, if there is a misfit
abbrev pub misfit_in : Step → Option Misfit → Option Misfit
misfit_in step None = None
misfit_in step (Some m) = Some (inside_step step m)

-- the first of two misfits
abbrev pub or_else : Option Misfit → Option Misfit → Option Misfit
or_else None m = m
or_else (Some m) n = Some m

-- the misfit, unless the condition holds
abbrev pub unless : Bool → Option Misfit → Option Misfit
unless true m = None
unless false m = m

-- ---- a value

-- a value of another kind than the field's (N05)
abbrev pub other_kind : Option Misfit
other_kind = misfit_here code.Kind (pos 0)

-- a number outside the range, or equal to the null (N01)
abbrev pub number_misfit : LeafOf → Value → Option Misfit
number_misfit leaf (value.Num n) = unless (admits leaf n && not (is_null leaf n)) (misfit_here code.Range n)
number_misfit leaf value.Null = unless (is_optional leaf.presence) other_kind
number_misfit leaf (value.Text text) = other_kind
number_misfit leaf (value.Nums elements) = other_kind
number_misfit leaf (value.Enum n) = other_kind
number_misfit leaf (value.Set n) = other_kind
number_misfit leaf (value.Comp' n row) = other_kind
number_misfit leaf value.Const = other_kind
number_misfit leaf value.Absent = other_kind

-- a byte that a text may not contain (N04)
abbrev pub byte_misfit : Option ℕ → Option Misfit
byte_misfit None = None
byte_misfit (Some b) = misfit_here code.TextByte (pos b)

-- a text: its length (N01) is checked before its bytes
abbrev pub text_misfit : LeafOf → Value → Option Misfit
text_misfit leaf (value.Text text) =
    or_else (unless (nat_le (length text) (width (Leaf leaf)) && not (is_optional leaf.presence && is_empty text)) (misfit_here code.Range (pos (length text))))
    (byte_misfit (find (λ b. not (is_text_byte leaf b)) text))
text_misfit leaf value.Null = unless (is_optional leaf.presence) other_kind
text_misfit leaf (value.Num n) = other_kind
text_misfit leaf (value.Nums elements) = other_kind
text_misfit leaf (value.Enum n) = other_kind
text_misfit leaf (value.Set n) = other_kind
text_misfit leaf (value.Comp' n row) = other_kind
text_misfit leaf value.Const = other_kind
text_misfit leaf value.Absent = other_kind

-- the same for an element of an array
abbrev pub element_misfit : LeafOf → Elem → Option Misfit
element_misfit leaf (elem.Num n) = unless (admits leaf n && not (is_null leaf n)) (misfit_here code.Range n)
element_misfit leaf elem.Null = unless (is_optional leaf.presence && not (is_octets leaf.shape)) other_kind

-- the first misfit of elements, counted from i
abbrev pub elements_misfit : LeafOf → ℕ → List Elem → Option Misfit
elements_misfit leaf i [] = None
elements_misfit leaf i (e ∷ es) = or_else (misfit_in (way.Elem i) (element_misfit leaf e)) (elements_misfit leaf (suc i) es)

-- a wrong number of elements, or the first misfit of an element
abbrev pub array_misfit : LeafOf → Value → Option Misfit
array_misfit leaf (value.Nums elements) = if length elements == leaf.length then elements_misfit leaf 0 elements else other_kind
array_misfit leaf (value.Num n) = other_kind
array_misfit leaf value.Null = other_kind
array_misfit leaf (value.Text text) = other_kind
array_misfit leaf (value.Enum n) = other_kind
array_misfit leaf (value.Set n) = other_kind
array_misfit leaf (value.Comp' n row) = other_kind
array_misfit leaf value.Const = other_kind
array_misfit leaf value.Absent = other_kind

-- the misfit of a single number, a text or an array
abbrev pub leaf_misfit : LeafShape → LeafOf → Value → Option Misfit
leaf_misfit Number leaf v = number_misfit leaf v
leaf_misfit RangedText leaf v = text_misfit leaf v
leaf_misfit EncodedText leaf v = text_misfit leaf v
leaf_misfit Octets leaf v = array_misfit leaf v
leaf_misfit Numbers leaf v = array_misfit leaf v

-- an unlisted number (N02), or a listed one that is the null (N01)
abbrev pub enum_misfit : LeafOf → List Named → Value → Option Misfit
enum_misfit leaf names (value.Enum n) =
    or_else (unless (is_listed names n) (misfit_here code.EnumUnknown n)) (unless (not (is_null leaf n)) (misfit_here code.Range n))
enum_misfit leaf names value.Null = unless (is_optional leaf.presence) other_kind
enum_misfit leaf names (value.Num n) = other_kind
enum_misfit leaf names (value.Text text) = other_kind
enum_misfit leaf names (value.Nums elements) = other_kind
enum_misfit leaf names (value.Set n) = other_kind
enum_misfit leaf names (value.Comp' n row) = other_kind
enum_misfit leaf names value.Const = other_kind
enum_misfit leaf names value.Absent = other_kind

-- a bit that isn't listed (N03)
abbrev pub set_misfit : List Named → Value → Option Misfit
set_misfit names (value.Set n) = unless (nat_lt n (2 ^ 64) && has_listed_bits names 64 n) (misfit_here code.SetUnknown (pos n))
set_misfit names (value.Num n) = other_kind
set_misfit names value.Null = other_kind
set_misfit names (value.Text text) = other_kind
set_misfit names (value.Nums elements) = other_kind
set_misfit names (value.Enum n) = other_kind
set_misfit names (value.Comp' n row) = other_kind
set_misfit names value.Const = other_kind
set_misfit names value.Absent = other_kind

-- a constant has only its own value
abbrev pub const_misfit : Value → Option Misfit
const_misfit value.Const = None
const_misfit (value.Num n) = other_kind
const_misfit value.Null = other_kind
const_misfit (value.Text text) = other_kind
const_misfit (value.Nums elements) = other_kind
const_misfit (value.Enum n) = other_kind
const_misfit (value.Set n) = other_kind
const_misfit (value.Comp' n row) = other_kind
const_misfit value.Absent = other_kind

-- there are as many values as members
abbrev pub same_length : {n : _} → Row_of-Member n → List Value → Bool
same_length end_of-Member [] = true
same_length end_of-Member (v ∷ vs) = false
same_length (more_of-Member name offset kind rest) [] = false
same_length (more_of-Member name offset kind rest) (v ∷ vs) = same_length rest vs

abbrev mutual
  -- the misfit of a value of any kind
  pub value_misfit : Kind → Value → Option Misfit
  value_misfit (Leaf l) v = leaf_misfit l.shape l v
  value_misfit (Enum l names) v = enum_misfit l names v
  value_misfit (Set p names) v = set_misfit names v
  value_misfit (Const c) v = const_misfit v
  value_misfit (Comp' n members) v = row_misfit 0 members (member_values v)

  -- the first misfit of members, counted from i; the number of values is checked first
  pub row_misfit : ℕ → {n : _} → Row_of-Member n → Option (List Value) → Option Misfit
  row_misfit i row None = other_kind
  row_misfit i end_of-Member (Some []) = None
  row_misfit i end_of-Member (Some (v ∷ vs)) = other_kind
  row_misfit i (more_of-Member name offset kind rest) (Some []) = other_kind
  row_misfit i (more_of-Member name offset kind rest) (Some (v ∷ vs)) =
      if same_length rest vs then or_else (misfit_in (way.Part i) (value_misfit kind v)) (row_misfit (suc i) rest (Some vs)) else other_kind

-- the first misfit of fields, counted from i
abbrev pub fields_misfit : ℕ → List Field → List Value → Option Misfit
fields_misfit i (f ∷ fs) (v ∷ vs) = or_else (misfit_in (way.Part i) (value_misfit f.kind v)) (fields_misfit (suc i) fs vs)
fields_misfit i [] vs = None
fields_misfit i (f ∷ fs) [] = None

-- ---- the shape: as many values as parts everywhere, and no group or data absent

-- a wrong number of parts, or a part that is absent (N09)
abbrev pub bad_shape : Option Misfit
bad_shape = misfit_here code.Shape (pos 0)

-- the first data part that is absent, counted from i
abbrev pub parts_shape : ℕ → List DataVal → Option Misfit
parts_shape i [] = None
parts_shape i (dataval.Absent ∷ vs) = misfit_in (way.Part i) bad_shape
parts_shape i (dataval.Bytes b ∷ vs) = parts_shape (suc i) vs

-- the first misfit of entries, counted from i
abbrev pub each_misfit : {X : Type 0} → (X → Option Misfit) → ℕ → List X → Option Misfit
each_misfit f i [] = None
each_misfit f i (x ∷ xs) = or_else (misfit_in (way.Entry i) (f x)) (each_misfit f (suc i) xs)

-- the first misfit of entries; if there are more than any count can give, none is checked
abbrev pub entries_shape : (Block → Option Misfit) → Option (List Block) → Option Misfit
entries_shape entry None = bad_shape
entries_shape entry (Some entries) = if nat_lt (length entries) (2 ^ 32) then each_misfit entry 0 entries else None

unfoldable mutual
  -- the first misfit of a level, in wire order
  pub block_shape : Level → Block → Option Misfit
  block_shape (Level' name id semantic since block_length fields k groups parts) block =
      if (length fields == length (out-Block block).fields) && (length (items-the_row-Group _ groups) == length (out-Block block).groups) && (length parts == length (out-Block block).parts)
      then or_else (groups_shape (length fields) groups (out-Block block).groups) (parts_shape (length fields + length (out-Block block).groups) (out-Block block).parts)
      else bad_shape

  -- the first misfit of groups, counted from i
  pub groups_shape : ℕ → {n : _} → Row_of-Group n → List GroupVal → Option Misfit
  groups_shape i end_of-Group vs = None
  groups_shape i (more_of-Group g rest) [] = None
  groups_shape i (more_of-Group g rest) (v ∷ vs) = or_else (misfit_in (way.Part i) (group_shape g v)) (groups_shape (suc i) rest vs)

  -- the first misfit of the entries of a group
  pub group_shape : Group → GroupVal → Option Misfit
  group_shape (Group' dim level) v = entries_shape (λ entry. block_shape level entry) (entries_in v)

-- ---- the parts in wire order: how many bytes they take after `before` others, or the first misfit

-- how many bytes the body has so far, or the first misfit
abbrev pub Taken : Type 0
Taken = Result ℕ Misfit

-- continues with the number of bytes; a misfit stays
infixl 10 ◌then◌
abbrev pub ◌then◌ : Taken → (ℕ → Taken) → Taken
(Ok n) then f = f n
(Err m) then f = Err m

-- the code is the one for a body over the limit
abbrev pub is_full : NCode → Bool
is_full code.Full = true
is_full code.Range = false
is_full code.EnumUnknown = false
is_full code.SetUnknown = false
is_full code.TextByte = false
is_full code.Kind = false
is_full code.Count = false
is_full code.Length = false
is_full code.Shape = false

-- the same inside a step; a body over the limit has no path
abbrev pub taken_in : Step → Taken → Taken
taken_in step (Ok n) = Ok n
taken_in step (Err m) = Err (if is_full m.code then m else inside_step step m)

-- a misfit of the part itself, with a number
abbrev pub refused : NCode → ℕ → Taken
refused code n = Err (record { code = code; path = []; detail = pos n })

-- n more bytes, within the limit (N08)
abbrev pub take_bytes : ℕ → ℕ → ℕ → Taken
take_bytes limit before n = if nat_le (before + n) limit then Ok (before + n) else refused code.Full (before + n)

-- n bytes, if there is no misfit
abbrev pub passed : ℕ → Option Misfit → Taken
passed n None = Ok n
passed n (Some m) = Err m

-- a block: its room is checked before its fields
abbrev pub block_taken : ℕ → ℕ → ℕ → List Field → List Value → Taken
block_taken limit before n fields values = take_bytes limit before n then (λ after. passed after (fields_misfit 0 fields values))

-- data: its length (N07) is checked before its room
abbrev pub part_taken : ℕ → ℕ → DataField → DataVal → Taken
part_taken limit before part dataval.Absent = Ok before
part_taken limit before part (dataval.Bytes bytes) =
    if admits part.length (pos (length bytes)) then take_bytes limit before (prim_width part.length.prim + length bytes) else refused code.Length (length bytes)

-- the data parts of a level, counted from i
abbrev pub parts_taken : ℕ → ℕ → ℕ → List DataField → List DataVal → Taken
parts_taken limit i before (p ∷ ps) (v ∷ vs) = taken_in (way.Part i) (part_taken limit before p v) then (λ after. parts_taken limit (suc i) after ps vs)
parts_taken limit i before [] vs = Ok before
parts_taken limit i before (p ∷ ps) [] = Ok before

-- entries, counted from i
abbrev pub each_taken : {X : Type 0} → (ℕ → X → Taken) → ℕ → ℕ → List X → Taken
each_taken f i before [] = Ok before
each_taken f i before (x ∷ xs) = taken_in (way.Entry i) (f before x) then (λ after. each_taken f (suc i) after xs)

-- the entries of a group: their count (N06) is checked before the room for the dimension
abbrev pub entries_taken : ℕ → ℕ → List Member → (ℕ → Block → Taken) → Option (List Block) → Taken
entries_taken limit before dim entry None = Ok before
entries_taken limit before dim entry (Some entries) =
    if is_admitted dim (codes "numInGroup") (length entries)
    then take_bytes limit before (members_end 0 dim) then (λ after. each_taken entry 0 after entries)
    else refused code.Count (length entries)

unfoldable mutual
  -- the groups of a level and then its data
  pub tail_taken : ℕ → ℕ → Level → Block → Taken
  tail_taken limit before (Level' name id semantic since block_length fields _ groups parts) block =
      groups_taken limit (length fields) before groups (out-Block block).groups
      then (λ after. parts_taken limit (length fields + length (out-Block block).groups) after parts (out-Block block).parts)

  -- groups, counted from i
  pub groups_taken : ℕ → ℕ → ℕ → {n : _} → Row_of-Group n → List GroupVal → Taken
  groups_taken limit i before end_of-Group vs = Ok before
  groups_taken limit i before (more_of-Group g rest) [] = Ok before
  groups_taken limit i before (more_of-Group g rest) (v ∷ vs) =
      taken_in (way.Part i) (group_taken limit before g v) then (λ after. groups_taken limit (suc i) after rest vs)

  -- a group: its dimension, and then each entry
  pub group_taken : ℕ → ℕ → Group → GroupVal → Taken
  group_taken limit before (Group' dim level) v =
      entries_taken limit before dim
      (λ at entry. block_taken limit at (out-Level level).block_length (out-Level level).fields (out-Block entry).fields then (λ after. tail_taken limit after level entry)) (entries_in v)

-- ---- a message

-- the misfit, if there is one
abbrev pub refusal_of : Taken → Option Misfit
refusal_of (Ok n) = None
refusal_of (Err m) = Some m

-- the header and the root's block, as one step, and then the groups and data
abbrev pub root_taken : WireSchema → ℕ → Level → Block → Taken
root_taken schema limit level block =
    block_taken limit 0 (members_end 0 schema.header.members + (out-Level level).block_length) (out-Level level).fields (out-Block block).fields
    then (λ after. tail_taken limit after level block)

-- the misfit of a message of this root
abbrev pub root_misfit : WireSchema → Msg → ℕ → Option Level → Option Misfit
root_misfit schema m limit None = bad_shape
root_misfit schema m limit (Some level) =
    or_else (unless (m.version == schema.version) bad_shape) (or_else (block_shape level m.block) (refusal_of (root_taken schema limit level m.block)))

-- the first reason why the message has no canonical body of at most `limit` bytes, if there is one
unfoldable pub misfit : WireSchema → Msg → ℕ → Option Misfit
misfit schema m limit = root_misfit schema m limit (slice_get schema.messages m.template)
