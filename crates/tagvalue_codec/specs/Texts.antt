-- Tag-value texts, and the first fault of bytes that aren't one. From the FIX tag=value encoding (FIX 4.4), Message
-- format. Own profile: the codes and their order, and the limits of digits and fields.
use Rattle.std.specs.Prelude.{◌≡◌, ◌≢◌, ℕ, zero, suc, ◌+◌, ◌-◌, ◌<◌, ◌≤◌, ◌/◌, ◌%◌, ◌⊎◌, Bool, true, false, ◌||◌, ◌==◌, List, [], ◌∷◌, ◌++◌, length, sum, decimal, ⊤}
use Rattle.std.specs.Str.Parse.{digits_value}
use Rattle.tagvalue_codec.specs.declared.data_tags.Pair.{Pair}
use Rattle.tagvalue_codec.specs.declared.data_tags.Role.{Role}
use Rattle.tagvalue_codec.specs.declared.data_tags.Role.TheVariants.{Plain, Length, Data}
use Rattle.tagvalue_codec.specs.declared.read.TCode.{TCode}
use Rattle.tagvalue_codec.specs.declared.read.TCode.TheVariants.{FirstTag, BodyLength, LengthWrong, MsgType, CheckSum, Field as NoField, DataLength, TooMany}
use Rattle.tagvalue_codec.specs.declared.read.FixFault.{FixFault}
use Rattle.tagvalue_codec.specs.Fields.{Field, tag_bytes, field_bytes, IsTag, IsPlain, is_number, IsCount}
use Rattle.tagvalue_codec.specs.Pairs.{role_of}

-- ---- the fields of a body

-- what a field requires of the next one: nothing, or this data tag with a value of this length
pub data Owed : Type 0 where
  Free : Owed
  Owes : ℕ → ℕ → Owed

-- the tags that are allowed only at their places
abbrev pub is_locked : ℕ → Bool
is_locked tag = tag == 8 || (tag == 9 || (tag == 10 || tag == 35))

-- the bytes begin with this tag
pub record Begins (tag : ℕ) (bytes : List ℕ) : Type 0 where
  pub tagged : IsTag tag
  pub more : List ℕ
  pub bytes_are : bytes ≡ tag_bytes tag ++ more

-- a field by itself, which may be anywhere in a body
pub record IsOrdinary (f : Field) : Type 0 where
  pub plain : IsPlain f
  pub unlocked : is_locked f.tag ≡ false

-- a data tag must follow a length field, and a length field gives the length of the data that follows it
abbrev pub FitsRole : Role → Field → List ℕ → Type 0
FitsRole Plain f after = ⊤
FitsRole (Length tag) f after = IsCount f.value × Begins tag after
FitsRole Data f after = ⊥

-- the field has the tag and the length that the field before it requires
pub record IsOwed (tag many : ℕ) (f : Field) : Type 0 where
  pub tagged : IsTag f.tag
  pub same : f.tag ≡ tag
  pub long : length f.value ≡ many

-- the field may be here, with these bytes of the body after it
abbrev pub MayStand : List Pair → Owed → Field → List ℕ → Type 0
MayStand tags Free f after = IsOrdinary f × FitsRole (role_of tags f.tag) f after
MayStand tags (Owes tag many) f after = IsOwed tag many f

-- what a field with this role requires of the next one
abbrev pub owed_by : Role → Field → Owed
owed_by Plain f = Free
owed_by (Length tag) f = Owes tag (digits_value 10 f.value)
owed_by Data f = Free

-- what a field requires of the next one
abbrev pub owed_after : List Pair → Owed → Field → Owed
owed_after tags Free f = owed_by (role_of tags f.tag) f
owed_after tags (Owes tag many) f = Free

-- the bytes are these fields, where the field before them requires `owed`
abbrev pub Body : List Pair → Owed → List Field → List ℕ → Type 0
Body tags owed [] b = (owed ≡ Free) × (b ≡ [])
Body tags owed (f ∷ fs) b = (after : List ℕ) × (b ≡ field_bytes f ++ after) × MayStand tags owed f after × Body tags (owed_after tags owed f) fs after

-- ---- the first fault of a body

-- there is an ordinary field at the front, but it may not be here
abbrev pub Misplaced : List Pair → List ℕ → Type 0
Misplaced tags b = (f : Field) × (after : List ℕ) × (b ≡ field_bytes f ++ after) × IsOrdinary f × ¬ (FitsRole (role_of tags f.tag) f after)

-- the bytes don't begin with a field with this property
abbrev pub Lacks : (Field → Type 0) → List ℕ → Type 0
Lacks P b = (f : Field) (after : List ℕ) → P f → b ≢ field_bytes f ++ after

-- the fault at the front of these bytes, where `room` fields may still follow
abbrev pub FaultHere : List Pair → ℕ → Owed → List ℕ → TCode → Type 0
FaultHere tags zero owed b code = code ≡ TooMany
FaultHere tags (suc room) Free b code = (b ≢ []) × (((code ≡ NoField) × Lacks IsOrdinary b) ⊎ ((code ≡ DataLength) × Misplaced tags b))
FaultHere tags (suc room) (Owes tag many) b code = (code ≡ DataLength) × Lacks (IsOwed tag many) b

-- a place in a body: how many fields may still follow, including the last one, what the field before requires, and the
-- offset
pub record Place : Type 0 where
  pub room : ℕ
  pub owed : Owed
  pub at : ℕ

-- one field less
abbrev pub fewer : ℕ → ℕ
fewer zero = zero
fewer (suc room) = room

-- the place after a field
abbrev pub past : List Pair → Place → Field → Place
past tags p f = record { room = fewer p.room; owed = owed_after tags p.owed f; at = p.at + length (field_bytes f) }

-- the fault after these good fields
abbrev pub FaultAfter : List Pair → Place → List Field → List ℕ → FixFault → Type 0
FaultAfter tags p [] b fault = FaultHere tags p.room p.owed b fault.code × (fault.offset ≡ p.at) × (fault.detail ≡ 0)
FaultAfter tags p (f ∷ fs) b fault = (0 < p.room) × (after : List ℕ) × (b ≡ field_bytes f ++ after) × MayStand tags p.owed f after × FaultAfter tags (past tags p f) fs after fault

-- ---- a text

-- how many fields there may be between the type and the sum
abbrev pub most_between : ℕ
most_between = 4092

-- a number below a thousand in three digits, as in CheckSum
abbrev pub three_digits : ℕ → List ℕ
three_digits n = (48 + n / 100) ∷ (48 + n / 10 % 10) ∷ (48 + n % 10) ∷ []

-- the sum of all bytes before `10=`, modulo 256
abbrev pub sum_over : List ℕ → ℕ
sum_over front = sum front % 256

-- the last field of a text with these bytes before it
abbrev pub sum_field : List ℕ → Field
sum_field front = record { tag = 10; value = three_digits (sum_over front) }

-- a field with the tag of its place
pub record IsAt (tag : ℕ) (f : Field) : Type 0 where
  pub plain : IsPlain f
  pub same : f.tag ≡ tag

-- a field 9 of 1 to 9 digits
pub record IsSize (f : Field) : Type 0 where
  pub at : IsAt 9 f
  pub digits : is_number f.value ≡ true

-- the two fields that a text begins with, and what follows them
pub record Opens (text : List ℕ) (begin size : Field) (after : List ℕ) : Type 0 where
  pub text_is : text ≡ field_bytes begin ++ (field_bytes size ++ after)
  pub first : IsAt 8 begin
  pub second : IsSize size

-- the offset of the body
abbrev pub body_at : Field → Field → ℕ
body_at begin size = length (field_bytes begin) + length (field_bytes size)

-- a text with its body and its last seven bytes, as long as it states
pub record Spans (text : List ℕ) (begin size : Field) (body last : List ℕ) : Type 0 where
  pub opens : Opens text begin size (body ++ last)
  pub seven : length last ≡ 7
  pub right : digits_value 10 size.value ≡ length body

-- the parts of a text: its first three fields, the rest of the body, and the last seven bytes
pub record Parts : Type 0 where
  pub begin : Field
  pub size : Field
  pub kind : Field
  pub rest : List ℕ
  pub last : List ℕ

-- the record of these parts
abbrev pub parts : Field → Field → Field → List ℕ → List ℕ → Parts
parts begin size kind rest last = record { begin = begin; size = size; kind = kind; rest = rest; last = last }

-- a text whose body begins with its type
pub record Typed (text : List ℕ) (p : Parts) : Type 0 where
  pub spans : Spans text p.begin p.size (field_bytes p.kind ++ p.rest) p.last
  pub third : IsAt 35 p.kind

-- everything before the last field
abbrev pub front_of : Field → Field → Field → List ℕ → List ℕ
front_of begin size kind rest = field_bytes begin ++ (field_bytes size ++ (field_bytes kind ++ rest))

-- everything before the last field of a text with these parts
abbrev pub front : Parts → List ℕ
front p = front_of p.begin p.size p.kind p.rest

-- the text is these fields
pub record FixText (tags : List Pair) (fields : List Field) (text : List ℕ) : Type 0 where
  pub parts : Parts
  pub others : List Field
  pub typed : Typed text parts
  pub body : Body tags Free others parts.rest
  pub few : length others ≤ most_between
  pub sum_is : parts.last ≡ field_bytes (sum_field (front parts))
  pub fields_are : fields ≡ parts.begin ∷ parts.size ∷ parts.kind ∷ (others ++ (sum_field (front parts) ∷ []))

-- the place after the type field
abbrev pub after_type : Parts → Place
after_type p = record { room = suc most_between; owed = Free; at = body_at p.begin p.size + length (field_bytes p.kind) }

-- the fault at one of the fields of the body, or at the last field if it is one too many
abbrev pub BodyFault : List Pair → List ℕ → TCode → ℕ → ℕ → Type 0
BodyFault tags text code offset detail =
    (p : Parts) × (good : List Field) × Typed text p × FaultAfter tags (after_type p) good p.rest (record { code = code; offset = offset; detail = detail })

-- the first fault of bytes that aren't a text, by its code, its offset and its detail
abbrev pub FaultOf : List Pair → List ℕ → TCode → ℕ → ℕ → Type 0
FaultOf tags text FirstTag offset detail = Lacks (IsAt 8) text × (offset ≡ 0) × (detail ≡ 0)
FaultOf tags text BodyLength offset detail =
    (begin : Field) × (after : List ℕ) × (text ≡ field_bytes begin ++ after) × IsAt 8 begin × Lacks IsSize after × (offset ≡ length (field_bytes begin)) × (detail ≡ 0)
FaultOf tags text LengthWrong offset detail =
    (begin : Field) × (size : Field) × (after : List ℕ) × Opens text begin size after × (digits_value 10 size.value + 7 ≢ length after) ×
    (offset ≡ length (field_bytes begin)) × (detail ≡ length after - 7)
FaultOf tags text MsgType offset detail =
    (begin : Field) × (size : Field) × (body : List ℕ) × (last : List ℕ) × Spans text begin size body last × Lacks (IsAt 35) body × (offset ≡ body_at begin size) × (detail ≡ 0)
FaultOf tags text NoField offset detail = BodyFault tags text NoField offset detail
FaultOf tags text DataLength offset detail = BodyFault tags text DataLength offset detail
FaultOf tags text TooMany offset detail = BodyFault tags text TooMany offset detail
FaultOf tags text CheckSum offset detail =
    (p : Parts) × (others : List Field) × Typed text p × Body tags Free others p.rest × (length others ≤ most_between) ×
    (p.last ≢ field_bytes (sum_field (front p))) × (offset ≡ length (front p)) × (detail ≡ sum_over (front p))

-- the first fault of bytes that aren't a text
abbrev pub IsFirstFault : List Pair → List ℕ → FixFault → Type 0
IsFirstFault tags text fault = FaultOf tags text fault.code fault.offset fault.detail

-- ---- the text of fields

-- the field 9 of a body of this many bytes, without a leading zero
abbrev pub size_field : ℕ → Field
size_field n = record { tag = 9; value = decimal n }

-- everything before the last field: the value after `8=`, the right number after `9=`, and the body
abbrev pub sized : List ℕ → List ℕ → List ℕ
sized begin body = field_bytes (record { tag = 8; value = begin }) ++ (field_bytes (size_field (length body)) ++ body)

-- the text with this value after `8=`, the body's bytes, and the right sum
abbrev pub text_over : List ℕ → List ℕ → List ℕ
text_over begin body = sized begin body ++ field_bytes (sum_field (sized begin body))

-- the fields of the text over a body: the value after `8=`, the right length, the type and others, and the right sum
abbrev pub fields_over : List ℕ → Field → List Field → List ℕ → List Field
fields_over begin kind others body =
    record { tag = 8; value = begin } ∷ size_field (length body) ∷ kind ∷ (others ++ (sum_field (sized begin body) ∷ []))
