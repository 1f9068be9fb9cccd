-- What a writer of texts holds. Own profile.
use Rattle.std.specs.Prelude.{◌≡◌, ◌≢◌, ℕ, ◌<◌, false, List, [], ◌∷◌, ◌++◌, length, decimal, min}
use Rattle.std.specs.List.{AllByRecursion}
use Rattle.tagvalue_codec.specs.declared.write.Phase.{Phase}
use Rattle.tagvalue_codec.specs.declared.write.Phase.TheVariants.{Idle, Open, Done}
use Rattle.tagvalue_codec.specs.declared.write.Full.{Full}
use Rattle.tagvalue_codec.specs.Fields.{soh, Field, IsTag, field_bytes, tag_bytes}
use Rattle.tagvalue_codec.specs.Texts.{is_locked, text_over}

-- the phase of a text, the value after `8=`, the bytes of the body, and the limit
pub record Draft : Type 0 where
  pub phase : Phase
  pub begin : List ℕ
  pub body : List ℕ
  pub limit : ℕ

-- no text is begun
abbrev pub idle : ℕ → Draft
idle limit = record { phase = Idle; begin = []; body = []; limit = limit }

-- a text that is begun
abbrev pub begun : ℕ → List ℕ → List ℕ → Draft
begun limit begin body = record { phase = Open; begin = begin; body = body; limit = limit }

-- the text that was begun, now finished
abbrev pub done : Draft → Draft
done d = record { phase = Done; begin = d.begin; body = d.body; limit = d.limit }

-- the finished text, empty before it is finished
abbrev pub finished_in : Phase → Draft → List ℕ
finished_in Idle d = []
finished_in Open d = []
finished_in Done d = text_over d.begin d.body

-- the finished text of a draft
abbrev pub finished : Draft → List ℕ
finished d = finished_in d.phase d

-- the text with this value and body would exceed the limit
pub record IsFull (limit : ℕ) (begin body : List ℕ) (full : Full) : Type 0 where
  pub over : limit < length (text_over begin body)
  pub needed : full.needed ≡ min (length (text_over begin body)) 18446744073709551615
  pub limit_is : full.limit ≡ limit

-- at least one byte, and none is SOH
pub record IsValue (value : List ℕ) : Type 0 where
  pub some : 0 < length value
  pub plain : AllByRecursion (λ b. b ≢ soh) value

-- the bytes of a tag that is allowed in a body, with its =
pub record IsReady (bytes : List ℕ) : Type 0 where
  pub tag : ℕ
  pub tagged : IsTag tag
  pub unlocked : is_locked tag ≡ false
  pub bytes_are : bytes ≡ tag_bytes tag

-- a field with this tag and value
abbrev pub field_of : ℕ → List ℕ → Field
field_of tag value = record { tag = tag; value = value }

-- the field 35 with this type
abbrev pub typed : List ℕ → Field
typed msg_type = field_of 35 msg_type

-- the bytes of a field by those of its tag
abbrev pub ready_bytes : List ℕ → List ℕ → List ℕ
ready_bytes tag value = tag ++ (value ++ (soh ∷ []))

-- a length field and its data field
abbrev pub data_bytes : ℕ → ℕ → List ℕ → List ℕ
data_bytes length_tag tag value = field_bytes (field_of length_tag (decimal (length value))) ++ field_bytes (field_of tag value)

-- the same by the bytes of both tags
abbrev pub ready_data_bytes : List ℕ → List ℕ → List ℕ → List ℕ
ready_data_bytes length_tag tag value = ready_bytes length_tag (decimal (length value)) ++ ready_bytes tag value
