-- The text of a message: its head, and its fields in the order of the structure. Own profile.
use Rattle.std.specs.Prelude.{◌≡◌, ℕ, Bool, true, false, List, [], ◌++◌, Option, Some, None}
use Rattle.tagvalue_codec.specs.Drafts.{Draft, begun, finished}
use Rattle.tagvalue_codec.specs.Fields.{Field, bytes_of}
use Rattle.tagvalue_codec.specs.Texts.{text_over}
use Rattle.bridge_terms.specs.Parts.{TagLists}
use Rattle.bridge_terms.specs.Places.{Places, Unsent, place_fields}
use Rattle.message_walk.specs.declared.halt.Halt.{Halt}
use Rattle.message_walk.specs.Halts.{halt_of}
use Rattle.message_walk.specs.Messages.{refusal_of}
use Rattle.message_walk.specs.States.{State, fields_bytes}
use Rattle.fix_messages.specs.Heads.{Head, head_fields, field_places, headed, no_lists}

-- the text of a message with these fields, with the length field of each data field
abbrev pub message_text : TagLists → List ℕ → Head → List Field → List ℕ
message_text lists kind head fields = text_over head.begin (bytes_of (head_fields kind head) ++ fields_bytes lists fields)

-- the first of two refusals
abbrev pub or_later : Option Unsent → Option Unsent → Option Unsent
or_later None later = later
or_later (Some u) later = Some u

-- the first refusal of a text of at most `limit` bytes: a field of its head, or else a place of the message
abbrev pub text_refusal : TagLists → ℕ → List ℕ → Head → Places → Option Unsent
text_refusal lists limit kind head all =
    or_later (refusal_of no_lists (begun limit head.begin []) (field_places (head_fields kind head))) (refusal_of lists (headed limit kind head) all)

-- without a refusal the text is finished; else the refusal is reported and there is no text
abbrev pub IsTextBy : Option Unsent → List ℕ → Bool → Draft → Halt → Type 0
IsTextBy None text done d h = (done ≡ true) × (finished d ≡ text)
IsTextBy (Some u) text done d h = (done ≡ false) × (h ≡ halt_of u) × (finished d ≡ [])

-- the whole text of a message is written, or its first refusal is reported
abbrev pub IsTextPut : TagLists → ℕ → List ℕ → Head → Places → Bool → Draft → Halt → Type 0
IsTextPut lists limit kind head all done d h =
    IsTextBy (text_refusal lists limit kind head all) (message_text lists kind head (place_fields all.places)) done d h

-- what a head leaves: all of its fields are written, or the first that doesn't fit is reported and there is no text
abbrev pub IsHeadLeft : State → Bool → Draft → Halt → Type 0
IsHeadLeft s true d h = s ≡ record { draft = d; halt = None }
IsHeadLeft s false d h = (s.halt ≡ Some h) × (finished d ≡ [])
