-- A whole message: all its fields are written, or the first refusal is reported. Own profile.
use Rattle.std.specs.Prelude.{◌≡◌, [], Option, Some, None}
use Rattle.tagvalue_codec.specs.Drafts.{Draft}
use Rattle.bridge_terms.specs.Parts.{TagLists}
use Rattle.bridge_terms.specs.Places.{Places, Unsent, first_unsent, place_fields}
use Rattle.message_walk.specs.declared.halt.Halt.{Halt}
use Rattle.message_walk.specs.Halts.{halt_of}
use Rattle.message_walk.specs.States.{State, text_size, with_fields}

-- the first refusal of a message whose fields are written into a draft
abbrev pub refusal_of : TagLists → Draft → Places → Option Unsent
refusal_of lists d all = first_unsent (text_size lists d) d.limit [] all

-- without a refusal all fields are in the draft and there is no halt; else the halt is the refusal
abbrev pub IsPutOr : Option Unsent → Draft → Draft → Option Halt → Type 0
IsPutOr refusal whole new None = (refusal ≡ None) × (new ≡ whole)
IsPutOr refusal whole new (Some h) = (u : Unsent) × (refusal ≡ Some u) × (h ≡ halt_of u)

-- all fields of the places are in the draft, or the first refusal is reported
abbrev pub IsMessagePut : TagLists → Draft → Places → State → Type 0
IsMessagePut lists old all s = IsPutOr (refusal_of lists old all) (with_fields lists old (place_fields all.places)) s.draft s.halt
