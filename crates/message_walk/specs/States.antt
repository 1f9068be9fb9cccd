-- What is written of a message into a draft: place by place, up to the first that is refused or doesn't fit. Own
-- profile.
use Rattle.std.specs.Prelude.{◌≡◌, ℕ, Bool, true, false, nat_lt, if◌then◌else◌, List, [], ◌∷◌, ◌++◌, length, Option, Some, None, Result}
use Rattle.std.specs.Option.{option_map}
use Rattle.fix_values.specs.declared.rule.V.{V}
use Rattle.tagvalue_codec.specs.Fields.{Field, bytes_of}
use Rattle.tagvalue_codec.specs.Drafts.{Draft, begun}
use Rattle.tagvalue_codec.specs.Texts.{text_over}
use Rattle.bridge_terms.specs.Parts.{TagLists}
use Rattle.bridge_terms.specs.MessageFields.{with_lengths, gives_field}
use Rattle.bridge_terms.specs.Places.{Way, Written, Refused, Places, over_limit, unwritten, text_places}
use Rattle.message_walk.specs.declared.halt.Halt.{Halt}
use Rattle.message_walk.specs.declared.put.Put.{Put}
use Rattle.message_walk.specs.declared.put.Put.TheVariants as put
use Rattle.message_walk.specs.Halts.{halt_of, halt_in}

-- the bytes of fields, with the length field of each data field
abbrev pub fields_bytes : TagLists → List Field → List ℕ
fields_bytes lists fields = bytes_of (with_lengths lists fields)

-- a draft with more fields
abbrev pub with_fields : TagLists → Draft → List Field → Draft
with_fields lists d fields = begun d.limit d.begin (d.body ++ fields_bytes lists fields)

-- the length of the text, if it is finished with more fields
abbrev pub text_size : TagLists → Draft → List Field → ℕ
text_size lists d fields = length (text_over d.begin (d.body ++ fields_bytes lists fields))

-- with more fields the text exceeds the limit
abbrev pub is_over : TagLists → Draft → List Field → Bool
is_over lists d fields = nat_lt d.limit (text_size lists d fields)

-- a draft, and the first place that isn't written, if there is one
pub record State : Type 0 where
  pub draft : Draft
  pub halt : Option Halt

-- the halt because the text exceeds the limit with the fields of a place
abbrev pub full_at : TagLists → Draft → Written → Halt
full_at lists d x = halt_of (over_limit (record { way = x.way; size = text_size lists d x.fields }))

-- what is left after places are written in order, and then what ends them
abbrev pub after_places : TagLists → Draft → List Written → Option Refused → State
after_places lists d [] refused = record { draft = d; halt = option_map (λ r. halt_of (unwritten r)) refused }
after_places lists d (x ∷ xs) refused =
    if is_over lists d x.fields then record { draft = d; halt = Some (full_at lists d x) } else after_places lists (with_fields lists d x.fields) xs refused

-- what is left after the places of a message
abbrev pub after : TagLists → Draft → Places → State
after lists d all = after_places lists d all.places all.refused

-- more is written, unless a place was refused
abbrev pub continued : Draft → Option Halt → (Draft → State) → State
continued d None more = more d
continued d (Some h) more = record { draft = d; halt = Some h }

-- a state, and what is written after it, unless a place was refused
abbrev pub go_on : State → (Draft → State) → State
go_on s more = continued s.draft s.halt more

-- a state inside a part or an entry
abbrev pub state_in : Way → State → State
state_in step s = record { draft = s.draft; halt = halt_in step s.halt }

-- the state by whether all was written; if not, with this halt
abbrev pub outcome : Bool → Draft → Halt → State
outcome true d h = record { draft = d; halt = None }
outcome false d h = record { draft = d; halt = Some h }

-- what happened to one field, with the draft and the halt
pub record PutResult : Type 0 where
  pub put : Put
  pub draft : Draft
  pub halt : Halt

-- the state after one field
abbrev pub put_state : Put → Draft → Halt → State
put_state put.Written d h = record { draft = d; halt = None }
put_state put.Nothing d h = record { draft = d; halt = None }
put_state put.Refused d h = record { draft = d; halt = Some h }

-- the value gave a field, or would have if it had a text and room
abbrev pub has_field : Put → Bool
has_field put.Written = true
has_field put.Nothing = false
has_field put.Refused = true

-- the field of a value was written, or left out, or refused
abbrev pub IsPut : TagLists → Draft → ℕ → Result (Option (List ℕ)) V → PutResult → Type 0
IsPut lists old tag text r = (put_state r.put r.draft r.halt ≡ after lists old (text_places tag text)) × (has_field r.put ≡ gives_field text)
