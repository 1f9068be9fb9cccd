-- The places of single values in a message, and what lies there.
use Rattle.std.specs.Prelude.{ℕ, nat_lt, if◌then◌else◌, ℤ, Option, Some, None, List, [], ◌∷◌, length, slice_get}
use Rattle.std.specs.Option.{option_and_then, option_map}
use Rattle.sbe_types.specs.declared.message.Block.{out-Block}
use Rattle.field_values.specs.declared.state.FieldState.{FieldState}
use Rattle.field_values.specs.Reports.{state_of}
use Rattle.flyweight_view.specs.TypedBlocks.{TypedBlock, TypedMessage, typed_level}
use Rattle.field_lookup.specs.declared.places.FieldPlace.{FieldPlace}
use Rattle.field_lookup.specs.declared.places.Step.{Step}
use Rattle.field_lookup.specs.declared.places.ValuePlace.{ValuePlace}
use Rattle.field_lookup.specs.Values.{composite_at, data_at, group_entries, number_at, text_at}

-- ---- the place of a value

-- The steps from the root to a block, and a field there.
pub record Spot : Type 0 where
  pub steps : List Step
  pub field : FieldPlace

-- the same by its parts
abbrev pub spot_at : List Step → FieldPlace → Spot
spot_at steps field = record { steps = steps; field = field }

-- the entry to which a step leads
abbrev pub entry_at : Step → TypedBlock → Option TypedBlock
entry_at step block = slice_get (group_entries step.group block) step.entry

-- the block to which steps lead
abbrev pub block_at : List Step → TypedBlock → Option TypedBlock
block_at [] block = Some block
block_at (step ∷ steps) block = option_and_then (block_at steps) (entry_at step block)

-- field i of a block, if it has that many
abbrev pub place_at : ℕ → TypedBlock → Option ValuePlace
place_at i block = if nat_lt i (length block.fields) then Some (record { block = block; i = i }) else None

-- a member of a composite, or the field itself if it is none
abbrev pub member_at : ℕ → Option TypedBlock → ValuePlace → Option ValuePlace
member_at member (Some members) place = place_at member members
member_at member None place = Some place

-- the same for a field of a block
abbrev pub value_place : FieldPlace → TypedBlock → Option ValuePlace
value_place f block = option_and_then (member_at f.member (composite_at f.field block)) (place_at f.field block)

-- the block of a message to which steps lead from the root
abbrev pub block_of : List Step → TypedMessage → Option TypedBlock
block_of steps message = block_at steps (typed_level message.level message.message.block)

-- where a value of a message is
abbrev pub place_of : Spot → TypedMessage → Option ValuePlace
place_of spot message = option_and_then (value_place spot.field) (block_of spot.steps message)

-- ---- the value

-- the number of a value, if it has one
abbrev pub message_number : Spot → TypedMessage → Option ℤ
message_number spot message = option_and_then (λ p. number_at p.i p.block) (place_of spot message)

-- whether the value of a place is there
abbrev pub state_at : ValuePlace → Option FieldState
state_at p = option_map state_of (slice_get (out-Block p.block.block).fields p.i)

-- the state of a value; None if the message has no such place
abbrev pub message_state : Spot → TypedMessage → Option FieldState
message_state spot message = option_and_then state_at (place_of spot message)

-- the text of a value, if it has one
abbrev pub message_text : Spot → TypedMessage → Option (List ℕ)
message_text spot message = option_and_then (λ p. text_at p.i p.block) (place_of spot message)

-- the bytes of a data part of the block to which steps lead, if it is there
abbrev pub message_data : List Step → ℕ → TypedMessage → Option (List ℕ)
message_data steps i message = option_and_then (data_at i) (block_of steps message)
