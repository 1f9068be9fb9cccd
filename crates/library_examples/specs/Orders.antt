-- A message that is written part by part.
use Rattle.std.specs.Prelude.{◌≡◌, ◌≢◌, ◌<◌, ◌-◌, ℕ, ℤ, true, Option, Some, None, List, [], ◌∷◌, length, map}
use Rattle.std.specs.Option.{option_and_then}
use Rattle.sbe_types.specs.declared.message.Block.{Block}
use Rattle.sbe_types.specs.declared.message.DataVal.TheVariants as dataval
use Rattle.sbe_types.specs.declared.message.GroupVal.TheVariants as groupval
use Rattle.sbe_types.specs.declared.message.Msg.{Msg}
use Rattle.sbe_types.specs.declared.message.Value.TheVariants as value
use Rattle.sbe_types.specs.declared.schema.Group.{Group}
use Rattle.sbe_types.specs.declared.schema.Level.{Level}
use Rattle.sbe_types.specs.declared.schema.WireSchema.{WireSchema}
use Rattle.sbe_types.specs.Wire.{both}
use Rattle.sbe_wire.specs.Canonical.{all_bytes}
use Rattle.sbe_wire.specs.Misfit.{Misfit, misfit, or_else}
use Rattle.schema_facts.specs.Levels.{fields_at, groups_at, level_at, parts_at, root_of}
use Rattle.layout_tables.specs.Parts.{group_number}
use Rattle.typed_writer.specs.Held.{Held}
use Rattle.typed_writer.specs.declared.stack.Frame.TheVariants.{Entries, Tail}
use Rattle.typed_writer.specs.States.{entries_left, level_of}
use Rattle.typed_writer.specs.Steps.{admits_entries, dimension_in, misfit_at}
use Rattle.library_examples.specs.declared.orders.Order.{Order}
use Rattle.tree_codec.specs.Puts.{HasRoom, Puts, entry_put, entry_stretch, group_stretch}

-- the number of the level of an order's legs
abbrev pub legs_of : WireSchema → ℕ
legs_of schema = group_number schema (root_of schema 0) 0

-- The first message has one field, one group whose entries have one field and nothing after their block, and one data
-- part.
pub record IsOrderSchema (schema : WireSchema) : Type 0 where
  pub message : 0 < length schema.messages
  pub fields : length (fields_at schema (root_of schema 0)) ≡ 1
  pub groups : length (groups_at schema (root_of schema 0)) ≡ 1
  pub parts : length (parts_at schema (root_of schema 0)) ≡ 1
  pub leg_fields : length (fields_at schema (legs_of schema)) ≡ 1
  pub leg_groups : length (groups_at schema (legs_of schema)) ≡ 0
  pub leg_parts : length (parts_at schema (legs_of schema)) ≡ 0

-- the innermost writer is that of the legs
abbrev pub AtLegs : WireSchema → Held → Type 0
AtLegs schema held = level_of held.frames ≡ legs_of schema

-- ---- an order as a message

-- the entry of a leg
abbrev pub leg_block : ℤ → Block
leg_block quantity = record { fields = value.Num quantity ∷ []; groups = []; parts = [] }

-- the root of an order: its number, the quantity of each leg, and its note
abbrev pub order_block : ℤ → List ℤ → List ℕ → Block
order_block number legs note = record {
  fields = value.Num number ∷ [];
  groups = groupval.Entries (map leg_block legs) ∷ [];
  parts = dataval.Bytes note ∷ [];
}

-- the order as the first message of a schema of this version
abbrev pub order_message : ℕ → ℤ → List ℤ → List ℕ → Msg
order_message version number legs note = record { template = 0; version = version; block = order_block number legs note }

-- the same for an order of the code
abbrev pub message_of_order : ℕ → Order → Msg
message_of_order version order = order_message version order.number order.legs.now order.note.now

-- ---- the bytes of an order

-- the bytes of a leg
abbrev pub leg_bytes : WireSchema → ℤ → Option (List ℕ)
leg_bytes schema quantity = option_and_then (λ (level : Level). entry_put schema.order level (leg_block quantity)) (level_at schema (legs_of schema))

-- the bytes of all legs after their dimension
abbrev pub legs_bytes : WireSchema → List ℤ → Option (List ℕ)
legs_bytes schema legs = both (dimension_in schema (legs_of schema) (length legs)) (all_bytes (leg_bytes schema) legs)

-- ---- what fits of an order

-- the quantity fits the field of a leg
abbrev pub LegFits : WireSchema → ℤ → Type 0
LegFits schema quantity = misfit_at schema (legs_of schema) 0 (value.Num quantity) ≡ None

-- the first misfit of the quantities of legs
abbrev pub legs_misfit : WireSchema → List ℤ → Option Misfit
legs_misfit schema [] = None
legs_misfit schema (q ∷ qs) = or_else (misfit_at schema (legs_of schema) 0 (value.Num q)) (legs_misfit schema qs)

-- the group may have this many legs, and each fits
abbrev pub LegsFit : WireSchema → List ℤ → Type 0
LegsFit schema legs = (admits_entries schema (legs_of schema) (length legs) ≡ true) × (legs_misfit schema legs ≡ None)

-- ---- what has room

-- The entry of a leg has no misfit, and there is room for it after what is held.
pub record LegHasRoom (schema : WireSchema) (quantity : ℤ) (held : Held) : Type 0 where
  pub level : Level
  pub there : level_at schema (legs_of schema) ≡ Some level
  pub room : HasRoom (entry_stretch schema.order level (leg_block quantity)) held

-- The entry of a leg was appended, and the writer continues with the next one.
pub record PutsLeg (schema : WireSchema) (quantity : ℤ) (old new : Held) : Type 0 where
  pub level : Level
  pub there : level_at schema (legs_of schema) ≡ Some level
  pub puts : Puts (entry_stretch schema.order level (leg_block quantity)) (Entries (legs_of schema) (entries_left old.frames - 1)) old new

-- The group of all legs has no misfit, and there is room for it after what is held.
pub record LegsHaveRoom (schema : WireSchema) (legs : List ℤ) (held : Held) : Type 0 where
  pub group : Group
  pub one : groups_at schema (root_of schema 0) ≡ group ∷ []
  pub room : HasRoom (group_stretch schema.order group (groupval.Entries (map leg_block legs))) held

-- The group of all legs was appended, and the writer continues after it.
pub record PutsLegs (schema : WireSchema) (legs : List ℤ) (old new : Held) : Type 0 where
  pub group : Group
  pub one : groups_at schema (root_of schema 0) ≡ group ∷ []
  pub puts : Puts (group_stretch schema.order group (groupval.Entries (map leg_block legs))) (Tail (root_of schema 0) 1) old new

-- an order that isn't written: the schema's first message isn't an order, or the message has a misfit within the limit
abbrev pub IsNoOrder : WireSchema → Msg → ℕ → Type 0
IsNoOrder schema m limit = IsOrderSchema schema → misfit schema m limit ≢ None
