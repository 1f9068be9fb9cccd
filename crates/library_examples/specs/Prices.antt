-- The prices of a feed, found by their names.
use Rattle.std.specs.Prelude.{◌≡◌, ℕ, nat_eq, nat_lt, if◌then◌else◌, ℤ, Option, Some, None, List, [], ◌∷◌, length, slice_get}
use Rattle.std.specs.Option.{option_and_then}
use Rattle.sbe_types.specs.declared.schema.Level.{Level}
use Rattle.sbe_types.specs.declared.schema.WireSchema.{WireSchema}
use Rattle.sbe_types.specs.declared.message.Msg.{Msg}
use Rattle.sbe_wire.specs.Lays.{Lays}
use Rattle.flyweight_view.specs.TypedBlocks.{TypedBlock, TypedMessage, typed_level}
use Rattle.field_lookup.specs.declared.entry_fields.EntryField.{EntryField}
use Rattle.field_lookup.specs.Values.{composite_at, group_entries, number_at}

-- the mantissa of a price: the number of a composite's first member
abbrev pub mantissa_at : ℕ → TypedBlock → Option ℤ
mantissa_at i seen = if nat_lt i (length seen.fields) then option_and_then (number_at 0) (composite_at i seen) else None

-- the later of two prices, where there is one
abbrev pub later : Option ℤ → Option ℤ → Option ℤ
later earlier (Some price) = Some price
later earlier None = earlier

-- the price of the last entry that has one, or else an earlier one
abbrev pub last_after : ℕ → Option ℤ → List TypedBlock → Option ℤ
last_after i earlier [] = earlier
last_after i earlier (e ∷ es) = last_after i (later earlier (mantissa_at i e)) es

-- the price of the last entry that has one
abbrev pub last_price : ℕ → List TypedBlock → Option ℤ
last_price i entries = last_after i None entries

-- the last price of a message's entries, where it is one of that template
abbrev pub price_in : EntryField → TypedMessage → Option ℤ
price_in price seen =
    if nat_eq seen.message.template price.template
    then last_price price.field (group_entries price.group (typed_level seen.level seen.message.block)) else None

-- A message lies in the body, and this is its last price.
pub record IsLastPrice (schema : WireSchema) (body : List ℕ) (field : EntryField) (price : Option ℤ) : Type 0 where
  pub message : Msg
  pub level : Level
  pub lies : Lays schema message body
  pub root : slice_get schema.messages message.template ≡ Some level
  pub is : price ≡ price_in field (record { level = level; message = message })
