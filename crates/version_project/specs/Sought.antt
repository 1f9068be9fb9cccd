-- A message that was searched for, by its number.
use Rattle.std.specs.Prelude.{◌≡◌, ℕ, Option, Some, None, List, slice_get}
use Rattle.sbe_types.specs.declared.schema.Level.{Level, out-Level}
use Rattle.sbe_wire.specs.Faults.{message_named}

-- the number is that of the message, which is in the list at this index; None if there is none
abbrev pub Finds : List Level → Option (ℕ × Level) → Option ℕ → Type 0
Finds levels sought None = sought ≡ None
Finds levels sought (Some i) = (level : Level) × (slice_get levels i ≡ Some level) × (sought ≡ Some (i, level))

-- the message with the same id, and its number
abbrev pub namesake : Level → List Level → Option (ℕ × Level)
namesake level levels = message_named 0 (out-Level level).id levels
