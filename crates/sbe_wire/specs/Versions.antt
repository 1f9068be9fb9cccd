-- Versions: which parts of a schema a message has. From SBE 1.0, Schema extension mechanism; the floor is own profile.
use Rattle.std.specs.Prelude.{ℕ, min, nat_le, Bool, true, not, ◌&&◌, if◌then◌else◌, List, [], ◌∷◌}
use Rattle.sbe_types.specs.declared.kind.Order.{Order}
use Rattle.sbe_types.specs.declared.schema.Field.{Field}
use Rattle.sbe_types.specs.declared.schema.WireSchema.{WireSchema}
use Rattle.sbe_types.specs.Places.{is_const, end_past}
use Rattle.sbe_types.specs.declared.schema.Level.{Level, out-Level}
use Rattle.sbe_wire.specs.declared.mode.Mode.{Mode}

-- the version by which a message with version w in its header is read
abbrev pub acting : WireSchema → ℕ → ℕ
acting schema w = min w schema.version

-- the schema knows all parts of such a message
abbrev pub is_known : WireSchema → ℕ → Bool
is_known schema w = nat_le w schema.version

-- how the values of a message with version w in its header are read
abbrev pub mode_of : WireSchema → ℕ → Mode
mode_of schema w = record { order = schema.order; known = is_known schema w; version = acting schema w }

-- how the values of a message of the schema's own version are read
abbrev pub own_mode : Order → ℕ → Mode
own_mode order version = record { order = order; known = true; version = version }

-- a part is on the wire from its effective since on
abbrev pub is_alive : ℕ → ℕ → Bool
is_alive version since = nat_le since version

-- the same after fields that end at e, where the block already has to reach `reached`
abbrev pub floor_from : ℕ → ℕ → ℕ → List Field → ℕ
floor_from version e reached [] = reached
floor_from version e reached (f ∷ fs) =
    floor_from version (end_past e f.offset f.kind)
    (if is_alive version f.since && not (is_const f.kind) then end_past e f.offset f.kind else reached) fs

-- the end of the last field that is alive and not a constant: the least length of a block
abbrev pub floor : ℕ → List Field → ℕ
floor version fields = floor_from version 0 0 fields

-- the form of a level's blocks: how their values are read, and their fields
pub record BlockForm : Type 0 where
  pub mode : Mode
  pub fields : List Field

-- the form of this level's blocks, whose values are read in that mode
abbrev pub form_of : Mode → Level → BlockForm
form_of mode level = record { mode = mode; fields = (out-Level level).fields }
