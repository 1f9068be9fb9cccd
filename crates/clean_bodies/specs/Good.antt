-- What the laws require of a level: its parts are placed, and can be written at the version.
use Rattle.std.specs.Prelude.{ℕ}
use Rattle.sbe_types.specs.declared.schema.Group.{Group}
use Rattle.sbe_types.specs.declared.schema.Level.{Level}
use Rattle.sbe_wire.specs.Placed.{IsPlacedLevel, IsPlacedGroup}
use Rattle.writing_laws.specs.Writable.{IsWritableLevel, IsWritableGroup}

-- The level is placed and writable.
pub record IsGoodLevel (version : ℕ) (level : Level) : Type 0 where
  pub placed : IsPlacedLevel level
  pub writable : IsWritableLevel version level

-- The group is placed and writable.
pub record IsGoodGroup (version : ℕ) (g : Group) : Type 0 where
  pub placed : IsPlacedGroup g
  pub writable : IsWritableGroup version g
