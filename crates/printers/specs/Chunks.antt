-- What a chunk holds. Own profile.
use Rattle.std.specs.Prelude.{ℕ, Bool, false, List, []}

-- the bytes that are still to be written, and whether a write has failed
pub record Gathered : Type 0 where
  pub bytes : List ℕ
  pub failed : Bool

-- no byte is to be written, and no write has failed
abbrev pub nothing_gathered : Gathered
nothing_gathered = record { bytes = []; failed = false }
