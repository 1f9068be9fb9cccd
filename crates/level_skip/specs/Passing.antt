-- Entries that are skipped: their blocks are not checked, and their groups and data are as long as they state. From SBE
-- 1.0, Repeating group encoding and Variable-length data.
use Rattle.std.specs.Prelude.{ℕ, nat_le, if◌then◌else◌, Ok, Err, pos}
use Rattle.sbe_types.specs.declared.kind.Order.{Order}
use Rattle.sbe_types.specs.declared.schema.Group.{Group, Group'}
use Rattle.sbe_types.specs.declared.schema.Level.{Level, Level', out-Level, Row_of-Group, end_of-Group, more_of-Group}
use Rattle.sbe_wire.specs.declared.codes.FCode.TheVariants as code
use Rattle.sbe_wire.specs.Faults.{fault_at}
use Rattle.sbe_wire.specs.Reading.{Reader, then_read, nothing, bytes_read, times_read, each_read, data_read, dimension_read}
use Rattle.sbe_wire.specs.Versions.{is_alive, floor}

-- what is read, without its value
abbrev pub passed : {X : Type 0} → Reader X → Reader Unit
passed p = then_read p (λ _. nothing tt)

-- an entry: k bytes, whatever they show, and then its groups and data
abbrev pub entry_passed : Reader Unit → ℕ → Reader Unit
entry_passed tail k = then_read (passed (bytes_read k)) (λ _. tail)

unfoldable mutual
  -- the groups of a level and then its data
  pub tail_passed : Order → ℕ → Level → Reader Unit
  tail_passed order version (Level' name id semantic since block_length fields _ groups parts) b =
      then_read (groups_passed order version groups) (λ _. passed (each_read (data_read order version) 0 parts)) b

  -- groups, in order
  pub groups_passed : Order → ℕ → {n : _} → Row_of-Group n → Reader Unit
  groups_passed order version end_of-Group b = Ok (tt, b)
  groups_passed order version (more_of-Group g rest) b = then_read (group_passed order version g) (λ _. groups_passed order version rest) b

  -- a group, which takes no bytes if it isn't alive
  pub group_passed : Order → ℕ → Group → Reader Unit
  group_passed order version (Group' dim level) b =
      if is_alive version (out-Level level).since
      then then_read (dimension_read order dim (floor version (out-Level level).fields))
      (λ d. passed (times_read (entry_passed (tail_passed order version level) d.0) 0 d.1)) b
      else Ok (tt, b)

-- an entry of a level with a block of k bytes
abbrev pub entry_in : Order → ℕ → Level → ℕ → Reader Unit
entry_in order version level k = entry_passed (tail_passed order version level) k

-- the same if the block reaches the floor
abbrev pub level_passed : Order → ℕ → Level → ℕ → Reader Unit
level_passed order version level k b =
    if nat_le (floor version (out-Level level).fields) k
    then entry_in order version level k b
    else Err (fault_at code.BlockShort 0 (pos k))
