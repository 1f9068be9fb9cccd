-- How many entries a message has in all.
use Rattle.std.specs.Prelude.{◌≤◌, ℕ, suc, ◌+◌, Option, Some, None, List, [], ◌∷◌, ⊤, IsTrue}
use Rattle.sbe_types.specs.declared.message.Block.{Block, out-Block}
use Rattle.sbe_types.specs.declared.message.GroupVal.{GroupVal}
use Rattle.sbe_types.specs.declared.schema.Group.{Group, Group'}
use Rattle.sbe_types.specs.declared.schema.Level.{Level, Level', out-Level, Row_of-Group, end_of-Group, more_of-Group}
use Rattle.sbe_wire.specs.Canonical.{entries_in}
use Rattle.sbe_wire.specs.Versions.{is_alive}
use Rattle.schema_facts.specs.Entries.{entry_least}

-- the sum of the number of each item
abbrev pub total : {X : Type 0} → (X → ℕ) → List X → ℕ
total f [] = 0
total f (x ∷ xs) = f x + total f xs

-- the sum of the number of each entry of a group, or 0 if the group is absent
abbrev pub over_entries : (Block → ℕ) → Option (List Block) → ℕ
over_entries f None = 0
over_entries f (Some entries) = total f entries

unfoldable mutual
  -- how many entries there are in the groups of a level, and in those of their entries
  pub count_in : Level → Block → ℕ
  count_in (Level' name id semantic since block_length fields n groups parts) block = count_groups groups (out-Block block).groups

  -- the same for some groups
  pub count_groups : {n : _} → Row_of-Group n → List GroupVal → ℕ
  count_groups end_of-Group vs = 0
  count_groups (more_of-Group g rest) [] = 0
  count_groups (more_of-Group g rest) (v ∷ vs) = count_group g v + count_groups rest vs

  -- the same for one group: each entry, and those inside it
  pub count_group : Group → GroupVal → ℕ
  count_group (Group' dim level) v = over_entries (λ entry. suc (count_in level entry)) (entries_in v)

unfoldable mutual
  -- each entry of each group below takes a byte, if the group is alive
  pub TakesBytes : ℕ → Level → Type 0
  TakesBytes version (Level' name id semantic since block_length fields n groups parts) = GroupsTakeBytes version groups

  -- the same for some groups
  pub GroupsTakeBytes : ℕ → {n : _} → Row_of-Group n → Type 0
  GroupsTakeBytes version end_of-Group = ⊤
  GroupsTakeBytes version (more_of-Group g rest) = GroupTakesBytes version g × GroupsTakeBytes version rest

  -- the same for one group: its own entries take a byte if it is alive
  pub GroupTakesBytes : ℕ → Group → Type 0
  GroupTakesBytes version (Group' dim level) = (IsTrue (is_alive version (out-Level level).since) → 1 ≤ entry_least version level) × TakesBytes version level
