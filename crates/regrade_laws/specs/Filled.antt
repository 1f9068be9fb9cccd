-- A block whose absent parts are filled. Own profile.
use Rattle.std.specs.Prelude.{ℕ, suc, ◌+◌, if◌then◌else◌, Option, Some, None, Ok, Err, List, [], ◌∷◌, length, codes}
use Rattle.sbe_types.specs.declared.path.Step.{Step}
use Rattle.sbe_types.specs.declared.path.Step.TheVariants as way
use Rattle.sbe_types.specs.declared.schema.Group.{Group, Group'}
use Rattle.sbe_types.specs.declared.schema.Level.{Level, Level', Row_of-Group, end_of-Group, more_of-Group}
use Rattle.sbe_types.specs.declared.message.Block.{Block, out-Block}
use Rattle.sbe_types.specs.declared.message.DataVal.{DataVal}
use Rattle.sbe_types.specs.declared.message.Value.{Value}
use Rattle.sbe_types.specs.declared.message.GroupVal.{GroupVal, items-the_row-Block}
use Rattle.sbe_types.specs.declared.message.GroupVal.TheVariants as groupval
use Rattle.sbe_wire.specs.Named.{is_admitted}
use Rattle.regrade_laws.specs.Fill.{Fills, fill_or_lack, field_or_fill, part_or_fill}

-- the same answer inside a step
abbrev pub in_step : {X : Type 0} → Step → Fills X → Fills X
in_step step (Ok x) = Ok x
in_step step (Err path) = Err (step ∷ path)

-- one item, and then the others, or the first path
abbrev pub then_all : {X : Type 0} → Fills X → Fills (List X) → Fills (List X)
then_all (Err path) more = Err path
then_all (Ok x) (Err path) = Err path
then_all (Ok x) (Ok xs) = Ok (x ∷ xs)

-- the parts of a level with these values, each as it is written, numbered from i on
abbrev pub filled_list : {P V : Type 0} → (P → V → Fills V) → ℕ → List P → List V → Fills (List V)
filled_list written i [] vs = Ok []
filled_list written i (p ∷ ps) [] = Ok []
filled_list written i (p ∷ ps) (v ∷ vs) = then_all (in_step (way.Part i) (written p v)) (filled_list written (suc i) ps vs)

-- entries, each as it is written, numbered from i on
abbrev pub filled_entries : (Block → Fills Block) → ℕ → List Block → Fills (List Block)
filled_entries written i [] = Ok []
filled_entries written i (e ∷ es) = then_all (in_step (way.Entry i) (written e)) (filled_entries written (suc i) es)

-- a group of these entries
abbrev pub group_of : Fills (List Block) → Fills GroupVal
group_of (Ok entries) = Ok (groupval.Entries entries)
group_of (Err path) = Err path

-- a block of fields, groups and data, or the path of the first of them that lacks a fill
abbrev pub block_of : Fills (List Value) → Fills (List GroupVal) → Fills (List DataVal) → Fills Block
block_of (Err path) groups parts = Err path
block_of (Ok fields) (Err path) parts = Err path
block_of (Ok fields) (Ok groups) (Err path) = Err path
block_of (Ok fields) (Ok groups) (Ok parts) = Ok (record { fields = fields; groups = groups; parts = parts })

-- how many groups a level has
abbrev pub row_length : {n : _} → Row_of-Group n → ℕ
row_length end_of-Group = 0
row_length (more_of-Group g gs) = suc (row_length gs)

-- a group without entries, if it may be empty
abbrev pub no_entries : Group → Fills GroupVal
no_entries (Group' dim level) = fill_or_lack (if is_admitted dim (codes "numInGroup") 0 then Some (groupval.Entries []) else None)

unfoldable mutual
  -- The block with a value for each part of the level, absent ones filled.
  pub filled_block : Level → Block → Fills Block
  filled_block (Level' _ _ _ _ _ fields _ groups parts) block =
      block_of (filled_list field_or_fill 0 fields (out-Block block).fields)
      (filled_groups (length fields) groups (out-Block block).groups)
      (filled_list part_or_fill (length fields + row_length groups) parts (out-Block block).parts)

  -- the groups of a level, numbered from i on
  pub filled_groups : ℕ → {n : _} → Row_of-Group n → List GroupVal → Fills (List GroupVal)
  filled_groups i end_of-Group vs = Ok []
  filled_groups i (more_of-Group g gs) [] = Ok []
  filled_groups i (more_of-Group g gs) (v ∷ vs) = then_all (in_step (way.Part i) (filled_group g v)) (filled_groups (suc i) gs vs)

  -- the entries of a group, each filled; no entries if the group is absent
  pub filled_group : Group → GroupVal → Fills GroupVal
  filled_group (Group' dim level) groupval.Absent = no_entries (Group' dim level)
  filled_group (Group' dim level) (groupval.Entries' n row) = group_of (filled_entries (λ entry. filled_block level entry) 0 (items-the_row-Block _ row))
