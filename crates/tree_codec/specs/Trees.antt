-- The tree of what a view shows, and which blocks have as many values as their level has parts.
use Rattle.std.specs.Prelude.{◌≡◌, ℕ, Option, Some, None, List, [], ◌∷◌, length, map, ⊤}
use Rattle.sbe_types.specs.declared.message.Block.{Block, out-Block}
use Rattle.sbe_types.specs.declared.message.DataVal.{DataVal}
use Rattle.sbe_types.specs.declared.message.DataVal.TheVariants as dataval
use Rattle.sbe_types.specs.declared.message.GroupVal.{GroupVal, items-the_row-Block}
use Rattle.sbe_types.specs.declared.message.GroupVal as groupval
use Rattle.sbe_types.specs.declared.schema.Group.{Group, Group'}
use Rattle.sbe_types.specs.declared.schema.Level.{Level, Level', Row_of-Group, end_of-Group, more_of-Group}
use Rattle.flyweight_view.specs.TypedBlocks.{TypedBlock}

-- ---- trees

-- the data part with these bytes; without bytes it is absent
abbrev pub part_of : Option (List ℕ) → DataVal
part_of None = dataval.Absent
part_of (Some bytes) = dataval.Bytes bytes

-- the blocks of the entries that a view shows
abbrev pub blocks_of : List TypedBlock → List Block
blocks_of entries = map (λ (s : TypedBlock). s.block) entries

-- the group with these entries; without entries it is absent
abbrev pub group_of : Option (List TypedBlock) → GroupVal
group_of None = groupval.TheVariants.Absent
group_of (Some entries) = groupval.TheVariants.Entries (blocks_of entries)

-- ---- whole blocks

-- the entries of a group; an absent one has none
abbrev pub entries_of : GroupVal → List Block
entries_of groupval.Absent = []
entries_of (groupval.Entries' n row) = items-the_row-Block _ row

-- the property holds of each block
abbrev pub Each : (Block → Type 0) → List Block → Type 0
Each P [] = ⊤
Each P (b ∷ bs) = P b × Each P bs

abbrev mutual
  -- there are as many values as the level has fields and groups, at all depths
  pub IsWhole : Level → Block → Type 0
  IsWhole (Level' name id semantic since block_length fields n groups parts) block =
      (length (out-Block block).fields ≡ length fields) × AreWhole groups (out-Block block).groups

  -- the same for a level's groups
  pub AreWhole : {n : _} → Row_of-Group n → List GroupVal → Type 0
  AreWhole end_of-Group [] = ⊤
  AreWhole end_of-Group (v ∷ vs) = ⊥
  AreWhole (more_of-Group g rest) [] = ⊥
  AreWhole (more_of-Group g rest) (v ∷ vs) = GroupIsWhole g v × AreWhole rest vs

  -- the same for a group
  pub GroupIsWhole : Group → GroupVal → Type 0
  GroupIsWhole (Group' dim level) v = Each (λ entry. IsWhole level entry) (entries_of v)

-- the same for groups in a list
abbrev pub GroupsAreWhole : List Group → List GroupVal → Type 0
GroupsAreWhole [] [] = ⊤
GroupsAreWhole [] (v ∷ vs) = ⊥
GroupsAreWhole (g ∷ gs) [] = ⊥
GroupsAreWhole (g ∷ gs) (v ∷ vs) = GroupIsWhole g v × GroupsAreWhole gs vs

-- what a block shows is whole
pub record IsWholeBlock (s : TypedBlock) : Type 0 where
  pub fields : length (out-Block s.block).fields ≡ length s.fields
  pub groups : GroupsAreWhole s.groups (out-Block s.block).groups

-- the same for entries
abbrev pub AllWhole : List TypedBlock → Type 0
AllWhole [] = ⊤
AllWhole (s ∷ ss) = IsWholeBlock s × AllWhole ss

-- the same for the entries of a group that is there
abbrev pub IsWholeGroup : Option (List TypedBlock) → Type 0
IsWholeGroup None = ⊤
IsWholeGroup (Some es) = AllWhole es

-- the same for what groups show
abbrev pub AreWholeGroups : List (Option (List TypedBlock)) → Type 0
AreWholeGroups [] = ⊤
AreWholeGroups (o ∷ os) = IsWholeGroup o × AreWholeGroups os
