-- How far the groups and the data of a block were read. Own profile.
use Rattle.std.specs.Prelude.{◌≡◌, ℕ, List, drop, length, map, Option, Some, None, ⊤}
use Rattle.sbe_types.specs.declared.message.Block.{out-Block}
use Rattle.flyweight_view.specs.TypedBlocks.{TypedBlock, bytes_in, typed_groups}
use Rattle.message_walk.specs.declared.reached.Reached.{Reached}

-- what a block's groups show from the one with this number on
pub record AreGroupsFrom (seen : TypedBlock) (n : ℕ) (groups : List (Option (List TypedBlock))) : Type 0 where
  pub left : groups ≡ drop n (typed_groups seen.groups (out-Block seen.block).groups)
  pub many : length (typed_groups seen.groups (out-Block seen.block).groups) ≡ length seen.groups

-- what a block's data shows from the one with this number on
pub record ArePartsFrom (seen : TypedBlock) (n : ℕ) (parts : List (Option (List ℕ))) : Type 0 where
  pub left : parts ≡ drop n (map bytes_in (out-Block seen.block).parts)
  pub many : length (map bytes_in (out-Block seen.block).parts) ≡ length seen.parts

-- The groups that are left are those of the block, if some were read.
abbrev pub HaveGroups : TypedBlock → ℕ → Option (List (Option (List TypedBlock))) → Type 0
HaveGroups seen n None = ⊤
HaveGroups seen n (Some groups) = AreGroupsFrom seen n groups

-- The data that is left is that of the block, if some was read.
abbrev pub HaveParts : TypedBlock → ℕ → Option (List (Option (List ℕ))) → Type 0
HaveParts seen n None = ⊤
HaveParts seen n (Some parts) = ArePartsFrom seen n parts

-- the groups and the data that are left are those of the block
pub record IsReached (seen : TypedBlock) (r : Reached) : Type 0 where
  pub groups : HaveGroups seen r.next_group r.groups
  pub parts : HaveParts seen r.next_part r.parts
