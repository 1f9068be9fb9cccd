-- How deep the groups of a view lie.
use Rattle.std.proofs.Common.{◌≡◌, ◌≤◌, ◌<◌, ℕ, zero, suc, max, List, [], ◌∷◌, length, get_or, Option, Some, None, refl, ap, ◌∙◌, subst, arith}
use Rattle.std.specs.Prelude.{⊤, map}
use denote.Hole.Carrier as carrier
use Rattle.sbe_types.specs.declared.schema.Group as groups
use Rattle.sbe_types.specs.declared.schema.Level as levels
use Rattle.sbe_types.specs.declared.schema.Group.{Group, Group', out-Group}
use Rattle.sbe_types.specs.declared.schema.Level.{Level, Level', out-Level, Row_of-Group, end_of-Group, more_of-Group, items-the_row-Group, items_shown-the_row-Group-0}
use Rattle.sbe_types.specs.declared.message.Block.{Block}
use Rattle.sbe_types.specs.declared.message.GroupVal.{GroupVal, items-the_row-Block}
use Rattle.sbe_types.specs.declared.message.GroupVal as groupval
use Rattle.schema_facts.specs.CheckedLevels.{groups_deep, row_deep}
use Rattle.flyweight_view.specs.TypedBlocks.{TypedBlock, typed_level, entries_in, typed_groups}
use Rattle.flyweight_view.specs.Deep.{deepest, deepest_in}

row_is : (n : _) (row : Row_of-Group n) → deepest (items-the_row-Group n row) ≡ row_deep row
unfolding groups_deep groups.out-Group carrier.out
row_is n end_of-Group = refl
row_is n (more_of-Group (Group' dim level) rest) = ap (max (suc (groups_deep level))) (row_is _ rest)

pub level_is : (level : Level) → deepest (out-Level level).groups ≡ groups_deep level
unfolding groups_deep levels.out-Level carrier.out
level_is (Level' name id semantic since block_length fields n groups parts) = ap deepest (items_shown-the_row-Group-0 n groups) ∙ row_is _ groups

blocks_are : (level : Level) (bs : List Block) → deepest_in (map (typed_level level) bs) ≤ groups_deep level
blocks_are level [] = omega arith
blocks_are level (b ∷ bs) = omega (arith, level_is level, blocks_are level bs)

-- the groups of a block, each less deep than n
abbrev pub AreWithin : ℕ → List (Option (List TypedBlock)) → Type 0
AreWithin n [] = ⊤
AreWithin n (None ∷ os) = AreWithin n os
AreWithin n (Some es ∷ os) = (deepest_in es < n) × AreWithin n os

one_within : (n : ℕ) (level : Level) (v : GroupVal) (os : List (Option (List TypedBlock))) → groups_deep level < n → AreWithin n os → AreWithin n (entries_in level v ∷ os)
one_within n level groupval.Absent os low h = h
one_within n level (groupval.Entries' k row) os low h = (omega (arith, low, blocks_are level (items-the_row-Block _ row)), h)

pub seen_within : (n : ℕ) (gs : List Group) (vs : List GroupVal) → deepest gs ≤ n → AreWithin n (typed_groups gs vs)
seen_within n [] vs low = tt
seen_within n (g ∷ gs) [] low = tt
seen_within n (g ∷ gs) (v ∷ vs) low = one_within n (out-Group g).level v (typed_groups gs vs) (omega (arith, low)) (seen_within n gs vs (omega (arith, low)))

-- the first of the groups
abbrev pub deepest_of : Option (List TypedBlock) → ℕ
deepest_of None = 0
deepest_of (Some es) = deepest_in es

pub first_within : (n : ℕ) (o : Option (List TypedBlock)) (os all : List (Option (List TypedBlock))) → all ≡ o ∷ os → 0 < n → AreWithin n all → (deepest_of o < n) × AreWithin n os
first_within n o os all is some h = one n o os some (subst (AreWithin n) is h)
  where
    one : (n : ℕ) (o : Option (List TypedBlock)) (os : List (Option (List TypedBlock))) → 0 < n → AreWithin n (o ∷ os) → (deepest_of o < n) × AreWithin n os
    one n None os some h = (some, h)
    one n (Some es) os some h = h

-- a group lies in a list that is not empty
pub some_deep : (gs : List Group) → 0 < length gs → 0 < deepest gs
some_deep [] h = absurd (omega (arith, h))
some_deep (g ∷ gs) h = omega arith

-- a group of a list, by its place
pub item_deep : (gs : List Group) (i : ℕ) (g : Group) → i < length gs → g ≡ get_or gs i g → groups_deep (out-Group g).level < deepest gs
item_deep [] i g h is = absurd (omega (arith, h))
item_deep (x ∷ xs) zero g h is = let same : groups_deep (out-Group g).level ≡ groups_deep (out-Group x).level = ap (λ (y : Group). groups_deep (out-Group y).level) is in omega (arith, same)
item_deep (x ∷ xs) (suc i) g h is = omega (arith, item_deep xs i g (omega (arith, h)) is)
