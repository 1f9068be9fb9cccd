-- Levels without the tag 0.
use Rattle.std.specs.Prelude.{◌≡◌, false}
use Rattle.std.specs.List.{AllByRecursion}
use Rattle.bridge_terms.specs.Plans.{is_in}
use Rattle.field_judge.specs.declared.level.BackLevel.{BackLevel}
use Rattle.back_levels.specs.declared.level.BackTree.{BackTree}

-- no part of the level has it
abbrev pub HasNoZero : BackLevel → Type 0
HasNoZero level = is_in 0 level.tags ≡ false

-- the same for the levels of a tree
abbrev pub HasNoZeros : BackTree → Type 0
HasNoZeros tree = HasNoZero tree.root × AllByRecursion HasNoZero tree.levels.items
