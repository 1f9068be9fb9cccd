-- How deeply groups are nested.
use Rattle.std.specs.Prelude.{ℕ, suc, max, List, [], ◌∷◌}
use Rattle.sbe_types.specs.declared.schema.Group.{Group, out-Group}
use Rattle.schema_facts.specs.CheckedLevels.{groups_deep}
use Rattle.flyweight_view.specs.TypedBlocks.{TypedBlock}

-- the greatest depth of groups, each counted with those inside it
abbrev pub deepest : List Group → ℕ
deepest [] = 0
deepest (g ∷ gs) = max (suc (groups_deep (out-Group g).level)) (deepest gs)

-- the greatest depth of the groups of blocks
abbrev pub deepest_in : List TypedBlock → ℕ
deepest_in [] = 0
deepest_in (s ∷ ss) = max (deepest s.groups) (deepest_in ss)
