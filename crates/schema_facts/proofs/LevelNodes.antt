-- The levels of a schema's messages: where the fields of each end, and how deep its groups are.
use Rattle.std.proofs.Common.{◌≡◌, ◌≤◌, ℕ, zero, suc, List, [], ◌∷◌, ◌++◌, Option, Some, None, refl, sym, ap, ◌∙◌, arith}
use Rattle.std.specs.Prelude.{slice_get, max}
use Rattle.std.specs.List.{AllByRecursion}
use denote.Hole.Carrier as carrier
use Rattle.sbe_types.specs.declared.schema.Level as levels
use Rattle.sbe_types.specs.declared.schema.Group as groups_of
use Rattle.sbe_types.specs.declared.kind.Member.{Member}
use Rattle.sbe_types.specs.declared.schema.Group.{Group, Group', out-Group}
use Rattle.sbe_types.specs.declared.schema.Level.{Level, Level', out-Level, Row_of-Group, end_of-Group, more_of-Group, items-the_row-Group, items_shown-the_row-Group-0}
use Rattle.sbe_wire.specs.Placed.{ArePlaced, IsPlacedLevel, ArePlacedGroups, IsPlacedGroup}
use Rattle.schema_facts.specs.CheckedLevels.{groups_deep, row_deep, group_deep}
use Rattle.schema_facts.specs.Levels.{Node, nodes, nodes_below, nodes_of, nodes_from}

-- ---- places

pub all_two : {X : Type 0} (P : X → Type 0) (a b : List X) → AllByRecursion P a → AllByRecursion P b → AllByRecursion P (a ++ b)
all_two P [] b h k = k
all_two P (x ∷ a) b h k = (h.0, all_two P a b h.1 k)

abbrev pub IsPlacedNode : Node → Type 0
IsPlacedNode this = ArePlaced 0 (out-Level this.level).fields

mutual
  unfolding nodes nodes_below nodes_of levels.out-Level carrier.out

  placed_nodes : (t : ℕ) (dim : Option (List Member)) (level : Level) → IsPlacedLevel level → AllByRecursion IsPlacedNode (nodes t dim level)
  placed_nodes t dim (Level' name id semantic since block_length fields n groups parts) h = (h.0, placed_below t groups h.1)

  placed_below : (t : ℕ) {n : _} (row : Row_of-Group n) → ArePlacedGroups row → AllByRecursion IsPlacedNode (nodes_below t row)
  placed_below t end_of-Group h = tt
  placed_below t (more_of-Group g rest) h = all_two IsPlacedNode (nodes_of t g) (nodes_below t rest) (placed_of t g h.0) (placed_below t rest h.1)

  placed_of : (t : ℕ) (g : Group) → IsPlacedGroup g → AllByRecursion IsPlacedNode (nodes_of t g)
  placed_of t (Group' dim level) h = placed_nodes t (Some dim) level h

pub placed_from : (t : ℕ) (roots : List Level) → ((i : ℕ) (level : Level) → slice_get roots i ≡ Some level → IsPlacedLevel level) → AllByRecursion IsPlacedNode (nodes_from t roots)
placed_from t [] h = tt
placed_from t (root ∷ roots) h = all_two IsPlacedNode (nodes t None root) (nodes_from (suc t) roots) (placed_nodes t None root (h 0 root refl)) (placed_from (suc t) roots (λ i level at. h (suc i) level at))

-- ---- how deep groups are nested

abbrev pub list_deep : List Group → ℕ
list_deep [] = 0
list_deep (g ∷ gs) = max (group_deep g) (list_deep gs)

row_is : {n : _} (row : Row_of-Group n) → row_deep row ≡ list_deep (items-the_row-Group _ row)
unfolding row_deep
row_is end_of-Group = refl
row_is (more_of-Group g rest) = ap (max (group_deep g)) (row_is rest)

pub level_deep : (level : Level) → groups_deep level ≡ list_deep (out-Level level).groups
unfolding groups_deep levels.out-Level carrier.out
level_deep (Level' name id semantic since block_length fields n groups parts) = row_is groups ∙ ap list_deep (sym (items_shown-the_row-Group-0 n groups))

pub group_is : (g : Group) → group_deep g ≡ suc (groups_deep (out-Group g).level)
unfolding group_deep groups_of.out-Group carrier.out
group_is (Group' dim level) = refl

pub in_list : (gs : List Group) (i : ℕ) (g : Group) → slice_get gs i ≡ Some g → group_deep g ≤ list_deep gs
in_list [] i g at = cc
in_list (x ∷ gs) zero g at = let same : x ≡ g = cc in let deep : group_deep x ≡ group_deep g = ap group_deep same in omega (arith, deep)
in_list (x ∷ gs) (suc i) g at = let rest = in_list gs i g at in omega (arith, rest)
