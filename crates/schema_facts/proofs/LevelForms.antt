-- What holds of each level in the list of levels, over the tree of groups.
use Rattle.std.proofs.Common.{◌≡◌, ◌≤◌, ◌+◌, ℕ, zero, suc, List, [], ◌∷◌, ◌++◌, Option, Some, None, subst, arith}
use Rattle.std.specs.Prelude.{IsTrue, nat_le, slice_get, flat_map}
use Rattle.std.specs.List.{AllByRecursion}
use Rattle.std.proofs.lemmas.Bool.Decides.{nat_tests}
use denote.Hole.Carrier as carrier
use Rattle.sbe_types.specs.declared.schema.Level as levels
use Rattle.sbe_types.specs.declared.kind.Member.{Member}
use Rattle.sbe_types.specs.declared.schema.Group.{Group, Group', out-Group}
use Rattle.sbe_types.specs.declared.schema.Level.{Level, Level', out-Level, Row_of-Group, end_of-Group, more_of-Group}
use Rattle.sbe_wire.specs.Placed.{ArePlaced, IsPlacedLevel, ArePlacedGroups, IsPlacedGroup}
use Rattle.schema_facts.specs.Counted.{TakesBytes, GroupsTakeBytes, GroupTakesBytes}
use Rattle.schema_facts.specs.Levels.{Node, node, nodes, nodes_below, nodes_of, nodes_from, all_nodes}
use Rattle.schema_facts.specs.IsChecked.{EachLevel}
use Rattle.sbe_types.specs.declared.schema.WireSchema.{WireSchema}
use Rattle.schema_facts.proofs.KindDeclared.{all_at}
use Rattle.schema_facts.proofs.LevelWalk.{nodes_open, open_group}
use Rattle.schema_facts.specs.CheckedLevels.{TakesByte}

-- what holds of two lists joined holds of both
pub all_apart : {X : Type 0} (P : X → Type 0) (xs ys : List X) → AllByRecursion P (xs ++ ys) → AllByRecursion P xs × AllByRecursion P ys
all_apart P [] ys h = (tt, h)
all_apart P (x ∷ xs) ys h = let two = all_apart P xs ys h.1 in ((h.0, two.0), two.1)

-- the levels of one message
pub all_of_message : (P : Node → Type 0) (t i : ℕ) (roots : List Level) (root : Level) → AllByRecursion P (nodes_from t roots) → slice_get roots i ≡ Some root →
    AllByRecursion P (nodes (t + i) None root)
all_of_message P t i [] root h at = cc
all_of_message P t zero (l ∷ roots) root h at =
    let same : l ≡ root = cc in
    let first : t ≡ t + 0 = omega arith in
    subst (λ m. AllByRecursion P (nodes m None root)) first (subst (λ r. AllByRecursion P (nodes t None r)) same (all_apart P (nodes t None l) (nodes_from (suc t) roots) h).0)
all_of_message P t (suc i) (l ∷ roots) root h at =
    let next : suc t + i ≡ t + suc i = omega arith in
    subst (λ m. AllByRecursion P (nodes m None root)) next (all_of_message P (suc t) i roots root (all_apart P (nodes t None l) (nodes_from (suc t) roots) h).1 at)

-- the level of a number
pub holds_at : (P : Node → Type 0) (schema : WireSchema) (n : ℕ) (this : Node) → EachLevel P schema → slice_get (all_nodes schema) n ≡ Some this → P this
holds_at P schema n this h at = all_at P (all_nodes schema) n this h at

each_group : (P : Node → Type 0) (t : ℕ) (gs : List Group) → AllByRecursion P (flat_map (nodes_of t) gs) → AllByRecursion (λ g. AllByRecursion P (nodes t (Some (out-Group g).dim) (out-Group g).level)) gs
each_group P t [] h = tt
each_group P t (g ∷ gs) h =
    let two = all_apart P (nodes_of t g) (flat_map (nodes_of t) gs) h in
    (subst (λ ns. AllByRecursion P ns) (open_group t g) two.0, each_group P t gs two.1)

-- a level, and the levels of each of its groups
pub holds_below : (P : Node → Type 0) (t : ℕ) (dim : Option (List Member)) (level : Level) → AllByRecursion P (nodes t dim level) →
    P (node t dim level) × AllByRecursion (λ g. AllByRecursion P (nodes t (Some (out-Group g).dim) (out-Group g).level)) (out-Level level).groups
holds_below P t dim level h =
    let opened = subst (λ ns. AllByRecursion P ns) (nodes_open t dim level) h in
    (opened.0, each_group P t (out-Level level).groups opened.1)

-- ---- entries

alive_at : (since version : ℕ) → IsTrue (nat_le since version) → since ≤ version
alive_at since version h = grind (arith, nat_tests)

mutual
  unfolding nodes nodes_below nodes_of TakesBytes GroupsTakeBytes GroupTakesBytes

  -- of a level
  pub level_bytes : (version t : ℕ) (dim : Option (List Member)) (level : Level) → AllByRecursion TakesByte (nodes t dim level) → TakesBytes version level
  level_bytes version t dim (Level' name id semantic since block_length fields n groups parts) h = groups_bytes version t groups h.1

  groups_bytes : (version t : ℕ) {n : _} (row : Row_of-Group n) → AllByRecursion TakesByte (nodes_below t row) → GroupsTakeBytes version row
  groups_bytes version t end_of-Group h = tt
  groups_bytes version t (more_of-Group g rest) h =
      let two = all_apart TakesByte (nodes_of t g) (nodes_below t rest) h in
      (group_bytes version t g two.0, groups_bytes version t rest two.1)

  group_bytes : (version t : ℕ) (g : Group) → AllByRecursion TakesByte (nodes_of t g) → GroupTakesBytes version g
  group_bytes version t (Group' dim level) h = (λ alive. first_takes t dim level h version (alive_at (out-Level level).since version alive), level_bytes version t (Some dim) level h)

  first_takes : (t : ℕ) (dim : List Member) (level : Level) → AllByRecursion TakesByte (nodes t (Some dim) level) → TakesByte (record { template = t; dim = Some dim; level = level })
  first_takes t dim (Level' name id semantic since block_length fields n groups parts) h = h.0

-- ---- places

-- the fields of a level are placed
abbrev pub HasPlacedFields : Node → Type 0
HasPlacedFields node = ArePlaced 0 (out-Level node.level).fields

mutual
  unfolding nodes nodes_below nodes_of levels.out-Level carrier.out

  -- of a level
  pub level_placed : (t : ℕ) (dim : Option (List Member)) (level : Level) → AllByRecursion HasPlacedFields (nodes t dim level) → IsPlacedLevel level
  level_placed t dim (Level' name id semantic since block_length fields n groups parts) h = (h.0, groups_placed t groups h.1)

  groups_placed : (t : ℕ) {n : _} (row : Row_of-Group n) → AllByRecursion HasPlacedFields (nodes_below t row) → ArePlacedGroups row
  groups_placed t end_of-Group h = tt
  groups_placed t (more_of-Group g rest) h =
      let two = all_apart HasPlacedFields (nodes_of t g) (nodes_below t rest) h in
      (group_placed t g two.0, groups_placed t rest two.1)

  group_placed : (t : ℕ) (g : Group) → AllByRecursion HasPlacedFields (nodes_of t g) → IsPlacedGroup g
  group_placed t (Group' dim level) h = level_placed t (Some dim) level h
