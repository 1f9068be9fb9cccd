-- What the kinds of a level and of its groups are.
use Rattle.std.proofs.Common.{◌≡◌, ℕ, ◌+◌, List, [], ◌∷◌, Option, Some, None, sym, subst}
use Rattle.std.specs.Prelude.{slice_get}
use Rattle.std.specs.List.{All, AllByRecursion}
use Rattle.std.proofs.lemmas.List.Elements.{All-from_recursion}
use denote.Hole.Carrier as carrier
use Rattle.sbe_types.specs.declared.schema.Level as levels
use Rattle.sbe_types.specs.declared.schema.Group as groups
use Rattle.sbe_types.specs.declared.kind.Member.{Member}
use Rattle.sbe_types.specs.declared.schema.Field.{Field}
use Rattle.sbe_types.specs.declared.schema.Group.{Group, Group', out-Group}
use Rattle.sbe_types.specs.declared.schema.Level.{Level, Level', out-Level, Row_of-Group, end_of-Group, more_of-Group, items-the_row-Group, items_shown-the_row-Group-0}
use Rattle.sbe_types.specs.declared.schema.WireSchema.{WireSchema}
use Rattle.schema_facts.specs.CheckedLevels.{HasKinds}
use Rattle.schema_facts.specs.InOrder.{IsKindInOrder}
use Rattle.schema_facts.specs.IsChecked.{IsChecked}
use Rattle.schema_facts.specs.Levels.{nodes, nodes_below, nodes_of}
use Rattle.schema_facts.proofs.LevelForms.{all_apart, all_of_message}
use Rattle.bridge_cover.specs.Kinds.{HasKind, HasKindsInOrder, GroupsHaveKinds, GroupHasKinds}

-- ---- of a level

row_kinds : {n : _} (row : Row_of-Group n) → GroupsHaveKinds row → AllByRecursion GroupHasKinds (items-the_row-Group _ row)
row_kinds end_of-Group h = tt
row_kinds (more_of-Group g rest) h = (h.0, row_kinds rest h.1)

-- of its fields
pub field_kinds : (level : Level) → HasKindsInOrder level → All HasKind (out-Level level).fields
unfolding levels.out-Level carrier.out
field_kinds (Level' name id semantic since block_length fields n row parts) h = h.0

-- of each of its groups
pub group_kinds : (level : Level) → HasKindsInOrder level → All GroupHasKinds (out-Level level).groups
unfolding levels.out-Level carrier.out
group_kinds (Level' name id semantic since block_length fields n row parts) h =
    All-from_recursion GroupHasKinds _ (subst (AllByRecursion GroupHasKinds) (sym (items_shown-the_row-Group-0 n row)) (row_kinds row h.1))

-- of the level of a group's entries
pub inner_kinds : (g : Group) → GroupHasKinds g → HasKindsInOrder (out-Group g).level
unfolding groups.out-Group carrier.out
inner_kinds (Group' dim level) h = h

-- ---- of a checked schema

ordered : (fields : List Field) → AllByRecursion (λ (f : Field). IsKindInOrder f.kind) fields → AllByRecursion HasKind fields
ordered [] h = tt
ordered (f ∷ fs) h = (h.0.parts, ordered fs h.1)

mutual
  unfolding nodes nodes_below nodes_of levels.out-Level carrier.out

  level_kinds : (t : ℕ) (dim : Option (List Member)) (level : Level) → AllByRecursion HasKinds (nodes t dim level) → HasKindsInOrder level
  level_kinds t dim (Level' name id semantic since block_length fields n row parts) h =
      (All-from_recursion HasKind fields (ordered fields h.0.fields), below_kinds t row h.1)

  below_kinds : (t : ℕ) {n : _} (row : Row_of-Group n) → AllByRecursion HasKinds (nodes_below t row) → GroupsHaveKinds row
  below_kinds t end_of-Group h = tt
  below_kinds t (more_of-Group g rest) h =
      let two = all_apart HasKinds (nodes_of t g) (nodes_below t rest) h in
      (own_kinds t g two.0, below_kinds t rest two.1)

  own_kinds : (t : ℕ) (g : Group) → AllByRecursion HasKinds (nodes_of t g) → GroupHasKinds g
  own_kinds t (Group' dim level) h = level_kinds t (Some dim) level h

-- of each message
pub message_kinds : (schema : WireSchema) (i : ℕ) (level : Level) → IsChecked schema →
    slice_get schema.messages i ≡ Some level → HasKindsInOrder level
message_kinds schema i level checked at = level_kinds (0 + i) None level
    (all_of_message HasKinds 0 i schema.messages level checked.kinds.levels at)
