-- The names of a checked schema stand for themselves.
use Rattle.std.proofs.Common.{ℕ, suc, List, [], ◌∷◌, ◌++◌, Option, Some, None, map, subst}
use Rattle.std.specs.List.{AllByRecursion}
use denote.Hole.Carrier as carrier
use Rattle.sbe_types.specs.declared.schema.Group as groups
use Rattle.sbe_types.specs.declared.schema.Level as levels
use Rattle.sbe_types.specs.declared.kind.Kind.{Kind, Leaf, Enum, Set, Const, Comp', Row_of-Member, end_of-Member, more_of-Member}
use Rattle.sbe_types.specs.declared.kind.Member.{Member}
use Rattle.sbe_types.specs.declared.schema.Field.{Field}
use Rattle.sbe_types.specs.declared.schema.DataField.{DataField}
use Rattle.sbe_types.specs.declared.schema.Group.{Group, Group', out-Group}
use Rattle.sbe_types.specs.declared.schema.Level.{Level, Level', out-Level, Row_of-Group, end_of-Group, more_of-Group, items-the_row-Group, items_shown-the_row-Group-0}
use Rattle.sbe_types.specs.InForm.{IsName}
use Rattle.schema_facts.specs.InOrder.{IsKindInOrder, IsKindFrom, AreKindsFrom, names_in}
use Rattle.schema_facts.specs.Levels.{Node, nodes, nodes_below, nodes_of, nodes_from}
use Rattle.schema_facts.specs.CheckedLevels.{HasNames, HasKinds, group_name}
use Rattle.tree_json.specs.Names.{HasPlainMembers, ArePlainMembers, IsPlainField, IsPlainPart, IsPlainLevel, ArePlainGroups, IsPlainGroup, CheckedIsPlain}
use Rattle.std.specs.Prelude.{◌≡◌, slice_get}
use Rattle.sbe_types.specs.declared.schema.WireSchema.{WireSchema}
use Rattle.schema_facts.specs.IsChecked.{IsChecked}
use Rattle.schema_facts.proofs.LevelForms.{all_of_message}
use Rattle.json_values.specs.Plain.{IsPlainName}
use Rattle.json_values.proofs.Plainly.{names_stand}

all_front : {A : Type 0} (P : A → Type 0) (xs ys : List A) → AllByRecursion P (xs ++ ys) → AllByRecursion P xs
all_front P [] ys h = tt
all_front P (x ∷ xs) ys h = (h.0, all_front P xs ys h.1)

all_back : {A : Type 0} (P : A → Type 0) (xs ys : List A) → AllByRecursion P (xs ++ ys) → AllByRecursion P ys
all_back P [] ys h = h
all_back P (x ∷ xs) ys h = all_back P xs ys h.1

mutual
  kind_plain : (least : ℕ) (kind : Kind) → IsKindFrom least kind → HasPlainMembers kind
  kind_plain least (Leaf l) h = tt
  kind_plain least (Enum l names) h = tt
  kind_plain least (Set p names) h = tt
  kind_plain least (Const c) h = tt
  kind_plain least (Comp' n members) h = members_plain least members h.names h.kinds

  members_plain : (least : ℕ) {n : _} (members : Row_of-Member n) → AllByRecursion IsName (names_in members) → AreKindsFrom least members → ArePlainMembers members
  members_plain least end_of-Member named kinds = tt
  members_plain least (more_of-Member name offset kind rest) named kinds = (names_stand name named.0, kind_plain least kind kinds.0, members_plain least rest named.1 kinds.1)

fields_plain : (fs : List Field) → AllByRecursion IsName (map (λ (f : Field). f.name) fs) → AllByRecursion (λ (f : Field). IsKindInOrder f.kind) fs → AllByRecursion IsPlainField fs
fields_plain [] named kinds = tt
fields_plain (f ∷ fs) named kinds = ((names_stand f.name named.0, kind_plain 1 f.kind kinds.0.parts), fields_plain fs named.1 kinds.1)

parts_plain : (ps : List DataField) → AllByRecursion IsName (map (λ (d : DataField). d.name) ps) → AllByRecursion IsPlainPart ps
parts_plain [] named = tt
parts_plain (p ∷ ps) named = (names_stand p.name named.0, parts_plain ps named.1)

abbrev Named : Node → Type 0
Named node = HasNames node.level

mutual
  unfolding nodes groups.out-Group levels.out-Level carrier.out

  level_plain : (t : ℕ) (dim : Option (List Member)) (level : Level) → AllByRecursion Named (nodes t dim level) → AllByRecursion HasKinds (nodes t dim level) → IsPlainLevel level
  level_plain t dim (Level' name id semantic since block_length fields n groups parts) named kinds =
      let level = Level' name id semantic since block_length fields n groups parts in
      let field_names = map (λ (f : Field). f.name) fields in
      let group_names = map group_name (out-Level level).groups in
      let data_names = map (λ (d : DataField). d.name) parts in
      let after = all_back IsName field_names (group_names ++ data_names) named.0.parts in (
        fields_plain fields (all_front IsName field_names (group_names ++ data_names) named.0.parts) kinds.0.fields,
        groups_plain t groups (subst (λ gs. AllByRecursion IsName (map group_name gs)) (items_shown-the_row-Group-0 n groups) (all_front IsName group_names data_names after)) named.1 kinds.1,
        parts_plain parts (all_back IsName group_names data_names after),
      )

  groups_plain : (t : ℕ) {n : _} (gs : Row_of-Group n) → AllByRecursion IsName (map group_name (items-the_row-Group _ gs)) → AllByRecursion Named (nodes_below t gs) → AllByRecursion HasKinds (nodes_below t gs) → ArePlainGroups gs
  groups_plain t end_of-Group own named kinds = tt
  groups_plain t (more_of-Group g rest) own named kinds =
      let here = nodes_of t g in
      let after = nodes_below t rest in
      (group_plain t g own.0 (all_front Named here after named) (all_front HasKinds here after kinds), groups_plain t rest own.1 (all_back Named here after named) (all_back HasKinds here after kinds))

  group_plain : (t : ℕ) (g : Group) → IsName (group_name g) → AllByRecursion Named (nodes_of t g) → AllByRecursion HasKinds (nodes_of t g) → IsPlainGroup g
  group_plain t (Group' dim level) own named kinds = (names_stand (out-Level level).name own, level_plain t (Some dim) level named kinds)

messages_plain : (t : ℕ) (messages : List Level) → AllByRecursion Named (nodes_from t messages) → AllByRecursion HasKinds (nodes_from t messages) → AllByRecursion IsPlainLevel messages
messages_plain t [] named kinds = tt
messages_plain t (level ∷ rest) named kinds =
    let here = nodes t None level in
    let after = nodes_from (suc t) rest in
    (level_plain t None level (all_front Named here after named) (all_front HasKinds here after kinds), messages_plain (suc t) rest (all_back Named here after named) (all_back HasKinds here after kinds))

pub checked_is_plain : CheckedIsPlain
checked_is_plain schema h = messages_plain 0 schema.messages h.names h.kinds.levels

own_named : (t : ℕ) (dim : Option (List Member)) (level : Level) → AllByRecursion Named (nodes t dim level) → IsName (out-Level level).name
unfolding nodes
own_named t dim (Level' name id semantic since block_length fields n groups parts) h = h.0.own

-- the name of a message stands for itself
pub template_is_plain : (schema : WireSchema) (i : ℕ) (level : Level) → IsChecked schema → slice_get schema.messages i ≡ Some level → IsPlainName (out-Level level).name
template_is_plain schema i level h is = names_stand (out-Level level).name (own_named _ None level (all_of_message Named 0 i schema.messages level h.names is))
