-- What is known of the levels of a checked schema.
use Rattle.std.proofs.Common.{◌≡◌, ◌≤◌, ◌<◌, ℕ, zero, suc, List, [], ◌∷◌, length, Option, Some, None, sym, ap, ◌∙◌, subst, arith}
use Rattle.std.specs.Prelude.{slice_get}
use Rattle.std.specs.Option.{option_map, option_map_or}
use Rattle.std.specs.List.{AllByRecursion}
use Rattle.sbe_types.specs.declared.limits.TheConstants.{PART_LIMIT, PLACE_LIMIT}
use Rattle.sbe_types.specs.declared.kind.Member.{Member}
use Rattle.sbe_types.specs.declared.schema.Field.{Field}
use Rattle.sbe_types.specs.declared.schema.Group.{Group, Group', out-Group}
use Rattle.sbe_types.specs.declared.schema.Level.{Level, Level', out-Level, Row_of-Group, end_of-Group, more_of-Group}
use Rattle.sbe_types.specs.declared.schema.WireSchema.{WireSchema}
use Rattle.sbe_types.specs.Places.{fields_end, end_past}
use Rattle.sbe_wire.specs.Placed.{ArePlaced}
use Rattle.schema_rules.specs.PartRules.{most_groups}
use Rattle.schema_facts.specs.CheckedLevels.{HasKinds, HasFewParts, HasBlock, counting, groups_deep, row_deep, group_deep}
use Rattle.schema_facts.specs.InOrder.{IsKindInOrder}
use Rattle.schema_facts.specs.IsChecked.{IsChecked}
use Rattle.schema_facts.specs.Levels.{Node, nodes, nodes_below, nodes_of, nodes_from, all_nodes, level_at, fields_in, fields_at, groups_in, groups_at, parts_in, parts_at}
use Rattle.schema_facts.specs.Measured.{IsMeasuredLevel, AreMeasured, AreNarrowFields}
use Rattle.schema_facts.proofs.KindDeclared.{all_at}
use Rattle.layout_tables.proofs.Items.{item_there}
use Rattle.schema_facts.proofs.LevelNodes.{all_two, IsPlacedNode, placed_from, level_deep, group_is, in_list}
use Rattle.typed_writer.specs.Ready.{FieldsStand}
use Rattle.typed_writer.specs.States.{block_at, deep_at, parts_in_tail}

-- ---- a level

pub level_is : (schema : WireSchema) (n : ℕ) (node : Node) → slice_get (all_nodes schema) n ≡ Some node → level_at schema n ≡ Some node.level
level_is schema n node at = ap (option_map (λ (x : Node). x.level)) at

pub fields_are : (schema : WireSchema) (n : ℕ) (node : Node) → slice_get (all_nodes schema) n ≡ Some node → fields_at schema n ≡ (out-Level node.level).fields
fields_are schema n node at = ap fields_in (level_is schema n node at)

pub block_is : (schema : WireSchema) (n : ℕ) (node : Node) → slice_get (all_nodes schema) n ≡ Some node → block_at schema n ≡ (out-Level node.level).block_length
block_is schema n node at = ap (λ o. option_map_or (λ (l : Level). (out-Level l).block_length) o 0) (level_is schema n node at)

deep_is : (schema : WireSchema) (n : ℕ) (node : Node) → slice_get (all_nodes schema) n ≡ Some node → deep_at schema n ≡ groups_deep node.level
deep_is schema n node at = ap (λ o. option_map_or groups_deep o 0) (level_is schema n node at)

block_told_by : (o : Option Level) (b : ℕ) → option_map (λ (l : Level). (out-Level l).block_length) o ≡ Some b → option_map_or (λ (l : Level). (out-Level l).block_length) o 0 ≡ b
block_told_by None b h = cc
block_told_by (Some l) b h = cc

pub block_told : (schema : WireSchema) (n b : ℕ) → option_map (λ (l : Level). (out-Level l).block_length) (level_at schema n) ≡ Some b → block_at schema n ≡ b
block_told schema n b h = block_told_by (level_at schema n) b h

-- ---- its fields

measured_at : (xs : List Node) (n : ℕ) (node : Node) → AreMeasured xs → slice_get xs n ≡ Some node → IsMeasuredLevel node
measured_at [] n node h at = cc
measured_at (x ∷ xs) zero node h at = let same : x ≡ node = cc in subst IsMeasuredLevel same h.0
measured_at (x ∷ xs) (suc n) node h at = measured_at xs n node h.1 at

stand : (e : ℕ) (fs : List Field) → ArePlaced e fs → AreNarrowFields e fs → AllByRecursion (λ (f : Field). IsKindInOrder f.kind) fs → FieldsStand e fs
stand e [] placed narrow order = tt
stand e (f ∷ fs) placed narrow order =
    (record { begins = placed.0; ends = narrow.1; order = order.0 }, stand (end_past e f.offset f.kind) fs placed.2 narrow.2 order.1)

pub fields_stand : (schema : WireSchema) (n : ℕ) → IsChecked schema → n < length (all_nodes schema) → FieldsStand 0 (fields_at schema n)
fields_stand schema n checked low =
    let w = item_there (all_nodes schema) n low in
    let kinds : HasKinds w.0 = all_at HasKinds (all_nodes schema) n w.0 checked.kinds.levels w.1 in
    let placed : IsPlacedNode w.0 = all_at IsPlacedNode (all_nodes schema) n w.0 (placed_from 0 schema.messages checked.placed.levels) w.1 in
    let measured = measured_at (all_nodes schema) n w.0 checked.measured.levels w.1 in
    subst (FieldsStand 0) (sym (fields_are schema n w.0 w.1)) (stand 0 (out-Level w.0.level).fields placed measured.fields kinds.fields)

abbrev HasBlockHere : WireSchema → Node → Type 0
HasBlockHere schema node = HasBlock (counting schema.header.members node) node.level

has_block : (schema : WireSchema) (n : ℕ) (node : Node) → IsChecked schema → slice_get (all_nodes schema) n ≡ Some node → HasBlockHere schema node
has_block schema n node checked at = all_at (HasBlockHere schema) (all_nodes schema) n node checked.blocks at

pub fields_within : (schema : WireSchema) (n : ℕ) → IsChecked schema → n < length (all_nodes schema) → fields_end 0 (fields_at schema n) ≤ block_at schema n
fields_within schema n checked low =
    let w = item_there (all_nodes schema) n low in
    let has = has_block schema n w.0 checked w.1 in
    omega (arith, has.whole, ap (fields_end 0) (fields_are schema n w.0 w.1), block_is schema n w.0 w.1)

pub block_small : (schema : WireSchema) (n : ℕ) → IsChecked schema → n < length (all_nodes schema) → block_at schema n ≤ PLACE_LIMIT
block_small schema n checked low =
    let w = item_there (all_nodes schema) n low in
    let has = has_block schema n w.0 checked w.1 in
    omega (arith, has.narrow, block_is schema n w.0 w.1)

pub fields_few : (schema : WireSchema) (n : ℕ) → IsChecked schema → n < length (all_nodes schema) → length (fields_at schema n) ≤ PART_LIMIT
fields_few schema n checked low =
    let w = item_there (all_nodes schema) n low in
    let few : HasFewParts w.0.level = all_at (λ (x : Node). HasFewParts x.level) (all_nodes schema) n w.0 checked.counts w.1 in
    omega (arith, few, ap length (fields_are schema n w.0 w.1))

-- ---- how deep groups are nested

abbrev IsShallow : Node → Type 0
IsShallow this = groups_deep this.level ≤ most_groups

mutual
  unfolding nodes nodes_below nodes_of groups_deep row_deep group_deep

  shallow_nodes : (t : ℕ) (dim : Option (List Member)) (level : Level) → groups_deep level ≤ most_groups → AllByRecursion IsShallow (nodes t dim level)
  shallow_nodes t dim (Level' name id semantic since block_length fields n groups parts) h = (h, shallow_below t groups h)

  shallow_below : (t : ℕ) {n : _} (row : Row_of-Group n) → row_deep row ≤ most_groups → AllByRecursion IsShallow (nodes_below t row)
  shallow_below t end_of-Group h = tt
  shallow_below t (more_of-Group g rest) h =
      all_two IsShallow (nodes_of t g) (nodes_below t rest) (shallow_of t g (omega (arith, h))) (shallow_below t rest (omega (arith, h)))

  shallow_of : (t : ℕ) (g : Group) → group_deep g ≤ most_groups → AllByRecursion IsShallow (nodes_of t g)
  shallow_of t (Group' dim level) h = shallow_nodes t (Some dim) level (omega (arith, h))

shallow_from : (t : ℕ) (roots : List Level) → AllByRecursion (λ (level : Level). groups_deep level ≤ most_groups) roots → AllByRecursion IsShallow (nodes_from t roots)
shallow_from t [] h = tt
shallow_from t (root ∷ roots) h = all_two IsShallow (nodes t None root) (nodes_from (suc t) roots) (shallow_nodes t None root h.0) (shallow_from (suc t) roots h.1)

pub level_shallow : (schema : WireSchema) (n : ℕ) → IsChecked schema → n < length (all_nodes schema) → deep_at schema n ≤ most_groups
level_shallow schema n checked low =
    let w = item_there (all_nodes schema) n low in
    let here : IsShallow w.0 = all_at IsShallow (all_nodes schema) n w.0 (shallow_from 0 schema.messages checked.nesting) w.1 in
    omega (arith, here, deep_is schema n w.0 w.1)

-- a group's level is less deep than the level that has it
pub child_shallow : (schema : WireSchema) (n child i : ℕ) → n < length (all_nodes schema) → i < length (groups_at schema n) →
    level_at schema child ≡ option_map (λ (g : Group). (out-Group g).level) (slice_get (groups_at schema n) i) → suc (deep_at schema child) ≤ deep_at schema n
child_shallow schema n child i low within is =
    let w = item_there (all_nodes schema) n low in
    let g = item_there (groups_at schema n) i within in
    let groups : groups_at schema n ≡ (out-Level w.0.level).groups = ap groups_in (level_is schema n w.0 w.1) in
    let at : slice_get (out-Level w.0.level).groups i ≡ Some g.0 = ap (λ gs. slice_get gs i) (sym groups) ∙ g.1 in
    let below : deep_at schema child ≡ groups_deep (out-Group g.0).level =
    ap (λ o. option_map_or groups_deep o 0) (is ∙ ap (option_map (λ (g : Group). (out-Group g).level)) g.1) in
    let rest = in_list (out-Level w.0.level).groups i g.0 at in
    omega (arith, rest, level_deep w.0.level, group_is g.0, below, deep_is schema n w.0 w.1)

pub tail_few : (schema : WireSchema) (n : ℕ) → IsChecked schema → n < length (all_nodes schema) → parts_in_tail schema n ≤ PART_LIMIT
tail_few schema n checked low =
    let w = item_there (all_nodes schema) n low in
    let few : HasFewParts w.0.level = all_at (λ (x : Node). HasFewParts x.level) (all_nodes schema) n w.0 checked.counts w.1 in
    let groups : groups_at schema n ≡ (out-Level w.0.level).groups = ap groups_in (level_is schema n w.0 w.1) in
    let parts : parts_at schema n ≡ (out-Level w.0.level).parts = ap parts_in (level_is schema n w.0 w.1) in
    omega (arith, few, ap length groups, ap length parts)
