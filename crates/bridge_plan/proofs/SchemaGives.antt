-- The levels of a checked schema have what the laws of messages ask of them.
use Rattle.std.proofs.Common.{◌≡◌, ℕ, ◌+◌, ◌<◌, ◌^◌, true, false, Bool, cond, arith, List, [], ◌∷◌, Some, None, refl, subst, ℤ, pos}
use Rattle.std.specs.Prelude.{◌&&◌, ◌==◌, codes, slice_get, int_le}
use Rattle.std.specs.List.{AllByRecursion}
use Rattle.std.specs.Str.{bytes_eq}
use Rattle.std.proofs.lemmas.Int.{ints}
use Rattle.std.proofs.lemmas.Bool.Decides.{nat_tests}
use denote.Hole.Carrier as carrier
use Rattle.sbe_types.specs.declared.schema.Group as groups
use Rattle.sbe_types.specs.declared.kind.Leaf.{Leaf as LeafOf}
use Rattle.sbe_types.specs.declared.kind.Kind.{Kind, Leaf, Enum, Set, Const, Comp'}
use Rattle.sbe_types.specs.declared.kind.Member.{Member}
use Rattle.sbe_types.specs.declared.schema.Field.{Field}
use Rattle.sbe_types.specs.declared.schema.Group.{Group, Group', out-Group}
use Rattle.sbe_types.specs.declared.schema.Level.{Level, out-Level}
use Rattle.sbe_types.specs.declared.schema.WireSchema.{WireSchema}
use Rattle.sbe_types.specs.Places.{begin_of, end_past}
use Rattle.sbe_types.specs.Shown.{admits}
use Rattle.sbe_wire.specs.Named.{Spot, spot_of, spot_named}
use Rattle.schema_rules.specs.Ranges.{is_number_of}
use Rattle.schema_facts.specs.InOrder.{IsLeafFrom, IsKindFrom, IsKindInOrder}
use Rattle.schema_facts.specs.Levels.{Node, node, nodes, all_nodes}
use Rattle.schema_facts.specs.Measured.{IsMeasuredLevel, AreMeasured}
use Rattle.schema_facts.specs.CheckedLevels.{HasKinds}
use Rattle.schema_facts.specs.IsChecked.{IsChecked}
use Rattle.schema_facts.proofs.KindLists.{KindsList, made_members}
use Rattle.schema_facts.proofs.LevelForms.{all_of_message, holds_below}
use Rattle.reference_graph.specs.Expansion.{Structure, ended, plain, counted}
use Rattle.bridge_rules.proofs.OptionLemmas.{some_is, none_some, and_then_some}
use Rattle.bridge_rules.proofs.TypeFacts.{primitive_short}
use Rattle.bridge_terms.specs.Plans.{Each}
use Rattle.bridge_rules.specs.Datatypes.{Datatype}
use Rattle.bridge_rules.specs.Bounds.{IsMapped}
use Rattle.bridge_plan.specs.Mappings.{Mapping, datatype_in}
use Rattle.bridge_plan.specs.Covers.{uncovered, groups_in, level_in}
use Rattle.bridge_plan.specs.StructureFacts.{IsDistinct, EachGroup, HasCount}
use Rattle.bridge_plan.specs.CheckedLevels.{AreOrdered, HasOrderedFields, IsCovered, HasShortCodes}
use Rattle.bridge_plan.proofs.Covered.{found_group}
use Rattle.bridge_plan.proofs.PlanParts.{groups_same}

-- ---- from the levels of a schema to the groups of a structure

level_same : (g : Group) → (out-Group g).level ≡ level_in g
unfolding groups.out-Group carrier.out
level_same (Group' dim level) = refl

-- the levels of a group
abbrev below : ℕ → Group → List Node
below t g = nodes t (Some (out-Group g).dim) (out-Group g).level

-- it holds of all levels of each of these groups
abbrev Below : (Node → Type 0) → ℕ → List Group → Type 0
Below Q t gs = AllByRecursion (λ g. AllByRecursion Q (below t g)) gs

each_of : {X : Type 0} (P : X → Type 0) (xs : List X) → AllByRecursion P xs → Each P xs
each_of P [] all = tt
each_of P (x ∷ xs) all = (all.0, each_of P xs all.1)

deep : (Q : Node → Type 0) (P : Structure → Group → Type 0) (t : ℕ) → ((inner : Structure) (g : Group) → Q (node t (Some (out-Group g).dim) (out-Group g).level) → P inner g) →
    (s : Structure) (level : Level) → Below Q t (groups_in level) → EachGroup P s level
deep Q P t turn ended level all = tt
deep Q P t turn (plain tag rest) level all = deep Q P t turn rest level all
deep Q P t turn (counted tag inner rest) level all = (
  λ found k.
      let own = found_group (λ g. AllByRecursion Q (below t g)) tag 0 (groups_in level) found (each_of (λ g. AllByRecursion Q (below t g)) (groups_in level) all) k in
      let two = holds_below Q t (Some (out-Group found.1).dim) (out-Group found.1).level own.0 in
      let level = (out-Group found.1).level in
      let inside : Below Q t (groups_in level) = subst (Below Q t) (groups_same level) two.1 in
      (turn inner found.1 two.0, deep Q P t turn inner (level_in found.1) (subst (λ l. Below Q t (groups_in l)) (level_same found.1) inside)),
  deep Q P t turn rest level all,
)

-- ---- counts

spot_leaf : (e : ℕ) (name : List ℕ) (ms : List Member) (s : Spot) → KindsList 0 ms → spot_named e name ms ≡ Some s → IsLeafFrom 0 s.leaf
spot_leaf e name [] s kinds h = none_some h
spot_leaf e name (m ∷ ms) s kinds h = by_kind (bytes_eq m.name name) m.kind kinds.0 h (spot_leaf (end_past e m.offset m.kind) name ms s kinds.1)
  where
    by_kind : (t : Bool) (kind : Kind) → IsKindFrom 0 kind → cond t (spot_of (begin_of e m.offset) kind) (spot_named (end_past e m.offset m.kind) name ms) ≡ Some s →
        (spot_named (end_past e m.offset m.kind) name ms ≡ Some s → IsLeafFrom 0 s.leaf) → IsLeafFrom 0 s.leaf
    by_kind true (Leaf l) order k more = subst (λ (s : Spot). IsLeafFrom 0 s.leaf) (some_is k) order
    by_kind true (Enum l names) order k more = none_some k
    by_kind true (Set p names) order k more = none_some k
    by_kind true (Const c) order k more = none_some k
    by_kind true (Comp' n row) order k more = none_some k
    by_kind false kind order k more = more k

and_both : (a b : Bool) → a && b ≡ true → (a ≡ true) × (b ≡ true)
and_both true b h = (refl, h)
and_both false b h = cc

within : (a b low high n : ℤ) → int_le a low ≡ true → int_le high b ≡ true → int_le low n ≡ true → int_le n high ≡ true → int_le a n && int_le n b ≡ true
within a b low high n p q r s = grind (arith, ints, nat_tests)

-- a number that a leaf in order admits has at most 38 digits
admits_short : (leaf : LeafOf) → IsLeafFrom 0 leaf → (n : ℕ) → admits leaf (pos n) ≡ true → n < 10 ^ 64
admits_short leaf facts n is =
    let inside = and_both _ _ is in
    let number : is_number_of leaf.prim (pos n) ≡ true = within _ _ leaf.low leaf.high (pos n) (and_both _ _ facts.low).0 (and_both _ _ facts.high).1 inside.0 inside.1 in
    let short = (primitive_short leaf.prim (pos n) number).1 in
    omega (arith, short)

-- ---- what is known of a level

-- the facts of a level that the bridge stands on
record HasFacts (node : Node) : Type 0 where
  kinds : HasKinds node
  measured : IsMeasuredLevel node

ordered_fields : (fs : List Field) → AllByRecursion (λ (f : Field). IsKindInOrder f.kind) fs → AreOrdered fs
ordered_fields [] kinds = tt
ordered_fields (f ∷ fs) kinds = (kinds.0.parts, ordered_fields fs kinds.1)

has_ordered : (t : ℕ) (inner : Structure) (g : Group) → HasFacts (node t (Some (out-Group g).dim) (out-Group g).level) → HasOrderedFields inner g
has_ordered t inner g facts = subst (λ l. AreOrdered (out-Level l).fields) (level_same g) (ordered_fields (out-Level (out-Group g).level).fields facts.kinds.fields)

has_count : (t : ℕ) (inner : Structure) (g : Group) → HasFacts (node t (Some (out-Group g).dim) (out-Group g).level) → HasCount inner g
has_count t inner g facts =
    let count = facts.measured.dim.count in
    let made = made_members 0 (out-Group g).dim facts.kinds.dim.parts in
    record {
      leaf = count.0.leaf;
      counts = and_then_some (spot_named 0 (codes "numInGroup") (out-Group g).dim) (λ (spot : Spot). Some spot.leaf) count.0 count.1;
      short = admits_short count.0.leaf (spot_leaf 0 (codes "numInGroup") (out-Group g).dim count.0 made.kinds count.1);
    }

all_facts : (ns : List Node) → AllByRecursion HasKinds ns → AreMeasured ns → AllByRecursion HasFacts ns
all_facts [] kinds measured = tt
all_facts (n ∷ ns) kinds measured = (record { kinds = kinds.0; measured = measured.0 }, all_facts ns kinds.1 measured.1)

-- a covered message of a checked schema
pub checked_covered : (schema : WireSchema) (m : Mapping) (s : Structure) (i : ℕ) (level : Level) → IsChecked schema → HasShortCodes m → IsDistinct s →
    slice_get schema.messages i ≡ Some level → uncovered m s level ≡ None → IsCovered m s level
checked_covered schema m s i level checked codes_short distinct at h =
    let facts = all_facts (all_nodes schema) checked.kinds.levels checked.measured.levels in
    let own = all_of_message HasFacts 0 i schema.messages level facts at in
    let two = holds_below HasFacts (0 + i) None level own in
    let inside : Below HasFacts (0 + i) (groups_in level) = subst (Below HasFacts (0 + i)) (groups_same level) two.1 in
    record {
      distinct = distinct;
      covered = h;
      counts = deep HasFacts HasCount (0 + i) (has_count (0 + i)) s level inside;
      ordered = record {
        fields = ordered_fields (out-Level level).fields two.0.kinds.fields;
        groups = deep HasFacts HasOrderedFields (0 + i) (has_ordered (0 + i)) s level inside;
        mapped = codes_short;
      };
    }

-- ---- kinds

-- the kinds of a level's fields are in order
abbrev pub HasFieldKinds : Level → Type 0
HasFieldKinds level = AllByRecursion (λ (f : Field). IsKindInOrder f.kind) (out-Level level).fields

-- the same for the fields of a group
abbrev pub HaveFieldKinds : Structure → Group → Type 0
HaveFieldKinds inner g = HasFieldKinds (level_in g)

have_kinds : (t : ℕ) (inner : Structure) (g : Group) → HasFacts (node t (Some (out-Group g).dim) (out-Group g).level) → HaveFieldKinds inner g
have_kinds t inner g facts = subst HasFieldKinds (level_same g) facts.kinds.fields

-- a message of a checked schema, and the groups of a structure in it
pub checked_kinds : (schema : WireSchema) (s : Structure) (i : ℕ) (level : Level) → IsChecked schema → slice_get schema.messages i ≡ Some level → HasFieldKinds level × EachGroup HaveFieldKinds s level
checked_kinds schema s i level checked at =
    let facts = all_facts (all_nodes schema) checked.kinds.levels checked.measured.levels in
    let own = all_of_message HasFacts 0 i schema.messages level facts at in
    let two = holds_below HasFacts (0 + i) None level own in
    let inside : Below HasFacts (0 + i) (groups_in level) = subst (Below HasFacts (0 + i)) (groups_same level) two.1 in
    (two.0.kinds.fields, deep HasFacts HaveFieldKinds (0 + i) (have_kinds (0 + i)) s level inside)

-- ---- codes

mapped_in : (tag : ℕ) (ds : List (ℕ × Datatype)) → AllByRecursion (λ (d : ℕ × Datatype). IsMapped d.1) ds → IsMapped (datatype_in tag ds)
mapped_in tag [] all = tt
mapped_in tag (d ∷ ds) all = by_test (d.0 == tag) (mapped_in tag ds all.1)
  where
    by_test : (b : Bool) → IsMapped (datatype_in tag ds) → IsMapped (cond b d.1 (datatype_in tag ds))
    by_test true more = all.0
    by_test false more = more

-- the codes of a mapping are short where those of each of its datatypes are
pub table_short : (m : Mapping) → AllByRecursion (λ (d : ℕ × Datatype). IsMapped d.1) m.datatypes → HasShortCodes m
table_short m all tag = mapped_in tag m.datatypes all
