-- Each level of a checked schema can be written.
use Rattle.std.proofs.Common.{◌≡◌, ℕ, ◌+◌, true, List, [], ◌∷◌, ◌++◌, map, Option, Some, None}
use Rattle.std.specs.Prelude.{codes}
use Rattle.std.specs.List.{AllByRecursion}
use denote.Hole.Carrier as carrier
use Rattle.sbe_types.specs.declared.schema.Level as levels
use Rattle.sbe_types.specs.declared.kind.Member.{Member}
use Rattle.sbe_types.specs.declared.schema.Field.{Field}
use Rattle.sbe_types.specs.declared.schema.DataField.{DataField}
use Rattle.sbe_types.specs.declared.schema.Group.{Group, Group'}
use Rattle.sbe_types.specs.declared.schema.Level.{Level, Level', out-Level, Row_of-Group, end_of-Group, more_of-Group}
use Rattle.sbe_types.specs.declared.schema.WireSchema.{WireSchema}
use Rattle.schema_rules.specs.Counters.{holds}
use Rattle.schema_facts.specs.CheckedLevels.{HasKinds, IsExact, IsSinceWithin, HasSinces, group_since, counting, HasBlock}
use Rattle.schema_facts.specs.InOrder.{IsKindInOrder, IsLeafInOrder}
use Rattle.schema_facts.specs.IsChecked.{IsChecked}
use Rattle.schema_facts.specs.Levels.{Node, node, nodes, nodes_below, nodes_of, all_nodes}
use Rattle.schema_facts.specs.Measured.{IsMeasuredLevel, AreMeasured}
use Rattle.schema_facts.proofs.KindDeclared.{all_at}
use Rattle.schema_facts.proofs.LevelForms.{all_apart, all_of_message, holds_below}
use Rattle.writing_laws.specs.Writable.{AreWritableFields, AreWritableParts, IsWritableLevel, AreWritableGroups, IsWritableGroup, IsWritable}
use Rattle.writable_schemas.proofs.WholeNumbers.{has_number}
use Rattle.writable_schemas.proofs.OrderedKinds.{admitted_number, kind_writable}
use Rattle.writable_schemas.proofs.Counters.{dimension_writable, header_writable}

-- ---- a level

-- what is needed of each level
record NodeFacts (schema : WireSchema) (this : Node) : Type 0 where
  kinds : HasKinds this
  exact : IsExact this.dim
  sinces : HasSinces schema.version this.level
  block : HasBlock (counting schema.header.members this) this.level
  measured : IsMeasuredLevel this

all_both : {X : Type 0} (P Q : X → Type 0) (xs : List X) → AllByRecursion P xs → AllByRecursion Q xs → AllByRecursion (λ x. P x × Q x) xs
all_both P Q [] h k = tt
all_both P Q (x ∷ xs) h k = ((h.0, k.0), all_both P Q xs h.1 k.1)

measured_list : (ns : List Node) → AreMeasured ns → AllByRecursion IsMeasuredLevel ns
measured_list [] h = tt
measured_list (n ∷ ns) h = (h.0, measured_list ns h.1)

facts_list : (schema : WireSchema) (ns : List Node) → AllByRecursion HasKinds ns → AllByRecursion (λ n. IsExact n.dim) ns → AllByRecursion (λ n. HasSinces schema.version n.level) ns →
    AllByRecursion (λ n. HasBlock (counting schema.header.members n) n.level) ns → AllByRecursion IsMeasuredLevel ns → AllByRecursion (NodeFacts schema) ns
facts_list schema [] a b c d e = tt
facts_list schema (n ∷ ns) a b c d e = (record { kinds = a.0; exact = b.0; sinces = c.0; block = d.0; measured = e.0 }, facts_list schema ns a.1 b.1 c.1 d.1 e.1)

fields_writable : (version least : ℕ) (fs : List Field) → AllByRecursion (λ (f : Field). IsKindInOrder f.kind) fs → AllByRecursion (IsSinceWithin least version) (map (λ (f : Field). f.since) fs) → AreWritableFields version fs
fields_writable version least [] kinds sinces = tt
fields_writable version least (f ∷ fs) kinds sinces = (kind_writable 1 f.kind kinds.0.parts, sinces.0.known, fields_writable version least fs kinds.1 sinces.1)

parts_writable : (version least : ℕ) (ps : List DataField) → AllByRecursion (λ (d : DataField). IsLeafInOrder d.length) ps → AllByRecursion (IsSinceWithin least version) (map (λ (d : DataField). d.since) ps) → AreWritableParts version ps
parts_writable version least [] leaves sinces = tt
parts_writable version least (p ∷ ps) leaves sinces = (
  record { known = sinces.0.known; admitted = λ n within. has_number p.length.prim _ (admitted_number 1 p.length leaves.0 _ within) },
  parts_writable version least ps leaves.1 sinces.1,
)

module _ (schema : WireSchema) where
  -- the facts of the first level
  first_facts : (t : ℕ) (dim : Option (List Member)) (level : Level) → AllByRecursion (NodeFacts schema) (nodes t dim level) → NodeFacts schema (node t dim level)
  first_facts t dim level h = (holds_below (NodeFacts schema) t dim level h).0

  mutual
    unfolding nodes nodes_below nodes_of levels.out-Level carrier.out

    level_writable : (t : ℕ) (dim : Option (List Member)) (level : Level) → AllByRecursion (NodeFacts schema) (nodes t dim level) → IsWritableLevel schema.version level
    level_writable t dim (Level' name id semantic since block_length fields n groups parts) h =
        let this = Level' name id semantic since block_length fields n groups parts in
        let sinces = all_apart (IsSinceWithin since schema.version) (map (λ (f : Field). f.since) fields) (map group_since (out-Level this).groups ++ map (λ (d : DataField). d.since) parts) h.0.sinces.within in
        let later = all_apart (IsSinceWithin since schema.version) (map group_since (out-Level this).groups) (map (λ (d : DataField). d.since) parts) sinces.1 in (
          fields_writable schema.version since fields h.0.kinds.fields sinces.0,
          h.0.block.whole,
          groups_writable t groups h.1,
          parts_writable schema.version since parts h.0.kinds.lengths later.1,
        )

    groups_writable : (t : ℕ) {n : _} (row : Row_of-Group n) → AllByRecursion (NodeFacts schema) (nodes_below t row) → AreWritableGroups schema.version row
    groups_writable t end_of-Group h = tt
    groups_writable t (more_of-Group g rest) h =
        let two = all_apart (NodeFacts schema) (nodes_of t g) (nodes_below t rest) h in
        (group_writable t g two.0, groups_writable t rest two.1)

    group_writable : (t : ℕ) (g : Group) → AllByRecursion (NodeFacts schema) (nodes_of t g) → IsWritableGroup schema.version g
    group_writable t (Group' dim level) h =
        let own = first_facts t (Some dim) level h in
        (own.sinces.own, dimension_writable dim (out-Level level).block_length own.exact own.kinds.dim own.measured.dim own.block.held, level_writable t (Some dim) level h)

  -- ---- the schema

  facts : IsChecked schema → AllByRecursion (NodeFacts schema) (all_nodes schema)
  facts h = facts_list schema (all_nodes schema) h.kinds.levels h.counters.dimensions h.sinces h.blocks (measured_list (all_nodes schema) h.measured.levels)

  pub schema_writable : IsChecked schema → IsWritable schema
  schema_writable h = record {
    levels = λ i level at. level_writable (0 + i) None level (all_of_message (NodeFacts schema) 0 i schema.messages level (facts h) at);
    header = λ i level at.
        let own = first_facts (0 + i) None level (all_of_message (NodeFacts schema) 0 i schema.messages level (facts h) at) in
        header_writable schema level h.counters.header h.kinds.header
        (record {
          block = own.block.held;
          template = all_at (λ l. holds schema.header.members (codes "templateId") (out-Level l).id ≡ true) schema.messages i level h.numbers.ids at;
          id = h.numbers.id;
          version = h.numbers.version;
        });
    block = (h.measured.header.block.0, h.measured.header.block.1);
    template = (h.measured.header.template.0, h.measured.header.template.1);
    id = (h.measured.header.schema.0, h.measured.header.schema.1);
    version = (h.measured.header.version.0, h.measured.header.version.1);
  }
