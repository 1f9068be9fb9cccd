-- What every layer above may rely on of a checked schema, and the law that the check ensures it.
use Rattle.std.specs.Prelude.{◌≡◌, ◌≢◌, ◌≤◌, ℕ, true, Ok, Some, map, codes, slice_get, AllPairs}
use Rattle.std.specs.List.{AllByRecursion}
use Rattle.sbe_types.specs.declared.kind.Kind.{Comp}
use Rattle.sbe_types.specs.declared.schema.Level.{Level, out-Level}
use Rattle.sbe_types.specs.declared.schema.WireSchema.{WireSchema}
use Rattle.sbe_types.specs.declared.tree.Schema.{Schema}
use Rattle.sbe_types.specs.InForm.{IsInForm}
use Rattle.sbe_wire.specs.Placed.{IsPlaced}
use Rattle.schema_rules.specs.Checked.{checked_of}
use Rattle.schema_rules.specs.Counters.{is_header, holds}
use Rattle.schema_rules.specs.PartRules.{most_groups}
use Rattle.schema_facts.specs.CheckedLevels.{HasNames, HasKinds, IsExact, HasSinces, counting, HasBlock, TakesByte, HasLengths, HasFewParts, groups_deep}
use Rattle.schema_facts.specs.Counted.{TakesBytes}
use Rattle.schema_facts.specs.InOrder.{IsCompositeInOrder}
use Rattle.schema_facts.specs.Levels.{Node, all_nodes}
use Rattle.schema_facts.specs.Measured.{IsMeasured}

-- ---- facts of a schema

-- A fact holds of each level of a schema: of the roots of its messages, and of the entries of all groups.
abbrev pub EachLevel : (Node → Type 0) → WireSchema → Type 0
EachLevel P schema = AllByRecursion P (all_nodes schema)

-- No two messages have the same name, and no two the same id; the since of each root level is 0, as a message's own one
-- isn't counted.
pub record HasMessages (schema : WireSchema) : Type 0 where
  pub names_differ : AllPairs (λ a b. a ≢ b) (map (λ level. (out-Level level).name) schema.messages)
  pub ids_differ : AllPairs (λ a b. a ≢ b) (map (λ level. (out-Level level).id) schema.messages)
  pub sinces : AllByRecursion (λ level. (out-Level level).since ≡ 0) schema.messages

-- The members of the header can hold the id of each message, and the id and version of the schema.
pub record HoldsNumbers (schema : WireSchema) : Type 0 where
  pub ids : AllByRecursion (λ level. holds schema.header.members (codes "templateId") (out-Level level).id ≡ true) schema.messages
  pub id : holds schema.header.members (codes "schemaId") schema.id ≡ true
  pub version : holds schema.header.members (codes "version") schema.version ≡ true

-- The header is exactly its four numbers, and each dimension exactly its two.
pub record HasCounters (schema : WireSchema) : Type 0 where
  pub header : is_header schema.header.members ≡ true
  pub dimensions : EachLevel (λ node. IsExact node.dim) schema

-- Levels, fields, groups and data have names, and no two parts of a level have the same one.
abbrev pub LevelsHaveNames : WireSchema → Type 0
LevelsHaveNames schema = EachLevel (λ node. HasNames node.level) schema

-- The kinds of the header, and of all fields, dimensions and length numbers, are in order.
pub record AreKindsInOrder (schema : WireSchema) : Type 0 where
  pub header : IsCompositeInOrder (Comp schema.header.members)
  pub levels : EachLevel HasKinds schema

-- Within each level the sinces of fields, of groups and of data never fall, and they are within those of the level and
-- the schema.
abbrev pub LevelsHaveSinces : WireSchema → Type 0
LevelsHaveSinces schema = EachLevel (λ node. HasSinces schema.version node.level) schema

-- The fields of each level end within its block, and its length fits the member blockLength of its header or dimension.
abbrev pub LevelsHaveBlocks : WireSchema → Type 0
LevelsHaveBlocks schema = EachLevel (λ node. HasBlock (counting schema.header.members node) node.level) schema

-- Each entry takes at least one byte, at each version that has its group.
abbrev pub EntriesTakeBytes : WireSchema → Type 0
EntriesTakeBytes schema = EachLevel TakesByte schema

-- Each data part has a length number.
abbrev pub DataHaveLengths : WireSchema → Type 0
DataHaveLengths schema = EachLevel (λ node. HasLengths node.level) schema

-- Each level has at most as many parts as the limit.
abbrev pub LevelsHaveFewParts : WireSchema → Type 0
LevelsHaveFewParts schema = EachLevel (λ node. HasFewParts node.level) schema

-- At most six groups are nested in one another.
abbrev pub GroupsAreShallow : WireSchema → Type 0
GroupsAreShallow schema = AllByRecursion (λ level. groups_deep level ≤ most_groups) schema.messages

-- ---- the record

-- What every layer above may rely on of a checked schema.
pub record IsChecked (schema : WireSchema) : Type 0 where
  pub placed : IsPlaced schema
  pub measured : IsMeasured schema
  pub messages : HasMessages schema
  pub numbers : HoldsNumbers schema
  pub counters : HasCounters schema
  pub names : LevelsHaveNames schema
  pub kinds : AreKindsInOrder schema
  pub sinces : LevelsHaveSinces schema
  pub blocks : LevelsHaveBlocks schema
  pub entries : EntriesTakeBytes schema
  pub lengths : DataHaveLengths schema
  pub counts : LevelsHaveFewParts schema
  pub nesting : GroupsAreShallow schema

-- ---- the laws

-- P holds of the checked schema of each tree in form.
abbrev pub OfChecked : (WireSchema → Type 0) → Type 0
OfChecked P = (tree : Schema) (schema : WireSchema) → IsInForm tree → checked_of tree ≡ Ok schema → P schema

-- The entries of each message take bytes at each version, whatever groups they are in.
abbrev pub MessagesTakeBytes : WireSchema → Type 0
MessagesTakeBytes schema = (version i : ℕ) (level : Level) → slice_get schema.messages i ≡ Some level → TakesBytes version level
