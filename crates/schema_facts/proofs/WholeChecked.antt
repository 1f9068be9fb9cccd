-- The facts of a checked schema, each from what the checker found in order.
use Rattle.std.proofs.Common.{◌≡◌, ◌+◌, List, [], ◌∷◌, None, ap, subst}
use Rattle.std.specs.Prelude.{true}
use Rattle.std.specs.List.{AllByRecursion}
use Rattle.sbe_types.specs.declared.schema.WireSchema.{WireSchema}
use Rattle.sbe_wire.specs.Placed.{IsPlaced}
use Rattle.schema_rules.specs.Checked.{outline_of, header_members}
use Rattle.schema_rules.specs.Names.{declared_types, messages_of}
use Rattle.schema_facts.specs.CheckedLevels.{HasNames, HasKinds, IsExact, HasSinces, counting, HasBlock, TakesByte, HasLengths, HasFewParts}
use Rattle.schema_rules.specs.Counters.{is_header}
use Rattle.schema_facts.specs.InOrder.{IsCompositeInOrder}
use Rattle.sbe_types.specs.declared.kind.Kind.{Comp}
use Rattle.schema_facts.specs.Levels.{Node, all_nodes}
use Rattle.schema_facts.specs.Measured.{IsMeasured, IsHeader, AreMeasured, IsMeasuredLevel}
use Rattle.schema_facts.specs.IsChecked.{EachLevel, HasMessages, HoldsNumbers, LevelsHaveNames, LevelsHaveSinces, LevelsHaveBlocks, EntriesTakeBytes, DataHaveLengths, LevelsHaveFewParts, GroupsAreShallow, MessagesTakeBytes, HasCounters, AreKindsInOrder, IsChecked, OfChecked}
use Rattle.schema_facts.proofs.LevelSteps.{not_false}
use Rattle.schema_facts.proofs.LevelEntries.{entry_takes}
use Rattle.schema_facts.proofs.LevelForms.{HasPlacedFields, all_of_message, level_bytes, level_placed}
use Rattle.schema_facts.proofs.LevelSinces.{sinces_kept}
use Rattle.schema_facts.proofs.LevelNames.{names_kept}
use Rattle.schema_facts.proofs.LevelBlocks.{count_kept}
use Rattle.schema_facts.proofs.KindCounters.{header_is}
use Rattle.schema_facts.proofs.LevelPlaces.{accepted, block_kept, placed_kept, measured_kept}
use Rattle.schema_facts.proofs.LevelLengths.{lengths_kept}
use Rattle.schema_facts.proofs.LevelKinds.{kinds_kept, dim_exact}
use Rattle.schema_facts.proofs.KindOrder.{members_in_order}
use Rattle.schema_facts.proofs.LevelNesting.{messages_shallow}
use Rattle.schema_facts.proofs.WholeMessages.{names_differ, ids_differ, sinces_none, ids_lead, ids_held, schema_id_held, version_held}
use Rattle.schema_facts.proofs.WholeWalk.{found, base_of, schema_walked}
use Rattle.schema_rules.specs.Checked.{no_message}

-- ---- messages

pub messages_differ : OfChecked HasMessages
messages_differ tree schema form h =
    let f = found tree schema h in
    record { names_differ = names_differ tree schema f; ids_differ = ids_differ tree schema f; sinces = sinces_none tree schema f }

pub numbers_held : OfChecked HoldsNumbers
numbers_held tree schema form h =
    let f = found tree schema h in
    record { ids = ids_held tree schema f; id = schema_id_held tree schema f; version = version_held tree schema f }

-- ---- levels

pub levels_named : OfChecked LevelsHaveNames
levels_named tree schema form h =
    schema_walked tree schema (λ node. HasNames node.level) (λ t dim level head ps passed. names_kept (base_of tree) t dim level head ps passed) form (found tree schema h)

pub levels_counted : OfChecked LevelsHaveFewParts
levels_counted tree schema form h =
    schema_walked tree schema (λ node. HasFewParts node.level) (λ t dim level head ps passed. count_kept (base_of tree) t dim level head ps passed) form (found tree schema h)

pub entries_counted : OfChecked EntriesTakeBytes
entries_counted tree schema form h =
    schema_walked tree schema TakesByte (λ t dim level head ps passed. entry_takes (base_of tree) t dim level head ps passed) form (found tree schema h)

pub data_counted : OfChecked DataHaveLengths
data_counted tree schema form h =
    schema_walked tree schema (λ node. HasLengths node.level) (λ t dim level head ps passed. lengths_kept (base_of tree) t dim level head ps passed) form (found tree schema h)

pub levels_since : OfChecked LevelsHaveSinces
levels_since tree schema form h =
    let f = found tree schema h in
    let all : EachLevel (λ node. HasSinces tree.version node.level) schema =
    schema_walked tree schema (λ node. HasSinces tree.version node.level) (λ t dim level head ps passed. sinces_kept (base_of tree) t dim level head ps passed) form f in
    let same : tree.version ≡ schema.version = ap (λ (s : WireSchema). s.version) f.is in
    subst (λ v. EachLevel (λ node. HasSinces v node.level) schema) same all

pub levels_blocked : OfChecked LevelsHaveBlocks
levels_blocked tree schema form h =
    let f = found tree schema h in
    let header = header_members (outline_of tree) in
    let all : EachLevel (λ node. HasBlock (counting header node) node.level) schema =
    schema_walked tree schema (λ node. HasBlock (counting header node) node.level) (λ t dim level head ps passed. block_kept (base_of tree) (accepted tree schema form f) t dim level head ps passed) form f in
    let same : header ≡ schema.header.members = ap (λ (s : WireSchema). s.header.members) f.is in
    subst (λ ms. EachLevel (λ node. HasBlock (counting ms node) node.level) schema) same all

-- ---- places

pub schema_placed : OfChecked IsPlaced
schema_placed tree schema form h =
    let f = found tree schema h in
    let all = schema_walked tree schema HasPlacedFields (λ t dim level head ps passed. placed_kept (base_of tree) (accepted tree schema form f) t dim level head ps passed) form f in
    record {
      levels = λ i level at. level_placed (0 + i) None level (all_of_message HasPlacedFields 0 i schema.messages level all at);
      ids = ids_lead tree schema f;
    }

are_measured : (nodes : List Node) → AllByRecursion IsMeasuredLevel nodes → AreMeasured nodes
are_measured [] h = tt
are_measured (n ∷ ns) h = (h.0, are_measured ns h.1)

pub schema_measured : OfChecked IsMeasured
schema_measured tree schema form h =
    let f = found tree schema h in
    let types = accepted tree schema form f in
    let all = schema_walked tree schema IsMeasuredLevel (λ t dim level head ps passed. measured_kept (base_of tree) types t dim level head ps passed) form f in
    let header = header_is (declared_types tree) types tree.header_type (not_false _ f.header.1.1.0) in
    record {
      header = subst (λ (s : WireSchema). IsHeader s.header.members) f.is header;
      levels = are_measured (all_nodes schema) all;
    }

-- ---- groups

pub groups_shallow : OfChecked GroupsAreShallow
groups_shallow tree schema form h =
    let f = found tree schema h in
    subst (λ (s : WireSchema). GroupsAreShallow s) f.is (messages_shallow (base_of tree) no_message (messages_of tree) f.messages)

-- what holds of each entry holds of the entries of each message
pub messages_take : (schema : WireSchema) → EntriesTakeBytes schema → MessagesTakeBytes schema
messages_take schema h version i level at = level_bytes version (0 + i) None level (all_of_message TakesByte 0 i schema.messages level h at)

-- ---- counters

pub counters_exact : OfChecked HasCounters
counters_exact tree schema form h =
    let f = found tree schema h in
    record {
      header = subst (λ (s : WireSchema). is_header s.header.members ≡ true) f.is (not_false _ f.header.1.1.0);
      dimensions = schema_walked tree schema (λ node. IsExact node.dim) (λ t dim level head ps passed. dim_exact (base_of tree) dim _ passed.told) form f;
    }

-- ---- kinds

pub kinds_in_order : OfChecked AreKindsInOrder
kinds_in_order tree schema form h =
    let f = found tree schema h in
    let types = accepted tree schema form f in
    record {
      header = subst (λ (s : WireSchema). IsCompositeInOrder (Comp s.header.members)) f.is (members_in_order (declared_types tree) types tree.header_type);
      levels = schema_walked tree schema HasKinds (λ t dim level head ps passed. kinds_kept (base_of tree) level types t dim head ps passed) form f;
    }

-- ---- all

pub schema_checked : OfChecked IsChecked
schema_checked tree schema form h =
    record {
      placed = schema_placed tree schema form h;
      measured = schema_measured tree schema form h;
      messages = messages_differ tree schema form h;
      numbers = numbers_held tree schema form h;
      counters = counters_exact tree schema form h;
      names = levels_named tree schema form h;
      kinds = kinds_in_order tree schema form h;
      sinces = levels_since tree schema form h;
      blocks = levels_blocked tree schema form h;
      entries = entries_counted tree schema form h;
      lengths = data_counted tree schema form h;
      counts = levels_counted tree schema form h;
      nesting = groups_shallow tree schema form h;
    }
