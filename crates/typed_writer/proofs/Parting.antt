-- Data parts of a level, and their lengths.
use Rattle.std.proofs.Common.{◌≡◌, ◌<◌, ℕ, ◌^◌, true, false, List, length, Option, Some, sym, ap, ◌∙◌, arith, pos}
use Rattle.std.specs.Prelude.{slice_get, int_le}
use Rattle.std.specs.Option.{option_and_then, option_map_or}
use Rattle.std.proofs.lemmas.Bool.Decides.{nat_tests}
use Rattle.std.proofs.lemmas.Int.{ints}
use Rattle.sbe_types.specs.declared.kind.Leaf.{Leaf as LeafOf}
use Rattle.sbe_types.specs.declared.kind.Primitive.{Primitive}
use Rattle.sbe_types.specs.declared.kind.Primitive.TheVariants.{Char, I8, I16, I32, I64, U8, U16, U32, U64}
use Rattle.sbe_types.specs.declared.schema.DataField.{DataField}
use Rattle.sbe_types.specs.declared.schema.Level.{out-Level}
use Rattle.sbe_types.specs.declared.schema.WireSchema.{WireSchema}
use Rattle.sbe_types.specs.declared.message.DataVal.TheVariants.{Bytes}
use Rattle.sbe_types.specs.Shown.{admits}
use Rattle.sbe_wire.specs.Canonical.{part_bytes}
use Rattle.schema_rules.specs.Ranges.{is_number_of}
use Rattle.schema_facts.specs.CheckedLevels.{HasKinds, HasLengths, IsLength}
use Rattle.schema_facts.specs.InOrder.{IsLeafInOrder, IsLeafFrom}
use Rattle.schema_facts.specs.IsChecked.{IsChecked}
use Rattle.schema_facts.specs.Levels.{Node, all_nodes, parts_at, parts_in}
use Rattle.schema_facts.specs.Measured.{IsSmall}
use Rattle.schema_facts.proofs.KindDeclared.{all_at}
use Rattle.schema_facts.proofs.KindNumbers.{both_true}
use Rattle.layout_tables.proofs.Items.{item_there}
use Rattle.typed_writer.specs.declared.stack.Frame.{Frame}
use Rattle.kind_bytes.specs.Members.{followed_by}
use Rattle.typed_writer.specs.Steps.{next_data, data_in, admits_data}
use Rattle.typed_writer.proofs.Checked.{level_is}
use Rattle.typed_writer.proofs.Grouping.{holds_below}

-- ---- lengths

pub length_held : (leaf : LeafOf) (n : ℕ) → IsSmall leaf.prim → IsLeafInOrder leaf → admits leaf (pos n) ≡ true → is_number_of leaf.prim (pos n) ≡ true
length_held leaf n small order h = holds_below leaf.prim n leaf.high small order.high (both_true (int_le leaf.low (pos n)) (int_le (pos n) leaf.high) h).1

small_held : (prim : Primitive) (n : ℕ) → IsSmall prim → is_number_of prim (pos n) ≡ true → n < 2 ^ 32
small_held U8 n small h = grind (arith, ints, nat_tests, h)
small_held U16 n small h = grind (arith, ints, nat_tests, h)
small_held U32 n small h = grind (arith, ints, nat_tests, h)
small_held U64 n small h = absurd small
small_held Char n small h = absurd small
small_held I8 n small h = absurd small
small_held I16 n small h = absurd small
small_held I32 n small h = absurd small
small_held I64 n small h = absurd small

pub length_small : (leaf : LeafOf) (n : ℕ) → IsSmall leaf.prim → IsLeafInOrder leaf → admits leaf (pos n) ≡ true → n < 2 ^ 32
length_small leaf n small order h = small_held leaf.prim n small (length_held leaf n small order h)

-- ---- the parts of a level

parts_are : (schema : WireSchema) (n : ℕ) (node : Node) → slice_get (all_nodes schema) n ≡ Some node → parts_at schema n ≡ (out-Level node.level).parts
parts_are schema n node at = ap parts_in (level_is schema n node at)

pub part_small : (schema : WireSchema) (n i : ℕ) (part : DataField) → IsChecked schema → n < length (all_nodes schema) → slice_get (parts_at schema n) i ≡ Some part → IsSmall part.length.prim
part_small schema n i part checked low at =
    let w = item_there (all_nodes schema) n low in
    let lengths : HasLengths w.0.level = all_at (λ (x : Node). HasLengths x.level) (all_nodes schema) n w.0 checked.lengths w.1 in
    (all_at (λ (d : DataField). IsLength d.length) (out-Level w.0.level).parts i part lengths (ap (λ ps. slice_get ps i) (sym (parts_are schema n w.0 w.1)) ∙ at)).small

pub part_order : (schema : WireSchema) (n i : ℕ) (part : DataField) → IsChecked schema → n < length (all_nodes schema) → slice_get (parts_at schema n) i ≡ Some part → IsLeafFrom 1 part.length
part_order schema n i part checked low at =
    let w = item_there (all_nodes schema) n low in
    let kinds : HasKinds w.0 = all_at HasKinds (all_nodes schema) n w.0 checked.kinds.levels w.1 in
    all_at (λ (d : DataField). IsLeafInOrder d.length) (out-Level w.0.level).parts i part kinds.lengths (ap (λ ps. slice_get ps i) (sym (parts_are schema n w.0 w.1)) ∙ at)

-- ---- the next one

pub part_told : (schema : WireSchema) (frames : List Frame) (part : DataField) (bytes old new : List ℕ) → next_data schema frames ≡ Some part →
    followed_by old (part_bytes schema.order part (Bytes bytes)) ≡ Some new → followed_by old (data_in schema frames bytes) ≡ Some new
part_told schema frames part bytes old new at h =
    ap (λ (o : Option DataField). followed_by old (option_and_then (λ (part : DataField). part_bytes schema.order part (Bytes bytes)) o)) at ∙ h

pub part_admits : (schema : WireSchema) (frames : List Frame) (part : DataField) (many : ℕ) → next_data schema frames ≡ Some part → admits part.length (pos many) ≡ true → admits_data schema frames many ≡ true
part_admits schema frames part many at h = ap (λ (o : Option DataField). option_map_or (λ (part : DataField). admits part.length (pos many)) o false) at ∙ h
