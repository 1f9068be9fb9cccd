use Rattle.std.proofs.Common.{false, drop}
use Rattle.std.specs.List.{AllByRecursion}
use Rattle.sbe_types.specs.declared.schema.Field.{Field}
use Rattle.schema_facts.specs.InOrder.{IsKindInOrder}
use Rattle.schema_facts.specs.Measured.{AreNarrowFields}
use Rattle.json_rows.specs.Pieces.{field_pieces}
use Rattle.json_rows.proofs.Growing.{GoesOn}
use Rattle.json_rows.proofs.make.text_rows_of.Given as goal

abbrev pub invariant-loop-field : goal.invariant-loop-field
invariant-loop-field l = record {
  order : AllByRecursion (λ (f : Field). IsKindInOrder f.kind) (drop l.field-index l.fields);
  narrow : AreNarrowFields l.end (drop l.field-index l.fields);
  goes : GoesOn l.initial.table l.table (field_pieces l.later l.end (drop l.field-index l.fields)) (field_pieces false 0 l.fields);
}
