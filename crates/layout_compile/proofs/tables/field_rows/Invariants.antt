use Rattle.std.proofs.Common.{◌≡◌, take, drop}
use Rattle.sbe_types.specs.Places.{fields_end}
use Rattle.schema_facts.specs.Measured.{AreNarrowFields}
use Rattle.layout_tables.specs.Rowed.{FieldsAre}
use Rattle.layout_compile.proofs.tables.field_rows.Given as goal

abbrev pub invariant-loop-field : goal.invariant-loop-field
invariant-loop-field l = record {
  ends : l.end ≡ fields_end 0 (take l.field-index l.fields);
  are : FieldsAre 0 (take l.field-index l.fields) l.rows.items;
  narrow : AreNarrowFields l.end (drop l.field-index l.fields);
}
