use Rattle.std.proofs.Common.{ap, sym, subst, ◌∙◌}
use Rattle.schema_facts.specs.Measured.{AreNarrowFields}
use Rattle.flat_rows.specs.Scalars.{scalars_of}
use Rattle.layout_compile.specs.inner.Grown.{AreInOrder}
use Rattle.layout_compile.proofs.flats.level_flat.Goals as goal

pub flat_rows_of-requires-clause-order : goal.flat_rows_of-requires-clause-order
flat_rows_of-requires-clause-order c = subst AreInOrder (sym c.as_slice.ensures) c.requires.order

pub flat_rows_of-requires-clause-narrow : goal.flat_rows_of-requires-clause-narrow
flat_rows_of-requires-clause-narrow c = subst (AreNarrowFields 0) (sym c.as_slice.ensures) c.requires.narrow

pub returns : goal.returns
returns c = record { table_is = c.in_ok-table.ensures.table; stands = c.in_ok-table.ensures.values ∙ ap scalars_of c.as_slice.ensures }
