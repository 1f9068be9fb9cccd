use Rattle.std.proofs.Common.{◌∙◌}
use Rattle.sbe_types.proofs.KindRows.{width_comp}
use Rattle.layout_compile.proofs.tables.dim_row.Goals as goal

pub returns : goal.returns
returns c = record {
  width = c.end_of.ensures ∙ width_comp _;
  block = c.counter_of.ensures;
  count = c.counter_of-2.ensures;
}
