use Rattle.std.proofs.Common.{◌∙◌}
use Rattle.sbe_types.proofs.KindRows.{width_comp}
use Rattle.layout_compile.proofs.tables.header_row.Goals as goal

pub returns : goal.returns
returns c = record {
  width = c.end_of.ensures ∙ width_comp _;
  block = c.counter_of-block.ensures;
  template = c.counter_of-template.ensures;
  schema = c.counter_of-schema.ensures;
  version = c.counter_of-version.ensures;
  usual = λ is. record {
    block = c.are_usual-is_usual.ensures.block is;
    template = c.are_usual-is_usual.ensures.template is;
    schema = c.are_usual-is_usual.ensures.schema is;
    version = c.are_usual-is_usual.ensures.version is;
  };
}
