use Rattle.std.proofs.Common.{sym, ◌∙◌}
use Rattle.text_values.proofs.row.TextValue.read.Goals as goal

pub returns : goal.returns
returns c = λ rule reads. reads.value c.args.text.now ∙ sym c.read_row.ensures
