use Rattle.std.proofs.Common.{◌∙◌}
use Rattle.text_values.proofs.row.TextValue.missing.Goals as goal

pub returns : goal.returns
returns c = λ rule reads. reads.missing ∙ c.missing_value.ensures
