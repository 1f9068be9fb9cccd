use Rattle.std.proofs.Common.{sym, ap, ◌∙◌}
use Rattle.std.specs.Prelude.{Some}
use Rattle.field_values.proofs.Shown.{text_told}
use Rattle.field_values.proofs.texts.text_in.Goals as goal

pub returns : goal.returns
returns c = λ order known kind v h some. text_told order known v c.args.bytes.now kind h some ∙ ap Some (sym c.before_zero.ensures)
