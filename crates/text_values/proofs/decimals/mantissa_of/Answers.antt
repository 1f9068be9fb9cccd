use Rattle.std.proofs.Common.{sym, ◌∙◌}
use Rattle.text_values.proofs.FarDecimals.{near_read}
use Rattle.text_values.proofs.decimals.mantissa_of.Goals as goal

pub fitted-requires : goal.fitted-requires
fitted-requires c = record { near = near_read c.args.text.now c.in-Ok.number (sym c.read_decimal.ensures ∙ c.in-Ok.is) }
