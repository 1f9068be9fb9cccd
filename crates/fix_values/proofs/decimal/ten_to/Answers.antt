use Rattle.std.proofs.Common.{◌∙◌, ap, arith, pos}
use Rattle.fix_values.proofs.NumeralLemmas.{widen_is}
use Rattle.fix_values.proofs.DecimalLemmas.{ten_small}
use Rattle.fix_values.proofs.decimal.ten_to.Goals as goal

pub pow-requires : goal.pow-requires
pow-requires c = omega (arith, ten_small c.args.places c.requires)

pub overflow_cast-result : goal.overflow_cast-result
overflow_cast-result c = record { sfits = omega (arith, c.pow.ensures, ten_small c.args.places c.requires) }

pub returns : goal.returns
returns c = widen_is c.pow.result (omega (arith, c.pow.ensures, ten_small c.args.places c.requires)) ∙ ap pos c.pow.ensures
