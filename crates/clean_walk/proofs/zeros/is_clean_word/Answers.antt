use Rattle.std.proofs.Common.{◌∙◌, sym, arith}
use Rattle.clean_walk.proofs.AllZeros.{text_clean}
use Rattle.clean_walk.proofs.ZeroBits.{clean_zeros, sum_small, without_zeros}
use Rattle.clean_walk.proofs.zeros.is_clean_word.Goals as goal

pub returns-then-zeros-eq0 : goal.returns-then-zeros-eq0
returns-then-zeros-eq0 c = λ _. text_clean c.args.bytes.now (without_zeros c.args.bytes.now (sym c.zeros_in-zeros.ensures ∙ c.if-zeros-eq0.true))

pub overflow_add-result : goal.overflow_add-result
overflow_add-result c = omega (arith, sum_small c.args.bytes.now c.zeros_in-zeros.result c.requires c.zeros_in-zeros.ensures c.if-zeros-eq0.false)

pub returns : goal.returns
returns c = λ sum. text_clean c.args.bytes.now (clean_zeros c.args.bytes.now c.zeros_in-zeros.result c.requires c.zeros_in-zeros.ensures c.if-zeros-eq0.false sum)
