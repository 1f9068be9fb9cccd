use Rattle.std.proofs.Common.{◌≡◌, true, subst, sym, arith, ap, length}
use Rattle.std.specs.Str.{all_ascii_digits}
use Rattle.fix_values.proofs.DecimalLemmas.{digits_trailing, length_trailing}
use Rattle.fix_values.proofs.decimal.reduced.Goals as goal

pub spelled_few-requires-clause-whole : goal.spelled_few-requires-clause-whole
spelled_few-requires-clause-whole c = subst (λ ds. all_ascii_digits ds ≡ true) (sym c.without_trailing_zeros-kept.ensures) (digits_trailing c.args.whole.now c.requires.whole)

pub spelled_few-requires-clause-few : goal.spelled_few-requires-clause-few
spelled_few-requires-clause-few c = let few = c.requires.few in omega (arith, few, length_trailing c.args.whole.now, ap length c.without_trailing_zeros-kept.ensures)

pub overflow_sub-result : goal.overflow_sub-result
overflow_sub-result c = omega (arith, length_trailing c.args.whole.now, ap length c.without_trailing_zeros-kept.ensures)
