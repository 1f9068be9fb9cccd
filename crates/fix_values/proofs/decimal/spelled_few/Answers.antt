use Rattle.std.proofs.Common.{◌∙◌, ap, sym, subst, ◌<◌, ◌^◌, FitsSigned, rules}
use Rattle.std.specs.Int.{w128}
use Rattle.std.proofs.lemmas.Int.{to_z-of_z}
use Rattle.std.specs.Str.Parse.{digits_value_after}
use Rattle.fix_values.specs.Numerals.{signed}
use Rattle.fix_values.proofs.NumeralLemmas.{parts_small, front_small, value_append}
use Rattle.fix_values.proofs.decimal.spelled_few.Goals as goal

pub small_after-requires-clause-small : goal.small_after-requires-clause-small
small_after-requires-clause-small c =
    front_small c.args.whole.now c.args.fraction.now _ (parts_small c.args.whole.now c.args.fraction.now c.requires.whole c.requires.fraction c.requires.few)

pub small_after-size-requires-clause-small : goal.small_after-size-requires-clause-small
small_after-size-requires-clause-small c =
    let same = value_append 0 c.args.whole.now c.args.fraction.now ∙ ap (λ n. digits_value_after 10 n c.args.fraction.now) (sym c.small_after.ensures) in
    subst (λ n. n < 2 ^ 127) same (parts_small c.args.whole.now c.args.fraction.now c.requires.whole c.requires.fraction c.requires.few)

pub signed_small-requires : goal.signed_small-requires
signed_small-requires c =
    let same = value_append 0 c.args.whole.now c.args.fraction.now ∙ (ap (λ n. digits_value_after 10 n c.args.fraction.now) (sym c.small_after.ensures) ∙ sym c.small_after-size.ensures) in
    subst (λ n. n < 2 ^ 127) same (parts_small c.args.whole.now c.args.fraction.now c.requires.whole c.requires.fraction c.requires.few)

pub returns : goal.returns
returns c =
    let same = value_append 0 c.args.whole.now c.args.fraction.now ∙ (ap (λ n. digits_value_after 10 n c.args.fraction.now) (sym c.small_after.ensures) ∙ sym c.small_after-size.ensures) in
    let fits : FitsSigned w128 c.signed_small.result = search rules in
    to_z-of_z w128 c.signed_small.result fits ∙ (c.signed_small.ensures ∙ ap (signed c.args.negative) (sym same))
