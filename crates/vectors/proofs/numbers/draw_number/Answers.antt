use Rattle.std.proofs.Common.{◌≡◌, pos, ◌+ℤ◌, ◌<◌, ◌^◌, min, FitsSigned, rules, arith, ap, sym, subst, ◌∙◌}
use Rattle.std.specs.Int.{w128, cast_signed, cast_unsigned}
use Rattle.std.proofs.lemmas.Int.{to_z-of_z}
use Rattle.vectors.specs.declared.numbers.TheConstants.{WORD_LIMIT}
use Rattle.vectors.specs.Values.{size_of, number_in}
use Rattle.vectors.proofs.Wholes.{number_fits, widened}
use Rattle.vectors.proofs.KindParts.{number_step}
use Rattle.vectors.proofs.numbers.draw_number.Goals as goal

pub overflow_add-result : goal.overflow_add-result
overflow_add-result c =
    let low : FitsSigned w128 c.args.low = search rules in
    let high : FitsSigned w128 c.args.high = search rules in
    let one = to_z-of_z w128 c.args.low low in
    let is : c.choices_in.result ≡ min (size_of c.args.low c.args.high) WORD_LIMIT =
    c.choices_in.ensures ∙ ap (λ z. min (size_of z (cast_signed w128 (cast_unsigned w128 c.args.high))) WORD_LIMIT) one ∙ ap (λ z. min (size_of c.args.low z) WORD_LIMIT) (to_z-of_z w128 c.args.high high) in
    let small : c.draw.result < 2 ^ 127 = omega (arith, is, c.draw.ensures.small) in
    subst (λ z. FitsSigned w128 (z +ℤ cast_signed w128 c.draw.result)) (sym one)
    (subst (λ z. FitsSigned w128 (c.args.low +ℤ z)) (sym (widened c.draw.result small)) (number_fits c.args.low c.args.high c.choices_in.result c.draw.result low high is c.draw.ensures.small))

pub returns : goal.returns
returns c =
    let low : FitsSigned w128 c.args.low = search rules in
    let high : FitsSigned w128 c.args.high = search rules in
    let one : cast_signed w128 (cast_unsigned w128 c.args.low) ≡ c.args.low = to_z-of_z w128 c.args.low low in
    let is : c.choices_in.result ≡ min (size_of c.args.low c.args.high) WORD_LIMIT =
    c.choices_in.ensures ∙ ap (λ z. min (size_of z (cast_signed w128 (cast_unsigned w128 c.args.high))) WORD_LIMIT) one ∙ ap (λ z. min (size_of c.args.low z) WORD_LIMIT) (to_z-of_z w128 c.args.high high) in
    let small : c.draw.result < 2 ^ 127 = omega (arith, is, c.draw.ensures.small) in
    let wide : cast_signed w128 c.draw.result ≡ pos c.draw.result = widened c.draw.result small in
    let fits : FitsSigned w128 (c.args.low +ℤ pos c.draw.result) = number_fits c.args.low c.args.high c.choices_in.result c.draw.result low high is c.draw.ensures.small in
    let same : cast_signed w128 (cast_unsigned w128 (c.args.low +ℤ pos c.draw.result)) ≡ c.args.low +ℤ pos c.draw.result = to_z-of_z w128 (c.args.low +ℤ pos c.draw.result) fits in
    let step : number_in c.args.low c.args.high c.args.words.now ≡ (c.args.low +ℤ pos c.draw.result, c.draw.new.words) = number_step c.args.low c.args.high c.choices_in.result c.draw.result c.args.words.now _ is c.draw.ensures.drawn in
    cc
