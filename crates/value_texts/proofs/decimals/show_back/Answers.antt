use Rattle.std.proofs.Common.{to_z, of_z, subst, sym}
use Rattle.std.specs.Int.{w128}
use Rattle.fix_values.specs.Decimals.{dec, decimal_text}
use Rattle.fix_values.specs.Values.{Leaves}
use Rattle.bridge_rules.specs.Texts.{decimal_in_types, if_read}
use Rattle.reduced_decimals.specs.Forms.{IsFormOf}
use Rattle.reduced_decimals.proofs.Forms.{read_form}
use Rattle.value_texts.proofs.Leaving.{back_bad, back_fine, left_ok, whole}
use Rattle.value_texts.proofs.decimals.show_back.Goals as goal

pub returns-in-Some : goal.returns-in-Some
returns-in-Some c =
    let text = c.show_any_decimal.new.out in
    let left = whole (λ e. Leaves c.show_any_decimal.result text (decimal_text (dec c.args.m e))) c.args.e c.ranges.e
    (whole (λ m. Leaves c.show_any_decimal.result text (decimal_text (dec m (to_z w128 (of_z w128 c.args.e))))) c.args.m c.ranges.m c.show_any_decimal.ensures) in
    let form = whole (λ e. IsFormOf c.in-Some.form (dec c.args.m e)) c.args.e c.ranges.e
    (whole (λ m. IsFormOf c.in-Some.form (dec m (to_z w128 (of_z w128 c.args.e)))) c.args.m c.ranges.m c.in-Some.ensures) in
    let read = read_form c.args.m c.args.e c.in-Some.form text c.ranges.m form (left_ok c.show_any_decimal.result text (decimal_text (dec c.args.m c.args.e)) c.in-Ok.is left) in
    back_fine c.args.mantissa.now c.args.exponent.now c.args.m c.args.e c.show_any_decimal.result c.judge_form.result text c.judge_form.new.out left c.in-Ok.is
    (subst (λ d. Leaves c.judge_form.result c.judge_form.new.out (if_read text (decimal_in_types c.args.mantissa.now c.args.exponent.now d))) (sym read) c.judge_form.ensures)

pub returns-in-None : goal.returns-in-None
returns-in-None c =
    let left = whole (λ e. Leaves c.show_any_decimal.result c.show_any_decimal.new.out (decimal_text (dec c.args.m e))) c.args.e c.ranges.e
    (whole (λ m. Leaves c.show_any_decimal.result c.show_any_decimal.new.out (decimal_text (dec m (to_z w128 (of_z w128 c.args.e))))) c.args.m c.ranges.m c.show_any_decimal.ensures) in
    back_fine c.args.mantissa.now c.args.exponent.now c.args.m c.args.e c.show_any_decimal.result c.judge_back.result c.show_any_decimal.new.out c.judge_back.new.out left c.in-Ok.is c.judge_back.ensures

pub returns-in-Err : goal.returns-in-Err
returns-in-Err c =
    let left = whole (λ e. Leaves c.show_any_decimal.result c.show_any_decimal.new.out (decimal_text (dec c.args.m e))) c.args.e c.ranges.e
    (whole (λ m. Leaves c.show_any_decimal.result c.show_any_decimal.new.out (decimal_text (dec m (to_z w128 (of_z w128 c.args.e))))) c.args.m c.ranges.m c.show_any_decimal.ensures) in
    back_bad c.args.mantissa.now c.args.exponent.now c.args.m c.args.e c.show_any_decimal.result c.show_any_decimal.new.out c.in-Err.why left c.in-Err.is
