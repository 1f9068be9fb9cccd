use Rattle.std.proofs.Common.{to_z, of_z}
use Rattle.std.specs.Int.{w128}
use Rattle.fix_values.specs.Decimals.{dec, decimal_text}
use Rattle.fix_values.specs.Values.{Leaves}
use Rattle.value_texts.proofs.Plain.{decimal_plain, value_of_plain}
use Rattle.value_texts.proofs.Leaving.{leaves_value, whole}
use Rattle.value_texts.proofs.decimals.put_wide.Goals as goal

pub put_shown-requires-clause-value : goal.put_shown-requires-clause-value
put_shown-requires-clause-value c =
    let shown = c.show_any_decimal-shown in
    let left = whole (λ e. Leaves shown.result shown.new.out (decimal_text (dec c.args.mantissa e))) c.args.exponent c.ranges.exponent
    (whole (λ m. Leaves shown.result shown.new.out (decimal_text (dec m (to_z w128 (of_z w128 c.args.exponent))))) c.args.mantissa c.ranges.mantissa shown.ensures) in
    leaves_value shown.result shown.new.out (decimal_text (dec c.args.mantissa c.args.exponent)) left (λ t h. value_of_plain t (decimal_plain c.args.mantissa c.args.exponent c.ranges.mantissa t h))

pub returns-clause-put : goal.returns-clause-put
returns-clause-put c = λ lists unpaired.
    let shown = c.show_any_decimal-shown in
    let left = whole (λ e. Leaves shown.result shown.new.out (decimal_text (dec c.args.mantissa e))) c.args.exponent c.ranges.exponent
    (whole (λ m. Leaves shown.result shown.new.out (decimal_text (dec m (to_z w128 (of_z w128 c.args.exponent))))) c.args.mantissa c.ranges.mantissa shown.ensures) in
    c.put_shown.ensures.put lists (decimal_text (dec c.args.mantissa c.args.exponent)) unpaired left
