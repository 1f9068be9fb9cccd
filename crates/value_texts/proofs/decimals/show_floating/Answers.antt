use Rattle.std.proofs.Common.{subst, sym, rules, FitsSigned, to_z, of_z}
use Rattle.std.specs.Prelude.{Some}
use Rattle.std.specs.Int.{w128}
use Rattle.fix_values.specs.Values.{Leaves}
use Rattle.bridge_rules.specs.Texts.{floating_text}
use Rattle.value_texts.proofs.Leaving.{whole}
use Rattle.value_texts.proofs.decimals.show_floating.Goals as goal

pub returns-in-Some : goal.returns-in-Some
returns-in-Some c =
    let fits : FitsSigned w128 c.in-Some.e = search rules in
    subst (λ e. Leaves c.show_back.result c.show_back.new.out (floating_text c.args.mantissa.now c.args.exponent.now e c.args.m)) (sym c.in-Some.is)
    (whole (λ e. Leaves c.show_back.result c.show_back.new.out (floating_text c.args.mantissa.now c.args.exponent.now (Some e) c.args.m)) c.in-Some.e fits
    (whole (λ m. Leaves c.show_back.result c.show_back.new.out (floating_text c.args.mantissa.now c.args.exponent.now (Some (to_z w128 (of_z w128 c.in-Some.e))) m)) c.args.m c.ranges.m c.show_back.ensures))
