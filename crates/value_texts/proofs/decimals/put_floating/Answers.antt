use Rattle.std.proofs.Common.{subst, sym, ◌∙◌, rules, FitsSigned}
use Rattle.std.specs.Prelude.{Some}
use Rattle.std.specs.Int.{w128}
use Rattle.bridge_rules.specs.Texts.{floating_text}
use Rattle.value_texts.specs.FieldViews.{members_seen, nth_number}
use Rattle.value_texts.proofs.Plain.{floating_plain, value_of_plain}
use Rattle.fix_values.specs.Values.{Leaves}
use Rattle.bridge_rules.specs.Texts.{text_if_any}
use Rattle.message_walk.specs.States.{IsPut}
use Rattle.value_texts.proofs.Leaving.{leaves_value, whole}
use Rattle.value_texts.proofs.decimals.put_floating.Goals as goal

pub put_shown-requires-clause-value : goal.put_shown-requires-clause-value
put_shown-requires-clause-value c =
    let fits : FitsSigned w128 c.in-Some.m = search rules in
    let left = whole (λ m. Leaves c.show_floating-shown.result c.show_floating-shown.new.out (floating_text c.args.mantissa.now c.args.exponent.now c.member_number-in-Some.result m)) c.in-Some.m fits c.show_floating-shown.ensures in
    leaves_value c.show_floating-shown.result c.show_floating-shown.new.out (floating_text c.args.mantissa.now c.args.exponent.now c.member_number-in-Some.result c.in-Some.m) left (λ t h. value_of_plain t (floating_plain c.args.mantissa.now c.args.exponent.now c.member_number-in-Some.result c.in-Some.m fits t h))

pub returns-in-Some-clause-put : goal.returns-in-Some-clause-put
returns-in-Some-clause-put c = λ lists unpaired.
    let fits : FitsSigned w128 c.in-Some.m = search rules in
    let left = whole (λ m. Leaves c.show_floating-shown.result c.show_floating-shown.new.out (floating_text c.args.mantissa.now c.args.exponent.now c.member_number-in-Some.result m)) c.in-Some.m fits c.show_floating-shown.ensures in
    subst (λ o. IsPut lists c.args.out.now c.args.lead.now (text_if_any o (λ m. floating_text c.args.mantissa.now c.args.exponent.now (nth_number 1 (members_seen c.args.members.now)) m)) (record { put = c.put_shown.result; draft = c.put_shown.new.out; halt = c.put_shown.new.halt }))
    (sym (c.member_number.ensures ∙ c.in-Some.is))
    (subst (λ e. IsPut lists c.args.out.now c.args.lead.now (text_if_any (Some c.in-Some.m) (λ m. floating_text c.args.mantissa.now c.args.exponent.now e m)) (record { put = c.put_shown.result; draft = c.put_shown.new.out; halt = c.put_shown.new.halt })) (sym c.member_number-in-Some.ensures)
    (c.put_shown.ensures.put lists (floating_text c.args.mantissa.now c.args.exponent.now c.member_number-in-Some.result c.in-Some.m) unpaired left))
