use Rattle.std.proofs.Common.{subst, sym, rules, FitsSigned}
use Rattle.std.specs.Int.{w128}
use Rattle.date_answers.specs.Answers.{day_shown}
use Rattle.value_texts.proofs.Plain.{day_plain, value_of_plain}
use Rattle.fix_values.specs.Values.{Leaves}
use Rattle.bridge_rules.specs.Texts.{text_if_any}
use Rattle.message_walk.specs.States.{IsPut}
use Rattle.value_texts.proofs.Leaving.{leaves_value, whole}
use Rattle.value_texts.proofs.moments.put_day.Goals as goal

pub put_shown-requires-clause-value : goal.put_shown-requires-clause-value
put_shown-requires-clause-value c =
    let fits : FitsSigned w128 c.in-Some.n = search rules in
    let left = whole (λ n. Leaves c.show_day_number-shown.result c.show_day_number-shown.new.out (day_shown n)) c.in-Some.n fits c.show_day_number-shown.ensures in
    leaves_value c.show_day_number-shown.result c.show_day_number-shown.new.out (day_shown c.in-Some.n) left (λ t h. value_of_plain t (day_plain c.in-Some.n t h))

pub returns-in-Some-clause-put : goal.returns-in-Some-clause-put
returns-in-Some-clause-put c = λ lists unpaired.
    let fits : FitsSigned w128 c.in-Some.n = search rules in
    let left = whole (λ n. Leaves c.show_day_number-shown.result c.show_day_number-shown.new.out (day_shown n)) c.in-Some.n fits c.show_day_number-shown.ensures in
    subst (λ o. IsPut lists c.args.out.now c.args.lead.now (text_if_any o day_shown) (record { put = c.put_shown.result; draft = c.put_shown.new.out; halt = c.put_shown.new.halt })) (sym c.in-Some.is)
    (c.put_shown.ensures.put lists (day_shown c.in-Some.n) unpaired left)
