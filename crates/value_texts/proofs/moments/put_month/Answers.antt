use Rattle.std.proofs.Common.{subst, sym, ◌∙◌}
use Rattle.bridge_rules.specs.Members.{month_in}
use Rattle.bridge_rules.specs.Texts.{field_text, month_text}
use Rattle.value_texts.specs.FieldViews.{members_seen}
use Rattle.value_texts.proofs.Plain.{month_plain, value_of_plain}
use Rattle.bridge_rules.specs.Texts.{text_if_any}
use Rattle.message_walk.specs.States.{IsPut}
use Rattle.value_texts.proofs.Leaving.{leaves_value}
use Rattle.value_texts.proofs.moments.put_month.Goals as goal

pub put_shown-requires-clause-value : goal.put_shown-requires-clause-value
put_shown-requires-clause-value c =
    let left = c.show_month_of-shown.ensures in
    leaves_value c.show_month_of-shown.result c.show_month_of-shown.new.out (month_text c.month_of.result) left (λ t h. value_of_plain t (month_plain c.month_of.result t h))

pub returns-in-Some-clause-put : goal.returns-in-Some-clause-put
returns-in-Some-clause-put c = λ lists unpaired.
    let left = c.show_month_of-shown.ensures in
    subst (λ o. IsPut lists c.args.out.now c.args.lead.now (text_if_any o (λ year. month_text (month_in (members_seen c.args.members.now)))) (record { put = c.put_shown.result; draft = c.put_shown.new.out; halt = c.put_shown.new.halt }))
    (sym (c.member_number.ensures ∙ c.in-Some.is))
    (subst (λ m. IsPut lists c.args.out.now c.args.lead.now (field_text (month_text m)) (record { put = c.put_shown.result; draft = c.put_shown.new.out; halt = c.put_shown.new.halt })) (sym c.month_of.ensures)
    (c.put_shown.ensures.put lists (month_text c.month_of.result) unpaired left))
