use Rattle.std.proofs.Common.{subst, sym, ◌∙◌, rules, FitsSigned}
use Rattle.std.specs.Int.{w128}
use Rattle.bridge_rules.specs.Texts.{field_text, moment_text}
use Rattle.bridge_table.specs.Rows.{epoch_of}
use Rattle.value_texts.specs.FieldViews.{members_seen, unit_seen}
use Rattle.value_texts.proofs.Plain.{moment_plain, value_of_plain}
use Rattle.fix_values.specs.Values.{Leaves}
use Rattle.bridge_rules.specs.Texts.{text_if_any}
use Rattle.message_walk.specs.States.{IsPut}
use Rattle.value_texts.proofs.Leaving.{leaves_value, whole}
use Rattle.value_texts.proofs.moments.put_moment.Goals as goal

pub put_shown-requires-clause-value : goal.put_shown-requires-clause-value
put_shown-requires-clause-value c =
    let fits : FitsSigned w128 c.in-Some.n = search rules in
    let left = whole (λ n. Leaves c.show_moment-shown.result c.show_moment-shown.new.out (moment_text (epoch_of c.args.epoch) c.unit_of.result n)) c.in-Some.n fits c.show_moment-shown.ensures in
    leaves_value c.show_moment-shown.result c.show_moment-shown.new.out (moment_text (epoch_of c.args.epoch) c.unit_of.result c.in-Some.n) left (λ t h. value_of_plain t (moment_plain (epoch_of c.args.epoch) c.unit_of.result c.in-Some.n t h))

pub returns-in-Some-clause-put : goal.returns-in-Some-clause-put
returns-in-Some-clause-put c = λ lists unpaired.
    let fits : FitsSigned w128 c.in-Some.n = search rules in
    let left = whole (λ n. Leaves c.show_moment-shown.result c.show_moment-shown.new.out (moment_text (epoch_of c.args.epoch) c.unit_of.result n)) c.in-Some.n fits c.show_moment-shown.ensures in
    subst (λ o. IsPut lists c.args.out.now c.args.lead.now (text_if_any o (λ n. moment_text (epoch_of c.args.epoch) (unit_seen c.args.unit.now (members_seen c.args.members.now)) n)) (record { put = c.put_shown.result; draft = c.put_shown.new.out; halt = c.put_shown.new.halt }))
    (sym (c.member_number.ensures ∙ c.in-Some.is))
    (subst (λ told. IsPut lists c.args.out.now c.args.lead.now (field_text told) (record { put = c.put_shown.result; draft = c.put_shown.new.out; halt = c.put_shown.new.halt })) (sym (c.unit_of.ensures (epoch_of c.args.epoch) c.in-Some.n))
    (c.put_shown.ensures.put lists (moment_text (epoch_of c.args.epoch) c.unit_of.result c.in-Some.n) unpaired left))
