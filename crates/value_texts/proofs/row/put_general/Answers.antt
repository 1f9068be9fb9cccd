use Rattle.std.proofs.Common.{subst, sym, rules, FitsSigned}
use Rattle.std.specs.Int.{w128}
use Rattle.message_walk.specs.Rows.{field_of}
use Rattle.message_walk.specs.States.{IsPut}
use Rattle.value_texts.specs.Rows.{row_text, CanAskOf}
use Rattle.value_texts.specs.declared.row.TextRule.TheVariants as row
use Rattle.value_texts.proofs.Leaving.{whole}
use Rattle.value_texts.proofs.row.put_general.Goals as goal

pub returns-in-Number-clause-put : goal.returns-in-Number-clause-put
returns-in-Number-clause-put c = λ lists unpaired asks.
    subst (λ r. IsPut lists c.args.out.now c.args.lead.now (row_text r (field_of c.args.block.now c.args.number)) (record { put = c.number_at.result; draft = c.number_at.new.out; halt = c.number_at.new.halt })) (sym c.in-Number.is)
    (c.number_at.ensures.put lists unpaired (subst (λ r. CanAskOf r c.args.number c.args.block.now) c.in-Number.is asks))

pub returns-in-Choices-clause-put : goal.returns-in-Choices-clause-put
returns-in-Choices-clause-put c = λ lists unpaired asks.
    subst (λ r. IsPut lists c.args.out.now c.args.lead.now (row_text r (field_of c.args.block.now c.args.number)) (record { put = c.choices_at.result; draft = c.choices_at.new.out; halt = c.choices_at.new.halt })) (sym c.in-Choices.is)
    (c.choices_at.ensures.put lists unpaired (subst (λ r. CanAskOf r c.args.number c.args.block.now) c.in-Choices.is asks))

pub returns-in-Decimal-clause-put : goal.returns-in-Decimal-clause-put
returns-in-Decimal-clause-put c = λ lists unpaired asks.
    let fits : FitsSigned w128 c.in-Decimal.exponent = search rules in
    subst (λ r. IsPut lists c.args.out.now c.args.lead.now (row_text r (field_of c.args.block.now c.args.number)) (record { put = c.decimal_at.result; draft = c.decimal_at.new.out; halt = c.decimal_at.new.halt })) (sym c.in-Decimal.is)
    (whole (λ e. IsPut lists c.args.out.now c.args.lead.now (row_text (row.Decimal e) (field_of c.args.block.now c.args.number)) (record { put = c.decimal_at.result; draft = c.decimal_at.new.out; halt = c.decimal_at.new.halt })) c.in-Decimal.exponent fits (c.decimal_at.ensures.put lists unpaired))

pub returns-in-Floating-clause-put : goal.returns-in-Floating-clause-put
returns-in-Floating-clause-put c = λ lists unpaired asks.
    subst (λ r. IsPut lists c.args.out.now c.args.lead.now (row_text r (field_of c.args.block.now c.args.number)) (record { put = c.floating_at.result; draft = c.floating_at.new.out; halt = c.floating_at.new.halt })) (sym c.in-Floating.is)
    (c.floating_at.ensures.put lists unpaired)

pub returns-in-Passage-clause-put : goal.returns-in-Passage-clause-put
returns-in-Passage-clause-put c = λ lists unpaired asks.
    subst (λ r. IsPut lists c.args.out.now c.args.lead.now (row_text r (field_of c.args.block.now c.args.number)) (record { put = c.passage_at.result; draft = c.passage_at.new.out; halt = c.passage_at.new.halt })) (sym c.in-Passage.is)
    (c.passage_at.ensures.put lists unpaired)

pub returns-in-Day-clause-put : goal.returns-in-Day-clause-put
returns-in-Day-clause-put c = λ lists unpaired asks.
    subst (λ r. IsPut lists c.args.out.now c.args.lead.now (row_text r (field_of c.args.block.now c.args.number)) (record { put = c.day_at.result; draft = c.day_at.new.out; halt = c.day_at.new.halt })) (sym c.in-Day.is)
    (c.day_at.ensures.put lists unpaired)

pub returns-in-Moment-clause-put : goal.returns-in-Moment-clause-put
returns-in-Moment-clause-put c = λ lists unpaired asks.
    subst (λ r. IsPut lists c.args.out.now c.args.lead.now (row_text r (field_of c.args.block.now c.args.number)) (record { put = c.moment_at.result; draft = c.moment_at.new.out; halt = c.moment_at.new.halt })) (sym c.in-Moment.is)
    (c.moment_at.ensures.put lists unpaired)

pub returns-in-Month-clause-put : goal.returns-in-Month-clause-put
returns-in-Month-clause-put c = λ lists unpaired asks.
    subst (λ r. IsPut lists c.args.out.now c.args.lead.now (row_text r (field_of c.args.block.now c.args.number)) (record { put = c.month_at.result; draft = c.month_at.new.out; halt = c.month_at.new.halt })) (sym c.in-Month.is)
    (c.month_at.ensures.put lists unpaired)

pub returns-in-Const-clause-put : goal.returns-in-Const-clause-put
returns-in-Const-clause-put c = λ lists unpaired asks.
    subst (λ r. IsPut lists c.args.out.now c.args.lead.now (row_text r (field_of c.args.block.now c.args.number)) (record { put = c.constant_at.result; draft = c.constant_at.new.out; halt = c.constant_at.new.halt })) (sym c.in-Const.is)
    (c.constant_at.ensures.put lists unpaired)
