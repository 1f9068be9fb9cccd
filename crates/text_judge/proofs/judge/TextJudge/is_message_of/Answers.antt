use Rattle.std.proofs.Common.{refl, sym, subst}
use Rattle.bridge_plan.specs.Covers.{plan_of}
use Rattle.message_plans.specs.Plans.{IsCover, IsMapped}
use Rattle.message_walk.specs.Rows.{AreRows}
use Rattle.value_texts.specs.Rows.{Spells}
use Rattle.value_texts.specs.declared.row.ValueText.{ValueText}
use Rattle.fix_messages.specs.declared.text.MessageRows.{MessageRows}
use Rattle.fix_messages.specs.Heads.{head_of}
use Rattle.text_judge.specs.Judges.{TextBody}
use Rattle.text_judge.proofs.Judging.{IsFoundFor, has_body, head_good}
use Rattle.text_judge.proofs.judge.TextJudge.is_message_of.Goals as goal

pub returns : goal.returns
returns c = λ yes m tags only is.
    let schema = c.args.layout.now in
    let judge = c.args.self.now in
    let text = c.args.text.now in
    let kind = text.front.kind.now in
    let of : TextBody = record { tags = tags; text = text.text.now; body = c.args.body.now } in
    let rows = c.in-Mapped.mapped.items in
    let mapped : IsMapped Spells m only.level rows = subst (IsCover Spells m only.level) c.in-Mapped.is (c.cover.ensures m schema.messages only.level is.own.plans only.there) in
    let placed : AreRows Spells m.lists (plan_of m mapped.structure only.level) c.as_slice-rows.result.now =
    subst (AreRows Spells m.lists (plan_of m mapped.structure only.level)) (sym c.as_slice-rows.ensures.value) mapped.rows in
    let found : IsFoundFor m text.template only.level judge rows = record {
      mapped = mapped;
      clear = c.are_clear.ensures m.lists (plan_of m mapped.structure only.level) _ _ _ placed mapped.fits;
      tagged = c.are_tagged.ensures m.lists (plan_of m mapped.structure only.level) placed;
      paired = c.if-not-self.false;
      marked = c.if-not-is_exact.ensures refl;
    } in
    let own : MessageRows ValueText = record { msg_type = text.front.kind; rows = c.as_slice-rows.result } in
    has_body m schema text.template judge of kind rows is only found own refl c.as_slice-rows.ensures.value (head_of text.front.head)
    (head_good m schema text.template judge of kind rows is only found text.front refl c.requires)
    (c.is_body_of_text.ensures yes)
