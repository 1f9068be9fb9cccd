use Rattle.std.proofs.Common.{◌≡◌, List, ℕ, refl, sym, subst}
use Rattle.sbe_types.specs.declared.schema.WireSchema.{WireSchema}
use Rattle.message_plans.specs.Plans.{IsOnly}
use Rattle.text_judge.specs.Judges.{HasBodyOf, IsJudge, IsJudgeFor, TextBody}
use Rattle.tosbe_command.specs.Bodies.{IsTextWithBody}
use Rattle.tosbe_command.specs.Bridges.{mapping_in, tags_in, BackBridge}
use Rattle.tosbe_command.proofs.TextBodies.{judge_for, text_with_body}
use Rattle.tosbe_command.proofs.answer.has_drafted.Goals as goal

-- by the layout, a template that alone has the MsgType, and the body of a text of it
abbrev HasOnlyBody : BackBridge → List ℕ → ℕ → TextBody → WireSchema → Type 0
HasOnlyBody b kind i of schema = (only : IsOnly kind schema.messages i) × HasBodyOf (mapping_in b) schema i only.level of

pub has_drafted_typed-requires : goal.has_drafted_typed-requires
has_drafted_typed-requires c = c.in-Some.ensures

pub returns-clause-body : goal.returns-clause-body
returns-clause-body c = λ yes.
    let b : BackBridge = record { schema = c.bridge.inside.files.checked; repository = c.bridge.inside.files.repository; frame = c.bridge.inside.frame } in
    let m = mapping_in b in
    let tags = tags_in b in
    let text = c.args.text.now in
    let layout = c.bridge.inside.ways.parts.layout in
    let judge = c.bridge.inside.ways.direct.judge in
    let kind = c.in-Some.front.kind.now in
    let i = c.in-Some-template_for.template in
    let body = c.has_drafted_typed.new.space.draft in
    let of : TextBody = record { tags = tags; text = text; body = body } in
    let laid = sym c.bridge.invariant.laid_out in
    let judged = subst (λ (s : WireSchema). IsJudge m s.messages tags judge) laid c.bridge.invariant.judged in
    let only : IsOnly kind layout.messages i = c.in-Some-template_for.ensures m layout.messages tags judged in
    let is = subst (λ (s : WireSchema). IsJudgeFor m s tags judge) laid (judge_for b judge c.bridge.invariant.good c.bridge.invariant.judged) in
    let has = subst (HasOnlyBody b kind i of) c.bridge.invariant.laid_out (only, c.has_drafted_typed.ensures.body yes m tags only is) in
    subst (λ (on : BackBridge). IsTextWithBody on text body) c.bridge.view_is (text_with_body b kind i has.0 of has.1 refl)
