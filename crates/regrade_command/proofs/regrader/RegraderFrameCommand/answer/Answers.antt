use Rattle.std.proofs.Common.{inr, refl, subst}
use Rattle.open_framing.specs.Frames.{Item}
use Rattle.regrade_command.specs.Regrade.{Regrading, IsRegradeReply, regrade_reply}
use Rattle.regrade_command.proofs.Replied.{is_regraded, regrade_parts, may_want}
use Rattle.regrade_command.proofs.regrader.RegraderFrameCommand.answer.Goals as goal

pub returns-then-body-self-clause-replied : goal.returns-then-body-self-clause-replied
returns-then-body-self-clause-replied g c =
    let on : Regrading = record { pair = c.self.inside.pair; frame = c.self.inside.frame } in
    let item : Item = record { encoding = c.args.encoding; body = c.args.body.now } in
    let reply = regrade_reply on c.args.kept.now.items item in (
      reply,
      subst (λ (r : Regrading). IsRegradeReply r c.args.kept.now item reply) c.self.view_is (is_regraded on c.args.kept.now.items item c.self.invariant.0),
      regrade_parts on c.args.kept.now.items item c.self.invariant.0,
      inr (refl, refl),
    )

pub returns-clause-replied : goal.returns-clause-replied
returns-clause-replied g c =
    let on : Regrading = record { pair = c.self.inside.pair; frame = c.self.inside.frame } in
    let item : Item = record { encoding = c.args.encoding; body = c.args.body.now } in
    let reply = regrade_reply on c.args.kept.now.items item in (
      reply,
      subst (λ (r : Regrading). IsRegradeReply r c.args.kept.now item reply) c.self.view_is (is_regraded on c.args.kept.now.items item c.self.invariant.0),
      regrade_parts on c.args.kept.now.items item c.self.invariant.0,
      c.answer_frame.ensures.answers c.self.inside.frame c.self.invariant.2,
    )

pub returns-clause-wants : goal.returns-clause-wants
returns-clause-wants g c = may_want c.answer_frame.result
