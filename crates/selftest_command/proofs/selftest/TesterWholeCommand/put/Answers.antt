use Rattle.std.proofs.Common.{[], refl, subst}
use Rattle.replies.specs.declared.verdict.Verdict.TheVariants.{Answered}
use Rattle.replies.specs.declared.draft.Draft.{Draft}
use Rattle.command_steps.specs.Replies.{Drafted}
use Rattle.command_steps.proofs.Drafting.{drafted}
use Rattle.command_steps.proofs.Told.{answered_parts}
use Rattle.selftest_command.specs.Tests.{Testing, IsSelftestReply}
use Rattle.selftest_command.proofs.Tested.{test_line}
use Rattle.selftest_command.proofs.selftest.TesterWholeCommand.put.Goals as goal

pub returns : goal.returns
returns c =
    let after : Draft = record { output = c.put_trial.new.output; notes = c.args.draft.now.notes } in
    let test : Testing = record { schema = c.self.inside.checked; trial = c.self.inside.trial } in
    subst (λ (t : Testing). Drafted (IsSelftestReply t) after c.put_trial.result) c.self.view_is
    (drafted (IsSelftestReply test) (record { output = test_line test; notes = []; verdict = Answered }) (refl, refl, refl) (answered_parts 0) after c.args.draft.now.output.items c.requires.output c.requires.notes c.put_trial.result c.put_trial.ensures.line c.put_trial.ensures.verdict)
