use Rattle.std.proofs.Common.{[], refl, subst}
use Rattle.replies.specs.declared.verdict.Verdict.TheVariants.{Answered}
use Rattle.replies.specs.declared.draft.Draft.{Draft}
use Rattle.command_steps.specs.Replies.{Drafted}
use Rattle.command_steps.proofs.Drafting.{drafted}
use Rattle.command_steps.proofs.Told.{answered_parts}
use Rattle.coverage_command.specs.Coverage.{IsCoverageReply, Pair}
use Rattle.coverage_command.proofs.Told.{lines_of}
use Rattle.coverage_command.proofs.check.CoverageCheckerWholeCommand.put.Goals as goal

pub returns : goal.returns
returns c =
    let after : Draft = record { output = c.put_checked.new.output; notes = c.args.draft.now.notes } in
    let pair : Pair = record { schema = c.self.inside.schema; repository = c.self.inside.repository } in
    subst (λ (p : Pair). Drafted (IsCoverageReply p) after c.put_checked.result) c.self.view_is
    (drafted (IsCoverageReply pair) (record { output = lines_of pair; notes = []; verdict = Answered }) (refl, refl, refl) (answered_parts 0) after c.args.draft.now.output.items c.requires.output c.requires.notes c.put_checked.result c.put_checked.ensures.lines c.put_checked.ensures.verdict)
