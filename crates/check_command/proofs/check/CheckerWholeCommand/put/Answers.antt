use Rattle.std.proofs.Common.{[], refl, subst}
use Rattle.sbe_types.specs.declared.schema.WireSchema.{WireSchema}
use Rattle.schema_lines.specs.Lines.{message_lines}
use Rattle.replies.specs.declared.verdict.Verdict.TheVariants.{Answered}
use Rattle.replies.specs.declared.draft.Draft.{Draft}
use Rattle.command_steps.specs.Replies.{Drafted}
use Rattle.check_command.specs.Check.{IsCheckReply}
use Rattle.command_steps.proofs.Drafting.{drafted}
use Rattle.command_steps.proofs.Told.{answered_parts}
use Rattle.check_command.proofs.check.CheckerWholeCommand.put.Goals as goal

pub returns : goal.returns
returns c =
    let after : Draft = record { output = c.put_checked.new.output; notes = c.args.draft.now.notes } in
    subst (λ (s : WireSchema). Drafted (IsCheckReply s) after c.put_checked.result) c.self.view_is
    (drafted (IsCheckReply c.self.inside.schema) (record { output = message_lines c.self.inside.schema.messages; notes = []; verdict = Answered }) (refl, refl, refl) (answered_parts 0) after c.args.draft.now.output.items c.requires.output c.requires.notes c.put_checked.result c.put_checked.ensures.lines c.put_checked.ensures.verdict)
