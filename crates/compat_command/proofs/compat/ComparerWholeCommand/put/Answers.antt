use Rattle.std.proofs.Common.{[], refl, subst}
use Rattle.version_laws.specs.Answer.{compat}
use Rattle.replies.specs.declared.draft.Draft.{Draft}
use Rattle.command_steps.specs.Replies.{Drafted}
use Rattle.compat_command.specs.Compat.{Pair, IsCompatReply, compared_line, compared_verdict}
use Rattle.command_steps.proofs.Drafting.{drafted}
use Rattle.compat_command.proofs.Compared.{compared_parts}
use Rattle.compat_command.proofs.compat.ComparerWholeCommand.put.Goals as goal

pub returns : goal.returns
returns c =
    let after : Draft = record { output = c.put_compared.new.output; notes = c.args.draft.now.notes } in
    let pair : Pair = record { older = c.self.inside.older; newer = c.self.inside.newer } in
    let answer = compat pair.older pair.newer in
    subst (λ (p : Pair). Drafted (IsCompatReply p) after c.put_compared.result) c.self.view_is
    (drafted (IsCompatReply pair) (record { output = compared_line answer; notes = []; verdict = compared_verdict answer }) (refl, refl, refl) (compared_parts answer) after c.args.draft.now.output.items c.requires.output c.requires.notes c.put_compared.result c.put_compared.ensures.line c.put_compared.ensures.verdict)
