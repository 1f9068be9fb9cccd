use Rattle.std.proofs.Common.{◌∙◌, sym, ap, subst, arith}
use Rattle.fix_messages.specs.Heads.{IsHeadReady}
use Rattle.tofix_replies.specs.ToFix.{given_head, text_limit}
use Rattle.tofix_command.specs.Bridges.{words_in}
use Rattle.tofix_command.specs.Planned.{schemas_of}
use Rattle.tofix_command.proofs.Heads.{head_ready}
use Rattle.tofix_command.proofs.Loaded.{made_with}
use Rattle.tofix_command.proofs.loading.translator_of.Goals as goal

pub over-requires-clause-ready : goal.over-requires-clause-ready
over-requires-clause-ready c = subst IsHeadReady (sym c.in-Ok.ensures.head) (head_ready c.args.words.now.head.now c.requires.head)

pub over-requires-clause-limit : goal.over-requires-clause-limit
over-requires-clause-limit c = c.in-Ok.ensures.limit ∙ ap text_limit (sym c.in-Ok.ensures.frame)

pub returns-in-Ok : goal.returns-in-Ok
returns-in-Ok c =
    made_with (words_in c.args.words.now) (schemas_of c.args.schemas) c.args.repository c.over.result (given_head c.in-Ok.desk.head) c.in-Ok.desk.frame c.over.ensures c.in-Ok.ensures.head
    c.in-Ok.ensures.frame
