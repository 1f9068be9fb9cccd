use Rattle.std.proofs.Common.{sym, subst}
use Rattle.version_project.proofs.PlainTells.{Tells, message_tells}
use Rattle.version_laws.specs.Plain.{Plain}
use Rattle.version_project.proofs.plain_messages.is_plain.Goals as goal

pub returns : goal.returns
returns c =
    subst (λ b. Tells b (Plain c.args.old.now c.args.new.now c.args.msg.now)) (sym c.plain_root.ensures)
    (message_tells c.args.old.now c.args.new.now c.args.msg.now c.at.result.now c.at.ensures)
