use Rattle.std.proofs.Common.{arith}
use Rattle.schema_lines.specs.Lines.{message_line}
use Rattle.schema_lines.proofs.Growing.{texts_more}
use Rattle.schema_lines.proofs.messages.put_messages.Goals as goal

pub loop-message-preserved : goal.loop-message-preserved
loop-message-preserved c =
    texts_more message_line c.args.messages.now c.loop-message.message-index c.message-item.result c.args.out.now.items c.loop-message.out.items _ (omega arith) c.message-item.is c.loop-message.invariant c.in_ok-put_message.ensures.grown
