use Rattle.printers.proofs.Printing.{then_prints, reprinted}
use Rattle.regrade_command.proofs.CopyAnswers.{head_is}
use Rattle.regrade_command.proofs.copies.put_copy.Goals as goal

pub returns : goal.returns
returns g c =
    reprinted (head_is c.args.encoding c.args.copy.now.header.now c.args.copy.now.rest.now _ c.put_head.ensures.bytes)
    (then_prints c.put.ensures (then_prints c.put-2.ensures c.put-3.ensures))
