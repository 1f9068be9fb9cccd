use Rattle.printers.proofs.Printing.{then_prints, reprinted}
use Rattle.build_command.proofs.Answering.{head_is}
use Rattle.build_command.proofs.built.put_frame.Goals as goal

pub returns : goal.returns
returns g c = reprinted (head_is c.args.encoding c.args.body.now _ c.put_head.ensures.bytes) (then_prints c.put.ensures c.put-2.ensures)
