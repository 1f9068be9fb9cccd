use Rattle.open_framing.specs.declared.head.TheConstants.{TAG_VALUE}
use Rattle.printers.proofs.Printing.{then_prints, reprinted}
use Rattle.raw_steps.proofs.Replied.{head_is}
use Rattle.raw_steps.proofs.lines.put_frame.Goals as goal

pub returns : goal.returns
returns g c = reprinted (head_is TAG_VALUE c.args.text.now _ c.put_head.ensures.bytes) (then_prints c.put.ensures c.put-2.ensures)
