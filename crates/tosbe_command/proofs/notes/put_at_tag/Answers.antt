use Rattle.std.proofs.Common.{ap}
use Rattle.printers.proofs.Printing.{reprinted, then_prints}
use Rattle.refused_items.specs.Refused.{back_text}
use Rattle.tosbe_command.proofs.notes.put_at_tag.Goals as goal

pub returns : goal.returns
returns g c =
    then_prints c.put_refused_front.ensures (then_prints c.put.ensures (then_prints c.put_tag.ensures (reprinted (ap back_text c.as_bytes.ensures.value) c.put_refused_back.ensures)))
