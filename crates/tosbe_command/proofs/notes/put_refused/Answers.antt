use Rattle.std.proofs.Common.{ap}
use Rattle.std.specs.Prelude.{codes}
use Rattle.printers.proofs.Printing.{reprinted}
use Rattle.refused_items.specs.Refused.{refused_line}
use Rattle.tosbe_command.specs.Unsent.{at_tag}
use Rattle.tosbe_command.proofs.notes.put_refused.Goals as goal

pub returns-in-Unreadable : goal.returns-in-Unreadable
returns-in-Unreadable g c =
    rw c.in-Unreadable.is
    (reprinted (ap (λ detail. refused_line c.args.item (at_tag (codes "B03") c.in-Unreadable.tag detail)) c.value_code.ensures) c.put_at_tag.ensures)
