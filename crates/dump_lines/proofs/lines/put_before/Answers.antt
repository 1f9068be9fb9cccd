use Rattle.std.proofs.Common.{sym, ◌∙◌}
use Rattle.printers.proofs.Printing.{then_prints, reprinted}
use Rattle.dump_lines.proofs.Answered.{before_several}
use Rattle.dump_lines.proofs.lines.put_before.Goals as goal

pub returns : goal.returns
returns g c =
    reprinted (before_several c.args.schemas.now.also c.args.id (sym c.is_empty.ensures ∙ c.if-is_empty.false))
    (then_prints c.put.ensures (then_prints c.put_count.ensures c.put-2.ensures))
