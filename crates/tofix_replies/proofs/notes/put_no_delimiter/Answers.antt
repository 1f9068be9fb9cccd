use Rattle.printers.proofs.Printing.{then_prints}
use Rattle.tofix_replies.proofs.notes.put_no_delimiter.Goals as goal

pub returns-clause-text : goal.returns-clause-text
returns-clause-text g c = λ lists p rows.
    then_prints c.put_refused_front.ensures (then_prints c.put.ensures (then_prints (c.put_way.ensures.text lists p rows) c.put_refused_back.ensures))
