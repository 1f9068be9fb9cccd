use Rattle.printers.proofs.Printing.{then_prints, reprinted}
use Rattle.std.proofs.Common.{ap, ◌∙◌}
use Rattle.refused_items.specs.Refused.{back_text}
use Rattle.tofix_replies.proofs.notes.put_no_text.Goals as goal

pub returns-clause-text : goal.returns-clause-text
returns-clause-text g c = λ lists p rows.
    then_prints c.put_refused_front.ensures (then_prints c.put.ensures (then_prints (c.put_way.ensures.text lists p rows)
    (reprinted (ap back_text (c.as_bytes.ensures.value ∙ c.value_code.ensures)) c.put_refused_back.ensures)))
