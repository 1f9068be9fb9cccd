use Rattle.printers.proofs.Printing.{then_prints}
use Rattle.schema_files.proofs.refusal.put_refused.Goals as goal

pub returns : goal.returns
returns g c =
    let code = rw c.as_bytes.ensures.value at c.put-3.ensures in
    then_prints c.put.ensures (then_prints c.put_role.ensures (then_prints c.put-2.ensures (then_prints code (then_prints c.put-4.ensures (then_prints c.put_text.ensures c.put-5.ensures)))))
