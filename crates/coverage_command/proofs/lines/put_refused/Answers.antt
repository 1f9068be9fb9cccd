use Rattle.schema_lines.proofs.Growing.{then_put}
use Rattle.coverage_command.proofs.lines.put_refused.Goals as goal

pub returns : goal.returns
returns c =
    let name = rw c.as_slice.ensures at c.in_ok-put_json_text.ensures in
    let code = rw c.as_bytes.ensures.value at c.in_ok-put-3.ensures in
    let path = rw (c.as_slice-2.ensures.value, c.in_ok-path.ensures) at c.in_ok-put_json_text-2.ensures in
    then_put c.in_ok-put.ensures (then_put name (then_put c.in_ok-put-2.ensures (then_put code (then_put c.in_ok-put-4.ensures (then_put path c.put-5.ensures)))))
