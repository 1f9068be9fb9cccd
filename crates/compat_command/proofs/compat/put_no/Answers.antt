use Rattle.schema_lines.proofs.Growing.{then_put}
use Rattle.compat_command.proofs.compat.put_no.Goals as goal

pub returns : goal.returns
returns c =
    let name = rw (c.as_bytes.ensures.value, c.reason_name.ensures) at c.in_ok-put-3.ensures in
    then_put c.in_ok-put.ensures (then_put c.in_ok-put_json_text.ensures (then_put c.in_ok-put-2.ensures (then_put name c.put-4.ensures)))
