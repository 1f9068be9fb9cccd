use Rattle.schema_lines.proofs.Growing.{then_put}
use Rattle.schema_lines.proofs.messages.put_message.Goals as goal

pub returns : goal.returns
returns c =
    let name = rw c.as_slice.ensures at c.in_ok-put_json_text.ensures in
    let groups = rw c.in-Some.ensures.0 at c.in_ok-put_count-3.ensures in
    let parts = rw c.in-Some.ensures.1 at c.in_ok-put_count-4.ensures in
    then_put c.in_ok-put.ensures (then_put name (then_put c.in_ok-put-2.ensures (then_put c.in_ok-put_count.ensures
    (then_put c.in_ok-put-3.ensures (then_put c.in_ok-put_count-2.ensures (then_put c.in_ok-put-4.ensures (then_put groups (then_put c.in_ok-put-5.ensures (then_put parts c.put-6.ensures)))))))))
