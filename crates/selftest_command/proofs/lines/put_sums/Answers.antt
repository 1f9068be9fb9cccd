use Rattle.schema_lines.proofs.Growing.{then_put}
use Rattle.selftest_command.proofs.lines.put_sums.Goals as goal

pub returns : goal.returns
returns c =
    then_put c.in_ok-put.ensures (then_put c.in_ok-put_count.ensures (then_put c.in_ok-put-2.ensures (then_put c.in_ok-put_count-2.ensures
    (then_put c.in_ok-put-3.ensures (then_put c.in_ok-put_count-3.ensures (then_put c.in_ok-put-4.ensures (then_put c.in_ok-put_count-4.ensures
    (then_put c.in_ok-put-5.ensures (then_put c.in_ok-put_count-5.ensures c.put-6.ensures)))))))))
