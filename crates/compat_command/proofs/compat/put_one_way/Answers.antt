use Rattle.schema_lines.proofs.Growing.{then_put}
use Rattle.compat_command.proofs.compat.put_one_way.Goals as goal

pub returns : goal.returns
returns c = then_put c.in_ok-put.ensures (then_put c.in_ok-put_json_text.ensures c.put-2.ensures)
