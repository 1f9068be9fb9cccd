use Rattle.schema_lines.proofs.Growing.{then_put}
use Rattle.coverage_command.proofs.lines.put_covered.Goals as goal

pub returns : goal.returns
returns c = λ m levels are at. then_put c.in_ok-put_message.ensures (c.put_cover.ensures m (c.cover.ensures m levels c.args.level.now are at))
