use Rattle.std.proofs.Common.{rules}
use Rattle.json_values.proofs.Numbers.{long_number}
use Rattle.json_values.proofs.values.put_middle.Goals as goal

pub returns-else-n-lt10000 : goal.returns-else-n-lt10000
returns-else-n-lt10000 g c = long_number c.args.n c.if-n-lt10000.false (search rules) c.put_long.ensures
