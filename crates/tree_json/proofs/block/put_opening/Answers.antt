use Rattle.std.proofs.Common.{ap, arith}
use Rattle.tree_json.proofs.HeadText.{none_opened, some_opened}
use Rattle.printers.proofs.Printing.{reprinted}
use Rattle.tree_json.proofs.block.put_opening.Goals as goal

pub returns-then-count-eq0 : goal.returns-then-count-eq0
returns-then-count-eq0 g c = reprinted (none_opened c.args.block.now.groups (omega (arith, c.if-count-eq0.true, ap (λ r. r.1) c.counts-count.ensures))) c.put.ensures

pub returns : goal.returns
returns g c = reprinted (some_opened c.args.block.now.groups (omega (arith, c.if-count-eq0.false, ap (λ r. r.1) c.counts-count.ensures))) c.put-2.ensures
