use Rattle.raw_walk.specs.Recalled.{held_at}
use Rattle.raw_walk.proofs.Remembered.{end_found}
use Rattle.raw_walk.proofs.ends.Ends.search.Goals as goal

pub returns-clause-ends : goal.returns-clause-ends
returns-clause-ends c =
    c.put.ensures (held_at c.args.place c.args.held.now) c.requires.ends (end_found c.args.place c.args.held.now c.args.from c.end_of_value-to.result c.if-to-held.false c.end_of_value-to.ensures)
