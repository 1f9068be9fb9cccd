use Rattle.std.proofs.Common.{sym}
use Rattle.flyweight_view.proofs.Nexts.{last_lies, last_seen}
use Rattle.flyweight_view.proofs.ends.others_of.Goals as goal

pub returns-then-left-eq1-clause-lie : goal.returns-then-left-eq1-clause-lie
returns-then-left-eq1-clause-lie c = last_lies c.args.layer.now c.args.left c.requires.lie c.requires.some c.if-left-eq1.true

pub returns-then-left-eq1-clause-seen : goal.returns-then-left-eq1-clause-seen
returns-then-left-eq1-clause-seen c = last_seen c.args.layer.now c.args.left c.requires.lie c.requires.some c.if-left-eq1.true

pub flat_behind-requires-clause-flat : goal.flat_behind-requires-clause-flat
flat_behind-requires-clause-flat c = sym (c.if-is_flat.ensures)
