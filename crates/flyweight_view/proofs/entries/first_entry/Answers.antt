use Rattle.flyweight_view.proofs.Nexts.{first_seen}
use Rattle.flyweight_view.proofs.entries.first_entry.Goals as goal

pub new-requires : goal.new-requires
new-requires c = first_seen c.args.layer.now c.args.left c.requires.lie c.requires.some c.requires.layer
