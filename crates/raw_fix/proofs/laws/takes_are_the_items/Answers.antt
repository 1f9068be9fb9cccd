use Rattle.raw_fix.proofs.TakeLemmas.{takes_are_items}
use Rattle.raw_fix.proofs.laws.takes_are_the_items.Goals as goal

pub returns : goal.returns
returns c = takes_are_items
