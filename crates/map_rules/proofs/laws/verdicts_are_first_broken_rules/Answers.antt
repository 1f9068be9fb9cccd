use Rattle.map_rules.proofs.Asked.{verdict_asked}
use Rattle.map_rules.proofs.laws.verdicts_are_first_broken_rules.Goals as goal

pub returns : goal.returns
returns c = verdict_asked
