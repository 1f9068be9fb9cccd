use Rattle.map_rules.proofs.Asked.{is_first, first_is}
use Rattle.map_rules.proofs.laws.the_first_broken_rule_is_reported.Goals as goal

pub returns : goal.returns
returns c asked refusal = (is_first asked refusal, first_is asked refusal)
