use Rattle.bridge_rules.proofs.TableRules.{rule_kept}
use Rattle.bridge_rules.proofs.laws.rules_of_checked_kinds_are_bounded.Goals as goal

pub returns : goal.returns
returns c = rule_kept
