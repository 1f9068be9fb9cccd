use Rattle.bridge_rules.proofs.BoundedRules.{bounded_sound}
use Rattle.bridge_rules.proofs.laws.rules_are_sound.Goals as goal

pub returns : goal.returns
returns c = bounded_sound
