use Rattle.bridge_plan.proofs.Translating.{covered_plan, covered_root, covered_placed, covered_sound, covered_shown, covered_again}
use Rattle.bridge_plan.proofs.laws.a_covered_level_has_a_plan.Goals as goal

pub returns-clause-whole : goal.returns-clause-whole
returns-clause-whole c = covered_plan

pub returns-clause-root : goal.returns-clause-root
returns-clause-root c = covered_root

pub returns-clause-placed : goal.returns-clause-placed
returns-clause-placed c = covered_placed

pub returns-clause-sound : goal.returns-clause-sound
returns-clause-sound c = covered_sound

pub returns-clause-shown : goal.returns-clause-shown
returns-clause-shown c = covered_shown

pub returns-clause-again : goal.returns-clause-again
returns-clause-again c = covered_again
