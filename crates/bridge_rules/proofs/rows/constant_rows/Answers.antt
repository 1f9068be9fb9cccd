use Rattle.std.proofs.Common.{refl}
use Rattle.bridge_rules.proofs.Computing.{computing}
use Rattle.bridge_rules.proofs.rows.constant_rows.Goals as goal

pub returns-clause-number : goal.returns-clause-number
unfolding computing
returns-clause-number c = refl

pub returns-clause-number_text : goal.returns-clause-number_text
unfolding computing
returns-clause-number_text c = refl

pub returns-clause-shown : goal.returns-clause-shown
unfolding computing
returns-clause-shown c = refl

pub returns-clause-same : goal.returns-clause-same
unfolding computing
returns-clause-same c = refl

pub returns-clause-other : goal.returns-clause-other
unfolding computing
returns-clause-other c = refl

pub returns-clause-day : goal.returns-clause-day
unfolding computing
returns-clause-day c = refl

pub returns-clause-letter : goal.returns-clause-letter
unfolding computing
returns-clause-letter c = refl

pub returns-clause-words : goal.returns-clause-words
unfolding computing
returns-clause-words c = refl

pub returns-clause-longer : goal.returns-clause-longer
unfolding computing
returns-clause-longer c = refl

pub returns-clause-longer_char : goal.returns-clause-longer_char
unfolding computing
returns-clause-longer_char c = refl

pub returns-clause-soh : goal.returns-clause-soh
unfolding computing
returns-clause-soh c = refl

pub returns-clause-soh_char : goal.returns-clause-soh_char
unfolding computing
returns-clause-soh_char c = refl

pub returns-clause-code : goal.returns-clause-code
unfolding computing
returns-clause-code c = refl

pub returns-clause-other_code : goal.returns-clause-other_code
unfolding computing
returns-clause-other_code c = refl

pub returns-clause-code_decimal : goal.returns-clause-code_decimal
unfolding computing
returns-clause-code_decimal c = refl

pub returns-clause-missing : goal.returns-clause-missing
unfolding computing
returns-clause-missing c = refl
