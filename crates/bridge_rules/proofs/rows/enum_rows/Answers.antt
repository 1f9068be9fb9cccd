use Rattle.std.proofs.Common.{refl}
use Rattle.bridge_rules.proofs.Computing.{computing}
use Rattle.bridge_rules.proofs.rows.enum_rows.Goals as goal

pub returns-clause-char : goal.returns-clause-char
unfolding computing
returns-clause-char c = refl

pub returns-clause-number : goal.returns-clause-number
unfolding computing
returns-clause-number c = refl

pub returns-clause-digits : goal.returns-clause-digits
unfolding computing
returns-clause-digits c = refl

pub returns-clause-letters : goal.returns-clause-letters
unfolding computing
returns-clause-letters c = refl

pub returns-clause-shown : goal.returns-clause-shown
unfolding computing
returns-clause-shown c = refl

pub returns-clause-read : goal.returns-clause-read
unfolding computing
returns-clause-read c = refl

pub returns-clause-zero : goal.returns-clause-zero
unfolding computing
returns-clause-zero c = refl

pub returns-clause-yes : goal.returns-clause-yes
unfolding computing
returns-clause-yes c = refl

pub returns-clause-yes_text : goal.returns-clause-yes_text
unfolding computing
returns-clause-yes_text c = refl

pub returns-clause-other : goal.returns-clause-other
unfolding computing
returns-clause-other c = refl

pub returns-clause-twice : goal.returns-clause-twice
unfolding computing
returns-clause-twice c = refl
