use Rattle.std.proofs.Common.{refl}
use Rattle.bridge_rules.proofs.Computing.{computing}
use Rattle.bridge_rules.proofs.rows.enum_code_rows.Goals as goal

pub returns-clause-covered : goal.returns-clause-covered
unfolding computing
returns-clause-covered c = refl

pub returns-clause-decimal : goal.returns-clause-decimal
unfolding computing
returns-clause-decimal c = refl

pub returns-clause-one_text : goal.returns-clause-one_text
unfolding computing
returns-clause-one_text c = refl

pub returns-clause-by_name : goal.returns-clause-by_name
unfolding computing
returns-clause-by_name c = refl

pub returns-clause-by_number : goal.returns-clause-by_number
unfolding computing
returns-clause-by_number c = refl

pub returns-clause-without : goal.returns-clause-without
unfolding computing
returns-clause-without c = refl

pub returns-clause-read : goal.returns-clause-read
unfolding computing
returns-clause-read c = refl

pub returns-clause-strange : goal.returns-clause-strange
unfolding computing
returns-clause-strange c = refl
