use Rattle.std.proofs.Common.{refl}
use Rattle.bridge_rules.proofs.Computing.{computing}
use Rattle.bridge_rules.proofs.rows.text_rows.Goals as goal

pub returns-clause-char : goal.returns-clause-char
unfolding computing
returns-clause-char c = refl

pub returns-clause-char_text : goal.returns-clause-char_text
unfolding computing
returns-clause-char_text c = refl

pub returns-clause-char_number : goal.returns-clause-char_number
unfolding computing
returns-clause-char_number c = refl

pub returns-clause-byte : goal.returns-clause-byte
unfolding computing
returns-clause-byte c = refl

pub returns-clause-soh : goal.returns-clause-soh
unfolding computing
returns-clause-soh c = refl

pub returns-clause-two : goal.returns-clause-two
unfolding computing
returns-clause-two c = refl

pub returns-clause-array : goal.returns-clause-array
unfolding computing
returns-clause-array c = refl

pub returns-clause-array_char : goal.returns-clause-array_char
unfolding computing
returns-clause-array_char c = refl

pub returns-clause-array_data : goal.returns-clause-array_data
unfolding computing
returns-clause-array_data c = refl

pub returns-clause-empty : goal.returns-clause-empty
unfolding computing
returns-clause-empty c = refl

pub returns-clause-long : goal.returns-clause-long
unfolding computing
returns-clause-long c = refl

pub returns-clause-bad : goal.returns-clause-bad
unfolding computing
returns-clause-bad c = refl
