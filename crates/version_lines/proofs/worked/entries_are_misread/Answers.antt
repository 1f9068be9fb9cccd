use Rattle.sbe_types.specs.declared.message.GroupVal.{items_hidden-the_row-Block-1}
use Rattle.version_lines.proofs.Computing.{computing}
use Rattle.version_lines.proofs.worked.entries_are_misread.Goals as goal

pub returns-clause-line : goal.returns-clause-line
unfolding computing
returns-clause-line c = simp items_hidden-the_row-Block-1

pub returns-clause-answer : goal.returns-clause-answer
unfolding computing
returns-clause-answer c = simp items_hidden-the_row-Block-1
