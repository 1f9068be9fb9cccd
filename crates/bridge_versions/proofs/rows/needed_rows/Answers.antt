use Rattle.sbe_types.specs.declared.message.GroupVal.{items_hidden-the_row-Block-1}
use Rattle.std.proofs.Common.{refl}
use Rattle.bridge_versions.proofs.Computing.{computing}
use Rattle.bridge_versions.proofs.rows.needed_rows.Goals as goal

pub returns-clause-grown : goal.returns-clause-grown
unfolding computing
returns-clause-grown c = refl

pub returns-clause-number : goal.returns-clause-number
unfolding computing
returns-clause-number c = refl

pub returns-clause-listed : goal.returns-clause-listed
unfolding computing
returns-clause-listed c = refl

pub returns-clause-short : goal.returns-clause-short
unfolding computing
returns-clause-short c = refl

pub returns-clause-no_group : goal.returns-clause-no_group
unfolding computing
returns-clause-no_group c = refl

pub returns-clause-some_entries : goal.returns-clause-some_entries
unfolding computing
returns-clause-some_entries c = refl

pub returns-clause-entry : goal.returns-clause-entry
unfolding computing
returns-clause-entry c = simp items_hidden-the_row-Block-1

pub returns-clause-entry_lacks : goal.returns-clause-entry_lacks
unfolding computing
returns-clause-entry_lacks c = simp items_hidden-the_row-Block-1

pub returns-clause-data : goal.returns-clause-data
unfolding computing
returns-clause-data c = refl

pub returns-clause-some_data : goal.returns-clause-some_data
unfolding computing
returns-clause-some_data c = refl
