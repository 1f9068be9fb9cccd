use Rattle.sbe_types.specs.declared.message.Value.{items_hidden-the_row-Value-0}
use Rattle.std.proofs.Common.{refl, inl}
use Rattle.bridge_versions.proofs.Computing.{computing}
use Rattle.bridge_versions.proofs.rows.far_rows.Goals as goal

pub returns-clause-read : goal.returns-clause-read
unfolding computing
returns-clause-read c = refl

pub returns-clause-near : goal.returns-clause-near
unfolding computing
returns-clause-near c = simp items_hidden-the_row-Value-0

pub returns-clause-far : goal.returns-clause-far
unfolding computing
returns-clause-far c = simp items_hidden-the_row-Value-0

pub returns-clause-within : goal.returns-clause-within
unfolding computing
returns-clause-within c = simp items_hidden-the_row-Value-0

pub returns-clause-told : goal.returns-clause-told
unfolding computing
returns-clause-told c = inl (refl, simp items_hidden-the_row-Value-0)
