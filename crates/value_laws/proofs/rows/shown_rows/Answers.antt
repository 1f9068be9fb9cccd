use Rattle.std.proofs.Common.{refl}
use Rattle.std.specs.Fmt.{digits}
use Rattle.value_laws.proofs.rows.shown_rows.Goals as goal

pub returns-clause-whole : goal.returns-clause-whole
unfolding digits
returns-clause-whole c = refl

pub returns-clause-small : goal.returns-clause-small
unfolding digits
returns-clause-small c = refl

pub returns-clause-negative : goal.returns-clause-negative
unfolding digits
returns-clause-negative c = refl

pub returns-clause-moved : goal.returns-clause-moved
unfolding digits
returns-clause-moved c = refl

pub returns-clause-beyond : goal.returns-clause-beyond
returns-clause-beyond c = refl
