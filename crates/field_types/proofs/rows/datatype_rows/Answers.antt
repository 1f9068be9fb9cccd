use Rattle.std.proofs.Common.{refl}
use Rattle.field_types.proofs.rows.datatype_rows.Goals as goal

pub returns-clause-number : goal.returns-clause-number
returns-clause-number c = refl

pub returns-clause-price : goal.returns-clause-price
returns-clause-price c = refl

pub returns-clause-exchange : goal.returns-clause-exchange
returns-clause-exchange c = refl

pub returns-clause-day : goal.returns-clause-day
returns-clause-day c = refl

pub returns-clause-bytes : goal.returns-clause-bytes
returns-clause-bytes c = refl

pub returns-clause-bare : goal.returns-clause-bare
returns-clause-bare c = refl

pub returns-clause-zone : goal.returns-clause-zone
returns-clause-zone c = refl

pub returns-clause-alone : goal.returns-clause-alone
returns-clause-alone c = refl

pub returns-clause-declared : goal.returns-clause-declared
returns-clause-declared c = refl

pub returns-clause-hidden : goal.returns-clause-hidden
returns-clause-hidden c = refl

pub returns-clause-characters : goal.returns-clause-characters
returns-clause-characters c = refl
