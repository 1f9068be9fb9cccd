use Rattle.std.proofs.Common.{refl}
use Rattle.value_laws.proofs.rows.read_rows.Goals as goal

pub returns-clause-zeros : goal.returns-clause-zeros
returns-clause-zeros c = refl

pub returns-clause-point_first : goal.returns-clause-point_first
returns-clause-point_first c = refl

pub returns-clause-point_last : goal.returns-clause-point_last
returns-clause-point_last c = refl

pub returns-clause-zero : goal.returns-clause-zero
returns-clause-zero c = refl

pub returns-clause-sign_alone : goal.returns-clause-sign_alone
returns-clause-sign_alone c = refl

pub returns-clause-two_points : goal.returns-clause-two_points
returns-clause-two_points c = refl

pub returns-clause-nines : goal.returns-clause-nines
returns-clause-nines c = refl

pub returns-clause-one_more : goal.returns-clause-one_more
returns-clause-one_more c = refl
