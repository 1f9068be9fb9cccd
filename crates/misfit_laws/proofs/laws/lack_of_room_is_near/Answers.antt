use Rattle.misfit_laws.proofs.Ways.{full_of_all}
use Rattle.misfit_laws.proofs.Wanted.{full_near, full_detail}
use Rattle.misfit_laws.proofs.laws.lack_of_room_is_near.Goals as goal

pub returns-clause-all : goal.returns-clause-all
returns-clause-all c = full_of_all

pub returns-clause-near : goal.returns-clause-near
returns-clause-near c = full_near

pub returns-clause-small : goal.returns-clause-small
returns-clause-small c = full_detail
