use Rattle.std.proofs.Common.{sym, subst}
use Rattle.sbe_wire.specs.Faults.{FirstFault}
use Rattle.flyweight_view.proofs.view.validate.Goals as goal

pub returns-in-None-clause-fault : goal.returns-in-None-clause-fault
returns-in-None-clause-fault c = subst (λ f. FirstFault c.args.layout.now f c.args.body.now) (sym c.refusal.ensures.fault) c.in-None.ensures.fault
