use Rattle.std.proofs.Common.{subst}
use Rattle.sbe_wire.specs.Faults.{FirstFault}
use Rattle.body_walk.specs.Refusals.{refused}
use Rattle.sbe_c.proofs.dumping.dump.Goals as goal

pub returns-in-Err-clause-refused : goal.returns-in-Err-clause-refused
returns-in-Err-clause-refused c =
    subst (λ schema. FirstFault schema (refused c.in-Err.refusal) c.args.body.now) c.layout.ensures c.in-Err.ensures.fault
