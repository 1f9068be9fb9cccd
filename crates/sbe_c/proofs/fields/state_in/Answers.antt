use Rattle.std.proofs.Common.{subst}
use Rattle.sbe_wire.specs.Faults.{FirstFault}
use Rattle.body_walk.specs.Refusals.{refused}
use Rattle.sbe_c.proofs.fields.state_in.Goals as goal

pub returns-in-Err : goal.returns-in-Err
returns-in-Err c = record {
  fault = refused c.in-Err.refusal;
  first = subst (λ schema. FirstFault schema (refused c.in-Err.refusal) c.args.body.now) c.layout.ensures c.in-Err.ensures.fault;
  code_told = c.tell_fault.ensures.code;
  offset_told = c.tell_fault.ensures.offset;
}
