use Rattle.std.proofs.Common.{subst}
use Rattle.sbe_wire.specs.Faults.{FirstFault}
use Rattle.body_walk.specs.Refusals.{refused}
use Rattle.sbe_c.proofs.reading.numbers_in.Goals as goal

pub returns-in-Err-Refused : goal.returns-in-Err-Refused
returns-in-Err-Refused c = record {
  fault = refused c.in-Err-Refused.refusal;
  first = subst (λ schema. FirstFault schema (refused c.in-Err-Refused.refusal) c.args.body.now) c.layout.ensures (rw c.in-Err-Refused.field-0-is at c.in-Err-Refused.ensures.refused);
  code_told = c.tell_fault.ensures.code;
  offset_told = c.tell_fault.ensures.offset;
}
