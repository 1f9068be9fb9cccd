-- `check` has one reply.
use Rattle.std.proofs.Common.{[], refl}
use Rattle.sbe_types.specs.declared.schema.WireSchema.{WireSchema}
use Rattle.schema_lines.specs.Lines.{message_lines}
use Rattle.replies.specs.declared.verdict.Verdict.TheVariants.{Answered}
use Rattle.command_steps.specs.Replies.{by_whole}
use Rattle.command_steps.proofs.Folding.{AnswersOnce, whole_once}
use Rattle.command_steps.proofs.Told.{as_reply, told_once}
use Rattle.check_command.specs.Check.{IsCheckReply}

pub check_answers : (schema : WireSchema) → AnswersOnce (by_whole (IsCheckReply schema))
check_answers schema = whole_once (IsCheckReply schema) (as_reply (message_lines schema.messages) [] Answered, (refl, refl, refl)) (told_once (message_lines schema.messages) Answered)
