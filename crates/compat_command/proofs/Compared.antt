-- `compat` has one reply.
use Rattle.std.proofs.Common.{[], refl}
use Rattle.version_laws.specs.Answer.{compat}
use Rattle.version_laws.specs.declared.difference.Compat.{Compat}
use Rattle.version_laws.specs.declared.difference.Compat.TheVariants.{TwoWay, OneWay, No}
use Rattle.command_steps.specs.Replies.{HasParts, by_whole}
use Rattle.command_steps.proofs.Folding.{AnswersOnce, whole_once}
use Rattle.command_steps.proofs.Told.{as_reply, told_once, answered_parts, refused_parts}
use Rattle.compat_command.specs.Compat.{Pair, IsCompatReply, compared_line, compared_verdict}

pub compat_answers : (pair : Pair) → AnswersOnce (by_whole (IsCompatReply pair))
compat_answers pair =
    let answer = compat pair.older pair.newer in
    whole_once (IsCompatReply pair) (as_reply (compared_line answer) [] (compared_verdict answer), (refl, refl, refl)) (told_once (compared_line answer) (compared_verdict answer))

-- it counts no parts
pub compared_parts : (answer : Compat) → HasParts 0 (compared_verdict answer)
compared_parts TwoWay = answered_parts 0
compared_parts (OneWay path) = answered_parts 0
compared_parts (No path reason) = refused_parts 0
