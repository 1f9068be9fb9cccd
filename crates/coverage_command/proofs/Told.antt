-- `check` with a mapping has one reply.
use Rattle.std.proofs.Common.{◌≡◌, List, ℕ, [], refl}
use Rattle.map_types.specs.Trees.{members_of}
use Rattle.bridge_mapping.specs.Mapped.{mapping_of}
use Rattle.replies.specs.declared.verdict.Verdict.TheVariants.{Answered}
use Rattle.command_steps.specs.Replies.{by_whole}
use Rattle.command_steps.proofs.Folding.{AnswersOnce, whole_once}
use Rattle.command_steps.proofs.Told.{as_reply, told_once}
use Rattle.coverage_command.specs.Coverage.{coverage_lines, IsCoverageReply, Pair}

-- the lines of a pair
abbrev pub lines_of : Pair → List ℕ
lines_of pair = coverage_lines (mapping_of (members_of pair.repository)) pair.schema.messages

pub coverage_answers : (pair : Pair) → AnswersOnce (by_whole (IsCoverageReply pair))
coverage_answers pair = whole_once (IsCoverageReply pair) (as_reply (lines_of pair) [] Answered, (refl, refl, refl)) (told_once (lines_of pair) Answered)
