-- `selftest` has one reply.
use Rattle.std.proofs.Common.{ℕ, List, [], refl}
use Rattle.replies.specs.declared.verdict.Verdict.TheVariants.{Answered}
use Rattle.command_steps.specs.Replies.{by_whole}
use Rattle.command_steps.proofs.Folding.{AnswersOnce, whole_once}
use Rattle.command_steps.proofs.Told.{as_reply, told_once}
use Rattle.selftest_command.specs.Selftest.{sums_line, sums_until}
use Rattle.selftest_command.specs.Tests.{Testing, IsSelftestReply}

abbrev pub test_line : Testing → List ℕ
test_line test = sums_line (sums_until test.schema test.trial test.trial.count)

pub selftest_answers : (test : Testing) → AnswersOnce (by_whole (IsSelftestReply test))
selftest_answers test = whole_once (IsSelftestReply test) (as_reply (test_line test) [] Answered, (refl, refl, refl)) (told_once (test_line test) Answered)
