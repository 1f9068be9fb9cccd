-- There is one report for each command line, files and input.
use Rattle.std.proofs.Common.{◌≡◌, ℕ, List, Option, Some, None, Result, Ok, Err, refl, sym, ◌∙◌, subst}
use Rattle.open_framing.specs.Heads.{IsBytes}
use Rattle.command_steps.specs.Ends.{Outcome}
use Rattle.command_steps.proofs.Folding.{AnswersOnce}
use Rattle.command_steps.proofs.Reporting.{pieces_once, pieces_some}
use Rattle.sbe_cli.specs.Jobs.{Job, answering_of, Judges}
use Rattle.sbe_cli.proofs.Judging.{judging}
use Rattle.sbe_cli.specs.Report.{JudgedReport, CommandReport, Report}
use Rattle.command_words.specs.Words.{command_of}
use Rattle.schema_files.specs.declared.files.RefusedFile.{RefusedFile}
use Rattle.command_words.specs.declared.words.Command.{Command}

-- ---- there is one report

judged_report : (r : Result Job RefusedFile) (input : List ℕ) (a b : Outcome) → ((job : Job) → r ≡ Ok job → AnswersOnce (answering_of job)) → JudgedReport r input a → JudgedReport r input b → a ≡ b
judged_report (Ok job) input a b placed h k = pieces_once (answering_of job) input a b (placed job refl) h k
judged_report (Err f) input a b placed h k = h ∙ sym k

module _ (contents : List ℕ → Option (List ℕ)) (input : List ℕ) where
  command_once : (command : Option Command) (a b : Outcome) → CommandReport command contents input a → CommandReport command contents input b → a ≡ b
  command_once None a b h k = h ∙ sym k
  command_once (Some command) a b h k =
      let same : h.0 ≡ k.0 = (judging command contents).once h.0 k.0 h.1 k.1 in
      judged_report k.0 input a b (λ job e. (judging command contents).answers job (subst (Judges command contents) e k.1)) (subst (λ (r : Result Job RefusedFile). JudgedReport r input a) same h.2) k.2

  pub one_report : (words : List (List ℕ)) (a b : Outcome) → Report words contents input a → Report words contents input b → a ≡ b
  one_report words a b h k = command_once (command_of words) a b h k

  judged_some : (command : Command) (r : Result Job RefusedFile) → IsBytes input → Judges command contents r → (outcome : Outcome) × JudgedReport r input outcome
  judged_some command (Ok job) good h = pieces_some (answering_of job) input ((judging command contents).answers job h) good
  judged_some command (Err f) good h = (_, refl)

  command_some : (command : Option Command) → IsBytes input → (outcome : Outcome) × CommandReport command contents input outcome
  command_some None good = (_, refl)
  command_some (Some command) good =
      let judged = (judging command contents).some in
      let report = judged_some command judged.0 good judged.1 in
      (report.0, (judged.0, judged.1, report.1))

  pub some_report : (words : List (List ℕ)) → IsBytes input → (outcome : Outcome) × Report words contents input outcome
  some_report words good = command_some (command_of words) good
