-- Each command's files are judged in one way, and each piece of the input of an accepted job has exactly one reply.
use Rattle.std.proofs.Common.{◌≡◌, ℕ, List, Option, Result, Ok, Err, refl, sym, ap, ◌∙◌, subst}
use Rattle.schema_files.specs.FileChecks.{file_schema, JudgesSchemas}
use Rattle.command_files.specs.Files.{in_role}
use Rattle.schema_files.specs.declared.files.FileRole.TheVariants as role
use Rattle.schema_files.specs.declared.files.RefusedFile.{RefusedFile}
use Rattle.schema_files.proofs.Judging.{schemas_once, schemas_some, schemas_good}
use Rattle.command_words.specs.declared.words.Command.{Command}
use Rattle.command_words.specs.declared.forms.Form.{Form}
use Rattle.command_words.specs.declared.forms.Form.TheVariants as form
use Rattle.command_words.specs.Words.{file_at}
use Rattle.command_steps.proofs.Folding.{AnswersOnce}
use Rattle.check_command.proofs.Checked.{check_answers}
use Rattle.coverage_command.specs.Coverage.{coverage_check}
use Rattle.coverage_command.proofs.Told.{coverage_answers}
use Rattle.compat_command.specs.Compat.{versions_check}
use Rattle.compat_command.proofs.Compared.{compat_answers}
use Rattle.dump_command.proofs.Replied.{dump_answers}
use Rattle.build_command.specs.Builds.{built_for}
use Rattle.build_command.proofs.Replied.{build_answers, build_checked}
use Rattle.map_files.specs.Maps.{file_map}
use Rattle.fixcheck_command.specs.FixCheck.{tags_check}
use Rattle.fixcheck_command.proofs.Replied.{fixcheck_answers}
use Rattle.tofix_command.specs.Bridges.{JudgesTranslating, bridge_of}
use Rattle.tofix_command.proofs.Judging.{translating_once, translating_some, translating_good}
use Rattle.tofix_replies.proofs.Replied.{tofix_answers}
use Rattle.raw_steps.proofs.Replied.{raw_answers}
use Rattle.selftest_command.specs.Tests.{tested_by}
use Rattle.selftest_command.proofs.Tested.{selftest_answers}
use Rattle.tosbe_command.specs.Bridges.{bridge_check}
use Rattle.tosbe_command.proofs.Loaded.{bridge_good}
use Rattle.tosbe_command.proofs.Replied.{tosbe_answers}
use Rattle.regrade_command.specs.Regrades.{regrade_check, regraded_for}
use Rattle.regrade_command.proofs.Loaded.{regrade_good}
use Rattle.regrade_command.proofs.Replied.{regrade_answers}
use Rattle.sbe_cli.specs.Jobs as jobs
use Rattle.sbe_cli.specs.Jobs.{Job, answering_of, Makes, commanding_by, tofix_words, Judges, trial_of}

-- ---- one judgement of the files

-- Files are judged in one way, and a job that they make answers each piece in one way.
pub record IsJudging (AreJudged : Result Job RefusedFile → Type 0) : Type 0 where
  pub once : (a b : Result Job RefusedFile) → AreJudged a → AreJudged b → a ≡ b
  pub some : (judged : Result Job RefusedFile) × AreJudged judged
  pub answers : (job : Job) → AreJudged (Ok job) → AnswersOnce (answering_of job)

module _ {X : Type 0} (AreJudged : Result X RefusedFile → Type 0) (make : X → Job) (once : (a b : Result X RefusedFile) → AreJudged a → AreJudged b → a ≡ b)
    (some : (judged : Result X RefusedFile) × AreJudged judged) (good : (files : X) → AreJudged (Ok files) → AnswersOnce (answering_of (make files))) where
  ok_same : {s t : X} → ◌≡◌ {A = Result X RefusedFile} (Ok s) (Ok t) → s ≡ t
  ok_same h = cc

  never : {s : X} {e : RefusedFile} → ◌≡◌ {A = Result X RefusedFile} (Ok s) (Err e) → ⊥
  never h = cc

  err_same : {s t : RefusedFile} → ◌≡◌ {A = Result X RefusedFile} (Err s) (Err t) → s ≡ t
  err_same h = cc

  made_once : (a b : Result Job RefusedFile) → Makes AreJudged make a → Makes AreJudged make b → a ≡ b
  made_once (Ok x) (Ok y) h k = ap Ok (h.2 ∙ ap make (ok_same (once (Ok h.0) (Ok k.0) h.1 k.1)) ∙ sym k.2)
  made_once (Ok x) (Err f) h k = absurd (never (once (Ok h.0) (Err f) h.1 k))
  made_once (Err f) (Ok y) h k = absurd (never (once (Ok k.0) (Err f) k.1 h))
  made_once (Err f) (Err g) h k = ap Err (err_same (once (Err f) (Err g) h k))

  made_some : (found : (judged : Result X RefusedFile) × AreJudged judged) → (judged : Result Job RefusedFile) × Makes AreJudged make judged
  made_some (Ok files, h) = (Ok (make files), (files, h, refl))
  made_some (Err f, h) = (Err f, h)

  pub made : IsJudging (Makes AreJudged make)
  made = record { once = made_once; some = made_some some; answers = λ job h. subst (λ (j : Job). AnswersOnce (answering_of j)) (sym h.2) (good h.0 h.1) }

-- what a function gives is judged in one way
module _ {X : Type 0} (result : Result X RefusedFile) (make : X → Job) (good : (files : X) → Ok files ≡ result → AnswersOnce (answering_of (make files))) where
  pub computed : IsJudging (Makes (λ judged. judged ≡ result) make)
  computed = made (λ judged. judged ≡ result) make (λ a b h k. h ∙ sym k) (result, refl) good

-- One line a form.
judging_by : (form : Form) (command : Command) (contents : List ℕ → Option (List ℕ)) → IsJudging ((commanding_by form command).files.AreJudged contents)
judging_by form.Check command contents = computed (in_role role.Schema (file_schema (contents (file_at command 0)))) jobs.Check (λ schema h. check_answers schema)
judging_by form.Coverage command contents =
    computed (coverage_check (file_schema (contents (file_at command 0))) (file_map (contents (file_at command 1)))) jobs.Coverage (λ pair h. coverage_answers pair)
judging_by form.Compat command contents =
    computed (versions_check (file_schema (contents (file_at command 0))) (file_schema (contents (file_at command 1)))) jobs.Compat (λ pair h. compat_answers pair)
judging_by form.Dump command contents =
    made (JudgesSchemas contents (file_at command 0) command.also) (λ schemas. jobs.Dump schemas command.limits)
    (schemas_once contents (file_at command 0) command.also) (schemas_some contents (file_at command 0) command.also)
    (λ schemas h. dump_answers schemas command.limits (schemas_good contents (file_at command 0) command.also schemas h))
judging_by form.Build command contents =
    computed (built_for command.limits.frame (in_role role.Schema (file_schema (contents (file_at command 0))))) (λ building. jobs.Build building command.limits.input)
    (λ building h. build_answers building command.limits.input (build_checked (file_at command 0) command.limits.frame contents building h))
judging_by form.FixCheck command contents =
    computed (tags_check (in_role role.Map (file_map (contents (file_at command 0))))) (λ tags. jobs.FixCheck tags command.limits) (λ tags h. fixcheck_answers tags command.limits)
judging_by form.ToFix command contents =
    made (JudgesTranslating (tofix_words command) contents) (λ translating. jobs.ToFix translating command.limits)
    (translating_once (tofix_words command) contents) (translating_some (tofix_words command) contents)
    (λ translating h. tofix_answers (bridge_of translating) command.limits (translating_good (tofix_words command) contents translating h))
judging_by form.ToSbe command contents =
    computed (bridge_check command.limits.frame (file_schema (contents (file_at command 0))) (file_map (contents (file_at command 1))))
    (λ bridge. jobs.ToSbe bridge command.limits) (λ bridge h. tosbe_answers bridge command.limits (bridge_good (file_at command 0) (file_at command 1) command.limits.frame contents bridge h))
judging_by form.SelfTest command contents =
    computed (tested_by (trial_of command) (in_role role.Schema (file_schema (contents (file_at command 0))))) jobs.SelfTest (λ test h. selftest_answers test)
judging_by form.Regrade command contents =
    computed (regraded_for command.limits.frame (regrade_check (file_schema (contents (file_at command 0))) (file_schema (contents (file_at command 1)))))
    (λ on. jobs.Regrade on command.limits) (λ on h. regrade_answers on command.limits (regrade_good (file_at command 0) (file_at command 1) command.limits.frame contents on h))
judging_by form.RawFrame command contents =
    computed (tags_check (in_role role.Map (file_map (contents (file_at command 0))))) (λ tags. jobs.RawFrame tags command.limits) (λ tags h. raw_answers tags command.limits)

pub judging : (command : Command) (contents : List ℕ → Option (List ℕ)) → IsJudging (Judges command contents)
judging command contents = judging_by command.form command contents
