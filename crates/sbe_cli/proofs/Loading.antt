-- The files of a command that were loaded make its job.
use Rattle.std.proofs.Common.{◌≡◌, ℕ, List, Option, Ok, Err, refl, sym, subst}
use Rattle.command_words.specs.declared.words.Command.{Command}
use Rattle.command_words.specs.declared.forms.Form.{Form}
use Rattle.command_words.specs.declared.forms.Form.TheVariants as form
use Rattle.command_words.specs.Words.{file_at}
use Rattle.command_files.specs.Files.{LoadsFiles}
use Rattle.command_steps.specs.Splits.{is_read}
use Rattle.schema_files.specs.declared.files.JobStop.{JobStop}
use Rattle.schema_files.specs.declared.files.JobStop.TheVariants as stop
use Rattle.coverage_command.specs.Coverage.{Pair, coverage_files}
use Rattle.tofix_command.specs.Bridges.{tofix_files, BridgeWords, Translating}
use Rattle.tosbe_command.specs.Bridges.{tosbe_files, BackBridge}
use Rattle.regrade_command.specs.Regrade.{Regrading}
use Rattle.regrade_command.specs.Regrades.{regrade_files}
use Rattle.sbe_cli.specs.Jobs as jobs
use Rattle.sbe_cli.specs.Jobs.{Job, LoadsJob, answering_of, commanding_by, reading_of, tofix_words}

-- the job of a form's files is that of a command of this form
module _ (command : Command) (told : Option (List ℕ → Option (List ℕ))) (f : Form) (job : Job) (e : command.form ≡ f) where
  job_made : LoadsFiles (commanding_by f command).files told (Ok job)
      → (is_read (reading_of job) ≡ (commanding_by f command).reads) × ((answering_of job).spares ≡ (commanding_by f command).spares) → LoadsJob told command (Ok job)
  job_made files reads = record {
    files = subst (λ g. LoadsFiles (commanding_by g command).files told (Ok job)) (sym e) files;
    reads = subst (λ g. (is_read (reading_of job) ≡ (commanding_by g command).reads) × ((answering_of job).spares ≡ (commanding_by g command).spares)) (sym e) reads;
  }

-- the two schemas of a rewriting make its job
pub regrade_loaded : (command : Command) (told : Option (List ℕ → Option (List ℕ))) (on : Regrading) → command.form ≡ form.Regrade
    → LoadsFiles (regrade_files (file_at command 0) (file_at command 1) command.limits.frame) told (Ok on) → LoadsJob told command (Ok (jobs.Regrade on command.limits))
regrade_loaded command told on e loaded =
    job_made command told form.Regrade (jobs.Regrade on command.limits) e
    (record { judges = λ contents same. (on, loaded.judges contents same, refl); fails = tt; good = (on, loaded.good, refl) }) (refl, refl)

-- a schema and a mapping make the job of their coverage
pub coverage_loaded : (command : Command) (told : Option (List ℕ → Option (List ℕ))) (pair : Pair) → command.form ≡ form.Coverage
    → LoadsFiles (coverage_files (file_at command 0) (file_at command 1)) told (Ok pair) → LoadsJob told command (Ok (jobs.Coverage pair))
coverage_loaded command told pair e loaded =
    job_made command told form.Coverage (jobs.Coverage pair) e
    (record { judges = λ contents same. (pair, loaded.judges contents same, refl); fails = tt; good = (pair, loaded.good, refl) }) (refl, refl)

module _ (command : Command) (told : Option (List ℕ → Option (List ℕ))) (words : BridgeWords) (e : command.form ≡ form.ToFix) (is : words ≡ tofix_words command) where
  -- the files of a translation make its job
  pub tofix_loaded : (on : Translating) → LoadsFiles (tofix_files words) told (Ok on) → LoadsJob told command (Ok (jobs.ToFix on command.limits))
  tofix_loaded on h =
      let loaded : LoadsFiles (tofix_files (tofix_words command)) told (Ok on) = subst (λ (w : BridgeWords). LoadsFiles (tofix_files w) told (Ok on)) is h in
      job_made command told form.ToFix (jobs.ToFix on command.limits) e
      (record { judges = λ contents same. (on, loaded.judges contents same, refl); fails = tt; good = (on, loaded.good, refl) }) (refl, refl)

  files_stopped : (why : JobStop) → LoadsFiles (tofix_files (tofix_words command)) told (Err why) → LoadsFiles (commanding_by form.ToFix command).files told (Err why)
  files_stopped (stop.Refused file) h = record { judges = λ contents same. h.judges contents same; fails = tt; good = tt }
  files_stopped (stop.Fault at) h = record { judges = λ contents same. tt; fails = h.fails; good = tt }
  files_stopped stop.NoMemory h = record { judges = λ contents same. tt; fails = tt; good = tt }

  -- a file of a translation that stops it stops its job
  pub tofix_stopped : (why : JobStop) → LoadsFiles (tofix_files words) told (Err why) → LoadsJob told command (Err why)
  tofix_stopped why h =
      let files = files_stopped why (subst (λ (w : BridgeWords). LoadsFiles (tofix_files w) told (Err why)) is h) in
      record { files = subst (λ f. LoadsFiles (commanding_by f command).files told (Err why)) (sym e) files; reads = tt }

-- a schema and a mapping make the job of the translation of texts
pub tosbe_loaded : (command : Command) (told : Option (List ℕ → Option (List ℕ))) (bridge : BackBridge) → command.form ≡ form.ToSbe
    → LoadsFiles (tosbe_files (file_at command 0) (file_at command 1) command.limits.frame) told (Ok bridge) → LoadsJob told command (Ok (jobs.ToSbe bridge command.limits))
tosbe_loaded command told bridge e loaded =
    job_made command told form.ToSbe (jobs.ToSbe bridge command.limits) e
    (record { judges = λ contents same. (bridge, loaded.judges contents same, refl); fails = tt; good = (bridge, loaded.good, refl) }) (refl, refl)
