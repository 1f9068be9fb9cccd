-- Both files of a comparison are loaded.
use Rattle.std.proofs.Common.{ℕ, List, Option, Ok, Err, sym, ap, ◌∙◌}
use Rattle.sbe_types.specs.declared.schema.WireSchema.{WireSchema}
use Rattle.schema_files.specs.FileChecks.{file_schema}
use Rattle.schema_files.specs.Files.{LoadsChecked, stop_of}
use Rattle.command_files.specs.Files.{LoadsFiles}
use Rattle.schema_files.specs.declared.files.FileRole.TheVariants as role
use Rattle.schema_files.specs.declared.files.LoadStop.{LoadStop}
use Rattle.schema_files.specs.declared.files.LoadStop.TheVariants.{Refused, Fault, NoMemory}
use Rattle.compat_command.specs.Compat.{versions_check, compat_files}

module _ (told : Option (List ℕ → Option (List ℕ))) (older newer : List ℕ) where
  pub both_loaded : (first second : WireSchema) → LoadsChecked told older (Ok first) → LoadsChecked told newer (Ok second)
      → LoadsFiles (compat_files older newer) told (Ok (record { older = first; newer = second }))
  both_loaded first second h k = record {
    judges = λ contents same. sym (ap (λ f. versions_check f (file_schema (contents newer))) (h contents same) ∙ ap (versions_check (Ok first)) (k contents same));
    fails = tt;
    good = tt;
  }

  pub older_stopped : (why : LoadStop) → LoadsChecked told older (Err why) → LoadsFiles (compat_files older newer) told (Err (stop_of role.Old why))
  older_stopped (Refused why) h = record { judges = λ contents same. sym (ap (λ f. versions_check f (file_schema (contents newer))) (h contents same)); fails = tt; good = tt }
  older_stopped Fault h = record { judges = λ contents same. tt; fails = tt; good = tt }
  older_stopped NoMemory h = record { judges = λ contents same. tt; fails = tt; good = tt }

  pub newer_stopped : (first : WireSchema) (why : LoadStop) → LoadsChecked told older (Ok first) → LoadsChecked told newer (Err why)
      → LoadsFiles (compat_files older newer) told (Err (stop_of role.New why))
  newer_stopped first (Refused why) h k = record {
    judges = λ contents same. sym (ap (λ f. versions_check f (file_schema (contents newer))) (h contents same) ∙ ap (versions_check (Ok first)) (k contents same));
    fails = tt;
    good = tt;
  }
  newer_stopped first Fault h k = record { judges = λ contents same. tt; fails = tt; good = tt }
  newer_stopped first NoMemory h k = record { judges = λ contents same. tt; fails = tt; good = tt }
