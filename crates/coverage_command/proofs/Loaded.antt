-- The files of a schema and of a mapping are loaded.
use Rattle.std.proofs.Common.{ℕ, List, Option, Ok, Err, sym, ap, ◌∙◌}
use Rattle.sbe_types.specs.declared.schema.WireSchema.{WireSchema}
use Rattle.map_types.specs.declared.tree.Repository.{Repository}
use Rattle.orchestra_map.specs.Headers.{IsKept}
use Rattle.map_files.specs.Maps.{file_map, LoadsMap}
use Rattle.schema_files.specs.FileChecks.{file_schema}
use Rattle.schema_files.specs.Files.{LoadsChecked, stop_of}
use Rattle.command_files.specs.Files.{LoadsFiles}
use Rattle.schema_files.specs.declared.files.FileRole.TheVariants as role
use Rattle.schema_files.specs.declared.files.LoadStop.{LoadStop}
use Rattle.schema_files.specs.declared.files.LoadStop.TheVariants.{Refused, Fault, NoMemory}
use Rattle.coverage_command.specs.Coverage.{coverage_check, coverage_files}

module _ (told : Option (List ℕ → Option (List ℕ))) (schema map : List ℕ) where
  pub both_loaded : (first : WireSchema) (second : Repository) → IsKept second → LoadsChecked told schema (Ok first) → LoadsMap told map (Ok second)
      → LoadsFiles (coverage_files schema map) told (Ok (record { schema = first; repository = second }))
  both_loaded first second rules h k = record {
    judges = λ contents same. sym (ap (λ f. coverage_check f (file_map (contents map))) (h contents same) ∙ ap (coverage_check (Ok first)) (k contents same));
    fails = tt;
    good = rules;
  }

  pub schema_stopped : (why : LoadStop) → LoadsChecked told schema (Err why) → LoadsFiles (coverage_files schema map) told (Err (stop_of role.Schema why))
  schema_stopped (Refused why) h = record { judges = λ contents same. sym (ap (λ f. coverage_check f (file_map (contents map))) (h contents same)); fails = tt; good = tt }
  schema_stopped Fault h = record { judges = λ contents same. tt; fails = tt; good = tt }
  schema_stopped NoMemory h = record { judges = λ contents same. tt; fails = tt; good = tt }

  pub map_stopped : (first : WireSchema) (why : LoadStop) → LoadsChecked told schema (Ok first) → LoadsMap told map (Err why)
      → LoadsFiles (coverage_files schema map) told (Err (stop_of role.Map why))
  map_stopped first (Refused why) h k = record {
    judges = λ contents same. sym (ap (λ f. coverage_check f (file_map (contents map))) (h contents same) ∙ ap (coverage_check (Ok first)) (k contents same));
    fails = tt;
    good = tt;
  }
  map_stopped first Fault h k = record { judges = λ contents same. tt; fails = tt; good = tt }
  map_stopped first NoMemory h k = record { judges = λ contents same. tt; fails = tt; good = tt }
