-- The file of a build is loaded.
use Rattle.std.proofs.Common.{ℕ, List, Option, Ok, Err, sym, ap}
use Rattle.sbe_types.specs.declared.schema.WireSchema.{WireSchema}
use Rattle.schema_facts.specs.IsChecked.{IsChecked}
use Rattle.command_files.specs.Files.{in_role}
use Rattle.schema_files.specs.Files.{LoadsChecked, stop_of}
use Rattle.command_files.specs.Files.{LoadsFiles}
use Rattle.schema_files.specs.declared.files.FileRole.TheVariants as role
use Rattle.schema_files.specs.declared.files.LoadStop.{LoadStop}
use Rattle.schema_files.specs.declared.files.LoadStop.TheVariants.{Refused, Fault, NoMemory}
use Rattle.schema_files.specs.declared.files.JobStop.TheVariants as stop
use Rattle.build_command.specs.Builds.{built_for, build_files}

module _ (told : Option (List ℕ → Option (List ℕ))) (name : List ℕ) (frame : ℕ) where
  pub build_loaded : (schema : WireSchema) → IsChecked schema → LoadsChecked told name (Ok schema) → LoadsFiles (build_files name frame) told (Ok (record { schema = schema; frame = frame }))
  build_loaded schema checked h = record { judges = λ contents same. sym (ap (λ f. built_for frame (in_role role.Schema f)) (h contents same)); fails = tt; good = checked }

  pub build_stopped : (why : LoadStop) → LoadsChecked told name (Err why) → LoadsFiles (build_files name frame) told (Err (stop_of role.Schema why))
  build_stopped (Refused why) h = record { judges = λ contents same. sym (ap (λ f. built_for frame (in_role role.Schema f)) (h contents same)); fails = tt; good = tt }
  build_stopped Fault h = record { judges = λ contents same. tt; fails = tt; good = tt }
  build_stopped NoMemory h = record { judges = λ contents same. tt; fails = tt; good = tt }

  pub build_wanting : LoadsFiles (build_files name frame) told (Err stop.NoMemory)
  build_wanting = record { judges = λ contents same. tt; fails = tt; good = tt }
