-- The schemas of a dump are loaded.
use Rattle.std.proofs.Common.{ℕ, List, length, Option, Ok, Err}
use Rattle.dump_lines.specs.Dumped.{AreInOrder}
use Rattle.dump_lines.specs.declared.schemas.Schemas.{Schemas}
use Rattle.schema_files.specs.Files.{LoadsSchemas, FailsAt}
use Rattle.schema_files.specs.declared.files.JobStop.{JobStop}
use Rattle.schema_files.specs.declared.files.JobStop.TheVariants.{Refused, Fault, NoMemory}
use Rattle.command_files.specs.Files.{LoadsFiles}
use Rattle.dump_command.specs.Dump.{dump_files}

module _ (told : Option (List ℕ → Option (List ℕ))) (name : List ℕ) (also : List (List ℕ)) where
  pub dump_loaded : (schemas : Schemas) → AreInOrder schemas → LoadsSchemas told name also (Ok schemas) → LoadsFiles (dump_files name also) told (Ok schemas)
  dump_loaded schemas order h = record { judges = λ contents same. h contents same; fails = tt; good = order }

  pub dump_stopped : (why : JobStop) → LoadsSchemas told name also (Err why) → FailsAt (length also) (Err why) → LoadsFiles (dump_files name also) told (Err why)
  dump_stopped (Refused file) h fails = record { judges = λ contents same. h contents same; fails = tt; good = tt }
  dump_stopped (Fault role) h fails = record { judges = λ contents same. tt; fails = fails; good = tt }
  dump_stopped NoMemory h fails = record { judges = λ contents same. tt; fails = tt; good = tt }
