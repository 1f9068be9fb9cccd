-- The file of a fixcheck is loaded, and judged in one way.
use Rattle.std.proofs.Common.{◌≡◌, ℕ, List, Option, Ok, Err, sym, ap, ◌∙◌}
use Rattle.map_types.specs.declared.tree.Repository.{Repository}
use Rattle.map_types.specs.Trees.{members_of}
use Rattle.orchestra_map.specs.DataFields.{pairs_of}
use Rattle.tagvalue_codec.specs.declared.data_tags.Pair.{Pair}
use Rattle.schema_files.specs.Files.{stop_of}
use Rattle.schema_files.specs.declared.files.FileRole.TheVariants as role
use Rattle.schema_files.specs.declared.files.LoadStop.{LoadStop}
use Rattle.schema_files.specs.declared.files.LoadStop.TheVariants.{Refused, Fault, NoMemory}
use Rattle.schema_files.specs.declared.files.JobStop.TheVariants as stop
use Rattle.map_files.specs.Maps.{LoadsMap}
use Rattle.command_files.specs.Files.{LoadsFiles, in_role}
use Rattle.fixcheck_command.specs.FixCheck.{tags_check, fixcheck_files}

module _ (told : Option (List ℕ → Option (List ℕ))) (name : List ℕ) where
  pub tags_loaded : (repository : Repository) (tags : List Pair) → tags ≡ pairs_of (members_of repository) → LoadsMap told name (Ok repository) → LoadsFiles (fixcheck_files name) told (Ok tags)
  tags_loaded repository tags is h = record { judges = λ contents same. ap Ok is ∙ sym (ap (λ f. tags_check (in_role role.Map f)) (h contents same)); fails = tt; good = tt }

  pub map_stopped : (why : LoadStop) → LoadsMap told name (Err why) → LoadsFiles (fixcheck_files name) told (Err (stop_of role.Map why))
  map_stopped (Refused why) h = record { judges = λ contents same. sym (ap (λ f. tags_check (in_role role.Map f)) (h contents same)); fails = tt; good = tt }
  map_stopped Fault h = record { judges = λ contents same. tt; fails = tt; good = tt }
  map_stopped NoMemory h = record { judges = λ contents same. tt; fails = tt; good = tt }

  pub tags_wanting : LoadsFiles (fixcheck_files name) told (Err stop.NoMemory)
  tags_wanting = record { judges = λ contents same. tt; fails = tt; good = tt }
