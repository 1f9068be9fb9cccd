use Rattle.schema_files.specs.declared.files.FileRole.TheVariants as role
use Rattle.schema_files.proofs.Loading.{named_last}
use Rattle.sbe_types.specs.declared.schema.WireSchema.{WireSchema}
use Rattle.command_files.proofs.Loaded.{file_loaded, file_stopped}
use Rattle.check_command.proofs.check.load_check.Goals as goal

pub returns-in-Ok-clause-loads : goal.returns-in-Ok-clause-loads
returns-in-Ok-clause-loads g c = file_loaded _ _ _ _ _ c.in-Ok.schema tt c.in-Ok.ensures.loads

pub returns-in-Err-clause-loads : goal.returns-in-Err-clause-loads
returns-in-Err-clause-loads g c = rw c.of.ensures (file_stopped _ _ _ _ _ c.in-Err.stop tt c.in-Err.ensures.loads)

pub returns-in-Err-clause-names : goal.returns-in-Err-clause-names
returns-in-Err-clause-names g c = rw c.of.ensures (named_last WireSchema role.Schema (g.F.Files.load_count c.args.files.now) _ c.in-Err.stop c.in-Err.ensures.count)
