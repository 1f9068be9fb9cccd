use Rattle.schema_files.specs.declared.files.FileRole.TheVariants as role
use Rattle.schema_files.specs.Files.{loads_with_map}
use Rattle.schema_files.proofs.Loading.{named_last_by}
use Rattle.coverage_command.specs.Coverage.{Pair}
use Rattle.coverage_command.proofs.Loaded.{schema_stopped}
use Rattle.coverage_command.proofs.check.load_coverage.Goals as goal

pub returns-in-Err-clause-loads : goal.returns-in-Err-clause-loads
returns-in-Err-clause-loads g c = rw c.of.ensures (schema_stopped _ _ _ c.in-Err.stop c.in-Err.ensures.loads)

pub returns-in-Err-clause-names : goal.returns-in-Err-clause-names
returns-in-Err-clause-names g c = rw c.of.ensures (named_last_by Pair loads_with_map role.Schema (g.F.Files.load_count c.args.files.now) _ c.in-Err.stop c.in-Err.ensures.count)
