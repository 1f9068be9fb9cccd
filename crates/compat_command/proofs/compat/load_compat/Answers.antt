use Rattle.schema_files.specs.declared.files.FileRole.TheVariants as role
use Rattle.schema_files.proofs.Loading.{named_last}
use Rattle.compat_command.specs.Compat.{Pair}
use Rattle.compat_command.proofs.Loaded.{older_stopped}
use Rattle.compat_command.proofs.compat.load_compat.Goals as goal

pub returns-in-Err-clause-loads : goal.returns-in-Err-clause-loads
returns-in-Err-clause-loads g c = rw c.of.ensures (older_stopped _ _ _ c.in-Err.stop c.in-Err.ensures.loads)

pub returns-in-Err-clause-names : goal.returns-in-Err-clause-names
returns-in-Err-clause-names g c = rw c.of.ensures (named_last Pair role.Old (g.F.Files.load_count c.args.files.now) _ c.in-Err.stop c.in-Err.ensures.count)
