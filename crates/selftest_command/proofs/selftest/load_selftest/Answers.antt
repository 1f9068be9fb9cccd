use Rattle.schema_files.specs.declared.files.FileRole.TheVariants as role
use Rattle.schema_files.proofs.Loading.{named_last}
use Rattle.selftest_command.specs.Tests.{Testing}
use Rattle.selftest_command.proofs.selftest.load_selftest.Goals as goal

pub returns-in-Err-clause-names : goal.returns-in-Err-clause-names
returns-in-Err-clause-names g c = rw c.of.ensures (named_last Testing role.Schema (g.F.Files.load_count c.args.files.now) _ c.in-Err.stop c.in-Err.ensures.count)
