use Rattle.std.proofs.Common.{subst}
use Rattle.schema_files.specs.FileChecks.{schema_in}
use Rattle.schema_files.specs.Files.{Reads}
use Rattle.schema_files.proofs.Loading.{checked_loaded, short_loaded}
use Rattle.schema_files.proofs.schema_file.load_checked.Goals as goal

pub returns-in-Ok-clause-loads : goal.returns-in-Ok-clause-loads
returns-in-Ok-clause-loads g c =
    checked_loaded (g.F.Files.state c.args.files.now).told c.args.name.now c.load.new.into.items c.read_checked.result c.in-Ok.ensures.loads
    (subst (λ b. Reads (schema_in b) c.read_checked.result) c.as_slice.ensures.value c.read_checked.ensures)

pub returns-clause-loads : goal.returns-clause-loads
returns-clause-loads g c =
    short_loaded (g.F.Files.state c.args.files.now).told c.args.name.now (rw c.in-Err-Memory.field-0-is at c.in-Err-Memory.ensures.memory)
