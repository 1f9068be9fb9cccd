use Rattle.std.proofs.Common.{◌∙◌}
use Rattle.schema_files.specs.Files.{loads_with_map}
use Rattle.schema_files.specs.declared.files.FileRole.TheVariants as role
use Rattle.schema_files.proofs.Loading.{named_last_by}
use Rattle.tofix_command.specs.Bridges.{words_in, Translating}
use Rattle.tofix_command.proofs.Loaded.{mapped_loaded, schema_stopped}
use Rattle.tofix_command.proofs.loading.load_tofix.Goals as goal

pub returns-in-Err-clause-loads : goal.returns-in-Err-clause-loads
returns-in-Err-clause-loads g c =
    rw c.of.ensures (schema_stopped (g.F.Files.state c.args.files.now).told (words_in c.args.words.now) c.in-Err.stop c.in-Err.ensures.loads)

pub returns-in-Err-clause-names : goal.returns-in-Err-clause-names
returns-in-Err-clause-names g c =
    rw c.of.ensures (named_last_by Translating loads_with_map role.Schema (g.F.Files.load_count c.args.files.now) _ c.in-Err.stop c.in-Err.ensures.count)

pub returns-clause-loads : goal.returns-clause-loads
returns-clause-loads g c =
    mapped_loaded (g.F.Files.state c.args.files.now).told (words_in c.args.words.now) c.in-Ok.first c.in-Ok.ensures.loads c.load_mapped.result
    (rw c.load_checked.ensures.kept at c.load_mapped.ensures.loads)

pub returns-clause-cause : goal.returns-clause-cause
returns-clause-cause g c = rw c.in-Ok.ensures.cause at c.load_mapped.ensures.cause

pub returns-clause-names : goal.returns-clause-names
returns-clause-names g c = c.load_mapped.ensures.names (g.F.Files.load_count c.args.files.now) c.in-Ok.ensures.count
