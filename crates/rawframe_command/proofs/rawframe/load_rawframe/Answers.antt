use Rattle.std.proofs.Common.{List}
use Rattle.schema_files.specs.declared.files.FileRole.TheVariants as role
use Rattle.schema_files.proofs.Loading.{named_last}
use Rattle.tagvalue_codec.specs.declared.data_tags.Pair.{Pair}
use Rattle.rawframe_command.proofs.rawframe.load_rawframe.Goals as goal

pub returns-in-Err-clause-names : goal.returns-in-Err-clause-names
returns-in-Err-clause-names g c = rw c.of.ensures (named_last (List Pair) role.Map (g.F.Files.load_count c.args.files.now) _ c.in-Err.stop c.in-Err.ensures.count)
