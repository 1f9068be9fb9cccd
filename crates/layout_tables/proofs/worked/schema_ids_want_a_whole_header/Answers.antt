use Rattle.std.proofs.Common.{refl}
use Rattle.layout_tables.proofs.Computing.{computing}
use Rattle.layout_tables.proofs.worked.schema_ids_want_a_whole_header.Goals as goal

pub returns-clause-whole : goal.returns-clause-whole
unfolding computing
returns-clause-whole c = refl

pub returns-clause-short : goal.returns-clause-short
unfolding computing
returns-clause-short c = refl
