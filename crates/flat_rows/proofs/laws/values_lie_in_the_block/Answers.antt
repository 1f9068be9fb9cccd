use Rattle.flat_rows.proofs.ValuesFit.{table_fits}
use Rattle.flat_rows.proofs.laws.values_lie_in_the_block.Goals as goal

pub returns : goal.returns
returns c table version n fields = table_fits table fields version n
