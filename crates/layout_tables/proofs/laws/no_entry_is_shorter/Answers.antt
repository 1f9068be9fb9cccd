use Rattle.layout_tables.proofs.Least.{entry_long}
use Rattle.layout_tables.proofs.laws.no_entry_is_shorter.Goals as goal

pub returns : goal.returns
returns c = entry_long
