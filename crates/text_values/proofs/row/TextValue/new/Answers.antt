use Rattle.text_values.proofs.RowReads.{made_row}
use Rattle.text_values.proofs.row.TextValue.new.Goals as goal

pub returns-clause-reads : goal.returns-clause-reads
returns-clause-reads c = made_row c.row_of.result c.args.rule c.row_of.ensures.same
