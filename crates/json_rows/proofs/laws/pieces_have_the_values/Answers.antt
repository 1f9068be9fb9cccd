use Rattle.json_rows.proofs.PieceValues.{values_in}
use Rattle.json_rows.proofs.laws.pieces_have_the_values.Goals as goal

pub returns : goal.returns
returns c = values_in
