-- One name for all that a row opens: a proof with the line `unfolding computing` computes.
use Rattle.open_framing.specs.Pieces.{pieces_in}
use Rattle.open_framing.specs.Frames.{cut_of, items_of}
use Rattle.open_framing.specs.Lines.{lines_of, ended_lines_of}

unfoldable pub computing : Unit {0}
unfolding pieces_in cut_of items_of lines_of ended_lines_of
computing = tt
