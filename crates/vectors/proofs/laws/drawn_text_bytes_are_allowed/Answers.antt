use Rattle.vectors.proofs.TextBytes.{text_byte_stands}
use Rattle.vectors.proofs.laws.drawn_text_bytes_are_allowed.Goals as goal

pub returns : goal.returns
returns c = text_byte_stands
