-- One name for all that a worked row opens: a proof with the line `unfolding computing` computes.
use Rattle.std.specs.Fmt.{digits}
use Rattle.hex.specs.Hex.{encode_with}
use Rattle.json.specs.Print.{escape_byte}

unfoldable pub computing : Unit {0}
unfolding digits encode_with escape_byte
computing = tt
