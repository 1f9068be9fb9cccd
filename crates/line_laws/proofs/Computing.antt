-- One name for all that a worked row opens: a proof with the line `unfolding computing` computes.
use Rattle.std.specs.Fmt.{digits}
use Rattle.serde_json.proofs.OnLiterals.{serde_json_on_literals}

unfoldable pub computing : Unit {0}
unfolding digits serde_json_on_literals
computing = tt
