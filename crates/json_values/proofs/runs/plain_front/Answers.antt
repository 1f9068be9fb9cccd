use Rattle.std.proofs.Common.{arith}
use Rattle.std.proofs.lemmas.List.Sums.{prefix_len-le-length}
use Rattle.json_values.specs.Plain.{is_plain_byte}
use Rattle.json_values.proofs.runs.plain_front.Goals as goal

pub returns-clause-within : goal.returns-clause-within
returns-clause-within c = omega (arith, c.plain_run-run.ensures, prefix_len-le-length is_plain_byte c.args.bytes.now)
