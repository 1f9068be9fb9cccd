use Rattle.std.proofs.Common.{ap, ◌∙◌, length, eqb}
use Rattle.json_values.specs.Plain.{is_plain_byte}
use Rattle.json_values.proofs.Lanes.{whole_run}
use Rattle.json_values.proofs.texts.is_plain.Goals as goal

pub returns : goal.returns
returns c = ap (λ n. eqb n (length c.args.bytes.now)) c.plain_run.ensures ∙ whole_run is_plain_byte c.args.bytes.now
