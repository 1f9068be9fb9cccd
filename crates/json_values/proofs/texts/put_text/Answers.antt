use Rattle.std.proofs.Common.{sym, ◌∙◌}
use Rattle.json_values.proofs.Plainly.{shows_plain}
use Rattle.json_values.proofs.texts.put_text.Goals as goal

pub returns-then-is_plain : goal.returns-then-is_plain
returns-then-is_plain g c = shows_plain c.args.bytes.now (sym c.is_plain.ensures ∙ c.if-is_plain.true) c.put_plain.ensures
