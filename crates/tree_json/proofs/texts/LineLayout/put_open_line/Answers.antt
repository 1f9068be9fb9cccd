use Rattle.std.proofs.Common.{ap, ◌∙◌, arith}
use Rattle.std.proofs.lemmas.Option.{slice_get_within}
use Rattle.std.specs.Prelude.{slice_get}
use Rattle.tree_json.proofs.texts.LineLayout.put_open_line.Goals as goal

pub message-texts-requires : goal.message-texts-requires
message-texts-requires g c = omega (arith, slice_get_within c.args.self.now.messages c.args.view.now.message.template c.args.view.now.level c.requires, c.template.ensures)

pub put_open-requires : goal.put_open-requires
put_open-requires g c = c.message-texts.ensures c.args.view.now.level (ap (slice_get c.args.self.now.messages) c.template.ensures ∙ c.requires)
