use Rattle.std.proofs.Common.{◌∙◌, ap, sym, drop, drop-drop}
use Rattle.typed_writer.proofs.stack.Stack.pop.Goals as goal

pub returns : goal.returns
returns c = sym (drop-drop 1 c.self.inside.top c.self.inside.memory.items) ∙ ap (drop 1) c.self.view_is
