use Rattle.std.proofs.Common.{◌∙◌, ap, true, slice_set}
use Rattle.typed_writer.proofs.Lists.{take_set}
use Rattle.typed_writer.proofs.marks.Marks.mark.Goals as goal

pub returns : goal.returns
returns c = take_set c.self.inside.memory.items c.self.inside.len c.args.i true ∙ ap (λ m. slice_set m c.args.i true) c.self.view_is
