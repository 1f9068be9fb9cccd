use Rattle.std.proofs.Common.{ap, ◌∙◌}
use Rattle.std.specs.Prelude.{slice_get}
use Rattle.flyweight_view.proofs.view.look.Goals as goal

pub returns-in-Some-clause-level : goal.returns-in-Some-clause-level
returns-in-Some-clause-level c = ap (slice_get c.args.layout.now.messages) c.in-Some.ensures.walked.read.template_is ∙ c.in-Some.ensures.walked.read.level_is
