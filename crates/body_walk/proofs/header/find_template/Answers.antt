use Rattle.std.proofs.Common.{sym, ◌∙◌}
use Rattle.body_walk.proofs.Bodies.{named_within}
use Rattle.body_walk.proofs.header.find_template.Goals as goal

pub returns-in-Some-clause-within : goal.returns-in-Some-clause-within
returns-in-Some-clause-within c = named_within _ c.in-Some.template c.args.layout.now.messages (sym c.template.ensures ∙ c.in-Some.is)
