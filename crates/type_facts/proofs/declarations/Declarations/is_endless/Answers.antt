use Rattle.std.proofs.Common.{◌∙◌}
use Rattle.type_facts.proofs.Known.{endless_known}
use Rattle.type_facts.proofs.declarations.Declarations.is_endless.Goals as goal

pub returns : goal.returns
returns c = c.goes_composite_on.ensures ∙ endless_known c.self.inside.types c.args.self.now c.as_slice.result.now c.args.composite.now c.self.view_is (c.as_slice.ensures ∙ c.self.invariant.1)
