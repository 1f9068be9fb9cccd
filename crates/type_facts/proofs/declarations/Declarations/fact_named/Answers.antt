use Rattle.std.proofs.Common.{◌∙◌}
use Rattle.type_facts.proofs.Known.{named_known}
use Rattle.type_facts.proofs.declarations.Declarations.fact_named.Goals as goal

pub returns : goal.returns
returns c = c.fact_in.ensures ∙ named_known c.self.inside.types c.args.self.now c.as_slice.result.now c.args.name.now c.self.view_is (c.as_slice.ensures ∙ c.self.invariant.0)
