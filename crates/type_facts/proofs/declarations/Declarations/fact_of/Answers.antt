use Rattle.std.proofs.Common.{◌∙◌}
use Rattle.type_facts.proofs.Known.{member_known}
use Rattle.type_facts.proofs.declarations.Declarations.fact_of.Goals as goal

pub returns : goal.returns
returns c = c.member_fact.ensures ∙ member_known c.self.inside.types c.args.self.now c.as_slice.result.now c.args.member.now c.self.view_is (c.as_slice.ensures ∙ c.self.invariant.0)
