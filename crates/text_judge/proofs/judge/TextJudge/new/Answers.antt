use Rattle.std.proofs.Common.{map, ap, ◌∙◌}
use Rattle.sbe_types.specs.declared.schema.WireSchema.{WireSchema}
use Rattle.map_types.specs.Trees.{members_of}
use Rattle.bridge_mapping.specs.Mapped.{mapping_of}
use Rattle.exact_plans.specs.Exact.{is_exact}
use Rattle.text_judge.proofs.judge.TextJudge.new.Goals as goal

pub returns : goal.returns
returns c = λ same paired. record {
  plans = c.in_ok-plan.ensures;
  exact = c.in_ok-exact.ensures ∙ ap (map is_exact) (c.as_slice.ensures ∙ ap (λ (s : WireSchema). s.messages) c.schema.ensures.schema);
  only = c.in_ok-only.ensures _ _ c.in_ok-plan.ensures;
  head = c.new.ensures (mapping_of (members_of c.args.repository.now)).lists same;
  own_pairs = λ own. c.in_ok-own_pairs.ensures own paired;
}
