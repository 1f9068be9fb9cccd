use Rattle.std.proofs.Common.{ap, ◌∙◌}
use Rattle.std.specs.Prelude.{not}
use Rattle.std.specs.List.{list_any}
use Rattle.message_plans.specs.Plans.{has_kind}
use Rattle.message_plans.proofs.making.template_of.Goals as goal

pub returns : goal.returns
returns g c = λ m h k. record {
  kind = c.in_ok-msg_type.ensures ∙ c.as_slice.ensures;
  alone = ap not (c.is_among-alone.ensures ∙ ap (λ kind. list_any (has_kind kind) c.args.others.now) c.as_slice-2.ensures);
  cover = c.in_ok-cover.ensures m h k;
}
