use Rattle.std.proofs.Common.{◌-◌, List, drop, length, take, sym, subst}
use Rattle.message_plans.specs.declared.plan.TemplatePlan.{TemplatePlan}
use Rattle.message_plans.proofs.Kinded.{all_made, first_in_order, later_in_order, none_yet, one_more_of, GoesBefore}
use Rattle.message_plans.proofs.making.templates_of.Goals as goal

pub levels-init : goal.levels-init
levels-init g c = record {
  order = c.requires.order;
  made = λ m h k.
      subst (λ (ts : List (TemplatePlan _)). GoesBefore g.R.RuleRow.follows_rule m c.args.levels.now c.args.levels.now ts) (sym c.new-templates.ensures)
      (none_yet g.R.RuleRow.follows_rule m c.args.levels.now);
}

pub template_of-requires : goal.template_of-requires
template_of-requires g c = record { order = first_in_order _ c.level-item.result c.levels.left.now c.in-len1-up.len_at_least c.level-item.is c.levels.invariant.order }

pub levels-preserved : goal.levels-preserved
levels-preserved g c = record {
  order = later_in_order c.levels.left.now c.levels.invariant.order;
  made = λ m h k.
      let left = c.levels.left.now in
      let rest = take (length left - 1) (drop 1 left) in
      subst (λ (ts : List (TemplatePlan _)). GoesBefore g.R.RuleRow.follows_rule m c.args.levels.now rest ts) (sym c.in_ok-push.ensures.ok)
      (one_more_of g.R.RuleRow.follows_rule m c.args.levels.now _ c.level-item.result c.levels.left.now c.levels.templates c.in_ok-template_of.field-0
      c.in-len1-up.len_at_least c.level-item.is (c.levels.invariant.made m h k) (c.in_ok-template_of.ensures m h k));
}

pub returns : goal.returns
returns g c = λ m h k. all_made g.R.RuleRow.follows_rule m c.args.levels.now c.levels.left.now c.levels.templates c.in_default.len_below (c.levels.invariant.made m h k)
