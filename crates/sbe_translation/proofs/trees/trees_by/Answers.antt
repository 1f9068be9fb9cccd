use Rattle.std.proofs.Common.{◌≡◌, ◌+◌, Some, length, slice_get, sym, ap, ◌∙◌, subst, arith}
use Rattle.bridge_cover.specs.Kinds.{HasKindsInOrder}
use Rattle.plan_rows.proofs.Finding.{held_at}
use Rattle.message_plans.proofs.Covering.{levels_in_order}
use Rattle.field_blocks.proofs.Lists.{one_longer}
use Rattle.sbe_translation.proofs.Planning.{covers_all, none_yet, one_tree_more, AreSoFar}
use Rattle.sbe_translation.proofs.trees.trees_by.Goals as goal

pub loop-i-init : goal.loop-i-init
loop-i-init c = record {
  size = ap length c.new-trees.ensures;
  within = omega arith;
  held = λ m tables messages short distinct plans. none_yet m c.args.checked.now.messages _ c.new-trees.ensures;
}

pub cover-requires : goal.cover-requires
cover-requires c = omega (arith, c.loop-i-test.true, c.len-i-end.ensures, ap (λ s. length s.messages) c.schema.ensures.schema, c.requires.planned.1.many)

pub tree_of-requires : goal.tree_of-requires
tree_of-requires c =
    let at = ap (λ s. slice_get s.messages c.loop-i.i) (sym c.schema.ensures.schema) ∙ c.at.ensures in
    record { order = held_at HasKindsInOrder c.args.checked.now.messages c.loop-i.i c.at.result.now (levels_in_order c.args.checked.now c.schema.ensures.order) at }

pub loop-i-preserved : goal.loop-i-preserved
loop-i-preserved c =
    let schema = c.args.checked.now in
    let levels = schema.messages in
    let i = c.loop-i.i in
    let level = c.at.result.now in
    let at = ap (λ s. slice_get s.messages i) (sym c.schema.ensures.schema) ∙ c.at.ensures in
    let own = c.in_ok-tree.tree in
    record {
      size = ap length c.in_ok-push.ensures.ok ∙ one_longer c.loop-i.trees own ∙ ap (λ n. n + 1) c.loop-i.invariant.size;
      within = omega (arith, c.loop-i-test.true, c.len-i-end.ensures, ap (λ s. length s.messages) c.schema.ensures.schema);
      held = λ m tables messages short distinct plans.
          let is = c.in_ok-tree.ensures m tables messages (c.cover.ensures m levels level plans at) (covers_all schema m i level c.schema.ensures.order short distinct at) in
          subst (AreSoFar m levels) (sym c.in_ok-push.ensures.ok)
          (one_tree_more m levels c.loop-i.trees own i level c.loop-i.invariant.size at is (c.loop-i.invariant.held m tables messages short distinct plans));
    }

pub returns : goal.returns
returns c = λ m tables messages short distinct plans. record {
  many = omega (arith, c.loop-i.invariant.size, c.loop-i.invariant.within, c.loop-i-test.false, c.len-i-end.ensures, ap (λ s. length s.messages) c.schema.ensures.schema);
  each = c.loop-i.invariant.held m tables messages short distinct plans;
}
