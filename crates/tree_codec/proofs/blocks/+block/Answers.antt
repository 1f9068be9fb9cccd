use Rattle.std.proofs.Common.{◌≡◌, ◌++◌, ◌∷◌, [], length, ap, sym, subst, ◌∙◌, arith}
use Rattle.std.specs.Prelude.{map}
use Rattle.sbe_types.specs.declared.message.Block.{out-Block}
use Rattle.flyweight_view.specs.Deep.{deepest, deepest_in}
use Rattle.tree_codec.specs.Trees.{blocks_of, group_of, AllWhole, AreWholeGroups}
use Rattle.flyweight_view.proofs.Depth.{AreWithin, seen_within, first_within, some_deep}
use Rattle.tree_codec.proofs.Steps.{seen_next, seen_over}
use Rattle.tree_codec.proofs.TreesBack.{groups_back, groups_seen_whole, first_whole, first_entry}
use Rattle.tree_codec.proofs.blocks.+block.Goals as goal

pub group_trees-loop-i-init : goal.group_trees-loop-i-init
group_trees-loop-i-init t c =
    let groups = c.args.block.now.groups in
    let values = (out-Block c.args.block.now.block).groups in
    let seen = sym c.groups-groups.ensures.seen in
    record {
      count = omega (arith, c.groups-groups.ensures.count);
      within = subst (AreWithin (deepest groups)) seen (seen_within (deepest groups) groups values (omega arith));
      whole = subst AreWholeGroups seen (groups_seen_whole groups values c.requires.groups);
      gathered = ap (λ vs. vs ++ map group_of c.groups-groups.result) c.new-trees.ensures;
    }

pub group_trees-group_tree-requires : goal.group_trees-group_tree-requires
group_trees-group_tree-requires t c =
    let groups = c.args.block.now.groups in
    let some = some_deep groups (omega (arith, c.loop-i-test.true, ap (λ r. r.1) c.counts-count.ensures)) in
    let low = first_within (deepest groups) c.next_group.result c.next_group.new.self c.loop-i.groups c.next_group.ensures some c.loop-i.invariant.within in
    let whole = first_whole c.next_group.result c.next_group.new.self c.loop-i.groups c.next_group.ensures c.loop-i.invariant.whole in
    (omega (arith, low.0, c.decreases), whole.0)

pub group_trees-loop-i-preserved : goal.group_trees-loop-i-preserved
group_trees-loop-i-preserved t c =
    let so_far = c.loop-i.invariant in
    let groups = c.args.block.now.groups in
    let entries = c.next_group.result in
    let left = c.next_group.new.self in
    let some = some_deep groups (omega (arith, c.loop-i-test.true, ap (λ r. r.1) c.counts-count.ensures)) in
    let low = first_within (deepest groups) entries left c.loop-i.groups c.next_group.ensures some so_far.within in
    let whole = first_whole entries left c.loop-i.groups c.next_group.ensures so_far.whole in
    let next = seen_next group_of c.loop-i.trees (map group_of c.groups-groups.result) entries left c.loop-i.groups c.in_ok-group_tree.field-0 c.next_group.ensures c.in_ok-group_tree.ensures so_far.gathered in
    record {
      count = omega (arith, so_far.count, ap length c.next_group.ensures);
      within = low.1;
      whole = whole.1;
      gathered = ap (λ vs. vs ++ map group_of left) c.in_ok-push.ensures.ok ∙ next;
    }

pub group_trees-returns : goal.group_trees-returns
group_trees-returns t c =
    let so_far = c.loop-i.invariant in
    let groups = c.args.block.now.groups in
    let over = seen_over group_of c.loop-i.trees (map group_of c.groups-groups.result) c.loop-i.groups (omega (arith, so_far.count, ap (λ r. r.1) c.counts-count.ensures)) so_far.gathered in
    over ∙ ap (map group_of) c.groups-groups.ensures.seen ∙ groups_back groups (out-Block c.args.block.now.block).groups c.requires.groups

pub entry_trees-loop-entry-init : goal.entry_trees-loop-entry-init
entry_trees-loop-entry-init t c =
    let same = c.into_iter-entry-iterator.ensures.into_iter_gives in
    record { low = omega (arith, ap deepest_in same); whole = subst AllWhole (sym same) c.requires; gathered = ap (λ bs. bs ++ blocks_of c.into_iter-entry-iterator.result) c.new-blocks.ensures ∙ ap blocks_of same }

pub entry_trees-block_tree-requires : goal.entry_trees-block_tree-requires
entry_trees-block_tree-requires t c =
    let whole = first_entry c.in-Some.entry c.next.new.self c.loop-entry.entry-iterator c.in-Some.ensures.steps c.loop-entry.invariant.whole in
    (omega (arith, c.loop-entry.invariant.low, ap deepest_in c.in-Some.ensures.steps, c.decreases), whole.0)

pub entry_trees-loop-entry-preserved : goal.entry_trees-loop-entry-preserved
entry_trees-loop-entry-preserved t c =
    let so_far = c.loop-entry.invariant in
    let left = c.next.new.self in
    let steps : c.loop-entry.entry-iterator ≡ c.in-Some.entry ∷ left = c.in-Some.ensures.steps in
    let whole = first_entry c.in-Some.entry left c.loop-entry.entry-iterator steps so_far.whole in
    let next = seen_next (λ s. s.block) c.loop-entry.blocks (blocks_of c.args.entries) c.in-Some.entry left c.loop-entry.entry-iterator c.in_ok-block_tree.field-0 steps c.in_ok-block_tree.ensures so_far.gathered in
    record {
      low = omega (arith, so_far.low, ap deepest_in steps);
      whole = whole.1;
      gathered = ap (λ bs. bs ++ blocks_of left) c.in_ok-push.ensures.ok ∙ next;
    }

pub entry_trees-returns : goal.entry_trees-returns
entry_trees-returns t c =
    let so_far = c.loop-entry.invariant in
    let none : c.loop-entry.entry-iterator ≡ [] = c.in-None.ensures.steps.0 in
    seen_over (λ s. s.block) c.loop-entry.blocks (blocks_of c.args.entries) c.loop-entry.entry-iterator (omega (arith, ap length none)) so_far.gathered
