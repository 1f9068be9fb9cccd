use Rattle.std.proofs.Common.{◌≡◌, [], ◌∷◌, ◌++◌, refl, ap, sym, subst, ◌∙◌, arith, length}
use Rattle.std.specs.Prelude.{false, slice_get}
use Rattle.std.specs.Option.{option_map}
use Rattle.serde_json.specs.Written.{comma_if}
use Rattle.sbe_types.specs.declared.message.Block.{out-Block}
use Rattle.flyweight_view.specs.TypedBlocks.{TypedBlock}
use Rattle.flyweight_view.specs.Deep.{deepest, deepest_in}
use Rattle.json_values.specs.Values.{zipped}
use Rattle.tree_json.specs.Lines.{group_name, group_entry, items_by}
use Rattle.json_values.specs.Plain.{entry_text, entries_text, plain_items}
use Rattle.tree_json.specs.Views.{entries_entry, entries_data, block_object}
use Rattle.printers.proofs.Printing.{then_prints, reprinted, prints_nothing}
use Rattle.json_values.proofs.Entries.{goes_on, ends_so, item_next}
use Rattle.tree_json.specs.Texts.{AreTexts, AreTextsOfAll, AreTextsOfGroup}
use Rattle.tree_json.proofs.LevelTextsOf.{GroupsHave, groups_have, texts_within}
use Rattle.flyweight_view.proofs.Depth.{AreWithin, seen_within, first_within, some_deep}
use Rattle.tree_json.proofs.Blocks.{front_closed}
use Rattle.tree_json.proofs.HeadText.{front_is, no_groups, some_groups}
use Rattle.tree_json.proofs.Views.{groups_are, none_left}
use Rattle.tree_json.proofs.ViewSteps.{part_of, view_next, view_over}
use Rattle.tree_json.proofs.block.+block.Goals as goal

pub put_front-returns-then-count-eq0 : goal.put_front-returns-then-count-eq0
put_front-returns-then-count-eq0 g t c =
    let s = c.args.block.now in
    let none = no_groups s.groups (out-Block s.block).groups (omega (arith, c.if-count-eq0.true, ap (λ r. r.1) c.counts-count.ensures)) in
    reprinted (front_is s) (then_prints c.put_head.ensures (reprinted none prints_nothing))

pub put_front-returns : goal.put_front-returns
put_front-returns g t c =
    let s = c.args.block.now in
    let some = some_groups s.groups (out-Block s.block).groups (omega (arith, c.if-count-eq0.false, ap (λ r. r.1) c.counts-count.ensures)) in
    let groups = reprinted (ap (λ (b : TypedBlock). entries_text false (zipped group_entry b.groups (out-Block b.block).groups)) c.again.ensures) c.put_groups.ensures in
    reprinted (front_is s) (then_prints c.put_head.ensures (reprinted some groups))

pub put_front-put_groups-requires : goal.put_front-put_groups-requires
put_front-put_groups-requires g t c = λ κs lives. (
  omega (arith, ap (λ (b : TypedBlock). deepest b.groups) c.again.ensures, c.decreases),
  (lives.0, (lives.1, subst (AreTexts (g.T.Kept.texts c.args.texts)) (sym c.again.ensures) c.requires)),
)

pub put_entry-returns : goal.put_entry-returns
put_entry-returns g t c =
    reprinted (ap (λ r. comma_if c.args.later ++ r) (front_closed c.args.entry.now)) (then_prints c.put_comma.ensures (then_prints c.put_front.ensures c.put.ensures))

pub put_groups-loop-i-init : goal.put_groups-loop-i-init
put_groups-loop-i-init g t c =
    let groups = c.args.block.now.groups in
    record {
      count = omega (arith, c.groups-groups.ensures.count);
      within = subst (AreWithin (deepest groups)) (sym c.groups-groups.ensures.seen) (seen_within (deepest groups) groups (out-Block c.args.block.now.block).groups (omega arith));
      texts = subst (GroupsHave (g.T.Kept.texts c.args.texts) 0) (sym c.groups-groups.ensures.seen) (groups_have (g.T.Kept.texts c.args.texts) c.args.block.now c.requires);
      written = ([], prints_nothing, refl);
    }

pub put_groups-group-inner-requires : goal.put_groups-group-inner-requires
put_groups-group-inner-requires g t c =
    texts_within (g.T.Kept.texts c.args.texts) c.args.block.now c.loop-i.i c.requires (omega (arith, c.loop-i-test.true, ap (λ r. r.1) c.counts-count.ensures))

pub put_groups-put_group-later-requires : goal.put_groups-put_group-later-requires
put_groups-put_group-later-requires g t c =
    let groups = c.args.block.now.groups in
    let some = some_deep groups (omega (arith, c.loop-i-test.true, ap (λ r. r.1) c.counts-count.ensures)) in
    let low = first_within (deepest groups) c.next_group.result c.next_group.new.self c.loop-i.groups c.next_group.ensures some c.loop-i.invariant.within in
    let texts = subst (GroupsHave (g.T.Kept.texts c.args.texts) c.loop-i.i) c.next_group.ensures c.loop-i.invariant.texts in
    λ κs lives. (omega (arith, low.0, c.decreases), (lives.0, (lives.1, subst (λ o. AreTextsOfGroup o c.next_group.result) (sym c.group-inner.ensures) texts.0)))

pub put_groups-loop-i-preserved : goal.put_groups-loop-i-preserved
put_groups-loop-i-preserved g t c =
    let so_far = c.loop-i.invariant in
    let later = c.loop-i.later in
    let groups = c.args.block.now.groups in
    let entries = c.next_group.result in
    let some = some_deep groups (omega (arith, c.loop-i-test.true, ap (λ r. r.1) c.counts-count.ensures)) in
    let low = first_within (deepest groups) entries c.next_group.new.self c.loop-i.groups c.next_group.ensures some so_far.within in
    let group = part_of group_name (slice_get groups c.loop-i.i) c.group_name.result.now c.group_name.ensures in
    let next = view_next entries_entry later c.loop-i.i groups group.0 entries c.next_group.new.self c.loop-i.groups group.1 c.next_group.ensures in
    let one = reprinted (ap (λ name. entry_text later (name, option_map entries_data entries)) (sym group.2)) c.put_group-later.ensures.text in
    let texts = subst (GroupsHave (g.T.Kept.texts c.args.texts) c.loop-i.i) c.next_group.ensures so_far.texts in
    record {
      count = omega (arith, so_far.count, ap length c.next_group.ensures);
      within = low.1;
      texts = texts.1;
      written = (_, then_prints so_far.written.1 one, rw c.put_group-later.ensures.later (goes_on so_far.written.0 _ _ _ _ next so_far.written.2));
    }

pub put_groups-returns : goal.put_groups-returns
put_groups-returns g t c =
    let so_far = c.loop-i.invariant.written in
    let groups = c.args.block.now.groups in
    let values = (out-Block c.args.block.now.block).groups in
    let none = view_over entries_entry c.loop-i.later c.loop-i.i groups c.loop-i.groups (omega (arith, ap (λ r. r.1) c.counts-count.ensures)) in
    let whole = ap (λ vs. entries_text false (zipped entries_entry groups vs)) c.groups-groups.ensures.seen ∙ ap (entries_text false) (groups_are groups values) in
    reprinted (ends_so so_far.0 _ _ _ none so_far.2 ∙ whole) (then_prints so_far.1 c.put.ensures)

pub put_entries-put_views-requires : goal.put_entries-put_views-requires
put_entries-put_views-requires g t c = λ κs lives. (omega (arith, c.put_first_entries-later.ensures.low, c.decreases), (lives.0, (lives.1, c.put_first_entries-later.ensures.left)))

pub put_entries-returns-then-len-eq0 : goal.put_entries-returns-then-len-eq0
put_entries-returns-then-len-eq0 g t c =
    let front = c.put_first_entries-later.ensures.text in
    let none = none_left c.put_first_entries-later.result c.put_first_entries-later.new.entries (omega (arith, c.if-len-eq0.true, c.len.ensures)) in
    then_prints c.put.ensures (reprinted (ap (λ l. front.done ++ l) none ∙ front.whole) (then_prints front.printed c.put-then-len-eq0.ensures))

pub put_entries-returns : goal.put_entries-returns
put_entries-returns g t c =
    let front = c.put_first_entries-later.ensures.text in
    then_prints c.put.ensures (reprinted front.whole (then_prints front.printed c.put_views.ensures))

pub put_views-loop-entry-init : goal.put_views-loop-entry-init
put_views-loop-entry-init g t c =
    let same = c.into_iter-entry-iterator.ensures.into_iter_gives in
    record { low = omega (arith, ap deepest_in same); texts = subst (AreTextsOfAll (g.T.Kept.texts c.args.texts)) (sym same) c.requires; written = ([], prints_nothing, ap (λ es. plain_items c.args.later (items_by block_object es)) same) }

pub put_views-put_entry-requires : goal.put_views-put_entry-requires
put_views-put_entry-requires g t c =
    let so_far = c.loop-entry.invariant in
    λ κs lives. (
      omega (arith, so_far.low, ap deepest_in c.in-Some.ensures.steps, c.decreases),
      (lives.0, (lives.1, (subst (AreTextsOfAll (g.T.Kept.texts c.args.texts)) c.in-Some.ensures.steps so_far.texts).0)),
    )

pub put_views-loop-entry-preserved : goal.put_views-loop-entry-preserved
put_views-loop-entry-preserved g t c =
    let so_far = c.loop-entry.invariant in
    let later = c.loop-entry.later in
    let rest = c.next.new.self in
    let steps : c.loop-entry.entry-iterator ≡ c.in-Some.entry ∷ rest = c.in-Some.ensures.steps in
    let next = sym (ap (λ es. plain_items later (items_by block_object es)) steps ∙ item_next later (block_object c.in-Some.entry) (items_by block_object rest)) in
    record {
      low = omega (arith, so_far.low, ap deepest_in steps);
      texts = (subst (AreTextsOfAll (g.T.Kept.texts c.args.texts)) steps so_far.texts).1;
      written = (_, then_prints so_far.written.1 c.put_entry.ensures, goes_on so_far.written.0 _ _ _ _ next so_far.written.2);
    }

pub put_views-returns : goal.put_views-returns
put_views-returns g t c =
    let so_far = c.loop-entry.invariant.written in
    let none = sym (ap (λ es. plain_items c.loop-entry.later (items_by block_object es)) c.in-None.ensures.steps.0) in
    reprinted (ends_so so_far.0 _ _ _ none so_far.2) (then_prints so_far.1 c.put.ensures)
