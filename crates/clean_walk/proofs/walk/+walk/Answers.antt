use Rattle.std.proofs.Common.{◌<◌, ℕ, length, refl, sym, ap, ◌∙◌, subst, arith}
use Rattle.sbe_types.specs.declared.schema.DataField.{DataField}
use Rattle.sbe_types.specs.declared.schema.Group.{Group, out-Group}
use Rattle.sbe_types.specs.declared.schema.Level.{out-Level}
use Rattle.layout_tables.proofs.GroupWalk.{GroupsFrom, groups_begin}
use Rattle.body_walk.proofs.Opens.{child_next, level_within}
use Rattle.clean_bodies.specs.Steps.{EntryStep, GroupStep, PartStep}
use Rattle.clean_bodies.specs.Whole.{Chain, Times}
use Rattle.clean_bodies.proofs.Chains.{chain_done, chain_more, times_more}
use Rattle.clean_walk.specs.inner.Heads.{GroupSays}
use Rattle.clean_walk.specs.inner.Places.{place_in}
use Rattle.clean_walk.proofs.Entries.{if_more, parts_good, group_good, entry_walked, group_walked, plain_walked}
use Rattle.clean_walk.proofs.Rows.{table_there, block_size, block_there, child_of}
use Rattle.clean_walk.proofs.walk.+walk.Goals as goal

-- ---- an entry

pub entry_end-row-row-requires : goal.entry_end-row-row-requires
entry_end-row-row-requires t c = level_within c.args.layout.now c.args.n c.args.level.now c.requires.level

pub entry_end-is_clean_block-requires : goal.entry_end-is_clean_block-requires
entry_end-is_clean_block-requires t c = table_there c.args.layout.now c.args.n c.row-row.result.now c.args.level.now c.row-row.ensures c.requires.level

pub entry_end-parts_end-requires-clause-good : goal.entry_end-parts_end-requires-clause-good
entry_end-parts_end-requires-clause-good t c =
    parts_good c.args.layout.now.version c.args.level.now c.as_slice-parts.result.now c.as_slice-parts.ensures c.requires.good

pub entry_end-returns-clause-whole : goal.entry_end-returns-clause-whole
entry_end-returns-clause-whole t c =
    let schema = c.args.layout.now in
    let place = place_in schema c.args.body.now in
    let level = c.args.level.now in
    let row = c.row-row.result.now in
    if_more (Chain DataField (PartStep place) c.as_slice-parts.result.now c.in_ok-next.next) (EntryStep place level c.args.at)
    (λ (n : ℕ) parts.
    entry_walked place level c.as_slice-parts.result.now c.args.at row.block c.in_ok-next.next n (block_size schema c.args.n row level c.row-row.ensures c.requires.level) c.as_slice-parts.ensures c.requires.good c.requires.bytes
    (block_there schema c.args.n row level c.row-row.ensures c.requires.level _ c.requires.good.placed (c.if-not-is_clean_block.ensures refl)) c.in_ok-next.ensures.whole parts) c.parts_end.result c.parts_end.ensures.whole

pub entry_end-returns-then-is_empty-2-clause-whole : goal.entry_end-returns-then-is_empty-2-clause-whole
entry_end-returns-then-is_empty-2-clause-whole t c =
    let schema = c.args.layout.now in
    let level = c.args.level.now in
    let row = c.row-row.result.now in
    plain_walked (place_in schema c.args.body.now) level c.as_slice.result.now c.as_slice-parts.result.now c.args.at row.block
    (block_size schema c.args.n row level c.row-row.ensures c.requires.level) c.as_slice.ensures c.as_slice-parts.ensures c.requires.good c.requires.bytes
    (block_there schema c.args.n row level c.row-row.ensures c.requires.level _ c.requires.good.placed (c.if-not-is_clean_block.ensures refl))
    (sym c.is_empty.ensures ∙ c.if-is_empty.true) (sym c.is_empty-then-is_empty.ensures ∙ c.if-is_empty-2.true)

-- ---- groups

pub groups_end-first_child-child-requires : goal.groups_end-first_child-child-requires
groups_end-first_child-child-requires t c = level_within c.args.layout.now c.args.n c.args.level.now c.requires.level

pub groups_end-loop-group-init : goal.groups_end-loop-group-init
groups_end-loop-group-init t c =
    let schema = c.args.layout.now in
    let within = level_within schema c.args.n c.args.level.now c.requires.level in
    record {
      near = c.requires.at;
      same = c.as_slice-groups.ensures;
      from = subst (λ k. GroupsFrom schema c.args.n 0 k) (sym c.first_child-child.ensures) (groups_begin schema c.args.n within);
      leads = λ next chain. chain;
    }

pub groups_end-group_end-requires : goal.groups_end-group_end-requires
groups_end-group_end-requires t c =
    let schema = c.args.layout.now in
    let level = c.args.level.now in
    let i = c.loop-group.group-index in
    let g = c.group-item.result in
    let inv = c.loop-group.invariant in
    let child = child_of schema c.args.n level c.requires.level c.as_slice-groups.result.now i c.loop-group.child g inv.same inv.from c.loop-group-test.true c.group-item.is in (
      omega (arith, child.within, inv.from.number, level_within schema c.args.n level c.requires.level),
      (child.level_is, (group_good schema.version level c.as_slice-groups.result.now i g inv.same c.loop-group-test.true c.group-item.is c.requires.good, (c.requires.bytes, inv.near))),
    )

pub groups_end-row-requires : goal.groups_end-row-requires
groups_end-row-requires t c =
    let inv = c.loop-group.invariant in
    (child_of c.args.layout.now c.args.n c.args.level.now c.requires.level c.as_slice-groups.result.now c.loop-group.group-index c.loop-group.child c.group-item.result inv.same inv.from c.loop-group-test.true
    c.group-item.is).within

pub groups_end-loop-group-preserved : goal.groups_end-loop-group-preserved
groups_end-loop-group-preserved t c =
    let schema = c.args.layout.now in
    let level = c.args.level.now in
    let groups = c.as_slice-groups.result.now in
    let i = c.loop-group.group-index in
    let inv = c.loop-group.invariant in
    let more : i < length (out-Level level).groups = omega (arith, c.loop-group-test.true, ap length inv.same) in
    record {
      near = c.in-Some.ensures.within;
      same = inv.same;
      from = child_next schema c.args.n level c.requires.level c.loop-group.child i inv.from more c.row.result.now c.row.ensures;
      leads =
          chain_more Group (GroupStep (place_in schema c.args.body.now)) groups i c.loop-group.next c.in-Some.end c.args.at c.group-item.result inv.leads c.loop-group-test.true c.group-item.is
          c.in-Some.ensures.whole;
    }

pub groups_end-returns-clause-whole : goal.groups_end-returns-clause-whole
groups_end-returns-clause-whole t c =
    let place = place_in c.args.layout.now c.args.body.now in
    let groups = c.as_slice-groups.result.now in
    let i = c.loop-group.group-index in
    let inv = c.loop-group.invariant in
    subst (λ gs. Chain Group (GroupStep place) gs c.args.at c.loop-group.next) inv.same
    (chain_done Group (GroupStep place) groups i c.loop-group.next c.args.at inv.leads (omega (arith, c.loop-group-test.false)))

-- ---- a group

pub group_end-returns-clause-whole : goal.group_end-returns-clause-whole
group_end-returns-clause-whole t c =
    let place = place_in c.args.layout.now c.args.body.now in
    if_more (Times (EntryStep place (out-Group c.args.group.now).level) c.in_ok-count.count c.in_ok-count.after) (GroupStep place c.args.group.now c.args.at)
    (λ (n : ℕ) steps. group_walked place c.args.group.now c.in_ok-count.count c.args.at c.in_ok-count.after n c.requires.good c.requires.bytes
    (subst (λ o. GroupSays o c.args.body.now c.args.group.now c.in_ok-count.count c.args.at) c.order.ensures c.in_ok-count.ensures.says) c.in_ok-count.ensures.end steps)
    c.entries_end.result c.entries_end.ensures.whole

-- ---- entries

pub entries_end-loop-done-preserved : goal.entries_end-loop-done-preserved
entries_end-loop-done-preserved t c = record {
  near = c.in-Some.ensures.within;
  leads =
      times_more (EntryStep (place_in c.args.layout.now c.args.body.now) c.args.level.now) c.args.count c.loop-done.done
      c.loop-done.next c.in-Some.end c.args.at c.loop-done.invariant.leads c.loop-done-test.true
      c.in-Some.ensures.whole;
}
