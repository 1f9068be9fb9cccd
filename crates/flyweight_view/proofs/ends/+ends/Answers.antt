use Rattle.std.proofs.Common.{◌∙◌, refl, sym, ap, arith}
use Rattle.flyweight_view.specs.declared.plan.Plan.{Plan}
use Rattle.flyweight_view.specs.declared.plan.Plan.TheVariants as plan
use Rattle.flyweight_view.specs.declared.plan.Span.{Span}
use Rattle.flyweight_view.specs.inner.Lefts.{rest_of}
use Rattle.flyweight_view.proofs.GroupSteps.{none_left, child_is, from, next_child, entered_there, group_read_there, step_stands, step_seen, step_rests}
use Rattle.body_walk.proofs.LevelsReady.{level_ready}
use Rattle.flyweight_view.proofs.Nexts.{first_seen, others_lie, others_seen, others_rests, none_behind}
use Rattle.body_walk.proofs.Opens.{level_within}
use Rattle.flyweight_view.proofs.TailsSeen.{first_stands, parts_line, parts_rest}
use Rattle.flyweight_view.proofs.ends.+ends.Goals as goal

-- ---- entries

pub entries_end-loop-init : goal.entries_end-loop-init
entries_end-loop-init t c = record {
  many = omega arith;
  lie = c.requires.lie;
  rest = refl;
}

pub entries_end-behind_first-left-requires : goal.entries_end-behind_first-left-requires
entries_end-behind_first-left-requires t c = (omega arith, (c.requires.layer, (c.loop.invariant.lie, omega (arith, c.loop.invariant.many, c.loop-test.true))))

pub entries_end-loop-preserved : goal.entries_end-loop-preserved
entries_end-loop-preserved t c = record {
  many = omega (arith, c.loop.invariant.many, c.behind_first-left.ensures.count);
  lie = c.behind_first-left.ensures.lie;
  rest = c.loop.invariant.rest ∙ c.behind_first-left.ensures.rest;
}

pub entries_end-returns-clause-rest : goal.entries_end-returns-clause-rest
entries_end-returns-clause-rest t c =
    c.loop.invariant.rest ∙ none_behind c.args.layer.now c.loop.left c.loop.invariant.lie (omega (arith, c.loop.invariant.many, c.loop.auto.counter-end, c.loop-test.false))

pub entries_end-returns-clause-within : goal.entries_end-returns-clause-within
entries_end-returns-clause-within t c = c.loop.invariant.lie.near

-- ---- the first entry

pub behind_first-returns-clause-lie : goal.behind_first-returns-clause-lie
behind_first-returns-clause-lie t c = others_lie c.args.layer.now c.args.left c.requires.lie c.requires.some c.entry_end-after.result c.entry_end-after.ensures.rest c.entry_end-after.ensures.within

pub behind_first-returns-clause-seen : goal.behind_first-returns-clause-seen
behind_first-returns-clause-seen t c = others_seen c.args.layer.now c.args.left c.requires.lie c.requires.some c.entry_end-after.result c.entry_end-after.ensures.rest

pub behind_first-returns-clause-rest : goal.behind_first-returns-clause-rest
behind_first-returns-clause-rest t c = others_rests c.args.layer.now c.args.left c.requires.lie c.requires.some c.entry_end-after.result c.entry_end-after.ensures.rest

pub entry_end-first_child-requires : goal.entry_end-first_child-requires
entry_end-first_child-requires t c = level_within c.args.layer.now.layout.now c.args.layer.now.number c.args.layer.now.level.now c.requires.layer.level_is

pub entry_end-groups_end-at-requires : goal.entry_end-groups_end-at-requires
entry_end-groups_end-at-requires t c =
    let l = c.args.layer.now in
    let s : Span = record { mode = l.mode; body = l.body; at = c.args.left.after; size = c.args.left.block } in
    let p : Plan = plan.Level l.layout l.number l.level in
    let seen = first_seen l c.args.left c.requires.lie c.requires.some c.requires.layer in
    (omega arith, (c.requires.layer, (first_stands s p seen l refl c.first_child.result c.first_child.ensures, refl)))

pub entry_end-parts_end-requires-clause-line : goal.entry_end-parts_end-requires-clause-line
entry_end-parts_end-requires-clause-line t c =
    let l = c.args.layer.now in
    let s : Span = record { mode = l.mode; body = l.body; at = c.args.left.after; size = c.args.left.block } in
    let p : Plan = plan.Level l.layout l.number l.level in
    let seen = first_seen l c.args.left c.requires.lie c.requires.some c.requires.layer in
    parts_line s p seen l refl c.first_child.result c.groups_end-at.result c.groups_end-at.ensures.rest c.groups_end-at.ensures.within

pub entry_end-returns-clause-rest : goal.entry_end-returns-clause-rest
entry_end-returns-clause-rest t c =
    let l = c.args.layer.now in
    let s : Span = record { mode = l.mode; body = l.body; at = c.args.left.after; size = c.args.left.block } in
    let p : Plan = plan.Level l.layout l.number l.level in
    let seen = first_seen l c.args.left c.requires.lie c.requires.some c.requires.layer in
    ap rest_of seen.reads.1 ∙ sym (parts_rest s p seen l refl c.first_child.result c.groups_end-at.result c.groups_end-at.ensures.rest) ∙ c.parts_end.ensures.rest

-- ---- groups

pub group_end-flat_end-requires-clause-flat : goal.group_end-flat_end-requires-clause-flat
group_end-flat_end-requires-clause-flat t c = sym (c.if-is_flat.ensures)

pub groups_end-returns-clause-rest : goal.groups_end-returns-clause-rest
groups_end-returns-clause-rest t c = c.loop.invariant.rest ∙ none_left c.args.layer.now c.loop.cursor (omega (arith, c.loop.invariant.next, c.loop-test.false, c.len-end.ensures))

pub step_group-dim_there-dim-requires-clause-layer : goal.step_group-dim_there-dim-requires-clause-layer
step_group-dim_there-dim-requires-clause-layer t c =
    let child = child_is c.args.layer.now c.args.cursor c.at-group.result.now c.requires.layer c.requires.stand c.at-group.ensures in
    record { ready = c.requires.layer.ready; level_is = child.level_is }

pub step_group-dim_there-dim-requires-clause-dim : goal.step_group-dim_there-dim-requires-clause-dim
step_group-dim_there-dim-requires-clause-dim t c = (child_is c.args.layer.now c.args.cursor c.at-group.result.now c.requires.layer c.requires.stand c.at-group.ensures).dim_is

pub step_group-dim_there-dim-requires-clause-read : goal.step_group-dim_there-dim-requires-clause-read
step_group-dim_there-dim-requires-clause-read t c = group_read_there c.args.layer.now c.args.cursor c.at-group.result.now c.requires.layer c.requires.stand c.at-group.ensures

pub step_group-group_end-at-requires : goal.step_group-group_end-at-requires
step_group-group_end-at-requires t c =
    let l = c.args.layer.now in
    let child = child_is l c.args.cursor c.at-group.result.now c.requires.layer c.requires.stand c.at-group.ensures in
    let from = from l c.args.cursor c.at-group.result.now c.requires.layer c.requires.stand c.at-group.ensures in (
      omega (arith, child.within, from.number, level_within l.layout.now l.number l.level.now c.requires.layer.level_is),
      (
        record { ready = c.requires.layer.ready; level_is = child.level_is },
        (
          c.dim_there-dim.ensures.lie,
          (c.requires.stand.near, entered_there l c.args.cursor c.at-group.result.now c.requires.layer c.requires.stand c.at-group.ensures c.dim_there-dim.result c.dim_there-dim.ensures.told),
        ),
      ),
    )

pub step_group-row-requires : goal.step_group-row-requires
step_group-row-requires t c = (child_is c.args.layer.now c.args.cursor c.at-group.result.now c.requires.layer c.requires.stand c.at-group.ensures).within

pub step_group-overflow_add-result : goal.step_group-overflow_add-result
step_group-overflow_add-result t c =
    let l = c.args.layer.now in
    let known = level_ready l.layout.now l.number l.level.now c.requires.layer.ready c.requires.layer.level_is in
    omega (arith, known.few, c.requires.more)

pub step_group-returns-clause-inner : goal.step_group-returns-clause-inner
step_group-returns-clause-inner t c =
    let child = child_is c.args.layer.now c.args.cursor c.at-group.result.now c.requires.layer c.requires.stand c.at-group.ensures in
    record { ready = c.requires.layer.ready; level_is = child.level_is }

pub step_group-returns-clause-stand : goal.step_group-returns-clause-stand
step_group-returns-clause-stand t c =
    let at = next_child c.args.layer.now c.args.cursor c.at-group.result.now c.requires.layer c.requires.stand c.at-group.ensures c.row.result.now c.row.ensures in
    step_stands c.args.layer.now c.args.cursor c.at-group.result.now c.requires.layer c.requires.stand c.at-group.ensures c.dim_there-dim.result c.dim_there-dim.ensures.told
    c.row.result.now.end c.group_end-at.result c.group_end-at.ensures.rest c.group_end-at.ensures.within at

pub step_group-returns-clause-seen : goal.step_group-returns-clause-seen
step_group-returns-clause-seen t c =
    step_seen c.args.layer.now c.args.cursor c.at-group.result.now c.requires.layer c.requires.stand c.at-group.ensures c.dim_there-dim.result c.dim_there-dim.ensures.told
    c.row.result.now.end c.group_end-at.result c.group_end-at.ensures.rest

pub step_group-returns-clause-rest : goal.step_group-returns-clause-rest
step_group-returns-clause-rest t c =
    step_rests c.args.layer.now c.args.cursor c.at-group.result.now c.requires.layer c.requires.stand c.at-group.ensures c.dim_there-dim.result c.dim_there-dim.ensures.told
    c.row.result.now.end c.group_end-at.result c.group_end-at.ensures.rest
