use Rattle.std.proofs.Common.{◌≡◌, ◌<◌, ◌+◌, ◌-◌, length, drop, get_or, refl, sym, ap, ◌∙◌, subst, arith, rules}
use Rattle.std.specs.Option.{option_and_then}
use Rattle.std.specs.Result.{result_ok}
use Rattle.sbe_types.specs.declared.schema.Group.{out-Group}
use Rattle.sbe_types.specs.declared.schema.Level.{out-Level}
use Rattle.sbe_wire.specs.Versions.{floor}
use Rattle.schema_facts.specs.Levels.{fields_in}
use Rattle.layout_tables.proofs.GroupWalk.{GroupsFrom, groups_begin}
use Rattle.body_walk.specs.inner.Cursor.{dim_from}
use Rattle.body_walk.proofs.LevelsReady.{row_parts, row_since}
use Rattle.body_walk.proofs.Opens.{group_dim, child_here, child_next, level_within}
use Rattle.level_skip.specs.Passing.{entry_in}
use Rattle.level_skip.specs.Behind.{offset_after, steps_behind, groups_behind, parts_behind}
use Rattle.level_skip.proofs.Steps.{entry_short, entry_whole, entry_stopped, groups_next, group_dead, group_entered, group_refused, steps_more, flat_is, flat_level, lengths_small}
use Rattle.level_skip.proofs.skip.+skip.Goals as goal

-- ---- an entry

pub pass_entry-returns-then-bytes-at-clause-told : goal.pass_entry-returns-then-bytes-at-clause-told
pass_entry-returns-then-bytes-at-clause-told t c =
    entry_short c.args.layout.now.order c.args.version c.args.level.now c.args.block c.args.bytes.now c.args.at c.requires.at (omega arith)

pub pass_entry-pass_parts-requires-clause-small : goal.pass_entry-pass_parts-requires-clause-small
pass_entry-pass_parts-requires-clause-small t c =
    lengths_small c.args.layout.now c.args.n c.args.level.now c.as_slice-parts.result.now c.requires.checked c.requires.level
    (c.as_slice-parts.ensures.value ∙ row_parts c.args.layout.now c.args.n c.row.result.now c.args.level.now c.row.ensures c.requires.level)

pub pass_entry-returns-in-Some-clause-told : goal.pass_entry-returns-in-Some-clause-told
pass_entry-returns-in-Some-clause-told t c =
    c.pass_parts.ensures.told
    ∙ ap (λ o. parts_behind o c.args.version c.as_slice-parts.result.now c.args.bytes.now c.in-Some.next) c.order.ensures
    ∙ entry_whole c.args.layout.now.order c.args.version c.args.level.now c.args.block c.args.bytes.now c.args.at c.requires.at (omega arith) c.as_slice-parts.result.now c.in-Some.next
    (c.as_slice-parts.ensures.value ∙ row_parts c.args.layout.now c.args.n c.row.result.now c.args.level.now c.row.ensures c.requires.level) c.in-Some.ensures.told

pub pass_entry-returns-in-None-clause-told : goal.pass_entry-returns-in-None-clause-told
pass_entry-returns-in-None-clause-told t c =
    entry_stopped c.args.layout.now.order c.args.version c.args.level.now c.args.block c.args.bytes.now c.args.at c.requires.at (omega arith) c.in-None.ensures.told

-- ---- groups

pub pass_groups-first_child-child-requires : goal.pass_groups-first_child-child-requires
pass_groups-first_child-child-requires t c = level_within c.args.layout.now c.args.n c.args.level.now c.requires.level

pub pass_groups-loop-i-init : goal.pass_groups-loop-i-init
pass_groups-loop-i-init t c =
    let schema = c.args.layout.now in
    let within = level_within schema c.args.n c.args.level.now c.requires.level in
    record {
      near = c.requires.at;
      same = c.as_slice-groups.ensures;
      from = subst (λ k. GroupsFrom schema c.args.n 0 k) (sym c.first_child-child.ensures) (groups_begin schema c.args.n within);
      told = refl;
    }

pub pass_groups-pass_group-requires : goal.pass_groups-pass_group-requires
pass_groups-pass_group-requires t c =
    let schema = c.args.layout.now in
    let level = c.args.level.now in
    let g = c.index-groups-i.result in
    let inv = c.loop-i.invariant in
    let below : c.loop-i.i < length c.as_slice-groups.result.now = search rules in
    let more : c.loop-i.i < length (out-Level level).groups = omega (arith, below, ap length inv.same) in
    let is : g ≡ get_or (out-Level level).groups c.loop-i.i g = subst (λ gs. g ≡ get_or gs c.loop-i.i g) inv.same c.index-groups-i.is in
    let child = child_here schema c.args.n level c.requires.level c.loop-i.child c.loop-i.i inv.from more g is in (
      omega (arith, child.within, inv.from.number, level_within schema c.args.n level c.requires.level),
      (c.requires.checked, (child.level_is, (child.dim_is, inv.near))),
    )

pub pass_groups-returns-in-None-clause-told : goal.pass_groups-returns-in-None-clause-told
pass_groups-returns-in-None-clause-told t c =
    let order = c.args.layout.now.order in
    let version = c.args.version in
    let bytes = c.args.bytes.now in
    let g = c.index-groups-i.result in
    let groups = (out-Level c.args.level.now).groups in
    let inv = c.loop-i.invariant in
    let below : c.loop-i.i < length c.as_slice-groups.result.now = search rules in
    let more : c.loop-i.i < length groups = omega (arith, below, ap length inv.same) in
    let is : g ≡ get_or groups c.loop-i.i g = subst (λ gs. g ≡ get_or gs c.loop-i.i g) inv.same c.index-groups-i.is in
    ap (option_and_then (groups_behind order version (drop (c.loop-i.i + 1) groups) bytes)) c.in-None.ensures.told
    ∙ sym (groups_next order version c.loop-i.i groups g bytes c.loop-i.at more is)
    ∙ inv.told

pub pass_groups-row-requires : goal.pass_groups-row-requires
pass_groups-row-requires t c =
    let level = c.args.level.now in
    let g = c.index-groups-i.result in
    let inv = c.loop-i.invariant in
    let below : c.loop-i.i < length c.as_slice-groups.result.now = search rules in
    let more : c.loop-i.i < length (out-Level level).groups = omega (arith, below, ap length inv.same) in
    let is : g ≡ get_or (out-Level level).groups c.loop-i.i g = subst (λ gs. g ≡ get_or gs c.loop-i.i g) inv.same c.index-groups-i.is in
    (child_here c.args.layout.now c.args.n level c.requires.level c.loop-i.child c.loop-i.i inv.from more g is).within

pub pass_groups-loop-i-preserved : goal.pass_groups-loop-i-preserved
pass_groups-loop-i-preserved t c =
    let order = c.args.layout.now.order in
    let version = c.args.version in
    let level = c.args.level.now in
    let bytes = c.args.bytes.now in
    let g = c.index-groups-i.result in
    let groups = (out-Level level).groups in
    let inv = c.loop-i.invariant in
    let below : c.loop-i.i < length c.as_slice-groups.result.now = search rules in
    let more : c.loop-i.i < length groups = omega (arith, below, ap length inv.same) in
    let is : g ≡ get_or groups c.loop-i.i g = subst (λ gs. g ≡ get_or gs c.loop-i.i g) inv.same c.index-groups-i.is in
    record {
      near = c.in-Some.ensures.within;
      same = inv.same;
      from = child_next c.args.layout.now c.args.n level c.requires.level c.loop-i.child c.loop-i.i inv.from more c.row.result.now c.row.ensures;
      told = ap (option_and_then (groups_behind order version (drop (c.loop-i.i + 1) groups) bytes)) c.in-Some.ensures.told
          ∙ sym (groups_next order version c.loop-i.i groups g bytes c.loop-i.at more is)
          ∙ inv.told;
    }

-- ---- a group

pub pass_group-returns-then-row-version-clause-told : goal.pass_group-returns-then-row-version-clause-told
pass_group-returns-then-row-version-clause-told t c =
    group_dead c.args.layout.now.order c.args.version c.args.group.now c.args.bytes.now c.args.at c.requires.at c.row-row.result.now.since
    (row_since c.args.layout.now c.args.n c.row-row.result.now (out-Group c.args.group.now).level c.row-row.ensures c.requires.level) c.if-row-version.true

pub pass_group-floor-least-requires : goal.pass_group-floor-least-requires
pass_group-floor-least-requires t c = level_within c.args.layout.now c.args.n (out-Group c.args.group.now).level c.requires.level

pub pass_group-returns-in-Some-find_dim-clause-told : goal.pass_group-returns-in-Some-find_dim-clause-told
pass_group-returns-in-Some-find_dim-clause-told t c =
    let schema = c.args.layout.now in
    let g = c.args.group.now in
    let row = c.row-row.result.now in
    let d = c.in-Some-find_dim.dim in
    let dim = group_dim schema c.args.n row c.in-Some.dim g c.row-row.ensures c.in-Some.is c.requires.dim in
    group_entered schema.order c.args.version g c.args.bytes.now c.args.at c.requires.at row.since c.floor-least.result
    (row_since schema c.args.n row (out-Group g).level c.row-row.ensures c.requires.level) c.if-row-version.false
    (c.floor-least.ensures ∙ ap (λ o. floor c.args.version (fields_in o)) c.requires.level)
    (d.block, d.count) d.after c.pass_entries.result
    (c.in-Some-find_dim.ensures.told (out-Group g).dim dim ∙ ap (λ o. result_ok (dim_from o (out-Group g).dim c.floor-least.result c.args.bytes.now c.args.at)) c.order.ensures)
    (c.in-Some-find_dim.ensures.after ∙ ap (λ w. c.args.at + w) dim.width) c.pass_entries.ensures.told

pub pass_group-returns-in-None-find_dim-clause-told : goal.pass_group-returns-in-None-find_dim-clause-told
pass_group-returns-in-None-find_dim-clause-told t c =
    let schema = c.args.layout.now in
    let g = c.args.group.now in
    let row = c.row-row.result.now in
    let dim = group_dim schema c.args.n row c.in-Some.dim g c.row-row.ensures c.in-Some.is c.requires.dim in
    group_refused schema.order c.args.version g c.args.bytes.now c.args.at c.requires.at row.since c.floor-least.result
    (row_since schema c.args.n row (out-Group g).level c.row-row.ensures c.requires.level) c.if-row-version.false
    (c.floor-least.ensures ∙ ap (λ o. floor c.args.version (fields_in o)) c.requires.level)
    (c.in-None-find_dim.ensures.told (out-Group g).dim dim ∙ ap (λ o. result_ok (dim_from o (out-Group g).dim c.floor-least.result c.args.bytes.now c.args.at)) c.order.ensures)

-- ---- entries

pub pass_entries-returns-then-is_flat-clause-told : goal.pass_entries-returns-then-is_flat-clause-told
pass_entries-returns-then-is_flat-clause-told t c =
    let level = c.args.level.now in
    let flat = flat_level level (sym c.if-is_flat.ensures) in
    c.pass_blocks.ensures.told
    ∙ flat_is c.args.layout.now.order c.args.version level flat.0 flat.1 c.args.dim.block c.args.bytes.now c.args.dim.count c.args.dim.after c.requires.at

pub pass_entries-returns-in-None-clause-told : goal.pass_entries-returns-in-None-clause-told
pass_entries-returns-in-None-clause-told t c =
    let step = offset_after (entry_in c.args.layout.now.order c.args.version c.args.level.now c.args.dim.block) c.args.bytes.now in
    ap (option_and_then (steps_behind step (c.args.dim.count - (c.loop.counter + 1)))) c.in-None.ensures.told
    ∙ sym (steps_more step c.loop.counter c.args.dim.count c.loop.at c.loop-test.true)
    ∙ c.loop.invariant.told

pub pass_entries-loop-preserved : goal.pass_entries-loop-preserved
pass_entries-loop-preserved t c =
    let step = offset_after (entry_in c.args.layout.now.order c.args.version c.args.level.now c.args.dim.block) c.args.bytes.now in
    record {
      near = c.in-Some.ensures.within;
      told = ap (option_and_then (steps_behind step (c.args.dim.count - (c.loop.counter + 1)))) c.in-Some.ensures.told
          ∙ sym (steps_more step c.loop.counter c.args.dim.count c.loop.at c.loop-test.true)
          ∙ c.loop.invariant.told;
    }
