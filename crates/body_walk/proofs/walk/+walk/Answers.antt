use Rattle.std.proofs.Common.{◌≡◌, ◌<◌, ◌+◌, length, drop, get_or, Ok, Err, sym, ap, ◌∙◌, subst, arith, rules}
use Rattle.body_walk.specs.declared.found.Found.{Found}
use Rattle.sbe_types.specs.declared.path.Step.TheVariants as way
use Rattle.sbe_types.specs.declared.schema.Group.{out-Group}
use Rattle.sbe_types.specs.declared.schema.Level.{out-Level}
use Rattle.sbe_wire.specs.Reading.{◌>>=◌, inside}
use Rattle.sbe_wire.specs.Versions.{floor}
use Rattle.schema_facts.specs.Levels.{fields_in}
use Rattle.layout_tables.proofs.GroupWalk.{GroupsFrom, groups_begin}
use Rattle.body_walk.specs.inner.Cursor.{skim, entries_read, groups_end, steps_end}
use Rattle.body_walk.specs.inner.Outcomes.{fault_of}
use Rattle.body_walk.proofs.BlockRows.{block_row}
use Rattle.body_walk.proofs.LevelsReady.{level_ready, row_parts, row_since, parts_small, parts_few, group_shallow}
use Rattle.body_walk.proofs.Opens.{steps_more, steps_err, entry_told, flat_told, flat_groups, flat_parts, tail_told, tail_refused, group_dead, group_told, group_dim, groups_next, child_here, child_next, item_at, level_within}
use Rattle.body_walk.proofs.walk.+walk.Goals as goal

-- ---- entries

pub walk_entries-walk_blocks-requires-clause-groups : goal.walk_entries-walk_blocks-requires-clause-groups
walk_entries-walk_blocks-requires-clause-groups t c = flat_groups c.args.level.now (sym c.if-is_flat.ensures)

pub walk_entries-walk_blocks-requires-clause-parts : goal.walk_entries-walk_blocks-requires-clause-parts
walk_entries-walk_blocks-requires-clause-parts t c = flat_parts c.args.level.now (sym c.if-is_flat.ensures)

pub walk_entries-returns-in-None-clause-told : goal.walk_entries-returns-in-None-clause-told
walk_entries-returns-in-None-clause-told t c =
    let step = skim (entries_read c.args.mode c.args.level.now c.args.dim.block) c.args.body.now in
    ap (λ f. Err (fault_of f)) c.under.ensures
    ∙ steps_err step c.loop-i.i c.args.dim.count c.loop-i.at (fault_of c.walk_entry.new.out) c.loop-i-test.true c.in-None.ensures.told
    ∙ c.loop-i.invariant.told

pub walk_entries-loop-i-preserved : goal.walk_entries-loop-i-preserved
walk_entries-loop-i-preserved t c =
    let step = skim (entries_read c.args.mode c.args.level.now c.args.dim.block) c.args.body.now in
    record {
      near = c.in-Some.ensures.within;
      told = steps_more step c.loop-i.i c.args.dim.count c.loop-i.at c.in-Some.next c.loop-i-test.true c.in-Some.ensures.told ∙ c.loop-i.invariant.told;
    }

-- ---- an entry

pub walk_entry-walk_block-requires-clause-row : goal.walk_entry-walk_block-requires-clause-row
walk_entry-walk_block-requires-clause-row t c =
    block_row c.args.layout.now c.args.n c.row.result.now c.args.level.now c.args.mode.version c.args.block c.requires.schema c.row.ensures c.requires.level c.requires.reaches

pub walk_entry-returns-in-None-clause-told : goal.walk_entry-returns-in-None-clause-told
walk_entry-returns-in-None-clause-told t c =
    entry_told c.args.mode c.args.level.now c.args.block c.args.body.now c.args.at c.requires.at (Err (fault_of c.walk_block.new.out)) c.in-None.ensures.told

pub walk_entry-returns-then-is_flat-clause-told : goal.walk_entry-returns-then-is_flat-clause-told
walk_entry-returns-then-is_flat-clause-told t c =
    c.in-Some.ensures.told
    ∙ flat_told c.args.mode c.args.level.now c.args.block c.args.body.now c.args.at c.requires.at (flat_groups c.args.level.now (sym c.if-is_flat.ensures)) (flat_parts c.args.level.now (sym c.if-is_flat.ensures))

pub walk_entry-returns-else-is_flat-clause-told : goal.walk_entry-returns-else-is_flat-clause-told
walk_entry-returns-else-is_flat-clause-told t c =
    c.walk_tail.ensures.told
    ∙ entry_told c.args.mode c.args.level.now c.args.block c.args.body.now c.args.at c.requires.at (Ok c.in-Some.next) c.in-Some.ensures.told

-- ---- a group

pub walk_group-returns-then-row-mode-clause-told : goal.walk_group-returns-then-row-mode-clause-told
walk_group-returns-then-row-mode-clause-told t c =
    group_dead c.args.mode c.args.group.now c.args.body.now c.args.at c.requires.at c.row-row.result.now.since
    (row_since c.args.layout.now c.args.n c.row-row.result.now (out-Group c.args.group.now).level c.row-row.ensures c.requires.level) c.if-row-mode.true

pub walk_group-floor-least-requires : goal.walk_group-floor-least-requires
walk_group-floor-least-requires t c = level_within c.args.layout.now c.args.n (out-Group c.args.group.now).level c.requires.level

pub walk_group-returns-in-Some-walk_dim-clause-told : goal.walk_group-returns-in-Some-walk_dim-clause-told
walk_group-returns-in-Some-walk_dim-clause-told t c =
    let schema = c.args.layout.now in
    let g = c.args.group.now in
    let row = c.row-row.result.now in
    let d = c.in-Some-walk_dim.dim in
    let dim = group_dim schema c.args.n row c.in-Some.dim g c.row-row.ensures c.in-Some.is c.requires.dim in
    c.walk_entries.ensures.told
    ∙ ap (λ a. steps_end (skim (entries_read c.args.mode (out-Group g).level d.block) c.args.body.now) 0 d.count a) (c.in-Some-walk_dim.ensures.after ∙ ap (λ w. c.args.at + w) dim.width)
    ∙ group_told c.args.mode g c.args.body.now c.args.at c.requires.at row.since c.floor-least.result (Ok (d.block, d.count))
    (row_since schema c.args.n row (out-Group g).level c.row-row.ensures c.requires.level) c.if-row-mode.false
    (c.floor-least.ensures ∙ ap (λ o. floor c.args.mode.version (fields_in o)) c.requires.level) (c.in-Some-walk_dim.ensures.told (out-Group g).dim dim)

pub walk_group-returns-in-None-walk_dim-clause-told : goal.walk_group-returns-in-None-walk_dim-clause-told
walk_group-returns-in-None-walk_dim-clause-told t c =
    let schema = c.args.layout.now in
    let g = c.args.group.now in
    let row = c.row-row.result.now in
    let dim = group_dim schema c.args.n row c.in-Some.dim g c.row-row.ensures c.in-Some.is c.requires.dim in
    group_told c.args.mode g c.args.body.now c.args.at c.requires.at row.since c.floor-least.result (Err (fault_of c.walk_dim.new.out))
    (row_since schema c.args.n row (out-Group g).level c.row-row.ensures c.requires.level) c.if-row-mode.false
    (c.floor-least.ensures ∙ ap (λ o. floor c.args.mode.version (fields_in o)) c.requires.level) (c.in-None-walk_dim.ensures.told (out-Group g).dim dim)

-- ---- groups

pub walk_groups-first_child-child-requires : goal.walk_groups-first_child-child-requires
walk_groups-first_child-child-requires t c = level_within c.args.layout.now c.args.n c.args.level.now c.requires.level

pub walk_groups-loop-i-init : goal.walk_groups-loop-i-init
walk_groups-loop-i-init t c =
    let schema = c.args.layout.now in
    let within = level_within schema c.args.n c.args.level.now c.requires.level in
    let first : c.len-first.result + 0 ≡ length (out-Level c.args.level.now).fields = omega (arith, c.len-first.ensures) in
    record {
      near = c.requires.at;
      same = c.as_slice-groups.ensures;
      from = subst (λ k. GroupsFrom schema c.args.n 0 k) (sym c.first_child-child.ensures) (groups_begin schema c.args.n within);
      told = ap (λ k. groups_end c.args.mode k (out-Level c.args.level.now).groups c.args.body.now c.args.at) first;
    }

pub walk_groups-walk_group-requires : goal.walk_groups-walk_group-requires
walk_groups-walk_group-requires t c =
    let schema = c.args.layout.now in
    let level = c.args.level.now in
    let g = c.index-groups-i.result in
    let inv = c.loop-i.invariant in
    let below : c.loop-i.i < length c.as_slice-groups.result.now = search rules in
    let more : c.loop-i.i < length (out-Level level).groups = omega (arith, below, ap length inv.same) in
    let is : g ≡ get_or (out-Level level).groups c.loop-i.i g = subst (λ gs. g ≡ get_or gs c.loop-i.i g) inv.same c.index-groups-i.is in
    let child = child_here schema c.args.n level c.requires.level c.loop-i.child c.loop-i.i inv.from more g is in
    let shallow = group_shallow level c.loop-i.i g (item_at (out-Level level).groups c.loop-i.i g more is) in (
      omega (arith, child.within, inv.from.number, level_within schema c.args.n level c.requires.level),
      (c.requires.schema, (child.level_is, (child.dim_is, (omega (arith, shallow, c.requires.shallow), inv.near)))),
    )

pub walk_groups-overflow_add-first : goal.walk_groups-overflow_add-first
walk_groups-overflow_add-first t c =
    let level = c.args.level.now in
    let inv = c.loop-i.invariant in
    let below : c.loop-i.i < length c.as_slice-groups.result.now = search rules in
    let known = level_ready c.args.layout.now c.args.n level c.requires.schema c.requires.level in
    omega (arith, below, ap length inv.same, known.few, c.len-first.ensures)

pub walk_groups-overflow_cast-first : goal.walk_groups-overflow_cast-first
walk_groups-overflow_cast-first t c =
    let level = c.args.level.now in
    let inv = c.loop-i.invariant in
    let below : c.loop-i.i < length c.as_slice-groups.result.now = search rules in
    let known = level_ready c.args.layout.now c.args.n level c.requires.schema c.requires.level in
    omega (arith, below, ap length inv.same, known.few, c.len-first.ensures)

pub walk_groups-under-requires : goal.walk_groups-under-requires
walk_groups-under-requires t c =
    let level = c.args.level.now in
    let g = c.index-groups-i.result in
    let inv = c.loop-i.invariant in
    let below : c.loop-i.i < length c.as_slice-groups.result.now = search rules in
    let more : c.loop-i.i < length (out-Level level).groups = omega (arith, below, ap length inv.same) in
    let is : g ≡ get_or (out-Level level).groups c.loop-i.i g = subst (λ gs. g ≡ get_or gs c.loop-i.i g) inv.same c.index-groups-i.is in
    let shallow = group_shallow level c.loop-i.i g (item_at (out-Level level).groups c.loop-i.i g more is) in
    omega (arith, shallow, c.requires.shallow, c.in-None.ensures.low)

pub walk_groups-returns-in-None-clause-low : goal.walk_groups-returns-in-None-clause-low
walk_groups-returns-in-None-clause-low t c =
    let level = c.args.level.now in
    let g = c.index-groups-i.result in
    let inv = c.loop-i.invariant in
    let below : c.loop-i.i < length c.as_slice-groups.result.now = search rules in
    let more : c.loop-i.i < length (out-Level level).groups = omega (arith, below, ap length inv.same) in
    let is : g ≡ get_or (out-Level level).groups c.loop-i.i g = subst (λ gs. g ≡ get_or gs c.loop-i.i g) inv.same c.index-groups-i.is in
    let shallow = group_shallow level c.loop-i.i g (item_at (out-Level level).groups c.loop-i.i g more is) in
    let longer = ap (λ (f : Found). length f.path) c.under.ensures in
    omega (arith, shallow, c.in-None.ensures.low, longer)

pub walk_groups-returns-in-None-clause-told : goal.walk_groups-returns-in-None-clause-told
walk_groups-returns-in-None-clause-told t c =
    let mode = c.args.mode in
    let level = c.args.level.now in
    let body = c.args.body.now in
    let first = c.len-first.result in
    let g = c.index-groups-i.result in
    let groups = (out-Level level).groups in
    let inv = c.loop-i.invariant in
    let below : c.loop-i.i < length c.as_slice-groups.result.now = search rules in
    let more : c.loop-i.i < length groups = omega (arith, below, ap length inv.same) in
    let is : g ≡ get_or groups c.loop-i.i g = subst (λ gs. g ≡ get_or gs c.loop-i.i g) inv.same c.index-groups-i.is in
    ap (λ f. Err (fault_of f)) c.under.ensures
    ∙ ap (λ r. inside (way.Part (first + c.loop-i.i)) r >>= (λ a. groups_end mode (first + (c.loop-i.i + 1)) (drop (c.loop-i.i + 1) groups) body a)) c.in-None.ensures.told
    ∙ sym (groups_next mode first c.loop-i.i groups g body c.loop-i.at more is)
    ∙ inv.told

pub walk_groups-row-requires : goal.walk_groups-row-requires
walk_groups-row-requires t c =
    let level = c.args.level.now in
    let g = c.index-groups-i.result in
    let inv = c.loop-i.invariant in
    let below : c.loop-i.i < length c.as_slice-groups.result.now = search rules in
    let more : c.loop-i.i < length (out-Level level).groups = omega (arith, below, ap length inv.same) in
    let is : g ≡ get_or (out-Level level).groups c.loop-i.i g = subst (λ gs. g ≡ get_or gs c.loop-i.i g) inv.same c.index-groups-i.is in
    (child_here c.args.layout.now c.args.n level c.requires.level c.loop-i.child c.loop-i.i inv.from more g is).within

pub walk_groups-loop-i-preserved : goal.walk_groups-loop-i-preserved
walk_groups-loop-i-preserved t c =
    let mode = c.args.mode in
    let level = c.args.level.now in
    let body = c.args.body.now in
    let first = c.len-first.result in
    let g = c.index-groups-i.result in
    let groups = (out-Level level).groups in
    let inv = c.loop-i.invariant in
    let below : c.loop-i.i < length c.as_slice-groups.result.now = search rules in
    let more : c.loop-i.i < length groups = omega (arith, below, ap length inv.same) in
    let is : g ≡ get_or groups c.loop-i.i g = subst (λ gs. g ≡ get_or gs c.loop-i.i g) inv.same c.index-groups-i.is in
    record {
      near = c.in-Some.ensures.within;
      same = inv.same;
      from = child_next c.args.layout.now c.args.n level c.requires.level c.loop-i.child c.loop-i.i inv.from more c.row.result.now c.row.ensures;
      told = ap (λ r. inside (way.Part (first + c.loop-i.i)) r >>= (λ a. groups_end mode (first + (c.loop-i.i + 1)) (drop (c.loop-i.i + 1) groups) body a)) c.in-Some.ensures.told
          ∙ sym (groups_next mode first c.loop-i.i groups g body c.loop-i.at more is)
          ∙ inv.told;
    }

-- ---- groups and then data

pub walk_tail-first_part-first-requires : goal.walk_tail-first_part-first-requires
walk_tail-first_part-first-requires t c =
    let known = level_ready c.args.layout.now c.args.n c.args.level.now c.requires.schema c.requires.level in
    omega (arith, known.few)

pub walk_tail-walk_parts-requires-clause-small : goal.walk_tail-walk_parts-requires-clause-small
walk_tail-walk_parts-requires-clause-small t c =
    let known = level_ready c.args.layout.now c.args.n c.args.level.now c.requires.schema c.requires.level in
    parts_small c.args.level.now c.as_slice.result.now known (c.as_slice.ensures.value ∙ row_parts c.args.layout.now c.args.n c.row.result.now c.args.level.now c.row.ensures c.requires.level)

pub walk_tail-walk_parts-requires-clause-few : goal.walk_tail-walk_parts-requires-clause-few
walk_tail-walk_parts-requires-clause-few t c =
    let known = level_ready c.args.layout.now c.args.n c.args.level.now c.requires.schema c.requires.level in
    omega (arith, c.first_part-first.ensures, parts_few c.args.level.now c.as_slice.result.now known (c.as_slice.ensures.value ∙ row_parts c.args.layout.now c.args.n c.row.result.now c.args.level.now c.row.ensures c.requires.level))

pub walk_tail-returns-in-Some-clause-told : goal.walk_tail-returns-in-Some-clause-told
walk_tail-returns-in-Some-clause-told t c =
    c.walk_parts.ensures.told
    ∙ tail_told c.args.layout.now c.args.n c.row.result.now c.args.level.now c.row.ensures c.requires.level c.args.mode c.args.body.now c.args.at c.requires.at
    c.first_part-first.result c.as_slice.result.now c.in-Some.next c.first_part-first.ensures c.as_slice.ensures.value c.in-Some.ensures.told

pub walk_tail-returns-in-None-clause-told : goal.walk_tail-returns-in-None-clause-told
walk_tail-returns-in-None-clause-told t c =
    tail_refused c.args.mode c.args.level.now c.args.body.now c.args.at (fault_of c.walk_groups.new.out) c.requires.at c.in-None.ensures.told
