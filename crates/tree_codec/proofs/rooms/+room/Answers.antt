use Rattle.std.proofs.Common.{◌≡◌, ◌<◌, ◌+◌, ◌^◌, suc, length, ap, sym, ◌∙◌, subst, arith}
use Rattle.sbe_types.specs.declared.message.Block.{out-Block}
use Rattle.sbe_types.specs.declared.schema.Group.{out-Group}
use Rattle.sbe_types.specs.declared.schema.Level.{out-Level}
use Rattle.sbe_wire.specs.Canonical.{entries_in}
use Rattle.std.specs.Prelude.{codes}
use Rattle.sbe_wire.specs.Misfit.{block_shape}
use Rattle.sbe_wire.specs.Named.{is_admitted}
use Rattle.layout_tables.proofs.GroupWalk.{GroupsFrom, groups_begin}
use Rattle.body_walk.proofs.LevelsReady.{level_ready, group_shallow}
use Rattle.body_walk.proofs.Opens.{child_here, child_next, level_within}
use Rattle.tree_codec.specs.Rooms.{dim_room, groups_room}
use Rattle.tree_codec.specs.Shapes.{misfit_of}
use Rattle.tree_codec.proofs.RoomSteps.{got, entries_are, entry_went, entry_stopped, group_went, group_stopped, no_group, group_entries, group_dim_refused, group_none, tail_went, tail_stopped}
use Rattle.tree_codec.proofs.ShapesBelow.{shaped, group_shaped, entry_shaped, entries_shaped}
use Rattle.tree_codec.proofs.rooms.+room.Goals as goal

-- ---- entries

pub take_entries-take_entry-requires : goal.take_entries-take_entry-requires
take_entries-take_entry-requires t c = (
  omega (arith, c.decreases),
  (
    c.loop-i.invariant.near,
    (
      c.requires.schema,
      (
        c.requires.level,
        (
          c.requires.shallow,
          entry_shaped (λ entry. block_shape c.args.level.now entry) 0 c.args.entries.now c.loop-i.i c.at.result.now c.requires.shape c.at.ensures,
        ),
      ),
    ),
  ),
)

pub take_entries-returns-in-None-clause-told : goal.take_entries-returns-in-None-clause-told
take_entries-returns-in-None-clause-told t c =
    entry_stopped c.args.walk.now.limit c.loop-i.i c.loop-i.at c.args.level.now c.args.entries.now c.at.result.now c.at.ensures c.take_entry.new.out c.inside.new.self c.in-None.ensures.told c.inside.ensures.told
    ∙ c.loop-i.invariant.told

pub take_entries-loop-i-preserved : goal.take_entries-loop-i-preserved
take_entries-loop-i-preserved t c =
    record {
      near = c.in-Some.ensures.within;
      told = entry_went c.args.walk.now.limit c.loop-i.i c.loop-i.at c.args.level.now c.args.entries.now c.at.result.now c.at.ensures c.in-Some.after c.in-Some.ensures.told ∙ c.loop-i.invariant.told;
    }

-- ---- an entry

pub take_entry-take_block-requires-clause-ready : goal.take_entry-take_block-requires-clause-ready
take_entry-take_block-requires-clause-ready t c = (level_ready c.args.walk.now.layout.now c.args.n c.args.level.now c.requires.schema c.requires.level).ready

pub take_entry-take_block-requires-clause-few : goal.take_entry-take_block-requires-clause-few
take_entry-take_block-requires-clause-few t c =
    let known = level_ready c.args.walk.now.layout.now c.args.n c.args.level.now c.requires.schema c.requires.level in
    omega (arith, known.few)

-- ---- a group

pub take_group-take_entries-requires : goal.take_group-take_entries-requires
take_group-take_entries-requires t c =
    let few : length c.in-Entries.entries < 2 ^ 32 = omega (arith, c.in-Some.ensures.few, c.len.ensures) in
    let is = entries_are c.args.value.now c.in-Entries.entries c.in-Entries.is in (
      omega (arith, c.decreases),
      (
        c.in-Some.ensures.within,
        (
          c.requires.schema,
          (
            c.requires.level,
            (
              c.requires.shallow,
              (entries_shaped c.args.group.now c.args.value.now c.in-Entries.entries c.requires.shape is few, few),
            ),
          ),
        ),
      ),
    )

pub take_group-returns-in-Absent-clause-told : goal.take_group-returns-in-Absent-clause-told
take_group-returns-in-Absent-clause-told t c = group_none c.args.walk.now.limit c.args.before c.args.group.now c.args.value.now (ap entries_in c.in-Absent.is)

pub take_group-returns-in-Some-clause-told : goal.take_group-returns-in-Some-clause-told
take_group-returns-in-Some-clause-told t c =
    let g = c.args.group.now in
    let entries = c.in-Entries.entries in
    let is = entries_are c.args.value.now entries c.in-Entries.is in
    let dim = (out-Group g).dim in
    let told = c.in-Some.ensures.told dim c.requires.dim ∙ ap (dim_room c.args.walk.now.limit c.args.before dim) c.len.ensures in
    let admitted = sym (ap (λ k. is_admitted dim (codes "numInGroup") k) c.len.ensures) ∙ c.in-Some.ensures.admitted dim c.requires.dim in
    c.take_entries.ensures.told ∙ group_entries c.args.walk.now.limit c.args.before c.in-Some.after g c.args.value.now entries is told admitted

pub take_group-returns-in-None-clause-told : goal.take_group-returns-in-None-clause-told
take_group-returns-in-None-clause-told t c =
    let g = c.args.group.now in
    let entries = c.in-Entries.entries in
    let is = entries_are c.args.value.now entries c.in-Entries.is in
    let dim = (out-Group g).dim in
    let told = c.in-None.ensures.told dim c.requires.dim ∙ ap (dim_room c.args.walk.now.limit c.args.before dim) c.len.ensures in
    group_dim_refused c.args.walk.now.limit c.args.before g c.args.value.now entries (misfit_of c.take_dim.new.out) is told

-- ---- groups

pub take_groups-first_child-child-requires : goal.take_groups-first_child-child-requires
take_groups-first_child-child-requires t c = level_within c.args.walk.now.layout.now c.args.n c.args.level.now c.requires.level

pub take_groups-loop-i-init : goal.take_groups-loop-i-init
take_groups-loop-i-init t c =
    let schema = c.args.walk.now.layout.now in
    let level = c.args.level.now in
    let first : c.len-first.result + 0 ≡ length (out-Level level).fields = omega (arith, c.len-first.ensures) in
    record {
      near = c.requires.near;
      from = subst (λ k. GroupsFrom schema c.args.n 0 k) (sym c.first_child-child.ensures) (groups_begin schema c.args.n (level_within schema c.args.n level c.requires.level));
      told = ap (λ k. groups_room c.args.walk.now.limit k c.args.before (out-Level level).groups (out-Block c.args.block.now).groups) first;
    }

pub take_groups-at-requires-in-loop-i : goal.take_groups-at-requires-in-loop-i
take_groups-at-requires-in-loop-i t c =
    let shape = shaped c.args.level.now c.args.block.now c.requires.shape in
    omega (arith, c.loop-i-test.true, c.len-i-end.ensures, shape.groups)

pub take_groups-take_group-requires : goal.take_groups-take_group-requires
take_groups-take_group-requires t c =
    let schema = c.args.walk.now.layout.now in
    let level = c.args.level.now in
    let g = c.at.result.now in
    let more : c.loop-i.i < length (out-Level level).groups = omega (arith, c.loop-i-test.true, c.len-i-end.ensures) in
    let child = child_here schema c.args.n level c.requires.level c.loop-i.child c.loop-i.i c.loop-i.invariant.from more g (got (out-Level level).groups c.loop-i.i g c.at.ensures) in
    let shallow = group_shallow level c.loop-i.i g c.at.ensures in (
      omega (arith, shallow, c.decreases),
      (
        c.loop-i.invariant.near,
        (
          c.requires.schema,
          (
            child.level_is,
            (
              child.dim_is,
              (
                omega (arith, shallow, c.requires.shallow),
                group_shaped level c.args.block.now c.loop-i.i g c.at-in-loop-i.result.now c.requires.shape c.at.ensures c.at-in-loop-i.ensures,
              ),
            ),
          ),
        ),
      ),
    )

pub take_groups-overflow_add-first : goal.take_groups-overflow_add-first
take_groups-overflow_add-first t c =
    let known = level_ready c.args.walk.now.layout.now c.args.n c.args.level.now c.requires.schema c.requires.level in
    omega (arith, known.few, c.loop-i-test.true, c.len-first.ensures, c.len-i-end.ensures)

pub take_groups-overflow_cast-first : goal.take_groups-overflow_cast-first
take_groups-overflow_cast-first t c =
    let known = level_ready c.args.walk.now.layout.now c.args.n c.args.level.now c.requires.schema c.requires.level in
    omega (arith, known.few, c.loop-i-test.true, c.len-first.ensures, c.len-i-end.ensures)

pub take_groups-inside-requires : goal.take_groups-inside-requires
take_groups-inside-requires t c =
    let shallow = group_shallow c.args.level.now c.loop-i.i c.at.result.now c.at.ensures in
    omega (arith, shallow, c.requires.shallow, c.in-None.ensures.low)

pub take_groups-returns-in-None-clause-told : goal.take_groups-returns-in-None-clause-told
take_groups-returns-in-None-clause-told t c =
    group_stopped c.args.walk.now.limit (c.len-first.result + c.loop-i.i) c.loop-i.i c.loop-i.at (out-Level c.args.level.now).groups (out-Block c.args.block.now).groups c.at.result.now c.at-in-loop-i.result.now
    c.at.ensures c.at-in-loop-i.ensures c.take_group.new.out c.inside.new.self c.in-None.ensures.told c.inside.ensures.told
    ∙ c.loop-i.invariant.told

pub take_groups-returns-in-None-clause-low : goal.take_groups-returns-in-None-clause-low
take_groups-returns-in-None-clause-low t c =
    let shallow = group_shallow c.args.level.now c.loop-i.i c.at.result.now c.at.ensures in
    omega (arith, shallow, c.in-None.ensures.low, c.inside.ensures.low)

pub take_groups-row-requires : goal.take_groups-row-requires
take_groups-row-requires t c =
    let level = c.args.level.now in
    let g = c.at.result.now in
    let more : c.loop-i.i < length (out-Level level).groups = omega (arith, c.loop-i-test.true, c.len-i-end.ensures) in
    (child_here c.args.walk.now.layout.now c.args.n level c.requires.level c.loop-i.child c.loop-i.i c.loop-i.invariant.from more g (got (out-Level level).groups c.loop-i.i g c.at.ensures)).within

pub take_groups-loop-i-preserved : goal.take_groups-loop-i-preserved
take_groups-loop-i-preserved t c =
    let level = c.args.level.now in
    let k = c.len-first.result + c.loop-i.i in
    let on : c.len-first.result + (c.loop-i.i + 1) ≡ suc k = omega arith in
    let more : c.loop-i.i < length (out-Level level).groups = omega (arith, c.loop-i-test.true, c.len-i-end.ensures) in
    record {
      near = c.in-Some.ensures.within;
      from = child_next c.args.walk.now.layout.now c.args.n level c.requires.level c.loop-i.child c.loop-i.i c.loop-i.invariant.from more c.row.result.now c.row.ensures;
      told = group_went c.args.walk.now.limit k c.loop-i.i c.loop-i.at (out-Level level).groups (out-Block c.args.block.now).groups c.at.result.now c.at-in-loop-i.result.now
          c.at.ensures c.at-in-loop-i.ensures c.in-Some.after (c.len-first.result + (c.loop-i.i + 1)) on c.in-Some.ensures.told
          ∙ c.loop-i.invariant.told;
    }

pub take_groups-returns-clause-told : goal.take_groups-returns-clause-told
take_groups-returns-clause-told t c =
    let shape = shaped c.args.level.now c.args.block.now c.requires.shape in
    no_group c.args.walk.now.limit (c.len-first.result + c.loop-i.i) c.loop-i.i c.loop-i.at (out-Level c.args.level.now).groups (out-Block c.args.block.now).groups
    (omega (arith, c.loop-i-test.false, c.len-i-end.ensures, shape.groups)) ∙ c.loop-i.invariant.told

-- ---- a block's groups and data

pub take_tail-take_parts-requires-clause-parts : goal.take_tail-take_parts-requires-clause-parts
take_tail-take_parts-requires-clause-parts t c = (shaped c.args.level.now c.args.block.now c.requires.shape).parts

pub take_tail-take_parts-requires-clause-few : goal.take_tail-take_parts-requires-clause-few
take_tail-take_parts-requires-clause-few t c = (level_ready c.args.walk.now.layout.now c.args.n c.args.level.now c.requires.schema c.requires.level).few

pub take_tail-returns-in-Some-clause-told : goal.take_tail-returns-in-Some-clause-told
take_tail-returns-in-Some-clause-told t c =
    let shape = shaped c.args.level.now c.args.block.now c.requires.shape in
    c.take_parts.ensures.told ∙ tail_went c.args.walk.now.limit c.args.before c.in-Some.after c.args.level.now c.args.block.now shape.groups c.in-Some.ensures.told

pub take_tail-returns-in-None-clause-told : goal.take_tail-returns-in-None-clause-told
take_tail-returns-in-None-clause-told t c =
    tail_stopped c.args.walk.now.limit c.args.before c.args.level.now c.args.block.now (misfit_of c.take_groups.new.out) c.in-None.ensures.told
