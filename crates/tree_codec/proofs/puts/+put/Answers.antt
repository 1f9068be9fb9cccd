use Rattle.std.proofs.Common.{rules, ◌+◌, ◌<◌, ◌∷◌, length, refl, ap, sym, subst, ◌∙◌, arith}
use Rattle.sbe_types.specs.declared.message.Block.{out-Block}
use Rattle.sbe_types.specs.declared.schema.Level.{out-Level}
use Rattle.sbe_wire.specs.Misfit.{block_shape, each_taken, parts_taken, refusal_of}
use Rattle.schema_facts.specs.Levels.{level_at}
use Rattle.typed_writer.specs.States.{entries_left, level_of, parts_done}
use Rattle.typed_writer.specs.Steps.{GroupRefused, Groups, next_group}
use Rattle.body_walk.proofs.LevelsReady.{group_shallow}
use Rattle.tree_codec.specs.Rooms.{entry_room, groups_room}
use Rattle.tree_codec.proofs.PutGroups.{entries_end, entries_next, entries_start, entry_counted, entry_is_left, entry_is_of, group_counted, group_is_left, groups_end, groups_have_room, groups_next, groups_start, never_absent, next_child, count_small, group_opened, group_never_refused, entries_have_room, group_puts}
use Rattle.tree_codec.proofs.PutParts.{tail_puts, tail_room}
use Rattle.tree_codec.proofs.PutSteps.{entry_fits, group_fits}
use Rattle.tree_codec.proofs.RoomSteps.{entries_are}
use Rattle.tree_codec.proofs.ShapesBelow.{entry_shaped, group_shaped, entries_shaped, shaped}
use Rattle.tree_codec.proofs.puts.+put.Goals as goal

-- ---- groups

pub put_groups-loop-i-init : goal.put_groups-loop-i-init
put_groups-loop-i-init t c =
    let schema = c.args.layout.now in
    let level = c.args.level.now in
    groups_start schema (level_of c.args.buf.now.frames) level c.args.block.now c.requires.level c.args.buf.now c.requires.state refl c.requires.at

pub put_groups-at-requires-in-loop-i : goal.put_groups-at-requires-in-loop-i
put_groups-at-requires-in-loop-i t c =
    let shape = shaped c.args.level.now c.args.block.now c.requires.shape in
    omega (arith, c.loop-i-test.true, c.len-i-end.ensures, shape.groups)

pub put_groups-put_group-requires : goal.put_groups-put_group-requires
put_groups-put_group-requires t c =
    let schema = c.args.layout.now in
    let level = c.args.level.now in
    let block = c.args.block.now in
    let i = c.loop-i.i in
    let old = c.args.buf.now in
    let n = level_of old.frames in
    let now = c.loop-i.buf in
    let g = c.at.result.now in
    let v = c.at-in-loop-i.result.now in
    let walk = c.loop-i.invariant in
    let gs = (out-Level level).groups in
    let vs = (out-Block block).groups in
    let first = length (out-Level level).fields in
    let more : i < length gs = omega (arith, c.loop-i-test.true, c.len-i-end.ensures) in
    let child = next_child schema n level block c.requires.level i old now walk g c.at.ensures more in
    let shallow = group_shallow level i g c.at.ensures in (
      omega (arith, shallow, c.decreases),
      (
        c.requires.schema,
        (
          child.level_is,
          (
            child.dim_is,
            (
              group_shaped level block i g v c.requires.shape c.at.ensures c.at-in-loop-i.ensures,
              (
                walk.state,
                (
                  group_is_left schema n level block c.requires.level i old now walk more,
                  group_fits now.limit (first + i) i (length now.bytes) (groups_room old.limit first (length old.bytes) gs vs) c.requires.room gs vs g v c.at.ensures c.at-in-loop-i.ensures
                      (group_counted schema n level block c.requires.level i old now walk),
                ),
              ),
            ),
          ),
        ),
      ),
    )

pub put_groups-loop-i-preserved : goal.put_groups-loop-i-preserved
put_groups-loop-i-preserved t c =
    groups_next c.args.layout.now (level_of c.args.buf.now.frames) c.args.level.now c.args.block.now c.requires.level c.loop-i.i c.args.buf.now c.loop-i.buf c.loop-i.invariant c.at.result.now c.at-in-loop-i.result.now
    c.put_group.new.buf c.at.ensures c.at-in-loop-i.ensures c.put_group.ensures.ready c.put_group.ensures.puts

pub put_groups-returns-clause-puts : goal.put_groups-returns-clause-puts
put_groups-returns-clause-puts t c =
    let shape = shaped c.args.level.now c.args.block.now c.requires.shape in
    groups_end c.args.layout.now (level_of c.args.buf.now.frames) c.args.level.now c.args.block.now c.requires.level c.loop-i.i c.args.buf.now c.loop-i.buf c.loop-i.invariant
    (omega (arith, c.loop-i-test.false, c.loop-i.auto.i-end, c.len-i-end.ensures)) (omega (arith, c.loop-i-test.false, c.loop-i.auto.i-end, c.len-i-end.ensures, shape.groups))

-- ---- a block's groups and data

pub put_tail-put_groups-requires : goal.put_tail-put_groups-requires
put_tail-put_groups-requires t c = (
  omega (arith, c.decreases),
  (
    c.requires.schema,
    (
      c.requires.level,
      (
        c.requires.shape,
        (
          c.requires.state,
          (c.requires.at, groups_have_room c.args.buf.now.limit (length c.args.buf.now.bytes) c.args.level.now c.args.block.now c.requires.room),
        ),
      ),
    ),
  ),
)

-- ---- entries

pub put_entries-loop-i-init : goal.put_entries-loop-i-init
put_entries-loop-i-init t c = entries_start c.args.layout.now (level_of c.args.buf.now.frames) c.args.level.now c.args.entries.now c.args.buf.now c.requires.state refl c.requires.at

pub put_entries-put_entry-requires : goal.put_entries-put_entry-requires
put_entries-put_entry-requires t c =
    let schema = c.args.layout.now in
    let level = c.args.level.now in
    let es = c.args.entries.now in
    let i = c.loop-i.i in
    let old = c.args.buf.now in
    let now = c.loop-i.buf in
    let e = c.at.result.now in
    let n = level_of old.frames in
    let walk = c.loop-i.invariant in
    let more : i < length es = omega (arith, c.loop-i-test.true, c.len-i-end.ensures) in (
      omega (arith, c.decreases),
      (
        c.requires.schema,
        (
          ap (level_at schema) (entry_is_of schema n level es i old now walk) ∙ c.requires.level,
          (
            entry_shaped (λ entry. block_shape level entry) 0 es i e c.requires.shape c.at.ensures,
            (
              walk.state,
              (
                entry_is_left schema n level es i old now walk more,
                entry_fits now.limit i (length now.bytes) (each_taken (λ at entry. entry_room old.limit level at entry) 0 (length old.bytes) es) c.requires.room level es e c.at.ensures
                    (entry_counted schema n level es i old now walk),
              ),
            ),
          ),
        ),
      ),
    )

pub put_entries-loop-i-preserved : goal.put_entries-loop-i-preserved
put_entries-loop-i-preserved t c =
    entries_next c.args.layout.now (level_of c.args.buf.now.frames) c.args.level.now c.args.entries.now c.loop-i.i c.args.buf.now c.loop-i.buf c.loop-i.invariant c.at.result.now c.put_entry.new.buf c.at.ensures c.put_entry.ensures.ready c.put_entry.ensures.puts

pub put_entries-returns-clause-puts : goal.put_entries-returns-clause-puts
put_entries-returns-clause-puts t c =
    entries_end c.args.layout.now (level_of c.args.buf.now.frames) c.args.level.now c.args.entries.now c.loop-i.i c.args.buf.now c.loop-i.buf c.loop-i.invariant (omega (arith, c.loop-i-test.false, c.loop-i.auto.i-end, c.len-i-end.ensures))

pub put_tail-put_parts-requires-clause-level : goal.put_tail-put_parts-requires-clause-level
put_tail-put_parts-requires-clause-level t c = ap (λ fs. level_at c.args.layout.now (level_of fs)) c.put_groups.ensures.puts.frames ∙ c.requires.level

pub put_tail-put_parts-requires-clause-at : goal.put_tail-put_parts-requires-clause-at
put_tail-put_parts-requires-clause-at t c = ap parts_done c.put_groups.ensures.puts.frames

pub put_tail-put_parts-requires-clause-room : goal.put_tail-put_parts-requires-clause-room
put_tail-put_parts-requires-clause-room t c =
    let level = c.args.level.now in
    let block = c.args.block.now in
    let old = c.args.buf.now in
    let mid = c.put_groups.new.buf in
    let puts = c.put_groups.ensures.puts in
    ap (λ m. refusal_of (parts_taken m (length (out-Level level).fields + length (out-Level level).groups) (length mid.bytes) (out-Level level).parts (out-Block block).parts)) puts.limit
    ∙ tail_room old.limit (length old.bytes) (length mid.bytes) level block c.requires.shape c.requires.room puts.counted

pub put_tail-returns-clause-puts : goal.put_tail-returns-clause-puts
put_tail-returns-clause-puts t c =
    tail_puts c.args.layout.now (length (out-Level c.args.level.now).groups) c.args.level.now c.args.block.now c.args.buf.now c.put_groups.new.buf c.put_parts.new.buf c.requires.shape
    c.put_groups.ensures.puts c.put_parts.ensures.puts

-- ---- an entry

pub put_entry-fill_block-requires-clause-many : goal.put_entry-fill_block-requires-clause-many
put_entry-fill_block-requires-clause-many t c = (shaped c.args.level.now c.args.entry.now c.requires.shape).fields

-- ---- a group

pub put_group-unreachable-requires : goal.put_group-unreachable-requires
put_group-unreachable-requires t c = never_absent c.args.group.now c.args.value.now c.in-Absent.is c.requires.shape

pub put_group-overflow_cast-len : goal.put_group-overflow_cast-len
put_group-overflow_cast-len t c =
    let es = c.in-Entries.entries in
    let is = entries_are c.args.value.now es c.in-Entries.is in
    let small = count_small c.args.layout.now (next_group c.args.layout.now c.args.buf.now.frames) c.args.group.now c.args.value.now es c.args.buf.now c.requires.schema.checked c.requires.level c.requires.dim is c.requires.room in
    omega (arith, small, c.len.ensures)

pub put_group-put_entries-requires : goal.put_group-put_entries-requires
put_group-put_entries-requires t c =
    let schema = c.args.layout.now in
    let g = c.args.group.now in
    let v = c.args.value.now in
    let es = c.in-Entries.entries in
    let old = c.args.buf.now in
    let n = next_group schema old.frames in
    let mid = c.in-Ok.open.buf.now in
    let is = entries_are v es c.in-Entries.is in
    let small = count_small schema n g v es old c.requires.schema.checked c.requires.level c.requires.dim is c.requires.room in
    let groups : Groups schema (length es) old mid = subst (λ k. Groups schema k old mid) c.len.ensures c.in-Ok.ensures.ok in
    let opened = group_opened schema n g v es old c.requires.schema.checked c.requires.level c.requires.dim is c.requires.room mid refl groups in (
      omega (arith, c.decreases),
      (
        c.requires.schema,
        (
          ap (λ fs. level_at schema (level_of fs)) opened.frames ∙ c.requires.level,
          (
            entries_shaped g v es c.requires.shape is small,
            (
              c.in-Ok.ensures.ready,
              (
                ap entries_left opened.frames,
                entries_have_room schema n g v es old c.requires.schema.checked c.requires.level c.requires.dim is c.requires.room mid opened,
              ),
            ),
          ),
        ),
      ),
    )

pub put_group-unreachable-requires-in-Err : goal.put_group-unreachable-requires-in-Err
put_group-unreachable-requires-in-Err t c =
    let schema = c.args.layout.now in
    let es = c.in-Entries.entries in
    let old = c.args.buf.now in
    let is = entries_are c.args.value.now es c.in-Entries.is in
    group_never_refused schema (next_group schema old.frames) c.args.group.now c.args.value.now es old c.requires.schema.checked c.requires.level c.requires.dim is c.requires.room c.in-Err.field-0 refl
    (subst (λ k. GroupRefused schema (next_group schema old.frames) k old c.in-Err.field-0) c.len.ensures c.in-Err.ensures.refused)

pub put_group-returns-clause-puts : goal.put_group-returns-clause-puts
put_group-returns-clause-puts t c =
    let schema = c.args.layout.now in
    let g = c.args.group.now in
    let v = c.args.value.now in
    let es = c.in-Entries.entries in
    let old = c.args.buf.now in
    let n = next_group schema old.frames in
    let mid = c.in-Ok.open.buf.now in
    let is = entries_are v es c.in-Entries.is in
    let groups : Groups schema (length es) old mid = subst (λ k. Groups schema k old mid) c.len.ensures c.in-Ok.ensures.ok in
    let opened = group_opened schema n g v es old c.requires.schema.checked c.requires.level c.requires.dim is c.requires.room mid refl groups in
    group_puts schema n g v es old c.requires.schema.checked c.requires.level c.requires.dim is c.requires.room mid c.put_entries.new.buf _ opened c.put_entries.ensures.puts (search rules)
