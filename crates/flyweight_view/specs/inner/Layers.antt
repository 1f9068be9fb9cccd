-- The blocks of a level's entries, as they lie in a body.
use Rattle.std.specs.Prelude.{◌≤◌, ◌<◌, ℕ, Result, IsOk, List, length, map, drop}
use Rattle.sbe_types.specs.declared.message.Block.{Block}
use Rattle.sbe_types.specs.declared.schema.Level.{out-Level}
use Rattle.sbe_wire.specs.Faults.{Fault}
use Rattle.sbe_wire.specs.Reading.{Reader, times_read}
use Rattle.sbe_wire.specs.Versions.{floor}
use Rattle.group_codec.specs.declared.dim.Dim.{Dim}
use Rattle.body_walk.specs.declared.layer.Layer.{Layer}
use Rattle.body_walk.specs.inner.Cursor.{entries_read}
use Rattle.flyweight_view.specs.inner.Lefts.{items_of}
use Rattle.flyweight_view.specs.TypedBlocks.{TypedBlock, typed_level}

-- the reader of as many entries as the dimension counts
abbrev pub blocks_read : Layer → Dim → Reader (List Block)
blocks_read l d = times_read (entries_read l.mode l.level.now d.block) 0 d.count

-- the blocks of the entries, and the bytes after them
abbrev pub blocks_at : Layer → Dim → Result (List Block × List ℕ) Fault
blocks_at l d = blocks_read l d (drop d.after l.body.now)

-- what the entries show
abbrev pub typed_entries : Layer → Dim → List TypedBlock
typed_entries l d = map (typed_level l.level.now) (items_of (blocks_at l d))

-- the entries are there, one after another
pub record LieThere (l : Layer) (d : Dim) : Type 0 where
  pub reaches : 0 < d.count → floor l.mode.version (out-Level l.level.now).fields ≤ d.block
  pub near : d.after ≤ length l.body.now
  pub reads : IsOk (blocks_at l d)
