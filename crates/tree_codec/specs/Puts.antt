-- What the parts of a message do to a buffer, in order.
use Rattle.std.specs.Prelude.{◌≡◌, ℕ, ◌+◌, List, [], ◌∷◌, Option, Some, None, Ok, drop, length, take}
use Rattle.sbe_types.specs.declared.kind.Order.{Order}
use Rattle.sbe_types.specs.declared.message.Block.{Block, out-Block}
use Rattle.sbe_types.specs.declared.message.DataVal.{DataVal}
use Rattle.sbe_types.specs.declared.message.GroupVal.{GroupVal}
use Rattle.sbe_types.specs.declared.schema.DataField.{DataField}
use Rattle.sbe_types.specs.declared.schema.Group.{Group}
use Rattle.sbe_types.specs.declared.schema.Level.{Level, out-Level}
use Rattle.sbe_types.specs.declared.schema.WireSchema.{WireSchema}
use Rattle.sbe_types.specs.Wire.{both}
use Rattle.sbe_wire.specs.Canonical.{all_bytes, block_bytes, group_bytes, part_bytes, parts_bytes, tail_bytes}
use Rattle.sbe_wire.specs.Misfit.{Taken, each_taken, group_taken, part_taken, parts_taken, refusal_of, tail_taken}
use Rattle.typed_writer.specs.declared.stack.Frame.{Frame}
use Rattle.typed_writer.specs.declared.stack.Frame.TheVariants.{Tail}
use Rattle.kind_bytes.specs.Members.{followed_by}
use Rattle.typed_writer.specs.Empty.{empty_block}
use Rattle.typed_writer.specs.Held.{Held}
use Rattle.typed_writer.specs.States.{level_of, parts_in_tail}
use Rattle.typed_writer.specs.Steps.{unset_from}
use Rattle.block_laws.specs.Blocks.{HoldsFirst, Task}
use Rattle.tree_codec.specs.Rooms.{entry_room, groups_room}

-- ---- parts

-- the bytes of the groups of a level
abbrev pub groups_put : Order → List Group → List GroupVal → Option (List ℕ)
groups_put order [] [] = Some []
groups_put order [] (v ∷ vs) = None
groups_put order (g ∷ gs) [] = None
groups_put order (g ∷ gs) (v ∷ vs) = both (group_bytes order g v) (groups_put order gs vs)

-- the bytes of an entry, or of a message's root after its header
abbrev pub entry_put : Order → Level → Block → Option (List ℕ)
entry_put order level entry = both (block_bytes order (out-Level level).block_length (out-Level level).fields (out-Block entry).fields) (tail_bytes order level entry)

-- ---- stretches of a body

-- A part of a body: its bytes, if it has any; and how many bytes the body has up to its end, by the limit and the bytes
-- before, or the first misfit.
pub record Stretch : Type 0 where
  pub bytes : Option (List ℕ)
  pub taken : ℕ → ℕ → Taken

-- the stretch of a data part
abbrev pub part_stretch : Order → DataField → DataVal → Stretch
part_stretch order part value = record { bytes = part_bytes order part value; taken = λ limit before. part_taken limit before part value }

-- the stretch of the data of a block
abbrev pub parts_stretch : Order → Level → Block → Stretch
parts_stretch order level block = record {
  bytes = parts_bytes order (out-Level level).parts (out-Block block).parts;
  taken = λ limit before. parts_taken limit (length (out-Level level).fields + length (out-Level level).groups) before (out-Level level).parts (out-Block block).parts;
}

-- the stretch of a group, its dimension first
abbrev pub group_stretch : Order → Group → GroupVal → Stretch
group_stretch order group value = record { bytes = group_bytes order group value; taken = λ limit before. group_taken limit before group value }

-- the stretch of the groups of a block
abbrev pub groups_stretch : Order → Level → Block → Stretch
groups_stretch order level block = record {
  bytes = groups_put order (out-Level level).groups (out-Block block).groups;
  taken = λ limit before. groups_room limit (length (out-Level level).fields) before (out-Level level).groups (out-Block block).groups;
}

-- the stretch of the groups of a block, and then its data
abbrev pub tail_stretch : Order → Level → Block → Stretch
tail_stretch order level block = record { bytes = tail_bytes order level block; taken = λ limit before. tail_taken limit before level block }

-- the stretch of an entry
abbrev pub entry_stretch : Order → Level → Block → Stretch
entry_stretch order level entry = record { bytes = entry_put order level entry; taken = λ limit before. entry_room limit level before entry }

-- the stretch of the entries of a group
abbrev pub entries_stretch : Order → Level → List Block → Stretch
entries_stretch order level entries = record {
  bytes = all_bytes (λ entry. entry_put order level entry) entries;
  taken = λ limit before. each_taken (λ at entry. entry_room limit level at entry) 0 before entries;
}

-- the stretch has no misfit, and there is room for it after what is held
abbrev pub HasRoom : Stretch → Held → Type 0
HasRoom stretch held = refusal_of (stretch.taken held.limit (length held.bytes)) ≡ None

-- the innermost writer after its level's last group or data part
abbrev pub behind_all : WireSchema → List Frame → Frame
behind_all schema frames = Tail (level_of frames) (parts_in_tail schema (level_of frames))

-- The stretch was appended, and the bytes are as many as it counts; the innermost writer continues as `top`.
pub record Puts (stretch : Stretch) (top : Frame) (old new : Held) : Type 0 where
  pub bytes : followed_by old.bytes stretch.bytes ≡ Some new.bytes
  pub counted : stretch.taken old.limit (length old.bytes) ≡ Ok (length new.bytes)
  pub frames : new.frames ≡ top ∷ drop 1 old.frames
  pub limit : new.limit ≡ old.limit

-- ---- blocks

-- the block of a level with these values
abbrev pub task_of : WireSchema → Level → Block → Task
task_of schema level block = record { order = schema.order; long = (out-Level level).block_length; fields = (out-Level level).fields; values = (out-Block block).fields }

-- the first i fields that have to be set are set
abbrev pub AreSet : Task → ℕ → Held → Type 0
AreSet task i held = unset_from 0 (take i task.fields) (take i held.set) ≡ None

-- the same writers, offset of the block, and limit
pub record SameBlock (old new : Held) : Type 0 where
  pub frames : new.frames ≡ old.frames
  pub at : new.at ≡ old.at
  pub limit : new.limit ≡ old.limit

-- if the block that was begun last holds the values of the first i fields, it now holds that of field i too
pub record HoldsNext (task : Task) (i : ℕ) (old new : Held) : Type 0 where
  pub holds : (front : List ℕ) → length front ≡ old.at → HoldsFirst task i front old.bytes → HoldsFirst task (i + 1) front new.bytes
  pub set : AreSet task i old → AreSet task (i + 1) new
  pub same : SameBlock old new

-- The block that was begun last, if it was empty, is now that of the values; it is as long as the level states, and
-- none of its fields is left to set.
pub record Fills (task : Task) (old new : Held) : Type 0 where
  pub bytes : (front : List ℕ) → length front ≡ old.at → followed_by front (empty_block task.order task.long task.fields) ≡ Some old.bytes
      → followed_by front (block_bytes task.order task.long task.fields task.values) ≡ Some new.bytes
  pub long : (front : List ℕ) → length front ≡ old.at → followed_by front (empty_block task.order task.long task.fields) ≡ Some old.bytes
      → length new.bytes ≡ length front + task.long
  pub set : unset_from 0 task.fields new.set ≡ None
  pub same : SameBlock old new
