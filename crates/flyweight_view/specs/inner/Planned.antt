-- How the values of a block at an offset of the body are read, by what the schema states of the block.
use Rattle.std.specs.Prelude.{◌≡◌, ◌≤◌, ℕ, ◌+◌, Result, Ok, Err, List, [], length, map, take, drop}
use Rattle.sbe_types.specs.declared.kind.Kind.{Comp}
use Rattle.sbe_types.specs.declared.schema.DataField.{DataField}
use Rattle.sbe_types.specs.declared.schema.Field.{Field}
use Rattle.sbe_types.specs.declared.schema.Group.{Group}
use Rattle.sbe_types.specs.declared.kind.Member.{Member}
use Rattle.sbe_types.specs.declared.schema.Level.{out-Level}
use Rattle.sbe_types.specs.declared.message.Block.{Block, out-Block}
use Rattle.sbe_types.specs.declared.message.Value.{Value}
use Rattle.sbe_types.specs.Places.{width}
use Rattle.sbe_wire.specs.Faults.{Fault}
use Rattle.sbe_wire.specs.Reading.{Reader, Tail, nothing, entry_read, tail_read}
use Rattle.sbe_wire.specs.Placed.{ArePlaced}
use Rattle.sbe_wire.specs.Versions.{floor}
use Rattle.schema_facts.specs.InOrder.{IsKindInOrder}
use Rattle.sbe_wire.specs.declared.mode.Mode.{Mode}
use Rattle.flyweight_view.specs.declared.plan.Plan.{Plan}
use Rattle.flyweight_view.specs.declared.plan.Plan.TheVariants as plan
use Rattle.flyweight_view.specs.declared.plan.Span.{Span}
use Rattle.body_walk.specs.inner.Layers.{HasLevel}
use Rattle.flyweight_view.specs.TypedBlocks.{TypedBlock, member_field}

-- the fields of a block
abbrev pub fields_of : Plan → List Field
fields_of (plan.Level layout number level) = (out-Level level.now).fields
fields_of (plan.Members members) = map member_field members.now

-- the groups of a block; a composite has none
abbrev pub groups_of : Plan → List Group
groups_of (plan.Level layout number level) = (out-Level level.now).groups
groups_of (plan.Members members) = []

-- the data parts of a block; a composite has none
abbrev pub parts_of : Plan → List DataField
parts_of (plan.Level layout number level) = (out-Level level.now).parts
parts_of (plan.Members members) = []

-- the reader of a block's groups and data; a composite has none
abbrev pub tail_of : Mode → Plan → Reader Tail
tail_of mode (plan.Level layout number level) = tail_read mode level.now
tail_of mode (plan.Members members) = nothing ([], [])

-- the block that is read, and the bytes after it
abbrev pub planned_block : Span → Plan → Result (Block × List ℕ) Fault
planned_block s p = entry_read (tail_of s.mode p) s.mode (fields_of p) s.size (drop s.at s.body.now)

-- the block that was read; one without parts if none was
abbrev pub block_of : Result (Block × List ℕ) Fault → Block
block_of (Ok r) = r.0
block_of (Err f) = record { fields = []; groups = []; parts = [] }

-- what a block of these parts shows
abbrev pub typed_by : Plan → Block → TypedBlock
typed_by p block = record { fields = fields_of p; groups = groups_of p; parts = parts_of p; block = block }

-- what is shown at an offset of the body
abbrev pub typed_at : Span → Plan → TypedBlock
typed_at s p = typed_by p (block_of (planned_block s p))

-- the values of the fields there
abbrev pub values_at : Span → Plan → List Value
values_at s p = (out-Block (block_of (planned_block s p))).fields

-- the bytes of a block
abbrev pub bytes_of : Span → List ℕ
bytes_of s = take s.size (drop s.at s.body.now)

-- the members are those of a composite in order, which fills the block
pub record IsMembersPlan (members : List Member) (size : ℕ) : Type 0 where
  pub order : IsKindInOrder (Comp members)
  pub wide : size ≡ width (Comp members)

-- what the schema states of a block
abbrev pub IsPlan : Plan → ℕ → Type 0
IsPlan (plan.Level layout number level) size = HasLevel layout.now number level.now
IsPlan (plan.Members members) size = IsMembersPlan members.now size

-- the block is at its offset of the body
pub record IsPlannedBlock (s : Span) (p : Plan) : Type 0 where
  pub plan_is : IsPlan p s.size
  pub placed : ArePlaced 0 (fields_of p)
  pub reaches : floor s.mode.version (fields_of p) ≤ s.size
  pub near : s.at + s.size ≤ length s.body.now
  pub reads : (rest : List ℕ) × (planned_block s p ≡ Ok (block_of (planned_block s p), rest))
