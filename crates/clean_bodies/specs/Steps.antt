-- Parts of a body that are whole, at the schema's own version: whatever lies there has these canonical bytes.
use Rattle.std.specs.Prelude.{ℕ, Option, List}
use Rattle.sbe_types.specs.declared.kind.Order.{Order}
use Rattle.sbe_types.specs.declared.schema.DataField.{DataField}
use Rattle.sbe_types.specs.declared.schema.Group.{Group}
use Rattle.sbe_types.specs.declared.schema.Level.{Level, out-Level}
use Rattle.sbe_types.specs.declared.message.DataVal.{DataVal}
use Rattle.sbe_types.specs.declared.message.Block.{Block, out-Block}
use Rattle.sbe_types.specs.declared.message.GroupVal.{GroupVal}
use Rattle.sbe_types.specs.Wire.{both}
use Rattle.sbe_wire.specs.Versions.{own_mode, form_of}
use Rattle.sbe_wire.specs.Canonical.{part_bytes, block_bytes, tail_bytes, group_bytes}
use Rattle.sbe_wire.specs.Lays.{DataLays, EntryLays, TailLays, GroupLays}
use Rattle.clean_bodies.specs.Whole.{IsWhole}

-- Where the parts are: the byte order, the schema's version, and the body.
pub record Place : Type 0 where
  pub order : Order
  pub version : ℕ
  pub body : List ℕ

-- a data part is whole
abbrev pub PartStep : Place → DataField → ℕ → ℕ → Type 0
PartStep p part at next = IsWhole DataVal (DataLays p.order p.version part) (part_bytes p.order part) p.body at next

-- the groups and the data of a level are whole
abbrev pub TailStep : Place → Level → ℕ → ℕ → Type 0
TailStep p level at next = IsWhole Block (λ entry b. TailLays (own_mode p.order p.version) level entry b) (tail_bytes p.order level) p.body at next

-- the canonical bytes of a block of the declared length, and of the groups and data after it
abbrev pub entry_bytes : Order → Level → Block → Option (List ℕ)
entry_bytes order level entry = both (block_bytes order (out-Level level).block_length (out-Level level).fields (out-Block entry).fields) (tail_bytes order level entry)

-- an entry lies there, with a block of the declared length
abbrev pub EntryIs : Order → ℕ → Level → Block → List ℕ → Type 0
EntryIs order version level entry b =
    let mode = own_mode order version in
    EntryLays (λ entry b. TailLays mode level entry b) (form_of mode level) (out-Level level).block_length entry b

-- an entry, or the root, is whole
abbrev pub EntryStep : Place → Level → ℕ → ℕ → Type 0
EntryStep p level at next = IsWhole Block (EntryIs p.order p.version level) (entry_bytes p.order level) p.body at next

-- a group is whole
abbrev pub GroupStep : Place → Group → ℕ → ℕ → Type 0
GroupStep p g at next = IsWhole GroupVal (λ v b. GroupLays (own_mode p.order p.version) g v b) (λ v. group_bytes p.order g v) p.body at next
