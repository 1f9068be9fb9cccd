-- What a view of data parts shows.
use Rattle.std.specs.Prelude.{◌≤◌, ℕ, ◌-◌, Option, Some, None, Result, Ok, IsOk, List, [], length, map, take, drop, ⊤}
use Rattle.sbe_types.specs.declared.message.DataVal.{DataVal}
use Rattle.sbe_types.specs.declared.message.DataVal.TheVariants as dataval
use Rattle.sbe_types.specs.declared.schema.DataField.{DataField}
use Rattle.sbe_types.specs.declared.schema.Level.{out-Level}
use Rattle.sbe_wire.specs.Faults.{Fault}
use Rattle.sbe_wire.specs.Reading.{Reader, each_read, data_read}
use Rattle.body_walk.specs.declared.layer.Layer.{Layer}
use Rattle.sbe_wire.specs.declared.mode.Mode.{Mode}
use Rattle.flyweight_view.specs.declared.parts.PartsView.TheInside.{Inside}
use Rattle.body_walk.specs.inner.Layers.{IsLayer}
use Rattle.flyweight_view.specs.inner.Lefts.{items_of}
use Rattle.flyweight_view.specs.TypedBlocks.{bytes_in}

-- the reader of a data part
abbrev pub parts_by : Mode → DataField → Reader DataVal
parts_by mode = data_read mode.order mode.version

-- the bytes of a range
abbrev pub range_bytes : List ℕ → ℕ × ℕ → List ℕ
range_bytes body range = take (range.1 - range.0) (drop range.0 body)

-- what is read of a data part at an offset of the body, by the range of its bytes; without one it is absent
abbrev pub part_entered : List ℕ → ℕ → Option (ℕ × ℕ) → Result (DataVal × List ℕ) Fault
part_entered body at None = Ok (dataval.Absent, drop at body)
part_entered body at (Some range) = Ok (dataval.Bytes (range_bytes body range), drop range.1 body)

-- the offset after a data part that begins at offset `at`
abbrev pub range_end : ℕ → Option (ℕ × ℕ) → ℕ
range_end at None = at
range_end at (Some range) = range.1

-- the range of data is within the body
pub record IsRange (body : List ℕ) (range : ℕ × ℕ) : Type 0 where
  pub ordered : range.0 ≤ range.1
  pub within : range.1 ≤ length body

-- the data parts of a level from number i on
abbrev pub next_parts : Layer → ℕ → List DataField
next_parts l i = drop i (out-Level l.level.now).parts

-- the values of these data parts, where part i begins at offset `at` of the body, and the bytes after them
abbrev pub parts_at : Layer → ℕ → ℕ → Result (List DataVal × List ℕ) Fault
parts_at l i at = each_read (parts_by l.mode) 0 (next_parts l i) (drop at l.body.now)

-- what these data parts show
abbrev pub parts_left : Layer → ℕ → ℕ → List (Option (List ℕ))
parts_left l i at = map bytes_in (items_of (parts_at l i at))

-- the data parts from number i on are there, one after another
pub record LineUp (l : Layer) (i at : ℕ) : Type 0 where
  pub near : at ≤ length l.body.now
  pub reads : IsOk (parts_at l i at)

-- the data parts that are left; a composite has none
abbrev pub left_in : Option Layer → ℕ → ℕ → List (Option (List ℕ))
left_in None i at = []
left_in (Some l) i at = parts_left l i at

-- the data parts that are left are there
abbrev pub AreLeft : Option Layer → ℕ → ℕ → Type 0
AreLeft None i at = ⊤
AreLeft (Some l) i at = IsLayer l × LineUp l i at

-- the data parts that a view shows
abbrev pub parts_of_view : Inside → List (Option (List ℕ))
parts_of_view v = left_in v.layer v.next v.at

-- what a view of data parts relies on
abbrev pub AreParts : Inside → Type 0
AreParts v = AreLeft v.layer v.next v.at
