-- What a view of groups shows.
use Rattle.std.specs.Prelude.{◌≡◌, ◌≤◌, ℕ, Option, Some, None, Result, Ok, IsOk, List, [], length, drop, ⊤}
use Rattle.sbe_types.specs.declared.message.GroupVal.{GroupVal}
use Rattle.sbe_types.specs.declared.message.GroupVal.TheVariants as groupval
use Rattle.sbe_types.specs.declared.schema.Group.{Group}
use Rattle.sbe_types.specs.declared.schema.Level.{out-Level}
use Rattle.sbe_wire.specs.Faults.{Fault}
use Rattle.sbe_wire.specs.Reading.{Reader, then_read, nothing, each_read, group_read}
use Rattle.layout_tables.specs.Parts.{group_number}
use Rattle.group_codec.specs.declared.dim.Dim.{Dim}
use Rattle.flyweight_view.specs.declared.groups.GroupsView.TheInside.{Inside}
use Rattle.flyweight_view.specs.declared.ends.GroupCursor.{GroupCursor}
use Rattle.body_walk.specs.declared.layer.Layer.{Layer}
use Rattle.sbe_wire.specs.declared.mode.Mode.{Mode}
use Rattle.body_walk.specs.inner.Layers.{IsLayer}
use Rattle.flyweight_view.specs.inner.Layers.{blocks_read}
use Rattle.flyweight_view.specs.inner.Lefts.{items_of}
use Rattle.flyweight_view.specs.TypedBlocks.{typed_groups, TypedBlock}

-- the reader of a group
abbrev pub groups_by : Mode → Group → Reader GroupVal
groups_by mode = group_read mode

-- what is read of a group at an offset of the body, by its dimension; without one it is absent
abbrev pub group_entered : Layer → ℕ → Option Dim → Result (GroupVal × List ℕ) Fault
group_entered l at None = Ok (groupval.Absent, drop at l.body.now)
group_entered l at (Some d) = then_read (blocks_read l d) (λ es. nothing (groupval.Entries es)) (drop d.after l.body.now)

-- the groups of a level from the next one on
abbrev pub next_groups : Layer → GroupCursor → List Group
next_groups l s = drop s.next (out-Level l.level.now).groups

-- the values of these groups, and the bytes after them
abbrev pub groups_at : Layer → GroupCursor → Result (List GroupVal × List ℕ) Fault
groups_at l s = each_read (groups_by l.mode) 0 (next_groups l s) (drop s.at l.body.now)

-- what these groups show
abbrev pub groups_left : Layer → GroupCursor → List (Option (List TypedBlock))
groups_left l s = typed_groups (next_groups l s) (items_of (groups_at l s))

-- the groups from the next one on are there, one after another
pub record StandThere (l : Layer) (s : GroupCursor) : Type 0 where
  pub child : s.child ≡ group_number l.layout.now l.number s.next
  pub near : s.at ≤ length l.body.now
  pub reads : IsOk (groups_at l s)

-- the groups that are left; a composite has none
abbrev pub left_in : Option Layer → GroupCursor → List (Option (List TypedBlock))
left_in None s = []
left_in (Some l) s = groups_left l s

-- the groups that are left are there
abbrev pub AreLeft : Option Layer → GroupCursor → Type 0
AreLeft None s = ⊤
AreLeft (Some l) s = IsLayer l × StandThere l s

-- the groups that a view shows
abbrev pub groups_of_view : Inside → List (Option (List TypedBlock))
groups_of_view v = left_in v.layer v.cursor

-- what a view of groups relies on
abbrev pub AreGroups : Inside → Type 0
AreGroups v = AreLeft v.layer v.cursor
