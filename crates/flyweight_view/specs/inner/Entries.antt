-- What a view of entries shows.
use Rattle.std.specs.Prelude.{List}
use Rattle.flyweight_view.specs.declared.entries.EntriesView.TheInside.{Inside}
use Rattle.body_walk.specs.inner.Layers.{IsLayer}
use Rattle.flyweight_view.specs.inner.Layers.{LieThere, typed_entries}
use Rattle.flyweight_view.specs.TypedBlocks.{TypedBlock}

-- the entries that are left
abbrev pub entries_of : Inside → List TypedBlock
entries_of e = typed_entries e.layer e.left

-- the entries are at their offset of the body
pub record AreEntries (e : Inside) : Type 0 where
  pub layer : IsLayer e.layer
  pub lie : LieThere e.layer e.left
