-- A composite over the list of its members.
use Rattle.std.proofs.Common.{◌≡◌, List, ap, ◌∙◌}
use mathlib.Core.Former.{Count}
use Rattle.sbe_types.specs.declared.kind.Kind.{Kind, Comp, Comp', Row_of-Member, end_of-Member, items_hidden-the_row-Member-0}
use Rattle.sbe_types.specs.declared.kind.Member.{Member}
use Rattle.sbe_types.specs.Places.{width, members_end}
use Rattle.sbe_types.proofs.PlaceLemmas.{row_end_is}

-- the row of a composite
abbrev pub row_in : Kind → (n : Count) × Row_of-Member n
row_in (Comp' _ row) = (_, row)
row_in _ = (_, end_of-Member)

pub width_comp : (ms : List Member) → width (Comp ms) ≡ members_end 0 ms
width_comp ms = let row = row_in (Comp ms) in row_end_is 0 row.1 ∙ ap (members_end 0) (items_hidden-the_row-Member-0 ms)
