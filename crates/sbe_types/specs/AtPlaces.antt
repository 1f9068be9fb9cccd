-- The members of a composite by number. From SBE 1.0, Field encoding.
use Rattle.std.specs.Prelude.{◌≡◌, ℕ, Bool, Option, Some, None, List, length, slice_get}
use Rattle.sbe_types.specs.declared.kind.Order.{Order}
use Rattle.sbe_types.specs.declared.kind.Kind.{Kind, Leaf, Enum, Set, Const, Comp', items-the_row-Member}
use Rattle.sbe_types.specs.declared.kind.Member.{Member}
use Rattle.sbe_types.specs.declared.message.Value.{Value}
use Rattle.sbe_types.specs.declared.message.Value.TheVariants as value
use Rattle.sbe_types.specs.Places.{width, members_end, member_place, bytes_at}
use Rattle.sbe_types.specs.Shows.{Shows}

-- the members of a composite
abbrev pub members_of : Kind → Option (List Member)
members_of (Leaf l) = None
members_of (Enum l names) = None
members_of (Set p names) = None
members_of (Const c) = None
members_of (Comp' n members) = Some (items-the_row-Member _ members)

-- there are as many values as members, and the bytes at each member's offset show its value
abbrev pub EachMemberShows : Order → Bool → List Member → List Value → List ℕ → Type 0
EachMemberShows order known members values b =
    (length values ≡ length members)
    × ((i : ℕ) (m : Member) (v : Value) → slice_get members i ≡ Some m → slice_get values i ≡ Some v
    → Shows order known m.kind v (bytes_at (member_place 0 members i) (width m.kind) b))

-- the bytes end where the members do, and each member shows its value
abbrev pub ShowsMembers : Order → Bool → List Member → Value → List ℕ → Type 0
ShowsMembers order known members v b =
    (length b ≡ members_end 0 members) × ((values : List Value) × (v ≡ value.Comp values) × EachMemberShows order known members values b)
