-- The values of fields, and what is read of them. From SBE 1.0, Field encoding.
use Rattle.std.specs.Prelude.{◌≡◌, ◌&&◌, int_le, ℕ, Bool, true, false, List, [], length, ⊤, ℤ, pos, Option, Some, None}
use Rattle.std.specs.Option.{option_map}
use Rattle.sbe_types.specs.declared.kind.Order.{Order}
use Rattle.sbe_types.specs.declared.kind.Kind.{Kind, Leaf, Enum, Set, Const, Comp'}
use Rattle.sbe_types.specs.declared.message.Block.{out-Block}
use Rattle.sbe_types.specs.declared.message.Value.{Value}
use Rattle.sbe_types.specs.declared.message.Value.TheVariants as value
use Rattle.sbe_types.specs.Numbers.{natural}
use Rattle.sbe_types.specs.Places.{width}
use Rattle.sbe_types.specs.Shows.{Shows}
use Rattle.schema_facts.specs.InOrder.{IsKindInOrder}
use Rattle.flyweight_view.specs.declared.values.FieldBytes.{FieldBytes}
use Rattle.flyweight_view.specs.TypedBlocks.{TypedBlock}
use Rattle.flyweight_view.specs.ShownIn.{IsShownIn}
use Rattle.bridge_rules.specs.Members.{and_then, bits_in, not_zero, number_in}
use Rattle.bridge_terms.specs.Blocks.{nth_or}
use Rattle.bridge_table.specs.declared.rule.Unit.{Unit}
use Rattle.bridge_table.specs.declared.rule.Unit.TheVariants as unit

-- what a view shows of a field is this value
abbrev pub IsSeenOf : Option FieldBytes → Value → Type 0
IsSeenOf None v = v ≡ value.Absent
IsSeenOf (Some f) v = IsShownIn f (Some v)

-- the bytes of a field of a kind in order, as many as it is wide
pub record CanRead (f : FieldBytes) : Type 0 where
  pub order : IsKindInOrder f.kind.now
  pub wide : length f.bytes.now ≡ width f.kind.now

-- the same if there is a field
abbrev pub CanReadAny : Option FieldBytes → Type 0
CanReadAny None = ⊤
CanReadAny (Some f) = CanRead f

-- some bytes of the kind show the value
pub record IsValueOf (k : Kind) (v : Value) : Type 0 where
  pub order : Order
  pub known : Bool
  pub bytes : List ℕ
  pub shown : Shows order known k v bytes

-- the number of the choices of a set that isn't empty
abbrev pub choices_in : Value → Option ℤ
choices_in v = option_map pos (and_then (bits_in v) not_zero)

-- a number from 0 to the largest of 64 bits
abbrev pub is_word : ℤ → Bool
is_word n = int_le (pos 0) n && int_le n (pos 18446744073709551615)

-- the kind is a composite
abbrev pub is_composite : Kind → Bool
is_composite (Comp' n members) = true
is_composite (Leaf l) = false
is_composite (Enum l names) = false
is_composite (Set p names) = false
is_composite (Const c) = false

-- the field is there, and a composite
abbrev pub is_composite_field : Option FieldBytes → Bool
is_composite_field None = false
is_composite_field (Some f) = is_composite f.kind.now

-- the values of a composite's members; none if there isn't a composite
abbrev pub members_seen : Option TypedBlock → List Value
members_seen None = []
members_seen (Some s) = (out-Block s.block).fields

-- each member has a value
abbrev pub HasMembers : Option TypedBlock → Type 0
HasMembers None = ⊤
HasMembers (Some s) = length (out-Block s.block).fields ≡ length s.fields

-- the number of a composite's member
abbrev pub nth_number : ℕ → List Value → Option ℤ
nth_number i vs = number_in (nth_or value.Absent i vs)

-- the unit of a moment, by the values of a composite's members
abbrev pub unit_seen : Unit → List Value → Option ℕ
unit_seen (unit.Always u) vs = Some u
unit_seen (unit.OnWire leaf) vs = and_then (nth_number 1 vs) (λ u. Some (natural u))
