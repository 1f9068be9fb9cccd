-- A member of a composite in order has a kind in order.
use Rattle.std.proofs.Common.{◌≡◌, ℕ, ◌+◌, ◌≤◌, Bool, true, false, List, [], ◌∷◌, refl, arith}
use Rattle.std.specs.List.{AllByRecursion}
use Rattle.sbe_types.specs.declared.limits.TheConstants.{PLACE_LIMIT}
use Rattle.sbe_types.specs.Places.{width, is_const, begin_of, end_past}
use Rattle.sbe_types.specs.declared.kind.Kind.{Kind, Leaf, Enum, Set, Const, Comp, Comp'}
use Rattle.sbe_types.specs.declared.kind.Member.{Member}
use Rattle.schema_rules.specs.CompositeRules.{most_leaves, most_composites}
use Rattle.schema_facts.specs.InOrder.{IsKindInOrder}
use Rattle.schema_facts.proofs.KindLists.{list_leaves, list_height, leaves_comp, height_comp, PlacedList, placed_members, NarrowList, narrow_members, KindsList, made_members}

-- what is asked of members that lie after e
record Behind (e : ℕ) (ms : List Member) : Type 0 where
  leaves : list_leaves ms ≤ most_leaves
  height : list_height ms ≤ most_composites
  placed : PlacedList e ms
  narrow : NarrowList e ms
  kinds : KindsList 1 ms

no_bytes : (k : Kind) → is_const k ≡ true → width k ≤ PLACE_LIMIT
no_bytes (Leaf l) h = cc
no_bytes (Enum l names) h = cc
no_bytes (Set p names) h = cc
no_bytes (Const c) h = omega arith
no_bytes (Comp' n row) h = cc

narrow_width : (k : Kind) (b : ℕ) (fixed : Bool) → is_const k ≡ fixed → (is_const k ≡ false → b + width k ≤ PLACE_LIMIT) → width k ≤ PLACE_LIMIT
narrow_width k b true is h = no_bytes k is
narrow_width k b false is h = let ends = h is in omega arith

first_in_order : (e : ℕ) (m : Member) (ms : List Member) → Behind e (m ∷ ms) → IsKindInOrder m.kind
first_in_order e m ms h =
    let leaves = h.leaves in
    let height = h.height in
    record {
      parts = h.kinds.0;
      within = record {
        leaves = omega arith;
        height = omega arith;
        placed = h.placed.1;
        narrow = h.narrow.0;
        width = narrow_width m.kind (begin_of e m.offset) (is_const m.kind) refl h.narrow.1;
      };
    }

later_behind : (e : ℕ) (m : Member) (ms : List Member) → Behind e (m ∷ ms) → Behind (end_past e m.offset m.kind) ms
later_behind e m ms h =
    let leaves = h.leaves in
    let height = h.height in
    record { leaves = omega arith; height = omega arith; placed = h.placed.2; narrow = h.narrow.2; kinds = h.kinds.1 }

each_in_order : (e : ℕ) (ms : List Member) → Behind e ms → AllByRecursion (λ (m : Member). IsKindInOrder m.kind) ms
each_in_order e [] h = tt
each_in_order e (m ∷ ms) h = (first_in_order e m ms h, each_in_order (end_past e m.offset m.kind) ms (later_behind e m ms h))

behind_of : (ms : List Member) → IsKindInOrder (Comp ms) → Behind 0 ms
behind_of ms h =
    let leaves = h.within.leaves in
    let height = h.within.height in
    let leaves_are = leaves_comp ms in
    let height_is = height_comp ms in
    record {
      leaves = omega arith;
      height = omega arith;
      placed = placed_members ms h.within.placed;
      narrow = narrow_members ms h.within.narrow;
      kinds = (made_members 1 ms h.parts).kinds;
    }

pub members_kinds : (ms : List Member) → IsKindInOrder (Comp ms) → AllByRecursion (λ (m : Member). IsKindInOrder m.kind) ms
members_kinds ms h = each_in_order 0 ms (behind_of ms h)
