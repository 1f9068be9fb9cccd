-- A composite whose first member is made optional is as wide, as high and in the same order.
use Rattle.std.proofs.Common.{◌≡◌, ℕ, suc, ◌+◌, max, List, [], ◌∷◌, Option, Some, None, refl, ap, sym, subst, ◌∙◌}
use Rattle.std.specs.Prelude.{false}
use Rattle.sbe_types.specs.Places.{width, is_const, end_past, members_end}
use Rattle.sbe_types.specs.declared.kind.Leaf.{Leaf as LeafOf}
use Rattle.sbe_types.specs.declared.kind.Presence.{Presence}
use Rattle.sbe_types.specs.declared.kind.Presence.TheVariants.{Required, Optional, Constant}
use Rattle.sbe_types.specs.declared.kind.Kind.{Kind, Leaf, Enum, Set, Const, Comp, Comp'}
use Rattle.sbe_types.specs.declared.kind.Member.{Member}
use Rattle.sbe_wire.specs.Placed.{IsPlacedKind}
use Rattle.schema_rules.specs.Kinds.{with_presence, made_optional, first_optional, composite_with}
use Rattle.schema_rules.specs.TypeRules.{is_constant}
use Rattle.schema_facts.specs.Measured.{IsNarrow}
use Rattle.schema_facts.specs.InOrder.{leaves, height, IsLeafFrom, IsKindFrom}
use Rattle.schema_facts.proofs.KindLists.{width_comp, leaves_comp, height_comp, list_leaves, list_height, IsFull, AreFull, full_comp, full_members, PlacedList, MadeOf, comp_made}

-- ---- one kind

-- what is so of a kind, whatever the presence of its leaf is
module _ (P : Kind → Type 0) (leaf : (l : LeafOf) → P (Leaf l) → P (Leaf (with_presence Optional l))) where
  pub optional_is : (k : Kind) → P k → P (made_optional k)
  optional_is (Leaf l) h = leaf l h
  optional_is (Enum l names) h = h
  optional_is (Set p names) h = h
  optional_is (Const c) h = h
  optional_is (Comp' n row) h = h

optional_fixed : (k : Kind) → is_const (made_optional k) ≡ is_const k
optional_fixed k = optional_is (λ o. is_const o ≡ is_const k) (λ l h. h) k refl

optional_wide : (k : Kind) → width (made_optional k) ≡ width k
optional_wide k = optional_is (λ o. width o ≡ width k) (λ l h. h) k refl

optional_leaves : (k : Kind) → leaves (made_optional k) ≡ leaves k
optional_leaves k = optional_is (λ o. leaves o ≡ leaves k) (λ l h. h) k refl

optional_height : (k : Kind) → height (made_optional k) ≡ height k
optional_height k = optional_is (λ o. height o ≡ height k) (λ l h. h) k refl

-- a leaf of another presence
pub leaf_with : (p : Presence) (n : ℕ) (l : LeafOf) → is_constant p ≡ false → IsLeafFrom n l → IsLeafFrom n (with_presence p l)
leaf_with p n l fixed h = record { null = h.null; low = h.low; high = h.high; range = h.range; least = h.least; most = h.most; shape = h.shape; presence = fixed }

-- ---- members

same_past : (e : ℕ) (offset : Option ℕ) (k l : Kind) → is_const k ≡ is_const l → width k ≡ width l → end_past e offset k ≡ end_past e offset l
same_past e offset k l h w = cc

past_first : (m : Member) → end_past 0 m.offset (made_optional m.kind) ≡ end_past 0 m.offset m.kind
past_first m = same_past 0 m.offset (made_optional m.kind) m.kind (optional_fixed m.kind) (optional_wide m.kind)

pub first_end : (ms : List Member) → members_end 0 (first_optional ms) ≡ members_end 0 ms
first_end [] = refl
first_end (m ∷ ms) = ap (λ e. members_end e ms) (past_first m)

first_leaves : (ms : List Member) → list_leaves (first_optional ms) ≡ list_leaves ms
first_leaves [] = refl
first_leaves (m ∷ ms) = ap (λ n. n + list_leaves ms) (optional_leaves m.kind)

first_height : (ms : List Member) → list_height (first_optional ms) ≡ list_height ms
first_height [] = refl
first_height (m ∷ ms) = ap (λ n. max n (list_height ms)) (optional_height m.kind)

first_full : (ms : List Member) → AreFull ms → AreFull (first_optional ms)
first_full [] h = h
first_full (m ∷ ms) h = (optional_is IsFull (λ l h. h) m.kind h.0, h.1)

pub first_placed : (ms : List Member) → PlacedList 0 ms → PlacedList 0 (first_optional ms)
first_placed [] h = h
first_placed (m ∷ ms) h =
    ((λ fixed. h.0 (sym (optional_fixed m.kind) ∙ fixed)), optional_is IsPlacedKind (λ l h. h) m.kind h.1, subst (λ (e : ℕ). PlacedList e ms) (sym (past_first m)) h.2)

pub narrow_first : (m : Member) → IsNarrow m.kind → IsNarrow (made_optional m.kind)
narrow_first m h = optional_is IsNarrow (λ l h. h) m.kind h

first_made : (least : ℕ) (ms : List Member) → MadeOf least ms → MadeOf least (first_optional ms)
first_made least [] h = h
first_made least (m ∷ ms) h =
    record { few = h.few; names = h.names; differ = h.differ; kinds = (optional_is (IsKindFrom least) (λ l h. leaf_with Optional least l refl h) m.kind h.kinds.0, h.kinds.1) }

-- ---- a composite by the presence of its field

module _ (P : List Member → Type 0) (first : (ms : List Member) → P ms → P (first_optional ms)) (Q : Kind → Type 0) (comp : (ms : List Member) → P ms → Q (Comp ms)) where
  pub with_is : (presence : Option Presence) (ms : List Member) → P ms → Q (composite_with presence ms)
  with_is None ms h = comp ms h
  with_is (Some Required) ms h = comp ms h
  with_is (Some Constant) ms h = comp ms h
  with_is (Some Optional) ms h = comp (first_optional ms) (first ms h)

pub with_made : (least : ℕ) (presence : Option Presence) (ms : List Member) → MadeOf least ms → IsKindFrom least (composite_with presence ms)
with_made least = with_is (MadeOf least) (first_made least) (IsKindFrom least) (comp_made least)

-- what is told of a composite and of one with another presence
pub record AsLarge (other kind : Kind) : Type 0 where
  pub fixed : is_const other ≡ is_const kind
  pub width : width other ≡ width kind
  pub leaves : leaves other ≡ leaves kind
  pub height : height other ≡ height kind
  pub full : IsFull kind → IsFull other

first_as_large : (ms : List Member) → AsLarge (Comp (first_optional ms)) (Comp ms)
first_as_large ms =
    record {
      fixed = refl;
      width = width_comp (first_optional ms) ∙ first_end ms ∙ sym (width_comp ms);
      leaves = leaves_comp (first_optional ms) ∙ first_leaves ms ∙ sym (leaves_comp ms);
      height = height_comp (first_optional ms) ∙ ap suc (first_height ms) ∙ sym (height_comp ms);
      full = λ h. full_comp (first_optional ms) (first_full ms (full_members ms h));
    }

same_large : (k : Kind) → AsLarge k k
same_large k = record { fixed = refl; width = refl; leaves = refl; height = refl; full = λ h. h }

pub as_large : (presence : Option Presence) (ms : List Member) → AsLarge (composite_with presence ms) (Comp ms)
as_large None ms = same_large (Comp ms)
as_large (Some Required) ms = same_large (Comp ms)
as_large (Some Constant) ms = same_large (Comp ms)
as_large (Some Optional) ms = first_as_large ms
