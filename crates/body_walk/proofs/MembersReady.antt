-- The members of a composite that is ready.
use Rattle.std.proofs.Common.{◌≡◌, ◌≤◌, ◌<◌, ◌+◌, ℕ, Bool, true, false, cond, List, [], ◌∷◌, length, refl, ap, subst, arith}
use Rattle.std.specs.Prelude.{⊤}
use Rattle.std.specs.List.{AllByRecursion}
use Rattle.sbe_types.specs.declared.kind.Kind.{Comp, Row_of-Member, end_of-Member, more_of-Member, items-the_row-Member, items_hidden-the_row-Member-0}
use Rattle.sbe_types.specs.declared.kind.Member.{Member}
use Rattle.sbe_types.specs.declared.limits.TheConstants.{MEMBER_LIMIT}
use Rattle.sbe_types.specs.Places.{width, is_const, begin_of, end_past, members_end}
use Rattle.sbe_wire.specs.Placed.{BeginsBehind}
use Rattle.schema_facts.specs.InOrder.{height, IsKindInOrder}
use Rattle.schema_facts.specs.Measured.{EndsWithin}
use Rattle.schema_facts.proofs.KindLists.{list_height, height_comp, width_comp, PlacedList, placed_members, NarrowList, narrow_members}
use Rattle.schema_facts.proofs.KindMembers.{members_kinds}
use Rattle.sbe_types.proofs.KindRows.{row_in}
use Rattle.body_walk.specs.inner.Kinds.{HasFewMembers, HaveFewMembers, IsReady}

-- the member of a composite of n bytes and some height, after members that end at e
pub record MemberReady (n high e : ℕ) (m : Member) : Type 0 where
  pub ready : IsReady m.kind
  pub narrow : EndsWithin e m.offset m.kind
  pub within : is_const m.kind ≡ false → begin_of e m.offset + width m.kind ≤ n
  pub low : height m.kind < high

-- the same of members after members that end at e
abbrev pub AreReady : ℕ → ℕ → ℕ → List Member → Type 0
AreReady n high e [] = ⊤
AreReady n high e (m ∷ ms) = MemberReady n high e m × AreReady n high (end_past e m.offset m.kind) ms

-- ---- few members

few_row : (n : _) (row : Row_of-Member n) → HaveFewMembers row → AllByRecursion (λ (m : Member). HasFewMembers m.kind) (items-the_row-Member n row)
few_row n end_of-Member h = tt
few_row n (more_of-Member name offset kind rest) h = (h.0, few_row _ rest h.1)

few_members : (ms : List Member) → HasFewMembers (Comp ms) → (length ms ≤ MEMBER_LIMIT) × AllByRecursion (λ (m : Member). HasFewMembers m.kind) ms
few_members ms h =
    let row = row_in (Comp ms) in
    let is = items_hidden-the_row-Member-0 ms in
    (subst (λ l. length l ≤ MEMBER_LIMIT) is h.0, subst (AllByRecursion (λ (m : Member). HasFewMembers m.kind)) is (few_row row.0 row.1 h.1))

-- ---- places

past_grows : (e : ℕ) (m : Member) (t : Bool) → is_const m.kind ≡ t → BeginsBehind e m.offset m.kind → e ≤ end_past e m.offset m.kind
past_grows e m true c h = let same : end_past e m.offset m.kind ≡ e = ap (λ t. cond t e (begin_of e m.offset + width m.kind)) c in omega (arith, same)
past_grows e m false c h = let past : end_past e m.offset m.kind ≡ begin_of e m.offset + width m.kind = ap (λ t. cond t e (begin_of e m.offset + width m.kind)) c in omega (arith, past, h c)

pub ends_behind : (e : ℕ) (ms : List Member) → PlacedList e ms → e ≤ members_end e ms
ends_behind e [] h = omega arith
ends_behind e (m ∷ ms) h =
    let grows = past_grows e m (is_const m.kind) refl h.0 in
    let rest = ends_behind (end_past e m.offset m.kind) ms h.2 in
    omega (arith, grows, rest)

-- ---- all of them

from_lists : (n high e : ℕ) (ms : List Member) → AllByRecursion (λ (m : Member). IsKindInOrder m.kind) ms → AllByRecursion (λ (m : Member). HasFewMembers m.kind) ms →
    PlacedList e ms → NarrowList e ms → members_end e ms ≤ n → list_height ms < high → AreReady n high e ms
from_lists n high e [] kinds few placed narrow ends low = tt
from_lists n high e (m ∷ ms) kinds few placed narrow ends low =
    let next = end_past e m.offset m.kind in
    let rest = ends_behind next ms placed.2 in (
      record {
        ready = record { order = kinds.0; few = few.0 };
        narrow = narrow.1;
        within = λ c. let past : next ≡ begin_of e m.offset + width m.kind = ap (λ t. cond t e (begin_of e m.offset + width m.kind)) c in omega (arith, past, rest, ends);
        low = omega (arith, low);
      },
      from_lists n high next ms kinds.1 few.1 placed.2 narrow.2 ends (omega (arith, low)),
    )

pub members_ready : (ms : List Member) (n : ℕ) → IsReady (Comp ms) → n ≡ width (Comp ms) → AreReady n (height (Comp ms)) 0 ms
members_ready ms n h wide =
    let few = few_members ms h.few in
    from_lists n (height (Comp ms)) 0 ms (members_kinds ms h.order) few.1 (placed_members ms h.order.within.placed) (narrow_members ms h.order.within.narrow)
    (omega (arith, wide, width_comp ms)) (omega (arith, height_comp ms))

pub members_few : (ms : List Member) → IsReady (Comp ms) → length ms ≤ MEMBER_LIMIT
members_few ms h = (few_members ms h.few).0
