-- The members of a composite that is in order.
use Rattle.std.proofs.Common.{◌≡◌, ◌≤◌, ◌+◌, ℕ, Bool, true, false, cond, List, [], ◌∷◌, refl, ap, subst, arith}
use Rattle.std.specs.Prelude.{⊤}
use Rattle.std.specs.List.{AllByRecursion}
use Rattle.sbe_types.specs.declared.kind.Kind.{Comp}
use Rattle.sbe_types.specs.declared.kind.Member.{Member}
use Rattle.sbe_types.specs.Places.{width, is_const, begin_of, end_past, members_end}
use Rattle.sbe_wire.specs.Placed.{BeginsBehind}
use Rattle.schema_facts.specs.InOrder.{IsKindInOrder}
use Rattle.schema_facts.specs.Measured.{EndsWithin}
use Rattle.schema_facts.proofs.KindLists.{width_comp, PlacedList, placed_members, NarrowList, narrow_members}
use Rattle.schema_facts.proofs.KindMembers.{members_kinds}

-- the member of a composite of n bytes, after members that end at e
pub record MemberFits (n e : ℕ) (m : Member) : Type 0 where
  pub order : IsKindInOrder m.kind
  pub narrow : EndsWithin e m.offset m.kind
  pub within : is_const m.kind ≡ false → begin_of e m.offset + width m.kind ≤ n

-- the same of members after members that end at e
abbrev pub AreFit : ℕ → ℕ → List Member → Type 0
AreFit n e [] = ⊤
AreFit n e (m ∷ ms) = MemberFits n e m × AreFit n (end_past e m.offset m.kind) ms

past_grows : (e : ℕ) (m : Member) (t : Bool) → is_const m.kind ≡ t → BeginsBehind e m.offset m.kind → e ≤ end_past e m.offset m.kind
past_grows e m true c h = let same : end_past e m.offset m.kind ≡ e = ap (λ t. cond t e (begin_of e m.offset + width m.kind)) c in omega (arith, same)
past_grows e m false c h = let past : end_past e m.offset m.kind ≡ begin_of e m.offset + width m.kind = ap (λ t. cond t e (begin_of e m.offset + width m.kind)) c in omega (arith, past, h c)

ends_behind : (e : ℕ) (ms : List Member) → PlacedList e ms → e ≤ members_end e ms
ends_behind e [] h = omega arith
ends_behind e (m ∷ ms) h =
    let grows = past_grows e m (is_const m.kind) refl h.0 in
    let rest = ends_behind (end_past e m.offset m.kind) ms h.2 in
    omega (arith, grows, rest)

from_lists : (n e : ℕ) (ms : List Member) → AllByRecursion (λ (m : Member). IsKindInOrder m.kind) ms → PlacedList e ms → NarrowList e ms → members_end e ms ≤ n → AreFit n e ms
from_lists n e [] kinds placed narrow ends = tt
from_lists n e (m ∷ ms) kinds placed narrow ends =
    let next = end_past e m.offset m.kind in
    let rest = ends_behind next ms placed.2 in (
      record {
        order = kinds.0;
        narrow = narrow.1;
        within = λ c. let past : next ≡ begin_of e m.offset + width m.kind = ap (λ t. cond t e (begin_of e m.offset + width m.kind)) c in omega (arith, past, rest, ends);
      },
      from_lists n next ms kinds.1 placed.2 narrow.2 ends,
    )

pub members_fit : (ms : List Member) (n : ℕ) → IsKindInOrder (Comp ms) → n ≡ width (Comp ms) → AreFit n 0 ms
members_fit ms n h wide =
    from_lists n 0 ms (members_kinds ms h) (placed_members ms h.within.placed) (narrow_members ms h.within.narrow) (omega (arith, wide, width_comp ms))

pub fit_first : (n e : ℕ) (m : Member) (ms all : List Member) → all ≡ m ∷ ms → AreFit n e all → MemberFits n e m × AreFit n (end_past e m.offset m.kind) ms
fit_first n e m ms all is h = subst (AreFit n e) is h
