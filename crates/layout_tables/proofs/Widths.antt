-- Members of a composite up to one of them.
use Rattle.std.proofs.Common.{◌≡◌, ◌≤◌, ◌<◌, cond, ℕ, zero, suc, Bool, true, false, List, [], ◌∷◌, length, take, drop, Some, None, refl, subst, arith}
use Rattle.std.specs.Prelude.{slice_get}
use Rattle.std.specs.Option.{IsSome}
use Rattle.sbe_types.specs.declared.kind.Member.{Member}
use Rattle.sbe_types.specs.Places.{members_end, member_place, begin_of, end_past, is_const}
use Rattle.schema_facts.proofs.KindLists.{NarrowList}

pub narrow_take : (e : ℕ) (ms : List Member) (i : ℕ) → NarrowList e ms → NarrowList e (take i ms)
narrow_take e ms zero h = tt
narrow_take e [] (suc i) h = tt
narrow_take e (m ∷ ms) (suc i) h = (h.0, h.1, narrow_take (end_past e m.offset m.kind) ms i h.2)

pub place_is : (e : ℕ) (ms : List Member) (i : ℕ) (m : Member) → slice_get ms i ≡ Some m → IsSome (member_place e ms i) → member_place e ms i ≡ Some (begin_of (members_end e (take i ms)) m.offset)
place_is e [] i m at some = cc
place_is e (x ∷ ms) zero m at some =
    let here : x ≡ m = cc in
    subst (λ (y : Member). member_place e (x ∷ ms) 0 ≡ Some (begin_of e y.offset)) here (placed (is_const x.kind) some)
  where
    placed : (b : Bool) → IsSome (cond b None (Some (begin_of e x.offset))) → cond b None (Some (begin_of e x.offset)) ≡ Some (begin_of e x.offset)
    placed true h = cc
    placed false h = refl
place_is e (x ∷ ms) (suc i) m at some = place_is (end_past e x.offset x.kind) ms i m at some

pub place_within : (e : ℕ) (ms : List Member) (i : ℕ) → IsSome (member_place e ms i) → i < length ms
place_within e [] i some = cc
place_within e (x ∷ ms) zero some = omega arith
place_within e (x ∷ ms) (suc i) some = let rest = place_within (end_past e x.offset x.kind) ms i some in omega (arith, rest)

-- after the last member nothing is added
pub members_done : (e : ℕ) (ms : List Member) (n : ℕ) → length ms ≤ n → members_end e (drop n ms) ≡ e
members_done e [] zero h = refl
members_done e [] (suc n) h = refl
members_done e (m ∷ ms) zero h = absurd (omega arith)
members_done e (m ∷ ms) (suc n) h = members_done e ms n (omega arith)
