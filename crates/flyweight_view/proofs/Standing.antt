-- The dimension of a group that was walked: its numbers are those of its row, and nothing of it is refused.
use Rattle.std.proofs.Common.{◌≡◌, ◌≤◌, ◌<◌, ◌-◌, ◌&&◌, ℕ, Bool, true, false, not, if◌then◌else◌, List, length, take, drop, Result, Ok, Err, refl, sym, ap, ap₂, ◌∙◌, subst, arith}
use Rattle.std.specs.Prelude.{nat_le, nat_lt, codes}
use Rattle.std.proofs.lemmas.Bool.{leb-true}
use Rattle.std.proofs.lemmas.Bool.Decides.{nat_tests}
use Rattle.sbe_types.specs.declared.kind.Order.{Order}
use Rattle.sbe_types.specs.declared.kind.Member.{Member}
use Rattle.sbe_types.specs.Places.{members_end}
use Rattle.sbe_wire.specs.Faults.{Fault}
use Rattle.sbe_wire.specs.Named.{number_named}
use Rattle.sbe_wire.specs.Reading.{later, dimension_of}
use Rattle.layout_tables.specs.declared.rows.DimRow.{DimRow}
use Rattle.layout_tables.specs.Heads.{number_at}
use Rattle.layout_tables.specs.Rowed.{as_spot, DimIs}
use Rattle.group_codec.proofs.DimRows.{named_is}
use Rattle.body_walk.specs.inner.Cursor.{dim_from}

-- a result that can't be a fault
pub never_a_fault : {X : Type 0} (r : Result X Fault) → ((f : Fault) → Err f ≡ r → ⊥) → (x : X) × (Ok x ≡ r)
never_a_fault (Ok x) h = (x, refl)
never_a_fault (Err f) h = absurd (h f refl)

there_by : {X : Type 0} (t : Bool) (n : ℕ) (x : X) (r : Result X Fault) (f : Fault) → Ok x ≡ (if t then later n r else Err f) → (t ≡ true) × (Ok x ≡ later n r)
there_by true n x r f h = (refl, h)
there_by false n x r f h = cc

numbers_by : (a b : Bool) (n : ℕ) (x p : ℕ × ℕ) (f g : Fault) → Ok x ≡ later n (if not a then Err f else (if b then Err g else Ok p)) → (x ≡ p) × (b ≡ false)
numbers_by true false n x p f g h = (cc, refl)
numbers_by true true n x p f g h = cc
numbers_by false b n x p f g h = cc

module _ (order : Order) (row : DimRow) (dim : List Member) (is : DimIs row dim) (least : ℕ) (body : List ℕ) (at : ℕ) (x : ℕ × ℕ) (told : Ok x ≡ dim_from order dim least body at) where
  abbrev head : List ℕ
  head = take (members_end 0 dim) (drop at body)

  pub stood_room : row.width ≤ length body - at
  stood_room =
      let there = there_by (nat_le (members_end 0 dim) (length body - at)) at x (dimension_of order dim least head) _ told in
      omega (arith, is.width, leb-true (members_end 0 dim) (length body - at) there.0)

  stood : (x ≡ (number_named order dim (codes "blockLength") head, number_named order dim (codes "numInGroup") head))
      × ((nat_lt 0 (number_named order dim (codes "numInGroup") head) && nat_lt (number_named order dim (codes "blockLength") head) least) ≡ false)
  stood =
      let there = there_by (nat_le (members_end 0 dim) (length body - at)) at x (dimension_of order dim least head) _ told in
      numbers_by _ _ at x _ _ _ there.1

  pub stood_numbers : x ≡ (number_at order (as_spot row.block) (take row.width (drop at body)), number_at order (as_spot row.count) (take row.width (drop at body)))
  stood_numbers =
      stood.0 ∙ ap₂ (λ (n m : ℕ). (n, m)) (named_is order dim (codes "blockLength") head row.block is.block) (named_is order dim (codes "numInGroup") head row.count is.count)
      ∙ ap (λ w. (number_at order (as_spot row.block) (take w (drop at body)), number_at order (as_spot row.count) (take w (drop at body)))) (sym is.width)

  reach_by : (n m : ℕ) → (nat_lt 0 n && nat_lt m least) ≡ false → 0 < n → least ≤ m
  reach_by n m none some = grind (arith, nat_tests, none, some)

  pub stood_reaches : 0 < x.1 → least ≤ x.0
  stood_reaches some =
      let reached = reach_by (number_named order dim (codes "numInGroup") head) (number_named order dim (codes "blockLength") head) stood.1 (subst (λ (p : ℕ × ℕ). 0 < p.1) stood.0 some) in
      subst (λ (p : ℕ × ℕ). least ≤ p.0) (sym stood.0) reached
