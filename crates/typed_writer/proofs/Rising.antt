-- Parts that stand one after another.
use Rattle.std.proofs.Common.{◌≡◌, ℕ, zero, suc, ◌+◌, ◌-◌, ◌≤◌, ◌<◌, Bool, true, false, cond, List, [], ◌∷◌, length, drop, get_or, replicate, Option, Some, refl, sym, ap, ◌∙◌, subst, arith}
use Rattle.sbe_types.specs.declared.kind.Order.{Order}
use Rattle.sbe_types.specs.declared.kind.Leaf.{Leaf as LeafOf}
use Rattle.sbe_types.specs.declared.kind.Kind.{Kind}
use Rattle.sbe_types.specs.declared.kind.Member.{Member}
use Rattle.sbe_types.specs.declared.schema.Field.{Field}
use Rattle.sbe_types.specs.declared.message.Elem.TheVariants.{Null}
use Rattle.sbe_types.specs.Numbers.{bytes_of}
use Rattle.sbe_types.specs.Places.{width, is_const, begin_of, end_past, members_end, fields_end}
use Rattle.sbe_types.specs.Wire.{elements_bytes}
use Rattle.sbe_wire.specs.Placed.{BeginsBehind}
use Rattle.kind_bytes.specs.Members.{followed_by}
use Rattle.typed_writer.specs.Ready.{MembersStand, FieldsStand}
use Rattle.typed_writer.proofs.Lists.{behind_next}

rise_by : (b : Bool) (e n w : ℕ) → (b ≡ false → e ≤ n) → e ≤ cond b e (n + w)
rise_by true e n w h = omega arith
rise_by false e n w h = let low = h refl in omega (arith, low)

pub end_rises : (e : ℕ) (offset : Option ℕ) (kind : Kind) → BeginsBehind e offset kind → e ≤ end_past e offset kind
end_rises e offset kind h = rise_by (is_const kind) e (begin_of e offset) (width kind) h

members_rise : (e : ℕ) (ms : List Member) → MembersStand e ms → e ≤ members_end e ms
members_rise e [] h = omega arith
members_rise e (m ∷ ms) h =
    let here = end_rises e m.offset m.kind h.0 in
    let rest = members_rise (end_past e m.offset m.kind) ms h.2 in
    omega (arith, here, rest)

pub fields_rise : (e : ℕ) (fs : List Field) → FieldsStand e fs → e ≤ fields_end e fs
fields_rise e [] h = omega arith
fields_rise e (f ∷ fs) h =
    let here = end_rises e f.offset f.kind h.0.begins in
    let rest = fields_rise (end_past e f.offset f.kind) fs h.1 in
    omega (arith, here, rest)

-- the next member begins after those before it, and ends before all
pub member_within : (e : ℕ) (ms : List Member) (i : ℕ) (m : Member) → i < length ms → m ≡ get_or ms i m → MembersStand e (drop i ms) →
    (e ≤ end_past e m.offset m.kind) × (end_past e m.offset m.kind ≤ members_end e (drop i ms))
member_within e [] i m h is all = absurd (omega (arith, h))
member_within e (x ∷ ms) zero m h is all =
    subst (λ (y : Member). (e ≤ end_past e y.offset y.kind) × (end_past e y.offset y.kind ≤ members_end e (x ∷ ms))) (sym is)
    (end_rises e x.offset x.kind all.0, members_rise (end_past e x.offset x.kind) ms all.2)
member_within e (x ∷ ms) (suc i) m h is all = member_within e ms i m (omega (arith, h)) is all

-- the same of a field
pub field_within : (e : ℕ) (fs : List Field) (i : ℕ) (f : Field) → i < length fs → f ≡ get_or fs i f → FieldsStand e (drop i fs) →
    (e ≤ end_past e f.offset f.kind) × (end_past e f.offset f.kind ≤ fields_end e (drop i fs))
field_within e [] i f h is all = absurd (omega (arith, h))
field_within e (x ∷ fs) zero f h is all =
    subst (λ (y : Field). (e ≤ end_past e y.offset y.kind) × (end_past e y.offset y.kind ≤ fields_end e (x ∷ fs))) (sym is)
    (end_rises e x.offset x.kind all.0.begins, fields_rise (end_past e x.offset x.kind) fs all.1)
field_within e (x ∷ fs) (suc i) f h is all = field_within e fs i f (omega (arith, h)) is all

-- one null more
pub null_next : (order : Order) (leaf : LeafOf) (n i : ℕ) (old new : List ℕ) → i < n → followed_by old (bytes_of order leaf.prim leaf.null) ≡ Some new →
    followed_by new (elements_bytes order leaf (replicate (n - (i + 1)) Null)) ≡ followed_by old (elements_bytes order leaf (replicate (n - i) Null))
null_next order leaf n i old new low h =
    let many : n - i ≡ suc (n - (i + 1)) = omega (arith, low) in
    sym (ap (λ k. followed_by old (elements_bytes order leaf (replicate k Null))) many
    ∙ behind_next old new (bytes_of order leaf.prim leaf.null) (elements_bytes order leaf (replicate (n - (i + 1)) Null)) h)
