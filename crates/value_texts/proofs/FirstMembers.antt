-- The number of a composite's first member.
use Rattle.std.proofs.Common.{◌≡◌, ℕ, Bool, true, false, cond, List, [], ◌∷◌, length, Some, None, refl, ap, ◌∙◌, subst, arith}
use Rattle.std.specs.Prelude.{slice_get}
use Rattle.sbe_types.specs.declared.kind.Kind.{Kind, Leaf, Enum, Set, Const, Comp, Comp', items_hidden-the_row-Member-0}
use Rattle.sbe_types.specs.declared.kind.Member.{Member}
use Rattle.sbe_types.specs.declared.kind.Order.{Order}
use Rattle.sbe_types.specs.declared.message.Value.{Value, items_hidden-the_row-Value-0}
use Rattle.sbe_types.specs.Places.{begin_of, bytes_at, is_const, member_place, place_of, width}
use Rattle.sbe_types.specs.Shows.{Shows}
use Rattle.sbe_types.proofs.PlaceLemmas.{each_from, EachFrom}
use Rattle.sbe_types.proofs.KindRows.{row_in}
use Rattle.bridge_rules.specs.Members.{first_number, mantissa_in, number_in}
use Rattle.bridge_rules.proofs.BoolLemmas.{true_false}

-- the values of a composite's members
record Values (order : Order) (known : Bool) (ms : List Member) (v : Value) (b : List ℕ) : Type 0 where
  values : List Value
  first : mantissa_in v ≡ first_number values
  each : EachFrom order known b 0 ms values

values_of : (order : Order) (known : Bool) (ms : List Member) (v : Value) (b : List ℕ) → Shows order known (Comp ms) v b → Values order known ms v b
values_of order known ms v b h =
    let row = row_in (Comp ms) in
    record {
      values = h.1.0;
      first = ap mantissa_in h.1.1 ∙ ap first_number (items_hidden-the_row-Value-0 h.1.0);
      each = subst (λ l. EachFrom order known b 0 l h.1.0) (items_hidden-the_row-Member-0 ms) (each_from order known b 0 row.1 h.1.0 h.1.2);
    }

no_first : (vs : List Value) → length vs ≡ 0 → first_number vs ≡ None
no_first [] h = refl
no_first (v ∷ vs) h = absurd (omega (arith, h))

-- without members there is no number
pub no_mantissa : (order : Order) (known : Bool) (ms : List Member) (v : Value) (b : List ℕ) → length ms ≡ 0 → Shows order known (Comp ms) v b → mantissa_in v ≡ None
no_mantissa order known ms v b none h =
    let of = values_of order known ms v b h in
    of.first ∙ no_first of.values (of.each.0 ∙ none)

-- the value of the first member
pub record First (order : Order) (known : Bool) (ms : List Member) (m : Member) (v : Value) (b : List ℕ) : Type 0 where
  pub value : Value
  pub first : mantissa_in v ≡ number_in value
  pub shows : Shows order known m.kind value (bytes_at (member_place 0 ms 0) (width m.kind) b)

first_at : (order : Order) (known : Bool) (b : List ℕ) (ms : List Member) (m : Member) (v : Value) (vs : List Value) → slice_get ms 0 ≡ Some m → mantissa_in v ≡ first_number vs
    → EachFrom order known b 0 ms vs → First order known ms m v b
first_at order known b [] m v vs at is each = absurd cc
first_at order known b (x ∷ ms) m v [] at is each = absurd (omega (arith, each.0))
first_at order known b (x ∷ ms) m v (w ∷ vs) at is each = record { value = w; first = is; shows = each.1 0 m w at refl }

pub first_value : (order : Order) (known : Bool) (ms : List Member) (m : Member) (v : Value) (b : List ℕ) → slice_get ms 0 ≡ Some m → Shows order known (Comp ms) v b
    → First order known ms m v b
first_value order known ms m v b at h = let of = values_of order known ms v b h in first_at order known b ms m v of.values at of.first of.each

-- a constant has no number
const_number : (order : Order) (known : Bool) (k : Kind) (v : Value) (b : List ℕ) → is_const k ≡ true → Shows order known k v b → number_in v ≡ None
const_number order known (Const c) v b is h = ap number_in h.1
const_number order known (Leaf l) v b is h = true_false is refl
const_number order known (Enum l names) v b is h = true_false is refl
const_number order known (Set p names) v b is h = true_false is refl
const_number order known (Comp' n row) v b is h = true_false is refl

pub const_mantissa : (order : Order) (known : Bool) (ms : List Member) (m : Member) (v : Value) (b : List ℕ) → slice_get ms 0 ≡ Some m → is_const m.kind ≡ true
    → Shows order known (Comp ms) v b → mantissa_in v ≡ None
const_mantissa order known ms m v b at fixed h =
    let of = first_value order known ms m v b at h in
    of.first ∙ const_number order known m.kind of.value _ fixed of.shows

-- the offset of the first member, if it isn't a constant
pub first_place : (ms : List Member) (m : Member) → slice_get ms 0 ≡ Some m → is_const m.kind ≡ false → member_place 0 ms 0 ≡ Some (begin_of 0 m.offset)
first_place [] m at moves = absurd cc
first_place (x ∷ ms) m at moves =
    let same : x ≡ m = cc in
    ap (λ (y : Member). place_of 0 y.offset y.kind) same ∙ ap (λ t. cond t None (Some (begin_of 0 m.offset))) moves
