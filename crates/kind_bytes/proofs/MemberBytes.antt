-- The bytes of a composite's members, one after another.
use Rattle.std.proofs.Common.{◌≡◌, ◌≤◌, ◌+◌, ◌-◌, ℕ, suc, Bool, true, false, cond, List, [], ◌∷◌, ◌++◌, length, take, drop, replicate, Option, Some, None, refl, sym, ap, ap₂, ◌∙◌, subst, arith, append_assoc}
use Rattle.std.specs.Prelude.{slice_get, ⊤}
use Rattle.std.specs.List.{AllByRecursion}
use Rattle.std.proofs.Common.{◌==◌, eq-eqb, length-append, length-take}
use Rattle.std.proofs.lemmas.Bool.{eqb-true}
use Rattle.std.proofs.lemmas.List.{drop_all, append-nil, take_all, length-replicate, length-take-le}
use Rattle.std.proofs.lemmas.Slice.{take-put_mid}
use borrow.Rule.Slice.PartMut.{put_mid}
use Rattle.sbe_types.specs.declared.kind.Order.{Order}
use Rattle.sbe_types.specs.declared.kind.Kind.{Kind, Leaf, Enum, Set, Const, Comp, Comp', Row_of-Member, end_of-Member, more_of-Member, items-the_row-Member, items_hidden-the_row-Member-0}
use Rattle.sbe_types.specs.declared.kind.Member.{Member}
use Rattle.sbe_types.specs.declared.message.Value.{Value}
use Rattle.sbe_types.specs.declared.message.Value.TheVariants as value
use Rattle.sbe_types.specs.declared.path.Step.TheVariants as way
use Rattle.sbe_types.specs.Places.{width, is_const, begin_of, end_past, members_end}
use Rattle.sbe_types.specs.Wire.{both, member_values, row_bytes, wire_bytes}
use Rattle.sbe_wire.specs.Misfit.{Misfit, or_else, misfit_in, other_kind, value_misfit}
use Rattle.sbe_wire.specs.Placed.{BeginsBehind}
use Rattle.schema_facts.specs.InOrder.{IsKindInOrder}
use Rattle.schema_facts.specs.Measured.{EndsWithin}
use Rattle.schema_facts.proofs.KindLists.{PlacedList, placed_members, NarrowList, narrow_members}
use Rattle.schema_facts.proofs.KindMembers.{members_kinds}
use Rattle.sbe_types.proofs.KindRows.{row_in}
use Rattle.kind_bytes.specs.Misfits.{members_misfit, field_misfit}
use Rattle.kind_bytes.specs.Members.{followed_by, member_bytes, members_bytes}
use Rattle.kind_bytes.proofs.Composites.{values_are, comp_none, comp_same, comp_other, drop_at, member_next}

some_none : {A : Type 0} {x : A} → ◌≡◌ {A = Option A} (Some x) None → ⊥
some_none h = cc

-- ---- rows and lists

row_list : (order : Order) (e : ℕ) (n : _) (row : Row_of-Member n) (vs : List Value) → row_bytes order e row (Some vs) ≡ members_bytes order e (items-the_row-Member n row) vs
row_list order e n end_of-Member [] = refl
row_list order e n end_of-Member (v ∷ vs) = refl
row_list order e n (more_of-Member name offset kind rest) [] = refl
row_list order e n (more_of-Member name offset kind rest) (v ∷ vs) =
    ap (both (both (Some (replicate (cond (is_const kind) 0 (begin_of e offset - e)) 0)) (wire_bytes order kind v)))
    (row_list order (end_past e offset kind) _ rest vs)

pub comp_bytes : (order : Order) (ms : List Member) (vs : List Value) → wire_bytes order (Comp ms) (value.Comp vs) ≡ members_bytes order 0 ms vs
comp_bytes order ms vs =
    let row = row_in (Comp ms) in
    ap (row_bytes order 0 row.1) (values_are vs) ∙ row_list order 0 row.0 row.1 vs ∙ ap (λ l. members_bytes order 0 l vs) (items_hidden-the_row-Member-0 ms)

pub bytes_some : (order : Order) (ms : List Member) (v : Value) (vs : List Value) → member_values v ≡ Some vs → wire_bytes order (Comp ms) v ≡ wire_bytes order (Comp ms) (value.Comp vs)
bytes_some order ms v vs h =
    let row = row_in (Comp ms) in
    ap (row_bytes order 0 row.1) (h ∙ sym (values_are vs))

pub never_none : (ms : List Member) (v : Value) → value_misfit (Comp ms) v ≡ None → member_values v ≡ None → ⊥
never_none ms v fits h = some_none (sym (comp_none ms v h) ∙ fits)

-- ---- what fits

same_by : (b : Bool) (m n : ℕ) → (m == n) ≡ b → ((m ≡ n → ⊥) → ⊥) → m ≡ n
same_by true m n e h = eqb-true m n e
same_by false m n e h = absurd (h (λ same. let found = eq-eqb m n same in absurd cc))

-- as many values as members
pub as_many : (ms : List Member) (vs : List Value) → value_misfit (Comp ms) (value.Comp vs) ≡ None → length ms ≡ length vs
as_many ms vs fits = same_by (length ms == length vs) (length ms) (length vs) refl (λ differ. some_none (sym (comp_other ms vs differ) ∙ fits))

pub all_fit : (ms : List Member) (vs : List Value) → value_misfit (Comp ms) (value.Comp vs) ≡ None → members_misfit 0 ms vs ≡ None
all_fit ms vs fits = sym (comp_same ms vs (as_many ms vs fits)) ∙ fits

both_none : (i : ℕ) (m n : Option Misfit) → or_else (misfit_in (way.Part i) m) n ≡ None → (m ≡ None) × (n ≡ None)
both_none i None n h = (refl, h)
both_none i (Some m) n h = absurd (some_none h)

pub const_fits : (order : Order) (kind : Kind) (v : Value) → is_const kind ≡ true → value_misfit kind v ≡ None → wire_bytes order kind v ≡ Some []
const_fits order (Leaf l) v is h = cc
const_fits order (Enum l names) v is h = cc
const_fits order (Set p names) v is h = cc
const_fits order (Const c) value.Const is h = refl
const_fits order (Const c) (value.Num n) is h = absurd (some_none h)
const_fits order (Const c) value.Null is h = absurd (some_none h)
const_fits order (Const c) (value.Text text) is h = absurd (some_none h)
const_fits order (Const c) (value.Nums elements) is h = absurd (some_none h)
const_fits order (Const c) (value.Enum n) is h = absurd (some_none h)
const_fits order (Const c) (value.Set n) is h = absurd (some_none h)
const_fits order (Const c) (value.Comp' n row) is h = absurd (some_none h)
const_fits order (Const c) value.Absent is h = absurd (some_none h)
const_fits order (Comp' n members) v is h = cc

-- ---- where members stand

-- a member after members that end at e
pub record Stands (e : ℕ) (m : Member) : Type 0 where
  pub order : IsKindInOrder m.kind
  pub begins : BeginsBehind e m.offset m.kind
  pub narrow : EndsWithin e m.offset m.kind

-- the same of members
abbrev pub Stand : ℕ → List Member → Type 0
Stand e [] = ⊤
Stand e (m ∷ ms) = Stands e m × Stand (end_past e m.offset m.kind) ms

stand : (e : ℕ) (ms : List Member) → AllByRecursion (λ (m : Member). IsKindInOrder m.kind) ms → PlacedList e ms → NarrowList e ms → Stand e ms
stand e [] kinds placed narrow = tt
stand e (m ∷ ms) kinds placed narrow =
    (record { order = kinds.0; begins = placed.0; narrow = narrow.1 }, stand (end_past e m.offset m.kind) ms kinds.1 placed.2 narrow.2)

pub members_stand : (ms : List Member) → IsKindInOrder (Comp ms) → Stand 0 ms
members_stand ms h = stand 0 ms (members_kinds ms h) (placed_members ms h.within.placed) (narrow_members ms h.within.narrow)

rise_by : (b : Bool) (e n w : ℕ) → (b ≡ false → e ≤ n) → e ≤ cond b e (n + w)
rise_by true e n w h = omega arith
rise_by false e n w h = let low = h refl in omega (arith, low)

pub end_rises : (e : ℕ) (m : Member) → BeginsBehind e m.offset m.kind → e ≤ end_past e m.offset m.kind
end_rises e m h = rise_by (is_const m.kind) e (begin_of e m.offset) (width m.kind) h

rise : (e : ℕ) (ms : List Member) → Stand e ms → e ≤ members_end e ms
rise e [] h = omega arith
rise e (m ∷ ms) h =
    let here = end_rises e m h.0.begins in
    let rest = rise (end_past e m.offset m.kind) ms h.1 in
    omega (arith, here, rest)

-- what is known of the next member
pub record Next (order : Order) (i e all : ℕ) (ms : List Member) (vs : List Value) (m : Member) (v : Value) : Type 0 where
  pub stands : Stands e m
  pub within : end_past e m.offset m.kind ≤ all
  pub fits : value_misfit m.kind v ≡ None
  pub stand : Stand (end_past e m.offset m.kind) (drop (i + 1) ms)
  pub ends : members_end (end_past e m.offset m.kind) (drop (i + 1) ms) ≡ all
  pub rest : members_misfit (i + 1) (drop (i + 1) ms) (drop (i + 1) vs) ≡ None
  pub bytes : members_bytes order e (drop i ms) (drop i vs) ≡ both (member_bytes order e m v) (members_bytes order (end_past e m.offset m.kind) (drop (i + 1) ms) (drop (i + 1) vs))

pub next : (order : Order) (i e all : ℕ) (ms : List Member) (vs : List Value) (m : Member) (v : Value) → slice_get ms i ≡ Some m → slice_get vs i ≡ Some v →
    Stand e (drop i ms) → members_end e (drop i ms) ≡ all → members_misfit i (drop i ms) (drop i vs) ≡ None → Next order i e all ms vs m v
next order i e all ms vs m v at there stand ends fits =
    let on : suc i ≡ i + 1 = omega arith in
    let here : drop i ms ≡ m ∷ drop (i + 1) ms = drop_at ms i m at ∙ ap (λ j. m ∷ drop j ms) on in
    let value_here : drop i vs ≡ v ∷ drop (i + 1) vs = drop_at vs i v there ∙ ap (λ j. v ∷ drop j vs) on in
    let stands : Stand e (m ∷ drop (i + 1) ms) = subst (Stand e) here stand in
    let end : members_end (end_past e m.offset m.kind) (drop (i + 1) ms) ≡ all = sym (ap (members_end e) here) ∙ ends in
    let later = rise (end_past e m.offset m.kind) (drop (i + 1) ms) stands.1 in
    let two = both_none i (value_misfit m.kind v) (members_misfit (suc i) (drop (suc i) ms) (drop (suc i) vs)) (sym (member_next i ms vs m v at there) ∙ fits) in
    record {
      stands = stands.0;
      within = omega (arith, end, later);
      fits = two.0;
      stand = stands.1;
      ends = end;
      rest = ap (λ j. members_misfit j (drop j ms) (drop j vs)) (sym on) ∙ two.1;
      bytes = ap₂ (members_bytes order e) here value_here;
    }

-- ---- bytes after bytes

none_is : (bytes : List ℕ) → ◌≡◌ {A = Option (List ℕ)} None (Some bytes) → ⊥
none_is bytes h = cc

some_is : (a b : List ℕ) → Some a ≡ Some b → a ≡ b
some_is a b h = cc

-- what is left after a piece, and what is left after all
pub behind_next : (xs ys : List ℕ) (a b : Option (List ℕ)) → followed_by xs a ≡ Some ys → followed_by ys b ≡ followed_by xs (both a b)
behind_next xs ys None b h = absurd (none_is ys h)
behind_next xs ys (Some a) None h = refl
behind_next xs ys (Some a) (Some b) h = sym (ap Some (sym (append_assoc xs a b)) ∙ ap (λ w. Some (w ++ b)) (some_is (xs ++ a) ys h))

pub behind_nothing : (x : Option (List ℕ)) → followed_by [] x ≡ x
behind_nothing None = refl
behind_nothing (Some x) = refl

-- nothing is left after the last member
pub ended : (order : Order) (i e : ℕ) (ms : List Member) (vs : List Value) (out : List ℕ) → length ms ≤ i → length ms ≡ length vs → members_end e (drop i ms) ≡ length out →
    followed_by (take e out) (members_bytes order e (drop i ms) (drop i vs)) ≡ Some out
ended order i e ms vs out last many ends =
    let none : drop i ms ≡ [] = drop_all i ms last in
    let no_value : drop i vs ≡ [] = drop_all i vs (omega (arith, last, many)) in
    let whole : e ≡ length out = ap (members_end e) (sym none) ∙ ends in
    ap₂ (λ l k. followed_by (take e out) (members_bytes order e l k)) none no_value
    ∙ ap Some (append-nil (take e out) ∙ take_all e out (omega (arith, whole)))

-- ---- one member

-- 00 from the end of the members before, and then the piece
pub two_put : (e b k w : ℕ) (out piece : List ℕ) → e ≤ b → b ≤ length out → length piece ≡ w → k ≡ b - e →
    take (b + w) (put_mid b w (put_mid e k out (replicate k 0)) piece) ≡ take e out ++ (replicate k 0 ++ piece)
two_put e b k w out piece low within wide gap =
    let zeros = replicate k 0 in
    let many : length zeros ≡ k = length-replicate k 0 in
    let first : take b (put_mid e k out zeros) ≡ take e out ++ zeros = take-put_mid e k out zeros b (omega (arith, many, gap, low)) (omega (arith, low, within)) in
    let long : length (take b (put_mid e k out zeros)) ≡ b =
    ap length first ∙ length-append (take e out) zeros ∙ ap (λ n. n + length zeros) (length-take-le e out (omega (arith, low, within))) ∙ omega (arith, many, gap, low) in
    let room : b ≤ length (put_mid e k out zeros) = omega (arith, length-take b (put_mid e k out zeros), long) in
    take-put_mid b w (put_mid e k out zeros) piece (b + w) (omega (arith, wide)) room
    ∙ ap (λ z. z ++ piece) first ∙ append_assoc (take e out) zeros piece

-- a member that takes bytes, written where it stands
pub member_put : (order : Order) (e b w : ℕ) (m : Member) (v : Value) (out filled piece : List ℕ) → is_const m.kind ≡ false → b ≡ begin_of e m.offset → e ≤ b → b + w ≤ length out →
    filled ≡ replicate (b - e) 0 → wire_bytes order m.kind v ≡ Some piece → length piece ≡ w →
    followed_by (take e out) (member_bytes order e m v) ≡ Some (take (b + w) (put_mid b (b + w - b) (put_mid e (b - e) out filled) piece))
member_put order e b w m v out filled piece moves begins low within zeros bytes wide =
    let gap : cond (is_const m.kind) 0 (begin_of e m.offset - e) ≡ b - e = ap (λ t. cond t 0 (begin_of e m.offset - e)) moves ∙ ap (λ n. n - e) (sym begins) in
    let long : w ≡ b + w - b = omega arith in
    ap₂ (λ n o. followed_by (take e out) (both (Some (replicate n 0)) o)) gap bytes
    ∙ ap Some (sym (two_put e b (b - e) w out piece low (omega (arith, within)) wide refl))
    ∙ ap₂ (λ f k. Some (take (b + w) (put_mid b k (put_mid e (b - e) out f) piece))) (sym zeros) long

-- ---- fields

field_by : (b : Bool) (p : ℕ) (m : Option Misfit) → misfit_in (way.Part p) (cond b other_kind m) ≡ None → (b ≡ false) × (m ≡ None)
field_by true p m h = absurd (some_none h)
field_by false p None h = (refl, refl)
field_by false p (Some m) h = absurd (some_none h)

-- what a field may be set to fits its kind, and the field is no constant
pub field_fits : (p : ℕ) (kind : Kind) (v : Value) → misfit_in (way.Part p) (field_misfit kind v) ≡ None → (is_const kind ≡ false) × (value_misfit kind v ≡ None)
field_fits p kind v h = field_by (is_const kind) p (value_misfit kind v) h
