-- What the bytes of a kind show, kind by kind.
use Rattle.std.proofs.Common.{◌≡◌, ◌+◌, ℕ, suc, Bool, true, false, cond, List, ◌∷◌, take, drop, Some, None, Result, Ok, Err, ℤ, refl, ap, ◌∙◌, arith}
use Rattle.std.specs.Prelude.{◌||◌, not}
use Rattle.std.specs.Option.{ok_or}
use Rattle.sbe_types.specs.declared.kind.Leaf.{Leaf as LeafOf}
use Rattle.sbe_types.specs.declared.kind.Named.{Named}
use Rattle.sbe_types.specs.declared.kind.Primitive.{Primitive}
use Rattle.sbe_types.specs.declared.kind.ConstValue.{ConstValue}
use Rattle.sbe_types.specs.declared.kind.Kind.{Kind, Leaf, Enum, Set, Const, Comp, Row_of-Member, end_of-Member, more_of-Member, items-the_row-Member, items_hidden-the_row-Member-0}
use Rattle.sbe_types.specs.declared.kind.Member.{Member}
use Rattle.sbe_types.specs.declared.message.Value.{Value}
use Rattle.sbe_types.specs.declared.message.Value.TheVariants as value
use Rattle.sbe_types.specs.declared.path.Step.TheVariants as way
use Rattle.sbe_types.specs.Numbers.{number_of, natural}
use Rattle.sbe_types.specs.Places.{width, begin_of, end_past}
use Rattle.sbe_types.specs.Shown.{is_null, is_listed, has_listed_bits}
use Rattle.sbe_wire.specs.declared.codes.FCode.{FCode}
use Rattle.sbe_wire.specs.declared.codes.FCode.TheVariants as code
use Rattle.sbe_wire.specs.Faults.{Fault, fault_at}
use Rattle.sbe_wire.specs.Reading.{◌>>=◌, later, inside, value_read, row_read}
use Rattle.sbe_wire.specs.declared.mode.Mode.{Mode}
use Rattle.sbe_types.proofs.KindRows.{row_in}
use Rattle.body_walk.specs.inner.Outcomes.{Piece, check_at}
use Rattle.body_walk.specs.inner.Kinds.{answered, kind_check, leaf_check, members_check, part_check}

-- ---- single numbers

settled_here : {X : Type 0} (at : ℕ) (c : FCode) (n : ℤ) (x : X) (t : Bool) → check_at at (ok_or (cond t (Some x) None) (fault_at c 0 n)) ≡ answered c at n t
settled_here at c n x true = refl
settled_here at c n x false = ap (λ k. Err (fault_at c k n)) (omega arith)

settled_either : {X : Type 0} (at : ℕ) (c : FCode) (n : ℤ) (x y : X) (s t : Bool) → check_at at (ok_or (cond s (Some x) (cond t (Some y) None)) (fault_at c 0 n)) ≡ answered c at n (s || t)
settled_either at c n x y true t = refl
settled_either at c n x y false t = settled_here at c n y t

pub leaf_is : (mode : Mode) (l : LeafOf) (b : Piece) → kind_check mode (Leaf l) b ≡ leaf_check mode.order l b
unfolding value_read
leaf_is mode l b = refl

pub enum_is : (mode : Mode) (l : LeafOf) (names : List Named) (b : Piece) →
    kind_check mode (Enum l names) b ≡ answered code.EnumUnknown b.at (number_of mode.order l.prim b.bytes) (is_null l (number_of mode.order l.prim b.bytes) || (is_listed names (number_of mode.order l.prim b.bytes) || not mode.known))
unfolding value_read
enum_is mode l names b =
    let n = number_of mode.order l.prim b.bytes in
    settled_either b.at code.EnumUnknown n value.Null (value.Enum n) (is_null l n) (is_listed names n || not mode.known)

pub set_is : (mode : Mode) (p : Primitive) (names : List Named) (b : Piece) →
    kind_check mode (Set p names) b ≡ answered code.SetUnknown b.at (number_of mode.order p b.bytes) (has_listed_bits names 64 (natural (number_of mode.order p b.bytes)) || not mode.known)
unfolding value_read
set_is mode p names b =
    let n = number_of mode.order p b.bytes in
    settled_here b.at code.SetUnknown n (value.Set (natural n)) (has_listed_bits names 64 (natural n) || not mode.known)

pub const_is : (mode : Mode) (c : ConstValue) (b : Piece) → kind_check mode (Const c) b ≡ Ok tt
unfolding value_read
const_is mode c b = refl

-- ---- composites

pub settled_later : {X : Type 0} (at n : ℕ) (r : Result X Fault) → check_at at (later n r) ≡ check_at (at + n) r
settled_later at n (Ok x) = refl
settled_later at n (Err f) = ap (λ k. Err (record { code = f.code; path = f.path; offset = k; detail = f.detail })) (omega arith)

settled_cons : {X : Type 0} (at : ℕ) (v : X) (s : Result (List X) Fault) → check_at at (s >>= (λ vs. Ok (v ∷ vs))) ≡ check_at at s
settled_cons at v (Ok vs) = refl
settled_cons at v (Err f) = refl

pub settled_two : {X : Type 0} (at : ℕ) (r : Result X Fault) (s : X → Result (List X) Fault) (t : Result Unit Fault) → ((x : X) → check_at at (s x) ≡ t) →
    check_at at (r >>= (λ v. s v >>= (λ vs. Ok (v ∷ vs)))) ≡ (check_at at r >>= (λ _. t))
settled_two at (Ok v) s t h = settled_cons at v (s v) ∙ h v
settled_two at (Err f) s t h = refl

settled_comp : (at : ℕ) (r : Result (List Value) Fault) → check_at at (r >>= (λ vs. Ok (value.Comp vs))) ≡ check_at at r
settled_comp at (Ok vs) = refl
settled_comp at (Err f) = refl

module _ (mode : Mode) (b : Piece) where
  row_told : (n : _) (row : Row_of-Member n) (e i : ℕ) → check_at b.at (row_read mode.order mode.known e i row b.bytes) ≡ members_check mode b e i (items-the_row-Member n row)
  unfolding row_read
  row_told n end_of-Member e i = refl
  row_told n (more_of-Member name offset kind rest) e i =
      let begin = begin_of e offset in
      let next = end_past e offset kind in
      let here : Result Value Fault = inside (way.Part i) (value_read mode.order mode.known kind (take (width kind) (drop begin b.bytes))) in
      let step : suc i ≡ i + 1 = omega arith in
      settled_two b.at (later begin here) (λ v. row_read mode.order mode.known next (suc i) rest b.bytes) (members_check mode b next (i + 1) (items-the_row-Member _ rest))
      (λ v. row_told _ rest next (suc i) ∙ ap (λ k. members_check mode b next k (items-the_row-Member _ rest)) step)
      ∙ ap (λ r. r >>= (λ _. members_check mode b next (i + 1) (items-the_row-Member _ rest))) (settled_later b.at begin here)

pub comp_is : (mode : Mode) (ms : List Member) (b : Piece) → kind_check mode (Comp ms) b ≡ members_check mode b 0 0 ms
unfolding value_read
comp_is mode ms b =
    let row = row_in (Comp ms) in
    settled_comp b.at (row_read mode.order mode.known 0 0 row.1 b.bytes) ∙ row_told mode b row.0 row.1 0 0 ∙ ap (members_check mode b 0 0) (items_hidden-the_row-Member-0 ms)

-- a constant shows itself
pub const_part : (mode : Mode) (k : Kind) (c : ConstValue) (i : ℕ) (b : Piece) → k ≡ Const c → part_check mode k i b ≡ Ok tt
unfolding value_read
const_part mode k c i b h = ap (λ (k : Kind). part_check mode k i b) h
