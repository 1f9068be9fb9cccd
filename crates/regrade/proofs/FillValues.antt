-- The empty values of kinds.
use Rattle.std.proofs.Common.{◌≡◌, ◌+◌, List, [], ◌∷◌, ◌++◌, Option, Some, None, Result, Ok, Err, refl, sym, ap, ◌∙◌, append_assoc, append-nil}
use Rattle.std.specs.Prelude.{IfOk}
use Rattle.lists.specs.declared.list.NoMem.{NoMem}
use Rattle.sbe_types.specs.declared.kind.Leaf.{Leaf as LeafOf}
use Rattle.sbe_types.specs.declared.kind.Named.{Named}
use Rattle.sbe_types.specs.declared.kind.Primitive.{Primitive}
use Rattle.sbe_types.specs.declared.kind.ConstValue.{ConstValue}
use Rattle.sbe_types.specs.declared.kind.Kind.{Kind, Leaf, Enum, Set, Const, Comp, items_hidden-the_row-Member-0}
use Rattle.sbe_types.specs.declared.kind.Member.{Member}
use Rattle.sbe_types.specs.declared.message.Value.{Value}
use Rattle.sbe_types.specs.declared.message.Value.TheVariants as value
use Rattle.regrade_laws.specs.Fill.{fill, if_optional, null_of, with_value, composite_of}
use Rattle.sbe_types.proofs.KindRows.{row_in}
use Rattle.regrade.specs.Each.{fill_each}
use Rattle.regrade.proofs.Rows.{members_each}

-- what is there so far, in front of the others
abbrev pub with_front : List Value → Option (List Value) → Option (List Value)
with_front xs None = None
with_front xs (Some ys) = Some (xs ++ ys)

one_more : (xs : List Value) (x : Value) (rest : Option (List Value)) → with_front (xs ++ x ∷ []) rest ≡ with_front xs (with_value (Some x) rest)
one_more xs x None = refl
one_more xs x (Some ys) = ap Some (append_assoc xs (x ∷ []) ys)

pub fill_goes : (xs : List Value) (m : Member) (ms : List Member) (left : List Member) (x : Value) (whole : Option (List Value)) → left ≡ m ∷ ms → fill m.kind ≡ Some x →
    with_front xs (fill_each left) ≡ whole → with_front (xs ++ x ∷ []) (fill_each ms) ≡ whole
fill_goes xs m ms left x whole at is so_far =
    one_more xs x (fill_each ms) ∙ ap (λ v. with_front xs (with_value v (fill_each ms))) (sym is) ∙ ap (λ l. with_front xs (fill_each l)) (sym at) ∙ so_far

pub fill_stops : (xs : List Value) (m : Member) (ms : List Member) (left : List Member) (whole : Option (List Value)) → left ≡ m ∷ ms → fill m.kind ≡ None →
    with_front xs (fill_each left) ≡ whole → None ≡ whole
fill_stops xs m ms left whole at is so_far =
    ap (λ v. with_front xs (with_value v (fill_each ms))) (sym is) ∙ ap (λ l. with_front xs (fill_each l)) (sym at) ∙ so_far

pub fill_ends : (xs : List Value) (left : List Member) (whole : Option (List Value)) → left ≡ [] → with_front xs (fill_each left) ≡ whole → Some xs ≡ whole
fill_ends xs left whole none so_far = ap Some (sym (append-nil xs)) ∙ ap (λ l. with_front xs (fill_each l)) (sym none) ∙ so_far

-- ---- kinds

leaf_fills : (l : LeafOf) → fill (Leaf l) ≡ if_optional l.presence (null_of l l.shape)
unfolding fill
leaf_fills l = refl

enum_fills : (l : LeafOf) (names : List Named) → fill (Enum l names) ≡ if_optional l.presence (Some value.Null)
unfolding fill
enum_fills l names = refl

set_fills : (p : Primitive) (names : List Named) → fill (Set p names) ≡ Some (value.Set 0)
unfolding fill
set_fills p names = refl

const_fills : (c : ConstValue) → fill (Const c) ≡ Some value.Const
unfolding fill
const_fills c = refl

comp_fills : (ms : List Member) → fill (Comp ms) ≡ composite_of (fill_each ms)
unfolding fill
comp_fills ms = let row = row_in (Comp ms) in ap composite_of (members_each row.1 ∙ ap fill_each (items_hidden-the_row-Member-0 ms))

module _ (kind : Kind) where
  pub leaf_is : (l : LeafOf) (v : Option Value) → kind ≡ Leaf l → v ≡ if_optional l.presence (null_of l l.shape) → v ≡ fill kind
  leaf_is l v is h = h ∙ sym (ap fill is ∙ leaf_fills l)

  pub enum_is : (l : LeafOf) (names : List Named) (v : Option Value) → kind ≡ Enum l names → v ≡ if_optional l.presence (Some value.Null) → v ≡ fill kind
  enum_is l names v is h = h ∙ sym (ap fill is ∙ enum_fills l names)

  pub set_is : (p : Primitive) (names : List Named) → kind ≡ Set p names → Some (value.Set 0) ≡ fill kind
  set_is p names is = sym (ap fill is ∙ set_fills p names)

  pub const_is : (c : ConstValue) → kind ≡ Const c → Some value.Const ≡ fill kind
  const_is c is = sym (ap fill is ∙ const_fills c)

  pub comp_is : (ms : List Member) (vs : Option (List Value)) → kind ≡ Comp ms → vs ≡ fill_each ms → composite_of vs ≡ fill kind
  comp_is ms vs is h = ap composite_of h ∙ sym (ap fill is ∙ comp_fills ms)

-- a leaf that is filled, unless it ran out of memory
pub leaf_filled : (kind : Kind) (l : LeafOf) (result : Result (Option Value) NoMem) → kind ≡ Leaf l → IfOk result (λ v. v ≡ if_optional l.presence (null_of l l.shape)) → IfOk result (λ v. v ≡ fill kind)
leaf_filled kind l (Ok v) is h = leaf_is kind l v is h
leaf_filled kind l (Err e) is h = h
