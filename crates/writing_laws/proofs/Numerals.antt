-- The bytes of a number that is shown.
use Rattle.std.proofs.Common.{◌≡◌, Bool, true, false, cond, List, Option, Some, None, ℤ, refl, sym, ap, ◌∙◌}
use Rattle.std.specs.Prelude.{not, ◌&&◌, ◌||◌}
use Rattle.std.specs.Ordering.{int_eq}
use Rattle.std.proofs.lemmas.Bool.Decides.{Decides-int_eq}
use Rattle.sbe_types.specs.declared.kind.Order.{Order}
use Rattle.sbe_types.specs.declared.kind.Leaf.{Leaf as LeafOf}
use Rattle.sbe_types.specs.declared.kind.Named.{Named}
use Rattle.sbe_types.specs.declared.message.Elem.{Elem}
use Rattle.sbe_types.specs.declared.message.Elem.TheVariants as elem
use Rattle.sbe_types.specs.declared.message.Value.{Value}
use Rattle.sbe_types.specs.declared.message.Value.TheVariants as value
use Rattle.sbe_types.specs.Numbers.{bytes_of}
use Rattle.sbe_types.specs.Shown.{admits, is_null, is_optional, is_octets, is_listed, shown_number, shown_element, shown_enum}
use Rattle.sbe_types.specs.Wire.{number_bytes, element_bytes, enum_bytes}

pub untrue : ◌≡◌ {A = Bool} false true → ⊥
untrue k = cc

pub none_some : {A : Type 0} {x : A} → ◌≡◌ {A = Option A} None (Some x) → ⊥
none_some k = cc

pub some_is : {A : Type 0} {x y : A} → ◌≡◌ {A = Option A} (Some x) (Some y) → x ≡ y
some_is h = cc

pub both_true : (t u : Bool) → (t && u) ≡ true → (t ≡ true) × (u ≡ true)
both_true true u h = (refl, h)
both_true false u h = absurd (untrue h)

-- a number that is null is the null of an optional leaf that is no octets
pub null_is : (leaf : LeafOf) (n : ℤ) → is_null leaf n ≡ true → (is_optional leaf.presence ≡ true) × (is_octets leaf.shape ≡ false) × (n ≡ leaf.null)
null_is leaf n h =
    let outer = both_true (is_optional leaf.presence && not (is_octets leaf.shape)) (int_eq n leaf.null) h in
    let inner = both_true (is_optional leaf.presence) (not (is_octets leaf.shape)) outer.0 in
    (inner.0, not_true (is_octets leaf.shape) inner.1, (Decides-int_eq n leaf.null).0 outer.1)
  where
    not_true : (t : Bool) → not t ≡ true → t ≡ false
    not_true true k = absurd (untrue k)
    not_true false k = refl

pub is_null_of : (leaf : LeafOf) → is_optional leaf.presence ≡ true → is_octets leaf.shape ≡ false → is_null leaf leaf.null ≡ true
is_null_of leaf o s =
    ap (λ t. (t && not (is_octets leaf.shape)) && int_eq leaf.null leaf.null) o
    ∙ ap (λ t. (true && not t) && int_eq leaf.null leaf.null) s
    ∙ (Decides-int_eq leaf.null leaf.null).1 refl

-- what a number shows, by its two tests
abbrev Found : {X : Type 0} → Bool → Bool → X → X → X → Type 0
Found {X} t u null num x = ◌≡◌ {A = Option X} (cond t (Some null) (cond u (Some num) None)) (Some x)

module _ (order : Order) (leaf : LeafOf) where
  number_by : (t u : Bool) (n : ℤ) (v : Value) → is_null leaf n ≡ t → Found t u value.Null (value.Num n) v → number_bytes order leaf v ≡ bytes_of order leaf.prim n
  number_by true u n v e h = ap (number_bytes order leaf) (sym (some_is h)) ∙ ap (bytes_of order leaf.prim) (sym (null_is leaf n e).2)
  number_by false true n v e h = ap (number_bytes order leaf) (sym (some_is h))
  number_by false false n v e h = absurd (none_some h)

  pub number_wire : (n : ℤ) (v : Value) → shown_number leaf n ≡ Some v → number_bytes order leaf v ≡ bytes_of order leaf.prim n
  number_wire n v h = number_by (is_null leaf n) (admits leaf n) n v refl h

  element_by : (t u : Bool) (n : ℤ) (e : Elem) → is_null leaf n ≡ t → Found t u elem.Null (elem.Num n) e → element_bytes order leaf e ≡ bytes_of order leaf.prim n
  element_by true u n v e h = ap (element_bytes order leaf) (sym (some_is h)) ∙ ap (bytes_of order leaf.prim) (sym (null_is leaf n e).2)
  element_by false true n v e h = ap (element_bytes order leaf) (sym (some_is h))
  element_by false false n v e h = absurd (none_some h)

  pub element_wire : (n : ℤ) (e : Elem) → shown_element leaf n ≡ Some e → element_bytes order leaf e ≡ bytes_of order leaf.prim n
  element_wire n e h = element_by (is_null leaf n) (admits leaf n) n e refl h

  enum_by : (t u : Bool) (n : ℤ) (v : Value) → is_null leaf n ≡ t → Found t u value.Null (value.Enum n) v → enum_bytes order leaf v ≡ bytes_of order leaf.prim n
  enum_by true u n v e h = ap (enum_bytes order leaf) (sym (some_is h)) ∙ ap (bytes_of order leaf.prim) (sym (null_is leaf n e).2)
  enum_by false true n v e h = ap (enum_bytes order leaf) (sym (some_is h))
  enum_by false false n v e h = absurd (none_some h)

  pub enum_wire : (names : List Named) (n : ℤ) (v : Value) → shown_enum leaf names true n ≡ Some v → enum_bytes order leaf v ≡ bytes_of order leaf.prim n
  enum_wire names n v h = enum_by (is_null leaf n) (is_listed names n || not true) n v refl h
