-- A field has a number exactly where it has a value, and its kind is one number.
use Rattle.std.proofs.Common.{◌≡◌, ℕ, Bool, true, false, true≢false, cond, List, Option, Some, None, refl, sym, ap, ◌∙◌}
use Rattle.std.specs.Prelude.{is_some}
use Rattle.std.specs.Option.{option_map, option_and_then}
use Rattle.sbe_types.specs.declared.kind.Kind.{Kind, Leaf, Enum, Set, Const, Comp'}
use Rattle.sbe_types.specs.declared.kind.Leaf.{Leaf as LeafOf}
use Rattle.sbe_types.specs.declared.kind.LeafShape.{LeafShape}
use Rattle.sbe_types.specs.declared.kind.LeafShape.TheVariants.{Number, RangedText, EncodedText, Octets, Numbers}
use Rattle.sbe_types.specs.declared.kind.Order.{Order}
use Rattle.sbe_types.specs.declared.message.Value.{Value}
use Rattle.sbe_types.specs.declared.message.Value.TheVariants as value
use Rattle.sbe_types.specs.Numbers.{number_of, natural}
use Rattle.sbe_types.specs.Shown.{admits, is_null, is_listed, is_optional, has_listed_bits}
use Rattle.sbe_types.specs.Shows.{Shows, ShowsLeaf, is_empty}
use Rattle.std.specs.Prelude.{◌&&◌, ◌||◌, not}
use Rattle.field_values.specs.declared.state.FieldState.{FieldState}
use Rattle.field_values.specs.declared.state.FieldState.TheVariants as state
use Rattle.field_values.specs.Reports.{state_of, number_in, before_zero}
use Rattle.field_values.proofs.Shown.{text_front}
use Rattle.flyweight_view.specs.declared.values.FieldBytes.{FieldBytes}
use Rattle.flyweight_view.specs.ShownIn.{IsShownIn}
use Rattle.field_lookup.specs.Values.{is_number_shape, is_number_kind}

some_is : {A : Type 0} {x y : A} → ◌≡◌ {A = Option A} (Some x) (Some y) → x ≡ y
some_is h = cc

-- the value is a number
abbrev has : Value → Bool
has v = is_some (number_in v)

-- ---- a value that is there

-- one that may be null
number_here : (s t : Bool) (x v : Value) → has x ≡ true → cond s (Some value.Null) (cond t (Some x) None) ≡ Some v → state_of v ≡ state.Here → has v ≡ true
number_here true t x v is h here = let none : state.Null ≡ state.Here = ap state_of (some_is h) ∙ here in cc
number_here false true x v is h here = ap has (sym (some_is h)) ∙ is
number_here false false x v is h here = cc

no_text : (s : Bool) (text : List ℕ) (v : Value) → v ≡ cond s value.Null (value.Text text) → has v ≡ false
no_text true text v h = ap has h
no_text false text v h = ap has h

leaf_here : (order : Order) (leaf : LeafOf) (v : Value) (b : List ℕ) (shape : LeafShape) → ShowsLeaf order shape leaf v b → state_of v ≡ state.Here → has v ≡ is_number_shape shape
leaf_here order leaf v b Number h here = let n = number_of order leaf.prim b in number_here (is_null leaf n) (admits leaf n) (value.Num n) v refl h here
leaf_here order leaf v b RangedText h here = no_text (is_optional leaf.presence && is_empty (before_zero b)) (before_zero b) v (text_front leaf v b h)
leaf_here order leaf v b EncodedText h here = no_text (is_optional leaf.presence && is_empty (before_zero b)) (before_zero b) v (text_front leaf v b h)
leaf_here order leaf v b Octets h here = ap has h.1
leaf_here order leaf v b Numbers h here = ap has h.1

set_here : (t : Bool) (bits : ℕ) (v : Value) → cond t (Some (value.Set bits)) None ≡ Some v → has v ≡ true
set_here true bits v h = ap has (sym (some_is h))
set_here false bits v h = cc

kind_here : (order : Order) (known : Bool) (kind : Kind) (v : Value) (b : List ℕ) → Shows order known kind v b → state_of v ≡ state.Here → has v ≡ is_number_kind kind
kind_here order known (Leaf l) v b h here = leaf_here order l v b l.shape h.1 here
kind_here order known (Enum l names) v b h here = let n = number_of order l.prim b in number_here (is_null l n) (is_listed names n || not known) (value.Enum n) v refl h.1 here
kind_here order known (Set p names) v b h here = let bits = natural (number_of order p b) in set_here (has_listed_bits names 64 bits || not known) bits v h.1
kind_here order known (Const c) v b h here = ap has h.1
kind_here order known (Comp' n members) v b h here = ap has h.1.1

-- a field with a value has a number exactly where its kind is one
pub number_there : (field : FieldBytes) (o : Option Value) → IsShownIn field o → option_map state_of o ≡ Some state.Here → is_some (option_and_then number_in o) ≡ is_number_kind field.kind.now
number_there field None h here = absurd h
number_there field (Some v) h here = kind_here field.order h.0 field.kind.now v field.bytes.now h.1 (some_is here)

-- ---- no value

abbrev is_here : FieldState → Bool
is_here state.Here = true
is_here state.Absent = false
is_here state.Const = false
is_here state.Null = false

number_has : (v : Value) → has v ≡ true → is_here (state_of v) ≡ true
number_has (value.Num n) h = refl
number_has (value.Enum n) h = refl
number_has (value.Set bits) h = refl
number_has value.Absent h = cc
number_has value.Const h = cc
number_has value.Null h = cc
number_has (value.Text text) h = cc
number_has (value.Nums elements) h = cc
number_has (value.Comp' n values) h = cc

-- a field without a value has no number
pub no_number : (o : Option Value) (s : FieldState) → option_map state_of o ≡ Some s → is_here s ≡ false → is_some (option_and_then number_in o) ≡ false
no_number None s told h = cc
no_number (Some v) s told h = by (has v) refl
  where
    by : (t : Bool) → has v ≡ t → has v ≡ false
    by true e = absurd (true≢false (sym (number_has v e) ∙ ap is_here (some_is told) ∙ h))
    by false e = e
