-- A composite that has a value shows its members; no other field does.
use Rattle.std.proofs.Common.{◌≡◌, ℕ, Bool, true, false, List, Option, Some, None, refl, sym, ap, ◌∙◌, subst}
use Rattle.std.specs.Option.{option_map, IsSome}
use Rattle.sbe_types.specs.declared.kind.Kind.{Kind, Leaf, Enum, Set, Const, Comp'}
use Rattle.sbe_types.specs.declared.kind.Member.{Member}
use Rattle.sbe_types.specs.declared.kind.Order.{Order}
use Rattle.sbe_types.specs.declared.message.Value.{Value}
use Rattle.sbe_types.specs.declared.message.Value.TheVariants as value
use Rattle.sbe_types.specs.declared.schema.Field.{Field}
use Rattle.sbe_types.specs.Shows.{Shows}
use Rattle.flyweight_view.specs.declared.values.FieldBytes.{FieldBytes}
use Rattle.flyweight_view.specs.TypedBlocks.{typed_composite, typed_field, members_of, values_in}
use Rattle.flyweight_view.specs.ShownIn.{IsShownIn}
use Rattle.field_lookup.specs.Values.{is_composite}

some_is : {A : Type 0} {x y : A} → ◌≡◌ {A = Option A} (Some x) (Some y) → x ≡ y
some_is h = cc

-- ---- a composite

kind_there : (order : Order) (known : Bool) (kind : Kind) (v : Value) (b : List ℕ) → Shows order known kind v b → is_composite kind ≡ true → IsSome (typed_composite (members_of kind) (values_in v))
kind_there order known (Comp' n members) v b h is = subst (λ (x : Value). IsSome (typed_composite (members_of (Comp' n members)) (values_in x))) (sym h.1.1) refl
kind_there order known (Leaf l) v b h is = cc
kind_there order known (Enum l names) v b h is = cc
kind_there order known (Set p names) v b h is = cc
kind_there order known (Const c) v b h is = cc

-- the members of a composite that is there
pub members_there : (field : FieldBytes) (f : Option Field) (o : Option Value) → option_map (λ p. p.kind) f ≡ Some field.kind.now → IsShownIn field o → is_composite field.kind.now ≡ true → IsSome (typed_field f o)
members_there field None o kind h is = cc
members_there field (Some f) None kind h is = absurd h
members_there field (Some f) (Some v) kind h is =
    subst (λ (k : Kind). IsSome (typed_composite (members_of k) (values_in v))) (sym (some_is kind)) (kind_there field.order h.0 field.kind.now v field.bytes.now h.1 is)

-- ---- no composite, or none that is there

no_kind : (kind : Kind) (vs : Option (List Value)) → is_composite kind ≡ false → typed_composite (members_of kind) vs ≡ None
no_kind (Comp' n members) vs is = cc
no_kind (Leaf l) vs is = refl
no_kind (Enum l names) vs is = refl
no_kind (Set p names) vs is = refl
no_kind (Const c) vs is = refl

-- a field of another kind has no members
pub no_members : (kind : Kind) (f : Option Field) (o : Option Value) → option_map (λ p. p.kind) f ≡ Some kind → is_composite kind ≡ false → None ≡ typed_field f o
no_members kind None o k is = cc
no_members kind (Some f) None k is = refl
no_members kind (Some f) (Some v) k is = sym (no_kind f.kind (values_in v) (ap is_composite (some_is k) ∙ is))

no_values : (members : Option (List Member)) → typed_composite members None ≡ None
no_values None = refl
no_values (Some members) = refl

no_value : (f : Option Field) → typed_field f (Some value.Absent) ≡ None
no_value None = refl
no_value (Some f) = no_values (members_of f.kind)

-- a field that is absent has none
pub absent_members : (f : Option Field) (o : Option Value) → o ≡ Some value.Absent → None ≡ typed_field f o
absent_members f o h = sym (ap (typed_field f) h ∙ no_value f)
