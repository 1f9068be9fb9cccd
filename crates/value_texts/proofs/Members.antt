-- The members of a composite's value.
use Rattle.std.proofs.Common.{◌≡◌, ◌≤◌, ◌<◌, ℕ, zero, suc, Bool, true, false, List, [], ◌∷◌, length, Option, Some, None, ℤ, refl, sym, ap, ◌∙◌, subst, arith}
use Rattle.std.specs.Prelude.{map, slice_get, IfSome, IfNone}
use Rattle.std.specs.Option.{IsSome, option_map}
use Rattle.sbe_types.specs.declared.kind.Kind.{Kind, Leaf, Enum, Set, Const, Comp', items-the_row-Member}
use Rattle.sbe_types.specs.declared.kind.Order.{Order}
use Rattle.sbe_types.specs.declared.kind.Member.{Member}
use Rattle.sbe_types.specs.declared.schema.Field.{Field}
use Rattle.sbe_types.specs.declared.message.Block.{out-Block}
use Rattle.sbe_types.specs.declared.message.Value.{Value, items-the_row-Value, items_hidden-the_row-Value-0}
use Rattle.sbe_types.specs.declared.message.Value as value
use Rattle.sbe_types.specs.Shows.{Shows}
use Rattle.sbe_types.proofs.PlaceLemmas.{each_from}
use Rattle.flyweight_view.specs.declared.values.FieldBytes.{FieldBytes}
use Rattle.flyweight_view.specs.ShownIn.{IsShownIn}
use Rattle.flyweight_view.specs.TypedBlocks.{TypedBlock, member_field, typed_members, members_of, values_in, typed_composite, typed_field}
use Rattle.bridge_rules.specs.Members.{first_number, mantissa_in, members_in, month_in, month_of, second_number}
use Rattle.bridge_rules.proofs.OptionLemmas.{some_is, none_some}
use Rattle.bridge_terms.specs.Blocks.{nth_or}
use Rattle.message_walk.proofs.Nth.{nth_is}
use Rattle.bridge_rules.proofs.BoolLemmas.{true_false}
use Rattle.value_texts.specs.FieldViews.{is_composite, is_composite_field, members_seen, nth_number, HasMembers}
use Rattle.value_texts.proofs.Values.{enum_same, leaf_same, set_is}

-- ---- numbers of members

pub first_is : (vs : List Value) → first_number vs ≡ nth_number 0 vs
first_is [] = refl
first_is (v ∷ vs) = refl

pub second_is : (vs : List Value) → second_number vs ≡ nth_number 1 vs
second_is [] = refl
second_is (v ∷ []) = refl
second_is (v ∷ w ∷ vs) = refl

pub mantissa_is : (v : Value) → mantissa_in v ≡ nth_number 0 (members_in v)
mantissa_is (value.Comp' k row) = first_is (items-the_row-Value _ row)
mantissa_is (value.Text t) = refl
mantissa_is (value.Num n) = refl
mantissa_is (value.Enum n) = refl
mantissa_is (value.Nums es) = refl
mantissa_is (value.Set n) = refl
mantissa_is value.Null = refl
mantissa_is value.Const = refl
mantissa_is value.Absent = refl

pub month_is : (vs : List Value) → 4 ≤ length vs → month_in vs ≡ month_of (nth_number 0 vs) (nth_number 1 vs) (nth_number 2 vs) (nth_number 3 vs)
month_is [] h = absurd (omega (arith, h))
month_is (y ∷ []) h = absurd (omega (arith, h))
month_is (y ∷ m ∷ []) h = absurd (omega (arith, h))
month_is (y ∷ m ∷ d ∷ []) h = absurd (omega (arith, h))
month_is (y ∷ m ∷ d ∷ w ∷ more) h = refl

pub no_month : (vs : List Value) → length vs < 4 → month_in vs ≡ None
no_month [] h = refl
no_month (y ∷ []) h = refl
no_month (y ∷ m ∷ []) h = refl
no_month (y ∷ m ∷ d ∷ []) h = refl
no_month (y ∷ m ∷ d ∷ w ∷ more) h = absurd (omega (arith, h))

pub month_without : (year month day week : Option ℤ) → year ≡ None → month_of year month day week ≡ None
month_without None month day week h = refl
month_without (Some y) month day week h = none_some (sym h)

pub month_without_month : (year month day week : Option ℤ) → month ≡ None → month_of year month day week ≡ None
month_without_month None month day week h = refl
month_without_month (Some y) None day week h = refl
month_without_month (Some y) (Some m) day week h = none_some (sym h)

-- no number is where no member is
pub far_number : (i : ℕ) (vs : List Value) → length vs ≤ i → nth_number i vs ≡ None
far_number i [] h = refl
far_number zero (v ∷ vs) h = absurd (omega (arith, h))
far_number (suc i) (v ∷ vs) h = far_number i vs (omega (arith, h))

-- ---- the view of a composite

kind_there : (o : Option Field) (k : Kind) → option_map (λ f. f.kind) o ≡ Some k → (f : Field) × (o ≡ Some f) × (f.kind ≡ k)
kind_there None k h = none_some h
kind_there (Some f) k h = (f, refl, some_is h)

value_there : (f : FieldBytes) (w : Option Value) → IsShownIn f w → (v : Value) × (w ≡ Some v) × (known : Bool) × Shows f.order known f.kind.now v f.bytes.now
value_there f None h = absurd h
value_there f (Some v) h = (v, refl, h.0, h.1)

-- a value of a composite, with one value for each member
record IsComposite (k : Kind) (v : Value) : Type 0 where
  members : List Member
  values : List Value
  kind : members_of k ≡ Some members
  value : values_in v ≡ Some values
  same : length values ≡ length members

composite_is : (order : Order) (known : Bool) (k : Kind) (v : Value) (b : List ℕ) → is_composite k ≡ true → Shows order known k v b → IsComposite k v
composite_is order known (Leaf l) v b is h = true_false is refl
composite_is order known (Enum l names) v b is h = true_false is refl
composite_is order known (Set p names) v b is h = true_false is refl
composite_is order known (Const c) v b is h = true_false is refl
composite_is order known (Comp' n row) v b is h = record {
  members = items-the_row-Member _ row;
  values = h.1.0;
  kind = refl;
  value = ap values_in h.1.1 ∙ simp items_hidden-the_row-Value-0;
  same = (each_from order known b 0 row h.1.0 h.1.2).0;
}

-- what is seen of a composite's value
record IsSeenComposite (o : Option Field) (w : Option Value) : Type 0 where
  members : List Member
  values : List Value
  is : typed_field o w ≡ Some (typed_members members values)
  same : length values ≡ length members

composite_there : (f : FieldBytes) (o : Option Field) (w : Option Value) → is_composite f.kind.now ≡ true → option_map (λ f. f.kind) o ≡ Some f.kind.now → IsShownIn f w → IsSeenComposite o w
composite_there f o w comp there shown =
    let field = kind_there o f.kind.now there in
    let v = value_there f w shown in
    let is = composite_is f.order v.2 f.kind.now v.0 f.bytes.now comp v.3 in
    record {
      members = is.members;
      values = is.values;
      is = ap (λ o. typed_field o w) field.1 ∙ ap (typed_field (Some field.0)) v.1 ∙ ap (λ k. typed_composite (members_of k) (values_in v.0)) field.2
          ∙ ap (λ ms. typed_composite ms (values_in v.0)) is.kind ∙ ap (typed_composite (Some is.members)) is.value;
      same = is.same;
    }

seen_by : (found : Option FieldBytes) (o : Option Field) (w : Option Value) → is_composite_field found ≡ true → IfSome found (λ f. option_map (λ p. p.kind) o ≡ Some f.kind.now)
    → IfSome found (λ f. IsShownIn f w) → IsSeenComposite o w
seen_by None o w comp kind shown = true_false comp refl
seen_by (Some f) o w comp kind shown = composite_there f o w comp kind shown

pub seen_there : (found : Option FieldBytes) (o : Option Field) (w : Option Value) → is_composite_field found ≡ true → IfSome found (λ f. option_map (λ p. p.kind) o ≡ Some f.kind.now)
    → IfSome found (λ f. IsShownIn f w) → IsSome (typed_field o w)
seen_there found o w comp kind shown = subst IsSome (sym (seen_by found o w comp kind shown).is) refl

length_fields : (ms : List Member) → length (map member_field ms) ≡ length ms
length_fields [] = refl
length_fields (m ∷ ms) = ap suc (length_fields ms)

pub same_members : (found : Option FieldBytes) (o : Option Field) (w : Option Value) (s : TypedBlock) → is_composite_field found ≡ true
    → IfSome found (λ f. option_map (λ p. p.kind) o ≡ Some f.kind.now) → IfSome found (λ f. IsShownIn f w) → typed_field o w ≡ Some s → HasMembers (Some s)
same_members found o w s comp kind shown seen =
    let own = seen_by found o w comp kind shown in
    subst (λ s. HasMembers (Some s)) (some_is (sym own.is ∙ seen)) (own.same ∙ sym (length_fields own.members))

-- a field that is no composite has no members
no_members_shown : (order : Order) (known : Bool) (k : Kind) (v : Value) (b : List ℕ) → is_composite k ≡ false → Shows order known k v b → members_in v ≡ []
no_members_shown order known (Leaf l) v b is h = leaf_same members_in [] (record { null = refl; number = λ n. refl; text = λ t. refl; array = λ es. refl }) order l.shape l v b h.1
no_members_shown order known (Enum l names) v b is h = enum_same members_in [] order known v b l names refl (λ n. refl) h
no_members_shown order known (Set p names) v b is h = ap members_in (set_is order known v b p names h)
no_members_shown order known (Const c) v b is h = ap members_in h.1
no_members_shown order known (Comp' n row) v b is h = true_false refl is

pub no_members : (found : Option FieldBytes) (n : ℕ) (vs : List Value) → is_composite_field found ≡ false → IfSome found (λ f. IsShownIn f (slice_get vs n))
    → IfNone found (slice_get vs n ≡ Some value.Absent) → members_in (nth_or value.Absent n vs) ≡ []
no_members None n vs comp shown absent = ap members_in (nth_is value.Absent n vs value.Absent absent)
no_members (Some f) n vs comp shown absent =
    let v = value_there f (slice_get vs n) shown in
    ap members_in (nth_is value.Absent n vs v.0 v.1) ∙ no_members_shown f.order v.2 f.kind.now v.0 f.bytes.now comp v.3

-- the values that are seen are those of the members
values_are : (o : Option (List Member)) (v : Value) (s : TypedBlock) → typed_composite o (values_in v) ≡ Some s → members_in v ≡ (out-Block s.block).fields
values_are None v s h = none_some h
values_are (Some ms) (value.Comp' k row) s h = ap (λ (s : TypedBlock). (out-Block s.block).fields) (some_is h)
values_are (Some ms) (value.Text t) s h = none_some h
values_are (Some ms) (value.Num n) s h = none_some h
values_are (Some ms) (value.Enum n) s h = none_some h
values_are (Some ms) (value.Nums es) s h = none_some h
values_are (Some ms) (value.Set n) s h = none_some h
values_are (Some ms) value.Null s h = none_some h
values_are (Some ms) value.Const s h = none_some h
values_are (Some ms) value.Absent s h = none_some h

field_values_are : (o : Option Field) (w : Option Value) (s : TypedBlock) → typed_field o w ≡ Some s → (v : Value) × (w ≡ Some v) × (members_in v ≡ (out-Block s.block).fields)
field_values_are None w s h = none_some h
field_values_are (Some f) None s h = none_some h
field_values_are (Some f) (Some v) s h = (v, refl, values_are (members_of f.kind) v s h)

pub members_are : (o : Option Field) (n : ℕ) (vs : List Value) (s : TypedBlock) → typed_field o (slice_get vs n) ≡ Some s → members_in (nth_or value.Absent n vs) ≡ members_seen (Some s)
members_are o n vs s h =
    let there = field_values_are o (slice_get vs n) s h in
    ap members_in (nth_is value.Absent n vs there.0 there.1) ∙ there.2
