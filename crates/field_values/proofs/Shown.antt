-- What bytes that show a value tell of it.
use Rattle.std.proofs.Common.{◌≡◌, ◌≤◌, ◌<◌, ◌+◌, ◌-◌, ◌*◌, ℕ, zero, suc, Bool, true, false, cond, List, [], ◌∷◌, length, take, drop, Option, Some, None, ℤ, pos, refl, sym, ap, ◌∙◌, subst, arith, length-drop}
use Rattle.std.specs.Prelude.{slice_get, not, ◌&&◌, ◌==◌, ◌||◌}
use Rattle.std.specs.List.{list_all}
use Rattle.std.specs.Option.{IsSome}
use Rattle.std.proofs.lemmas.List.{drop-drop}
use Rattle.sbe_types.specs.declared.kind.Kind.{Kind, Leaf, Enum, Set, Const, Comp, Comp'}
use Rattle.sbe_types.specs.declared.kind.ConstValue.{ConstValue}
use Rattle.sbe_types.specs.declared.kind.Leaf.{Leaf as LeafOf}
use Rattle.sbe_types.specs.declared.kind.LeafShape.{LeafShape}
use Rattle.sbe_types.specs.declared.kind.LeafShape.TheVariants.{Number, RangedText, EncodedText, Octets, Numbers}
use Rattle.sbe_types.specs.declared.kind.Member.{Member}
use Rattle.sbe_types.specs.declared.kind.Named.{Named}
use Rattle.sbe_types.specs.declared.kind.Order.{Order}
use Rattle.sbe_types.specs.declared.kind.Primitive.{Primitive}
use Rattle.sbe_types.specs.declared.kind.Primitive.TheVariants.{Char, I8, I16, I32, I64, U8, U16, U32, U64}
use Rattle.sbe_types.specs.declared.message.Elem.{Elem}
use Rattle.sbe_types.specs.declared.message.Elem.TheVariants as elem
use Rattle.sbe_types.specs.declared.message.Value.{Value}
use Rattle.sbe_types.specs.declared.message.Value.TheVariants as value
use Rattle.sbe_types.specs.Numbers.{number_of, natural, prim_width}
use Rattle.sbe_types.specs.Shown.{admits, is_null, is_listed, is_optional, has_listed_bits, shown_element}
use Rattle.sbe_types.specs.Shows.{Shows, ShowsLeaf, ShowsText, ShowsElements, EndsText, is_text_byte, is_ranged, is_empty, text_value}
use Rattle.sbe_types.proofs.TextLemmas.{Stops, fronts}
use Rattle.schema_rules.specs.TypeRules.{is_set_primitive}
use Rattle.schema_facts.specs.InOrder.{IsKindInOrder, IsShapeOf}
use Rattle.field_values.specs.declared.state.FieldState.TheVariants as state
use Rattle.field_values.specs.Reports.{state_of, number_in, text_in, elements_in, element_of, number_state, text_state, before_zero, seen_element, prim_in, leaf_in}

some_is : {A : Type 0} {x y : A} → ◌≡◌ {A = Option A} (Some x) (Some y) → x ≡ y
some_is h = cc

-- ---- a value, or null

either : (s t : Bool) (x v : Value) → cond s (Some value.Null) (cond t (Some x) None) ≡ Some v → v ≡ cond s value.Null x
either true t x v h = sym (some_is h)
either false true x v h = sym (some_is h)
either false false x v h = cc

state_if : (s : Bool) (x : Value) → state_of x ≡ state.Here → state_of (cond s value.Null x) ≡ cond s state.Null state.Here
state_if true x h = refl
state_if false x h = h

not_some : {X : Type 0} (o : Option X) → o ≡ None → IsSome o → ⊥
not_some None h some = cc
not_some (Some x) h some = cc

some_if : {X : Type 0} (f : Value → Option X) (s : Bool) (x v : Value) (y : X) → v ≡ cond s value.Null x → f value.Null ≡ None → f x ≡ Some y → IsSome (f v) → f v ≡ Some y
some_if f true x v y is null there some = absurd (not_some (f v) (ap f is ∙ null) some)
some_if f false x v y is null there some = ap f is ∙ there

none_if : {X : Type 0} (f : Value → Option X) (s : Bool) (x v : Value) → v ≡ cond s value.Null x → f value.Null ≡ None → f x ≡ None → IsSome (f v) → ⊥
none_if f true x v is null other some = not_some (f v) (ap f is ∙ null) some
none_if f false x v is null other some = not_some (f v) (ap f is ∙ other) some

nothing_if : (s : Bool) (x v : Value) → v ≡ cond s value.Null x → elements_in x ≡ [] → length (elements_in v) ≡ 0
nothing_if true x v is none = ap (λ v. length (elements_in v)) is
nothing_if false x v is none = ap (λ v. length (elements_in v)) is ∙ ap length none

and_true : (a b : Bool) → (a && b) ≡ true → (a ≡ true) × (b ≡ true)
and_true true true h = (refl, refl)
and_true true false h = cc
and_true false b h = cc

-- ---- texts

abbrev is_no_zero : ℕ → Bool
is_no_zero b = not (b == 0)

passes_first : (p : ℕ → Bool) (x : ℕ) (xs : List ℕ) (t : Bool) → p x ≡ t → list_all p (x ∷ xs) ≡ true → (p x ≡ true) × (list_all p xs ≡ true)
passes_first p x xs true e h = (e, rw e at h)
passes_first p x xs false e h = absurd (untrue (rw e at h))
  where
    untrue : ◌≡◌ {A = Bool} false true → ⊥
    untrue k = cc

no_zeros : (leaf : LeafOf) (text : List ℕ) → list_all (is_text_byte leaf) text ≡ true → list_all is_no_zero text ≡ true
no_zeros leaf [] h = refl
no_zeros leaf (x ∷ text) h =
    let both = passes_first (is_text_byte leaf) x text (is_text_byte leaf x) refl h in
    let here : is_no_zero x ≡ true = (and_true (is_no_zero x) (cond (is_ranged leaf.shape) (admits leaf (pos x)) true) both.0).0 in
    rw here (no_zeros leaf text both.1)

zero_stops : (after : List ℕ) → EndsText after → Stops is_no_zero after
zero_stops [] h = tt
zero_stops (x ∷ after) h = ap is_no_zero h

-- the text that bytes show stands before the first 00
pub text_front : (leaf : LeafOf) (v : Value) (b : List ℕ) → ShowsText leaf v b → v ≡ text_value leaf (before_zero b)
text_front leaf v b h =
    let front : before_zero b ≡ h.0 = ap before_zero h.2 ∙ fronts is_no_zero h.0 h.1 (no_zeros leaf h.0 h.4) (zero_stops h.1 h.3) in
    h.5 ∙ ap (text_value leaf) (sym front)

-- ---- leaves

module _ (order : Order) (leaf : LeafOf) (v : Value) (b : List ℕ) where
  abbrev n : ℤ
  n = number_of order leaf.prim b

  abbrev is_blank : Bool
  is_blank = is_optional leaf.presence && is_empty (before_zero b)

  single : ShowsLeaf order Number leaf v b → v ≡ cond (is_null leaf n) value.Null (value.Num n)
  single h = either (is_null leaf n) (admits leaf n) (value.Num n) v h

  pub number_state_is : ShowsLeaf order Number leaf v b → state_of v ≡ number_state leaf n
  number_state_is h = ap state_of (single h) ∙ state_if (is_null leaf n) (value.Num n) refl

  pub text_state_is : ShowsText leaf v b → state_of v ≡ text_state leaf b
  text_state_is h = ap state_of (text_front leaf v b h) ∙ state_if is_blank (value.Text (before_zero b)) refl

  pub leaf_number : (shape : LeafShape) → ShowsLeaf order shape leaf v b → IsSome (number_in v) → (shape ≡ Number) × (number_in v ≡ Some n)
  leaf_number Number h some = (refl, some_if number_in (is_null leaf n) (value.Num n) v n (single h) refl refl some)
  leaf_number RangedText h some = absurd (none_if number_in is_blank (value.Text (before_zero b)) v (text_front leaf v b h) refl refl some)
  leaf_number EncodedText h some = absurd (none_if number_in is_blank (value.Text (before_zero b)) v (text_front leaf v b h) refl refl some)
  leaf_number Octets h some = absurd (not_some (number_in v) (ap number_in h.1) some)
  leaf_number Numbers h some = absurd (not_some (number_in v) (ap number_in h.1) some)

  leaf_text : (shape : LeafShape) → ShowsLeaf order shape leaf v b → IsSome (text_in v) → text_in v ≡ Some (before_zero b)
  leaf_text Number h some = absurd (none_if text_in (is_null leaf n) (value.Num n) v (single h) refl refl some)
  leaf_text RangedText h some = some_if text_in is_blank (value.Text (before_zero b)) v (before_zero b) (text_front leaf v b h) refl refl some
  leaf_text EncodedText h some = some_if text_in is_blank (value.Text (before_zero b)) v (before_zero b) (text_front leaf v b h) refl refl some
  leaf_text Octets h some = absurd (not_some (text_in v) (ap text_in h.1) some)
  leaf_text Numbers h some = absurd (not_some (text_in v) (ap text_in h.1) some)

-- ---- other kinds

module _ (order : Order) (known : Bool) (v : Value) (b : List ℕ) where
  enum_is : (l : LeafOf) (names : List Named) → Shows order known (Enum l names) v b → v ≡ cond (is_null l (number_of order l.prim b)) value.Null (value.Enum (number_of order l.prim b))
  enum_is l names h = either (is_null l (number_of order l.prim b)) (is_listed names (number_of order l.prim b) || not known) (value.Enum (number_of order l.prim b)) v h.1

  pub enum_state : (l : LeafOf) (names : List Named) → Shows order known (Enum l names) v b → state_of v ≡ number_state l (number_of order l.prim b)
  enum_state l names h = ap state_of (enum_is l names h) ∙ state_if (is_null l (number_of order l.prim b)) (value.Enum (number_of order l.prim b)) refl

  pub enum_number : (l : LeafOf) (names : List Named) → Shows order known (Enum l names) v b → IsSome (number_in v) → number_in v ≡ Some (number_of order l.prim b)
  enum_number l names h some = some_if number_in (is_null l (number_of order l.prim b)) (value.Enum (number_of order l.prim b)) v (number_of order l.prim b) (enum_is l names h) refl refl some

  set_at : (bits : ℕ) (t : Bool) → cond t (Some (value.Set bits)) None ≡ Some v → v ≡ value.Set bits
  set_at bits true h = sym (some_is h)
  set_at bits false h = cc

  set_is : (p : Primitive) (names : List Named) → Shows order known (Set p names) v b → v ≡ value.Set (natural (number_of order p b))
  set_is p names h = set_at (natural (number_of order p b)) (has_listed_bits names 64 (natural (number_of order p b)) || not known) h.1

  pub set_state : (p : Primitive) (names : List Named) → Shows order known (Set p names) v b → state_of v ≡ state.Here
  set_state p names h = ap state_of (set_is p names h)

  unsigned : (p : Primitive) → is_set_primitive p ≡ true → pos (natural (number_of order p b)) ≡ number_of order p b
  unsigned Char h = cc
  unsigned I8 h = cc
  unsigned I16 h = cc
  unsigned I32 h = cc
  unsigned I64 h = cc
  unsigned U8 h = refl
  unsigned U16 h = refl
  unsigned U32 h = refl
  unsigned U64 h = refl

  pub set_number : (p : Primitive) (names : List Named) → is_set_primitive p ≡ true → Shows order known (Set p names) v b → number_in v ≡ Some (number_of order p b)
  set_number p names u h = ap number_in (set_is p names h) ∙ ap Some (unsigned p u)

  comp_value : (ms : List Member) → Shows order known (Comp ms) v b → (vs : List Value) × (v ≡ value.Comp vs)
  comp_value ms h = (h.1.0, h.1.1)

  pub comp_state : (ms : List Member) → Shows order known (Comp ms) v b → state_of v ≡ state.Here
  comp_state ms h = ap state_of (comp_value ms h).1

  pub comp_number : (ms : List Member) → Shows order known (Comp ms) v b → IsSome (number_in v) → ⊥
  comp_number ms h some = not_some (number_in v) (ap number_in (comp_value ms h).1) some

  pub const_state : (c : ConstValue) → Shows order known (Const c) v b → state_of v ≡ state.Const
  const_state c h = ap state_of h.1

  pub const_number : (c : ConstValue) → Shows order known (Const c) v b → IsSome (number_in v) → ⊥
  const_number c h some = not_some (number_in v) (ap number_in h.1) some

  -- ---- a number of any kind

  abbrev Numbered : Kind → Type 0
  Numbered kind = (prim : Primitive) × (prim_in kind ≡ Some prim) × (length b ≡ prim_width prim) × (number_in v ≡ Some (number_of order prim b))

  leaf_numbered : (l : LeafOf) → IsShapeOf l.shape l.prim l.length → Shows order known (Leaf l) v b → IsSome (number_in v) → Numbered (Leaf l)
  leaf_numbered l shape h some =
      let found = leaf_number order l v b l.shape h.1 some in
      let one : l.length ≡ 1 = subst (λ s. IsShapeOf s l.prim l.length) found.0 shape in
      let wide : prim_width l.prim * l.length ≡ prim_width l.prim = ap (λ k. prim_width l.prim * k) one ∙ omega arith in
      (l.prim, refl, h.0 ∙ wide, found.1)

  pub number_told : (kind : Kind) → IsKindInOrder kind → Shows order known kind v b → IsSome (number_in v) → Numbered kind
  number_told (Leaf l) ready h some = leaf_numbered l ready.parts.shape h some
  number_told (Enum l names) ready h some = (l.prim, refl, h.0, enum_number l names h some)
  number_told (Set p names) ready h some = (p, refl, h.0, set_number p names ready.parts.encoding h)
  number_told (Const c) ready h some = absurd (not_some (number_in v) (ap number_in h.1) some)
  number_told (Comp' shape members) ready h some = absurd (not_some (number_in v) (ap number_in h.1.1) some)

  -- ---- a text of any kind

  pub text_told : (kind : Kind) → Shows order known kind v b → IsSome (text_in v) → text_in v ≡ Some (before_zero b)
  text_told (Leaf l) h some = leaf_text order l v b l.shape h.1 some
  text_told (Enum l names) h some = absurd (none_if text_in (is_null l (number_of order l.prim b)) (value.Enum (number_of order l.prim b)) v (enum_is l names h) refl refl some)
  text_told (Set p names) h some = absurd (not_some (text_in v) (ap text_in (set_is p names h)) some)
  text_told (Const c) h some = absurd (not_some (text_in v) (ap text_in h.1) some)
  text_told (Comp' shape members) h some = absurd (not_some (text_in v) (ap text_in h.1.1) some)

-- ---- elements

elem_is : (s t : Bool) (n : ℤ) (e : Elem) → cond s (Some elem.Null) (cond t (Some (elem.Num n)) None) ≡ Some e → Some e ≡ Some (element_of (cond s None (Some n)))
elem_is true t n e h = sym h
elem_is false true n e h = sym h
elem_is false false n e h = cc

module _ (order : Order) (leaf : LeafOf) where
  abbrev w : ℕ
  w = prim_width leaf.prim

  abbrev number : List ℕ → ℤ
  number b = number_of order leaf.prim (take w b)

  element_there : (e : Elem) (b : List ℕ) → shown_element leaf (number b) ≡ Some e → Some e ≡ Some (element_of (seen_element leaf (number b)))
  element_there e b h = elem_is (is_null leaf (number b)) (admits leaf (number b)) (number b) e h

  elements_at : (es : List Elem) (b : List ℕ) (j : ℕ) → ShowsElements order leaf es b → j < length es →
      (w * j + w ≤ length b) × (slice_get es j ≡ Some (element_of (seen_element leaf (number (drop (w * j) b)))))
  elements_at [] b j h more = absurd (omega (arith, more))
  elements_at (e ∷ es) b zero h more =
      let none : w * zero ≡ 0 = omega arith in
      (omega (arith, none, h.0), element_there e b h.1 ∙ ap (λ k. Some (element_of (seen_element leaf (number (drop k b))))) (sym none))
  elements_at (e ∷ es) b (suc j) h more =
      let step : w * suc j ≡ w + w * j = grind arith in
      let rest = elements_at es (drop w b) j h.2 (omega (arith, more)) in (
        omega (arith, step, rest.0, h.0, length-drop w b),
        rest.1 ∙ ap (λ x. Some (element_of (seen_element leaf (number x)))) (drop-drop (w * j) w b ∙ ap (λ k. drop k b) (sym step)),
      )

  abbrev Element : Value → List ℕ → ℕ → Type 0
  Element v b j = (w * j + w ≤ length b) × (slice_get (elements_in v) j ≡ Some (element_of (seen_element leaf (number (drop (w * j) b)))))

  array_element : (es : List Elem) (v : Value) (b : List ℕ) (j : ℕ) → v ≡ value.Nums es → ShowsElements order leaf es b → j < length (elements_in v) → Element v b j
  array_element es v b j is h more =
      let same : elements_in v ≡ es = ap elements_in is in
      let found = elements_at es b j h (omega (arith, more, ap length same)) in
      (found.0, ap (λ l. slice_get l j) same ∙ found.1)

  pub leaf_element : (shape : LeafShape) (v : Value) (b : List ℕ) (j : ℕ) → ShowsLeaf order shape leaf v b → j < length (elements_in v) → Element v b j
  leaf_element Number v b j h more = absurd (omega (arith, more, nothing_if (is_null leaf (number_of order leaf.prim b)) (value.Num (number_of order leaf.prim b)) v (single order leaf v b h) refl))
  leaf_element RangedText v b j h more = absurd (omega (arith, more, nothing_if (is_optional leaf.presence && is_empty (before_zero b)) (value.Text (before_zero b)) v (text_front leaf v b h) refl))
  leaf_element EncodedText v b j h more = absurd (omega (arith, more, nothing_if (is_optional leaf.presence && is_empty (before_zero b)) (value.Text (before_zero b)) v (text_front leaf v b h) refl))
  leaf_element Octets v b j h more = array_element h.0 v b j h.1 h.2 more
  leaf_element Numbers v b j h more = array_element h.0 v b j h.1 h.2 more

pub element_told : (order : Order) (known : Bool) (kind : Kind) (v : Value) (b : List ℕ) (j : ℕ) → Shows order known kind v b → j < length (elements_in v) → (l : LeafOf) × (leaf_in kind ≡ Some l) × Element order l v b j
element_told order known (Leaf l) v b j h more = (l, refl, leaf_element order l l.shape v b j h.1 more)
element_told order known (Enum l names) v b j h more = absurd (omega (arith, more, nothing_if (is_null l (number_of order l.prim b)) (value.Enum (number_of order l.prim b)) v (enum_is order known v b l names h) refl))
element_told order known (Set p names) v b j h more = absurd (omega (arith, more, ap (λ v. length (elements_in v)) (set_is order known v b p names h)))
element_told order known (Const c) v b j h more = absurd (omega (arith, more, ap (λ v. length (elements_in v)) h.1))
element_told order known (Comp' shape members) v b j h more = absurd (omega (arith, more, ap (λ v. length (elements_in v)) h.1.1))

-- one leaf or primitive of a kind
pub same_some : {A : Type 0} (o : Option A) (x y : A) → o ≡ Some x → o ≡ Some y → x ≡ y
same_some o x y h k = some_is (sym h ∙ k)

pub cut : (m k : ℕ) → m + k - m ≡ k
cut m k = omega arith
