-- What the bytes of a field tell of its value.
use Rattle.std.proofs.Common.{◌≡◌, ◌<◌, ◌^◌, ℕ, zero, suc, Bool, true, false, cond, List, length, Option, Some, None, ℤ, pos, refl, sym, ap, ◌∙◌, subst, arith}
use Rattle.std.specs.Prelude.{◌&&◌, ◌||◌, not, slice_get, slice_index, IfSome, IfNone}
use Rattle.std.specs.Option.{option_map}
use Rattle.sbe_types.specs.declared.kind.Kind.{Kind, Leaf, Enum, Set, Const, Comp'}
use Rattle.sbe_types.specs.declared.kind.Leaf.{Leaf as LeafOf}
use Rattle.sbe_types.specs.declared.kind.LeafShape.{LeafShape}
use Rattle.sbe_types.specs.declared.kind.LeafShape.TheVariants.{Number, RangedText, EncodedText, Octets, Numbers}
use Rattle.sbe_types.specs.declared.kind.Named.{Named}
use Rattle.sbe_types.specs.declared.kind.Order.{Order}
use Rattle.sbe_types.specs.declared.kind.Order.TheVariants.{Big, Little}
use Rattle.sbe_types.specs.declared.kind.Primitive.{Primitive}
use Rattle.sbe_types.specs.declared.kind.Primitive.TheVariants.{Char, U8}
use Rattle.sbe_types.proofs.NumberLemmas.{read_big, read_little}
use Rattle.sbe_types.specs.declared.message.Elem.{Elem}
use Rattle.sbe_types.specs.declared.message.Value.{Value}
use Rattle.sbe_types.specs.declared.message.Value.TheVariants as value
use Rattle.sbe_types.specs.Numbers.{natural, number_of}
use Rattle.sbe_types.specs.Places.{width}
use Rattle.sbe_types.specs.Shown.{admits, has_listed_bits, is_listed, is_null, is_optional}
use Rattle.sbe_types.specs.Shows.{Shows, ShowsLeaf, is_empty, text_value}
use Rattle.schema_facts.specs.InOrder.{IsKindInOrder}
use Rattle.field_values.specs.Reports.{before_zero, seen_element}
use Rattle.field_values.proofs.Shown.{text_front}
use Rattle.flyweight_view.specs.declared.values.FieldBytes.{FieldBytes}
use Rattle.flyweight_view.specs.ShownIn.{IsShownIn}
use Rattle.bridge_rules.specs.Members.{not_zero, number_in}
use Rattle.bridge_rules.proofs.OptionLemmas.{some_is, none_some}
use Rattle.bridge_terms.specs.Blocks.{nth_or}
use Rattle.message_walk.proofs.Nth.{nth_is}
use Rattle.std.proofs.lemmas.Bool.Decides.{nat_tests}
use Rattle.std.proofs.lemmas.Int.{ints}
use Rattle.value_texts.specs.FieldViews.{is_word, CanReadAny, IsSeenOf}

-- ---- a field of a block

shown_at : (f : FieldBytes) (o : Option Value) → IsShownIn f o → (v : Value) × (o ≡ Some v) × IsShownIn f (Some v)
shown_at f None h = absurd h
shown_at f (Some v) h = (v, refl, h)

-- bytes that show a value are as many as the kind is wide
pub shows_wide : (order : Order) (known : Bool) (k : Kind) (v : Value) (b : List ℕ) → Shows order known k v b → length b ≡ width k
shows_wide order known (Leaf l) v b h = h.0
shows_wide order known (Enum l names) v b h = h.0
shows_wide order known (Set p names) v b h = h.0
shows_wide order known (Const c) v b h = ap length h.0
shows_wide order known (Comp' n row) v b h = h.0

pub ready_of : (o : Option FieldBytes) (w : Option Value) → IfSome o (λ f. IsKindInOrder f.kind.now) → IfSome o (λ f. IsShownIn f w) → CanReadAny o
ready_of None w order shows = tt
ready_of (Some f) w order shows =
    let there = shown_at f w shows in
    record { order = order; wide = shows_wide f.order there.2.0 f.kind.now there.0 f.bytes.now there.2.1 }

pub seen_of : (o : Option FieldBytes) (n : ℕ) (vs : List Value) → IfSome o (λ f. IsShownIn f (slice_get vs n)) → IfNone o (slice_get vs n ≡ Some value.Absent)
    → IsSeenOf o (nth_or value.Absent n vs)
seen_of None n vs shows absent = nth_is value.Absent n vs value.Absent absent
seen_of (Some f) n vs shows absent =
    let there = shown_at f (slice_get vs n) shows in
    subst (λ v. IsShownIn f (Some v)) (sym (nth_is value.Absent n vs there.0 there.1)) there.2

-- ---- numbers of one byte

pub char_number : (order : Order) (bs : List ℕ) → length bs ≡ 1 → ((i : ℕ) → slice_index bs i < 256) → pos (slice_index bs 0) ≡ number_of order Char bs
char_number Big bs one are = read_big Char bs one are
char_number Little bs one are = read_little Char bs one are

pub octet_number : (order : Order) (bs : List ℕ) → length bs ≡ 1 → ((i : ℕ) → slice_index bs i < 256) → pos (slice_index bs 0) ≡ number_of order U8 bs
octet_number Big bs one are = read_big U8 bs one are
octet_number Little bs one are = read_little U8 bs one are

-- ---- leaves

-- a number that is shown, or null
pub number_shown : {X : Type 0} (g : Value → X) (s t : Bool) (x v : Value) → cond s (Some value.Null) (cond t (Some x) None) ≡ Some v → g v ≡ cond s (g value.Null) (g x)
number_shown g true t x v h = ap g (sym (some_is h))
number_shown g false true x v h = ap g (sym (some_is h))
number_shown g false false x v h = none_some h

cond_same : {X : Type 0} (s : Bool) (a b x : X) → a ≡ x → b ≡ x → cond s a b ≡ x
cond_same true a b x p q = p
cond_same false a b x p q = q

cond_ap : {X Y : Type 0} (g : X → Y) (s : Bool) (a b : X) → g (cond s a b) ≡ cond s (g a) (g b)
cond_ap g true a b = refl
cond_ap g false a b = refl

-- the number of a leaf that is one
pub leaf_number_is : (order : Order) (leaf : LeafOf) (v : Value) (b : List ℕ) → ShowsLeaf order Number leaf v b → number_in v ≡ seen_element leaf (number_of order leaf.prim b)
leaf_number_is order leaf v b h =
    let n = number_of order leaf.prim b in
    number_shown number_in (is_null leaf n) (admits leaf n) (value.Num n) v h

-- what is the same of all values of a leaf
pub record OfLeaf {X : Type 0} (g : Value → X) (x : X) : Type 0 where
  pub null : g value.Null ≡ x
  pub number : (n : ℤ) → g (value.Num n) ≡ x
  pub text : (t : List ℕ) → g (value.Text t) ≡ x
  pub array : (es : List Elem) → g (value.Nums es) ≡ x

pub of_text : {X : Type 0} (g : Value → X) (x : X) (leaf : LeafOf) (t : List ℕ) → g value.Null ≡ x → g (value.Text t) ≡ x → g (text_value leaf t) ≡ x
of_text g x leaf t null text =
    let s = is_optional leaf.presence && is_empty t in
    cond_ap g s value.Null (value.Text t) ∙ cond_same s (g value.Null) (g (value.Text t)) x null text

pub leaf_same : {X : Type 0} (g : Value → X) (x : X) (all : OfLeaf g x) (order : Order) (shape : LeafShape) (leaf : LeafOf) (v : Value) (b : List ℕ) → ShowsLeaf order shape leaf v b → g v ≡ x
leaf_same g x all order Number leaf v b h =
    let n = number_of order leaf.prim b in
    number_shown g (is_null leaf n) (admits leaf n) (value.Num n) v h ∙ cond_same (is_null leaf n) (g value.Null) (g (value.Num n)) x all.null (all.number n)
leaf_same g x all order RangedText leaf v b h = ap g (text_front leaf v b h) ∙ of_text g x leaf (before_zero b) all.null (all.text (before_zero b))
leaf_same g x all order EncodedText leaf v b h = ap g (text_front leaf v b h) ∙ of_text g x leaf (before_zero b) all.null (all.text (before_zero b))
leaf_same g x all order Octets leaf v b h = ap g h.1 ∙ all.array h.0
leaf_same g x all order Numbers leaf v b h = ap g h.1 ∙ all.array h.0

-- what is the same of all numbers and null
pub single_same : {X : Type 0} (g : Value → X) (x : X) (order : Order) (leaf : LeafOf) (v : Value) (b : List ℕ) → g value.Null ≡ x → ((n : ℤ) → g (value.Num n) ≡ x)
    → ShowsLeaf order Number leaf v b → g v ≡ x
single_same g x order leaf v b null number h =
    let n = number_of order leaf.prim b in
    number_shown g (is_null leaf n) (admits leaf n) (value.Num n) v h ∙ cond_same (is_null leaf n) (g value.Null) (g (value.Num n)) x null (number n)

-- ---- other kinds

pub enum_number_is : (order : Order) (known : Bool) (v : Value) (b : List ℕ) (l : LeafOf) (names : List Named) → Shows order known (Enum l names) v b
    → number_in v ≡ seen_element l (number_of order l.prim b)
enum_number_is order known v b l names h =
    let n = number_of order l.prim b in
    number_shown number_in (is_null l n) (is_listed names n || not known) (value.Enum n) v h.1

pub enum_same : {X : Type 0} (g : Value → X) (x : X) (order : Order) (known : Bool) (v : Value) (b : List ℕ) (l : LeafOf) (names : List Named) → g value.Null ≡ x
    → ((n : ℤ) → g (value.Enum n) ≡ x) → Shows order known (Enum l names) v b → g v ≡ x
enum_same g x order known v b l names null number h =
    let n = number_of order l.prim b in
    number_shown g (is_null l n) (is_listed names n || not known) (value.Enum n) v h.1 ∙ cond_same (is_null l n) (g value.Null) (g (value.Enum n)) x null (number n)

set_at : (bits : ℕ) (t : Bool) (v : Value) → cond t (Some (value.Set bits)) None ≡ Some v → v ≡ value.Set bits
set_at bits true v h = sym (some_is h)
set_at bits false v h = none_some h

pub set_is : (order : Order) (known : Bool) (v : Value) (b : List ℕ) (p : Primitive) (names : List Named) → Shows order known (Set p names) v b → v ≡ value.Set (natural (number_of order p b))
set_is order known v b p names h = set_at (natural (number_of order p b)) (has_listed_bits names 64 (natural (number_of order p b)) || not known) v h.1

-- the number of choices that are there, and of none
pub some_choices : (z : ℤ) (k : ℕ) → pos k ≡ z → (k ≡ 0 → ⊥) → option_map pos (not_zero (natural z)) ≡ Some (pos k)
some_choices z zero is some = absurd (some refl)
some_choices z (suc k) is some = ap (λ z. option_map pos (not_zero (natural z))) (sym is)

pub no_choices : (z : ℤ) (k : ℕ) → pos k ≡ z → k ≡ 0 → option_map pos (not_zero (natural z)) ≡ None
no_choices z k is none = ap (λ z. option_map pos (not_zero (natural z))) (sym is ∙ ap pos none)

pub word_small : (k : ℕ) → k < 2 ^ 64 → is_word (pos k) ≡ true
word_small k small = grind (arith, nat_tests, ints)
