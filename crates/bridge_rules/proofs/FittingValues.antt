-- A value is good by a rule of the table exactly where it fits its kind and is in the form of its item.
use Rattle.std.proofs.Common.{◌≡◌, ◌⊎◌, inl, inr, ℕ, suc, ◌*◌, Bool, true, false, cond, List, [], ◌∷◌, length, Option, Some, None, Ok, Err, refl, sym, ap, ◌∙◌, subst, arith, ℤ, pos}
use Rattle.std.specs.Prelude.{⊤, ◌↔◌, ◌&&◌, ◌==◌, not, nat_le, int_le, find}
use Rattle.std.specs.List.{list_all}
use Rattle.std.specs.Ordering.{int_eq}
use Rattle.std.proofs.lemmas.Int.{ints}
use Rattle.std.proofs.lemmas.Bool.Decides.{nat_tests}
use Rattle.sbe_types.specs.declared.kind.Order.{Order}
use Rattle.sbe_types.specs.declared.kind.Order.TheVariants.{Little}
use Rattle.sbe_types.specs.declared.kind.Primitive.{Primitive}
use Rattle.sbe_types.specs.declared.kind.Primitive.TheVariants.{Char}
use Rattle.sbe_types.specs.declared.kind.LeafShape.{LeafShape}
use Rattle.sbe_types.specs.declared.kind.LeafShape.TheVariants.{Number, RangedText, EncodedText, Octets, Numbers}
use Rattle.sbe_types.specs.declared.kind.Leaf.{Leaf as LeafOf}
use Rattle.sbe_types.specs.declared.kind.Named.{Named}
use Rattle.sbe_types.specs.declared.kind.ConstValue.{ConstValue}
use Rattle.sbe_types.specs.declared.kind.ConstValue.TheVariants as const
use Rattle.sbe_types.specs.declared.kind.Kind.{Kind, Leaf, Enum, Set, Const, Comp', Row_of-Member, end_of-Member, more_of-Member, items-the_row-Member}
use Rattle.sbe_types.specs.declared.message.Value.{Value, items-the_row-Value, items_hidden-the_row-Value-0}
use Rattle.sbe_types.specs.declared.message.Value as value
use Rattle.sbe_types.specs.declared.path.Step.TheVariants as way
use Rattle.sbe_types.specs.Numbers.{prim_width}
use Rattle.sbe_types.specs.Places.{width}
use Rattle.sbe_types.specs.Shown.{is_optional, is_octets, admits, is_null, is_listed}
use Rattle.sbe_types.specs.Shows.{is_empty, is_text_byte}
use Rattle.sbe_types.specs.Wire.{FitsKind, member_values}
use Rattle.sbe_wire.specs.declared.codes.NCode.TheVariants as code
use Rattle.sbe_wire.specs.Misfit.{Misfit, misfit_in, or_else, unless, other_kind, number_misfit, byte_misfit, text_misfit, leaf_misfit, enum_misfit, set_misfit, const_misfit, same_length, value_misfit, row_misfit}
use Rattle.sbe_wire.specs.Placed.{IsPlacedKind}
use Rattle.schema_facts.specs.InOrder.{IsShapeOf, IsLeafFrom, IsKindFrom}
use Rattle.writing_laws.specs.Writable.{IsWritableKind}
use Rattle.writing_laws.proofs.ListRows.{comp_is}
use Rattle.writing_laws.proofs.Refusals.{unless_true, or_none, none_or, in_none, byte_none, none_found, found_none}
use Rattle.writing_laws.proofs.KindFits.{kind_fits}
use Rattle.writing_laws.proofs.KindGood.{fits_good}
use Rattle.fix_values.specs.declared.rule.V.TheVariants as why
use Rattle.fix_values.specs.declared.rule.Code.{Code}
use Rattle.fix_values.specs.Numerals.{is_value}
use Rattle.fix_values.specs.Values.{text_read}
use Rattle.bridge_rules.specs.Rules.{Rule, fixed_decimal, floating_decimal, char_array, choice_set, moment, month_year, constant, From, always, on_wire}
use Rattle.bridge_rules.specs.Members.{members_in, number_or_null}
use Rattle.bridge_rules.specs.Values.{is_value_or_none, least_or_null}
use Rattle.bridge_rules.specs.Good.{Good, IsMadeOrNull, IsItemForm, is_ok, is_text_of, is_set_of}
use Rattle.bridge_rules.specs.Datatypes.{Datatype}
use Rattle.bridge_rules.specs.Table.{is_number, is_array, is_integer, is_char_leaf, is_single_byte, is_optional_byte, kinds_of, rule_of}
use Rattle.bridge_rules.proofs.OptionLemmas.{some_none, and_first, and_second}
use Rattle.bridge_rules.proofs.BoolLemmas.{true_false, either, and_so, same_self, if_true, if_false}
use Rattle.bridge_rules.proofs.TableCases.{OfLeaf, leaf_cases, OfEnum, enum_cases, set_cases, AreKinds, members_are, OfComposite, composite_cases, const_cases}

-- the value of a kind has no misfit and is in the form of its item exactly where it is good by the rule
pub record Fitting (k : Kind) (rule : Rule) : Type 0 where
  pub fits : (v : Value) → Good rule v → (value_misfit k v ≡ None) × IsItemForm rule v
  pub good : (v : Value) → value_misfit k v ≡ None → IsItemForm rule v → Good rule v

-- ---- tests

swapped : (a b : Bool) → a && b ≡ true → b && a ≡ true
swapped a b h = and_so b a (and_second a b h) (and_first a b h)

unless_so : (t : Bool) (m : Option Misfit) → t ≡ true → unless t m ≡ None
unless_so t m h = ap (λ t. unless t m) h

-- ---- single numbers

number_fits : (leaf : LeafOf) (n : ℤ) → is_value leaf n ≡ true → number_misfit leaf (value.Num n) ≡ None
number_fits leaf n h = unless_so (admits leaf n && not (is_null leaf n)) _ (swapped (not (is_null leaf n)) (admits leaf n) h)

null_fits : (leaf : LeafOf) → is_optional leaf.presence ≡ true → number_misfit leaf value.Null ≡ None
null_fits leaf h = unless_so (is_optional leaf.presence) _ h

pub number_or : (leaf : LeafOf) (v : Value) → number_misfit leaf v ≡ None →
    ((n : ℤ) × (v ≡ value.Num n) × (is_value leaf n ≡ true)) ⊎ ((v ≡ value.Null) × (is_optional leaf.presence ≡ true))
number_or leaf (value.Num n) h = inl (n, refl, swapped (admits leaf n) (not (is_null leaf n)) (unless_true _ code.Range n h))
number_or leaf value.Null h = inr (refl, unless_true _ code.Kind (pos 0) h)
number_or leaf (value.Text t) h = some_none h
number_or leaf (value.Nums es) h = some_none h
number_or leaf (value.Enum n) h = some_none h
number_or leaf (value.Set n) h = some_none h
number_or leaf (value.Comp' n row) h = some_none h
number_or leaf value.Const h = some_none h
number_or leaf value.Absent h = some_none h

num_value : (leaf : LeafOf) (n : ℤ) (v : Value) → v ≡ value.Num n → number_misfit leaf v ≡ None → is_value leaf n ≡ true
num_value leaf n v is h = swapped (admits leaf n) (not (is_null leaf n)) (unless_true _ code.Range n (sym (ap (number_misfit leaf) is) ∙ h))

null_value : (leaf : LeafOf) (v : Value) → v ≡ value.Null → number_misfit leaf v ≡ None → is_optional leaf.presence ≡ true
null_value leaf v is h = unless_true _ code.Kind (pos 0) (sym (ap (number_misfit leaf) is) ∙ h)

number_is : (s : LeafShape) → is_number s ≡ true → s ≡ Number
number_is Number h = refl
number_is RangedText h = true_false h refl
number_is EncodedText h = true_false h refl
number_is Octets h = true_false h refl
number_is Numbers h = true_false h refl

pub integer_shape : (leaf : LeafOf) → is_integer leaf ≡ true → leaf.shape ≡ Number
integer_shape leaf h = number_is leaf.shape (and_first (is_number leaf.shape) _ h)

-- the misfit of a leaf that is a single number
pub leaf_is : (leaf : LeafOf) (v : Value) → leaf.shape ≡ Number → value_misfit (Leaf leaf) v ≡ number_misfit leaf v
leaf_is leaf v is = ap (λ s. leaf_misfit s leaf v) is

made_fits : (leaf : LeafOf) → leaf.shape ≡ Number → (v : Value) → IsMadeOrNull leaf value.Num value.Null (is_value leaf) v → value_misfit (Leaf leaf) v ≡ None
made_fits leaf is v good = leaf_is leaf v is ∙ elim good [
  | inl g ↦ ap (number_misfit leaf) g.1 ∙ number_fits leaf g.0 g.2
  | inr g ↦ ap (number_misfit leaf) g.0 ∙ null_fits leaf g.1
]

fits_made : (leaf : LeafOf) → leaf.shape ≡ Number → (v : Value) → value_misfit (Leaf leaf) v ≡ None → IsMadeOrNull leaf value.Num value.Null (is_value leaf) v
fits_made leaf is v h = number_or leaf v (sym (leaf_is leaf v is) ∙ h)

-- ---- texts

array_is : (s : LeafShape) → is_array s ≡ true → (leaf : LeafOf) (v : Value) → leaf_misfit s leaf v ≡ text_misfit leaf v
array_is RangedText h leaf v = refl
array_is EncodedText h leaf v = refl
array_is Number h leaf v = true_false h refl
array_is Octets h leaf v = true_false h refl
array_is Numbers h leaf v = true_false h refl

array_char : (s : LeafShape) (p : Primitive) (n : ℕ) → is_array s ≡ true → IsShapeOf s p n → p ≡ Char
array_char RangedText p n h shape = shape.0
array_char EncodedText p n h shape = shape.0
array_char Number p n h shape = true_false h refl
array_char Octets p n h shape = true_false h refl
array_char Numbers p n h shape = true_false h refl

wide : (leaf : LeafOf) → leaf.prim ≡ Char → width (Leaf leaf) ≡ leaf.length
wide leaf h = ap (λ p. prim_width p * leaf.length) h ∙ omega arith

read_is : (leaf : LeafOf) (t : List ℕ) → is_ok (text_read leaf t) ≡ true → (nat_le (length t) leaf.length ≡ true) × (list_all (is_text_byte leaf) t ≡ true)
read_is leaf t h = by_tests (nat_le (length t) leaf.length) (list_all (is_text_byte leaf) t) h
  where
    by_tests : (a b : Bool) → is_ok (cond a (cond b (Ok tt) (Err why.Spelling)) (Err why.Range)) ≡ true → (a ≡ true) × (b ≡ true)
    by_tests true true k = (refl, refl)
    by_tests true false k = true_false k refl
    by_tests false b k = true_false k refl

read_so : (leaf : LeafOf) (t : List ℕ) → nat_le (length t) leaf.length ≡ true → list_all (is_text_byte leaf) t ≡ true → is_ok (text_read leaf t) ≡ true
read_so leaf t p q =
    ap (λ a. is_ok (cond a (cond (list_all (is_text_byte leaf) t) (Ok tt) (Err why.Spelling)) (Err why.Range))) p
    ∙ ap (λ b. is_ok (cond b (Ok tt) (Err why.Spelling))) q

text_fits : (leaf : LeafOf) → leaf.prim ≡ Char → (t : List ℕ) → is_text_of leaf t ≡ true → text_misfit leaf (value.Text t) ≡ None
text_fits leaf char t h =
    let read = read_is leaf t (and_first (is_ok (text_read leaf t)) _ h) in
    let short : nat_le (length t) (width (Leaf leaf)) ≡ true = ap (nat_le (length t)) (wide leaf char) ∙ read.0 in
    none_or _ _
    (unless_so (nat_le (length t) (width (Leaf leaf)) && not (is_optional leaf.presence && is_empty t)) _
    (and_so (nat_le (length t) (width (Leaf leaf))) _ short (and_second (is_ok (text_read leaf t)) _ h)))
    (ap byte_misfit (none_found (is_text_byte leaf) t read.1))

text_or : (leaf : LeafOf) → leaf.prim ≡ Char → (v : Value) → text_misfit leaf v ≡ None → IsMadeOrNull leaf value.Text value.Null (is_text_of leaf) v
text_or leaf char (value.Text t) h =
    let two = or_none (unless (nat_le (length t) (width (Leaf leaf)) && not (is_optional leaf.presence && is_empty t)) _) (byte_misfit (find (λ b. not (is_text_byte leaf b)) t)) h in
    let tests = unless_true (nat_le (length t) (width (Leaf leaf)) && not (is_optional leaf.presence && is_empty t)) code.Range (pos (length t)) two.0 in
    let short : nat_le (length t) leaf.length ≡ true = ap (nat_le (length t)) (sym (wide leaf char)) ∙ and_first (nat_le (length t) (width (Leaf leaf))) _ tests in
    let bytes = found_none (is_text_byte leaf) t (byte_none (find (λ b. not (is_text_byte leaf b)) t) two.1) in
    inl (t, refl, and_so (is_ok (text_read leaf t)) _ (read_so leaf t short bytes) (and_second (nat_le (length t) (width (Leaf leaf))) _ tests))
text_or leaf char value.Null h = inr (refl, unless_true _ code.Kind (pos 0) h)
text_or leaf char (value.Num n) h = some_none h
text_or leaf char (value.Nums es) h = some_none h
text_or leaf char (value.Enum n) h = some_none h
text_or leaf char (value.Set n) h = some_none h
text_or leaf char (value.Comp' n row) h = some_none h
text_or leaf char value.Const h = some_none h
text_or leaf char value.Absent h = some_none h

pub of_leaf : (leaf : LeafOf) → IsLeafFrom 1 leaf → OfLeaf (Fitting (Leaf leaf)) leaf
of_leaf leaf facts = record {
  whole = λ is. record { fits = λ v g. (made_fits leaf (integer_shape leaf is) v g, tt); good = λ v h form. fits_made leaf (integer_shape leaf is) v h };
  decimal = λ is. record { fits = λ v g. (made_fits leaf (integer_shape leaf is) v g, tt); good = λ v h form. fits_made leaf (integer_shape leaf is) v h };
  day = λ is. record { fits = λ v g. (made_fits leaf (integer_shape leaf is) v g, tt); good = λ v h form. fits_made leaf (integer_shape leaf is) v h };
  char = λ is. record { fits = λ v g. (made_fits leaf (char_shape is) v g, tt); good = λ v h form. fits_made leaf (char_shape is) v h };
  array = λ is. record { fits = λ v g. (from_text is v g, tt); good = λ v h form. text_or leaf (array_char leaf.shape leaf.prim leaf.length is facts.shape) v (sym (array_is leaf.shape is leaf v) ∙ h) };
}
  where
    char_shape : is_char_leaf leaf ≡ true → leaf.shape ≡ Number
    char_shape is = number_is leaf.shape (and_first (is_number leaf.shape) _ is)

    from_text : is_array leaf.shape ≡ true → (v : Value) → Good (char_array leaf) v → value_misfit (Leaf leaf) v ≡ None
    from_text is v good = array_is leaf.shape is leaf v ∙ elim good [
      | inl g ↦ ap (text_misfit leaf) g.1 ∙ text_fits leaf (array_char leaf.shape leaf.prim leaf.length is facts.shape) g.0 g.2
      | inr g ↦ ap (text_misfit leaf) g.0 ∙ unless_so (is_optional leaf.presence) _ g.1
    ]

-- ---- enums and sets

abbrev IsListedOrNull : LeafOf → List Named → Value → Type 0
IsListedOrNull leaf names v = IsMadeOrNull leaf value.Enum value.Null (λ n. is_listed names n && not (is_null leaf n)) v

listed_fits : (leaf : LeafOf) (names : List Named) (v : Value) → IsListedOrNull leaf names v → enum_misfit leaf names v ≡ None
listed_fits leaf names v good = elim good [
  | inl g ↦ ap (enum_misfit leaf names) g.1
      ∙ none_or _ _ (unless_so (is_listed names g.0) _ (and_first (is_listed names g.0) _ g.2)) (unless_so (not (is_null leaf g.0)) _ (and_second (is_listed names g.0) _ g.2))
  | inr g ↦ ap (enum_misfit leaf names) g.0 ∙ unless_so (is_optional leaf.presence) _ g.1
]

listed_or : (leaf : LeafOf) (names : List Named) (v : Value) → enum_misfit leaf names v ≡ None → IsListedOrNull leaf names v
listed_or leaf names (value.Enum n) h =
    let two = or_none (unless (is_listed names n) _) (unless (not (is_null leaf n)) _) h in
    inl (n, refl, and_so (is_listed names n) _ (unless_true (is_listed names n) code.EnumUnknown n two.0) (unless_true (not (is_null leaf n)) code.Range n two.1))
listed_or leaf names value.Null h = inr (refl, unless_true _ code.Kind (pos 0) h)
listed_or leaf names (value.Num n) h = some_none h
listed_or leaf names (value.Text t) h = some_none h
listed_or leaf names (value.Nums es) h = some_none h
listed_or leaf names (value.Set n) h = some_none h
listed_or leaf names (value.Comp' n row) h = some_none h
listed_or leaf names value.Const h = some_none h
listed_or leaf names value.Absent h = some_none h

pub of_enum : (leaf : LeafOf) (names : List Named) → OfEnum (Fitting (Enum leaf names)) leaf names
of_enum leaf names = record {
  code = λ list. record { fits = λ v g. (listed_fits leaf names v g, tt); good = λ v h form. listed_or leaf names v h };
  number = λ list. record { fits = λ v g. (listed_fits leaf names v g, tt); good = λ v h form. listed_or leaf names v h };
  truth = record { fits = λ v g. (listed_fits leaf names v g, tt); good = λ v h form. listed_or leaf names v h };
}

set_or : (names : List Named) (v : Value) → set_misfit names v ≡ None → (n : ℕ) × (v ≡ value.Set n) × (is_set_of names n ≡ true)
set_or names (value.Set n) h = (n, refl, unless_true _ code.SetUnknown (pos n) h)
set_or names (value.Num n) h = some_none h
set_or names value.Null h = some_none h
set_or names (value.Text t) h = some_none h
set_or names (value.Nums es) h = some_none h
set_or names (value.Enum n) h = some_none h
set_or names (value.Comp' n row) h = some_none h
set_or names value.Const h = some_none h
set_or names value.Absent h = some_none h

pub of_set : (prim : Primitive) (names : List Named) (list : List Code) → Fitting (Set prim names) (choice_set names list)
of_set prim names list = record {
  fits = λ v g. (ap (set_misfit names) g.1 ∙ unless_so (is_set_of names g.0) _ g.2, tt);
  good = λ v h form. set_or names v h;
}

-- ---- constants

const_only : (v : Value) → const_misfit v ≡ None → v ≡ value.Const
const_only v h = (kind_fits Little (Const (const.Num (pos 0))) tt tt v h).3.1

pub of_constant : (c : ConstValue) (rule : Rule) (own : Value) → Fitting (Const c) (constant rule own)
of_constant c rule own = record { fits = λ v g. (ap const_misfit g, tt); good = λ v h form. const_only v h }

-- ---- composites

-- as many values as kinds, none of which has a misfit
abbrev pub AreFit : List Kind → List Value → Type 0
AreFit [] [] = ⊤
AreFit [] (v ∷ vs) = ⊥
AreFit (k ∷ ks) [] = ⊥
AreFit (k ∷ ks) (v ∷ vs) = (value_misfit k v ≡ None) × AreFit ks vs

counted_so : (t : Bool) (m : Option Misfit) → cond t m other_kind ≡ None → m ≡ None
counted_so true m h = h
counted_so false m h = some_none h

are_fit : (i : ℕ) {n : _} (row : Row_of-Member n) (vs : List Value) → row_misfit i row (Some vs) ≡ None → AreFit (kinds_of (items-the_row-Member n row)) vs
are_fit i end_of-Member [] h = tt
are_fit i end_of-Member (v ∷ vs) h = some_none h
are_fit i (more_of-Member name offset kind rest) [] h = some_none h
are_fit i (more_of-Member name offset kind rest) (v ∷ vs) h =
    let two = or_none (misfit_in (way.Part i) (value_misfit kind v)) (row_misfit (suc i) rest (Some vs)) (counted_so (same_length rest vs) _ h) in
    (in_none (way.Part i) (value_misfit kind v) two.0, are_fit (suc i) rest vs two.1)

as_long : {n : _} (row : Row_of-Member n) (vs : List Value) → AreFit (kinds_of (items-the_row-Member n row)) vs → same_length row vs ≡ true
as_long end_of-Member [] h = refl
as_long end_of-Member (v ∷ vs) h = absurd h
as_long (more_of-Member name offset kind rest) [] h = absurd h
as_long (more_of-Member name offset kind rest) (v ∷ vs) h = as_long rest vs h.1

no_misfit : (i : ℕ) {n : _} (row : Row_of-Member n) (vs : List Value) → AreFit (kinds_of (items-the_row-Member n row)) vs → row_misfit i row (Some vs) ≡ None
no_misfit i end_of-Member [] h = refl
no_misfit i end_of-Member (v ∷ vs) h = absurd h
no_misfit i (more_of-Member name offset kind rest) [] h = absurd h
no_misfit i (more_of-Member name offset kind rest) (v ∷ vs) h =
    if_true (same_length rest vs) (or_else (misfit_in (way.Part i) (value_misfit kind v)) (row_misfit (suc i) rest (Some vs))) other_kind (as_long rest vs h.1)
    ∙ none_or _ _ (ap (misfit_in (way.Part i)) h.0) (no_misfit (suc i) rest vs h.1)

pub comp_parts : {n : _} (row : Row_of-Member n) (v : Value) → row_misfit 0 row (member_values v) ≡ None → (vs : List Value) × (v ≡ value.Comp vs) × AreFit (kinds_of (items-the_row-Member n row)) vs
comp_parts row (value.Comp' k r) h = (items-the_row-Value _ r, sym (comp_is k r), are_fit 0 row (items-the_row-Value _ r) h)
comp_parts row (value.Num n) h = some_none h
comp_parts row value.Null h = some_none h
comp_parts row (value.Text t) h = some_none h
comp_parts row (value.Nums es) h = some_none h
comp_parts row (value.Enum n) h = some_none h
comp_parts row (value.Set n) h = some_none h
comp_parts row value.Const h = some_none h
comp_parts row value.Absent h = some_none h

-- the same as of one kind, of a composite whose members have these kinds
pub record FittingAll (ks : List Kind) (rule : Rule) : Type 0 where
  pub fits : (v : Value) → Good rule v → ((vs : List Value) × (v ≡ value.Comp vs) × AreFit ks vs) × IsItemForm rule v
  pub good : (vs : List Value) → AreFit ks vs → IsItemForm rule (value.Comp vs) → Good rule (value.Comp vs)

of_members : (n : _) (row : Row_of-Member _) (rule : Rule) → FittingAll (kinds_of (items-the_row-Member _ row)) rule → Fitting (Comp' n row) rule
of_members n row rule all = record {
  fits = λ v g.
      let f = all.fits v g in
      let whole : value_misfit (Comp' n row) (value.Comp f.0.0) ≡ None = ap (λ l. row_misfit 0 row (Some l)) (items_hidden-the_row-Value-0 f.0.0) ∙ no_misfit 0 row f.0.0 f.0.2 in
      (ap (value_misfit (Comp' n row)) f.0.1 ∙ whole, f.1);
  good = λ v h form.
      let p = comp_parts row v h in
      subst (Good rule) (sym p.1) (all.good p.0 p.2 (subst (IsItemForm rule) p.1 form));
}

head_is : {v w : Value} {vs ws : List Value} → v ∷ vs ≡ w ∷ ws → v ≡ w
head_is h = cc

tail_is : {v w : Value} {vs ws : List Value} → v ∷ vs ≡ w ∷ ws → vs ≡ ws
tail_is h = cc

comp_same : (vs ws : List Value) → value.Comp vs ≡ value.Comp ws → vs ≡ ws
comp_same vs ws h = sym (items_hidden-the_row-Value-0 vs) ∙ ap members_in h ∙ items_hidden-the_row-Value-0 ws

pub pair_is : (a b c d : Value) → a ≡ c → b ≡ d → value.Comp (a ∷ b ∷ []) ≡ value.Comp (c ∷ d ∷ [])
pair_is a b c d p q = ap (λ x. value.Comp (x ∷ b ∷ [])) p ∙ ap (λ y. value.Comp (c ∷ y ∷ [])) q

-- a single number's value as one of a member
abbrev pub IsSingle : LeafOf → Type 0
IsSingle leaf = leaf.shape ≡ Number

num_fit : (leaf : LeafOf) (n : ℤ) → IsSingle leaf → is_value leaf n ≡ true → value_misfit (Leaf leaf) (value.Num n) ≡ None
num_fit leaf n is h = leaf_is leaf (value.Num n) is ∙ number_fits leaf n h

null_fit : (leaf : LeafOf) → IsSingle leaf → is_optional leaf.presence ≡ true → value_misfit (Leaf leaf) value.Null ≡ None
null_fit leaf is h = leaf_is leaf value.Null is ∙ null_fits leaf h

low_low : (z : ℤ) → int_le z z ≡ true
low_low z = grind (arith, ints, nat_tests)

-- an admitted number of a leaf that isn't optional is one of its values
plain_value : (leaf : LeafOf) (z : ℤ) → is_optional leaf.presence ≡ false → admits leaf z ≡ true → is_value leaf z ≡ true
plain_value leaf z plain h = and_so (not (is_null leaf z)) (admits leaf z) (ap (λ o. not ((o && not (is_octets leaf.shape)) && int_eq z leaf.null)) plain) h

-- 0, or the least number
abbrev least : LeafOf → ℤ
least leaf = cond (admits leaf (pos 0)) (pos 0) leaf.low

least_fit : (leaf : LeafOf) → IsSingle leaf → IsLeafFrom 1 leaf → value_misfit (Leaf leaf) (least_or_null leaf) ≡ None
least_fit leaf is facts = elim (either (is_optional leaf.presence)) [
  | inl t ↦ ap (value_misfit (Leaf leaf)) (if_true (is_optional leaf.presence) value.Null (value.Num (least leaf)) t) ∙ null_fit leaf is t
  | inr f ↦ ap (value_misfit (Leaf leaf)) (if_false (is_optional leaf.presence) value.Null (value.Num (least leaf)) f) ∙ num_fit leaf (least leaf) is (plain_value leaf (least leaf) f (admitted (either (admits leaf (pos 0)))))
]
  where
    admitted : (admits leaf (pos 0) ≡ true) ⊎ (admits leaf (pos 0) ≡ false) → admits leaf (least leaf) ≡ true
    admitted (inl t) = ap (admits leaf) (if_true (admits leaf (pos 0)) (pos 0) leaf.low t) ∙ t
    admitted (inr f) = ap (admits leaf) (if_false (admits leaf (pos 0)) (pos 0) leaf.low f) ∙ and_so (int_le leaf.low leaf.low) (int_le leaf.low leaf.high) (low_low leaf.low) facts.range

pub of_fixed : (m : LeafOf) (e : ℤ) → IsSingle m → FittingAll (Leaf m ∷ Const (const.Num e) ∷ []) (fixed_decimal m e)
of_fixed m e is = record {
  fits = λ v good. elim good [
    | inl g ↦ ((value.Num g.0 ∷ value.Const ∷ [], g.1, (num_fit m g.0 is g.2, (refl, tt))), tt)
    | inr g ↦ ((value.Null ∷ value.Const ∷ [], g.0, (null_fit m is g.1, (refl, tt))), tt)
  ];
  good = λ vs h form. back vs h;
}
  where
    back : (vs : List Value) → AreFit (Leaf m ∷ Const (const.Num e) ∷ []) vs → Good (fixed_decimal m e) (value.Comp vs)
    back [] h = absurd h
    back (a ∷ []) h = absurd h.1
    back (a ∷ b ∷ c ∷ vs) h = absurd h.1.1
    back (a ∷ b ∷ []) h = elim (number_or m a (sym (leaf_is m a is) ∙ h.0)) [
      | inl g ↦ inl (g.0, pair_is a b (value.Num g.0) value.Const g.1 (const_only b h.1.0), g.2)
      | inr g ↦ inr (pair_is a b value.Null value.Const g.0 (const_only b h.1.0), g.1)
    ]

pub of_floating : (m e : LeafOf) → IsSingle m → IsSingle e → IsLeafFrom 1 e → FittingAll (Leaf m ∷ Leaf e ∷ []) (floating_decimal m e)
of_floating m e is so facts = record {
  fits = λ v good. elim good [
    | inl g ↦ (
      (value.Num g.number.mantissa ∷ value.Num g.number.exponent ∷ [], g.is, (num_fit m g.number.mantissa is g.of_mantissa, (num_fit e g.number.exponent so g.of_exponent, tt))),
      inr (g.number, g.is, g.reduced),
    )
    | inr g ↦ ((value.Null ∷ least_or_null e ∷ [], g.0, (null_fit m is g.1, (least_fit e so facts, tt))), inl g.0)
  ];
  good = λ vs h form. back vs h form;
}
  where
    back : (vs : List Value) → AreFit (Leaf m ∷ Leaf e ∷ []) vs → IsItemForm (floating_decimal m e) (value.Comp vs) → Good (floating_decimal m e) (value.Comp vs)
    back [] h form = absurd h
    back (a ∷ []) h form = absurd h.1
    back (a ∷ b ∷ c ∷ vs) h form = absurd h.1.1
    back (a ∷ b ∷ []) h form = elim form [
      | inl p ↦ inr (p, null_value m a (head_is (comp_same (a ∷ b ∷ []) (value.Null ∷ least_or_null e ∷ []) p)) (sym (leaf_is m a is) ∙ h.0))
      | inr p ↦
          let parts = comp_same (a ∷ b ∷ []) (value.Num p.0.mantissa ∷ value.Num p.0.exponent ∷ []) p.1 in
          inl (record {
            number = p.0;
            is = p.1;
            of_mantissa = num_value m p.0.mantissa a (head_is parts) (sym (leaf_is m a is) ∙ h.0);
            of_exponent = num_value e p.0.exponent b (head_is (tail_is parts)) (sym (leaf_is e b so) ∙ h.1.0);
            reduced = p.2;
          })
    ]

pub of_counted : (from : From) (time : LeafOf) (c : ConstValue) (u : ℕ) → IsSingle time → FittingAll (Leaf time ∷ Const c ∷ []) (moment from time (always u))
of_counted from time c u is = record {
  fits = λ v good. elim good [
    | inl g ↦ ((value.Num g.0.count ∷ value.Const ∷ [], g.1, (num_fit time g.0.count is (and_first (is_value time g.0.count) _ g.2), (refl, tt))), tt)
    | inr g ↦ ((value.Null ∷ value.Const ∷ [], g.0, (null_fit time is g.1, (refl, tt))), tt)
  ];
  good = λ vs h form. back vs h;
}
  where
    back : (vs : List Value) → AreFit (Leaf time ∷ Const c ∷ []) vs → Good (moment from time (always u)) (value.Comp vs)
    back [] h = absurd h
    back (a ∷ []) h = absurd h.1
    back (a ∷ b ∷ c ∷ vs) h = absurd h.1.1
    back (a ∷ b ∷ []) h = elim (number_or time a (sym (leaf_is time a is) ∙ h.0)) [
      | inl g ↦ inl (record { count = g.0; unit = u }, pair_is a b (value.Num g.0) value.Const g.1 (const_only b h.1.0), and_so (is_value time g.0) (u == u) g.2 (same_self u))
      | inr g ↦ inr (pair_is a b value.Null value.Const g.0 (const_only b h.1.0), g.1)
    ]

pub of_wired : (from : From) (time unit : LeafOf) → IsSingle time → IsSingle unit → IsLeafFrom 1 unit → FittingAll (Leaf time ∷ Leaf unit ∷ []) (moment from time (on_wire unit))
of_wired from time unit is so facts = record {
  fits = λ v good. elim good [
    | inl g ↦
        let tests = and_second (is_value time g.0.count) _ g.2 in (
          (
            value.Num g.0.count ∷ value.Num (pos g.0.unit) ∷ [],
            g.1,
            (num_fit time g.0.count is (and_first (is_value time g.0.count) _ g.2), (num_fit unit (pos g.0.unit) so (and_first (is_value unit (pos g.0.unit)) _ tests), tt)),
          ),
          inr (g.0, g.1, and_second (is_value unit (pos g.0.unit)) _ tests),
        )
    | inr g ↦ ((value.Null ∷ least_or_null unit ∷ [], g.0, (null_fit time is g.1, (least_fit unit so facts, tt))), inl g.0)
  ];
  good = λ vs h form. back vs h form;
}
  where
    back : (vs : List Value) → AreFit (Leaf time ∷ Leaf unit ∷ []) vs → IsItemForm (moment from time (on_wire unit)) (value.Comp vs) → Good (moment from time (on_wire unit)) (value.Comp vs)
    back [] h form = absurd h
    back (a ∷ []) h form = absurd h.1
    back (a ∷ b ∷ c ∷ vs) h form = absurd h.1.1
    back (a ∷ b ∷ []) h form = elim form [
      | inl p ↦ inr (p, null_value time a (head_is (comp_same (a ∷ b ∷ []) (value.Null ∷ least_or_null unit ∷ []) p)) (sym (leaf_is time a is) ∙ h.0))
      | inr p ↦
          let parts = comp_same (a ∷ b ∷ []) (value.Num p.0.count ∷ value.Num (pos p.0.unit) ∷ []) p.1 in
          inl (
            p.0,
            p.1,
            and_so (is_value time p.0.count) _ (num_value time p.0.count a (head_is parts) (sym (leaf_is time a is) ∙ h.0))
                (and_so (is_value unit (pos p.0.unit)) _ (num_value unit (pos p.0.unit) b (head_is (tail_is parts)) (sym (leaf_is unit b so) ∙ h.1.0)) p.2),
          )
    ]

maybe_fit : (leaf : LeafOf) (o : Option ℤ) → IsSingle leaf → is_value_or_none leaf o ≡ true → value_misfit (Leaf leaf) (number_or_null o) ≡ None
maybe_fit leaf None is h = null_fit leaf is h
maybe_fit leaf (Some n) is h = num_fit leaf n is h

maybe_value : (leaf : LeafOf) (o : Option ℤ) (v : Value) → IsSingle leaf → v ≡ number_or_null o → value_misfit (Leaf leaf) v ≡ None → is_value_or_none leaf o ≡ true
maybe_value leaf None v is same h = null_value leaf v same (sym (leaf_is leaf v is) ∙ h)
maybe_value leaf (Some n) v is same h = num_value leaf n v same (sym (leaf_is leaf v is) ∙ h)

-- the leaves of a month are single numbers in order
pub record AreSingle (y m d w : LeafOf) : Type 0 where
  pub year : IsSingle y
  pub month : IsSingle m
  pub day : IsSingle d
  pub week : IsSingle w
  pub least_month : IsLeafFrom 1 m
  pub least_day : IsLeafFrom 1 d
  pub least_week : IsLeafFrom 1 w

pub of_month : (y m d w : LeafOf) → AreSingle y m d w → FittingAll (Leaf y ∷ Leaf m ∷ Leaf d ∷ Leaf w ∷ []) (month_year (record { year = y; month = m; day = d; week = w }))
of_month y m d w are = record {
  fits = λ v good. elim good [
    | inl g ↦
        let x = g.0 in
        let after_year = and_second (is_value y x.year) _ g.2 in
        let after_month = and_second (is_value m x.month) _ after_year in (
          (
            value.Num x.year ∷ value.Num x.month ∷ number_or_null x.day ∷ number_or_null x.week ∷ [],
            g.1,
            (
              num_fit y x.year are.year (and_first (is_value y x.year) _ g.2),
              (
                num_fit m x.month are.month (and_first (is_value m x.month) _ after_year),
                (maybe_fit d x.day are.day (and_first (is_value_or_none d x.day) _ after_month), (maybe_fit w x.week are.week (and_second (is_value_or_none d x.day) _ after_month), tt)),
              ),
            ),
          ),
          inr (x, g.1),
        )
    | inr g ↦ (
      (
        value.Null ∷ least_or_null m ∷ least_or_null d ∷ least_or_null w ∷ [],
        g.0,
        (null_fit y are.year g.1, (least_fit m are.month are.least_month, (least_fit d are.day are.least_day, (least_fit w are.week are.least_week, tt)))),
      ),
      inl g.0,
    )
  ];
  good = λ vs h form. back vs h form;
}
  where
    back : (vs : List Value) → AreFit (Leaf y ∷ Leaf m ∷ Leaf d ∷ Leaf w ∷ []) vs → IsItemForm (month_year (record { year = y; month = m; day = d; week = w })) (value.Comp vs) →
        Good (month_year (record { year = y; month = m; day = d; week = w })) (value.Comp vs)
    back [] h form = absurd h
    back (a ∷ []) h form = absurd h.1
    back (a ∷ b ∷ []) h form = absurd h.1.1
    back (a ∷ b ∷ c ∷ []) h form = absurd h.1.1.1
    back (a ∷ b ∷ c ∷ e ∷ f ∷ vs) h form = absurd h.1.1.1.1
    back (a ∷ b ∷ c ∷ e ∷ []) h form = elim form [
      | inl p ↦
          inr (p, null_value y a (head_is (comp_same (a ∷ b ∷ c ∷ e ∷ []) (value.Null ∷ least_or_null m ∷ least_or_null d ∷ least_or_null w ∷ []) p)) (sym (leaf_is y a are.year) ∙ h.0))
      | inr p ↦
          let x = p.0 in
          let parts = comp_same (a ∷ b ∷ c ∷ e ∷ []) (value.Num x.year ∷ value.Num x.month ∷ number_or_null x.day ∷ number_or_null x.week ∷ []) p.1 in
          inl (
            x,
            p.1,
            and_so (is_value y x.year) _ (num_value y x.year a (head_is parts) (sym (leaf_is y a are.year) ∙ h.0))
                (and_so (is_value m x.month) _ (num_value m x.month b (head_is (tail_is parts)) (sym (leaf_is m b are.month) ∙ h.1.0))
                (and_so (is_value_or_none d x.day) _ (maybe_value d x.day c are.day (head_is (tail_is (tail_is parts))) h.1.1.0)
                (maybe_value w x.week e are.week (head_is (tail_is (tail_is (tail_is parts)))) h.1.1.1.0))),
          )
    ]

pub byte_shape : (leaf : LeafOf) → is_single_byte leaf ≡ true → leaf.shape ≡ Number
byte_shape leaf h = number_is leaf.shape (and_first (is_number leaf.shape) _ h)

pub part_shape : (leaf : LeafOf) → is_optional_byte leaf ≡ true → leaf.shape ≡ Number
part_shape leaf h = byte_shape leaf (and_first (is_single_byte leaf) _ h)

-- the rule of a composite, where its members' kinds are in order
of_composite : OfComposite (λ ks rule. AreKinds ks → FittingAll ks rule)
of_composite = record {
  fixed = λ m e is all. of_fixed m e (integer_shape m is);
  floating = λ m e is so all. of_floating m e (integer_shape m is) (integer_shape e so) all.1.0;
  counted = λ from time c u is unit all. of_counted from time c u (integer_shape time is);
  wired = λ from time unit is so all. of_wired from time unit (integer_shape time is) (byte_shape unit so) all.1.0;
  month = λ y m d w is so day week all.
      of_month y m d w (record {
        year = integer_shape y is;
        month = integer_shape m so;
        day = part_shape d day;
        week = part_shape w week;
        least_month = all.1.0;
        least_day = all.1.1.0;
        least_week = all.1.1.1.0;
      });
}

-- ---- the table

pub rule_fitting : (k : Kind) (d : Datatype) (rule : Rule) → IsKindFrom 1 k → rule_of k d ≡ Some rule → Fitting k rule
rule_fitting (Leaf l) d rule facts h = leaf_cases (Fitting (Leaf l)) l (of_leaf l facts) d rule h
rule_fitting (Enum l names) d rule facts h = enum_cases (Fitting (Enum l names)) l names (of_enum l names) d rule h
rule_fitting (Set p names) d rule facts h = set_cases (Fitting (Set p names)) names (of_set p names) d rule h
rule_fitting (Const c) d rule facts h = const_cases (Fitting (Const c)) (λ inner own repeats. of_constant c inner own) c d rule h
rule_fitting (Comp' n members) d rule facts h =
    of_members n members rule (composite_cases (λ ks rule. AreKinds ks → FittingAll ks rule) of_composite (items-the_row-Member _ members) d rule h (members_are members facts.kinds))

pub good_is_fitting : (order : Order) (k : Kind) (d : Datatype) (rule : Rule) (v : Value) → IsKindFrom 1 k → IsPlacedKind k → IsWritableKind k → rule_of k d ≡ Some rule →
    Good rule v ↔ (FitsKind order k v × IsItemForm rule v)
good_is_fitting order k d rule v facts placed writable h =
    let fitting = rule_fitting k d rule facts h in (
      λ good. let is = fitting.fits v good in (kind_fits order k placed writable v is.0, is.1),
      λ fits. fitting.good v (fits_good order k v fits.0) fits.1,
    )
