-- Each other rule keeps what the laws of messages ask.
use Rattle.std.proofs.Common.{◌≡◌, ◌⊎◌, inl, inr, ℕ, ◌^◌, ◌<◌, Bool, true, false, cond, List, [], ◌∷◌, length, Option, Some, None, Result, Ok, Err, refl, sym, ap, ◌∙◌, subst, ℤ, pos}
use Rattle.std.specs.Prelude.{◌&&◌, ◌||◌, ◌==◌, not, unsigned_abs, find}
use Rattle.std.specs.Ordering.{int_eq}
use Rattle.std.proofs.lemmas.Bool.{eqb-true}
use Rattle.std.proofs.lemmas.Bool.Decides.{Decides-int_eq}
use Rattle.std.proofs.lemmas.Slice.Eq.{bytes_eq-Decides}
use Rattle.sbe_types.specs.declared.kind.Leaf.{Leaf as LeafOf}
use Rattle.sbe_types.specs.declared.kind.Named.{Named}
use Rattle.sbe_types.specs.declared.message.Value.{Value, items_hidden-the_row-Value-0}
use Rattle.sbe_types.specs.declared.message.Value as value
use Rattle.sbe_types.specs.Numbers.{natural}
use Rattle.sbe_types.specs.Shown.{is_optional, admits, is_listed, is_null}
use Rattle.fix_values.specs.declared.rule.V.{V}
use Rattle.fix_values.specs.declared.rule.V.TheVariants as why
use Rattle.fix_values.specs.declared.rule.Dec.{Dec}
use Rattle.fix_values.specs.declared.rule.Code.{Code}
use Rattle.fix_values.specs.Numerals.{integer_of, is_value}
use Rattle.fix_values.specs.Decimals.{dec, decimal_of, leaf_number, mantissa_under, IsReduced, SameFraction}
use Rattle.fix_values.specs.Codes.{is_apart, same_truth, boolean_text, boolean_shown, boolean_number, truth_number, truth_text, is_truth, named_number, code_text, code_number, has_soh}
use Rattle.fix_values.specs.Values.{char_value, whole_value}
use Rattle.fix_dates.specs.declared.month.MonthYear.{MonthYear}
use Rattle.date_answers.specs.Answers.{day_read, month_read}
use Rattle.value_laws.proofs.Fractions.{fit_same, fit_only, turned, one_form}
use Rattle.value_laws.proofs.Reduced.{read_reduced, same_through}
use Rattle.value_laws.proofs.ReadBack.{code_back, boolean_back}
use Rattle.bridge_rules.specs.Rules.{Rule, integer_decimal, floating_decimal, single_char, enum_number, enum_boolean, text_data, day_count, month_year, any_text, constant, MonthLeaves}
use Rattle.bridge_rules.specs.Values.{Misread, not_the_constant, value_by, value_in, missing_by, is_given, value_from, mantissa_of, floating_value, least_or_null, month_admitted, is_month_of, null_month, if_constant, bytes_admitted}
use Rattle.bridge_rules.specs.Items.{Item, number, bytes, written_number, on_day, in_month, item_by, item_in, item_of_text, number_item, decimal_item, reduced_form, code_item, digit_or_number, written_number_item, item_of_read}
use Rattle.bridge_rules.specs.Good.{Good}
use Rattle.bridge_rules.specs.Members.{and_then, number_in, two_members, month_value, number_or_null, same_value}
use Rattle.bridge_rules.specs.Texts.{decimal_in_types}
use Rattle.bridge_rules.specs.Sound.{IsSound, AreCodes}
use Rattle.bridge_rules.specs.Bounds.{IsNarrow, IsUnsigned, AreWrittenNumbers}
use Rattle.bridge_rules.proofs.OptionLemmas.{some_is, none_some, some_none, ok_is, and_then_is, if_some, and_first, and_second}
use Rattle.bridge_rules.proofs.BoolLemmas.{true_false, either, or_left, or_right, not_true, if_true, if_false}
use Rattle.bridge_rules.proofs.CodeRules.{code_forth, coded_is, code_some, long_is, long_so}
use Rattle.bridge_rules.proofs.PlainRules.{err_ok, number_is, bytes_is, given_ok, given_value, given_item, item_given, made_is, judged_is, judged_so, mantissa_given, decimal_given}
use Rattle.bridge_rules.proofs.ReducedForms.{form_same, form_reduced}

-- what a rule of one kind of things keeps: things that fit are made into values, and another value stands for none
pub record Keeps {X : Type 0} (rule : Rule) (make : X → Value) (Fits : X → Type 0) (null : Value) (optional : Bool) : Type 0 where
  pub read : (t : List ℕ) (v : Value) → is_given rule t ≡ true → value_in rule t ≡ Ok v →
      (x : X) × (v ≡ make x) × Fits x × ((item : Item) × (item_of_text rule t ≡ Some item) × (item_by rule (make x) ≡ Some item))
  pub found : (t : List ℕ) (x : X) (item : Item) → is_given rule t ≡ true → Fits x → item_of_text rule t ≡ Some item → item_by rule (make x) ≡ Some item → value_in rule t ≡ Ok (make x)
  pub some : (x : X) → Fits x → item_by rule (make x) ≡ None → ⊥
  pub none : item_by rule null ≡ None
  pub missing : missing_by rule ≡ cond optional (Some null) None
  pub parted : (v : Value) → Good rule v → ((x : X) × (v ≡ make x) × Fits x) ⊎ ((v ≡ null) × (optional ≡ true))
  pub joined : (v : Value) → ((x : X) × (v ≡ make x) × Fits x) ⊎ ((v ≡ null) × (optional ≡ true)) → Good rule v

pub kept_sound : {X : Type 0} {rule : Rule} {make : X → Value} {Fits : X → Type 0} {null : Value} {optional : Bool} → Keeps rule make Fits null optional → IsSound rule
kept_sound {X} {rule} {make} {Fits} {null} {optional} k = record {
  read = λ t v h.
      let given = given_ok rule t v h in
      let is = k.read t v given.0 given.1 in
      (k.joined v (inl (is.0, is.1, is.2)), (is.3.0, given_item rule t given.0 ∙ is.3.1, ap (item_by rule) is.1 ∙ is.3.2));
  found = λ t v item good told same. found t v item good told same;
  missed = λ v h.
      let is = if_some optional (Some null) v (sym k.missing ∙ h) in
      (k.joined v (inr (sym (some_is is.1), is.0)), ap (item_by rule) (sym (some_is is.1)) ∙ k.none);
  lacking = λ v good none. elim (k.parted v good) [
    | inl g ↦ absurd (k.some g.0 g.2 (sym (ap (item_by rule) g.1) ∙ none))
    | inr g ↦ k.missing ∙ if_true optional (Some null) None g.1 ∙ ap Some (sym g.0)
  ];
}
  where
    found : (t : List ℕ) (v : Value) (item : Item) → Good rule v → item_in rule t ≡ Some item → item_by rule v ≡ Some item → value_by rule t ≡ Ok v
    found t v item good told same = elim (k.parted v good) [
      | inl g ↦
          let given = item_given rule t item told in
          given_value rule t v given.0 (k.found t g.0 item given.0 g.2 given.1 (sym (ap (item_by rule) g.1) ∙ same) ∙ ap Ok (sym g.1))
      | inr g ↦ none_some (sym (ap (item_by rule) g.0 ∙ k.none) ∙ same)
    ]

pub some_never : {X : Type 0} {x : X} → ◌≡◌ {A = Option X} (Some x) None → ⊥
some_never h = some_none h

-- ---- constants

same_value_is : (own v : Value) → same_value own v ≡ true → own ≡ v
same_value_is (value.Num m) (value.Num n) h = ap value.Num ((Decides-int_eq m n).0 h)
same_value_is (value.Num m) (value.Enum n) h = true_false h refl
same_value_is (value.Num m) (value.Text t) h = true_false h refl
same_value_is (value.Num m) (value.Nums es) h = true_false h refl
same_value_is (value.Num m) (value.Set n) h = true_false h refl
same_value_is (value.Num m) (value.Comp' k row) h = true_false h refl
same_value_is (value.Num m) value.Null h = true_false h refl
same_value_is (value.Num m) value.Const h = true_false h refl
same_value_is (value.Num m) value.Absent h = true_false h refl
same_value_is (value.Enum m) (value.Num n) h = true_false h refl
same_value_is (value.Enum m) (value.Enum n) h = ap value.Enum ((Decides-int_eq m n).0 h)
same_value_is (value.Enum m) (value.Text t) h = true_false h refl
same_value_is (value.Enum m) (value.Nums es) h = true_false h refl
same_value_is (value.Enum m) (value.Set n) h = true_false h refl
same_value_is (value.Enum m) (value.Comp' k row) h = true_false h refl
same_value_is (value.Enum m) value.Null h = true_false h refl
same_value_is (value.Enum m) value.Const h = true_false h refl
same_value_is (value.Enum m) value.Absent h = true_false h refl
same_value_is (value.Text s) (value.Num n) h = true_false h refl
same_value_is (value.Text s) (value.Enum n) h = true_false h refl
same_value_is (value.Text s) (value.Text t) h = ap value.Text ((bytes_eq-Decides s t).0 h)
same_value_is (value.Text s) (value.Nums es) h = true_false h refl
same_value_is (value.Text s) (value.Set n) h = true_false h refl
same_value_is (value.Text s) (value.Comp' k row) h = true_false h refl
same_value_is (value.Text s) value.Null h = true_false h refl
same_value_is (value.Text s) value.Const h = true_false h refl
same_value_is (value.Text s) value.Absent h = true_false h refl
same_value_is (value.Nums es) v h = true_false h refl
same_value_is (value.Set n) v h = true_false h refl
same_value_is (value.Comp' k row) v h = true_false h refl
same_value_is value.Null v h = true_false h refl
same_value_is value.Const v h = true_false h refl
same_value_is value.Absent v h = true_false h refl

pub compared_is : (own : Value) (r : Result Value Misread) (v : Value) → if_constant own r ≡ Ok v → (r ≡ Ok own) × (v ≡ value.Const)
compared_is own (Err w) v h = err_ok h
compared_is own (Ok w) v h = by_test (same_value own w) refl h
  where
    by_test : (t : Bool) → same_value own w ≡ t → ◌≡◌ {A = Result Value Misread} (cond t (Ok value.Const) (Err not_the_constant)) (Ok v) → (◌≡◌ {A = Result Value Misread} (Ok w) (Ok own)) × (v ≡ value.Const)
    by_test true is k = (ap Ok (sym (same_value_is own w is)), sym (ok_is k))
    by_test false is k = err_ok k

-- a constant, where its own value is one of its rule's and has an item
pub constant_sound : (rule : Rule) (own : Value) (item : Item) → IsSound rule → Good rule own → item_by rule own ≡ Some item → same_value own own ≡ true → IsSound (constant rule own)
constant_sound rule own item sound good has same = record {
  read = λ t v h.
      let given = given_ok (constant rule own) t v h in
      let is = compared_is own (value_in rule t) v given.1 in
      let read = sound.read t own (given_value rule t own (inner_given t given.0) is.0) in
      (is.1, (read.1.0, given_item (constant rule own) t given.0 ∙ sym (given_item rule t (inner_given t given.0)) ∙ read.1.1, ap (item_by (constant rule own)) is.1 ∙ read.1.2));
  found = λ t v other const told is.
      let given = item_given (constant rule own) t other told in
      let inner = inner_given t given.0 in
      let mine : item_by rule own ≡ Some other = sym (ap (item_by (constant rule own)) const) ∙ is in
      let read = given_ok rule t own (sound.found t own other good (given_item rule t inner ∙ given.1) mine) in
      given_value (constant rule own) t v given.0
      (ap (if_constant own) read.1 ∙ if_true (same_value own own) (Ok value.Const) (Err not_the_constant) same ∙ ap Ok (sym const));
  missed = λ v h. none_some h;
  lacking = λ v const none. none_some (sym none ∙ ap (item_by (constant rule own)) const ∙ has);
}
  where
    inner_given : (t : List ℕ) → is_given (constant rule own) t ≡ true → is_given rule t ≡ true
    inner_given [] h = h
    inner_given (b ∷ bs) h = h

-- ---- any text

pub any_text_sound : IsSound any_text
any_text_sound = record {
  read = λ t v h.
      let given = given_ok any_text t v h in
      let is : v ≡ value.Text t = sym (ok_is given.1) in
      ((t, is), (bytes t, given_item any_text t given.0, ap (item_by any_text) is));
  found = λ t v item good told same.
      let given = item_given any_text t item told in
      let t_is : good.0 ≡ t = bytes_is (some_is (sym (ap (item_by any_text) good.1) ∙ same ∙ sym given.1)) in
      given_value any_text t v given.0 (ap (λ s. Ok (value.Text s)) (sym t_is) ∙ ap Ok (sym good.1));
  missed = λ v h. none_some h;
  lacking = λ v good none. some_none (sym (ap (item_by any_text) good.1) ∙ none);
}

-- ---- characters

pub char_is : (leaf : LeafOf) (t : List ℕ) (n : ℤ) → char_value leaf t ≡ Ok n → (t ≡ natural n ∷ []) × (is_value leaf n ≡ true)
char_is leaf [] n h = err_ok h
char_is leaf (b ∷ []) n h =
    let is = judged_is leaf (Ok (pos b)) n h in
    (ap (λ z. natural z ∷ []) (ok_is is.0), is.1)
char_is leaf (b ∷ c ∷ bs) n h = err_ok h

pub single_char_sound : (leaf : LeafOf) → IsUnsigned leaf → IsSound (single_char leaf)
single_char_sound leaf bytewise = kept_sound {X = ℤ} {make = value.Num} {Fits = λ n. is_value leaf n ≡ true} {null = value.Null} {optional = is_optional leaf.presence} (record {
  read = λ t v given h.
      let is = made_is value.Num (char_value leaf t) v h in
      let char = char_is leaf t is.0 is.1 in
      (is.0, is.2, char.1, (bytes t, refl, ap (λ s. Some (bytes s)) (sym char.0)));
  found = λ t n item given fits told same.
      let t_is : t ≡ natural n ∷ [] = bytes_is (some_is (told ∙ sym same)) in
      ap (λ s. value_from value.Num (char_value leaf s)) t_is
      ∙ ap (value_from value.Num) (judged_so leaf (Ok (pos (natural n))) n (ap Ok (sym (bytewise n fits))) fits);
  some = λ n fits none. some_never none;
  none = refl;
  missing = refl;
  parted = λ v good. good;
  joined = λ v good. good;
})

-- ---- decimals

scaled_read : (leaf : LeafOf) (e : ℤ) → IsNarrow leaf → (t : List ℕ) (n : ℤ) → mantissa_of leaf e (decimal_of t) ≡ Ok n →
    (is_value leaf n ≡ true) × ((d : Dec) × (decimal_of t ≡ Ok d) × (reduced_form (dec n e) ≡ d))
scaled_read leaf e narrow t n h =
    let d = mantissa_given leaf e (decimal_of t) n h in
    let fits = judged_is leaf (mantissa_under d.0 e) n d.2 in (
      fits.1,
      (
        d.0,
        d.1,
        one_form (reduced_form (dec n e)) d.0 (form_reduced n e (narrow n fits.1)) (read_reduced t d.0 d.1)
            (same_through (dec n e) (reduced_form (dec n e)) d.0 (turned (form_same n e)) (fit_same d.0 e n fits.0)),
      ),
    )

scaled_found : (leaf : LeafOf) (e : ℤ) (t : List ℕ) (n : ℤ) (item : Item) → is_value leaf n ≡ true → decimal_item (decimal_of t) ≡ Some item → number_item n e ≡ Some item → mantissa_of leaf e (decimal_of t) ≡ Ok n
scaled_found leaf e t n item fits told same =
    let d = decimal_given (decimal_of t) item told in
    let form : reduced_form (dec n e) ≡ d.0 = number_is (some_is same ∙ sym d.2) in
    let under : mantissa_under d.0 e ≡ Ok n = fit_only d.0 e n (turned (subst (λ x. SameFraction x (dec n e)) form (form_same n e))) in
    ap (mantissa_of leaf e) d.1 ∙ judged_so leaf (mantissa_under d.0 e) n under fits

whole_is : (leaf : LeafOf) (r : Result Dec V) → whole_value leaf r ≡ mantissa_of leaf (pos 0) r
whole_is leaf (Ok d) = refl
whole_is leaf (Err v) = refl

pub integer_decimal_sound : (leaf : LeafOf) → IsNarrow leaf → IsSound (integer_decimal leaf)
integer_decimal_sound leaf narrow = kept_sound {X = ℤ} {make = value.Num} {Fits = λ n. is_value leaf n ≡ true} {null = value.Null} {optional = is_optional leaf.presence} (record {
  read = λ t v given h.
      let is = made_is value.Num (whole_value leaf (decimal_of t)) v h in
      let scaled = scaled_read leaf (pos 0) narrow t is.0 (sym (whole_is leaf (decimal_of t)) ∙ is.1) in
      (is.0, is.2, scaled.0, (number scaled.1.0, ap decimal_item scaled.1.1, ap (λ d. Some (number d)) scaled.1.2));
  found = λ t n item given fits told same. ap (value_from value.Num) (whole_is leaf (decimal_of t) ∙ scaled_found leaf (pos 0) t n item fits told same);
  some = λ n fits none. some_never none;
  none = refl;
  missing = refl;
  parted = λ v good. good;
  joined = λ v good. good;
})

-- the number of a decimal that is its own form
own_form : (d : Dec) → unsigned_abs d.mantissa < 10 ^ 39 → IsReduced d → reduced_form d ≡ d
own_form d few reduced = one_form (reduced_form d) d (form_reduced d.mantissa d.exponent few) reduced (form_same d.mantissa d.exponent)

pub floated_is : (m e : LeafOf) (r : Result Dec V) (d : Dec) → decimal_in_types m e r ≡ Ok d → (r ≡ Ok d) × (is_value m d.mantissa ≡ true) × (is_value e d.exponent ≡ true)
floated_is m e (Err v) d h = err_ok h
floated_is m e (Ok x) d h = by_test (is_value m x.mantissa && is_value e x.exponent) refl h
  where
    by_test : (t : Bool) → (is_value m x.mantissa && is_value e x.exponent) ≡ t → ◌≡◌ {A = Result Dec V} (cond t (Ok x) (Err why.Range)) (Ok d) →
        (◌≡◌ {A = Result Dec V} (Ok x) (Ok d)) × (is_value m d.mantissa ≡ true) × (is_value e d.exponent ≡ true)
    by_test true is k =
        (k, ap (λ y. is_value m y.mantissa) (sym (ok_is k)) ∙ and_first _ _ is, ap (λ y. is_value e y.exponent) (sym (ok_is k)) ∙ and_second (is_value m x.mantissa) _ is)
    by_test false is k = err_ok k

pub floated_so : (m e : LeafOf) (d : Dec) → is_value m d.mantissa ≡ true → is_value e d.exponent ≡ true → decimal_in_types m e (Ok d) ≡ Ok d
floated_so m e d first second = if_true (is_value m d.mantissa && is_value e d.exponent) (Ok d) (Err why.Range) (ap (λ b. b && is_value e d.exponent) first ∙ second)

pub floating_is : (m e : LeafOf) (d : Dec) → item_by (floating_decimal m e) (floating_value d) ≡ number_item d.mantissa d.exponent
floating_is m e d = simp items_hidden-the_row-Value-0

-- a decimal that fits, in the one form of its fraction
pub record FitsFloating (mantissa exponent : LeafOf) (d : Dec) : Type 0 where
  pub of_mantissa : is_value mantissa d.mantissa ≡ true
  pub of_exponent : is_value exponent d.exponent ≡ true
  pub reduced : IsReduced d

pub floating_decimal_sound : (m e : LeafOf) → IsNarrow m → IsSound (floating_decimal m e)
floating_decimal_sound m e narrow = kept_sound {X = Dec} {make = floating_value} {Fits = FitsFloating m e} {null = two_members value.Null (least_or_null e)} {optional = is_optional m.presence} (record {
  read = λ t v given h.
      let is = made_is floating_value (decimal_in_types m e (decimal_of t)) v h in
      let d = floated_is m e (decimal_of t) is.0 is.1 in
      let reduced = read_reduced t is.0 d.0 in
      (is.0, is.2, record { of_mantissa = d.1; of_exponent = d.2; reduced = reduced }, (number is.0, ap decimal_item d.0, floating_is m e is.0 ∙ ap (λ x. Some (number x)) (own_form is.0 (narrow is.0.mantissa d.1) reduced)));
  found = λ t d item given fits told same.
      let read = decimal_given (decimal_of t) item told in
      let form : reduced_form d ≡ read.0 = number_is (some_is (sym (floating_is m e d) ∙ same) ∙ sym read.2) in
      let d_is : decimal_of t ≡ Ok d = read.1 ∙ ap Ok (sym form ∙ own_form d (narrow d.mantissa fits.of_mantissa) fits.reduced) in
      ap (λ r. value_from floating_value (decimal_in_types m e r)) d_is ∙ ap (value_from floating_value) (floated_so m e d fits.of_mantissa fits.of_exponent);
  some = λ d fits none. some_never (sym (floating_is m e d) ∙ none);
  none = simp items_hidden-the_row-Value-0;
  missing = refl;
  parted = λ v good. elim good [
    | inl g ↦ inl (g.number, g.is, record { of_mantissa = g.of_mantissa; of_exponent = g.of_exponent; reduced = g.reduced })
    | inr g ↦ inr g
  ];
  joined = λ v good. elim good [
    | inl g ↦ inl (record { number = g.0; is = g.1; of_mantissa = g.2.of_mantissa; of_exponent = g.2.of_exponent; reduced = g.2.reduced })
    | inr g ↦ inr g
  ];
})

-- ---- enums

figure_is : {d e : Dec} {s t : List ℕ} → written_number d s ≡ written_number e t → s ≡ t
figure_is h = cc

figured_is : (n : ℤ) (r : Result (List ℕ) V) (d : Dec) (t : List ℕ) → written_number_item n r ≡ Some (written_number d t) → r ≡ Ok t
figured_is n (Ok s) d t h = ap Ok (figure_is (some_is h))
figured_is n (Err v) d t h = absurd (never (some_is h))
  where
    never : {e : Dec} → number e ≡ written_number d t → ⊥
    never k = cc

figure_some : {Z : Type 0} (n : ℤ) (r : Result (List ℕ) V) → written_number_item n r ≡ None → Z
figure_some n (Ok s) h = some_none h
figure_some n (Err v) h = some_none h

pub given_plain : (rule : Rule) (t : List ℕ) → ((b : ℕ) (bs : List ℕ) → is_given rule (b ∷ bs) ≡ not (has_soh (b ∷ bs))) → is_given rule t ≡ true → has_soh t ≡ false
given_plain rule [] plain h = true_false h refl
given_plain rule (b ∷ bs) plain h = not_true _ (sym (plain b bs) ∙ h)

pub enum_number_sound : (leaf : LeafOf) (names : List Named) (codes : List Code) → AreCodes names codes → AreWrittenNumbers leaf codes → IsSound (enum_number leaf names codes)
enum_number_sound leaf names codes are figures = kept_sound {X = ℤ} {make = value.Enum} {Fits = λ n. is_listed names n && not (is_null leaf n) ≡ true} {null = value.Null} {optional = is_optional leaf.presence} (record {
  read = λ t v given h.
      let is = made_is value.Enum (code_number codes leaf t) v h in
      let forth = code_forth codes leaf is.0 t are.numbers (given_plain (enum_number leaf names codes) t (λ b bs. refl) given) is.1 in
      let item = written_number (reduced_form (dec (digit_or_number leaf.prim is.0) (pos 0))) t in (
        is.0,
        is.2,
        ap (λ a. a && not (is_null leaf is.0)) (are.listed is.0 forth.2) ∙ ap not forth.1,
        (item, ap (λ o. and_then o (λ n. Some (written_number (reduced_form (dec n (pos 0))) t))) (figures is.0 t forth.0), ap (written_number_item (digit_or_number leaf.prim is.0)) forth.0),
      );
  found = λ t n item given fits told same.
      let spelled = and_then_is (integer_of t) (λ k. Some (written_number (reduced_form (dec k (pos 0))) t)) item told in
      let text = figured_is (digit_or_number leaf.prim n) (code_text codes n) (reduced_form (dec spelled.0 (pos 0))) t (same ∙ sym spelled.2) in
      ap (value_from value.Enum) (code_back codes leaf n t are.texts (not_true _ (and_second (is_listed names n) _ fits)) text);
  some = λ n fits none. figure_some (digit_or_number leaf.prim n) (code_text codes n) none;
  none = refl;
  missing = refl;
  parted = λ v good. good;
  joined = λ v good. good;
})

is_truth_some : (b : ℕ) (o : Option ℕ) → is_truth b o ≡ true → o ≡ Some b
is_truth_some b None h = true_false h refl
is_truth_some b (Some t) h = ap Some (sym (eqb-true b t h))

truth_forth : (names : List Named) (leaf : LeafOf) (b : ℕ) (n : ℤ) → truth_number names leaf b ≡ Ok n → (boolean_text n ≡ Some b) × (is_listed names n ≡ true) × (is_null leaf n ≡ false)
truth_forth [] leaf b n h = err_ok h
truth_forth (x ∷ xs) leaf b n h =
    let rest = find (λ (name : Named). is_truth b (boolean_text name.number) && not (is_null leaf name.number)) xs in
    elim (either (is_truth b (boolean_text x.number) && not (is_null leaf x.number))) [
      | inl t ↦
          let own : x.number ≡ n = ok_is (sym (ap named_number (if_true _ (Some x) rest t)) ∙ h) in (
            ap boolean_text (sym own) ∙ is_truth_some b (boolean_text x.number) (and_first _ _ t),
            or_left (int_eq x.number n) _ ((Decides-int_eq x.number n).1 own),
            ap (is_null leaf) (sym own) ∙ not_true _ (and_second (is_truth b (boolean_text x.number)) _ t),
          )
      | inr f ↦
          let more = truth_forth xs leaf b n (sym (ap named_number (if_false _ (Some x) rest f)) ∙ h) in
          (more.0, or_right (int_eq x.number n) _ more.1, more.2)
    ]

pub boolean_forth : (names : List Named) (leaf : LeafOf) (t : List ℕ) (n : ℤ) → boolean_number names leaf t ≡ Ok n → (boolean_shown names n ≡ Ok t) × (is_listed names n ≡ true) × (is_null leaf n ≡ false)
boolean_forth names leaf [] n h = err_ok h
boolean_forth names leaf (b ∷ c ∷ bs) n h = err_ok h
boolean_forth names leaf (b ∷ []) n h = by_test ((b == 89) || (b == 78)) h
  where
    by_test : (t : Bool) → ◌≡◌ {A = Result ℤ V} (cond t (truth_number names leaf b) (Err why.Spelling)) (Ok n) → (boolean_shown names n ≡ Ok (b ∷ [])) × (is_listed names n ≡ true) × (is_null leaf n ≡ false)
    by_test false k = err_ok k
    by_test true k =
        let is = truth_forth names leaf b n k in
        (if_true (is_listed names n) (truth_text (boolean_text n)) (Err why.UnknownCode) is.1 ∙ ap truth_text is.0, is.1, is.2)

pub enum_boolean_sound : (leaf : LeafOf) (names : List Named) → is_apart same_truth names ≡ true → IsSound (enum_boolean leaf names)
enum_boolean_sound leaf names apart = kept_sound {X = ℤ} {make = value.Enum} {Fits = λ n. is_listed names n && not (is_null leaf n) ≡ true} {null = value.Null} {optional = is_optional leaf.presence} (record {
  read = λ t v given h.
      let is = made_is value.Enum (boolean_number names leaf t) v h in
      let forth = boolean_forth names leaf t is.0 is.1 in
      (is.0, is.2, ap (λ a. a && not (is_null leaf is.0)) forth.1 ∙ ap not forth.2, (bytes t, refl, ap (code_item is.0) forth.0));
  found = λ t n item given fits told same.
      let text = coded_is n (boolean_shown names n) t (same ∙ sym told) in
      ap (value_from value.Enum) (boolean_back names leaf n t apart (not_true _ (and_second (is_listed names n) _ fits)) text);
  some = λ n fits none. code_some n (boolean_shown names n) none;
  none = refl;
  missing = refl;
  parted = λ v good. good;
  joined = λ v good. good;
})

-- ---- days

pub told_is : {X : Type 0} (item : X → Item) (r : Result X V) (i : Item) → item_of_read item r ≡ Some i → (x : X) × (r ≡ Ok x) × (item x ≡ i)
told_is item (Ok x) i h = (x, refl, some_is h)
told_is item (Err v) i h = none_some h

day_is : {m n : ℤ} → on_day m ≡ on_day n → m ≡ n
day_is h = cc

pub day_count_sound : (leaf : LeafOf) → IsSound (day_count leaf)
day_count_sound leaf = kept_sound {X = ℤ} {make = value.Num} {Fits = λ n. is_value leaf n ≡ true} {null = value.Null} {optional = is_optional leaf.presence} (record {
  read = λ t v given h.
      let is = made_is value.Num (leaf_number leaf (day_read t)) v h in
      let day = judged_is leaf (day_read t) is.0 is.1 in
      (is.0, is.2, day.1, (on_day is.0, ap (item_of_read on_day) day.0, refl));
  found = λ t n item given fits told same.
      let day = told_is on_day (day_read t) item told in
      let n_is : day.0 ≡ n = day_is (day.2 ∙ sym (some_is same)) in
      ap (value_from value.Num) (judged_so leaf (day_read t) n (day.1 ∙ ap Ok n_is) fits);
  some = λ n fits none. some_never none;
  none = refl;
  missing = refl;
  parted = λ v good. good;
  joined = λ v good. good;
})

-- ---- months

month_is : {m n : MonthYear} → in_month m ≡ in_month n → m ≡ n
month_is h = cc

pub month_admitted_is : (leaves : MonthLeaves) (r : Result MonthYear V) (m : MonthYear) → month_admitted leaves r ≡ Ok m → (r ≡ Ok m) × (is_month_of leaves m ≡ true)
month_admitted_is leaves (Err v) m h = err_ok h
month_admitted_is leaves (Ok x) m h = by_test (is_month_of leaves x) refl h
  where
    by_test : (t : Bool) → is_month_of leaves x ≡ t → ◌≡◌ {A = Result MonthYear V} (cond t (Ok x) (Err why.Range)) (Ok m) → (◌≡◌ {A = Result MonthYear V} (Ok x) (Ok m)) × (is_month_of leaves m ≡ true)
    by_test true is k = (k, ap (is_month_of leaves) (sym (ok_is k)) ∙ is)
    by_test false is k = err_ok k

number_or_null_is : (o : Option ℤ) → number_in (number_or_null o) ≡ o
number_or_null_is None = refl
number_or_null_is (Some n) = refl

pub month_item_is : (leaves : MonthLeaves) (m : MonthYear) → item_by (month_year leaves) (month_value m) ≡ Some (in_month m)
month_item_is leaves m = simp (items_hidden-the_row-Value-0, number_or_null_is)

pub month_year_sound : (leaves : MonthLeaves) → IsSound (month_year leaves)
month_year_sound leaves = kept_sound {X = MonthYear} {make = month_value} {Fits = λ m. is_month_of leaves m ≡ true} {null = null_month leaves} {optional = is_optional leaves.year.presence} (record {
  read = λ t v given h.
      let is = made_is month_value (month_admitted leaves (month_read t)) v h in
      let month = month_admitted_is leaves (month_read t) is.0 is.1 in
      (is.0, is.2, month.1, (in_month is.0, ap (item_of_read in_month) month.0, month_item_is leaves is.0));
  found = λ t m item given fits told same.
      let month = told_is in_month (month_read t) item told in
      let m_is : month.0 ≡ m = month_is (month.2 ∙ sym (some_is (sym (month_item_is leaves m) ∙ same))) in
      ap (λ r. value_from month_value (month_admitted leaves r)) (month.1 ∙ ap Ok m_is)
      ∙ ap (value_from month_value) (if_true (is_month_of leaves m) (Ok m) (Err why.Range) fits);
  some = λ m fits none. some_never (sym (month_item_is leaves m) ∙ none);
  none = simp items_hidden-the_row-Value-0;
  missing = refl;
  parted = λ v good. good;
  joined = λ v good. good;
})

-- ---- data among texts

passage_item : (leaf : LeafOf) (t : List ℕ) → is_given (text_data leaf) t ≡ true → item_by (text_data leaf) (value.Text t) ≡ Some (bytes t)
passage_item leaf [] h = true_false h refl
passage_item leaf (b ∷ bs) h = refl

passage_same : (leaf : LeafOf) (t s : List ℕ) → item_by (text_data leaf) (value.Text t) ≡ Some (bytes s) → t ≡ s
passage_same leaf [] s h = none_some h
passage_same leaf (b ∷ bs) s h = bytes_is (some_is h)

passage_none : (leaf : LeafOf) (t : List ℕ) → item_by (text_data leaf) (value.Text t) ≡ None → t ≡ []
passage_none leaf [] h = refl
passage_none leaf (b ∷ bs) h = some_none h

pub text_data_sound : (leaf : LeafOf) → IsSound (text_data leaf)
text_data_sound leaf = record {
  read = λ t v h.
      let given = given_ok (text_data leaf) t v h in
      let is = made_is value.Text (bytes_admitted leaf t) v given.1 in
      let fits = long_is leaf t is.0 is.1 in
      let own = is.2 ∙ ap value.Text (sym fits.1) in
      ((t, own, fits.0), (bytes t, given_item (text_data leaf) t given.0, ap (item_by (text_data leaf)) own ∙ passage_item leaf t given.0));
  found = λ t v item good told same.
      let given = item_given (text_data leaf) t item told in
      let t_is = passage_same leaf good.0 t (sym (ap (item_by (text_data leaf)) good.1) ∙ same ∙ sym given.1) in
      given_value (text_data leaf) t v given.0
      (ap (value_from value.Text) (long_so leaf t (ap (λ s. admits leaf (pos (length s))) (sym t_is) ∙ good.2)) ∙ ap (λ s. Ok (value.Text s)) (sym t_is) ∙ ap Ok (sym good.1));
  missed = λ v h.
      let is = if_some (admits leaf (pos 0)) (Some (value.Text [])) v h in
      (([], sym (some_is is.1), is.0), ap (item_by (text_data leaf)) (sym (some_is is.1)));
  lacking = λ v good none.
      let empty = passage_none leaf good.0 (sym (ap (item_by (text_data leaf)) good.1) ∙ none) in
      if_true (admits leaf (pos 0)) (Some (value.Text [])) None (ap (λ s. admits leaf (pos (length s))) (sym empty) ∙ good.2)
      ∙ ap (λ s. Some (value.Text s)) (sym empty) ∙ ap Some (sym good.1);
}
