-- Each rule keeps what the laws of messages ask.
use Rattle.std.proofs.Common.{◌≡◌, inl, inr, ℕ, ◌^◌, ◌<◌, Bool, true, false, cond, List, [], ◌∷◌, Option, Some, None, Result, Ok, Err, refl, sym, ap, ◌∙◌, subst, ℤ, pos}
use Rattle.std.specs.Prelude.{unsigned_abs, ◌&&◌, not}
use Rattle.sbe_types.specs.declared.kind.Leaf.{Leaf as LeafOf}
use Rattle.sbe_types.specs.declared.message.Value.{Value, items_hidden-the_row-Value-0}
use Rattle.sbe_types.specs.declared.message.Value as value
use Rattle.sbe_types.specs.Shown.{is_optional}
use Rattle.sbe_types.specs.Shows.{is_empty}
use Rattle.fix_values.specs.declared.rule.V.{V}
use Rattle.fix_values.specs.declared.rule.V.TheVariants as why
use Rattle.fix_values.specs.declared.rule.Dec.{Dec}
use Rattle.fix_values.specs.declared.rule.NumRule.TheVariants as spelling
use Rattle.fix_values.specs.Numerals.{integer_of, is_value}
use Rattle.fix_values.specs.Decimals.{dec, decimal_of, fitted, leaf_number, mantissa_under, SameFraction}
use Rattle.fix_values.specs.Values.{value_of, spelled_number, text_read}
use Rattle.value_laws.proofs.Fractions.{fit_same, fit_only, turned, one_form}
use Rattle.value_laws.proofs.Reduced.{read_reduced, same_through}
use Rattle.bridge_rules.specs.Rules.{Rule, integer, fixed_decimal, char_array}
use Rattle.bridge_rules.specs.Values.{Misread, not_read, value_by, value_in, is_given, value_from, mantissa_of, if_optional}
use Rattle.bridge_rules.specs.Items.{Item, number, bytes, item_by, item_in, item_of_text, number_item, decimal_item, reduced_form}
use Rattle.bridge_rules.specs.Good.{Good, is_ok}
use Rattle.bridge_rules.specs.Members.{and_then, number_in, mantissa_in, decimal_value}
use Rattle.bridge_rules.specs.Texts.{judged_text}
use Rattle.bridge_rules.specs.Sound.{IsSound}
use Rattle.bridge_rules.proofs.OptionLemmas.{some_is, none_some, some_none, ok_is, and_then_is, and_then_some, if_some, and_first}
use Rattle.bridge_rules.proofs.BoolLemmas.{true_false, and_so, if_true}
use Rattle.bridge_rules.proofs.ReducedForms.{form_same, form_reduced}

pub err_ok : {A E Z : Type 0} {u : E} {x : A} → ◌≡◌ {A = Result A E} (Err u) (Ok x) → Z
err_ok h = absurd (never h)
  where
    never : {A E : Type 0} {u : E} {x : A} → ◌≡◌ {A = Result A E} (Err u) (Ok x) → ⊥
    never k = cc

pub number_is : {d e : Dec} → number d ≡ number e → d ≡ e
number_is h = cc

pub bytes_is : {s t : List ℕ} → bytes s ≡ bytes t → s ≡ t
bytes_is h = cc

pub given_ok : (rule : Rule) (t : List ℕ) (v : Value) → value_by rule t ≡ Ok v → (is_given rule t ≡ true) × (value_in rule t ≡ Ok v)
given_ok rule t v h = by_test (is_given rule t) h
  where
    by_test : (b : Bool) → ◌≡◌ {A = Result Value Misread} (cond b (value_in rule t) (Err (not_read why.Spelling))) (Ok v) → (b ≡ true) × (value_in rule t ≡ Ok v)
    by_test true k = (refl, k)
    by_test false k = err_ok k

pub given_value : (rule : Rule) (t : List ℕ) (v : Value) → is_given rule t ≡ true → value_in rule t ≡ Ok v → value_by rule t ≡ Ok v
given_value rule t v given h = if_true (is_given rule t) (value_in rule t) (Err (not_read why.Spelling)) given ∙ h

pub given_item : (rule : Rule) (t : List ℕ) → is_given rule t ≡ true → item_in rule t ≡ item_of_text rule t
given_item rule t given = if_true (is_given rule t) (item_of_text rule t) None given

pub item_given : (rule : Rule) (t : List ℕ) (item : Item) → item_in rule t ≡ Some item → (is_given rule t ≡ true) × (item_of_text rule t ≡ Some item)
item_given rule t item h = if_some (is_given rule t) (item_of_text rule t) item h

pub made_is : {X : Type 0} (make : X → Value) (r : Result X V) (v : Value) → value_from make r ≡ Ok v → (x : X) × (r ≡ Ok x) × (v ≡ make x)
made_is make (Ok x) v h = (x, refl, sym (ok_is h))
made_is make (Err w) v h = err_ok h

pub judged_is : (leaf : LeafOf) (r : Result ℤ V) (n : ℤ) → leaf_number leaf r ≡ Ok n → (r ≡ Ok n) × (is_value leaf n ≡ true)
judged_is leaf (Err v) n h = err_ok h
judged_is leaf (Ok m) n h = by_test (is_value leaf m) refl h
  where
    by_test : (b : Bool) → is_value leaf m ≡ b → ◌≡◌ {A = Result ℤ V} (cond b (Ok m) (Err why.Range)) (Ok n) → (◌≡◌ {A = Result ℤ V} (Ok m) (Ok n)) × (is_value leaf n ≡ true)
    by_test true is k = (k, ap (is_value leaf) (sym (ok_is k)) ∙ is)
    by_test false is k = err_ok k

pub judged_so : (leaf : LeafOf) (r : Result ℤ V) (n : ℤ) → r ≡ Ok n → is_value leaf n ≡ true → leaf_number leaf r ≡ Ok n
judged_so leaf r n h is = ap (leaf_number leaf) h ∙ ap (λ b. cond {A = Result ℤ V} b (Ok n) (Err why.Range)) is

pub spelled_is : (o : Option ℤ) (n : ℤ) → spelled_number o ≡ Ok n → o ≡ Some n
spelled_is None n h = err_ok h
spelled_is (Some m) n h = ap Some (ok_is h)

pub optional_is : (leaf : LeafOf) (v w : Value) → if_optional leaf v ≡ Some w → (is_optional leaf.presence ≡ true) × (v ≡ w)
optional_is leaf v w h = let is = if_some (is_optional leaf.presence) (Some v) w h in (is.0, some_is is.1)

pub optional_so : (leaf : LeafOf) (v : Value) → is_optional leaf.presence ≡ true → if_optional leaf v ≡ Some v
optional_so leaf v h = if_true (is_optional leaf.presence) (Some v) None h

-- decimals of one form are one fraction
pub one_fraction : (m e n f : ℤ) → reduced_form (dec m e) ≡ reduced_form (dec n f) → SameFraction (dec m e) (dec n f)
one_fraction m e n f h = same_through (reduced_form (dec m e)) (dec m e) (dec n f) (form_same m e) (subst (λ d. SameFraction d (dec n f)) (sym h) (form_same n f))

-- ---- integers

pub same_integer : (m n : ℤ) → SameFraction (dec m (pos 0)) (dec n (pos 0)) → m ≡ n
same_integer m n h = ok_is (sym (fit_only (dec n (pos 0)) (pos 0) m h) ∙ fit_only (dec n (pos 0)) (pos 0) n (record { sign = refl; size = refl }))

pub integer_sound : (leaf : LeafOf) → IsSound (integer leaf)
integer_sound leaf = record {
  read = λ t v h.
      let given = given_ok (integer leaf) t v h in
      let is = made_is value.Num (value_of spelling.Int leaf t) v given.1 in
      let number = judged_is leaf (spelled_number (integer_of t)) is.0 is.1 in
      let spelled = spelled_is (integer_of t) is.0 number.0 in (
        inl (is.0, is.2, number.1),
        (item_of is.0, given_item (integer leaf) t given.0 ∙ and_then_some (integer_of t) (λ n. number_item n (pos 0)) is.0 spelled, ap (item_by (integer leaf)) is.2),
      );
  found = λ t v item good told same. found t v item good told same;
  missed = λ v h. let is = optional_is leaf value.Null v h in (inr (sym is.1, is.0), ap (item_by (integer leaf)) (sym is.1));
  lacking = λ v good none. elim good [
    | inl g ↦ some_none (sym (ap (item_by (integer leaf)) g.1) ∙ none)
    | inr g ↦ optional_so leaf value.Null g.1 ∙ ap Some (sym g.0)
  ];
}
  where
    item_of : ℤ → Item
    item_of n = number (reduced_form (dec n (pos 0)))

    found : (t : List ℕ) (v : Value) (item : Item) → Good (integer leaf) v → item_in (integer leaf) t ≡ Some item → item_by (integer leaf) v ≡ Some item → value_by (integer leaf) t ≡ Ok v
    found t v item good told same = elim good [
      | inl g ↦
          let given = item_given (integer leaf) t item told in
          let is = and_then_is (integer_of t) (λ n. number_item n (pos 0)) item given.1 in
          let mine = sym (ap (item_by (integer leaf)) g.1) ∙ same in
          let n_is : is.0 ≡ g.0 = same_integer is.0 g.0 (one_fraction is.0 (pos 0) g.0 (pos 0) (number_is (some_is (is.2 ∙ sym mine)))) in
          given_value (integer leaf) t v given.0
          (ap (value_from value.Num) (judged_so leaf (spelled_number (integer_of t)) g.0 (ap spelled_number is.1 ∙ ap Ok n_is) g.2) ∙ ap Ok (sym g.1))
      | inr g ↦ none_some (sym (ap (item_by (integer leaf)) g.0) ∙ same)
    ]

-- ---- decimals with a constant exponent

pub mantissa_is : (v : Value) → mantissa_in (decimal_value v) ≡ number_in v
mantissa_is v = simp items_hidden-the_row-Value-0

pub mantissa_given : (leaf : LeafOf) (e : ℤ) (r : Result Dec V) (n : ℤ) → mantissa_of leaf e r ≡ Ok n → (d : Dec) × (r ≡ Ok d) × (fitted d leaf e ≡ Ok n)
mantissa_given leaf e (Ok d) n h = (d, refl, h)
mantissa_given leaf e (Err v) n h = err_ok h

pub decimal_given : (r : Result Dec V) (item : Item) → decimal_item r ≡ Some item → (d : Dec) × (r ≡ Ok d) × (number d ≡ item)
decimal_given (Ok d) item h = (d, refl, some_is h)
decimal_given (Err v) item h = none_some h

-- no number of the leaf has more than 39 digits
abbrev pub IsNarrow : LeafOf → Type 0
IsNarrow leaf = (n : ℤ) → is_value leaf n ≡ true → unsigned_abs n < 10 ^ 39

pub fraction_item : (leaf : LeafOf) (e : ℤ) (v : Value) → item_by (fixed_decimal leaf e) (decimal_value v) ≡ and_then (number_in v) (λ m. number_item m e)
fraction_item leaf e v = ap (λ o. and_then o (λ m. number_item m e)) (mantissa_is v)

pub fixed_decimal_sound : (leaf : LeafOf) (e : ℤ) → IsNarrow leaf → IsSound (fixed_decimal leaf e)
fixed_decimal_sound leaf e narrow = record {
  read = λ t v h. read t v h;
  found = λ t v item good told same. found t v item good told same;
  missed = λ v h. let is = optional_is leaf (decimal_value value.Null) v h in (inr (sym is.1, is.0), ap (item_by (fixed_decimal leaf e)) (sym is.1) ∙ fraction_item leaf e value.Null);
  lacking = λ v good none. elim good [
    | inl g ↦ some_none (sym (ap (item_by (fixed_decimal leaf e)) g.1 ∙ fraction_item leaf e (value.Num g.0)) ∙ none)
    | inr g ↦ optional_so leaf (decimal_value value.Null) g.1 ∙ ap Some (sym g.0)
  ];
}
  where
    read : (t : List ℕ) (v : Value) → value_by (fixed_decimal leaf e) t ≡ Ok v → Good (fixed_decimal leaf e) v × ((item : Item) × (item_in (fixed_decimal leaf e) t ≡ Some item) × (item_by (fixed_decimal leaf e) v ≡ Some item))
    read t v h =
        let given = given_ok (fixed_decimal leaf e) t v h in
        let is = made_is (λ m. decimal_value (value.Num m)) (mantissa_of leaf e (decimal_of t)) v given.1 in
        let d = mantissa_given leaf e (decimal_of t) is.0 is.1 in
        let fits = judged_is leaf (mantissa_under d.0 e) is.0 d.2 in
        let same = fit_same d.0 e is.0 fits.0 in
        let form : reduced_form (dec is.0 e) ≡ d.0 = one_form (reduced_form (dec is.0 e)) d.0 (form_reduced is.0 e (narrow is.0 fits.1)) (read_reduced t d.0 d.1)
        (same_through (dec is.0 e) (reduced_form (dec is.0 e)) d.0 (turned (form_same is.0 e)) same) in (
          inl (is.0, is.2, fits.1),
          (
            number d.0,
            given_item (fixed_decimal leaf e) t given.0 ∙ ap decimal_item d.1,
            ap (item_by (fixed_decimal leaf e)) is.2 ∙ fraction_item leaf e (value.Num is.0) ∙ ap (λ d. Some (number d)) form,
          ),
        )

    found : (t : List ℕ) (v : Value) (item : Item) → Good (fixed_decimal leaf e) v → item_in (fixed_decimal leaf e) t ≡ Some item → item_by (fixed_decimal leaf e) v ≡ Some item → value_by (fixed_decimal leaf e) t ≡ Ok v
    found t v item good told same = elim good [
      | inl g ↦
          let given = item_given (fixed_decimal leaf e) t item told in
          let d = decimal_given (decimal_of t) item given.1 in
          let mine = sym (ap (item_by (fixed_decimal leaf e)) g.1 ∙ fraction_item leaf e (value.Num g.0)) ∙ same in
          let form : reduced_form (dec g.0 e) ≡ d.0 = number_is (some_is mine ∙ sym d.2) in
          let under : mantissa_under d.0 e ≡ Ok g.0 = fit_only d.0 e g.0 (turned (subst (λ x. SameFraction x (dec g.0 e)) form (form_same g.0 e))) in
          given_value (fixed_decimal leaf e) t v given.0
          (ap (λ r. value_from (λ m. decimal_value (value.Num m)) (mantissa_of leaf e r)) d.1
          ∙ ap (value_from (λ m. decimal_value (value.Num m))) (judged_so leaf (mantissa_under d.0 e) g.0 under g.2) ∙ ap Ok (sym g.1))
      | inr g ↦ none_some (sym (ap (item_by (fixed_decimal leaf e)) g.0 ∙ fraction_item leaf e value.Null) ∙ same)
    ]

-- ---- texts

pub text_judged : (t : List ℕ) (r : Result Unit V) (s : List ℕ) → judged_text t r ≡ Ok s → (is_ok r ≡ true) × (t ≡ s)
text_judged t (Ok u) s h = (refl, ok_is h)
text_judged t (Err v) s h = err_ok h

pub text_so : (t : List ℕ) (r : Result Unit V) → is_ok r ≡ true → judged_text t r ≡ Ok t
text_so t (Ok u) h = refl
text_so t (Err v) h = true_false h refl

pub some_given : (rule : Rule) (t : List ℕ) → is_given rule t ≡ true → is_empty t ≡ false
some_given rule [] h = true_false h refl
some_given rule (b ∷ bs) h = refl

-- a text that isn't empty is no null
no_null : (optional empty : Bool) → empty ≡ false → not (optional && empty) ≡ true
no_null true empty h = ap not h
no_null false empty h = refl

pub char_array_sound : (leaf : LeafOf) → IsSound (char_array leaf)
char_array_sound leaf = record {
  read = λ t v h.
      let given = given_ok (char_array leaf) t v h in
      let is = made_is value.Text (judged_text t (text_read leaf t)) v given.1 in
      let fits = text_judged t (text_read leaf t) is.0 is.1 in (
        inl (t, is.2 ∙ ap value.Text (sym fits.1), and_so (is_ok (text_read leaf t)) _ fits.0 (no_null (is_optional leaf.presence) (is_empty t) (some_given (char_array leaf) t given.0))),
        (bytes t, given_item (char_array leaf) t given.0, ap (item_by (char_array leaf)) (is.2 ∙ ap value.Text (sym fits.1))),
      );
  found = λ t v item good told same. found t v item good told same;
  missed = λ v h. let is = optional_is leaf value.Null v h in (inr (sym is.1, is.0), ap (item_by (char_array leaf)) (sym is.1));
  lacking = λ v good none. elim good [
    | inl g ↦ some_none (sym (ap (item_by (char_array leaf)) g.1) ∙ none)
    | inr g ↦ optional_so leaf value.Null g.1 ∙ ap Some (sym g.0)
  ];
}
  where
    found : (t : List ℕ) (v : Value) (item : Item) → Good (char_array leaf) v → item_in (char_array leaf) t ≡ Some item → item_by (char_array leaf) v ≡ Some item → value_by (char_array leaf) t ≡ Ok v
    found t v item good told same = elim good [
      | inl g ↦
          let given = item_given (char_array leaf) t item told in
          let mine = sym (ap (item_by (char_array leaf)) g.1) ∙ same in
          let t_is : g.0 ≡ t = bytes_is (some_is (mine ∙ sym given.1)) in
          given_value (char_array leaf) t v given.0
          (ap (value_from value.Text) (text_so t (text_read leaf t) (ap (λ t. is_ok (text_read leaf t)) (sym t_is) ∙ and_first (is_ok (text_read leaf g.0)) _ g.2)) ∙ ap (λ t. Ok (value.Text t)) (sym t_is) ∙ ap Ok (sym g.1))
      | inr g ↦ none_some (sym (ap (item_by (char_array leaf)) g.0) ∙ same)
    ]
