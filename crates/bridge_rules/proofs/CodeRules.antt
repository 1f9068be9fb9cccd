-- The rules of codes and of data keep what the laws of messages ask.
use Rattle.std.proofs.Common.{◌≡◌, inl, inr, ℕ, Bool, true, false, cond, List, [], ◌∷◌, length, Some, None, Result, Ok, Err, refl, sym, ap, ◌∙◌, ℤ, pos}
use Rattle.std.specs.Prelude.{◌&&◌, ◌||◌, not, bytes_eq, find}
use Rattle.std.specs.List.{list_any}
use Rattle.std.specs.Ordering.{int_eq}
use Rattle.std.proofs.lemmas.Bool.Decides.{Decides-int_eq}
use Rattle.std.proofs.lemmas.Slice.Eq.{bytes_eq-Decides}
use Rattle.sbe_types.specs.declared.kind.Leaf.{Leaf as LeafOf}
use Rattle.sbe_types.specs.declared.kind.Named.{Named}
use Rattle.sbe_types.specs.declared.message.Value.{Value}
use Rattle.sbe_types.specs.declared.message.Value as value
use Rattle.sbe_types.specs.Shown.{admits, is_null}
use Rattle.fix_values.specs.declared.rule.V.{V}
use Rattle.fix_values.specs.declared.rule.V.TheVariants as why
use Rattle.fix_values.specs.declared.rule.Code.{Code}
use Rattle.fix_values.specs.Codes.{has_soh, found_text, code_text, found_number, code_number, is_apart, same_number}
use Rattle.value_laws.proofs.ReadBack.{code_back}
use Rattle.bridge_rules.specs.Items.{Item, bytes, without_text, item_by, item_in, code_item}
use Rattle.bridge_rules.specs.Rules.{enum_code, raw_data}
use Rattle.bridge_rules.specs.Good.{Good}
use Rattle.bridge_rules.specs.Values.{value_by, is_given, value_from, bytes_admitted}
use Rattle.bridge_rules.specs.Sound.{IsSound, AreCodes}
use Rattle.bridge_rules.proofs.OptionLemmas.{some_is, none_some, some_none, ok_is, and_first, and_second, if_some}
use Rattle.bridge_rules.proofs.BoolLemmas.{true_false, either, or_left, or_right, not_true, if_true, if_false}
use Rattle.bridge_rules.proofs.PlainRules.{err_ok, bytes_is, given_ok, given_value, given_item, item_given, made_is, optional_is, optional_so}

-- ---- codes

-- one of the codes has the number
abbrev HasNumber : ℤ → List Code → Bool
HasNumber n codes = list_any (λ code. int_eq code.number n) codes

same_among : (x : Code) (n : ℤ) (xs : List Code) → x.number ≡ n → HasNumber n xs ≡ true → list_any (same_number x) xs ≡ true
same_among x n [] is h = true_false h refl
same_among x n (y ∷ ys) is h = elim (either (int_eq y.number n)) [
  | inl t ↦ or_left (same_number x y) _ ((Decides-int_eq x.number y.number).1 (is ∙ sym ((Decides-int_eq y.number n).0 t)))
  | inr f ↦ or_right (same_number x y) _ (same_among x n ys is (sym (ap (λ b. b || HasNumber n ys) f) ∙ h))
]

-- a number that was read of a text has this text
pub code_forth : (codes : List Code) (leaf : LeafOf) (n : ℤ) (t : List ℕ) → is_apart same_number codes ≡ true → has_soh t ≡ false → code_number codes leaf t ≡ Ok n →
    (code_text codes n ≡ Ok t) × (is_null leaf n ≡ false) × (HasNumber n codes ≡ true)
code_forth [] leaf n t apart plain h = err_ok h
code_forth (x ∷ xs) leaf n t apart plain h =
    let rest = find (λ code. bytes_eq code.text t && not (is_null leaf code.number)) xs in
    let others = find (λ code. int_eq code.number n) xs in
    elim (either (bytes_eq x.text t && not (is_null leaf x.number))) [
      | inl b ↦
          let own : x.number ≡ n = ok_is (sym (ap found_number (if_true _ (Some x) rest b)) ∙ h) in
          let spelled : x.text ≡ t = (bytes_eq-Decides x.text t).0 (and_first _ _ b) in
          let hit : int_eq x.number n ≡ true = (Decides-int_eq x.number n).1 own in (
            ap found_text (if_true (int_eq x.number n) (Some x) others hit)
                ∙ ap (λ s. cond {A = Result (List ℕ) V} (has_soh s) (Err why.Soh) (Ok s)) spelled ∙ ap (λ b. cond {A = Result (List ℕ) V} b (Err why.Soh) (Ok t)) plain,
            ap (is_null leaf) (sym own) ∙ not_true _ (and_second _ _ b),
            or_left (int_eq x.number n) _ hit,
          )
      | inr b ↦
          let more = code_forth xs leaf n t (and_second _ _ apart) plain (sym (ap found_number (if_false _ (Some x) rest b)) ∙ h) in
          let miss : int_eq x.number n ≡ false = elim (either (int_eq x.number n)) [
            | inl hit ↦ true_false (same_among x n xs ((Decides-int_eq x.number n).0 hit) more.2) (not_true _ (and_first _ _ apart))
            | inr f ↦ f
          ] in
          (ap found_text (if_false (int_eq x.number n) (Some x) others miss) ∙ more.0, more.1, or_right (int_eq x.number n) _ more.2)
    ]

given_plain : (leaf : LeafOf) (names : List Named) (codes : List Code) (t : List ℕ) → is_given (enum_code leaf names codes) t ≡ true → has_soh t ≡ false
given_plain leaf names codes [] h = true_false h refl
given_plain leaf names codes (b ∷ bs) h = not_true _ h

pub coded_is : (n : ℤ) (r : Result (List ℕ) V) (t : List ℕ) → code_item n r ≡ Some (bytes t) → r ≡ Ok t
coded_is n (Ok s) t h = ap Ok (bytes_is (some_is h))
coded_is n (Err v) t h = absurd (never (some_is h))
  where
    never : without_text n ≡ bytes t → ⊥
    never k = cc

pub code_some : {Z : Type 0} (n : ℤ) (r : Result (List ℕ) V) → code_item n r ≡ None → Z
code_some n (Ok s) h = some_none h
code_some n (Err v) h = some_none h

pub enum_code_sound : (leaf : LeafOf) (names : List Named) (codes : List Code) → AreCodes names codes → IsSound (enum_code leaf names codes)
enum_code_sound leaf names codes fits = record {
  read = λ t v h.
      let given = given_ok (enum_code leaf names codes) t v h in
      let is = made_is value.Enum (code_number codes leaf t) v given.1 in
      let forth = code_forth codes leaf is.0 t fits.numbers (given_plain leaf names codes t given.0) is.1 in (
        inl (is.0, is.2, ap (λ a. a && not (is_null leaf is.0)) (fits.listed is.0 forth.2) ∙ ap not forth.1),
        (bytes t, given_item (enum_code leaf names codes) t given.0, ap (item_by (enum_code leaf names codes)) is.2 ∙ ap (code_item is.0) forth.0),
      );
  found = λ t v item good told same. found t v item good told same;
  missed = λ v h. let is = optional_is leaf value.Null v h in (inr (sym is.1, is.0), ap (item_by (enum_code leaf names codes)) (sym is.1));
  lacking = λ v good none. elim good [
    | inl g ↦ code_some g.0 (code_text codes g.0) (sym (ap (item_by (enum_code leaf names codes)) g.1) ∙ none)
    | inr g ↦ optional_so leaf value.Null g.1 ∙ ap Some (sym g.0)
  ];
}
  where
    found : (t : List ℕ) (v : Value) (item : Item) → Good (enum_code leaf names codes) v → item_in (enum_code leaf names codes) t ≡ Some item → item_by (enum_code leaf names codes) v ≡ Some item → value_by (enum_code leaf names codes) t ≡ Ok v
    found t v item good told same = elim good [
      | inl g ↦
          let given = item_given (enum_code leaf names codes) t item told in
          let text = coded_is g.0 (code_text codes g.0) t (sym (ap (item_by (enum_code leaf names codes)) g.1) ∙ same ∙ sym given.1) in
          given_value (enum_code leaf names codes) t v given.0
          (ap (value_from value.Enum) (code_back codes leaf g.0 t fits.texts (not_true _ (and_second _ _ g.2)) text) ∙ ap Ok (sym g.1))
      | inr g ↦ none_some (sym (ap (item_by (enum_code leaf names codes)) g.0) ∙ same)
    ]

-- ---- data

pub long_is : (leaf : LeafOf) (t s : List ℕ) → bytes_admitted leaf t ≡ Ok s → (admits leaf (pos (length t)) ≡ true) × (t ≡ s)
long_is leaf t s h = by_test (admits leaf (pos (length t))) h
  where
    by_test : (b : Bool) → ◌≡◌ {A = Result (List ℕ) V} (cond b (Ok t) (Err why.Range)) (Ok s) → (b ≡ true) × (t ≡ s)
    by_test true k = (refl, ok_is k)
    by_test false k = err_ok k

pub long_so : (leaf : LeafOf) (t : List ℕ) → admits leaf (pos (length t)) ≡ true → bytes_admitted leaf t ≡ Ok t
long_so leaf t h = ap (λ b. cond {A = Result (List ℕ) V} b (Ok t) (Err why.Range)) h

octets_item : (leaf : LeafOf) (t : List ℕ) → is_given (raw_data leaf) t ≡ true → item_by (raw_data leaf) (value.Text t) ≡ Some (bytes t)
octets_item leaf [] h = true_false h refl
octets_item leaf (b ∷ bs) h = refl

octets_same : (leaf : LeafOf) (t s : List ℕ) → item_by (raw_data leaf) (value.Text t) ≡ Some (bytes s) → t ≡ s
octets_same leaf [] s h = none_some h
octets_same leaf (b ∷ bs) s h = bytes_is (some_is h)

octets_none : (leaf : LeafOf) (t : List ℕ) → item_by (raw_data leaf) (value.Text t) ≡ None → t ≡ []
octets_none leaf [] h = refl
octets_none leaf (b ∷ bs) h = some_none h

pub raw_data_sound : (leaf : LeafOf) → IsSound (raw_data leaf)
raw_data_sound leaf = record {
  read = λ t v h.
      let given = given_ok (raw_data leaf) t v h in
      let is = made_is value.Text (bytes_admitted leaf t) v given.1 in
      let fits = long_is leaf t is.0 is.1 in
      let own = is.2 ∙ ap value.Text (sym fits.1) in
      ((t, own, fits.0), (bytes t, given_item (raw_data leaf) t given.0, ap (item_by (raw_data leaf)) own ∙ octets_item leaf t given.0));
  found = λ t v item good told same.
      let given = item_given (raw_data leaf) t item told in
      let t_is = octets_same leaf good.0 t (sym (ap (item_by (raw_data leaf)) good.1) ∙ same ∙ sym given.1) in
      given_value (raw_data leaf) t v given.0
      (ap (value_from value.Text) (long_so leaf t (ap (λ s. admits leaf (pos (length s))) (sym t_is) ∙ good.2)) ∙ ap (λ s. Ok (value.Text s)) (sym t_is) ∙ ap Ok (sym good.1));
  missed = λ v h.
      let is = if_some (admits leaf (pos 0)) (Some (value.Text [])) v h in
      (([], sym (some_is is.1), is.0), ap (item_by (raw_data leaf)) (sym (some_is is.1)));
  lacking = λ v good none.
      let empty = octets_none leaf good.0 (sym (ap (item_by (raw_data leaf)) good.1) ∙ none) in
      if_true (admits leaf (pos 0)) (Some (value.Text [])) None (ap (λ s. admits leaf (pos (length s))) (sym empty) ∙ good.2)
      ∙ ap (λ s. Some (value.Text s)) (sym empty) ∙ ap Some (sym good.1);
}
