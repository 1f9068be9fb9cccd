-- What is written of a good value is read as that value, and so has its item.
use Rattle.std.proofs.Common.{◌≡◌, inl, inr, ℕ, zero, suc, ◌^◌, ◌<◌, Bool, true, false, cond, List, [], ◌∷◌, length, Some, None, Result, Ok, Err, refl, sym, ap, ◌∙◌, subst, arith, ℤ, pos, FitsSigned}
use Rattle.std.specs.Prelude.{◌||◌, ◌==◌, not, unsigned_abs}
use Rattle.std.specs.List.{list_all}
use Rattle.std.specs.Ordering.{int_eq}
use Rattle.std.specs.Int.{w128}
use Rattle.std.specs.Fmt.{signed_decimal}
use Rattle.sbe_types.specs.declared.kind.Leaf.{Leaf as LeafOf}
use Rattle.sbe_types.specs.declared.kind.Named.{Named}
use Rattle.sbe_types.specs.declared.message.Value.{Value, items_hidden-the_row-Value-0}
use Rattle.sbe_types.specs.declared.message.Value as value
use Rattle.sbe_types.specs.Numbers.{natural}
use Rattle.sbe_types.specs.Shown.{is_listed}
use Rattle.fix_values.specs.declared.rule.V.{V}
use Rattle.fix_values.specs.declared.rule.V.TheVariants as why
use Rattle.fix_values.specs.declared.rule.Dec.{Dec}
use Rattle.fix_values.specs.declared.rule.Code.{Code}
use Rattle.fix_values.specs.Numerals.{is_value, SpellsInteger}
use Rattle.fix_values.specs.Decimals.{decimal_of, decimal_text, leaf_number}
use Rattle.fix_values.specs.Codes.{has_soh, has_short_text, is_choice, code_text, set_text, spaced_texts, codes_in, bits_of, boolean_text, boolean_shown, truth_text, is_apart, same_truth}
use Rattle.fix_values.specs.Values.{char_text, char_value, text_shown}
use Rattle.value_laws.proofs.ReadBack.{code_back, boolean_back, shown_spelled}
use Rattle.value_laws.proofs.WholeBack.{whole_back}
use Rattle.value_laws.proofs.DecimalsBack.{decimals_back}
use Rattle.value_laws.proofs.SetsBack.{set_back}
use Rattle.value_laws.proofs.Fractions.{one_form}
use Rattle.value_laws.proofs.Reduced.{read_reduced}
use Rattle.bridge_rules.specs.Rules.{Rule, integer, integer_decimal, floating_decimal, single_char, enum_number, enum_boolean, choice_set, text_data, any_text, constant}
use Rattle.bridge_rules.specs.Items.{bytes, item_by, item_in}
use Rattle.bridge_rules.specs.Texts.{text_by, field_text, judged_text, decimal_in_types, if_back, if_read, floating_text}
use Rattle.bridge_rules.specs.Values.{value_by, is_given, value_from, floating_value, least_or_null}
use Rattle.bridge_rules.specs.Members.{two_members}
use Rattle.bridge_rules.specs.Sound.{IsSound, IsShown, ShowsGood, AreCodes}
use Rattle.bridge_rules.specs.Bounds.{IsShort, IsNarrow, IsUnsigned, AreWrittenNumbers}
use Rattle.bridge_rules.proofs.OptionLemmas.{ok_is, and_second}
use Rattle.bridge_rules.proofs.BoolLemmas.{true_false, not_true}
use Rattle.bridge_rules.proofs.PlainRules.{err_ok, given_value, given_item}
use Rattle.bridge_rules.proofs.ShownTexts.{given_text, field_text_is, field_text_some, ok_none, integer_given, shown_is, decimal_given, code_plain}
use Rattle.bridge_rules.proofs.SoundRules.{integer_decimal_sound, floating_decimal_sound, single_char_sound, enum_number_sound, enum_boolean_sound, any_text_sound, floated_so}
use Rattle.bridge_rules.proofs.Sets.{choice_set_sound}

-- a value whose text is read as itself
pub back_shown : (rule : Rule) (v : Value) → IsSound rule → ((t : List ℕ) → text_by rule v ≡ Ok (Some t) → value_by rule t ≡ Ok v) → (text_by rule v ≡ Ok None → item_by rule v ≡ None) → IsShown rule v
back_shown rule v sound back none = record { written = λ t h. (sound.read t v (back t h)).1; unwritten = none }

-- a value that gives no field, and has no item
pub none_shown : (rule : Rule) (v : Value) → text_by rule v ≡ Ok None → item_by rule v ≡ None → IsShown rule v
none_shown rule v none item = record { written = λ t h. ok_none (sym none ∙ h); unwritten = λ h. item }

-- ---- constants and texts

pub constant_shown : (rule : Rule) (own : Value) → IsShown rule own → ShowsGood (constant rule own)
constant_shown rule own shows v good = subst (IsShown (constant rule own)) (sym good) (record {
  written = λ t h.
      let is = shows.written t h in
      (is.0, same_in t ∙ is.1, is.2);
  unwritten = shows.unwritten;
})
  where
    same_in : (t : List ℕ) → item_in (constant rule own) t ≡ item_in rule t
    same_in [] = refl
    same_in (b ∷ bs) = refl

pub any_text_shown : ShowsGood any_text
any_text_shown v good = subst (IsShown any_text) (sym good.1) (back_shown any_text (value.Text good.0) any_text_sound
    (λ t h.
    let is = shown_is good.0 t (field_text_is (judged_text good.0 (text_shown good.0)) t h) in
    given_value any_text t (value.Text good.0) (subst (λ t. is_given any_text t ≡ true) is.0 (given_text any_text good.0 is.1 is.2)) (ap (λ s. Ok (value.Text s)) (sym is.0)))
    (λ h. field_text_some (judged_text good.0 (text_shown good.0)) h))

pub text_data_shown : (leaf : LeafOf) → ShowsGood (text_data leaf)
text_data_shown leaf v good = subst (IsShown (text_data leaf)) (sym good.1) (by_bytes good.0)
  where
    by_bytes : (t : List ℕ) → IsShown (text_data leaf) (value.Text t)
    by_bytes [] = none_shown (text_data leaf) (value.Text []) refl refl
    by_bytes (b ∷ bs) = record {
      written = λ t h.
          let is = shown_is (b ∷ bs) t (field_text_is (judged_text (b ∷ bs) (text_shown (b ∷ bs))) t h) in
          (bytes t, given_item (text_data leaf) t (subst (λ t. is_given (text_data leaf) t ≡ true) is.0 (given_text (text_data leaf) (b ∷ bs) is.1 is.2)), ap (λ s. Some (bytes s)) is.0);
      unwritten = λ h. field_text_some (judged_text (b ∷ bs) (text_shown (b ∷ bs))) h;
    }

-- ---- numbers

unscaled_given : (leaf : LeafOf) (t : List ℕ) → is_given (integer leaf) t ≡ true → is_given (integer_decimal leaf) t ≡ true
unscaled_given leaf [] h = h
unscaled_given leaf (b ∷ bs) h = h

pub unscaled_one : (leaf : LeafOf) → IsNarrow leaf → (n : ℤ) → is_value leaf n ≡ true → FitsSigned w128 n → unsigned_abs n < 10 ^ 38 → IsShown (integer_decimal leaf) (value.Num n)
unscaled_one leaf narrow n is fits short = back_shown (integer_decimal leaf) (value.Num n) (integer_decimal_sound leaf narrow)
    (λ t h.
    let text : signed_decimal n ≡ t = ok_is (field_text_is (Ok (signed_decimal n)) t h) in
    given_value (integer_decimal leaf) t (value.Num n) (unscaled_given leaf t (integer_given leaf t n (subst (λ t. SpellsInteger t n) text (shown_spelled n fits))))
    (ap (value_from value.Num) (whole_back leaf n t short is (ap Ok text))))
    (λ h. field_text_some (Ok (signed_decimal n)) h)

pub integer_decimal_shown : (leaf : LeafOf) → IsNarrow leaf → IsShort leaf → ShowsGood (integer_decimal leaf)
integer_decimal_shown leaf narrow short v good = elim good [
  | inl g ↦ subst (IsShown (integer_decimal leaf)) (sym g.1) (unscaled_one leaf narrow g.0 g.2 (short g.0 g.2).0 (short g.0 g.2).1)
  | inr g ↦ subst (IsShown (integer_decimal leaf)) (sym g.0) (none_shown (integer_decimal leaf) value.Null refl refl)
]

pub if_back_is : {X : Type 0} (back : List ℕ → Result X V) (r : Result (List ℕ) V) (t : List ℕ) → if_back back r ≡ Ok t → r ≡ Ok t
if_back_is back (Err v) t h = err_ok h
if_back_is {X} back (Ok s) t h = by_read (back s) h
  where
    by_read : (r : Result X V) → if_read s r ≡ Ok t → ◌≡◌ {A = Result (List ℕ) V} (Ok s) (Ok t)
    by_read (Ok x) k = k
    by_read (Err v) k = err_ok k

pub floating_text_is : (m e : LeafOf) (d : Dec) → text_by (floating_decimal m e) (floating_value d) ≡ field_text (floating_text m e (Some d.exponent) d.mantissa)
floating_text_is m e d = simp items_hidden-the_row-Value-0

pub floating_decimal_shown : (m e : LeafOf) → IsNarrow m → IsShort m → ShowsGood (floating_decimal m e)
floating_decimal_shown m e narrow short v good = elim good [
  | inl g ↦ subst (IsShown (floating_decimal m e)) (sym g.is) (back_shown (floating_decimal m e) (floating_value g.number) (floating_decimal_sound m e narrow)
      (λ t h.
      let d = g.number in
      let text = if_back_is (λ t. decimal_in_types m e (decimal_of t)) (decimal_text d) t (field_text_is (floating_text m e (Some d.exponent) d.mantissa) t (sym (floating_text_is m e d) ∙ h)) in
      let back = decimals_back d.mantissa d.exponent t (short d.mantissa g.of_mantissa).0 text in
      let is : back.0 ≡ d = one_form back.0 d (read_reduced t back.0 back.1) g.reduced back.2 in
      given_value (floating_decimal m e) t (floating_value d) (decimal_given (floating_decimal m e) t back.0 back.1)
      (ap (λ r. value_from floating_value (decimal_in_types m e r)) (back.1 ∙ ap Ok is) ∙ ap (value_from floating_value) (floated_so m e d g.of_mantissa g.of_exponent)))
      (λ h. field_text_some (floating_text m e (Some g.number.exponent) g.number.mantissa) (sym (floating_text_is m e g.number) ∙ h)))
  | inr g ↦ subst (IsShown (floating_decimal m e)) (sym g.0) (none_shown (floating_decimal m e) (two_members value.Null (least_or_null e)) (simp items_hidden-the_row-Value-0) (simp items_hidden-the_row-Value-0))
]

-- ---- characters

char_is : (b : ℕ) (t : List ℕ) → char_text b ≡ Ok t → (t ≡ b ∷ []) × ((b == 1) ≡ false)
char_is b t h = by_test (b == 1) refl h
  where
    by_test : (c : Bool) → (b == 1) ≡ c → ◌≡◌ {A = Result (List ℕ) V} (cond c (Err why.Spelling) (Ok (b ∷ []))) (Ok t) → (t ≡ b ∷ []) × ((b == 1) ≡ false)
    by_test true is k = err_ok k
    by_test false is k = (sym (ok_is k), is)

pub single_char_shown : (leaf : LeafOf) → IsUnsigned leaf → ShowsGood (single_char leaf)
single_char_shown leaf bytewise v good = elim good [
  | inl g ↦ subst (IsShown (single_char leaf)) (sym g.1) (back_shown (single_char leaf) (value.Num g.0) (single_char_sound leaf bytewise)
      (λ t h.
      let text = char_is (natural g.0) t (field_text_is (char_text (natural g.0)) t h) in
      given_value (single_char leaf) t (value.Num g.0) (subst (λ t. is_given (single_char leaf) t ≡ true) (sym text.0) (ap (λ b. not (b || false)) text.1))
      (ap (λ s. value_from value.Num (char_value leaf s)) text.0
      ∙ ap (λ n. value_from value.Num (leaf_number leaf (Ok n))) (sym (bytewise g.0 g.2)) ∙ ap (λ b. value_from value.Num (cond b (Ok g.0) (Err why.Range))) g.2))
      (λ h. field_text_some (char_text (natural g.0)) h))
  | inr g ↦ subst (IsShown (single_char leaf)) (sym g.0) (none_shown (single_char leaf) value.Null refl refl)
]

-- ---- enums

pub enum_number_shown : (leaf : LeafOf) (names : List Named) (list : List Code) → AreCodes names list → AreWrittenNumbers leaf list → list_all has_short_text list ≡ true → ShowsGood (enum_number leaf names list)
enum_number_shown leaf names list are figures short v good = elim good [
  | inl g ↦ subst (IsShown (enum_number leaf names list)) (sym g.1) (back_shown (enum_number leaf names list) (value.Enum g.0) (enum_number_sound leaf names list are figures)
      (λ t h.
      let text = field_text_is (code_text list g.0) t h in
      let plain = code_plain list g.0 t short text in
      given_value (enum_number leaf names list) t (value.Enum g.0) (given_text (enum_number leaf names list) t plain.0 plain.1)
      (ap (value_from value.Enum) (code_back list leaf g.0 t are.texts (not_true _ (and_second (is_listed names g.0) _ g.2)) text)))
      (λ h. field_text_some (code_text list g.0) h))
  | inr g ↦ subst (IsShown (enum_number leaf names list)) (sym g.0) (none_shown (enum_number leaf names list) value.Null refl refl)
]

truth_plain : (names : List Named) (n : ℤ) (t : List ℕ) → boolean_shown names n ≡ Ok t → (0 < length t) × (has_soh t ≡ false)
truth_plain names n t h = by_listed (is_listed names n) h
  where
    by_tests : (a b : Bool) → truth_text (cond a (Some 89) (cond b (Some 78) None)) ≡ Ok t → (0 < length t) × (has_soh t ≡ false)
    by_tests true b k = subst (λ t. (0 < length t) × (has_soh t ≡ false)) (ok_is k) (omega arith, refl)
    by_tests false true k = subst (λ t. (0 < length t) × (has_soh t ≡ false)) (ok_is k) (omega arith, refl)
    by_tests false false k = err_ok k

    by_listed : (a : Bool) → cond a (truth_text (boolean_text n)) (Err why.UnknownCode) ≡ Ok t → (0 < length t) × (has_soh t ≡ false)
    by_listed false k = err_ok k
    by_listed true k = by_tests (int_eq n (pos 1) || int_eq n (pos 89)) (int_eq n (pos 0) || int_eq n (pos 78)) k

pub enum_boolean_shown : (leaf : LeafOf) (names : List Named) → is_apart same_truth names ≡ true → ShowsGood (enum_boolean leaf names)
enum_boolean_shown leaf names apart v good = elim good [
  | inl g ↦ subst (IsShown (enum_boolean leaf names)) (sym g.1) (back_shown (enum_boolean leaf names) (value.Enum g.0) (enum_boolean_sound leaf names apart)
      (λ t h.
      let text = field_text_is (boolean_shown names g.0) t h in
      let plain = truth_plain names g.0 t text in
      given_value (enum_boolean leaf names) t (value.Enum g.0) (given_text (enum_boolean leaf names) t plain.0 plain.1)
      (ap (value_from value.Enum) (boolean_back names leaf g.0 t apart (not_true _ (and_second (is_listed names g.0) _ g.2)) text)))
      (λ h. field_text_some (boolean_shown names g.0) h))
  | inr g ↦ subst (IsShown (enum_boolean leaf names)) (sym g.0) (none_shown (enum_boolean leaf names) value.Null refl refl)
]

-- ---- sets

set_plain : (list : List Code) (n : ℕ) (t : List ℕ) → set_text list n ≡ Ok t → (0 < length t) × (has_soh t ≡ false)
set_plain list n t h = by_tests (bits_of (codes_in list n) == n) (length own == 0) (has_soh own) refl refl h
  where
    own : List ℕ
    own = spaced_texts (codes_in list n)

    some : (k : ℕ) → (k == 0) ≡ false → 0 < k
    some zero e = true_false refl e
    some (suc k) e = omega arith

    by_tests : (a b c : Bool) → (length own == 0) ≡ b → has_soh own ≡ c → cond a (cond b (Err why.Empty) (cond {A = Result (List ℕ) V} c (Err why.Soh) (Ok own))) (Err why.UnknownCode) ≡ Ok t →
        (0 < length t) × (has_soh t ≡ false)
    by_tests false b c p q k = err_ok k
    by_tests true true c p q k = err_ok k
    by_tests true false true p q k = err_ok k
    by_tests true false false p q k = subst (λ t. (0 < length t) × (has_soh t ≡ false)) (ok_is k) (some (length own) p, q)

pub choice_set_shown : (names : List Named) (list : List Code) → AreCodes names list → list_all is_choice list ≡ true → ShowsGood (choice_set names list)
choice_set_shown names list are one_byte v good = subst (IsShown (choice_set names list)) (sym good.1) (by_bits good.0)
  where
    by_bits : (n : ℕ) → IsShown (choice_set names list) (value.Set n)
    by_bits zero = none_shown (choice_set names list) (value.Set 0) refl refl
    by_bits (suc n) = back_shown (choice_set names list) (value.Set (suc n)) (choice_set_sound names list are one_byte)
        (λ t h.
        let text = field_text_is (set_text list (suc n)) t h in
        let plain = set_plain list (suc n) t text in
        given_value (choice_set names list) t (value.Set (suc n)) (given_text (choice_set names list) t plain.0 plain.1)
        (ap (value_from (λ n. value.Set (natural n))) (set_back list (suc n) t one_byte are.texts text)))
        (λ h. field_text_some (set_text list (suc n)) h)
