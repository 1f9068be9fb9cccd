-- A value that was read of a text has a text again, unless it is a decimal whose exponent is outside the range that is shown.
use Rattle.std.proofs.Common.{◌≡◌, ◌⊎◌, inl, inr, ℕ, ◌+◌, ◌-◌, ◌^◌, ◌<◌, Bool, true, false, cond, List, [], ◌∷◌, ◌++◌, length, Some, None, Result, Ok, Err, refl, sym, ap, ◌∙◌, subst, arith, ℤ, pos, neg_ℤ}
use Rattle.std.specs.Prelude.{◌&&◌, ◌||◌, ◌==◌, not, unsigned_abs, int_le}
use Rattle.std.specs.List.{list_all, filter, AllByRecursion}
use Rattle.std.specs.Fmt.{signed_decimal}
use Rattle.std.proofs.lemmas.Bool.{eqb-true}
use Rattle.std.proofs.lemmas.Bool.Decides.{nat_tests}
use Rattle.std.proofs.lemmas.Slice.Eq.{bytes_eq-Decides}
use Rattle.sbe_types.specs.declared.kind.Leaf.{Leaf as LeafOf}
use Rattle.sbe_types.specs.declared.kind.Named.{Named}
use Rattle.sbe_types.specs.declared.message.Value.{Value, items_hidden-the_row-Value-0}
use Rattle.sbe_types.specs.declared.message.Value as value
use Rattle.sbe_types.specs.Numbers.{natural}
use Rattle.sbe_types.specs.Shown.{admits}
use Rattle.fix_values.specs.declared.rule.V.{V}
use Rattle.fix_values.specs.declared.rule.V.TheVariants as why
use Rattle.fix_values.specs.declared.rule.Dec.{Dec}
use Rattle.fix_values.specs.declared.rule.Code.{Code}
use Rattle.fix_values.specs.Numerals.{is_value}
use Rattle.fix_values.specs.Decimals.{leaf_number as judged_of, widened, dec, decimal_of, decimal_text, mantissa_under, shown_text, shown_parts}
use Rattle.fix_values.specs.Codes.{has_soh, bits_of, characters, codes_in, code_number, code_text, every_other, boolean_number, boolean_shown, is_choice, is_named, is_code_of, is_apart, spaced_texts, judged_set, same_number, set_number, set_text}
use Rattle.fix_values.specs.Values.{char_value, text_read, text_shown, value_of}
use Rattle.fix_values.specs.declared.rule.NumRule.TheVariants as spelling
use Rattle.fix_values.proofs.CodeLemmas.{is_byte, filter_all}
use Rattle.value_laws.proofs.Enough.{has_text}
use Rattle.value_laws.proofs.DecimalsBack.{decimals_back}
use Rattle.value_laws.proofs.Fractions.{one_form}
use Rattle.value_laws.proofs.Reduced.{read_reduced}
use Rattle.fix_dates.specs.Reading.{Reads}
use Rattle.fix_dates.specs.Days.{days}
use Rattle.fix_dates.specs.Months.{months}
use Rattle.fix_dates.specs.Clocks.{IsUnit}
use Rattle.date_answers.specs.Answers.{Instant, day_read, day_shown, month_read, month_shown, is_unit}
use Rattle.date_answers.proofs.Joined.{day_reads, month_reads}
use Rattle.date_answers.proofs.Shown.{day_told, month_told, unit_is}
use Rattle.date_answers.proofs.Again.{midnight_again, stamp_again}
use Rattle.bridge_rules.specs.Rules.{Rule, integer, integer_decimal, fixed_decimal, floating_decimal, single_char, char_array, enum_code, enum_number, enum_boolean, choice_set, raw_data, text_data, day_count, moment, month_year, any_text, constant, From, from_1970, from_midnight, UnitBy, always, on_wire, MonthLeaves}
use Rattle.bridge_rules.specs.Members.{decimal_value, month_value, members_in, second_number, two_members}
use Rattle.bridge_rules.specs.Texts.{text_by, text_if_any, field_text, judged_text, if_back, if_read, decimal_in_types, floating_text, moment_text}
use Rattle.bridge_rules.specs.Values.{TimeCount, value_in, missing_by, is_given, value_from, bytes_admitted, mantissa_of, floating_value, least_or_null, if_optional, instant_read, in_unit_of, moment_value, month_admitted, null_month, unit_of_null}
use Rattle.bridge_rules.specs.Items.{instant_item_of}
use Rattle.bridge_rules.specs.Sound.{AreCodes}
use Rattle.bridge_rules.specs.Bounds.{IsBounded}
use Rattle.bridge_rules.specs.Again.{is_far, is_far_or_none, IsAgain, HasText, IsWord, HasUnit, CanRepeat}
use Rattle.bridge_rules.proofs.OptionLemmas.{some_is, none_some, ok_is, if_some, and_first, and_second}
use Rattle.bridge_rules.proofs.BoolLemmas.{true_false, either, none_of, or_false, same_self, if_true, if_false}
use Rattle.bridge_rules.proofs.PlainRules.{given_ok, made_is, judged_is, optional_is, mantissa_is, mantissa_given, text_judged}
use Rattle.bridge_rules.proofs.CodeRules.{code_forth, long_is}
use Rattle.bridge_rules.proofs.ShownTexts.{plain_append}
use Rattle.bridge_rules.proofs.SoundRules.{char_is, floated_is, floated_so, given_plain, boolean_forth, month_admitted_is, told_is, compared_is}
use Rattle.bridge_rules.proofs.Sets.{set_is, first_among, not_zero_is, codes_back}
use Rattle.bridge_rules.proofs.ReadBack.{floating_text_is}
use Rattle.bridge_rules.proofs.DateTexts.{month_text_is, moment_text_is}
use Rattle.bridge_rules.proofs.Moments.{Fits, item_of, in_unit_is, instant_is}

-- a text that is shown is a field
shown_again : (rule : Rule) (v : Value) (r : Result (List ℕ) V) (t : List ℕ) → text_by rule v ≡ field_text r → r ≡ Ok t → IsAgain rule v
shown_again rule v r t by is = inl (Some t, by ∙ ap field_text is)

-- a value without a field
none_again : (rule : Rule) (v : Value) → text_by rule v ≡ Ok None → IsAgain rule v
none_again rule v is = inl (None, is)

-- the same of the value of a part that is optional
optional_again : (rule : Rule) (leaf : LeafOf) (null v : Value) → text_by rule null ≡ Ok None → if_optional leaf null ≡ Some v → IsAgain rule v
optional_again rule leaf null v none h = subst (IsAgain rule) (optional_is leaf null v h).1 (none_again rule null none)

-- ---- texts

-- a text of a field that may have no SOH may be written
may_be_written : (rule : Rule) (t : List ℕ) → ((b : ℕ) (bs : List ℕ) → is_given rule (b ∷ bs) ≡ not (has_soh (b ∷ bs))) → is_given rule t ≡ true → judged_text t (text_shown t) ≡ Ok t
may_be_written rule [] plain given = true_false given refl
may_be_written rule (b ∷ bs) plain given =
    ap (λ c. judged_text (b ∷ bs) (cond {A = Result Unit V} c (Err why.Soh) (Ok tt))) (given_plain rule (b ∷ bs) plain given)

char_array_again : (leaf : LeafOf) (t : List ℕ) (v : Value) → is_given (char_array leaf) t ≡ true → value_in (char_array leaf) t ≡ Ok v → IsAgain (char_array leaf) v
char_array_again leaf t v given h =
    let is = made_is value.Text (judged_text t (text_read leaf t)) v h in
    let same = text_judged t (text_read leaf t) is.0 is.1 in
    subst (IsAgain (char_array leaf)) (ap value.Text same.1 ∙ sym is.2)
    (shown_again (char_array leaf) (value.Text t) (judged_text t (text_shown t)) t refl (may_be_written (char_array leaf) t (λ b bs. refl) given))

any_text_again : (t : List ℕ) (v : Value) → is_given any_text t ≡ true → value_in any_text t ≡ Ok v → IsAgain any_text v
any_text_again t v given h =
    subst (IsAgain any_text) (ok_is h) (shown_again any_text (value.Text t) (judged_text t (text_shown t)) t refl (may_be_written any_text t (λ b bs. refl) given))

raw_again : (leaf : LeafOf) (s : List ℕ) → IsAgain (raw_data leaf) (value.Text s)
raw_again leaf [] = none_again (raw_data leaf) (value.Text []) refl
raw_again leaf (b ∷ bs) = shown_again (raw_data leaf) (value.Text (b ∷ bs)) (Ok (b ∷ bs)) (b ∷ bs) refl refl

passage_again : (leaf : LeafOf) (t : List ℕ) → is_given (text_data leaf) t ≡ true → IsAgain (text_data leaf) (value.Text t)
passage_again leaf [] given = true_false given refl
passage_again leaf (b ∷ bs) given =
    shown_again (text_data leaf) (value.Text (b ∷ bs)) (judged_text (b ∷ bs) (text_shown (b ∷ bs))) (b ∷ bs) refl (may_be_written (text_data leaf) (b ∷ bs) (λ c cs. refl) given)

single_char_again : (leaf : LeafOf) (t : List ℕ) (v : Value) → is_given (single_char leaf) t ≡ true → value_in (single_char leaf) t ≡ Ok v → IsAgain (single_char leaf) v
single_char_again leaf t v given h =
    let is = made_is value.Num (char_value leaf t) v h in
    let n = is.0 in
    let char = char_is leaf t n is.1 in
    let plain : has_soh (natural n ∷ []) ≡ false = subst (λ t. has_soh t ≡ false) char.0 (given_plain (single_char leaf) t (λ b bs. refl) given) in
    subst (IsAgain (single_char leaf)) (sym is.2)
    (shown_again (single_char leaf) (value.Num n) (cond (natural n == 1) (Err why.Spelling) (Ok (natural n ∷ []))) (natural n ∷ []) refl
    (if_false {X = Result (List ℕ) V} (natural n == 1) (Err why.Spelling) (Ok (natural n ∷ [])) (or_false (natural n == 1) false plain).0))

-- ---- codes

code_again : (rule : Rule) (list : List Code) (leaf : LeafOf) (t : List ℕ) (v : Value) → is_apart same_number list ≡ true → has_soh t ≡ false →
    ((n : ℤ) → text_by rule (value.Enum n) ≡ field_text (code_text list n)) → value_from value.Enum (code_number list leaf t) ≡ Ok v → IsAgain rule v
code_again rule list leaf t v apart plain by h =
    let is = made_is value.Enum (code_number list leaf t) v h in
    let forth = code_forth list leaf is.0 t apart plain is.1 in
    subst (IsAgain rule) (sym is.2) (shown_again rule (value.Enum is.0) (code_text list is.0) t (by is.0) forth.0)

boolean_again : (leaf : LeafOf) (names : List Named) (t : List ℕ) (v : Value) → value_in (enum_boolean leaf names) t ≡ Ok v → IsAgain (enum_boolean leaf names) v
boolean_again leaf names t v h =
    let is = made_is value.Enum (boolean_number names leaf t) v h in
    subst (IsAgain (enum_boolean leaf names)) (sym is.2)
    (shown_again (enum_boolean leaf names) (value.Enum is.0) (boolean_shown names is.0) t refl (boolean_forth names leaf t is.0 is.1).0)

-- ---- sets

every_other_plain : (here : Bool) (t : List ℕ) → has_soh t ≡ false → has_soh (every_other here t) ≡ false
every_other_plain here [] h = refl
every_other_plain true (b ∷ bs) h =
    let two = or_false (b == 1) (has_soh bs) h in
    none_of (b == 1) (has_soh (every_other false bs)) two.0 (every_other_plain false bs two.1)
every_other_plain false (b ∷ bs) h = every_other_plain true bs (or_false (b == 1) (has_soh bs) h).1

-- a code that is named by characters without SOH has none
named_plain : (cs : List ℕ) (code : Code) → has_soh cs ≡ false → is_named cs code ≡ true → has_soh code.text ≡ false
named_plain [] code plain h = true_false h refl
named_plain (c ∷ cs) code plain h =
    let two = or_false (c == 1) (has_soh cs) plain in
    elim (either (is_code_of c code)) [
      | inl t ↦ ap has_soh ((bytes_eq-Decides code.text (c ∷ [])).0 t) ∙ none_of (c == 1) false two.0 refl
      | inr f ↦ named_plain cs code two.1 (sym (ap (λ b. b || is_named cs code) f) ∙ h)
    ]

kept_plain : (cs : List ℕ) (list : List Code) → has_soh cs ≡ false → AllByRecursion (λ (c : Code). has_soh c.text ≡ false) (filter (is_named cs) list)
kept_plain cs [] plain = tt
kept_plain cs (x ∷ xs) plain = by_test (is_named cs x) refl (kept_plain cs xs plain)
  where
    by_test : (b : Bool) → is_named cs x ≡ b → AllByRecursion (λ (c : Code). has_soh c.text ≡ false) (filter (is_named cs) xs) → AllByRecursion (λ (c : Code). has_soh c.text ≡ false) (cond b (x ∷ filter (is_named cs) xs) (filter (is_named cs) xs))
    by_test true is more = (named_plain cs x plain is, more)
    by_test false is more = more

joined_plain : (list : List Code) → AllByRecursion (λ (c : Code). has_soh c.text ≡ false) list → has_soh (spaced_texts list) ≡ false
joined_plain [] all = refl
joined_plain (x ∷ []) all = all.0
joined_plain (x ∷ y ∷ ys) all = plain_append x.text (32 ∷ spaced_texts (y ∷ ys)) all.0 (joined_plain (y ∷ ys) all.1)

joined_some : (list : List Code) → list_all is_choice list ≡ true → 0 < bits_of list → (length (spaced_texts list) == 0) ≡ false
joined_some [] one some = absurd (omega (arith, some))
joined_some (x ∷ []) one some = ap (λ n. n == 0) (is_byte x (and_first (is_choice x) true one))
joined_some (x ∷ y ∷ ys) one some = long x.text (spaced_texts (y ∷ ys)) (is_byte x (and_first (is_choice x) _ one))
  where
    long : (a b : List ℕ) → length a ≡ 1 → (length (a ++ (32 ∷ b)) == 0) ≡ false
    long [] b h = absurd (omega (arith, h))
    long (c ∷ cs) b h = grind (arith, nat_tests)

set_again : (names : List Named) (list : List Code) → AreCodes names list → list_all is_choice list ≡ true → (t : List ℕ) (v : Value) → has_soh t ≡ false → value_in (choice_set names list) t ≡ Ok v → IsAgain (choice_set names list) v
set_again names list are one_byte t v plain h =
    let is = made_is (λ n. value.Set (natural n)) (set_number list t) v h in
    let set = set_is list t is.0 is.1 in
    let F = filter (is_named (characters t)) list in
    let n = bits_of F in
    let some = first_among list t set.0 set.1 in
    let v_is : v ≡ value.Set n = is.2 ∙ ap (λ z. value.Set (natural z)) (sym set.2) in
    let chosen : codes_in list n ≡ F = codes_back (is_named (characters t)) list one_byte are.numbers in
    let text : set_text list n ≡ Ok (spaced_texts F) =
    ap (λ C. judged_set (bits_of C) n (spaced_texts C)) chosen
    ∙ judged n (spaced_texts F) (joined_some F (filter_all (is_named (characters t)) is_choice list one_byte) some) (joined_plain F (kept_plain (characters t) list (every_other_plain true t plain))) in
    subst (IsAgain (choice_set names list)) (sym v_is)
    (shown_again (choice_set names list) (value.Set n) (set_text list n) (spaced_texts F) (ap (λ o. text_if_any o (λ n. set_text list n)) (not_zero_is n some)) text)
  where
    judged : (n : ℕ) (s : List ℕ) → (length s == 0) ≡ false → has_soh s ≡ false → judged_set n n s ≡ Ok s
    judged n s long bare =
        if_true {X = Result (List ℕ) V} (n == n) _ (Err why.UnknownCode) (same_self n)
        ∙ if_false {X = Result (List ℕ) V} (length s == 0) (Err why.Empty) (cond (has_soh s) (Err why.Soh) (Ok s)) long ∙ if_false {X = Result (List ℕ) V} (has_soh s) (Err why.Soh) (Ok s) bare

-- ---- decimals

-- a decimal of 64 bits has a text, unless its exponent is outside the range that is shown
decimal_again : (m e : ℤ) → unsigned_abs m < 2 ^ 64 → ((t : List ℕ) × (decimal_text (dec m e) ≡ Ok t)) ⊎ ((is_far e ≡ true) × (decimal_text (dec m e) ≡ Err why.Range))
decimal_again m e small = elim (either (int_le (neg_ℤ (pos 18)) e && int_le e (pos 18))) [
  | inl t ↦ inl (has_text m e small (and_first (int_le (neg_ℤ (pos 18)) e) _ t) (and_second (int_le (neg_ℤ (pos 18)) e) _ t))
  | inr f ↦ inr (ap not f, if_false {X = Result (List ℕ) V} (int_le (neg_ℤ (pos 18)) e && int_le e (pos 18)) (shown_text (shown_parts (dec m e))) (Err why.Range) f)
]

fixed_again : (leaf : LeafOf) (e : ℤ) → IsWord leaf → (t : List ℕ) (v : Value) → value_in (fixed_decimal leaf e) t ≡ Ok v → IsAgain (fixed_decimal leaf e) v
fixed_again leaf e small t v h =
    let is = made_is (λ m. decimal_value (value.Num m)) (mantissa_of leaf e (decimal_of t)) v h in
    let m = is.0 in
    let d = mantissa_given leaf e (decimal_of t) m is.1 in
    let fits = (judged_is leaf (mantissa_under d.0 e) m d.2).1 in
    let by : text_by (fixed_decimal leaf e) (decimal_value (value.Num m)) ≡ field_text (decimal_text (dec m e)) = ap (λ o. text_if_any o (λ m. decimal_text (dec m e))) (mantissa_is (value.Num m)) in
    subst (IsAgain (fixed_decimal leaf e)) (sym is.2)
    (elim (decimal_again m e (small m fits).1) [
      | inl own ↦ shown_again (fixed_decimal leaf e) (decimal_value (value.Num m)) (decimal_text (dec m e)) own.0 by own.1
      | inr far ↦ inr (far.0, by ∙ ap field_text far.1)
    ])

floating_again : (m e : LeafOf) → IsWord m → (t : List ℕ) (v : Value) → value_in (floating_decimal m e) t ≡ Ok v → IsAgain (floating_decimal m e) v
floating_again m e small t v h =
    let is = made_is floating_value (decimal_in_types m e (decimal_of t)) v h in
    let d = is.0 in
    let own = floated_is m e (decimal_of t) d is.1 in
    let word = small d.mantissa own.1 in
    let by = floating_text_is m e d in
    let back = λ (t : List ℕ). decimal_in_types m e (decimal_of t) in
    subst (IsAgain (floating_decimal m e)) (sym is.2)
    (elim (decimal_again d.mantissa d.exponent word.1) [
      | inl text ↦
          let read = decimals_back d.mantissa d.exponent text.0 word.0 text.1 in
          let same : read.0 ≡ d = one_form read.0 d (read_reduced text.0 read.0 read.1) (read_reduced t d own.0) read.2 in
          let again : back text.0 ≡ Ok d = ap (decimal_in_types m e) (read.1 ∙ ap Ok same) ∙ floated_so m e d own.1 own.2 in
          shown_again (floating_decimal m e) (floating_value d) (floating_text m e (Some d.exponent) d.mantissa) text.0 by (ap (if_back back) text.1 ∙ ap (if_read text.0) again)
      | inr far ↦ inr (far_exponent d ∙ far.0, by ∙ ap field_text (ap (if_back back) far.1))
    ])
  where
    far_exponent : (d : Dec) → is_far_or_none (second_number (members_in (floating_value d))) ≡ is_far d.exponent
    far_exponent d = simp items_hidden-the_row-Value-0

-- ---- dates and times

day_again : (leaf : LeafOf) (t : List ℕ) (v : Value) → value_in (day_count leaf) t ≡ Ok v → IsAgain (day_count leaf) v
day_again leaf t v h =
    let is = made_is value.Num (judged_of leaf (day_read t)) v h in
    let read = (judged_is leaf (day_read t) is.0 is.1).0 in
    let own = day_told is.0 t (subst (Reads days t) read (day_reads t)) in
    subst (IsAgain (day_count leaf)) (sym is.2) (shown_again (day_count leaf) (value.Num is.0) (day_shown is.0) own.0 refl own.1)

month_again : (leaves : MonthLeaves) (t : List ℕ) (v : Value) → value_in (month_year leaves) t ≡ Ok v → IsAgain (month_year leaves) v
month_again leaves t v h =
    let is = made_is month_value (month_admitted leaves (month_read t)) v h in
    let read = (month_admitted_is leaves (month_read t) is.0 is.1).0 in
    let own = month_told is.0 t (subst (Reads months t) read (month_reads t)) in
    subst (IsAgain (month_year leaves)) (sym is.2) (shown_again (month_year leaves) (month_value is.0) (month_shown is.0) own.0 (month_text_is leaves is.0) own.1)

-- what is read of a moment's text has a text in each unit in which it is whole
instant_again : (from : From) (t : List ℕ) (i : Instant) (n : ℤ) (unit : ℕ) → instant_read from t ≡ Ok i → IsUnit unit → widened n (9 - unit) ≡ i.nanos → (u : List ℕ) × (moment_text from (Some unit) n ≡ Ok u)
instant_again from_1970 t i n unit read known wide = stamp_again t i n unit read known wide
instant_again from_midnight t i n unit read known wide = midnight_again t i n unit read known wide

fitting_unit : (leaf : LeafOf) (unit : UnitBy) (x : TimeCount) → HasUnit unit → Fits leaf unit x → is_unit x.unit ≡ true
fitting_unit leaf (always u) x own fits = ap is_unit (sym (eqb-true u x.unit (and_second (is_value leaf x.count) _ fits))) ∙ own
fitting_unit leaf (on_wire l) x own fits = and_second (is_value l (pos x.unit)) _ (and_second (is_value leaf x.count) _ fits)

moment_again : (from : From) (leaf : LeafOf) (unit : UnitBy) → HasUnit unit → (t : List ℕ) (v : Value) → value_in (moment from leaf unit) t ≡ Ok v → IsAgain (moment from leaf unit) v
moment_again from leaf unit known t v h =
    let is = made_is (moment_value unit) (in_unit_of leaf unit (instant_read from t)) v h in
    let x = is.0 in
    let own = in_unit_is leaf unit (instant_read from t) x is.1 in
    let told = told_is (instant_item_of unit) (instant_read from t) (item_of unit x) own.0 in
    let wide = sym (instant_is told.2).0 in
    let text = instant_again from t told.0 x.count x.unit told.1 (unit_is x.unit (fitting_unit leaf unit x known own.1)) wide in
    subst (IsAgain (moment from leaf unit)) (sym is.2)
    (shown_again (moment from leaf unit) (moment_value unit x) (moment_text from (Some x.unit) x.count) text.0 (moment_text_is from leaf unit x own.1) text.1)

-- ---- all rules

-- a value that a text is read as
read_again : (rule : Rule) → IsBounded rule → CanRepeat rule → (t : List ℕ) (v : Value) → is_given rule t ≡ true → value_in rule t ≡ Ok v → IsAgain rule v
read_again (integer leaf) b r t v given h =
    let is = made_is value.Num (value_of spelling.Int leaf t) v h in
    subst (IsAgain (integer leaf)) (sym is.2) (shown_again (integer leaf) (value.Num is.0) (Ok (signed_decimal is.0)) (signed_decimal is.0) refl refl)
read_again (integer_decimal leaf) b r t v given h =
    let is = made_is value.Num (value_of spelling.Decimal leaf t) v h in
    subst (IsAgain (integer_decimal leaf)) (sym is.2) (shown_again (integer_decimal leaf) (value.Num is.0) (Ok (signed_decimal is.0)) (signed_decimal is.0) refl refl)
read_again (fixed_decimal leaf e) b r t v given h = fixed_again leaf e r t v h
read_again (floating_decimal leaf e) b r t v given h = floating_again leaf e r t v h
read_again (single_char leaf) b r t v given h = single_char_again leaf t v given h
read_again (char_array leaf) b r t v given h = char_array_again leaf t v given h
read_again (enum_code leaf names list) b r t v given h =
    code_again (enum_code leaf names list) list leaf t v b.numbers (given_plain (enum_code leaf names list) t (λ c cs. refl) given) (λ n. refl) h
read_again (enum_number leaf names list) b r t v given h =
    code_again (enum_number leaf names list) list leaf t v b.0.numbers (given_plain (enum_number leaf names list) t (λ c cs. refl) given) (λ n. refl) h
read_again (enum_boolean leaf names) b r t v given h = boolean_again leaf names t v h
read_again (choice_set names list) b r t v given h = set_again names list b.0 b.1 t v (given_plain (choice_set names list) t (λ c cs. refl) given) h
read_again (raw_data leaf) b r t v given h =
    let is = made_is value.Text (bytes_admitted leaf t) v h in
    subst (IsAgain (raw_data leaf)) (sym is.2) (raw_again leaf is.0)
read_again (text_data leaf) b r t v given h =
    let is = made_is value.Text (bytes_admitted leaf t) v h in
    subst (IsAgain (text_data leaf)) (ap value.Text (long_is leaf t is.0 is.1).1 ∙ sym is.2) (passage_again leaf t given)
read_again (day_count leaf) b r t v given h = day_again leaf t v h
read_again (moment from leaf unit) b r t v given h = moment_again from leaf unit r t v h
read_again (month_year leaves) b r t v given h = month_again leaves t v h
read_again any_text b r t v given h = any_text_again t v given h
read_again (constant rule own) b r t v given h =
    let is = compared_is own (value_in rule t) v h in
    subst (IsAgain (constant rule own)) (sym is.1) (read_again rule b.0 r t own (inner_given t given) is.0)
  where
    inner_given : (t : List ℕ) → is_given (constant rule own) t ≡ true → is_given rule t ≡ true
    inner_given [] k = k
    inner_given (c ∷ cs) k = k

-- a value that a part has without a field
missed_again : (rule : Rule) (v : Value) → missing_by rule ≡ Some v → IsAgain rule v
missed_again (integer leaf) v h = optional_again (integer leaf) leaf value.Null v refl h
missed_again (integer_decimal leaf) v h = optional_again (integer_decimal leaf) leaf value.Null v refl h
missed_again (fixed_decimal leaf e) v h = optional_again (fixed_decimal leaf e) leaf (decimal_value value.Null) v (simp items_hidden-the_row-Value-0) h
missed_again (floating_decimal leaf e) v h = optional_again (floating_decimal leaf e) leaf (two_members value.Null (least_or_null e)) v (simp items_hidden-the_row-Value-0) h
missed_again (single_char leaf) v h = optional_again (single_char leaf) leaf value.Null v refl h
missed_again (char_array leaf) v h = optional_again (char_array leaf) leaf value.Null v refl h
missed_again (enum_code leaf names list) v h = optional_again (enum_code leaf names list) leaf value.Null v refl h
missed_again (enum_number leaf names list) v h = optional_again (enum_number leaf names list) leaf value.Null v refl h
missed_again (enum_boolean leaf names) v h = optional_again (enum_boolean leaf names) leaf value.Null v refl h
missed_again (choice_set names list) v h = subst (IsAgain (choice_set names list)) (some_is h) (none_again (choice_set names list) (value.Set 0) refl)
missed_again (raw_data leaf) v h =
    let is = if_some (admits leaf (pos 0)) (Some (value.Text [])) v h in
    subst (IsAgain (raw_data leaf)) (some_is is.1) (none_again (raw_data leaf) (value.Text []) refl)
missed_again (text_data leaf) v h =
    let is = if_some (admits leaf (pos 0)) (Some (value.Text [])) v h in
    subst (IsAgain (text_data leaf)) (some_is is.1) (none_again (text_data leaf) (value.Text []) refl)
missed_again (day_count leaf) v h = optional_again (day_count leaf) leaf value.Null v refl h
missed_again (moment from leaf unit) v h = optional_again (moment from leaf unit) leaf (two_members value.Null (unit_of_null unit)) v (simp items_hidden-the_row-Value-0) h
missed_again (month_year leaves) v h = optional_again (month_year leaves) leaves.year (null_month leaves) v (simp items_hidden-the_row-Value-0) h
missed_again any_text v h = none_some h
missed_again (constant rule own) v h = none_some h

-- each value of a text has a text again, or its exponent is outside the range that is shown
pub texts_again : (rule : Rule) → IsBounded rule → CanRepeat rule → HasText rule
texts_again rule bounded repeats v of_text = elim of_text [
  | inl read ↦ let given = given_ok rule read.0 v read.1 in read_again rule bounded repeats read.0 v given.0 given.1
  | inr missed ↦ missed_again rule v missed
]
