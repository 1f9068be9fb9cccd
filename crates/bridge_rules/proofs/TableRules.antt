-- The rule of each kind of a checked schema keeps what the laws of messages ask.
use Rattle.std.proofs.Common.{◌≡◌, ◌⊎◌, inl, inr, ℕ, zero, suc, ◌+◌, ◌-◌, ◌^◌, ◌<◌, ◌≤◌, Bool, true, false, cond, List, [], ◌∷◌, length, codes, Option, Some, None, Result, Ok, Err, refl, sym, ap, ◌∙◌, subst, arith, ℤ, pos, negsuc, FitsSigned}
use Rattle.std.specs.Prelude.{⊤, ◌&&◌, ◌||◌, ◌==◌, not, ◌-ℤ◌, int_le, nat_le, unsigned_abs, find}
use Rattle.std.specs.Int.{w128}
use Rattle.std.specs.List.{list_all, AllByRecursion}
use Rattle.std.specs.Ordering.{int_eq}
use Rattle.std.specs.Fmt.{signed_decimal}
use Rattle.std.proofs.lemmas.Int.{ints}
use Rattle.std.proofs.lemmas.Bool.Decides.{nat_tests, Decides-int_eq}
use Rattle.std.proofs.lemmas.Slice.Eq.{bytes_eq-Decides}
use Rattle.sbe_types.specs.declared.kind.Primitive.{Primitive}
use Rattle.sbe_types.specs.declared.kind.Primitive.TheVariants.{Char, I8, I16, I32, I64, U8, U16, U32, U64}
use Rattle.sbe_types.specs.declared.kind.Leaf.{Leaf as LeafOf}
use Rattle.sbe_types.specs.declared.kind.Named.{Named}
use Rattle.sbe_types.specs.declared.kind.ConstValue.{ConstValue}
use Rattle.sbe_types.specs.declared.kind.ConstValue.TheVariants as const
use Rattle.sbe_types.specs.declared.kind.Member.{Member}
use Rattle.sbe_types.specs.declared.kind.Kind.{Kind, Leaf, Enum, Set, Const, Comp', Row_of-Member, end_of-Member, more_of-Member, items-the_row-Member}
use Rattle.sbe_types.specs.declared.message.Value.{Value}
use Rattle.sbe_types.specs.declared.message.Value as value
use Rattle.sbe_types.specs.Numbers.{natural, prim_width}
use Rattle.sbe_types.specs.Shown.{is_listed}
use Rattle.schema_rules.specs.Ranges.{is_number_of}
use Rattle.schema_facts.specs.InOrder.{IsLeafFrom, IsKindFrom, AreKindsFrom, IsBitOf, IsConstantInOrder}
use Rattle.fix_values.specs.declared.rule.V.{V}
use Rattle.fix_values.specs.declared.rule.V.TheVariants as why
use Rattle.fix_values.specs.declared.rule.Code.{Code}
use Rattle.fix_values.specs.Numerals.{is_value, integer_of}
use Rattle.fix_values.specs.Codes.{is_apart, same_text, same_truth, has_soh, code_text, found_text, boolean_shown}
use Rattle.fix_values.proofs.NumeralLemmas.{both}
use Rattle.value_laws.proofs.ReadBack.{spelled_back, shown_spelled}
use Rattle.sbe_types.specs.Shown.{is_optional}
use Rattle.fix_values.specs.Decimals.{dec}
use Rattle.fix_values.proofs.LeafLemmas.{fits_is_value}
use Rattle.date_answers.specs.Answers.{is_unit}
use Rattle.bridge_rules.specs.Rules.{Rule, integer, integer_decimal, fixed_decimal, floating_decimal, single_char, char_array, enum_code, enum_number, enum_boolean, choice_set, day_count, moment, month_year, any_text, constant, From, is_char, from_1970, from_midnight, always, on_wire}
use Rattle.bridge_rules.specs.Items.{Item, digit_or_number, written_number_item, code_item, number, bytes, on_day, without_text, written_number, reduced_form}
use Rattle.bridge_rules.specs.Bounds.{IsMapped, IsNarrow, IsUnsigned, IsOwnValue, IsBounded, CanShow}
use Rattle.bridge_rules.specs.Datatypes.{NamedCode, Datatype, whole_number, decimal_number, character, text, boolean, timestamp, time_of_day, calendar_day, month_of_year, raw, code_set, character_set, unbridged}
use Rattle.bridge_rules.specs.Table.{rule_if, is_char_leaf, is_integer, is_array, is_number, is_digit, text_rule, leaf_rule, by_codes, enum_rule, set_rule, decimal_by, constant_unit, moment_by, month_by, kinds_of, composite_rule, const_number, every_number, every_byte, text_constant, number_constant, const_rule, rule_of, codes_of, number_codes, number_text, choice_codes, code_with, are_named, is_optional_byte, is_single_byte}
use Rattle.bridge_rules.proofs.OptionLemmas.{some_is, none_some, ok_is, and_then_is, and_first, and_second, if_some}
use Rattle.bridge_rules.proofs.BoolLemmas.{true_false, either, or_left, or_right, if_true, if_false}
use Rattle.bridge_rules.proofs.PlainRules.{err_ok}
use Rattle.bridge_rules.proofs.TypeFacts.{leaf_short, leaf_narrow, char_unsigned, AreDifferent, different, codes_are, codes_of_are, number_codes_are, choice_codes_are, codes_short, numbers_short, AreBits, choices_fit, primitive_short}
use Rattle.bridge_rules.proofs.ShownTexts.{integer_shown}
use Rattle.bridge_rules.proofs.DateTexts.{day_count_shown}
use Rattle.bridge_rules.proofs.BoundedRules.{bounded_shown}
use Rattle.bridge_rules.proofs.ReadBack.{unscaled_one, any_text_shown, single_char_shown}

abbrev Kept : Rule → Type 0
Kept rule = IsBounded rule × CanShow rule

so_is : (b : Bool) (r rule : Rule) → rule_if b r ≡ Some rule → (b ≡ true) × (r ≡ rule)
so_is true r rule h = (refl, some_is h)
so_is false r rule h = none_some h

kept_so : (b : Bool) (r rule : Rule) → rule_if b r ≡ Some rule → (b ≡ true → Kept r) → Kept rule
kept_so b r rule h kept = let is = so_is b r rule h in subst Kept is.1 (kept is.0)

-- ---- leaves

char_is : (p : Primitive) → is_char p ≡ true → p ≡ Char
char_is Char h = refl
char_is I8 h = true_false h refl
char_is I16 h = true_false h refl
char_is I32 h = true_false h refl
char_is I64 h = true_false h refl
char_is U8 h = true_false h refl
char_is U16 h = true_false h refl
char_is U32 h = true_false h refl
char_is U64 h = true_false h refl

letter_kept : (leaf : LeafOf) → IsLeafFrom 1 leaf → is_char_leaf leaf ≡ true → Kept (single_char leaf)
letter_kept leaf facts is = (char_unsigned 1 leaf facts (char_is leaf.prim (and_second (is_number leaf.shape) _ is)), tt)

text_kept : (leaf : LeafOf) (rule : Rule) → IsLeafFrom 1 leaf → text_rule leaf ≡ Some rule → Kept rule
text_kept leaf rule facts h = by_test (is_char_leaf leaf) refl h
  where
    by_test : (b : Bool) → is_char_leaf leaf ≡ b → cond b (Some (single_char leaf)) (rule_if (is_array leaf.shape) (char_array leaf)) ≡ Some rule → Kept rule
    by_test true is k = subst Kept (some_is k) (letter_kept leaf facts is)
    by_test false is k = kept_so (is_array leaf.shape) (char_array leaf) rule k (λ is. (tt, tt))

leaf_kept : (leaf : LeafOf) (d : Datatype) (rule : Rule) → IsLeafFrom 1 leaf → leaf_rule leaf d ≡ Some rule → Kept rule
leaf_kept leaf whole_number rule facts h = kept_so (is_integer leaf) (integer leaf) rule h (λ is. (tt, leaf_short 1 leaf facts))
leaf_kept leaf decimal_number rule facts h = kept_so (is_integer leaf) (integer_decimal leaf) rule h (λ is. (leaf_narrow 1 leaf facts, leaf_short 1 leaf facts))
leaf_kept leaf calendar_day rule facts h = kept_so (is_integer leaf) (day_count leaf) rule h (λ is. (tt, tt))
leaf_kept leaf character rule facts h = kept_so (is_char_leaf leaf) (single_char leaf) rule h (λ is. letter_kept leaf facts is)
leaf_kept leaf text rule facts h = text_kept leaf rule facts h
leaf_kept leaf boolean rule facts h = none_some h
leaf_kept leaf timestamp rule facts h = none_some h
leaf_kept leaf time_of_day rule facts h = none_some h
leaf_kept leaf month_of_year rule facts h = none_some h
leaf_kept leaf raw rule facts h = none_some h
leaf_kept leaf (code_set cs) rule facts h = none_some h
leaf_kept leaf (character_set cs) rule facts h = none_some h
leaf_kept leaf unbridged rule facts h = none_some h

-- ---- enums

figure_digit : (j : ℕ) → j ≤ 9 → integer_of ((48 + j) ∷ []) ≡ Some (pos (48 + j) -ℤ pos 48)
figure_digit zero h = refl
figure_digit (suc zero) h = refl
figure_digit (suc (suc zero)) h = refl
figure_digit (suc (suc (suc zero))) h = refl
figure_digit (suc (suc (suc (suc zero)))) h = refl
figure_digit (suc (suc (suc (suc (suc zero))))) h = refl
figure_digit (suc (suc (suc (suc (suc (suc zero)))))) h = refl
figure_digit (suc (suc (suc (suc (suc (suc (suc zero))))))) h = refl
figure_digit (suc (suc (suc (suc (suc (suc (suc (suc zero)))))))) h = refl
figure_digit (suc (suc (suc (suc (suc (suc (suc (suc (suc zero))))))))) h = refl
figure_digit (suc (suc (suc (suc (suc (suc (suc (suc (suc (suc j)))))))))) h = absurd (omega (arith, h))

digit_number : (n : ℤ) → int_le (pos 48) n && int_le n (pos 57) ≡ true → integer_of (natural n ∷ []) ≡ Some (n -ℤ pos 48)
digit_number (negsuc k) h = true_false (and_first (int_le (pos 48) (negsuc k)) (int_le (negsuc k) (pos 57)) h) refl
digit_number (pos k) h =
    let j = k - 48 in
    let low : 48 ≤ k = grind (arith, nat_tests, h) in
    let high : k ≤ 57 = grind (arith, nat_tests, h) in
    let is : 48 + j ≡ k = omega (arith, low) in
    subst (λ k. integer_of (k ∷ []) ≡ Some (pos k -ℤ pos 48)) is (figure_digit j (omega (arith, high)))

-- the number's text spells it, or the digit that its character is
figure_text : (prim : Primitive) (n : ℤ) → is_number_of prim n ≡ true → (is_char prim ≡ false) ⊎ (int_le (pos 48) n && int_le n (pos 57) ≡ true) → integer_of (number_text prim n) ≡ Some (digit_or_number prim n)
figure_text prim n is kind = by_test (is_char prim) refl
  where
    by_test : (b : Bool) → is_char prim ≡ b → integer_of (cond b (natural n ∷ []) (signed_decimal n)) ≡ Some (cond b (n -ℤ pos 48) n)
    by_test true char = elim kind [
      | inl plain ↦ true_false char plain
      | inr digit ↦ digit_number n digit
    ]
    by_test false plain = spelled_back (signed_decimal n) n (shown_spelled n (primitive_short prim n is).0)

found_is : (c : Code) (t : List ℕ) → found_text (Some c) ≡ Ok t → c.text ≡ t
found_is c t h = by_test (has_soh c.text) h
  where
    by_test : (b : Bool) → ◌≡◌ {A = Result (List ℕ) V} (cond b (Err why.Soh) (Ok c.text)) (Ok t) → c.text ≡ t
    by_test true k = err_ok k
    by_test false k = ok_is k

number_text_is : (prim : Primitive) (names : List Named) (n : ℤ) (t : List ℕ) → code_text (number_codes prim names) n ≡ Ok t → (number_text prim n ≡ t) × (is_listed names n ≡ true)
number_text_is prim [] n t h = err_ok h
number_text_is prim (name ∷ names) n t h =
    let c = code_with name (number_text prim name.number) in
    let rest = find (λ (code : Code). int_eq code.number n) (number_codes prim names) in
    elim (either (int_eq name.number n)) [
      | inl hit ↦ (
        ap (number_text prim) (sym ((Decides-int_eq name.number n).0 hit)) ∙ found_is c t (sym (ap found_text (if_true (int_eq name.number n) (Some c) rest hit)) ∙ h),
        or_left (int_eq name.number n) _ hit,
      )
      | inr miss ↦
          let more = number_text_is prim names n t (sym (ap found_text (if_false (int_eq name.number n) (Some c) rest miss)) ∙ h) in
          (more.0, or_right (int_eq name.number n) _ more.1)
    ]

listed_so : (P : ℤ → Type 0) (names : List Named) (n : ℤ) → AllByRecursion (λ (v : Named). P v.number) names → is_listed names n ≡ true → P n
listed_so P [] n all h = true_false h refl
listed_so P (name ∷ names) n all h = elim (either (int_eq name.number n)) [
  | inl hit ↦ subst P ((Decides-int_eq name.number n).0 hit) all.0
  | inr miss ↦ listed_so P names n all.1 (sym (ap (λ b. b || is_listed names n) miss) ∙ h)
]

digit_listed : (names : List Named) (n : ℤ) → list_all is_digit names ≡ true → is_listed names n ≡ true → int_le (pos 48) n && int_le n (pos 57) ≡ true
digit_listed [] n all h = true_false h refl
digit_listed (name ∷ names) n all h =
    let is = both (is_digit name) (list_all is_digit names) all in
    elim (either (int_eq name.number n)) [
      | inl hit ↦ subst (λ n. int_le (pos 48) n && int_le n (pos 57) ≡ true) ((Decides-int_eq name.number n).0 hit) is.0
      | inr miss ↦ digit_listed names n is.1 (sym (ap (λ b. b || is_listed names n) miss) ∙ h)
    ]

enum_kept : (leaf : LeafOf) (names : List Named) (d : Datatype) (rule : Rule) → AreDifferent names → AllByRecursion (λ (v : Named). is_number_of leaf.prim v.number ≡ true) names → IsMapped d →
    enum_rule leaf names d ≡ Some rule → Kept rule
enum_kept leaf names (code_set cs) rule apart numbers short h =
    kept_so (is_apart same_text (codes_of leaf.prim cs names)) (enum_code leaf names (codes_of leaf.prim cs names)) rule h
    (λ texts. (codes_are names (codes_of leaf.prim cs names) apart (codes_of_are leaf.prim cs names) texts, codes_short leaf.prim cs names short))
enum_kept leaf names character rule apart numbers short h =
    kept_so (is_apart same_text (number_codes leaf.prim names)) (enum_code leaf names (number_codes leaf.prim names)) rule h
    (λ texts. (codes_are names (number_codes leaf.prim names) apart (number_codes_are leaf.prim names) texts, numbers_short leaf.prim names numbers))
enum_kept leaf names text rule apart numbers short h =
    kept_so (is_apart same_text (number_codes leaf.prim names)) (enum_code leaf names (number_codes leaf.prim names)) rule h
    (λ texts. (codes_are names (number_codes leaf.prim names) apart (number_codes_are leaf.prim names) texts, numbers_short leaf.prim names numbers))
enum_kept leaf names whole_number rule apart numbers short h =
    let own = number_codes leaf.prim names in
    let test = if_some (not (is_char leaf.prim) || list_all is_digit names) (by_codes enum_number leaf names own) rule h in
    kept_so (is_apart same_text own) (enum_number leaf names own) rule test.1
    (λ texts. (
      (
        codes_are names own apart (number_codes_are leaf.prim names) texts,
        λ n t told.
            let is = number_text_is leaf.prim names n t told in
            ap integer_of (sym is.0) ∙ figure_text leaf.prim n (listed_so (λ n. is_number_of leaf.prim n ≡ true) names n numbers is.1) (by_kind (is_char leaf.prim) refl test.0 n is.1),
      ),
      numbers_short leaf.prim names numbers,
    ))
  where
    by_kind : (b : Bool) → is_char leaf.prim ≡ b → not b || list_all is_digit names ≡ true → (n : ℤ) → is_listed names n ≡ true → (is_char leaf.prim ≡ false) ⊎ (int_le (pos 48) n && int_le n (pos 57) ≡ true)
    by_kind true is all n listed = inr (digit_listed names n all listed)
    by_kind false is all n listed = inl is
enum_kept leaf names boolean rule apart numbers short h = kept_so (is_apart same_truth names) (enum_boolean leaf names) rule h (λ is. (is, tt))
enum_kept leaf names decimal_number rule apart numbers short h = none_some h
enum_kept leaf names timestamp rule apart numbers short h = none_some h
enum_kept leaf names time_of_day rule apart numbers short h = none_some h
enum_kept leaf names calendar_day rule apart numbers short h = none_some h
enum_kept leaf names month_of_year rule apart numbers short h = none_some h
enum_kept leaf names raw rule apart numbers short h = none_some h
enum_kept leaf names (character_set cs) rule apart numbers short h = none_some h
enum_kept leaf names unbridged rule apart numbers short h = none_some h

-- ---- sets

bits_are : (k : ℕ) → k ≤ 8 → (names : List Named) → AllByRecursion (λ (v : Named). IsBitOf k v.number) names → AreBits names
bits_are k few [] all = tt
bits_are k few (name ∷ names) all = (by_number name.number all.0, bits_are k few names all.1)
  where
    by_number : (n : ℤ) → IsBitOf k n → int_le (pos 0) n && int_le n (pos 63) ≡ true
    by_number (pos b) low = grind (arith, nat_tests, low, few)
    by_number (negsuc b) low = absurd low

narrow_prim : (prim : Primitive) → prim_width prim ≤ 8
narrow_prim Char = omega arith
narrow_prim I8 = omega arith
narrow_prim I16 = omega arith
narrow_prim I32 = omega arith
narrow_prim I64 = omega arith
narrow_prim U8 = omega arith
narrow_prim U16 = omega arith
narrow_prim U32 = omega arith
narrow_prim U64 = omega arith

set_kept : (names : List Named) (d : Datatype) (rule : Rule) → AreDifferent names → AreBits names → set_rule names d ≡ Some rule → Kept rule
set_kept names (character_set cs) rule apart bits h =
    let own = choice_codes cs names in
    kept_so (list_all (λ (c : NamedCode). length c.text == 1) cs && is_apart same_text own) (choice_set names own) rule h
    (λ is.
    let parts = both (list_all (λ (c : NamedCode). length c.text == 1) cs) (is_apart same_text own) is in
    ((codes_are names own apart (choice_codes_are cs names) parts.1, choices_fit cs names bits parts.0), tt))
set_kept names whole_number rule apart bits h = none_some h
set_kept names decimal_number rule apart bits h = none_some h
set_kept names character rule apart bits h = none_some h
set_kept names text rule apart bits h = none_some h
set_kept names boolean rule apart bits h = none_some h
set_kept names timestamp rule apart bits h = none_some h
set_kept names time_of_day rule apart bits h = none_some h
set_kept names calendar_day rule apart bits h = none_some h
set_kept names month_of_year rule apart bits h = none_some h
set_kept names raw rule apart bits h = none_some h
set_kept names (code_set cs) rule apart bits h = none_some h
set_kept names unbridged rule apart bits h = none_some h

-- ---- composites

abbrev AreKinds : List Kind → Type 0
AreKinds [] = ⊤
AreKinds (k ∷ ks) = IsKindFrom 1 k × AreKinds ks

members_are : {n : _} (row : Row_of-Member n) → AreKindsFrom 1 row → AreKinds (kinds_of (items-the_row-Member n row))
members_are end_of-Member all = tt
members_are (more_of-Member name offset kind rest) all = (all.0, members_are rest all.1)

decimal_kept : (ks : List Kind) (rule : Rule) → AreKinds ks → decimal_by ks ≡ Some rule → Kept rule
decimal_kept [] rule all h = none_some h
decimal_kept (Enum l2 ns ∷ ks) rule all h = none_some h
decimal_kept (Set p ns ∷ ks) rule all h = none_some h
decimal_kept (Comp' n row ∷ ks) rule all h = none_some h
decimal_kept (Const c ∷ ks) rule all h = none_some h
decimal_kept (Leaf m ∷ []) rule all h = none_some h
decimal_kept (Leaf m ∷ Enum l2 ns ∷ ks) rule all h = none_some h
decimal_kept (Leaf m ∷ Set p ns ∷ ks) rule all h = none_some h
decimal_kept (Leaf m ∷ Comp' n row ∷ ks) rule all h = none_some h
decimal_kept (Leaf m ∷ Const (const.Text t) ∷ ks) rule all h = none_some h
decimal_kept (Leaf m ∷ Const (const.Code p name) ∷ ks) rule all h = none_some h
decimal_kept (Leaf m ∷ Const (const.Num e) ∷ []) rule all h = kept_so (is_integer m) (fixed_decimal m e) rule h (λ is. (leaf_narrow 1 m all.0, leaf_short 1 m all.0))
decimal_kept (Leaf m ∷ Const (const.Num e) ∷ k ∷ ks) rule all h = none_some h
decimal_kept (Leaf m ∷ Leaf e ∷ []) rule all h = kept_so (is_integer m && is_integer e) (floating_decimal m e) rule h (λ is. (leaf_narrow 1 m all.0, leaf_short 1 m all.0))
decimal_kept (Leaf m ∷ Leaf e ∷ k ∷ ks) rule all h = none_some h

unit_kept : (from : From) (time : LeafOf) (o : Option ℤ) (rule : Rule) → constant_unit from time o ≡ Some rule → Kept rule
unit_kept from time None rule h = none_some h
unit_kept from time (Some u) rule h = kept_so (is_integer time && (int_le (pos 0) u && is_unit (natural u))) (moment from time (always (natural u))) rule h (λ is. (tt, tt))

moment_kept : (from : From) (ks : List Kind) (rule : Rule) → moment_by from ks ≡ Some rule → Kept rule
moment_kept from [] rule h = none_some h
moment_kept from (Enum l2 ns ∷ ks) rule h = none_some h
moment_kept from (Set p ns ∷ ks) rule h = none_some h
moment_kept from (Comp' n row ∷ ks) rule h = none_some h
moment_kept from (Const c ∷ ks) rule h = none_some h
moment_kept from (Leaf m ∷ []) rule h = none_some h
moment_kept from (Leaf m ∷ Enum l2 ns ∷ ks) rule h = none_some h
moment_kept from (Leaf m ∷ Set p ns ∷ ks) rule h = none_some h
moment_kept from (Leaf m ∷ Comp' n row ∷ ks) rule h = none_some h
moment_kept from (Leaf time ∷ Const c ∷ []) rule h = unit_kept from time (const_number c) rule h
moment_kept from (Leaf time ∷ Const c ∷ k ∷ ks) rule h = none_some h
moment_kept from (Leaf time ∷ Leaf unit ∷ []) rule h = kept_so (is_integer time && (is_single_byte unit && not (is_optional unit.presence))) (moment from time (on_wire unit)) rule h (λ is. (tt, tt))
moment_kept from (Leaf time ∷ Leaf unit ∷ k ∷ ks) rule h = none_some h

month_kept : (ks : List Kind) (rule : Rule) → month_by ks ≡ Some rule → Kept rule
month_kept [] rule h = none_some h
month_kept (Enum l2 ns ∷ ks) rule h = none_some h
month_kept (Set p ns ∷ ks) rule h = none_some h
month_kept (Comp' n row ∷ ks) rule h = none_some h
month_kept (Const c ∷ ks) rule h = none_some h
month_kept (Leaf y ∷ []) rule h = none_some h
month_kept (Leaf y ∷ Enum l2 ns ∷ ks) rule h = none_some h
month_kept (Leaf y ∷ Set p ns ∷ ks) rule h = none_some h
month_kept (Leaf y ∷ Comp' n row ∷ ks) rule h = none_some h
month_kept (Leaf y ∷ Const c ∷ ks) rule h = none_some h
month_kept (Leaf y ∷ Leaf m ∷ []) rule h = none_some h
month_kept (Leaf y ∷ Leaf m ∷ Enum l2 ns ∷ ks) rule h = none_some h
month_kept (Leaf y ∷ Leaf m ∷ Set p ns ∷ ks) rule h = none_some h
month_kept (Leaf y ∷ Leaf m ∷ Comp' n row ∷ ks) rule h = none_some h
month_kept (Leaf y ∷ Leaf m ∷ Const c ∷ ks) rule h = none_some h
month_kept (Leaf y ∷ Leaf m ∷ Leaf d ∷ []) rule h = none_some h
month_kept (Leaf y ∷ Leaf m ∷ Leaf d ∷ Enum l2 ns ∷ ks) rule h = none_some h
month_kept (Leaf y ∷ Leaf m ∷ Leaf d ∷ Set p ns ∷ ks) rule h = none_some h
month_kept (Leaf y ∷ Leaf m ∷ Leaf d ∷ Comp' n row ∷ ks) rule h = none_some h
month_kept (Leaf y ∷ Leaf m ∷ Leaf d ∷ Const c ∷ ks) rule h = none_some h
month_kept (Leaf y ∷ Leaf m ∷ Leaf d ∷ Leaf w ∷ []) rule h = kept_so (is_integer y && (is_integer m && (is_optional_byte d && is_optional_byte w))) (month_year (record { year = y; month = m; day = d; week = w })) rule h (λ is. (tt, tt))
month_kept (Leaf y ∷ Leaf m ∷ Leaf d ∷ Leaf w ∷ k ∷ ks) rule h = none_some h

composite_kept : (ms : List Member) (d : Datatype) (rule : Rule) → AreKinds (kinds_of ms) → composite_rule ms d ≡ Some rule → Kept rule
composite_kept ms decimal_number rule all h =
    decimal_kept (kinds_of ms) rule all (if_some (are_named (codes "mantissa" ∷ codes "exponent" ∷ []) ms) (decimal_by (kinds_of ms)) rule h).1
composite_kept ms timestamp rule all h =
    moment_kept from_1970 (kinds_of ms) rule (if_some (are_named (codes "time" ∷ codes "unit" ∷ []) ms) (moment_by from_1970 (kinds_of ms)) rule h).1
composite_kept ms time_of_day rule all h =
    moment_kept from_midnight (kinds_of ms) rule (if_some (are_named (codes "time" ∷ codes "unit" ∷ []) ms) (moment_by from_midnight (kinds_of ms)) rule h).1
composite_kept ms month_of_year rule all h =
    month_kept (kinds_of ms) rule (if_some (are_named (codes "year" ∷ codes "month" ∷ codes "day" ∷ codes "week" ∷ []) ms) (month_by (kinds_of ms)) rule h).1
composite_kept ms whole_number rule all h = none_some h
composite_kept ms character rule all h = none_some h
composite_kept ms text rule all h = none_some h
composite_kept ms boolean rule all h = none_some h
composite_kept ms calendar_day rule all h = none_some h
composite_kept ms raw rule all h = none_some h
composite_kept ms (code_set cs) rule all h = none_some h
composite_kept ms (character_set cs) rule all h = none_some h
composite_kept ms unbridged rule all h = none_some h

-- ---- constants

every_fits : (prim : Primitive) (n : ℤ) → is_value (every_number prim) n ≡ true → FitsSigned w128 n
every_fits prim n is = fits_is_value (every_number prim) n low high is
  where
    low : FitsSigned w128 (every_number prim).low
    low = omega (arith, ints)

    high : FitsSigned w128 (every_number prim).high
    high = omega (arith, ints)

every_narrow : (prim : Primitive) → IsNarrow (every_number prim)
every_narrow prim n is = let fits = every_fits prim n is in narrow n fits
  where
    narrow : (n : ℤ) → FitsSigned w128 n → unsigned_abs n < 10 ^ 39
    narrow n fits = omega (arith, ints, fits)

every_has : (prim : Primitive) (n : ℤ) → unsigned_abs n < 10 ^ 38 → is_value (every_number prim) n ≡ true
every_has prim (pos k) short = grind (arith, ints, nat_tests, short)
every_has prim (negsuc k) short = grind (arith, ints, nat_tests, short)

number_kept : (n : ℤ) (d : Datatype) (rule : Rule) → FitsSigned w128 n → unsigned_abs n < 10 ^ 38 → number_constant n d ≡ Some rule → Kept rule
number_kept n whole_number rule fits short h =
    let is = every_has I64 n short in
    let same = (Decides-int_eq n n).1 refl in
    subst Kept (some_is h) (
      (tt, record { good = inl (n, refl, is); item = number (reduced_form (dec n (pos 0))); has = refl; same = same }),
      integer_shown (every_number I64) (every_fits I64) (value.Num n) (inl (n, refl, is)),
    )
number_kept n decimal_number rule fits short h =
    let is = every_has I64 n short in
    let same = (Decides-int_eq n n).1 refl in
    subst Kept (some_is h) (
      (every_narrow I64, record { good = inl (n, refl, is); item = number (reduced_form (dec n (pos 0))); has = refl; same = same }),
      unscaled_one (every_number I64) (every_narrow I64) n is fits short,
    )
number_kept n calendar_day rule fits short h =
    let is = every_has I64 n short in
    let same = (Decides-int_eq n n).1 refl in
    subst Kept (some_is h) (
      (tt, record { good = inl (n, refl, is); item = on_day n; has = refl; same = same }),
      day_count_shown (every_number I64) (value.Num n) (inl (n, refl, is)),
    )
number_kept n character rule fits short h = none_some h
number_kept n text rule fits short h = none_some h
number_kept n boolean rule fits short h = none_some h
number_kept n timestamp rule fits short h = none_some h
number_kept n time_of_day rule fits short h = none_some h
number_kept n month_of_year rule fits short h = none_some h
number_kept n raw rule fits short h = none_some h
number_kept n (code_set cs) rule fits short h = none_some h
number_kept n (character_set cs) rule fits short h = none_some h
number_kept n unbridged rule fits short h = none_some h

letter_bytes : (b : ℕ) → IsUnsigned (every_byte b)
letter_bytes b (pos k) is = refl
letter_bytes b (negsuc k) is = true_false is refl

any_kept : (t : List ℕ) → Kept (constant any_text (value.Text t))
any_kept t = ((tt, record { good = (t, refl); item = bytes t; has = refl; same = (bytes_eq-Decides t t).1 refl }), any_text_shown (value.Text t) (t, refl))

byte_value : (b : ℕ) → is_value (every_byte b) (pos b) ≡ true
byte_value b = grind (arith, nat_tests)

character_kept : (t : List ℕ) (rule : Rule) → text_constant t character ≡ Some rule → Kept rule
character_kept [] rule h = none_some h
character_kept (b ∷ c ∷ bs) rule h = none_some h
character_kept (b ∷ []) rule h =
    subst Kept (some_is h) (
      (letter_bytes b, record { good = inl (pos b, refl, byte_value b); item = bytes (b ∷ []); has = refl; same = (Decides-int_eq (pos b) (pos b)).1 refl }),
      single_char_shown (every_byte b) (letter_bytes b) (value.Num (pos b)) (inl (pos b, refl, byte_value b)),
    )

text_constant_kept : (t : List ℕ) (d : Datatype) (rule : Rule) → text_constant t d ≡ Some rule → Kept rule
text_constant_kept [] text rule h = subst Kept (some_is h) (any_kept [])
text_constant_kept (b ∷ []) text rule h = subst Kept (some_is h) (any_kept (b ∷ []))
text_constant_kept (b ∷ c ∷ bs) text rule h = subst Kept (some_is h) (any_kept (b ∷ c ∷ bs))
text_constant_kept t character rule h = character_kept t rule h
text_constant_kept [] whole_number rule h = none_some h
text_constant_kept (b ∷ []) whole_number rule h = none_some h
text_constant_kept (b ∷ c ∷ bs) whole_number rule h = none_some h
text_constant_kept [] decimal_number rule h = none_some h
text_constant_kept (b ∷ []) decimal_number rule h = none_some h
text_constant_kept (b ∷ c ∷ bs) decimal_number rule h = none_some h
text_constant_kept [] boolean rule h = none_some h
text_constant_kept (b ∷ []) boolean rule h = none_some h
text_constant_kept (b ∷ c ∷ bs) boolean rule h = none_some h
text_constant_kept [] timestamp rule h = none_some h
text_constant_kept (b ∷ []) timestamp rule h = none_some h
text_constant_kept (b ∷ c ∷ bs) timestamp rule h = none_some h
text_constant_kept [] time_of_day rule h = none_some h
text_constant_kept (b ∷ []) time_of_day rule h = none_some h
text_constant_kept (b ∷ c ∷ bs) time_of_day rule h = none_some h
text_constant_kept [] calendar_day rule h = none_some h
text_constant_kept (b ∷ []) calendar_day rule h = none_some h
text_constant_kept (b ∷ c ∷ bs) calendar_day rule h = none_some h
text_constant_kept [] month_of_year rule h = none_some h
text_constant_kept (b ∷ []) month_of_year rule h = none_some h
text_constant_kept (b ∷ c ∷ bs) month_of_year rule h = none_some h
text_constant_kept [] raw rule h = none_some h
text_constant_kept (b ∷ []) raw rule h = none_some h
text_constant_kept (b ∷ c ∷ bs) raw rule h = none_some h
text_constant_kept [] (code_set cs) rule h = none_some h
text_constant_kept (b ∷ []) (code_set cs) rule h = none_some h
text_constant_kept (b ∷ c ∷ bs) (code_set cs) rule h = none_some h
text_constant_kept [] (character_set cs) rule h = none_some h
text_constant_kept (b ∷ []) (character_set cs) rule h = none_some h
text_constant_kept (b ∷ c ∷ bs) (character_set cs) rule h = none_some h
text_constant_kept [] unbridged rule h = none_some h
text_constant_kept (b ∷ []) unbridged rule h = none_some h
text_constant_kept (b ∷ c ∷ bs) unbridged rule h = none_some h

code_there : (n : ℤ) (r : Result (List ℕ) V) → (item : Item) × (code_item n r ≡ Some item)
code_there n (Ok t) = (bytes t, refl)
code_there n (Err v) = (without_text n, refl)

figure_there : (n : ℤ) (r : Result (List ℕ) V) → (item : Item) × (written_number_item n r ≡ Some item)
figure_there n (Ok t) = (written_number (reduced_form (dec n (pos 0))) t, refl)
figure_there n (Err v) = (number (reduced_form (dec n (pos 0))), refl)

own_so : (own : Value) (b : Bool) (r rule : Rule) → rule_if b r ≡ Some rule → IsOwnValue r own → IsOwnValue rule own
own_so own b r rule h is = subst (λ r. IsOwnValue r own) (so_is b r rule h).1 is

-- a valid value is one of an enum of it alone
lone : (n : ℤ) → (int_eq n n || false) && true ≡ true
lone n = ap (λ b. (b || false) && true) ((Decides-int_eq n n).1 refl)

coded_own : (prim : Primitive) (name : Named) (cs : List Code) → IsOwnValue (enum_code (every_number prim) (name ∷ []) cs) (value.Enum name.number)
coded_own prim name cs =
    let n = name.number in
    let there = code_there n (code_text cs n) in
    record { good = inl (n, refl, lone n); item = there.0; has = there.1; same = (Decides-int_eq n n).1 refl }

figured_own : (prim : Primitive) (name : Named) (cs : List Code) → IsOwnValue (enum_number (every_number prim) (name ∷ []) cs) (value.Enum name.number)
figured_own prim name cs =
    let n = name.number in
    let there = figure_there (digit_or_number prim n) (code_text cs n) in
    record { good = inl (n, refl, lone n); item = there.0; has = there.1; same = (Decides-int_eq n n).1 refl }

truth_own : (prim : Primitive) (name : Named) → IsOwnValue (enum_boolean (every_number prim) (name ∷ [])) (value.Enum name.number)
truth_own prim name =
    let n = name.number in
    let there = code_there n (boolean_shown (name ∷ []) n) in
    record { good = inl (n, refl, lone n); item = there.0; has = there.1; same = (Decides-int_eq n n).1 refl }

enum_own : (prim : Primitive) (name : Named) (d : Datatype) (rule : Rule) → enum_rule (every_number prim) (name ∷ []) d ≡ Some rule → IsOwnValue rule (value.Enum name.number)
enum_own prim name (code_set cs) rule h = own_so (value.Enum name.number) (is_apart same_text (codes_of prim cs (name ∷ []))) (enum_code (every_number prim) (name ∷ []) (codes_of prim cs (name ∷ []))) rule h (coded_own prim name (codes_of prim cs (name ∷ [])))
enum_own prim name character rule h = own_so (value.Enum name.number) (is_apart same_text (number_codes prim (name ∷ []))) (enum_code (every_number prim) (name ∷ []) (number_codes prim (name ∷ []))) rule h (coded_own prim name (number_codes prim (name ∷ [])))
enum_own prim name text rule h = own_so (value.Enum name.number) (is_apart same_text (number_codes prim (name ∷ []))) (enum_code (every_number prim) (name ∷ []) (number_codes prim (name ∷ []))) rule h (coded_own prim name (number_codes prim (name ∷ [])))
enum_own prim name whole_number rule h =
    own_so (value.Enum name.number) (is_apart same_text (number_codes prim (name ∷ []))) (enum_number (every_number prim) (name ∷ []) (number_codes prim (name ∷ []))) rule
    (if_some (not (is_char prim) || list_all is_digit (name ∷ [])) (by_codes enum_number (every_number prim) (name ∷ []) (number_codes prim (name ∷ []))) rule h).1
    (figured_own prim name (number_codes prim (name ∷ [])))
enum_own prim name boolean rule h = own_so (value.Enum name.number) (is_apart same_truth (name ∷ [])) (enum_boolean (every_number prim) (name ∷ [])) rule h (truth_own prim name)
enum_own prim name decimal_number rule h = none_some h
enum_own prim name timestamp rule h = none_some h
enum_own prim name time_of_day rule h = none_some h
enum_own prim name calendar_day rule h = none_some h
enum_own prim name month_of_year rule h = none_some h
enum_own prim name raw rule h = none_some h
enum_own prim name (character_set cs) rule h = none_some h
enum_own prim name unbridged rule h = none_some h

valid_kept : (prim : Primitive) (name : Named) (d : Datatype) (rule : Rule) → is_number_of prim name.number ≡ true → IsMapped d → const_rule (const.Code prim name) d ≡ Some rule → Kept rule
valid_kept prim name d rule is mapped h =
    let inner = and_then_is (enum_rule (every_number prim) (name ∷ []) d) (λ rule. Some (constant rule (value.Enum name.number))) rule h in
    let kept = enum_kept (every_number prim) (name ∷ []) d inner.0 (refl, tt) (is, tt) mapped inner.1 in
    let own = enum_own prim name d inner.0 inner.1 in
    subst Kept (some_is inner.2) ((kept.0, own), bounded_shown inner.0 kept.0 kept.1 (value.Enum name.number) own.good)

const_kept : (c : ConstValue) (d : Datatype) (rule : Rule) → IsConstantInOrder c → IsMapped d → const_rule c d ≡ Some rule → Kept rule
const_kept (const.Num n) d rule facts mapped h = let own = primitive_short facts.0 n facts.1 in number_kept n d rule own.0 own.1 h
const_kept (const.Text t) d rule facts mapped h = text_constant_kept t d rule h
const_kept (const.Code prim name) d rule facts mapped h = valid_kept prim name d rule facts.number mapped h

-- ---- the table

-- the rule of a kind of a checked schema and a datatype of a mapping keeps what the laws of messages ask
pub rule_kept : (k : Kind) (d : Datatype) (rule : Rule) → IsKindFrom 1 k → IsMapped d → rule_of k d ≡ Some rule → IsBounded rule × CanShow rule
rule_kept (Leaf l) d rule facts mapped h = leaf_kept l d rule facts h
rule_kept (Enum l names) d rule facts mapped h = enum_kept l names d rule (different names facts.listed.numbers_differ) facts.listed.numbers mapped h
rule_kept (Set p names) d rule facts mapped h = set_kept names d rule (different names facts.listed.numbers_differ) (bits_are (prim_width p) (narrow_prim p) names facts.listed.numbers) h
rule_kept (Comp' n row) d rule facts mapped h = composite_kept (items-the_row-Member _ row) d rule (members_are row facts.kinds) h
rule_kept (Const c) d rule facts mapped h = const_kept c d rule facts mapped h
