-- The bits of a set's text are a number of 64 bits.
use Rattle.std.proofs.Common.{◌≡◌, ℕ, Bool, true, false, cond, List, [], ◌∷◌, map, Result, Ok, Err, refl, sym, ap, ◌∙◌, subst, ℤ, ◌<◌, ◌^◌, nat_lt, arith}
use Rattle.std.specs.Prelude.{◌||◌}
use Rattle.std.specs.List.{list_any}
use Rattle.std.specs.Ordering.{int_eq}
use Rattle.std.proofs.lemmas.Bool.Decides.{nat_tests}
use Rattle.sbe_types.specs.declared.kind.Named.{Named}
use Rattle.sbe_types.specs.declared.message.Value.{Value}
use Rattle.sbe_types.specs.declared.message.Value as value
use Rattle.sbe_types.specs.Numbers.{natural}
use Rattle.sbe_types.specs.Shown.{is_listed}
use Rattle.fix_values.specs.declared.rule.Code.{Code}
use Rattle.fix_values.specs.declared.rule.V.{V}
use Rattle.fix_values.specs.declared.rule.V.TheVariants as why
use Rattle.fix_values.specs.declared.rule.NumRule.{NumRule}
use Rattle.fix_values.specs.declared.rule.NumRule.TheVariants as spelling
use Rattle.fix_values.specs.Codes.{set_number}
use Rattle.fix_values.specs.Values.{can_read, value_of}
use Rattle.bridge_rules.specs.Rules.{choice_set}
use Rattle.bridge_rules.specs.Sound.{AreCodes}
use Rattle.bridge_rules.specs.Values.{not_read, is_given, value_by, value_from, value_in}
use Rattle.bridge_rules.proofs.BoolLemmas.{true_false}
use Rattle.bridge_rules.proofs.OptionLemmas.{and_first, and_second}
use Rattle.bridge_rules.proofs.Sets.{choice_set_sound}
use Rattle.text_values.specs.Rows.{any_leaf, given}
use Rattle.text_values.specs.Sets.{is_set}

-- a valid value for each code
abbrev name_of : Code → Named
name_of c = record { name = []; number = c.number }

all_listed : (codes : List Code) (n : ℤ) → list_any (λ (code : Code). int_eq code.number n) codes ≡ true → is_listed (map name_of codes) n ≡ true
all_listed [] n h = h
all_listed (c ∷ cs) n h = by_test (int_eq c.number n) (all_listed cs n) h
  where
    by_test : (b : Bool) → (list_any (λ (code : Code). int_eq code.number n) cs ≡ true → is_listed (map name_of cs) n ≡ true)
        → b || list_any (λ (code : Code). int_eq code.number n) cs ≡ true → b || is_listed (map name_of cs) n ≡ true
    by_test true more k = refl
    by_test false more k = more k

codes_are : (codes : List Code) → can_read (spelling.Codes codes) ≡ true → AreCodes (map name_of codes) codes
codes_are codes can = record {
  numbers = and_first _ _ (and_second _ _ can);
  texts = and_second _ _ (and_second _ _ can);
  listed = all_listed codes;
}

given_is : (t : List ℕ) (names : List Named) (codes : List Code) → given false t ≡ true → is_given (choice_set names codes) t ≡ true
given_is [] names codes h = h
given_is (b ∷ bs) names codes h = h

set_is : {m n : ℕ} → value.Set m ≡ value.Set n → m ≡ n
set_is h = cc

read_word : (codes : List Code) (t : List ℕ) (n : ℤ) → can_read (spelling.Codes codes) ≡ true → given false t ≡ true → set_number codes t ≡ Ok n → natural n < 2 ^ 64
read_word codes t n can here told =
    let names = map name_of codes in
    let are = codes_are codes can in
    let read : value_by (choice_set names codes) t ≡ Ok (value.Set (natural n))
    = ap (λ b. cond b (value_in (choice_set names codes) t) (Err (not_read why.Spelling))) (given_is t names codes here) ∙ ap (λ (r : Result ℤ V). value_from (λ n. value.Set (natural n)) r) told in
    let good = ((choice_set_sound names codes are (and_first _ _ can)).read t (value.Set (natural n)) read).0 in
    subst (λ m. m < 2 ^ 64) (sym (set_is good.1)) (below (and_first _ _ good.2))
  where
    below : {m : ℕ} → nat_lt m (2 ^ 64) ≡ true → m < 2 ^ 64
    below {m} h = grind (arith, nat_tests)

pub word_read : (rule : NumRule) (t : List ℕ) (n : ℤ) → can_read rule ≡ true → is_set rule ≡ true → given false t ≡ true → value_of rule any_leaf t ≡ Ok n → natural n < 2 ^ 64
word_read (spelling.Codes codes) t n can set here told = read_word codes t n can here told
word_read spelling.Int t n can set here told = true_false set refl
word_read spelling.Decimal t n can set here told = true_false set refl
word_read spelling.Char t n can set here told = true_false set refl
word_read (spelling.Boolean names) t n can set here told = true_false set refl
word_read (spelling.Code codes) t n can set here told = true_false set refl
