-- Values that the schema doesn't list, which messages of a later version may have: what is written of them is refused,
-- or has their item.
use Rattle.std.proofs.Common.{◌≡◌, inl, inr, ℕ, zero, suc, ◌<◌, Bool, true, false, cond, List, [], ◌∷◌, length, Some, None, Result, Ok, Err, refl, sym, ap, ◌∙◌, subst, arith, ℤ}
use Rattle.std.specs.Prelude.{◌==◌, find}
use Rattle.std.specs.List.{list_any, list_all}
use Rattle.std.specs.Ordering.{int_eq}
use Rattle.sbe_types.specs.declared.kind.Leaf.{Leaf as LeafOf}
use Rattle.sbe_types.specs.declared.kind.Named.{Named}
use Rattle.sbe_types.specs.declared.message.Value.{Value}
use Rattle.sbe_types.specs.declared.message.Value as value
use Rattle.sbe_types.specs.Numbers.{natural}
use Rattle.sbe_types.specs.Shown.{is_listed}
use Rattle.fix_values.specs.declared.rule.V.{V}
use Rattle.fix_values.specs.declared.rule.V.TheVariants as why
use Rattle.fix_values.specs.declared.rule.Code.{Code}
use Rattle.fix_values.specs.Codes.{has_soh, found_text, code_text, is_choice, truth_text, boolean_text, bits_of, codes_in, spaced_texts, set_text}
use Rattle.value_laws.proofs.SetsBack.{set_back}
use Rattle.bridge_rules.specs.Rules.{Rule, enum_code, enum_number, enum_boolean, choice_set}
use Rattle.bridge_rules.specs.Datatypes.{Datatype}
use Rattle.bridge_rules.specs.Texts.{text_by, field_text}
use Rattle.bridge_rules.specs.Values.{value_by, value_from}
use Rattle.bridge_rules.specs.Sound.{AreCodes}
use Rattle.bridge_rules.specs.Bounds.{IsBounded}
use Rattle.bridge_rules.specs.Table.{enum_rule, set_rule}
use Rattle.bridge_rules.proofs.OptionLemmas.{ok_is}
use Rattle.bridge_rules.proofs.BoolLemmas.{true_false, either, or_false, if_false}
use Rattle.bridge_rules.proofs.PlainRules.{err_ok, given_value}
use Rattle.bridge_rules.proofs.ShownTexts.{given_text, field_text_is, field_text_some, ok_none}
use Rattle.bridge_rules.proofs.ReadBack.{back_shown, none_shown}
use Rattle.bridge_rules.proofs.Sets.{choice_set_sound}
use Rattle.bridge_rules.proofs.TableCases.{enum_cases, set_cases}
use Rattle.bridge_rules.proofs.FittingShown.{IsWritten}

-- a value whose text is refused
refused : (rule : Rule) (v : Value) (w : V) → text_by rule v ≡ Err w → IsWritten rule v
refused rule v w is = (
  record { written = λ t h. err_ok (sym is ∙ h); unwritten = λ h. err_ok (sym is ∙ h) },
  record { read = λ t h. err_ok (sym is ∙ h); missed = λ h. err_ok (sym is ∙ h) },
)

-- ---- enums

none_found : {X : Type 0} (p : X → Bool) (xs : List X) → list_any p xs ≡ false → find p xs ≡ None
none_found p [] h = refl
none_found p (x ∷ xs) h = let is = or_false (p x) (list_any p xs) h in if_false (p x) (Some x) (find p xs) is.0 ∙ none_found p xs is.1

-- a number that isn't listed has no code
no_code : (names : List Named) (list : List Code) (n : ℤ) → AreCodes names list → is_listed names n ≡ false → code_text list n ≡ Err why.UnknownCode
no_code names list n are unlisted = elim (either (list_any (λ (code : Code). int_eq code.number n) list)) [
  | inl t ↦ true_false (are.listed n t) unlisted
  | inr f ↦ ap found_text (none_found (λ (code : Code). int_eq code.number n) list f)
]

pub raw_enum : (leaf : LeafOf) (names : List Named) (n : ℤ) → is_listed names n ≡ false → (d : Datatype) (rule : Rule) → enum_rule leaf names d ≡ Some rule → IsBounded rule → IsWritten rule (value.Enum n)
raw_enum leaf names n unlisted d rule h =
    enum_cases (λ rule. IsBounded rule → IsWritten rule (value.Enum n)) leaf names (record {
      code = λ list are. refused (enum_code leaf names list) (value.Enum n) why.UnknownCode (ap field_text (no_code names list n are unlisted));
      number = λ list are. refused (enum_number leaf names list) (value.Enum n) why.UnknownCode (ap field_text (no_code names list n are.0 unlisted));
      truth = λ apart.
          refused (enum_boolean leaf names) (value.Enum n) why.UnknownCode
          (ap field_text (if_false {X = Result (List ℕ) V} (is_listed names n) (truth_text (boolean_text n)) (Err why.UnknownCode) unlisted));
    }) d rule h

-- ---- sets

set_plain : (list : List Code) (n : ℕ) (t : List ℕ) → set_text list n ≡ Ok t → (0 < length t) × (has_soh t ≡ false)
set_plain list n t h = by_tests (bits_of (codes_in list n) == n) (length own == 0) (has_soh own) refl refl h
  where
    own : List ℕ
    own = spaced_texts (codes_in list n)

    some : (k : ℕ) → (k == 0) ≡ false → 0 < k
    some zero e = true_false refl e
    some (suc k) e = omega arith

    by_tests : (a b c : Bool) → (length own == 0) ≡ b → has_soh own ≡ c → cond a (cond b (Err why.Empty) (cond {A = Result (List ℕ) V} c (Err why.Soh) (Ok own))) (Err why.UnknownCode) ≡ Ok t →
        (0 < length t) × (has_soh t ≡ false)
    by_tests false b c p q k = err_ok k
    by_tests true true c p q k = err_ok k
    by_tests true false true p q k = err_ok k
    by_tests true false false p q k = subst (λ t. (0 < length t) × (has_soh t ≡ false)) (ok_is k) (some (length own) p, q)

-- the text of a set is read as the set
set_read : (names : List Named) (list : List Code) (n : ℕ) → AreCodes names list → list_all is_choice list ≡ true → (t : List ℕ) → text_by (choice_set names list) (value.Set (suc n)) ≡ Ok (Some t) →
    value_by (choice_set names list) t ≡ Ok (value.Set (suc n))
set_read names list n are one_byte t h =
    let its = field_text_is (set_text list (suc n)) t h in
    let plain = set_plain list (suc n) t its in
    given_value (choice_set names list) t (value.Set (suc n)) (given_text (choice_set names list) t plain.0 plain.1)
    (ap (value_from (λ n. value.Set (natural n))) (set_back list (suc n) t one_byte are.texts its))

set_written : (names : List Named) (list : List Code) → IsBounded (choice_set names list) → (n : ℕ) → IsWritten (choice_set names list) (value.Set n)
set_written names list bounded zero = (
  none_shown (choice_set names list) (value.Set 0) refl refl,
  record { read = λ t h. ok_none h; missed = λ h. (value.Set 0, refl) },
)
set_written names list bounded (suc n) = (
  back_shown (choice_set names list) (value.Set (suc n)) (choice_set_sound names list bounded.0 bounded.1) (set_read names list n bounded.0 bounded.1) (λ h. field_text_some (set_text list (suc n)) h),
  record { read = λ t h. (value.Set (suc n), set_read names list n bounded.0 bounded.1 t h); missed = λ h. (value.Set 0, refl) },
)

pub raw_set : (names : List Named) (n : ℕ) (d : Datatype) (rule : Rule) → set_rule names d ≡ Some rule → IsBounded rule → IsWritten rule (value.Set n)
raw_set names n d rule h = set_cases (λ rule. IsBounded rule → IsWritten rule (value.Set n)) names (λ list bounded. set_written names list bounded n) d rule h
