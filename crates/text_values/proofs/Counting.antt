-- The value of a moment in its unit.
use Rattle.std.proofs.Common.{◌≡◌, ℕ, Bool, true, false, min, nat_le, Result, Ok, Err, refl, sym, ap, ◌∙◌, ℤ, arith}
use Rattle.std.proofs.lemmas.Bool.Decides.{nat_tests}
use Rattle.sbe_types.specs.declared.kind.Leaf.{Leaf as LeafOf}
use Rattle.sbe_types.specs.declared.message.Value.{Value}
use Rattle.fix_values.specs.declared.rule.V.{V}
use Rattle.fix_values.specs.Decimals.{leaf_number}
use Rattle.fix_dates.specs.declared.moment.Moment.{Moment}
use Rattle.date_answers.specs.Answers.{Instant, in_unit, least_unit}
use Rattle.bridge_rules.specs.Rules.{UnitBy, always, on_wire}
use Rattle.bridge_rules.specs.Values.{Misread, not_read, in_unit_of, moment_value, time_count, unit_admitted, value_from}
use Rattle.text_values.specs.Instants.{counted_of, IsInstant}

unit_of_nine : (d : ℕ) → least_unit (min 9 d) ≡ least_unit d
unit_of_nine d = by_test (nat_le d 9) refl
  where
    by_test : (b : Bool) → nat_le d 9 ≡ b → least_unit (min 9 d) ≡ least_unit d
    by_test true h = ap least_unit (few h)
      where
        few : nat_le d 9 ≡ true → min 9 d ≡ d
        few h = grind (arith, nat_tests)
    by_test false h = ap least_unit (many h) ∙ sym (far h)
      where
        many : nat_le d 9 ≡ false → min 9 d ≡ 9
        many h = grind (arith, nat_tests)

        far : nat_le d 9 ≡ false → least_unit d ≡ 9
        far h =
            let a : nat_le d 0 ≡ false = grind (arith, nat_tests) in
            let b : nat_le d 3 ≡ false = grind (arith, nat_tests) in
            let c : nat_le d 6 ≡ false = grind (arith, nat_tests) in
            rw (a, b, c) refl

-- as many digits up to nine give the same unit
same_count : (leaf : LeafOf) (unit : UnitBy) (nanos : ℤ) (digits own : ℕ) → own ≡ min 9 digits → counted_of leaf unit nanos own ≡ counted_of leaf unit nanos digits
same_count leaf (always u) nanos digits own is = refl
same_count leaf (on_wire l) nanos digits own is =
    ap (λ unit. value_from (moment_value (on_wire l)) (unit_admitted l (time_count unit (leaf_number leaf (in_unit nanos unit))))) (ap least_unit is ∙ unit_of_nine digits)

pub instant_counted : (leaf : LeafOf) (unit : UnitBy) (r : Result Moment V) (o : Result Instant V) (m : Moment) → IsInstant r o → r ≡ Ok m
    → counted_of leaf unit m.nanos m.digits ≡ value_from (moment_value unit) (in_unit_of leaf unit o)
instant_counted leaf unit (Ok m) (Ok i) n is same =
    ap (λ (k : Moment). counted_of leaf unit k.nanos k.digits) (sym (ok_is same)) ∙ ap (λ z. counted_of leaf unit z m.digits) is.0 ∙ same_count leaf unit i.nanos i.digits m.digits is.1
  where
    ok_is : {a b : Moment} → ◌≡◌ {A = Result Moment V} (Ok a) (Ok b) → a ≡ b
    ok_is h = cc
instant_counted leaf unit (Err v) (Err w) n is same = absurd (never same)
  where
    never : ◌≡◌ {A = Result Moment V} (Err v) (Ok n) → ⊥
    never h = cc
instant_counted leaf unit (Ok m) (Err w) n is same = absurd is
instant_counted leaf unit (Err v) (Ok i) n is same = absurd is

pub instant_refused : (leaf : LeafOf) (unit : UnitBy) (r : Result Moment V) (o : Result Instant V) (v : V) → IsInstant r o → r ≡ Err v
    → ◌≡◌ {A = Result Value Misread} (Err (not_read v)) (value_from (moment_value unit) (in_unit_of leaf unit o))
instant_refused leaf (always u) (Err v) (Err w) x is same = ap (λ v. Err (not_read v)) (sym (err_is same) ∙ is)
  where
    err_is : {a b : V} → ◌≡◌ {A = Result Moment V} (Err a) (Err b) → a ≡ b
    err_is h = cc
instant_refused leaf (on_wire l) (Err v) (Err w) x is same = ap (λ v. Err (not_read v)) (sym (err_is same) ∙ is)
  where
    err_is : {a b : V} → ◌≡◌ {A = Result Moment V} (Err a) (Err b) → a ≡ b
    err_is h = cc
instant_refused leaf unit (Ok m) (Ok i) x is same = absurd (never same)
  where
    never : ◌≡◌ {A = Result Moment V} (Ok m) (Err x) → ⊥
    never h = cc
instant_refused leaf unit (Ok m) (Err w) x is same = absurd is
instant_refused leaf unit (Err v) (Ok i) x is same = absurd is
