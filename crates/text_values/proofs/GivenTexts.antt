-- Texts that a field may have.
use Rattle.std.proofs.Common.{◌≡◌, ℕ, suc, arith, Bool, true, false, cond, not, List, [], ◌∷◌, length, Result, Ok, Err, refl, sym, ap}
use Rattle.std.specs.Prelude.{◌==◌}
use Rattle.std.proofs.lemmas.Bool.Decides.{nat_tests}
use Rattle.fix_values.specs.declared.rule.V.{V}
use Rattle.fix_values.specs.declared.rule.V.TheVariants.{Soh}
use Rattle.fix_values.specs.Codes.{has_soh}
use Rattle.fix_values.specs.Values.{text_shown}
use Rattle.text_values.specs.Rows.{given}

ok_err : {X Z : Type 0} {x : X} {v : V} → ◌≡◌ {A = Result X V} (Ok x) (Err v) → Z
ok_err h = absurd (never h)
  where
    never : {X : Type 0} {x : X} {v : V} → ◌≡◌ {A = Result X V} (Ok x) (Err v) → ⊥
    never k = cc

pub any_given : (t : List ℕ) → not (length t == 0) ≡ given true t
any_given [] = refl
any_given (b ∷ bs) = ap not (some (length bs))
  where
    some : (n : ℕ) → (suc n == 0) ≡ false
    some n = grind (arith, nat_tests)

pub shown_given : (t : List ℕ) (u : Unit) → text_shown t ≡ Ok u → given false t ≡ true
shown_given [] u h = ok_err (sym h)
shown_given (b ∷ bs) u h = by_test (has_soh (b ∷ bs)) h
  where
    by_test : (s : Bool) → cond s (Err Soh) (Ok tt) ≡ Ok u → not s ≡ true
    by_test true k = ok_err (sym k)
    by_test false k = refl

pub unshown_given : (t : List ℕ) (v : V) → text_shown t ≡ Err v → given false t ≡ false
unshown_given [] v h = refl
unshown_given (b ∷ bs) v h = by_test (has_soh (b ∷ bs)) tt h
  where
    by_test : (s : Bool) (u : Unit {0}) → ◌≡◌ {A = Result (Unit {0}) V} (cond s (Err Soh) (Ok u)) (Err v) → not s ≡ false
    by_test true u k = refl
    by_test false u k = ok_err k
