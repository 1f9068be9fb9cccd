-- Zeros at the end of a mantissa.
use Rattle.std.proofs.Common.{◌≡◌, ◌≢◌, ℕ, zero, suc, ◌/◌, ◌%◌, Bool, false, List, refl, sym, ap, ◌∙◌, arith, subst, inl, inr, pos, negsuc, ℤ, ◌+ℤ◌, ◌-ℤ◌, unsigned_abs, Ok, FitsSigned}
use Rattle.std.specs.Int.{w128}
use Rattle.std.proofs.lemmas.Int.{ints}
use Rattle.sbe_types.specs.Numbers.{natural}
use Rattle.fix_values.specs.Numerals.{signed}
use Rattle.fix_values.specs.Decimals.{SameFraction, dec, decimal_of, decimal_text, narrowed}
use Rattle.fix_values.proofs.NumeralLemmas.{sized}
use Rattle.value_laws.proofs.DecimalsBack.{decimals_back}
use Rattle.value_laws.proofs.Fractions.{narrow_same, one_form, resign, turned}
use Rattle.value_laws.proofs.Reduced.{read_reduced, same_through}
use Rattle.reduced_decimals.specs.declared.reduced.Reduced.{Reduced}
use Rattle.reduced_decimals.specs.Forms.{form_of, IsFormOf}

-- a tenth under the next exponent
one_zero : (x : ℕ) → x % 10 ≡ 0 → narrowed (pos x) 1 ≡ Ok (pos (x / 10))
one_zero x none = rw none refl

pub next_zero : (x : ℕ) (e : ℤ) → x % 10 ≡ 0 → SameFraction (dec (pos (x / 10)) (e +ℤ pos 1)) (dec (pos x) e)
next_zero x e none =
    let one : (e +ℤ pos 1) -ℤ e ≡ pos 1 = omega (arith, ints) in
    let shift : natural ((e +ℤ pos 1) -ℤ e) ≡ 1 = ap natural one in
    narrow_same (pos x) (pos (x / 10)) e (e +ℤ pos 1) (omega (arith, ints)) (ap (narrowed (pos x)) shift ∙ one_zero x none)

-- and of a decimal that is the same fraction
pub more_zeros : (x n : ℕ) (e f : ℤ) → x % 10 ≡ 0 → SameFraction (dec (pos x) e) (dec (pos n) f) → SameFraction (dec (pos (x / 10)) (e +ℤ pos 1)) (dec (pos n) f)
more_zeros x n e f none same = same_through (dec (pos x) e) (dec (pos (x / 10)) (e +ℤ pos 1)) (dec (pos n) f) (turned (next_zero x e none)) same

-- no zero is left
pub no_zero : (b : Bool) (x n : ℕ) (e f : ℤ) → x % 10 ≢ 0 → SameFraction (dec (pos x) e) (dec (pos n) f) → IsFormOf (record { negative = b; size = x; exponent = e }) (dec (signed b n) f)
no_zero b x n e f some same = record {
  reduced = inl (λ none. some (sym (ap (λ k. k % 10) (sized b x)) ∙ none));
  same = resign b x n e f same;
}

zero_is : (m : ℤ) → unsigned_abs m ≡ 0 → m ≡ pos 0
zero_is (pos zero) h = refl
zero_is (pos (suc n)) h = absurd (omega (arith, h))
zero_is (negsuc n) h = absurd (omega (arith, h))

-- zero
pub nought : (m e : ℤ) → unsigned_abs m ≡ 0 → IsFormOf (record { negative = false; size = 0; exponent = pos 0 }) (dec m e)
nought m e none =
    subst (λ k. IsFormOf (record { negative = false; size = 0; exponent = pos 0 }) (dec k e)) (sym (zero_is m none))
    (record { reduced = inr (refl, refl); same = record { sign = refl; size = omega arith } })

-- what is read of a decimal's text is its reduced form
pub read_form : (m e : ℤ) (d : Reduced) (text : List ℕ) → FitsSigned w128 m → IsFormOf d (dec m e) → decimal_text (dec m e) ≡ Ok text → decimal_of text ≡ Ok (form_of d)
read_form m e d text fits is shown =
    let back = decimals_back m e text fits shown in
    let same : SameFraction back.0 (form_of d) = same_through (dec m e) back.0 (form_of d) (turned back.2) (turned is.same) in
    back.1 ∙ ap Ok (one_form back.0 (form_of d) (read_reduced text back.0 back.1) is.reduced same)
