-- Decimals as fractions: the mantissa under another exponent.
use Rattle.std.proofs.Common.{◌≡◌, ℕ, zero, suc, ◌+◌, ◌*◌, ◌/◌, ◌%◌, ◌^◌, ◌<◌, Bool, true, false, ◌==◌, refl, sym, ap, ◌∙◌, arith, subst, inl, inr, pos, negsuc, ℤ, ◌-ℤ◌, ◌≤ℤ◌, neg_ℤ, int_le, unsigned_abs, Result, Ok, Err, if◌then◌else◌}
use Rattle.std.proofs.Math.Nat.{mul_assoc, mul-pos, mul-mod_left, mul-div_cancel}
use Rattle.std.proofs.lemmas.Int.{ints}
use Rattle.std.proofs.lemmas.Nat.{pow-add, div-add-mod'}
use Rattle.std.proofs.lemmas.Bool.{eqb-true}
use Rattle.std.proofs.lemmas.Bool.Decides.{Decides-eqb}
use Rattle.sbe_types.specs.Numbers.{natural}
use Rattle.fix_values.specs.declared.rule.V.{V}
use Rattle.fix_values.specs.declared.rule.V.TheVariants.{Inexact}
use Rattle.fix_values.specs.declared.rule.Dec.{Dec}
use Rattle.fix_values.specs.Numerals.{signed, is_below_zero}
use Rattle.fix_values.specs.Decimals.{SameFraction, IsReduced, dec, widened, narrowed, mantissa_under}
use Rattle.fix_values.proofs.NumeralLemmas.{false≢true, ok_is, sized}
use Rattle.fix_values.proofs.DecimalLemmas.{ten_pos, ten_next, up_from}

parts_is : (z : ℤ) → z ≡ pos (natural z) -ℤ pos (natural (neg_ℤ z))
parts_is (pos zero) = refl
parts_is (pos (suc n)) = omega (arith, ints)
parts_is (negsuc n) = omega (arith, ints)

no_neg : (z : ℤ) → pos 0 ≤ℤ z → natural (neg_ℤ z) ≡ 0
no_neg (pos zero) h = refl
no_neg (pos (suc n)) h = refl
no_neg (negsuc n) h = absurd (omega (arith, ints, h))

-- the exponents of two decimals, and the shift from one to the other
pub balance : (a e : ℤ) → pos 0 ≤ℤ (a -ℤ e) → natural a + natural (neg_ℤ e) ≡ natural (a -ℤ e) + (natural e + natural (neg_ℤ a))
balance a e h = omega (arith, ints, parts_is a, parts_is e, parts_is (a -ℤ e), no_neg (a -ℤ e) h)

-- a size times two powers of ten
joined_powers : (n i j : ℕ) → n * 10 ^ i * 10 ^ j ≡ n * 10 ^ (i + j)
joined_powers n i j = mul_assoc n (10 ^ i) (10 ^ j) ∙ ap (λ p. n * p) (sym (pow-add 10 i j))

shifted_power : (n s i j : ℕ) → n * 10 ^ (s + (i + j)) ≡ n * 10 ^ s * 10 ^ i * 10 ^ j
shifted_power n s i j = ap (λ p. n * p) (pow-add 10 s (i + j)) ∙ (sym (mul_assoc n (10 ^ s) (10 ^ (i + j))) ∙ sym (joined_powers (n * 10 ^ s) i j))

cancel : (a b k : ℕ) → a * 10 ^ k ≡ b * 10 ^ k → a ≡ b
cancel a b k h = sym (mul-div_cancel a (ten_pos k)) ∙ (ap (λ n. n / 10 ^ k) h ∙ mul-div_cancel b (ten_pos k))

cancel_both : (a b i j : ℕ) → a * 10 ^ i * 10 ^ j ≡ b * 10 ^ i * 10 ^ j → a ≡ b
cancel_both a b i j h = cancel a b i (cancel (a * 10 ^ i) (b * 10 ^ i) j h)

-- a number is that of its sign and size
resigned : (n : ℤ) → n ≡ signed (is_below_zero n) (unsigned_abs n)
resigned (pos n) = refl
resigned (negsuc n) = refl

pub sign_of : (b : Bool) (k : ℕ) → (b ≡ true → 0 < k) → is_below_zero (signed b k) ≡ b
sign_of true zero some = absurd (omega (arith, some refl))
sign_of true (suc k) some = refl
sign_of false k some = refl

pub below_some : (n : ℤ) → is_below_zero n ≡ true → 0 < unsigned_abs n
below_some (pos n) h = absurd (false≢true h)
below_some (negsuc n) h = omega arith

mul_some : (a k : ℕ) → 0 < a → 0 < a * 10 ^ k
mul_some a k h = mul-pos h (ten_pos k)

-- a wider mantissa is the same fraction, and the only one
pub wide_same : (m a e : ℤ) → pos 0 ≤ℤ (a -ℤ e) → SameFraction (dec (widened m (natural (a -ℤ e))) e) (dec m a)
wide_same m a e h =
    let s = natural (a -ℤ e) in
    record {
      sign = sign_of (is_below_zero m) (unsigned_abs m * 10 ^ s) (λ b. mul_some (unsigned_abs m) s (below_some m b));
      size =
          ap (λ n. n * 10 ^ natural e * 10 ^ natural (neg_ℤ a)) (sized (is_below_zero m) (unsigned_abs m * 10 ^ s))
          ∙ (sym (shifted_power (unsigned_abs m) s (natural e) (natural (neg_ℤ a)))
          ∙ (ap (λ k. unsigned_abs m * 10 ^ k) (sym (balance a e h)) ∙ sym (joined_powers (unsigned_abs m) (natural a) (natural (neg_ℤ e)))));
    }

pub wide_only : (n m a e : ℤ) → pos 0 ≤ℤ (a -ℤ e) → SameFraction (dec n e) (dec m a) → widened m (natural (a -ℤ e)) ≡ n
wide_only n m a e h same =
    let s = natural (a -ℤ e) in
    let size : unsigned_abs n ≡ unsigned_abs m * 10 ^ s =
    cancel_both (unsigned_abs n) (unsigned_abs m * 10 ^ s) (natural e) (natural (neg_ℤ a))
    (same.size ∙ (joined_powers (unsigned_abs m) (natural a) (natural (neg_ℤ e)) ∙ (ap (λ k. unsigned_abs m * 10 ^ k) (balance a e h) ∙ shifted_power (unsigned_abs m) s (natural e) (natural (neg_ℤ a))))) in
    sym (resigned n ∙ (ap (λ b. signed b (unsigned_abs n)) same.sign ∙ ap (signed (is_below_zero m)) size))

-- a narrower mantissa is the same fraction, where it is whole
same_narrow : (n m a e : ℤ) → pos 0 ≤ℤ (e -ℤ a) → is_below_zero n ≡ is_below_zero m → unsigned_abs n * 10 ^ natural (e -ℤ a) ≡ unsigned_abs m → SameFraction (dec n e) (dec m a)
same_narrow n m a e h s whole = record {
  sign = s;
  size =
      joined_powers (unsigned_abs n) (natural e) (natural (neg_ℤ a))
      ∙ (ap (λ k. unsigned_abs n * 10 ^ k) (balance e a h)
      ∙ (shifted_power (unsigned_abs n) (natural (e -ℤ a)) (natural a) (natural (neg_ℤ e))
      ∙ ap (λ k. k * 10 ^ natural a * 10 ^ natural (neg_ℤ e)) whole));
}

narrow_size : (n m a e : ℤ) → pos 0 ≤ℤ (e -ℤ a) → SameFraction (dec n e) (dec m a) → unsigned_abs n * 10 ^ natural (e -ℤ a) ≡ unsigned_abs m
narrow_size n m a e h same =
    cancel_both (unsigned_abs n * 10 ^ natural (e -ℤ a)) (unsigned_abs m) (natural a) (natural (neg_ℤ e))
    (sym (shifted_power (unsigned_abs n) (natural (e -ℤ a)) (natural a) (natural (neg_ℤ e)))
    ∙ (ap (λ k. unsigned_abs n * 10 ^ k) (sym (balance e a h)) ∙ (sym (joined_powers (unsigned_abs n) (natural e) (natural (neg_ℤ a))) ∙ same.size)))

narrow_by : (b : Bool) (q n : ℤ) → ◌≡◌ {A = Result ℤ V} (if b then Ok q else Err Inexact) (Ok n) → (b ≡ true) × (q ≡ n)
narrow_by true q n h = (refl, ok_is q n h)
narrow_by false q n h = absurd (cc h)

some_by : (q a p : ℕ) → q * p ≡ a → 0 < a → 0 < q
some_by zero a p h some = absurd (omega (arith, h, some))
some_by (suc q) a p h some = omega arith

quotient_some : (a k : ℕ) → a % 10 ^ k ≡ 0 → 0 < a → 0 < a / 10 ^ k
quotient_some a k none some =
    let split = div-add-mod' a (10 ^ k) in
    some_by (a / 10 ^ k) a (10 ^ k) (omega (arith, split, none)) some

pub narrow_same : (m n a e : ℤ) → pos 0 ≤ℤ (e -ℤ a) → narrowed m (natural (e -ℤ a)) ≡ Ok n → SameFraction (dec n e) (dec m a)
narrow_same m n a e h is =
    let s = natural (e -ℤ a) in
    let found = narrow_by (unsigned_abs m % 10 ^ s == 0) (signed (is_below_zero m) (unsigned_abs m / 10 ^ s)) n is in
    let none : unsigned_abs m % 10 ^ s ≡ 0 = eqb-true (unsigned_abs m % 10 ^ s) 0 found.0 in
    let whole : unsigned_abs m / 10 ^ s * 10 ^ s ≡ unsigned_abs m = omega (arith, div-add-mod' (unsigned_abs m) (10 ^ s), none) in
    subst (λ k. SameFraction (dec k e) (dec m a)) found.1
    (same_narrow (signed (is_below_zero m) (unsigned_abs m / 10 ^ s)) m a e h
    (sign_of (is_below_zero m) (unsigned_abs m / 10 ^ s) (λ b. quotient_some (unsigned_abs m) s none (below_some m b)))
    (ap (λ k. k * 10 ^ s) (sized (is_below_zero m) (unsigned_abs m / 10 ^ s)) ∙ whole))

pub narrow_only : (n m a e : ℤ) → pos 0 ≤ℤ (e -ℤ a) → SameFraction (dec n e) (dec m a) → narrowed m (natural (e -ℤ a)) ≡ Ok n
narrow_only n m a e h same =
    let s = natural (e -ℤ a) in
    let size : unsigned_abs m ≡ unsigned_abs n * 10 ^ s = sym (narrow_size n m a e h same) in
    let none : unsigned_abs m % 10 ^ s ≡ 0 = ap (λ k. k % 10 ^ s) size ∙ mul-mod_left (unsigned_abs n) (10 ^ s) in
    let quotient : unsigned_abs m / 10 ^ s ≡ unsigned_abs n = ap (λ k. k / 10 ^ s) size ∙ mul-div_cancel (unsigned_abs n) (ten_pos s) in
    let test : (unsigned_abs m % 10 ^ s == 0) ≡ true = (Decides-eqb (unsigned_abs m % 10 ^ s) 0).1 none in
    rw (test, quotient, ← same.sign, ← resigned n)

down_from : (a b : ℤ) → int_le b a ≡ false → pos 0 ≤ℤ (b -ℤ a)
down_from a b h = grind (arith, ints)

fit_by : (b : Bool) (d : Dec) (e n : ℤ) → int_le e d.exponent ≡ b → mantissa_under d e ≡ Ok n → SameFraction (dec n e) d
fit_by true d e n is h =
    let wide : ◌≡◌ {A = Result ℤ V} (Ok (widened d.mantissa (natural (d.exponent -ℤ e)))) (Ok n) = rw is at h in
    subst (λ k. SameFraction (dec k e) d) (ok_is _ n wide) (wide_same d.mantissa d.exponent e (up_from d.exponent e is))
fit_by false d e n is h =
    let narrow : narrowed d.mantissa (natural (e -ℤ d.exponent)) ≡ Ok n = rw is at h in
    narrow_same d.mantissa n d.exponent e (down_from d.exponent e is) narrow

only_by : (b : Bool) (d : Dec) (e n : ℤ) → int_le e d.exponent ≡ b → SameFraction (dec n e) d → mantissa_under d e ≡ Ok n
only_by true d e n is same = rw is (ap Ok (wide_only n d.mantissa d.exponent e (up_from d.exponent e is) same))
only_by false d e n is same = rw is (narrow_only n d.mantissa d.exponent e (down_from d.exponent e is) same)

-- the mantissa under an exponent is the same fraction, and the only one
pub fit_same : (d : Dec) (e n : ℤ) → mantissa_under d e ≡ Ok n → SameFraction (dec n e) d
fit_same d e n h = fit_by (int_le e d.exponent) d e n refl h

pub fit_only : (d : Dec) (e n : ℤ) → SameFraction (dec n e) d → mantissa_under d e ≡ Ok n
fit_only d e n same = only_by (int_le e d.exponent) d e n refl same

-- the same the other way round
pub turned : {a b : Dec} → SameFraction a b → SameFraction b a
turned same = record { sign = sym same.sign; size = sym same.size }

-- fractions that are the same are so with another sign too
pub resign : (b : Bool) (x v : ℕ) (g e : ℤ) → SameFraction (dec (pos x) g) (dec (pos v) e) → SameFraction (dec (signed b x) g) (dec (signed b v) e)
resign false x v g e h = h
resign true zero zero g e h = h
resign true zero (suc v) g e h = absurd (omega (arith, h.size, mul_some (suc v * 10 ^ natural e) (natural (neg_ℤ g)) (mul_some (suc v) (natural e) (omega arith))))
resign true (suc x) zero g e h = absurd (omega (arith, h.size, mul_some (suc x * 10 ^ natural g) (natural (neg_ℤ e)) (mul_some (suc x) (natural g) (omega arith))))
resign true (suc x) (suc v) g e h = record { sign = refl; size = h.size }

-- a fraction has one reduced form
zero_form : (d : Dec) → IsReduced d → unsigned_abs d.mantissa % 10 ≡ 0 → d ≡ dec (pos 0) (pos 0)
zero_form d (inl other) none = absurd (other none)
zero_form d (inr zero_is) none = ap (λ m. dec m d.exponent) zero_is.0 ∙ ap (dec (pos 0)) zero_is.1

tens : (n k : ℕ) → n * 10 ^ suc k % 10 ≡ 0
tens n k = let moved : n * 10 ^ suc k ≡ n * 10 ^ k * 10 = rw (ten_next k) (grind arith) in ap (λ x. x % 10) moved ∙ mul-mod_left (n * 10 ^ k) 10

form_by : (k : ℕ) (d e : Dec) → natural (d.exponent -ℤ e.exponent) ≡ k → pos 0 ≤ℤ (d.exponent -ℤ e.exponent) → IsReduced d → IsReduced e → SameFraction e d → e ≡ d
form_by zero d e is up rd re same =
    let shift = d.exponent -ℤ e.exponent in
    let exponent : e.exponent ≡ d.exponent = omega (arith, ints, parts_is shift, no_neg shift up, is) in
    let one : unsigned_abs d.mantissa * 10 ^ 0 ≡ unsigned_abs d.mantissa = omega arith in
    let plain : widened d.mantissa 0 ≡ d.mantissa = ap (signed (is_below_zero d.mantissa)) one ∙ sym (resigned d.mantissa) in
    let mantissa : e.mantissa ≡ d.mantissa = sym (wide_only e.mantissa d.mantissa d.exponent e.exponent up same) ∙ (ap (widened d.mantissa) is ∙ plain) in
    ap (λ m. dec m e.exponent) mantissa ∙ ap (dec d.mantissa) exponent
form_by (suc k) d e is up rd re same =
    let wide : e.mantissa ≡ widened d.mantissa (suc k) = sym (wide_only e.mantissa d.mantissa d.exponent e.exponent up same) ∙ ap (widened d.mantissa) is in
    let size : unsigned_abs e.mantissa ≡ unsigned_abs d.mantissa * 10 ^ suc k = ap unsigned_abs wide ∙ sized (is_below_zero d.mantissa) (unsigned_abs d.mantissa * 10 ^ suc k) in
    let zero_is : e ≡ dec (pos 0) (pos 0) = zero_form e re (ap (λ x. x % 10) size ∙ tens (unsigned_abs d.mantissa) k) in
    let nothing : 0 ≡ 0 * 10 ^ suc k = omega arith in
    let none : unsigned_abs d.mantissa ≡ 0 = cancel (unsigned_abs d.mantissa) 0 (suc k) (sym size ∙ (ap (λ x. unsigned_abs x.mantissa) zero_is ∙ nothing)) in
    zero_is ∙ sym (zero_form d rd (ap (λ x. x % 10) none))

one_form_by : (b : Bool) (d e : Dec) → int_le e.exponent d.exponent ≡ b → IsReduced d → IsReduced e → SameFraction d e → d ≡ e
one_form_by true d e is rd re same = sym (form_by _ d e refl (up_from d.exponent e.exponent is) rd re (turned same))
one_form_by false d e is rd re same = form_by _ e d refl (down_from d.exponent e.exponent is) re rd same

pub one_form : (d e : Dec) → IsReduced d → IsReduced e → SameFraction d e → d ≡ e
one_form d e rd re same = one_form_by (int_le e.exponent d.exponent) d e refl rd re same
