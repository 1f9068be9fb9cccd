-- Numbers that digits spell.
use Rattle.std.proofs.Common.{◌≡◌, ℕ, zero, suc, ◌+◌, ◌-◌, ◌*◌, ◌^◌, ◌<◌, ◌≤◌, Bool, true, false, ◌&&◌, eqb, List, [], ◌∷◌, ◌++◌, length, drop, get_or, refl, ap, ◌∙◌, arith, subst, length-append, Some, ℤ, pos, negsuc, int_le, nat_abs, unsigned_abs, to_z, of_z, ◌||◌, ◌⊎◌, inl, inr, Result, Ok}
use Rattle.std.proofs.Math.Seq.{drop-cons}
use Rattle.std.proofs.Math.Nat.{pow-le-pow_right}
use Rattle.std.proofs.lemmas.Int.Digits.{digits_value-lt}
use Rattle.std.proofs.lemmas.Str.Parse.{numerals_by_value, tells_all_ascii_digits}
pub use Rattle.std.proofs.lemmas.Bool.{and_parts as both, and_from as together, or_parts as neither, not-true as is_not_true, or_left, or_right, false≢true, leb-true}
use Rattle.std.proofs.lemmas.Bool.Decides.{nat_tests}
use Rattle.std.specs.Int.{w128}
use mir.Syntax.{Width}
use mir.Val.{SFits}
use Rattle.std.proofs.lemmas.Int.{to_z-of_z, ints}
use Rattle.sbe_types.specs.Numbers.{natural}
use Rattle.std.specs.Char.{digit_value, is_ascii_digit}
use Rattle.std.specs.Str.{all_ascii_digits}
use Rattle.std.specs.Str.Parse.{digits_value, digits_value_after}
use Rattle.fix_values.specs.declared.rule.V.{V}
use Rattle.fix_values.specs.Numerals.{is_numeral, is_negative, unsigned, integer_of, sign, signed}

pub not_true : (b : Bool) → ¬ (b ≡ true) → b ≡ false
not_true true h = absurd (h refl)
not_true false h = refl

-- one of two tests holds
pub either : (a b : Bool) → a || b ≡ true → (a ≡ true) ⊎ (b ≡ true)
either true b h = inl refl
either false b h = inr h

pub and_true : (b : Bool) → b && true ≡ b
and_true true = refl
and_true false = refl

pub eqb_comm : (a b : ℕ) → eqb a b ≡ eqb b a
eqb_comm a b = grind (arith, nat_tests)

-- an answer is one
pub ok_is : {A : Type 0} (x y : A) → ◌≡◌ {A = Result A V} (Ok x) (Ok y) → x ≡ y
ok_is x y h = cc

-- the size of a number of this sign and size
pub sized : (b : Bool) (k : ℕ) → unsigned_abs (signed b k) ≡ k
sized true zero = refl
sized true (suc k) = refl
sized false k = refl

-- a text that begins with digits has no sign
pub no_minus : (d : ℕ) → is_ascii_digit d ≡ true → eqb d 45 ≡ false
no_minus d h = grind (arith, nat_tests)

pub digits_first : (digits rest : List ℕ) → all_ascii_digits digits ≡ true → is_negative rest ≡ false → is_negative (digits ++ rest) ≡ false
digits_first [] rest h none = none
digits_first (d ∷ ds) rest h none = no_minus d (both (is_ascii_digit d) (all_ascii_digits ds) h).0

-- what follows a sign
pub sign_taken : (negative : Bool) (rest : List ℕ) → is_negative rest ≡ false → (is_negative (sign negative ++ rest) ≡ negative) × (unsigned (sign negative ++ rest) ≡ rest)
sign_taken true rest h = (refl, refl)
sign_taken false [] h = (refl, refl)
sign_taken false (b ∷ bs) h = (h, rw h)

pub digit_is : (c : ℕ) → is_ascii_digit c ≡ true → digit_value c ≡ c - 48
digit_is c h = grind (arith, nat_tests)

pub digit_small : (c : ℕ) → is_ascii_digit c ≡ true → digit_value c < 10
digit_small c h = grind (arith, nat_tests)

-- digits after a number only add to it
pub value_after_ge : (n : ℕ) (ds : List ℕ) → n ≤ digits_value_after 10 n ds
value_after_ge n [] = omega arith
value_after_ge n (d ∷ ds) = omega (arith, value_after_ge (n * 10 + digit_value d) ds)

pub step_ge : (n : ℕ) (ds : List ℕ) → all_ascii_digits ds ≡ true → 0 < length ds → n * 10 + (get_or ds 0 0 - 48) ≤ digits_value_after 10 n ds
step_ge n [] h some = absurd (omega arith)
step_ge n (d ∷ ds) h some = omega (arith, value_after_ge (n * 10 + digit_value d) ds, digit_is d (both _ _ h).0)

-- the next digit of a number that is read from digit i on
pub next_ge : (n i : ℕ) (ds : List ℕ) → i < length ds → all_ascii_digits (drop i ds) ≡ true → n * 10 + (get_or ds i 0 - 48) ≤ digits_value_after 10 n (drop i ds)
next_ge n i ds within h =
    let split : drop i ds ≡ get_or ds i 0 ∷ drop (suc i) ds = drop-cons ds i 0 within in
    let all : all_ascii_digits (get_or ds i 0 ∷ drop (suc i) ds) ≡ true = subst (λ xs. all_ascii_digits xs ≡ true) split h in
    rw split (step_ge n (get_or ds i 0 ∷ drop (suc i) ds) all (omega arith))

-- the number of a text that was taken apart
pub integer_is : (text : List ℕ) (negative : Bool) (digits : List ℕ) → negative ≡ is_negative text → digits ≡ unsigned text →
    is_numeral digits ≡ true → integer_of text ≡ Some (signed negative (digits_value 10 digits))
integer_is text negative digits sign rest numeral = rw (← sign, ← rest, numeral)

-- the bytes from place i on: this one, and those after it
pub byte_on : (bs : List ℕ) (i : ℕ) → i < length bs → drop i bs ≡ get_or bs i 0 ∷ drop (i + 1) bs
byte_on bs i within =
    let next : suc i ≡ i + 1 = omega arith in
    drop-cons bs i 0 within ∙ ap (λ k. get_or bs i 0 ∷ drop k bs) next

pub cast_is : (w : Width) (n : ℤ) → SFits w n → int_le (pos 0) n ≡ true → nat_abs (to_z w (of_z w n)) ≡ natural n
cast_is w (pos k) fits low = ap nat_abs (to_z-of_z w (pos k) fits)
cast_is w (negsuc k) fits low = absurd (false≢true low)

pub widen_is : (n : ℕ) → n < 2 ^ 127 → to_z w128 n ≡ pos n
widen_is n h = omega (arith, ints)

pub value_append : (n : ℕ) (xs ys : List ℕ) → digits_value_after 10 n (xs ++ ys) ≡ digits_value_after 10 (digits_value_after 10 n xs) ys
value_append n [] ys = refl
value_append n (x ∷ xs) ys = value_append (n * 10 + digit_value x) xs ys

pub all_digits_append : (xs ys : List ℕ) → all_ascii_digits xs ≡ true → all_ascii_digits ys ≡ true → all_ascii_digits (xs ++ ys) ≡ true
all_digits_append [] ys h g = g
all_digits_append (x ∷ xs) ys h g =
    let all = both (is_ascii_digit x) (all_ascii_digits xs) h in
    together (is_ascii_digit x) _ all.0 (all_digits_append xs ys all.1 g)

pub value_small : (ds : List ℕ) → all_ascii_digits ds ≡ true → digits_value 10 ds < 10 ^ length ds
value_small ds h = digits_value-lt 10 ds ((numerals_by_value _ tells_all_ascii_digits).to ds h)

-- thirty-eight digits fit an i128
pub parts_small : (whole fraction : List ℕ) → all_ascii_digits whole ≡ true → all_ascii_digits fraction ≡ true → length whole + length fraction ≤ 38 →
    digits_value 10 (whole ++ fraction) < 2 ^ 127
parts_small whole fraction w f few =
    let small = value_small (whole ++ fraction) (all_digits_append whole fraction w f) in
    let shorter : length (whole ++ fraction) ≤ 38 = omega (arith, few, length-append whole fraction) in
    let powers : 10 ^ length (whole ++ fraction) ≤ 10 ^ 38 = pow-le-pow_right {n = 10} (omega arith) shorter in
    omega (arith, small, powers)

pub front_small : (whole fraction : List ℕ) (most : ℕ) → digits_value 10 (whole ++ fraction) < most → digits_value 10 whole < most
front_small whole fraction most h = omega (arith, h, value_append 0 whole fraction, value_after_ge (digits_value 10 whole) fraction)
