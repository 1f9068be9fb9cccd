-- The number that a word writes, and what `parse` gives for it.
use Rattle.std.proofs.Common.{◌≡◌, ◌≢◌, ◌≤◌, ◌<◌, ◌^◌, ℕ, Bool, true, false, ◌&&◌, ◌⊎◌, ◌↔◌, inl, inr, IsTrue, List, [], ◌∷◌, length, slice_index_or, Option, Some, None, Result, Ok, Err, refl, ap, ◌∙◌, subst, arith, if◌then◌else◌}
use Rattle.std.proofs.Math.Dec.{leb}
use Rattle.std.proofs.lemmas.Bool.{le-leb}
use Rattle.std.proofs.lemmas.Bool.Decides.{leb_tells}
use Rattle.std.proofs.lemmas.Str.Parse.{IsNumeralModel, numerals_by_value, tells_all_ascii_digits, parse_plain}
use Rattle.std.specs.Result.{OkIff}
use Rattle.std.specs.Str.{all_ascii_digits}
use Rattle.std.specs.Str.Parse.{ParsesUnsigned, digits_value}
use Rattle.command_words.specs.Words.{begins_a_number, number_within}

own : IsNumeralModel (λ ds. all_ascii_digits ds ≡ true) (digits_value 10)
own = numerals_by_value _ tells_all_ascii_digits

-- the tests of a number, each by itself
abbrev number_if : Bool → Bool → Bool → Bool → ℕ → Option ℕ
number_if begins digits least most n = if (begins && digits) && least && most then Some n else None

number_if_all : (begins digits least most : Bool) (n : ℕ) → begins ≡ true → digits ≡ true → least ≡ true → most ≡ true → Some n ≡ number_if begins digits least most n
number_if_all true true true true n a b c d = refl
number_if_all true true true false n a b c d = cc
number_if_all true true false most n a b c d = cc
number_if_all true false least most n a b c d = cc
number_if_all false digits least most n a b c d = cc

no_digits : (begins digits least most : Bool) (n : ℕ) → digits ≡ false → None ≡ number_if begins digits least most n
no_digits false digits least most n h = refl
no_digits true false least most n h = refl
no_digits true true least most n h = cc

above_most : (begins digits least most : Bool) (n : ℕ) → most ≡ false → None ≡ number_if begins digits least most n
above_most false digits least most n h = refl
above_most true false least most n h = refl
above_most true true false most n h = refl
above_most true true true false n h = refl
above_most true true true true n h = cc

begins_some : (word : List ℕ) → begins_a_number word ≡ true → 0 < length word
begins_some [] h = cc
begins_some (digit ∷ more) h = omega arith

-- digits alone, one at least, whose number has at most 64 bits
abbrev Digits : List ℕ → Type 0
Digits word = (all_ascii_digits word ≡ true) × (0 < length word) × (digits_value 10 word < 2 ^ 64)

true_or_false : (b : Bool) → (b ≡ true) ⊎ (b ≡ false)
true_or_false true = inl refl
true_or_false false = inr refl

not_within : (least most : ℕ) (word : List ℕ) → ¬ (digits_value 10 word < 2 ^ 64) → most < 2 ^ 64 → None ≡ number_within least most word
not_within least most word great fits =
    let above : (leb (digits_value 10 word) most ≡ false) = elim (leb_tells (digits_value 10 word) most) [
      | inl is_so ↦ absurd (great (omega (arith, is_so.1)))
      | inr is_not ↦ is_not.0
    ] in
    above_most (begins_a_number word) (all_ascii_digits word) (leb least (digits_value 10 word)) _ (digits_value 10 word) above

pub no_sign : (bytes word : List ℕ) (r : Bool) → bytes ≡ word → (IsTrue r ↔ (slice_index_or bytes 0 0 ≡ 43)) → r ≡ false → slice_index_or word 0 0 ≢ 43
no_sign bytes word r is tells not_sign e = let told : r ≡ true = tells.1 (ap (λ w. slice_index_or w 0 0) is ∙ e) in cc

pub parsed : {E : Type 0} (least most : ℕ) (word : List ℕ) (n : ℕ) (r : Result ℕ E) → r ≡ Ok n → ParsesUnsigned 64 10 word r → slice_index_or word 0 0 ≢ 43 →
    begins_a_number word ≡ true → least ≤ n → n ≤ most → Some n ≡ number_within least most word
parsed least most word n r is h sign begins low high =
    let told : OkIff r (Digits word) (digits_value 10 word) = parse_plain own 64 word r h sign in
    let ok : Digits word × (n ≡ digits_value 10 word) = subst (λ r. OkIff r (Digits word) (digits_value 10 word)) is told in
    let value : n ≡ digits_value 10 word = ok.1 in
    let from : least ≤ digits_value 10 word = omega (arith, value) in
    let to : digits_value 10 word ≤ most = omega (arith, value) in
    ap (λ m. Some m) value ∙ number_if_all _ _ _ _ (digits_value 10 word) begins ok.0.0 (le-leb _ _ from) (le-leb _ _ to)

pub not_parsed : {E : Type 0} (least most : ℕ) (word : List ℕ) (e : E) (r : Result ℕ E) → r ≡ Err e → ParsesUnsigned 64 10 word r → slice_index_or word 0 0 ≢ 43 →
    begins_a_number word ≡ true → most < 2 ^ 64 → None ≡ number_within least most word
not_parsed least most word e r is h sign begins fits =
    let told : OkIff r (Digits word) (digits_value 10 word) = parse_plain own 64 word r h sign in
    let none : ¬ (Digits word) = subst (λ r. OkIff r (Digits word) (digits_value 10 word)) is told in
    elim (true_or_false (all_ascii_digits word)) [
      | inl is_so ↦ not_within least most word (λ small. none (is_so, begins_some word begins, small)) fits
      | inr is_not ↦ no_digits (begins_a_number word) _ (leb least (digits_value 10 word)) (leb (digits_value 10 word) most) (digits_value 10 word) is_not
    ]
