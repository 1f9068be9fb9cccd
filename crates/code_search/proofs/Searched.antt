-- A code that is found.
use Rattle.std.proofs.Common.{◌≡◌, ℕ, zero, suc, ◌+◌, ◌-◌, ◌<◌, ◌≤◌, Bool, true, false, List, [], ◌∷◌, length, drop, get_or, Some, ℤ, ◌<ℤ◌, refl, sym, ap, ◌∙◌, subst, arith}
use Rattle.std.specs.Prelude.{find, slice_get}
use Rattle.std.specs.Ordering.{int_eq}
use Rattle.std.proofs.Math.Seq.{drop-cons}
use Rattle.std.proofs.lemmas.Int.{ints}
use Rattle.std.proofs.lemmas.Bool.Decides.{Decides-int_eq}
use Rattle.fix_values.specs.declared.rule.Code.{Code}
use Rattle.fix_values.proofs.NumeralLemmas.{not_true}
use Rattle.code_search.specs.Growing.{AreAbove, AreGrowing}

some_is : {X : Type 0} {x y : X} → Some x ≡ Some y → x ≡ y
some_is e = cc

-- those after a code
later : (n : ℤ) (codes : List Code) → AreAbove n codes → AreGrowing codes
later n [] above = tt
later n (c ∷ cs) above = above.1

less_through : (a b c : ℤ) → a <ℤ b → b <ℤ c → a <ℤ c
less_through a b c h g = omega (arith, ints, h, g)

each_above : (n : ℤ) (codes : List Code) (i : ℕ) (code : Code) → AreAbove n codes → slice_get codes i ≡ Some code → n <ℤ code.number
each_above n [] i code above there = absurd cc
each_above n (c ∷ cs) zero code above there = subst (λ (k : Code). n <ℤ k.number) (some_is there) above.0
each_above n (c ∷ cs) (suc i) code above there = less_through n c.number code.number above.0 (each_above c.number cs i code above.1 there)

found_here : (n : ℤ) (c : Code) (cs : List Code) (b : Bool) → int_eq c.number n ≡ b → b ≡ true → find (λ c. int_eq c.number n) (c ∷ cs) ≡ Some c
found_here n c cs b is holds = rw (is ∙ holds)

passed : (n : ℤ) (c : Code) (cs : List Code) → int_eq c.number n ≡ false → find (λ c. int_eq c.number n) (c ∷ cs) ≡ find (λ c. int_eq c.number n) cs
passed n c cs is = rw is

below : (a n : ℤ) → a <ℤ n → int_eq a n ≡ false
below a n h = not_true (int_eq a n) (λ same. absurd (omega (arith, ints, h, (Decides-int_eq a n).0 same)))

-- a code with the number is the first one
pub first_found : (codes : List Code) (i : ℕ) (code : Code) (n : ℤ) → AreGrowing codes → slice_get codes i ≡ Some code → code.number ≡ n → find (λ c. int_eq c.number n) codes ≡ Some code
first_found [] i code n grow there is = absurd cc
first_found (c ∷ cs) zero code n grow there is =
    let same : c ≡ code = some_is there in
    found_here n c cs (int_eq c.number n) refl ((Decides-int_eq c.number n).1 (ap (λ (k : Code). k.number) same ∙ is)) ∙ there
first_found (c ∷ cs) (suc i) code n grow there is =
    passed n c cs (below c.number n (subst (λ z. c.number <ℤ z) is (each_above c.number cs i code grow there))) ∙ first_found cs i code n (later c.number cs grow) there is

-- ---- whether they grow

last_grows : (codes : List Code) (i : ℕ) → length codes ≤ i + 1 → AreGrowing (drop i codes)
last_grows [] zero h = tt
last_grows [] (suc i) h = tt
last_grows (c ∷ []) zero h = tt
last_grows (c ∷ d ∷ cs) zero h = absurd (omega (arith, h))
last_grows (c ∷ cs) (suc i) h = last_grows cs i (omega (arith, h))

pub last_alone : (codes : List Code) → AreGrowing (drop (length codes - 1) codes)
last_alone codes = last_grows codes (length codes - 1) (omega arith)

one_more : (c : Code) (cs : List Code) (d : Code) (ds : List Code) → cs ≡ d ∷ ds → c.number <ℤ d.number → AreGrowing cs → AreGrowing (c ∷ cs)
one_more c cs d ds is less grow = subst (AreAbove c.number) (sym is) (less, subst AreGrowing is grow)

-- one code before those that grow
pub before_grows : (codes : List Code) (at : ℕ) (c d : Code) → 1 < at → at ≤ length codes → c ≡ get_or codes (at - 2) c → d ≡ get_or codes (at - 1) d → c.number <ℤ d.number → AreGrowing (drop (at - 1) codes)
    → AreGrowing (drop (at - 1 - 1) codes)
before_grows codes at c d some within first second less grow =
    let back : at - 1 - 1 ≡ at - 2 = omega arith in
    let next : suc (at - 2) ≡ at - 1 = omega (arith, some) in
    let whole : drop (at - 2) codes ≡ c ∷ drop (at - 1) codes =
    drop-cons codes (at - 2) c (omega (arith, some, within)) ∙ (ap (λ k. k ∷ drop (suc (at - 2)) codes) (sym first) ∙ ap (λ k. c ∷ drop k codes) next) in
    let rest : drop (at - 1) codes ≡ d ∷ drop (suc (at - 1)) codes = drop-cons codes (at - 1) d (omega (arith, some, within)) ∙ ap (λ k. k ∷ drop (suc (at - 1)) codes) (sym second) in
    subst AreGrowing (sym (ap (λ k. drop k codes) back ∙ whole)) (one_more c (drop (at - 1) codes) d (drop (suc (at - 1)) codes) rest less grow)
