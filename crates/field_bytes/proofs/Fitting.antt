-- What a value without a misfit is.
use Rattle.std.proofs.Common.{◌≡◌, ◌≤◌, ◌<◌, ◌+◌, ◌*◌, ◌^◌, ◌/◌, ◌%◌, ◌==◌, ◌&&◌, inl, inr, ℕ, zero, suc, Bool, true, false, cond, List, [], ◌∷◌, length, drop, get_or, Option, Some, None, ℤ, pos, refl, sym, ap, ◌∙◌, subst, arith, add-one}
use Rattle.std.specs.Prelude.{◌||◌, find, nat_lt}
use Rattle.std.specs.List.{AllByRecursion}
use Rattle.std.specs.Ordering.{int_eq}
use Rattle.std.specs.Int.{bit_at}
use Rattle.std.proofs.lemmas.Int.{ints}
use Rattle.std.proofs.lemmas.Bool.{and_parts, cases_lt, eqb-true}
use Rattle.std.proofs.lemmas.Bool.Decides.{nat_tests}
use Rattle.std.proofs.lemmas.List.{drop_more}
use Rattle.std.proofs.Math.Nat.{div-add-mod', mod-lt, pow-suc, one-le-pow}
use Rattle.sbe_types.specs.declared.kind.Leaf.{Leaf as LeafOf}
use Rattle.sbe_types.specs.declared.kind.Named.{Named}
use Rattle.sbe_types.specs.declared.kind.Primitive.{Primitive}
use Rattle.sbe_types.specs.declared.kind.Primitive.TheVariants.{Char, I8, I16, I32, I64, U8, U16, U32, U64}
use Rattle.sbe_types.specs.declared.message.Elem.{Elem}
use Rattle.sbe_types.specs.declared.message.Value.TheVariants as value
use Rattle.sbe_types.specs.declared.path.Step.TheVariants as way
use Rattle.sbe_types.specs.Numbers.{prim_width}
use Rattle.sbe_types.specs.Shown.{is_listed, has_listed_bits}
use Rattle.sbe_wire.specs.Misfit.{Misfit, or_else, unless, misfit_in, element_misfit, elements_misfit, enum_misfit, set_misfit}
use Rattle.schema_rules.specs.Ranges.{is_number_of}
use Rattle.schema_rules.specs.TypeRules.{is_set_primitive}
use Rattle.schema_facts.proofs.LevelEntries.{either}
use Rattle.schema_facts.specs.InOrder.{IsBitOf, IsNumberOf, IsEnumInOrder, IsSetInOrder}

-- ---- texts

find_when : (p : ℕ → Bool) (x : ℕ) (xs : List ℕ) (t : Bool) → p x ≡ t → find p (x ∷ xs) ≡ cond t (Some x) (find p xs)
find_when p x xs true e = rw e refl
find_when p x xs false e = rw e refl

module _ (p : ℕ → Bool) (text : List ℕ) (i b : ℕ) (lt : i < length text) (is : b ≡ get_or text i b) where
  there : drop i text ≡ b ∷ drop (i + 1) text
  there = drop_more text i b lt ∙ ap (λ y. y ∷ drop (i + 1) text) (sym is)

  pub find_next : p b ≡ false → find p (drop (i + 1) text) ≡ find p (drop i text)
  find_next fails = sym (ap (find p) there ∙ find_when p b (drop (i + 1) text) false fails)

  pub find_here : p b ≡ true → Some b ≡ find p (drop i text)
  find_here yes_it_is = sym (ap (find p) there ∙ find_when p b (drop (i + 1) text) true yes_it_is)

-- ---- arrays

elements_next : (leaf : LeafOf) (es : List Elem) (at : ℕ) (d : Elem) → at < length es →
    elements_misfit leaf at (drop at es) ≡ or_else (misfit_in (way.Elem at) (element_misfit leaf (get_or es at d))) (elements_misfit leaf (at + 1) (drop (at + 1) es))
elements_next leaf es at d lt =
    ap (elements_misfit leaf at) (drop_more es at d lt)
    ∙ ap (λ k. or_else (misfit_in (way.Elem at) (element_misfit leaf (get_or es at d))) (elements_misfit leaf k (drop (at + 1) es))) (sym (add-one at))

both_none : (m n : Option Misfit) → or_else m n ≡ None → (m ≡ None) × (n ≡ None)
both_none None n h = (refl, h)
both_none (Some m) n h = absurd (no_misfit h)
  where
    no_misfit : {m : Misfit} → ◌≡◌ {A = Option Misfit} (Some m) None → ⊥
    no_misfit k = cc

-- after an element of an array without a misfit there is none
pub rest_fits : (leaf : LeafOf) (es : List Elem) (at : ℕ) (d : Elem) → at < length es → elements_misfit leaf at (drop at es) ≡ None → elements_misfit leaf (at + 1) (drop (at + 1) es) ≡ None
rest_fits leaf es at d lt h =
    (both_none (misfit_in (way.Elem at) (element_misfit leaf (get_or es at d))) (elements_misfit leaf (at + 1) (drop (at + 1) es)) (sym (elements_next leaf es at d lt) ∙ h)).1

-- ---- listed numbers

same_number : (a b : ℤ) → int_eq a b ≡ true → a ≡ b
same_number a b h = grind (arith, ints, nat_tests, h)

-- what holds of the listed numbers holds of one of them
pub listed_is : (P : ℤ → Type 0) (names : List Named) (n : ℤ) → AllByRecursion (λ (v : Named). P v.number) names → is_listed names n ≡ true → P n
listed_is P [] n all h = cc
listed_is P (x ∷ xs) n all h = elim (either (int_eq x.number n) (is_listed xs n) h) [
  | inl here ↦ subst P (same_number x.number n here) all.0
  | inr later ↦ listed_is P xs n all.1 later
]

passes : (t : Bool) (m : Misfit) (n : Option Misfit) → or_else (unless t (Some m)) n ≡ None → t ≡ true
passes true m n h = refl
passes false m n h = cc

pub enum_number : (leaf : LeafOf) (names : List Named) (n : ℤ) → IsEnumInOrder leaf names → enum_misfit leaf names (value.Enum n) ≡ None → is_number_of leaf.prim n ≡ true
enum_number leaf names n ready h = listed_is (IsNumberOf leaf.prim) names n ready.listed.numbers (passes (is_listed names n) _ _ h)

-- ---- sets

lowest_half : (q c r n : ℕ) → q * c + r ≡ n → r < c → n < 2 * c → q % 2 ≡ 0 → n < c
lowest_half zero c r n is low high even = omega arith
lowest_half (suc zero) c r n is low high even = cc
lowest_half (suc (suc q)) c r n is low high even = absurd (omega arith)

-- a number without its highest bit
top_clear : (n m : ℕ) → n < 2 ^ suc m → bit_at n m ≡ 0 → n < 2 ^ m
top_clear n m within clear =
    let some : 1 ≤ 2 ^ m = one-le-pow m 2 (omega arith) in
    let twice : 2 ^ suc m ≡ 2 * 2 ^ m = omega (arith, pow-suc 2 m) in
    lowest_half (n / 2 ^ m) (2 ^ m) (n % 2 ^ m) n (div-add-mod' n (2 ^ m)) (mod-lt n (omega arith)) (omega (arith, within, twice)) clear

-- a number whose bits are listed lies below the bits that a choice may be
below_bits : (names : List Named) (w n m : ℕ) → AllByRecursion (λ (v : Named). IsBitOf w v.number) names → 8 * w ≤ m → has_listed_bits names m n ≡ true → n < 2 ^ m → n < 2 ^ (8 * w)
below_bits names w n zero all few h within = let none : 8 * w ≡ 0 = omega arith in rw none within
below_bits names w n (suc m) all few h within =
    let parts = and_parts (has_listed_bits names m n) (bit_at n m == 0 || is_listed names (pos m)) h in
    elim (cases_lt (8 * w) (suc m)) [
      | inl less ↦ elim (either (bit_at n m == 0) (is_listed names (pos m)) parts.1) [
        | inl clear ↦ below_bits names w n m all (omega arith) parts.0 (top_clear n m within (eqb-true (bit_at n m) 0 clear))
        | inr listed ↦ let bit : m < 8 * w = listed_is (IsBitOf w) names (pos m) all listed in absurd (omega arith)
      ]
      | inr top ↦ let same : suc m ≡ 8 * w = omega arith in subst (λ k. n < 2 ^ k) same within
    ]

set_holds : (prim : Primitive) (n : ℕ) → is_set_primitive prim ≡ true → n < 2 ^ (8 * prim_width prim) → is_number_of prim (pos n) ≡ true
set_holds Char n h within = cc
set_holds I8 n h within = cc
set_holds I16 n h within = cc
set_holds I32 n h within = cc
set_holds I64 n h within = cc
set_holds U8 n h within = grind (arith, ints, nat_tests)
set_holds U16 n h within = grind (arith, ints, nat_tests)
set_holds U32 n h within = grind (arith, ints, nat_tests)
set_holds U64 n h within = grind (arith, ints, nat_tests)

narrow : (prim : Primitive) → 8 * prim_width prim ≤ 64
narrow Char = omega arith
narrow I8 = omega arith
narrow I16 = omega arith
narrow I32 = omega arith
narrow I64 = omega arith
narrow U8 = omega arith
narrow U16 = omega arith
narrow U32 = omega arith
narrow U64 = omega arith

if_passes : (t : Bool) (m : Misfit) → unless t (Some m) ≡ None → t ≡ true
if_passes true m h = refl
if_passes false m h = cc

pub set_number : (prim : Primitive) (names : List Named) (n : ℕ) → IsSetInOrder prim names → n < 2 ^ 64 → set_misfit names (value.Set n) ≡ None → is_number_of prim (pos n) ≡ true
set_number prim names n ready within h =
    let parts = and_parts (nat_lt n (2 ^ 64)) (has_listed_bits names 64 n) (if_passes (nat_lt n (2 ^ 64) && has_listed_bits names 64 n) _ h) in
    set_holds prim n ready.encoding (below_bits names (prim_width prim) n 64 ready.listed.numbers (narrow prim) parts.1 within)
