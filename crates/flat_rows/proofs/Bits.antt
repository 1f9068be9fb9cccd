-- The bits of a set's choices.
use Rattle.std.proofs.Common.{◌≡◌, ◌<◌, ◌≤◌, ◌+◌, ◌*◌, ◌%◌, ◌^◌, ℕ, zero, suc, ℤ, Bool, true, false, not, List, length, drop, get_or, pos, negsuc, refl, sym, ap, ap₂, ◌∙◌, subst, arith, min, w64, Some, None, eq-eqb}
use Rattle.std.specs.Prelude.{◌&&◌, ◌||◌, ◌==◌, if◌then◌else◌}
use Rattle.std.specs.Int.{bit_at, bit_not, cast_signed, cast_unsigned}
use Rattle.std.specs.Ordering.{int_eq}
use lib.Bits.{bit_and, bit_or}
use Rattle.std.proofs.lemmas.Bool.{eqb-true}
use Rattle.std.proofs.lemmas.Bool.Decides.{nat_tests}
use Rattle.std.proofs.lemmas.Int.{of_z-to_z}
use Rattle.std.proofs.lemmas.List.{drop_all}
use Rattle.std.proofs.lemmas.Nat.Bits.{bit_at_and, bit_at_not, bit_at-zero, bit_at-lt, bit_at_set_same, bit_at_set_other}
use Rattle.sbe_types.specs.declared.kind.Kind.{Kind, Set}
use Rattle.sbe_types.specs.declared.kind.Named.{Named}
use Rattle.sbe_types.specs.declared.kind.Order.TheVariants.{Little}
use Rattle.sbe_types.specs.declared.kind.Primitive.{Primitive}
use Rattle.sbe_types.specs.declared.message.Value.TheVariants as value
use Rattle.sbe_types.specs.Numbers.{natural, number_of, prim_width}
use Rattle.sbe_types.specs.Places.{width}
use Rattle.sbe_types.specs.Shown.{has_listed_bits, is_listed, shown_set}
use Rattle.named_numbers.specs.Bits.{bit_of}
use Rattle.named_numbers.proofs.Bits.{place_of}
use Rattle.flat_rows.specs.declared.rows.Quick.{Quick}
use Rattle.flat_rows.specs.BlockChecks.{ShowsSome}
use Rattle.flat_rows.specs.Quick.{AddsBit, AreListedBits, KeepsBits}
use Rattle.flat_rows.proofs.RowsJudged.{there}

-- ---- a bit is set

same_place : (k i : ℕ) → (k == i) ≡ int_eq (pos k) (pos i)
same_place k i = grind (arith, nat_tests)

set_at : (bits k i : ℕ) (b : Bool) → (k == i) ≡ b → k < 64 → (bit_at (bit_or bits (1 * 2 ^ k % 2 ^ 64)) i == 1) ≡ (b || (bit_at bits i == 1))
set_at bits k i true e within =
    ap (λ n. n == 1) (subst (λ j. bit_at (bit_or bits (1 * 2 ^ k % 2 ^ 64)) j ≡ 1) (eqb-true k i e) (bit_at_set_same w64 bits k within))
set_at bits k i false e within =
    ap (λ n. n == 1) (bit_at_set_other w64 bits k within i (λ same. let found = eq-eqb k i (sym same) in absurd cc))

pub bit_added : (bits k : ℕ) (n : ℤ) → bit_of n ≡ Some k → AddsBit n bits (bit_or bits (1 * 2 ^ k % 2 ^ 64))
bit_added bits k n h = λ i lt.
    let place = place_of n k h in
    set_at bits k i (k == i) refl place.1 ∙ ap (λ b. b || (bit_at bits i == 1)) (same_place k i ∙ ap (λ m. int_eq m (pos i)) (sym place.0))

never : (b t : Bool) → b ≡ false → t ≡ (b || t)
never b t h = rw h refl

pub no_bit_added : (bits : ℕ) (n : ℤ) → bit_of n ≡ None → AddsBit n bits bits
no_bit_added bits (pos j) h = λ i lt.
    let far : 64 ≤ j = grind (arith, nat_tests) in
    never (int_eq (pos j) (pos i)) (bit_at bits i == 1) (grind (arith, nat_tests))
no_bit_added bits (negsuc j) h = λ i lt. refl

-- ---- the choices one after another

-- the bits so far and the choices that are left are all the choices
abbrev pub AreBitsOrLeft : ℕ → ℕ → List Named → Type 0
AreBitsOrLeft bits i choices = (k : ℕ) → k < 64 → ((bit_at bits k == 1) || is_listed (drop i choices) (pos k)) ≡ is_listed choices (pos k)

pub no_bits : (choices : List Named) → AreBitsOrLeft 0 0 choices
no_bits choices = λ k lt. ap (λ n. (n == 1) || is_listed choices (pos k)) (bit_at-zero k)

moved : (e b r : Bool) → ((e || b) || r) ≡ (b || (e || r))
moved true true r = refl
moved true false r = refl
moved false b r = refl

pub more_bits : (choices : List Named) (i : ℕ) (v : Named) (old new : ℕ) → i < length choices → v ≡ get_or choices i v → AddsBit v.number old new → AreBitsOrLeft old i choices → AreBitsOrLeft new (i + 1) choices
more_bits choices i v old new h is adds so_far = λ k lt.
    ap (λ b. b || is_listed (drop (i + 1) choices) (pos k)) (adds k lt)
    ∙ moved (int_eq v.number (pos k)) (bit_at old k == 1) (is_listed (drop (i + 1) choices) (pos k))
    ∙ ap (λ left. (bit_at old k == 1) || is_listed left (pos k)) (sym (there choices i v h is))
    ∙ so_far k lt

or_false : (b : Bool) → b ≡ (b || false)
or_false true = refl
or_false false = refl

pub all_bits : (choices : List Named) (i bits : ℕ) → length choices ≤ i → AreBitsOrLeft bits i choices → AreListedBits bits choices
all_bits choices i bits h so_far = λ k lt.
    or_false (bit_at bits k == 1) ∙ ap (λ left. (bit_at bits k == 1) || is_listed left (pos k)) (sym (drop_all i choices h)) ∙ so_far k lt

-- ---- a set's number

clear_or_listed : (d : ℕ) (l : Bool) → d < 2 → (d ≡ 1 → l ≡ true) → ((d == 0) || l) ≡ true
clear_or_listed zero l lt h = refl
clear_or_listed (suc zero) l lt h = h refl
clear_or_listed (suc (suc d)) l lt h = absurd (omega (arith, lt))

-- a bit that is set, and isn't outside the choices, is a choice
is_choice : (choices : List Named) (n bits k : ℕ) → bits < 2 ^ 64 → k < 64 → AreListedBits bits choices → bit_and n (bit_not w64 bits) ≡ 0 → bit_at n k ≡ 1 → is_listed choices (pos k) ≡ true
is_choice choices n bits k within lt are none set =
    let clear : min (bit_at n k) (bit_at (bit_not w64 bits) k) ≡ 0 = sym (bit_at_and n (bit_not w64 bits) k) ∙ ap (λ m. bit_at m k) none ∙ bit_at-zero k in
    let one : bit_at bits k ≡ 1 = omega (arith, clear, set, bit_at_not w64 bits k within lt, bit_at-lt bits k) in
    sym (are k lt) ∙ ap (λ d. d == 1) one

listed_below : (choices : List Named) (n bits m : ℕ) → m ≤ 64 → bits < 2 ^ 64 → AreListedBits bits choices → bit_and n (bit_not w64 bits) ≡ 0 → has_listed_bits choices m n ≡ true
listed_below choices n bits zero le within are none = refl
listed_below choices n bits (suc m) le within are none =
    ap₂ (λ s t. s && t) (listed_below choices n bits m (omega (arith, le)) within are none)
    (clear_or_listed (bit_at n m) (is_listed choices (pos m)) (bit_at-lt n m) (is_choice choices n bits m within (omega (arith, le)) are none))

set_shows : (prim : Primitive) (choices : List Named) (known : Bool) (b : List ℕ) (n bits : ℕ) → length b ≡ prim_width prim → pos n ≡ number_of Little prim b → bits < 2 ^ 64 → AreListedBits bits choices
    → bit_and n (bit_not w64 bits) ≡ 0 → ShowsSome Little known (Set prim choices) b
set_shows prim choices known b n bits wide number within are none =
    let listed : has_listed_bits choices 64 n ≡ true = listed_below choices n bits 64 (omega arith) within are none in
    (value.Set n, (wide, ap (λ m. shown_set choices known (natural m)) (sym number) ∙ ap (λ t. if t || not known then Some (value.Set n) else None) listed))

pub set_kind : (kind : Kind) (q : Quick) (p : Primitive) (names : List Named) (known : Bool) (b : List ℕ) (n bits : ℕ) → KeepsBits q kind → kind ≡ Set p names → length b ≡ width kind → pos n ≡ number_of Little p b
    → bits ≡ cast_unsigned w64 q.null → bits < 2 ^ 64 → (bit_and n (bit_not w64 bits) == 0) ≡ true → ShowsSome Little known kind b
set_kind kind q p names known b n bits keeps is wide number same within h =
    let kinds : Set keeps.0 keeps.1 ≡ Set p names = sym keeps.2 ∙ is in
    let listed : names ≡ keeps.1 = cc in
    let are : AreListedBits bits names = subst (AreListedBits bits) (sym listed) (subst (λ k. AreListedBits k keeps.1) (sym same) keeps.3) in
    subst (λ k. ShowsSome Little known k b) (sym is) (set_shows p names known b n bits (wide ∙ ap width is) number within are (eqb-true _ 0 h))

-- bits that are stored as a number with a sign
pub stored_bits : (bits : ℕ) (choices : List Named) → bits < 2 ^ 64 → AreListedBits bits choices → AreListedBits (cast_unsigned w64 (cast_signed w64 bits)) choices
stored_bits bits choices within are = subst (λ k. AreListedBits k choices) (sym (of_z-to_z w64 bits within)) are
