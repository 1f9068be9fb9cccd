-- The rule of sets keeps what the laws of messages ask.
use Rattle.std.proofs.Common.{◌≡◌, ◌⊎◌, inl, inr, ℕ, zero, suc, ◌+◌, ◌*◌, ◌/◌, ◌%◌, ◌^◌, ◌<◌, ◌≤◌, Bool, true, false, eqb, cond, List, [], ◌∷◌, length, Some, None, Result, Ok, Err, refl, sym, ap, ◌∙◌, subst, arith, ℤ, pos}
use Rattle.std.specs.Prelude.{◌&&◌, ◌||◌, ◌==◌, not, nat_lt, ◌-ℤ◌}
use Rattle.std.specs.List.{list_any, list_all, filter, AllByRecursion}
use Rattle.std.specs.Int.{bit_at}
use Rattle.std.specs.Ordering.{int_eq}
use Rattle.std.proofs.Math.Path.{fun_ext}
use Rattle.std.proofs.lemmas.Bool.{eqb-true, eq-eqb}
use Rattle.std.proofs.lemmas.Int.{ints}
use Rattle.std.proofs.lemmas.Bool.Decides.{Decides-int_eq}
use Rattle.std.proofs.lemmas.Slice.Eq.{bytes_eq-Decides}
use Rattle.std.proofs.lemmas.List.Sums.{sum_by-append}
use Rattle.std.proofs.lemmas.Nat.Bits.{bit_at_xor, bit_at-pow_same, bit_at-pow_other, bit_at-zero, bit_at_cat_low, bit_at_above, same_from_bits, and_pow}
use Rattle.std.specs.Prelude.{bit_and, bit_xor}
use Rattle.sbe_types.specs.declared.kind.Named.{Named}
use Rattle.sbe_types.specs.declared.message.Value.{Value}
use Rattle.sbe_types.specs.declared.message.Value as value
use Rattle.sbe_types.specs.Numbers.{natural}
use Rattle.sbe_types.specs.Shown.{is_listed, has_listed_bits}
use Rattle.fix_values.specs.declared.rule.V.{V}
use Rattle.fix_values.specs.declared.rule.V.TheVariants as why
use Rattle.fix_values.specs.declared.rule.Code.{Code}
use Rattle.fix_values.specs.Codes.{bit_of, bits_of, characters, codes_in, has_bit, has_code, is_among, is_apart, is_choice, is_code_of, is_named, is_set_text, same_number, same_text, set_number}
use Rattle.fix_values.specs.Tables.{first_byte}
use Rattle.fix_values.proofs.NumeralLemmas.{both, is_not_true, eqb_comm, neither}
use Rattle.fix_values.proofs.CodeLemmas.{filter_all, choice_number, is_bit}
use Rattle.value_laws.proofs.SetsBack.{bytes, same_bytes, any_filter, named_alike, named_on, filter_same}
use Rattle.std.proofs.Math.Nat.{one-le-pow, div-add-mod', mod-lt}
use Rattle.std.proofs.lemmas.Bool.{cases_lt}
use Rattle.std.proofs.lemmas.Bool.Decides.{nat_tests}
use lib.Bits.{xor_add_and}
use Rattle.bridge_rules.proofs.BoolLemmas.{true_false, either, and_so, or_left, or_right, or_false, none_of, if_true}
use Rattle.bridge_rules.specs.Items.{Item, choices, item_by, set_item}
use Rattle.bridge_rules.specs.Rules.{choice_set}
use Rattle.bridge_rules.specs.Members.{not_zero, and_then}
use Rattle.bridge_rules.specs.Values.{value_from}
use Rattle.bridge_rules.specs.Sound.{IsSound, AreCodes}
use Rattle.bridge_rules.proofs.OptionLemmas.{some_is, none_some, some_none, ok_is, if_some}
use Rattle.bridge_rules.proofs.PlainRules.{err_ok, given_ok, given_value, given_item, item_given, made_is}

-- ---- the bits of codes

-- one of the codes has this bit
abbrev pub numbered : ℕ → List Code → Bool
numbered k codes = list_any (λ (code : Code). eqb (natural code.number) k) codes

no_bit : (s i : ℕ) → bit_at s i ≡ 0 → bit_and s (2 ^ i) ≡ 0
no_bit s i h = and_pow s i ∙ ap (λ b. b * 2 ^ i) h ∙ omega arith

-- a number with one bit more
more_bits : (s i k : ℕ) → bit_at s i ≡ 0 → bit_at (s + 2 ^ i) k ≡ (bit_at s k + bit_at (2 ^ i) k) % 2
more_bits s i k h =
    let sum : bit_xor s (2 ^ i) ≡ s + 2 ^ i = omega (arith, xor_add_and s (2 ^ i), no_bit s i h) in
    ap (λ n. bit_at n k) (sym sum) ∙ bit_at_xor s (2 ^ i) k

bits_more : (x : Code) (xs : List Code) → bits_of (x ∷ xs) ≡ bits_of xs + bit_of x
bits_more x xs = sum_by-append bit_of (x ∷ []) xs ∙ omega arith

-- two numbers that aren't negative and differ are different bits
other_bit : (a b : ℤ) → a ≡ pos (natural a) → b ≡ pos (natural b) → int_eq a b ≡ false → eqb (natural a) (natural b) ≡ false
other_bit a b p q e = elim (either (eqb (natural a) (natural b))) [
  | inl t ↦ true_false ((Decides-int_eq a b).1 (p ∙ ap pos (eqb-true (natural a) (natural b) t) ∙ sym q)) e
  | inr f ↦ f
]

-- the numbers of codes that differ differ as bits
apart_bits : (x : Code) (xs : List Code) → is_choice x ≡ true → list_all is_choice xs ≡ true → list_any (same_number x) xs ≡ false → numbered (natural x.number) xs ≡ false
apart_bits x [] g h e = refl
apart_bits x (y ∷ ys) g h e =
    let all = both (is_choice y) (list_all is_choice ys) h in
    let none = neither (same_number x y) (list_any (same_number x) ys) e in
    none_of (eqb (natural y.number) (natural x.number)) _
    (eqb_comm (natural y.number) (natural x.number) ∙ other_bit x.number y.number (choice_number x.number (both (length x.text == 1) _ g).1).0 (choice_number y.number (both (length y.text == 1) _ all.0).1).0 none.0)
    (apart_bits x ys g all.1 none.1)

-- a bit of codes with different numbers is that of one of them
bit_is : (k : ℕ) (codes : List Code) → list_all is_choice codes ≡ true → is_apart same_number codes ≡ true → bit_at (bits_of codes) k ≡ cond (numbered k codes) 1 0
bit_is k [] h a = bit_at-zero k
bit_is k (x ∷ xs) h a =
    let all = both (is_choice x) (list_all is_choice xs) h in
    let apart = both (not (list_any (same_number x) xs)) (is_apart same_number xs) a in
    let i = natural x.number in
    let free : numbered i xs ≡ false = apart_bits x xs all.0 all.1 (is_not_true _ apart.0) in
    let low : bit_at (bits_of xs) i ≡ 0 = bit_is i xs all.1 apart.1 ∙ ap (λ b. cond b 1 0) free in
    ap (λ n. bit_at n k) (bits_more x xs) ∙ more_bits (bits_of xs) i k low
    ∙ elim (either (eqb i k)) [
      | inl t ↦
          let is : i ≡ k = eqb-true i k t in
          let first : bit_at (bits_of xs) k ≡ 0 = subst (λ j. bit_at (bits_of xs) j ≡ 0) is low in
          let second : bit_at (2 ^ i) k ≡ 1 = subst (λ j. bit_at (2 ^ i) j ≡ 1) is (bit_at-pow_same i) in
          ap (λ b. (b + bit_at (2 ^ i) k) % 2) first ∙ ap (λ b. (0 + b) % 2) second ∙ sym (ap (λ b. cond (b || numbered k xs) 1 0) t)
      | inr f ↦
          let other : bit_at (2 ^ i) k ≡ 0 = bit_at-pow_other i k (λ e. true_false (eq-eqb i k (sym e)) f) in
          ap (λ b. (bit_at (bits_of xs) k + b) % 2) other ∙ ap (λ b. (b + 0) % 2) (bit_is k xs all.1 apart.1) ∙ low_bit (numbered k xs)
          ∙ sym (ap (λ b. cond (b || numbered k xs) 1 0) f)
    ]
  where
    low_bit : (b : Bool) → (cond b 1 0 + 0) % 2 ≡ cond b 1 0
    low_bit true = refl
    low_bit false = refl

-- codes of different numbers that pass a test are those whose bits they make up
lift : (p : Code → Bool) (b : Bool) (x : Code) (F ys : List Code) → numbered (natural x.number) ys ≡ false →
    AllByRecursion (λ y. numbered (natural y.number) F ≡ p y) ys → AllByRecursion (λ y. numbered (natural y.number) (cond b (x ∷ F) F) ≡ p y) ys
lift p b x F [] none same = tt
lift p false x F (y ∷ ys) none same = same
lift p true x F (y ∷ ys) none same =
    let rest = or_false (eqb (natural y.number) (natural x.number)) (numbered (natural x.number) ys) none in
    (ap (λ e. e || numbered (natural y.number) F) (eqb_comm (natural x.number) (natural y.number) ∙ rest.0) ∙ same.0, lift p true x F ys rest.1 same.1)

numbered_alike : (p : Code → Bool) (cs : List Code) → list_all is_choice cs ≡ true → is_apart same_number cs ≡ true → AllByRecursion (λ y. numbered (natural y.number) (filter p cs) ≡ p y) cs
numbered_alike p [] h a = tt
numbered_alike p (x ∷ xs) h a =
    let all = both (is_choice x) (list_all is_choice xs) h in
    let apart = both (not (list_any (same_number x) xs)) (is_apart same_number xs) a in
    let free : numbered (natural x.number) xs ≡ false = apart_bits x xs all.0 all.1 (is_not_true _ apart.0) in (
      head (p x) (filter p xs) (any_filter p (λ code. eqb (natural code.number) (natural x.number)) xs free),
      lift p (p x) x (filter p xs) xs free (numbered_alike p xs all.1 apart.1),
    )
  where
    head : (b : Bool) (F : List Code) → numbered (natural x.number) F ≡ false → numbered (natural x.number) (cond b (x ∷ F) F) ≡ b
    head true F none = or_left (eqb (natural x.number) (natural x.number)) _ (eq-eqb (natural x.number) (natural x.number) refl)
    head false F none = none

filter_apart : (p : Code → Bool) (cs : List Code) → is_apart same_number cs ≡ true → is_apart same_number (filter p cs) ≡ true
filter_apart p [] a = refl
filter_apart p (x ∷ xs) a =
    let apart = both (not (list_any (same_number x) xs)) (is_apart same_number xs) a in
    by_test (p x) (any_filter p (same_number x) xs (is_not_true _ apart.0)) (filter_apart p xs apart.1)
  where
    by_test : (b : Bool) → list_any (same_number x) (filter p xs) ≡ false → is_apart same_number (filter p xs) ≡ true → is_apart same_number (cond b (x ∷ filter p xs) (filter p xs)) ≡ true
    by_test true none rest = ap (λ b. not b && is_apart same_number (filter p xs)) none ∙ rest
    by_test false none rest = rest

one_is : (b : Bool) → (cond b 1 0 == 1) ≡ b
one_is true = refl
one_is false = refl

bits_alike : (n : ℕ) (p : Code → Bool) (F ys : List Code) → ((k : ℕ) → bit_at n k ≡ cond (numbered k F) 1 0) →
    AllByRecursion (λ y. numbered (natural y.number) F ≡ p y) ys → AllByRecursion (λ y. has_bit n y ≡ p y) ys
bits_alike n p F [] bits same = tt
bits_alike n p F (y ∷ ys) bits same =
    (ap (λ b. b == 1) (bits (natural y.number)) ∙ one_is (numbered (natural y.number) F) ∙ same.0, bits_alike n p F ys bits same.1)

-- the codes of the bits that chosen codes make up are these
pub codes_back : (p : Code → Bool) (cs : List Code) → list_all is_choice cs ≡ true → is_apart same_number cs ≡ true → codes_in cs (bits_of (filter p cs)) ≡ filter p cs
codes_back p cs h a =
    let F = filter p cs in
    let n = bits_of F in
    filter_same p (has_bit n) cs
    (bits_alike n p F cs (λ k. bit_is k F (filter_all p is_choice cs h) (filter_apart p cs a)) (numbered_alike p cs h a))

-- ---- the characters of codes

code_is : (c : ℕ) (code : Code) → is_code_of c code ≡ true → code.text ≡ c ∷ []
code_is c code h = (bytes_eq-Decides code.text (c ∷ [])).0 h

first_is : {a b : ℕ} → a ∷ [] ≡ b ∷ [] → a ≡ b
first_is h = cc

-- a character among others names a code of it
named_by : (c : ℕ) (code : Code) (cs : List ℕ) → is_code_of c code ≡ true → is_among c cs ≡ true → is_named cs code ≡ true
named_by c code [] h among = true_false among refl
named_by c code (d ∷ ds) h among = elim (either (eqb c d)) [
  | inl t ↦ or_left (is_code_of d code) _ (subst (λ e. is_code_of e code ≡ true) (eqb-true c d t) h)
  | inr f ↦ or_right (is_code_of d code) _ (named_by c code ds h (sym (ap (λ b. b || is_among c ds) f) ∙ among))
]

among_by : (c : ℕ) (code : Code) (cs : List ℕ) → is_code_of c code ≡ true → is_named cs code ≡ true → is_among c cs ≡ true
among_by c code [] h named = true_false named refl
among_by c code (d ∷ ds) h named = elim (either (is_code_of d code)) [
  | inl t ↦ or_left (eqb c d) _ (eq-eqb c d (first_is (sym (code_is c code h) ∙ code_is d code t)))
  | inr f ↦ or_right (eqb c d) _ (among_by c code ds h (sym (ap (λ b. b || is_named ds code) f) ∙ named))
]

-- the codes that are named have the characters that name them
kept_code : (c : ℕ) (cs : List ℕ) (codes : List Code) → is_among c cs ≡ true → has_code codes c ≡ true → has_code (filter (is_named cs) codes) c ≡ true
kept_code c cs [] among h = h
kept_code c cs (x ∷ xs) among h = elim (either (is_code_of c x)) [
  | inl t ↦
      ap (λ b. has_code (cond b (x ∷ filter (is_named cs) xs) (filter (is_named cs) xs)) c) (named_by c x cs t among)
      ∙ or_left (is_code_of c x) _ t
  | inr f ↦ either_way (is_named cs x) (kept_code c cs xs among (sym (ap (λ b. b || has_code xs c) f) ∙ h))
]
  where
    either_way : (b : Bool) → has_code (filter (is_named cs) xs) c ≡ true → has_code (cond b (x ∷ filter (is_named cs) xs) (filter (is_named cs) xs)) c ≡ true
    either_way true k = or_right (is_code_of c x) _ k
    either_way false k = k

code_named : (c : ℕ) (cs : List ℕ) (codes : List Code) → has_code (filter (is_named cs) codes) c ≡ true → is_among c cs ≡ true
code_named c cs [] h = true_false h refl
code_named c cs (x ∷ xs) h = by_test (is_named cs x) refl (code_named c cs xs) h
  where
    by_test : (b : Bool) → is_named cs x ≡ b → (has_code (filter (is_named cs) xs) c ≡ true → is_among c cs ≡ true) →
        has_code (cond b (x ∷ filter (is_named cs) xs) (filter (is_named cs) xs)) c ≡ true → is_among c cs ≡ true
    by_test false is later k = later k
    by_test true is later k = elim (either (is_code_of c x)) [
      | inl t ↦ among_by c x cs t is
      | inr f ↦ later (sym (ap (λ b. b || has_code (filter (is_named cs) xs) c) f) ∙ k)
    ]

has_all : (f : ℕ → Bool) (c : ℕ) (cs : List ℕ) → list_all f cs ≡ true → is_among c cs ≡ true → f c ≡ true
has_all f c [] all h = true_false h refl
has_all f c (d ∷ ds) all h = elim (either (eqb c d)) [
  | inl t ↦ ap f (eqb-true c d t) ∙ (both (f d) (list_all f ds) all).0
  | inr g ↦ has_all f c ds (both (f d) (list_all f ds) all).1 (sym (ap (λ b. b || is_among c ds) g) ∙ h)
]

-- tests that agree where they hold are one
same_test : (a b : Bool) → (a ≡ true → b ≡ true) → (b ≡ true → a ≡ true) → a ≡ b
same_test true b f g = sym (f refl)
same_test false true f g = g refl
same_test false false f g = refl

-- a text names codes, and these have its characters
pub characters_are : (cs : List ℕ) (codes : List Code) → list_all (has_code codes) cs ≡ true → (λ c. is_among c cs) ≡ has_code (filter (is_named cs) codes)
characters_are cs codes all =
    fun_ext (λ c. same_test (is_among c cs) (has_code (filter (is_named cs) codes) c) (λ h. kept_code c cs codes h (has_all (has_code codes) c cs all h)) (λ h. code_named c cs codes h))

-- ---- the way back

all_from : (f : ℕ → Bool) (cs : List ℕ) → ((c : ℕ) → is_among c cs ≡ true → f c ≡ true) → list_all f cs ≡ true
all_from f [] h = refl
all_from f (d ∷ ds) h =
    ap (λ b. b && list_all f ds) (h d (or_left (eqb d d) _ (eq-eqb d d refl))) ∙ all_from f ds (λ c k. h c (or_right (eqb c d) _ k))

code_kept : (p : Code → Bool) (c : ℕ) (codes : List Code) → has_code (filter p codes) c ≡ true → has_code codes c ≡ true
code_kept p c codes h = elim (either (has_code codes c)) [
  | inl t ↦ t
  | inr f ↦ true_false h (any_filter p (is_code_of c) codes f)
]

code_bytes : (c : ℕ) (codes : List Code) → list_all is_choice codes ≡ true → has_code codes c ≡ is_among c (bytes codes)
code_bytes c [] h = refl
code_bytes c (x ∷ xs) h =
    let all = both (is_choice x) (list_all is_choice xs) h in
    ap (λ b. b || has_code xs c) (same_bytes x.text (c ∷ []) (eqb-true (length x.text) 1 (both (length x.text == 1) _ all.0).0) refl ∙ eqb_comm (first_byte x) c)
    ∙ ap (λ b. eqb c (first_byte x) || b) (code_bytes c xs all.1)

moved : (p : Code → Bool) (B cs : List ℕ) (ys : List Code) → ((c : ℕ) → is_among c cs ≡ is_among c B) → AllByRecursion (λ y. is_among (first_byte y) B ≡ p y) ys → AllByRecursion (λ y. is_among (first_byte y) cs ≡ p y) ys
moved p B cs [] same h = tt
moved p B cs (y ∷ ys) same h = (same (first_byte y) ∙ h.0, moved p B cs ys same h.1)

-- characters that are those of a set's codes name them, and there is no other character
pub named_again : (n : ℕ) (cs : List ℕ) (codes : List Code) → list_all is_choice codes ≡ true → is_apart same_text codes ≡ true → (λ c. is_among c cs) ≡ has_code (codes_in codes n) →
    (filter (is_named cs) codes ≡ codes_in codes n) × (list_all (has_code codes) cs ≡ true)
named_again n cs codes choice_codes apart same =
    let C = codes_in codes n in
    let at : (c : ℕ) → is_among c cs ≡ has_code C c = λ c. ap (λ f. f c) same in
    let all : list_all is_choice C ≡ true = filter_all (has_bit n) is_choice codes choice_codes in (
      filter_same (has_bit n) (is_named cs) codes
          (named_on (has_bit n) cs codes choice_codes (moved (has_bit n) (bytes C) cs codes (λ c. at c ∙ code_bytes c C all) (named_alike (has_bit n) codes choice_codes apart))),
      all_from (has_code codes) cs (λ c h. code_kept (has_bit n) c codes (sym (at c) ∙ h)),
    )

-- ---- the bits of a set

number_listed : (k : ℕ) (codes : List Code) → list_all is_choice codes ≡ true → numbered k codes ≡ true → list_any (λ (code : Code). int_eq code.number (pos k)) codes ≡ true
number_listed k [] h e = true_false e refl
number_listed k (x ∷ xs) h e =
    let all = both (is_choice x) (list_all is_choice xs) h in
    elim (either (eqb (natural x.number) k)) [
      | inl t ↦ or_left (int_eq x.number (pos k)) _ ((Decides-int_eq x.number (pos k)).1 ((choice_number x.number (both (length x.text == 1) _ all.0).1).0 ∙ ap pos (eqb-true (natural x.number) k t)))
      | inr f ↦ or_right (int_eq x.number (pos k)) _ (number_listed k xs all.1 (sym (ap (λ b. b || numbered k xs) f) ∙ e))
    ]

numbered_kept : (p : Code → Bool) (k : ℕ) (codes : List Code) → numbered k (filter p codes) ≡ true → numbered k codes ≡ true
numbered_kept p k codes h = elim (either (numbered k codes)) [
  | inl t ↦ t
  | inr f ↦ true_false h (any_filter p (λ code. eqb (natural code.number) k) codes f)
]

listed_bits : (names : List Named) (n : ℕ) (k : ℕ) → ((j : ℕ) → (bit_at n j ≡ 0) ⊎ (is_listed names (pos j) ≡ true)) → has_listed_bits names k n ≡ true
listed_bits names n zero bits = refl
listed_bits names n (suc k) bits =
    ap (λ b. b && (bit_at n k == 0 || is_listed names (pos k))) (listed_bits names n k bits)
    ∙ elim (bits k) [
      | inl none ↦ or_left (bit_at n k == 0) _ (eq-eqb (bit_at n k) 0 none)
      | inr listed ↦ or_right (bit_at n k == 0) _ listed
    ]

-- a number without bits from k on is below 2 ^ k
below_bits : (k n : ℕ) → ((i : ℕ) → k ≤ i → bit_at n i ≡ 0) → n < 2 ^ k
below_bits k n none = subst (λ m. m < 2 ^ k) (sym (same_from_bits n (n % 2 ^ k) by_place)) small
  where
    small : n % 2 ^ k < 2 ^ k
    small = let some : 0 < 2 ^ k = one-le-pow k 2 (omega arith) in mod-lt n some

    by_place : (i : ℕ) → bit_at n i ≡ bit_at (n % 2 ^ k) i
    by_place i = elim (cases_lt i k) [
      | inl low ↦ ap (λ m. bit_at m i) (sym (div-add-mod' n (2 ^ k))) ∙ bit_at_cat_low (n / 2 ^ k) k (n % 2 ^ k) i low
      | inr high ↦ none i (omega (arith, high)) ∙ sym (bit_at_above (n % 2 ^ k) k i small (omega (arith, high)))
    ]

far_bit : (k : ℕ) → 64 ≤ k → (codes : List Code) → list_all is_choice codes ≡ true → numbered k codes ≡ false
far_bit k high [] h = refl
far_bit k high (x ∷ xs) h =
    let all = both (is_choice x) (list_all is_choice xs) h in
    none_of (eqb (natural x.number) k) _
    (elim (either (eqb (natural x.number) k)) [
      | inl t ↦ absurd (omega (arith, is_bit x all.0, high, eqb-true (natural x.number) k t))
      | inr f ↦ f
    ])
    (far_bit k high xs all.1)

below_so : (a b : ℕ) → a < b → nat_lt a b ≡ true
below_so a b h = grind (arith, nat_tests)

small_set : (codes : List Code) → list_all is_choice codes ≡ true → is_apart same_number codes ≡ true → nat_lt (bits_of codes) (2 ^ 64) ≡ true
small_set codes h a = below_so (bits_of codes) (2 ^ 64) (below_bits 64 (bits_of codes) (λ j high. bit_is j codes h a ∙ ap (λ b. cond b 1 0) (far_bit j high codes h)))

some_bits : (c : ℕ) (F : List Code) → has_code F c ≡ true → 0 < bits_of F
some_bits c [] h = true_false h refl
some_bits c (x ∷ xs) h = let one : 0 < 2 ^ natural x.number = one-le-pow (natural x.number) 2 (omega arith) in omega (arith, bits_more x xs, one)

pub not_zero_is : (n : ℕ) → 0 < n → not_zero n ≡ Some n
not_zero_is zero h = absurd (omega (arith, h))
not_zero_is (suc n) h = refl

pub set_is : (codes : List Code) (t : List ℕ) (z : ℤ) → set_number codes t ≡ Ok z →
    (is_set_text t ≡ true) × (list_all (has_code codes) (characters t) ≡ true) × (pos (bits_of (filter (is_named (characters t)) codes)) ≡ z)
set_is codes t z h = by_tests (is_set_text t) (list_all (has_code codes) (characters t)) h
  where
    by_tests : (a b : Bool) → ◌≡◌ {A = Result ℤ V} (cond a (cond b (Ok (pos (bits_of (filter (is_named (characters t)) codes)))) (Err why.UnknownCode)) (Err why.Spelling)) (Ok z) →
        (a ≡ true) × (b ≡ true) × (pos (bits_of (filter (is_named (characters t)) codes)) ≡ z)
    by_tests true true k = (refl, refl, ok_is k)
    by_tests true false k = err_ok k
    by_tests false b k = err_ok k

set_so : (codes : List Code) (t : List ℕ) → is_set_text t ≡ true → list_all (has_code codes) (characters t) ≡ true → set_number codes t ≡ Ok (pos (bits_of (filter (is_named (characters t)) codes)))
set_so codes t spelled all =
    if_true (is_set_text t) _ (Err why.Spelling) spelled ∙ if_true (list_all (has_code codes) (characters t)) (Ok (pos (bits_of (filter (is_named (characters t)) codes)))) (Err why.UnknownCode) all

choices_is : {f g : ℕ → Bool} {a b : ℤ} → choices f a ≡ choices g b → (f ≡ g) × (a ≡ b)
choices_is h = (ap codes_of h, ap rest_of h)
  where
    codes_of : Item → ℕ → Bool
    codes_of (choices f a) = f
    codes_of i = λ c. false

    rest_of : Item → ℤ
    rest_of (choices f a) = a
    rest_of i = pos 0

pub first_among : (codes : List Code) (t : List ℕ) → is_set_text t ≡ true → list_all (has_code codes) (characters t) ≡ true → 0 < bits_of (filter (is_named (characters t)) codes)
first_among codes [] spelled all = true_false spelled refl
first_among codes (b ∷ bs) spelled all =
    some_bits b (filter (is_named (characters (b ∷ bs))) codes)
    (kept_code b (characters (b ∷ bs)) codes (or_left (eqb b b) _ (eq-eqb b b refl)) (both (has_code codes b) _ all).0)

nothing_left : (n : ℤ) → n -ℤ n ≡ pos 0
nothing_left n = omega (arith, ints)

none_left : (m n : ℕ) → pos m -ℤ pos n ≡ pos 0 → m ≡ n
none_left m n h = omega (arith, ints, h)

set_item_is : (names : List Named) (codes : List Code) (n : ℕ) → 0 < n → item_by (choice_set names codes) (value.Set n) ≡ set_item codes n
set_item_is names codes n some = ap (λ o. and_then o (set_item codes)) (not_zero_is n some)

pub choice_set_sound : (names : List Named) (codes : List Code) → AreCodes names codes → list_all is_choice codes ≡ true → IsSound (choice_set names codes)
choice_set_sound names codes are one_byte = record {
  read = λ t v h.
      let given = given_ok (choice_set names codes) t v h in
      let made_of = made_is (λ n. value.Set (natural n)) (set_number codes t) v given.1 in
      let set = set_is codes t made_of.0 made_of.1 in
      let F = filter (is_named (characters t)) codes in
      let n = bits_of F in
      let v_is : v ≡ value.Set n = made_of.2 ∙ ap (λ z. value.Set (natural z)) (sym set.2) in
      let chosen : codes_in codes n ≡ F = codes_back (is_named (characters t)) codes one_byte are.numbers in
      let item : Item = choices (λ c. is_among c (characters t)) (pos 0) in
      let mine : set_item codes n ≡ Some item =
      ap (λ C. Some (choices (has_code C) (pos n -ℤ pos (bits_of C)))) chosen
      ∙ ap (λ f. Some (choices f (pos n -ℤ pos n))) (sym (characters_are (characters t) codes set.1)) ∙ ap (λ z. Some (choices (λ c. is_among c (characters t)) z)) (nothing_left (pos n)) in (
        (n, v_is, and_so (nat_lt n (2 ^ 64)) _ (small t) (listed_bits names n 64 (bits t))),
        (
          item,
          given_item (choice_set names codes) t given.0 ∙ if_true (is_set_text t) (Some item) None set.0,
          ap (item_by (choice_set names codes)) v_is ∙ set_item_is names codes n (first_among codes t set.0 set.1) ∙ mine,
        ),
      );
  found = λ t v item good told same.
      let given = item_given (choice_set names codes) t item told in
      let spelled = if_some (is_set_text t) (Some (choices (λ c. is_among c (characters t)) (pos 0))) item given.1 in
      let mine = sym (ap (item_by (choice_set names codes)) good.1) ∙ same in
      let is = set_there good.0 item mine in
      let parts = choices_is (some_is (spelled.1 ∙ sym is)) in
      let again = named_again good.0 (characters t) codes one_byte are.texts parts.0 in
      let n_is : good.0 ≡ bits_of (codes_in codes good.0) = none_left good.0 (bits_of (codes_in codes good.0)) (sym parts.1) in
      given_value (choice_set names codes) t v given.0
      (ap (value_from (λ n. value.Set (natural n))) (set_so codes t spelled.0 again.1)
      ∙ ap (λ C. Ok (value.Set (bits_of C))) again.0 ∙ ap (λ n. Ok (value.Set n)) (sym n_is) ∙ ap Ok (sym good.1));
  missed = λ v h. ((0, sym (some_is h), and_so (nat_lt 0 (2 ^ 64)) _ refl (listed_bits names 0 64 (λ j. inl (bit_at-zero j)))), ap (item_by (choice_set names codes)) (sym (some_is h)));
  lacking = λ v good none. ap (λ n. Some (value.Set n)) (sym (zero_set good.0 (sym (ap (item_by (choice_set names codes)) good.1) ∙ none))) ∙ ap Some (sym good.1);
}
  where
    bits : (t : List ℕ) (j : ℕ) → (bit_at (bits_of (filter (is_named (characters t)) codes)) j ≡ 0) ⊎ (is_listed names (pos j) ≡ true)
    bits t j =
        let F = filter (is_named (characters t)) codes in
        let is = bit_is j F (filter_all (is_named (characters t)) is_choice codes one_byte) (filter_apart (is_named (characters t)) codes are.numbers) in
        elim (either (numbered j F)) [
          | inl k ↦ inr (are.listed (pos j) (number_listed j codes one_byte (numbered_kept (is_named (characters t)) j codes k)))
          | inr k ↦ inl (is ∙ ap (λ b. cond b 1 0) k)
        ]

    small : (t : List ℕ) → nat_lt (bits_of (filter (is_named (characters t)) codes)) (2 ^ 64) ≡ true
    small t =
        let F = filter (is_named (characters t)) codes in
        small_set F (filter_all (is_named (characters t)) is_choice codes one_byte) (filter_apart (is_named (characters t)) codes are.numbers)

    set_there : (n : ℕ) (item : Item) → item_by (choice_set names codes) (value.Set n) ≡ Some item → set_item codes n ≡ Some item
    set_there zero item h = none_some h
    set_there (suc n) item h = h

    zero_set : (n : ℕ) → item_by (choice_set names codes) (value.Set n) ≡ None → n ≡ 0
    zero_set zero h = refl
    zero_set (suc n) h = some_none h
