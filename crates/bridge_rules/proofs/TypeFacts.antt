-- The types and codes of a checked schema keep what the rules ask of them.
use Rattle.std.proofs.Common.{◌≡◌, ◌≢◌, ◌⊎◌, inl, inr, ℕ, suc, ◌^◌, ◌<◌, ◌≤◌, Bool, true, false, cond, List, [], ◌∷◌, ◌++◌, length, map, Option, Some, None, refl, sym, ap, ◌∙◌, subst, arith, ℤ, pos, negsuc, FitsSigned, slice_index_or}
use Rattle.std.specs.Prelude.{⊤, ◌&&◌, ◌||◌, ◌==◌, not, bytes_eq, int_le, nat_lt, nat_le, unsigned_abs}
use Rattle.std.specs.Int.{w128}
use Rattle.std.specs.List.{list_any, list_all, AllPairs, AllByRecursion}
use Rattle.std.specs.Ordering.{int_eq}
use Rattle.std.proofs.lemmas.Int.{ints}
use Rattle.std.proofs.lemmas.Bool.Decides.{nat_tests, Decides-int_eq}
use Rattle.std.proofs.lemmas.Slice.Eq.{bytes_eq-Decides}
use Rattle.sbe_types.specs.declared.kind.Primitive.{Primitive}
use Rattle.sbe_types.specs.declared.kind.Primitive.TheVariants.{Char, I8, I16, I32, I64, U8, U16, U32, U64}
use Rattle.sbe_types.specs.declared.kind.Leaf.{Leaf as LeafOf}
use Rattle.sbe_types.specs.declared.kind.Named.{Named}
use Rattle.sbe_types.specs.Numbers.{natural}
use Rattle.sbe_types.specs.Shown.{is_listed, admits}
use Rattle.schema_rules.specs.Ranges.{is_number_of}
use Rattle.schema_facts.specs.InOrder.{IsLeafFrom}
use Rattle.fix_values.specs.declared.rule.Code.{Code}
use Rattle.fix_values.specs.Numerals.{is_value}
use Rattle.fix_values.specs.Codes.{is_apart, same_number, same_text, is_choice, has_short_text}
use Rattle.fix_values.proofs.NumeralLemmas.{both}
use Rattle.std.specs.Fmt.{signed_decimal}
use Rattle.std.proofs.lemmas.Fmt.{length-decimal-le_wide}
use Rattle.fix_values.specs.Numerals.{sign}
use Rattle.value_laws.proofs.ReadBack.{shown_spelled}
use Rattle.bridge_rules.specs.Sound.{AreCodes}
use Rattle.bridge_rules.specs.Bounds.{IsShort, IsNarrow, IsUnsigned, is_short}
use Rattle.bridge_rules.specs.Datatypes.{NamedCode}
use Rattle.bridge_rules.specs.Rules.{is_char}
use Rattle.bridge_rules.specs.Table.{code_with, code_of, codes_of, number_codes, number_text, choice_code, choice_codes, named_text}
use Rattle.bridge_rules.specs.Again.{IsWord}
use Rattle.bridge_rules.proofs.OptionLemmas.{some_is, none_some, and_second}
use Rattle.bridge_rules.proofs.BoolLemmas.{true_false, either, or_left, or_right, none_of, if_true, if_false}

-- ---- types

between : (a b low high n : ℤ) → int_le a low ≡ true → int_le high b ≡ true → int_le low n ≡ true → int_le n high ≡ true → int_le a n && int_le n b ≡ true
between a b low high n p q r s = grind (arith, ints, nat_tests)

-- a value of the type is a number of its primitive
pub in_primitive : (k : ℕ) (leaf : LeafOf) → IsLeafFrom k leaf → (n : ℤ) → is_value leaf n ≡ true → is_number_of leaf.prim n ≡ true
in_primitive k leaf facts n is =
    let inside = both _ _ (and_second _ (admits leaf n) is) in
    between _ _ leaf.low leaf.high n (both _ _ facts.low).0 (both _ _ facts.high).1 inside.0 inside.1

pub primitive_short : (prim : Primitive) (n : ℤ) → is_number_of prim n ≡ true → FitsSigned w128 n × (unsigned_abs n < 10 ^ 38)
primitive_short Char n h = (grind (arith, ints, nat_tests), grind (arith, ints, nat_tests))
primitive_short I8 n h = (grind (arith, ints, nat_tests), grind (arith, ints, nat_tests))
primitive_short I16 n h = (grind (arith, ints, nat_tests), grind (arith, ints, nat_tests))
primitive_short I32 n h = (grind (arith, ints, nat_tests), grind (arith, ints, nat_tests))
primitive_short I64 n h = (grind (arith, ints, nat_tests), grind (arith, ints, nat_tests))
primitive_short U8 n h = (grind (arith, ints, nat_tests), grind (arith, ints, nat_tests))
primitive_short U16 n h = (grind (arith, ints, nat_tests), grind (arith, ints, nat_tests))
primitive_short U32 n h = (grind (arith, ints, nat_tests), grind (arith, ints, nat_tests))
primitive_short U64 n h = (grind (arith, ints, nat_tests), grind (arith, ints, nat_tests))

primitive_word : (prim : Primitive) (n : ℤ) → is_number_of prim n ≡ true → unsigned_abs n < 2 ^ 64
primitive_word Char n h = grind (arith, ints, nat_tests)
primitive_word I8 n h = grind (arith, ints, nat_tests)
primitive_word I16 n h = grind (arith, ints, nat_tests)
primitive_word I32 n h = grind (arith, ints, nat_tests)
primitive_word I64 n h = grind (arith, ints, nat_tests)
primitive_word U8 n h = grind (arith, ints, nat_tests)
primitive_word U16 n h = grind (arith, ints, nat_tests)
primitive_word U32 n h = grind (arith, ints, nat_tests)
primitive_word U64 n h = grind (arith, ints, nat_tests)

pub leaf_word : (k : ℕ) (leaf : LeafOf) → IsLeafFrom k leaf → IsWord leaf
leaf_word k leaf facts n is = let number = in_primitive k leaf facts n is in ((primitive_short leaf.prim n number).0, primitive_word leaf.prim n number)

pub leaf_short : (k : ℕ) (leaf : LeafOf) → IsLeafFrom k leaf → IsShort leaf
leaf_short k leaf facts n is = primitive_short leaf.prim n (in_primitive k leaf facts n is)

pub leaf_narrow : (k : ℕ) (leaf : LeafOf) → IsLeafFrom k leaf → IsNarrow leaf
leaf_narrow k leaf facts n is = let own = leaf_short k leaf facts n is in omega (arith, own.1)

not_negative : (n : ℤ) → is_number_of Char n ≡ true → n ≡ pos (natural n)
not_negative (pos k) h = refl
not_negative (negsuc k) h = true_false (both (int_le (pos 0) (negsuc k)) (int_le (negsuc k) (pos 255)) h).0 refl

pub char_unsigned : (k : ℕ) (leaf : LeafOf) → IsLeafFrom k leaf → leaf.prim ≡ Char → IsUnsigned leaf
char_unsigned k leaf facts char n is = not_negative n (subst (λ p. is_number_of p n ≡ true) char (in_primitive k leaf facts n is))

-- ---- codes

-- codes of listed values, in their order, each value having one or none
abbrev pub AreOf : List Named → List Code → Type 0
AreOf [] [] = ⊤
AreOf [] (c ∷ cs) = ⊥
AreOf (name ∷ names) cs = AreOf names cs ⊎ ((t : List ℕ) × (rest : List Code) × (cs ≡ code_with name t ∷ rest) × AreOf names rest)

abbrev HasNumber : ℤ → List Code → Bool
HasNumber n codes = list_any (λ (code : Code). int_eq code.number n) codes

of_listed : (names : List Named) (cs : List Code) → AreOf names cs → (n : ℤ) → HasNumber n cs ≡ true → is_listed names n ≡ true
of_listed [] [] of n h = h
of_listed [] (c ∷ cs) of n h = absurd of
of_listed (name ∷ names) cs of n h = elim of [
  | inl more ↦ or_right (int_eq name.number n) _ (of_listed names cs more n h)
  | inr here ↦ elim (either (int_eq name.number n)) [
    | inl t ↦ or_left (int_eq name.number n) _ t
    | inr f ↦ or_right (int_eq name.number n) _ (of_listed names here.1 here.3 n (sym (ap (λ b. b || HasNumber n here.1) f) ∙ sym (ap (HasNumber n) here.2) ∙ h))
  ]
]

-- no number is there twice
abbrev pub AreDifferent : List Named → Type 0
AreDifferent [] = ⊤
AreDifferent (name ∷ names) = (is_listed names name.number ≡ false) × AreDifferent names

same_has : (c : Code) (cs : List Code) → list_any (same_number c) cs ≡ true → HasNumber c.number cs ≡ true
same_has c [] h = h
same_has c (d ∷ ds) h = elim (either (same_number c d)) [
  | inl t ↦ or_left (int_eq d.number c.number) _ ((Decides-int_eq d.number c.number).1 (sym ((Decides-int_eq c.number d.number).0 t)))
  | inr f ↦ or_right (int_eq d.number c.number) _ (same_has c ds (sym (ap (λ b. b || list_any (same_number c) ds) f) ∙ h))
]

of_apart : (names : List Named) (cs : List Code) → AreDifferent names → AreOf names cs → is_apart same_number cs ≡ true
of_apart [] [] apart of = refl
of_apart [] (c ∷ cs) apart of = absurd of
of_apart (name ∷ names) cs apart of = elim of [
  | inl more ↦ of_apart names cs apart.1 more
  | inr here ↦
      let c = code_with name here.0 in
      let free : list_any (same_number c) here.1 ≡ false = elim (either (list_any (same_number c) here.1)) [
        | inl t ↦ true_false (of_listed names here.1 here.3 name.number (same_has c here.1 t)) apart.0
        | inr f ↦ f
      ] in
      ap (is_apart same_number) here.2 ∙ ap (λ b. not b && is_apart same_number here.1) free ∙ of_apart names here.1 apart.1 here.3
]

pub codes_are : (names : List Named) (cs : List Code) → AreDifferent names → AreOf names cs → is_apart same_text cs ≡ true → AreCodes names cs
codes_are names cs apart of texts = record { numbers = of_apart names cs apart of; texts = texts; listed = of_listed names cs of }

-- the numbers of checked listed values differ
not_listed : (n : ℤ) (names : List Named) → ((k : ℕ) (d : ℤ) → k < length (map (λ (v : Named). v.number) names) → n ≢ slice_index_or (map (λ (v : Named). v.number) names) k d) → is_listed names n ≡ false
not_listed n [] apart = refl
not_listed n (v ∷ vs) apart =
    none_of (int_eq v.number n) _ (by_test (int_eq v.number n) refl)
    (not_listed n vs (λ k d low same. apart (suc k) d (omega (arith, low)) same))
  where
    by_test : (b : Bool) → int_eq v.number n ≡ b → b ≡ false
    by_test false h = refl
    by_test true h = absurd (apart 0 n (omega arith) (sym ((Decides-int_eq v.number n).0 h)))

pub different : (names : List Named) → AllPairs (λ a b. a ≢ b) (map (λ (v : Named). v.number) names) → AreDifferent names
different [] apart = tt
different (v ∷ vs) apart = (
  not_listed v.number vs (λ k d low same. apart 0 (suc k) d (omega arith) (omega (arith, low)) same),
  different vs (λ i j d less low same. apart (suc i) (suc j) d (omega (arith, less)) (omega (arith, low)) same),
)

-- ---- the codes of the table

pub codes_of_are : (prim : Primitive) (codes : List NamedCode) (names : List Named) → AreOf names (codes_of prim codes names)
codes_of_are prim codes [] = tt
codes_of_are prim codes (name ∷ names) = by_name (named_text codes name.name) (codes_of_are prim codes names)
  where
    by_test : (b : Bool) → AreOf names (codes_of prim codes names) → AreOf (name ∷ names) (cond b (code_with name (number_text prim name.number) ∷ []) [] ++ codes_of prim codes names)
    by_test true rest = inr (number_text prim name.number, codes_of prim codes names, refl, rest)
    by_test false rest = inl rest

    by_name : (o : Option (List ℕ)) → AreOf names (codes_of prim codes names) → AreOf (name ∷ names) (code_of prim codes name o ++ codes_of prim codes names)
    by_name (Some t) rest = inr (t, codes_of prim codes names, refl, rest)
    by_name None rest = by_test (list_any (λ c. bytes_eq c.text (number_text prim name.number)) codes) rest

pub number_codes_are : (prim : Primitive) (names : List Named) → AreOf names (number_codes prim names)
number_codes_are prim [] = tt
number_codes_are prim (name ∷ names) = inr (number_text prim name.number, number_codes prim names, refl, number_codes_are prim names)

pub choice_codes_are : (codes : List NamedCode) (names : List Named) → AreOf names (choice_codes codes names)
choice_codes_are codes [] = tt
choice_codes_are codes (name ∷ names) = by_name (named_text codes name.name) (choice_codes_are codes names)
  where
    by_name : (o : Option (List ℕ)) → AreOf names (choice_codes codes names) → AreOf (name ∷ names) (choice_code name o ++ choice_codes codes names)
    by_name (Some t) rest = inr (t, choice_codes codes names, refl, rest)
    by_name None rest = inl rest

-- a text that was found is one of the code set's
text_kept : (f : List ℕ → Bool) (codes : List NamedCode) (name t : List ℕ) → list_all (λ (c : NamedCode). f c.text) codes ≡ true → named_text codes name ≡ Some t → f t ≡ true
text_kept f [] name t all h = none_some h
text_kept f (c ∷ cs) name t all h =
    let is = both (f c.text) (list_all (λ (c : NamedCode). f c.text) cs) all in
    elim (either (bytes_eq c.name name)) [
      | inl hit ↦ subst (λ s. f s ≡ true) (some_is (sym (if_true (bytes_eq c.name name) (Some c.text) (named_text cs name) hit) ∙ h)) is.0
      | inr miss ↦ text_kept f cs name t is.1 (sym (if_false (bytes_eq c.name name) (Some c.text) (named_text cs name) miss) ∙ h)
    ]

text_among : (f : List ℕ → Bool) (codes : List NamedCode) (t : List ℕ) → list_all (λ (c : NamedCode). f c.text) codes ≡ true → list_any (λ c. bytes_eq c.text t) codes ≡ true → f t ≡ true
text_among f [] t all h = true_false h refl
text_among f (c ∷ cs) t all h =
    let is = both (f c.text) (list_all (λ (c : NamedCode). f c.text) cs) all in
    elim (either (bytes_eq c.text t)) [
      | inl hit ↦ subst (λ s. f s ≡ true) ((bytes_eq-Decides c.text t).0 hit) is.0
      | inr miss ↦ text_among f cs t is.1 (sym (ap (λ b. b || list_any (λ c. bytes_eq c.text t) cs) miss) ∙ h)
    ]

pub codes_short : (prim : Primitive) (codes : List NamedCode) (names : List Named) → list_all (λ (c : NamedCode). is_short c.text) codes ≡ true → list_all has_short_text (codes_of prim codes names) ≡ true
codes_short prim codes [] all = refl
codes_short prim codes (name ∷ names) all = by_name (named_text codes name.name) refl (codes_short prim codes names all)
  where
    by_test : (b : Bool) → list_any (λ c. bytes_eq c.text (number_text prim name.number)) codes ≡ b → list_all has_short_text (codes_of prim codes names) ≡ true →
        list_all has_short_text (cond b (code_with name (number_text prim name.number) ∷ []) [] ++ codes_of prim codes names) ≡ true
    by_test true is rest = ap (λ b. b && list_all has_short_text (codes_of prim codes names)) (text_among is_short codes (number_text prim name.number) all is) ∙ rest
    by_test false is rest = rest

    by_name : (o : Option (List ℕ)) → named_text codes name.name ≡ o → list_all has_short_text (codes_of prim codes names) ≡ true → list_all has_short_text (code_of prim codes name o ++ codes_of prim codes names) ≡ true
    by_name (Some t) is rest = ap (λ b. b && list_all has_short_text (codes_of prim codes names)) (text_kept is_short codes name.name t all is) ∙ rest
    by_name None is rest = by_test (list_any (λ c. bytes_eq c.text (number_text prim name.number)) codes) refl rest

-- the choices of a set are bits of a u64
abbrev pub AreBits : List Named → Type 0
AreBits [] = ⊤
AreBits (name ∷ names) = (int_le (pos 0) name.number && int_le name.number (pos 63) ≡ true) × AreBits names

pub choices_fit : (codes : List NamedCode) (names : List Named) → AreBits names → list_all (λ (c : NamedCode). length c.text == 1) codes ≡ true → list_all is_choice (choice_codes codes names) ≡ true
choices_fit codes [] bits all = refl
choices_fit codes (name ∷ names) bits all = by_name (named_text codes name.name) refl (choices_fit codes names bits.1 all)
  where
    by_name : (o : Option (List ℕ)) → named_text codes name.name ≡ o → list_all is_choice (choice_codes codes names) ≡ true → list_all is_choice (choice_code name o ++ choice_codes codes names) ≡ true
    by_name (Some t) is rest =
        ap (λ b. (b && (int_le (pos 0) name.number && int_le name.number (pos 63))) && list_all is_choice (choice_codes codes names)) (text_kept (λ t. length t == 1) codes name.name t all is)
        ∙ ap (λ b. b && list_all is_choice (choice_codes codes names)) bits.0 ∙ rest
    by_name None is rest = rest

-- ---- figures

number_long : (n : ℤ) → FitsSigned w128 n → unsigned_abs n < 10 ^ 38 → is_short (signed_decimal n) ≡ true
number_long n fits short =
    let spelled = shown_spelled n fits in
    let some = both (nat_lt 0 (length spelled.digits)) _ spelled.numeral in
    let long : 0 < length (signed_decimal n) = subst (λ t. 0 < length t) (sym spelled.spelled) (after spelled.negative spelled.digits some.0) in
    two_tests (length (signed_decimal n)) long (few n short)
  where
    after : (b : Bool) (ds : List ℕ) → nat_lt 0 (length ds) ≡ true → 0 < length (sign b ++ ds)
    after true ds h = omega arith
    after false ds h = grind (arith, nat_tests, h)

    few : (n : ℤ) → unsigned_abs n < 10 ^ 38 → length (signed_decimal n) ≤ 39
    few (pos k) low = omega (arith, length-decimal-le_wide 38 k (omega arith) low (omega (arith, low)))
    few (negsuc k) low = omega (arith, length-decimal-le_wide 38 (suc k) (omega arith) low (omega (arith, low)))

    two_tests : (k : ℕ) → 0 < k → k ≤ 39 → nat_lt 0 k && nat_le k 64 ≡ true
    two_tests k p q = grind (arith, nat_tests)

text_short : (prim : Primitive) (n : ℤ) → is_number_of prim n ≡ true → is_short (number_text prim n) ≡ true
text_short prim n is = by_test (is_char prim)
  where
    by_test : (b : Bool) → is_short (cond b (natural n ∷ []) (signed_decimal n)) ≡ true
    by_test true = refl
    by_test false = let own = primitive_short prim n is in number_long n own.0 own.1

pub numbers_short : (prim : Primitive) (names : List Named) → AllByRecursion (λ (v : Named). is_number_of prim v.number ≡ true) names → list_all has_short_text (number_codes prim names) ≡ true
numbers_short prim [] all = refl
numbers_short prim (name ∷ names) all = ap (λ b. b && list_all has_short_text (number_codes prim names)) (text_short prim name.number all.0) ∙ numbers_short prim names all.1
