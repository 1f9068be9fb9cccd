-- Lists of codes, one item further on.
use Rattle.std.proofs.Common.{◌≡◌, ℕ, suc, ◌+◌, ◌*◌, ◌<◌, ◌≤◌, Bool, true, false, ◌&&◌, List, [], ◌∷◌, ◌++◌, length, drop, get_or, refl, sym, ap, ◌∙◌, arith, subst, length-append, inl, inr, map, cond, ℤ, pos, negsuc, int_le, eqb, ◌==◌, append-nil, append_assoc, slice_get, slice_index, Some, not, ◌||◌}
use Rattle.std.proofs.Math.Seq.{drop-cons}
use Rattle.std.proofs.lemmas.List.Sums.{sum_by-append}
use Rattle.std.proofs.lemmas.List.Elements.{filter-append}
use Rattle.std.proofs.lemmas.Bool.{eqb-true}
use Rattle.std.proofs.lemmas.Bool.Decides.{Decides-int_eq}
use Rattle.std.proofs.lemmas.List.{length-map}
use Rattle.std.proofs.lemmas.Map.Steps.{length-le_from_distinct_below}
use Rattle.std.specs.List.{list_all, list_any, filter, IsDistinct, AllByRecursion}
use Rattle.std.specs.Ordering.{int_eq}
use Rattle.sbe_types.specs.Numbers.{natural}
use Rattle.fix_values.specs.declared.rule.Code.{Code}
use Rattle.fix_values.specs.Codes.{bit_of, bits_of, codes_in, spaced_texts, judged_set, set_text, has_bit, is_choice, is_apart, same_number}
use Rattle.fix_values.specs.Tables.{with_code, with_codes, is_marked, are_marked}
use Rattle.fix_values.proofs.NumeralLemmas.{both, together, either, neither, is_not_true, not_true, false≢true, leb-true}

-- the items from place i on: this one, and those after it
pub item_on : {X : Type 0} (xs ys : List X) (i : ℕ) (x : X) → ys ≡ xs → x ≡ get_or ys i x → i < length ys → drop i xs ≡ x ∷ drop (i + 1) xs
item_on xs ys i x same is within =
    let within_xs : i < length xs = subst (λ l. i < length l) same within in
    let item : x ≡ get_or xs i x = is ∙ ap (λ l. get_or l i x) same in
    let next : suc i ≡ i + 1 = omega arith in
    drop-cons xs i x within_xs ∙ (ap (λ y. y ∷ drop (suc i) xs) (sym item) ∙ ap (λ k. x ∷ drop k xs) next)

-- what passes a test, of one item and of those after it
pub filter_on : {X : Type 0} (p : X → Bool) (all : List X) (x : X) (rest : List X) → all ≡ x ∷ rest → filter p all ≡ filter p (x ∷ []) ++ filter p rest
filter_on p all x rest e = ap (filter p) e ∙ filter-append p (x ∷ []) rest

pub all_on : {X : Type 0} (p : X → Bool) (all : List X) (x : X) (rest : List X) → all ≡ x ∷ rest → list_all p all ≡ true → (p x ≡ true) × (list_all p rest ≡ true)
all_on p all x rest e h = both (p x) (list_all p rest) (subst (λ l. list_all p l ≡ true) e h)

pub bits_on : (s t : ℕ) (whole a b : List Code) → whole ≡ a ++ b → s + bits_of whole ≡ t → s + bits_of a + bits_of b ≡ t
bits_on s t whole a b e h = omega (arith, h, ap bits_of e, sum_by-append bit_of a b)

pub with_codes-append : (text : List ℕ) (a b : List Code) → with_codes text (a ++ b) ≡ with_codes (with_codes text a) b
with_codes-append text [] b = refl
with_codes-append text (x ∷ a) b = with_codes-append (with_code text x) a b

pub text_on : (out : List ℕ) (whole a b : List Code) → whole ≡ a ++ b → with_codes (with_codes out a) b ≡ with_codes out whole
text_on out whole a b e = sym (ap (with_codes out) e ∙ with_codes-append out a b)

pub room_on : (before after most : ℕ) (whole a b : List Code) → whole ≡ a ++ b → before + 2 * length whole ≤ most → after ≤ before + 2 * length a → after + 2 * length b ≤ most
room_on before after most whole a b e h r = omega (arith, h, r, ap length e, length-append a b)

-- the number of a choice, as a bit
pub choice_number : (n : ℤ) → int_le (pos 0) n && int_le n (pos 63) ≡ true → (n ≡ pos (natural n)) × (natural n < 64)
choice_number (pos k) h = (refl, omega (arith, leb-true k 63 (both _ _ h).1))
choice_number (negsuc k) h = absurd (false≢true (both (int_le (pos 0) (negsuc k)) (int_le (negsuc k) (pos 63)) h).0)

pub is_bit : (x : Code) → is_choice x ≡ true → natural x.number < 64
is_bit x h = (choice_number x.number (both (length x.text == 1) _ h).1).1

pub is_byte : (x : Code) → is_choice x ≡ true → length x.text ≡ 1
is_byte x h = eqb-true (length x.text) 1 (both (length x.text == 1) _ h).0

abbrev numbers : List Code → List ℕ
numbers codes = map (λ code. natural code.number) codes

same_bit : (a b : ℤ) → int_le (pos 0) a && int_le a (pos 63) ≡ true → int_le (pos 0) b && int_le b (pos 63) ≡ true → int_eq a b ≡ false → eqb (natural a) (natural b) ≡ false
same_bit (pos k) (pos m) g h e =
    not_true (eqb k m) (λ same. false≢true (sym e ∙ (Decides-int_eq (pos k) (pos m)).1 (ap pos (eqb-true k m same))))
same_bit (negsuc k) b g h e = absurd (false≢true (both (int_le (pos 0) (negsuc k)) (int_le (negsuc k) (pos 63)) g).0)
same_bit (pos k) (negsuc m) g h e = absurd (false≢true (both (int_le (pos 0) (negsuc m)) (int_le (negsuc m) (pos 63)) h).0)

apart_from : (x : Code) (xs : List Code) → is_choice x ≡ true → list_all is_choice xs ≡ true → list_any (same_number x) xs ≡ false → AllByRecursion (λ y. eqb (natural x.number) y ≡ false) (numbers xs)
apart_from x [] g h e = tt
apart_from x (y ∷ ys) g h e =
    let all = both _ _ h in
    let none = neither (same_number x y) (list_any (same_number x) ys) e in
    (same_bit x.number y.number (both _ _ g).1 (both _ _ all.0).1 none.0, apart_from x ys g all.1 none.1)

distinct : (codes : List Code) → list_all is_choice codes ≡ true → is_apart same_number codes ≡ true → IsDistinct eqb (numbers codes)
unfolding IsDistinct
distinct [] h a = tt
distinct (x ∷ xs) h a =
    let all = both _ _ h in
    let rest = both _ _ a in
    (apart_from x xs all.0 all.1 (is_not_true _ rest.0), distinct xs all.1 rest.1)

numbers_small : (codes : List Code) (q : ℕ) → list_all is_choice codes ≡ true → list_any (eqb q) (numbers codes) ≡ true → q < 64
numbers_small [] q h e = absurd (false≢true e)
numbers_small (x ∷ xs) q h e =
    let all = both (is_choice x) (list_all is_choice xs) h in
    elim (either (eqb q (natural x.number)) _ e) [
      | inl here ↦ omega (arith, eqb-true q (natural x.number) here, is_bit x all.0)
      | inr later ↦ numbers_small xs q all.1 later
    ]

filter_step : {X : Type 0} (b : Bool) (x : X) (xs ys : List X) → length xs ≤ length ys → length (cond b (x ∷ xs) xs) ≤ suc (length ys)
filter_step true x xs ys h = omega arith
filter_step false x xs ys h = omega arith

length_filter : {X : Type 0} (p : X → Bool) (xs : List X) → length (filter p xs) ≤ length xs
length_filter p [] = omega arith
length_filter p (x ∷ xs) = filter_step (p x) x (filter p xs) xs (length_filter p xs)

-- a set has at most sixty-four codes
pub few : (codes : List Code) (n : ℕ) → list_all is_choice codes ≡ true → is_apart same_number codes ≡ true → length (codes_in codes n) ≤ 64
few codes n h a =
    let all : length (numbers codes) ≤ 64 = length-le_from_distinct_below (numbers codes) 64 (distinct codes h a) (λ q e. numbers_small codes q h e) in
    omega (arith, all, length_filter (has_bit n) codes, length-map codes (λ code. natural code.number))

-- the texts of more codes, each after a space
abbrev spaced : List Code → List ℕ
spaced [] = []
spaced (x ∷ xs) = 32 ∷ (x.text ++ spaced xs)

with_codes_is : (b : ℕ) (bs : List ℕ) (codes : List Code) → with_codes (b ∷ bs) codes ≡ b ∷ (bs ++ spaced codes)
with_codes_is b bs [] = ap (λ t. b ∷ t) (sym (append-nil bs))
with_codes_is b bs (x ∷ xs) = with_codes_is b (bs ++ 32 ∷ x.text) xs ∙ ap (λ t. b ∷ t) (append_assoc bs (32 ∷ x.text) (spaced xs))

joined_is : (x : Code) (xs : List Code) → spaced_texts (x ∷ xs) ≡ x.text ++ spaced xs
joined_is x [] = sym (append-nil x.text)
joined_is x (y ∷ ys) = ap (λ t. x.text ++ 32 ∷ t) (joined_is y ys)

first_of_text : (text : List ℕ) (codes : List Code) → length text ≡ 1 → with_codes text codes ≡ text ++ spaced codes
first_of_text [] codes h = absurd (omega arith)
first_of_text (b ∷ bs) codes h = with_codes_is b bs codes

-- the text that grew code by code is that of the codes together
pub grown : (codes : List Code) → list_all is_choice codes ≡ true → with_codes [] codes ≡ spaced_texts codes
grown [] h = refl
grown (x ∷ xs) h = first_of_text x.text xs (is_byte x (both (is_choice x) (list_all is_choice xs) h).0) ∙ sym (joined_is x xs)

filter_all_step : {X : Type 0} (b : Bool) (q : X → Bool) (x : X) (ys : List X) → q x ≡ true → list_all q ys ≡ true → list_all q (cond b (x ∷ ys) ys) ≡ true
filter_all_step true q x ys g h = together (q x) _ g h
filter_all_step false q x ys g h = h

pub filter_all : {X : Type 0} (p q : X → Bool) (xs : List X) → list_all q xs ≡ true → list_all q (filter p xs) ≡ true
filter_all p q [] h = refl
filter_all p q (x ∷ xs) h = filter_all_step (p x) q x (filter p xs) (both _ _ h).0 (filter_all p q xs (both _ _ h).1)

pub first_is : (text : List ℕ) (b : ℕ) → slice_get text 0 ≡ Some b → slice_index text 0 ≡ b
first_is [] b h = cc
first_is (x ∷ xs) b h = cc

-- a byte that is passed, and those after it
passed : (here : Bool) (marks : List Bool) (x : ℕ) (rest : List ℕ) → not here || is_marked marks x ≡ true → are_marked here marks (x ∷ rest) ≡ are_marked (not here) marks rest
passed true marks x rest h = rw h
passed false marks x rest h = refl

pub passed_on : (here : Bool) (marks : List Bool) (all : List ℕ) (x : ℕ) (rest : List ℕ) → all ≡ x ∷ rest → not here || is_marked marks x ≡ true →
    are_marked (not here) marks rest ≡ are_marked here marks all
passed_on here marks all x rest e h = sym (ap (are_marked here marks) e ∙ passed here marks x rest h)

-- a set's text as it is left
pub set_left : (codes : List Code) (n bits shown : ℕ) (out : List ℕ) → list_all is_choice codes ≡ true → bits ≡ n → shown ≡ bits_of (codes_in codes bits) → out ≡ with_codes [] (codes_in codes bits) →
    judged_set shown bits out ≡ set_text codes n
set_left codes n bits shown out h same sum text =
    let grows : out ≡ spaced_texts (codes_in codes bits) = text ∙ grown (codes_in codes bits) (filter_all (has_bit bits) is_choice codes h) in
    rw (sum, grows, same)
