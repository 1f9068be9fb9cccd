-- What was shown reads back: sets.
use Rattle.std.proofs.Common.{◌≡◌, ℕ, suc, ◌%◌, Bool, true, false, not, ◌&&◌, ◌||◌, eqb, ◌==◌, cond, map, List, [], ◌∷◌, ◌++◌, length, refl, sym, ap, ◌∙◌, arith, subst, pos, ℤ, Result, Ok, Err, if◌then◌else◌, slice_index}
use Rattle.std.proofs.lemmas.Bool.{eqb-true}
use Rattle.std.proofs.lemmas.Bool.Decides.{nat_tests, Decides-eqb}
use Rattle.std.specs.List.{list_all, list_any, filter, AllByRecursion}
use Rattle.std.specs.Str.{bytes_eq}
use Rattle.fix_values.specs.declared.rule.V.{V}
use Rattle.fix_values.specs.declared.rule.V.TheVariants.{Spelling, Soh, Empty, UnknownCode}
use Rattle.fix_values.specs.declared.rule.Code.{Code}
use Rattle.fix_values.specs.Codes.{bits_of, characters, codes_in, every_other, has_bit, has_code, has_soh, is_among, is_apart, is_choice, is_code_of, is_distinct, is_named, is_set_text, spaced_texts, same_text, set_number, set_text}
use Rattle.fix_values.specs.Tables.{first_byte}
use Rattle.fix_values.proofs.NumeralLemmas.{both, together, neither, or_left, or_right, and_true, eqb_comm, is_not_true, false≢true, ok_is}
use Rattle.fix_values.proofs.CodeLemmas.{filter_all, is_byte}
use Rattle.fix_values.proofs.TableLemmas.{byte_named}

-- the bytes of codes of one byte each
abbrev pub bytes : List Code → List ℕ
bytes codes = map first_byte codes

pub one_byte : (text : List ℕ) → length text ≡ 1 → text ≡ slice_index text 0 ∷ []
one_byte [] h = absurd (omega (arith, h))
one_byte (b ∷ []) h = refl
one_byte (b ∷ c ∷ bs) h = absurd (omega (arith, h))

joined_two : (x y : Code) (ys : List Code) → length x.text ≡ 1 → spaced_texts (x ∷ y ∷ ys) ≡ first_byte x ∷ 32 ∷ spaced_texts (y ∷ ys)
joined_two x y ys h = ap (λ t. t ++ (32 ∷ spaced_texts (y ∷ ys))) (one_byte x.text h)

-- a set's text has the codes' bytes at every other place from the first on, and spaces between
evens : (cs : List Code) → list_all is_choice cs ≡ true → every_other true (spaced_texts cs) ≡ bytes cs
evens [] h = refl
evens (x ∷ []) h = ap (every_other true) (one_byte x.text (is_byte x (both (is_choice x) true h).0))
evens (x ∷ y ∷ ys) h =
    let all = both (is_choice x) (list_all is_choice (y ∷ ys)) h in
    ap (every_other true) (joined_two x y ys (is_byte x all.0)) ∙ ap (λ t. first_byte x ∷ t) (evens (y ∷ ys) all.1)

odds : (cs : List Code) → list_all is_choice cs ≡ true → list_all (λ b. b == 32) (every_other false (spaced_texts cs)) ≡ true
odds [] h = refl
odds (x ∷ []) h = ap (λ t. list_all (λ b. b == 32) (every_other false t)) (one_byte x.text (is_byte x (both (is_choice x) true h).0))
odds (x ∷ y ∷ ys) h =
    let all = both (is_choice x) (list_all is_choice (y ∷ ys)) h in
    ap (λ t. list_all (λ b. b == 32) (every_other false t)) (joined_two x y ys (is_byte x all.0)) ∙ odds (y ∷ ys) all.1

odd_two : (n : ℕ) → (n % 2 == 1) ≡ true → (suc (suc n) % 2 == 1) ≡ true
odd_two n h = grind (arith, nat_tests)

odd_length : (x : Code) (xs : List Code) → list_all is_choice (x ∷ xs) ≡ true → (length (spaced_texts (x ∷ xs)) % 2 == 1) ≡ true
odd_length x [] h = ap (λ n. n % 2 == 1) (is_byte x (both (is_choice x) true h).0)
odd_length x (y ∷ ys) h =
    let all = both (is_choice x) (list_all is_choice (y ∷ ys)) h in
    ap (λ t. length t % 2 == 1) (joined_two x y ys (is_byte x all.0)) ∙ odd_two (length (spaced_texts (y ∷ ys))) (odd_length y ys all.1)

pub same_bytes : (a b : List ℕ) → length a ≡ 1 → length b ≡ 1 → bytes_eq a b ≡ eqb (slice_index a 0) (slice_index b 0)
same_bytes a b h g = ap (λ t. bytes_eq t b) (one_byte a h) ∙ (ap (bytes_eq (slice_index a 0 ∷ [])) (one_byte b g) ∙ and_true (eqb (slice_index a 0) (slice_index b 0)))

pub among_bytes : (x : Code) (xs : List Code) → is_choice x ≡ true → list_all is_choice xs ≡ true → is_among (first_byte x) (bytes xs) ≡ list_any (same_text x) xs
among_bytes x [] g h = refl
among_bytes x (y ∷ ys) g h =
    let all = both (is_choice y) (list_all is_choice ys) h in
    ap (λ e. e || is_among (first_byte x) (bytes ys)) (sym (same_bytes x.text y.text (is_byte x g) (is_byte y all.0))) ∙ ap (λ r. same_text x y || r) (among_bytes x ys g all.1)

any_filter_by : (b : Bool) (q : Code → Bool) (y : Code) (ys : List Code) → q y ≡ false → list_any q ys ≡ false → list_any q (cond b (y ∷ ys) ys) ≡ false
any_filter_by true q y ys h g = rw (h, g)
any_filter_by false q y ys h g = g

pub any_filter : (p q : Code → Bool) (xs : List Code) → list_any q xs ≡ false → list_any q (filter p xs) ≡ false
any_filter p q [] h = refl
any_filter p q (y ∷ ys) h =
    let none = neither (q y) (list_any q ys) h in
    any_filter_by (p y) q y (filter p ys) none.0 (any_filter p q ys none.1)

not_false : (b : Bool) → b ≡ false → not b ≡ true
not_false true h = absurd (false≢true (sym h))
not_false false h = refl

distinct_by : (b : Bool) (x : Code) (ys : List Code) → is_choice x ≡ true → list_all is_choice ys ≡ true → list_any (same_text x) ys ≡ false → is_distinct (bytes ys) ≡ true → is_distinct (bytes (cond b (x ∷ ys) ys)) ≡ true
distinct_by true x ys g h none rest = together (not (is_among (first_byte x) (bytes ys))) _ (not_false _ (among_bytes x ys g h ∙ none)) rest
distinct_by false x ys g h none rest = rest

distinct_bytes : (p : Code → Bool) (cs : List Code) → list_all is_choice cs ≡ true → is_apart same_text cs ≡ true → is_distinct (bytes (filter p cs)) ≡ true
distinct_bytes p [] h a = refl
distinct_bytes p (x ∷ xs) h a =
    let all = both (is_choice x) (list_all is_choice xs) h in
    let apart = both (not (list_any (same_text x) xs)) (is_apart same_text xs) a in
    distinct_by (p x) x (filter p xs) all.0 (filter_all p is_choice xs all.1) (any_filter p (same_text x) xs (is_not_true _ apart.0)) (distinct_bytes p xs all.1 apart.1)

pub weaken : (x : Code) (xs : List Code) (cs : List ℕ) → list_all (has_code xs) cs ≡ true → list_all (has_code (x ∷ xs)) cs ≡ true
weaken x xs [] h = refl
weaken x xs (c ∷ cs) h =
    let all = both (has_code xs c) (list_all (has_code xs) cs) h in
    together (is_code_of c x || has_code xs c) _ (or_right (is_code_of c x) (has_code xs c) all.0) (weaken x xs cs all.1)

pub own_code : (x : Code) → is_choice x ≡ true → is_code_of (first_byte x) x ≡ true
own_code x h = same_bytes x.text (first_byte x ∷ []) (is_byte x h) refl ∙ (Decides-eqb (first_byte x) (first_byte x)).1 refl

coded_by : (b : Bool) (x : Code) (xs ys : List Code) → is_choice x ≡ true → list_all (has_code xs) (bytes ys) ≡ true → list_all (has_code (x ∷ xs)) (bytes (cond b (x ∷ ys) ys)) ≡ true
coded_by true x xs ys g h = together (is_code_of (first_byte x) x || has_code xs (first_byte x)) _ (or_left (is_code_of (first_byte x) x) (has_code xs (first_byte x)) (own_code x g)) (weaken x xs (bytes ys) h)
coded_by false x xs ys g h = weaken x xs (bytes ys) h

all_coded : (p : Code → Bool) (cs : List Code) → list_all is_choice cs ≡ true → list_all (has_code cs) (bytes (filter p cs)) ≡ true
all_coded p [] h = refl
all_coded p (x ∷ xs) h =
    let all = both (is_choice x) (list_all is_choice xs) h in
    coded_by (p x) x xs (filter p xs) all.0 (all_coded p xs all.1)

apart_byte : (x y : Code) → is_choice x ≡ true → is_choice y ≡ true → same_text x y ≡ false → eqb (first_byte y) (first_byte x) ≡ false
apart_byte x y g h other = eqb_comm (first_byte y) (first_byte x) ∙ (sym (same_bytes x.text y.text (is_byte x g) (is_byte y h)) ∙ other)

lift : (p : Code → Bool) (b : Bool) (x : Code) (F ys : List Code) → is_choice x ≡ true → list_all is_choice ys ≡ true → list_any (same_text x) ys ≡ false →
    AllByRecursion (λ y. is_among (first_byte y) (bytes F) ≡ p y) ys → AllByRecursion (λ y. is_among (first_byte y) (bytes (cond b (x ∷ F) F)) ≡ p y) ys
lift p b x F [] g h none same = tt
lift p false x F (y ∷ ys) g h none same = same
lift p true x F (y ∷ ys) g h none same =
    let all = both (is_choice y) (list_all is_choice ys) h in
    let rest = neither (same_text x y) (list_any (same_text x) ys) none in
    (ap (λ e. e || is_among (first_byte y) (bytes F)) (apart_byte x y g all.0 rest.0) ∙ same.0, lift p true x F ys g all.1 rest.1 same.1)

head_named : (b : Bool) (x : Code) (F : List Code) → is_choice x ≡ true → list_all is_choice F ≡ true → list_any (same_text x) F ≡ false → is_among (first_byte x) (bytes (cond b (x ∷ F) F)) ≡ b
head_named true x F g h none = or_left (eqb (first_byte x) (first_byte x)) _ ((Decides-eqb (first_byte x) (first_byte x)).1 refl)
head_named false x F g h none = among_bytes x F g h ∙ none

pub named_alike : (p : Code → Bool) (cs : List Code) → list_all is_choice cs ≡ true → is_apart same_text cs ≡ true → AllByRecursion (λ y. is_among (first_byte y) (bytes (filter p cs)) ≡ p y) cs
named_alike p [] h a = tt
named_alike p (x ∷ xs) h a =
    let all = both (is_choice x) (list_all is_choice xs) h in
    let apart = both (not (list_any (same_text x) xs)) (is_apart same_text xs) a in
    let none = is_not_true (list_any (same_text x) xs) apart.0 in (
      head_named (p x) x (filter p xs) all.0 (filter_all p is_choice xs all.1) (any_filter p (same_text x) xs none),
      lift p (p x) x (filter p xs) xs all.0 all.1 none (named_alike p xs all.1 apart.1),
    )

pub filter_same : (p q : Code → Bool) (cs : List Code) → AllByRecursion (λ y. q y ≡ p y) cs → filter q cs ≡ filter p cs
filter_same p q [] h = refl
filter_same p q (x ∷ xs) h = ap (λ b. cond b (x ∷ filter q xs) (filter q xs)) h.0 ∙ ap (λ l. cond (p x) (x ∷ l) l) (filter_same p q xs h.1)

pub named_on : (p : Code → Bool) (B : List ℕ) (cs : List Code) → list_all is_choice cs ≡ true → AllByRecursion (λ y. is_among (first_byte y) B ≡ p y) cs → AllByRecursion (λ y. is_named B y ≡ p y) cs
named_on p B [] h same = tt
named_on p B (x ∷ xs) h same =
    let all = both (is_choice x) (list_all is_choice xs) h in
    (byte_named x.text B (is_byte x all.0) ∙ same.0, named_on p B xs all.1 same.1)

set_by : (a b c : Bool) (own text : List ℕ) → ◌≡◌ {A = Result (List ℕ) V} (if a then (if b then Err Empty else (if c then Err Soh else Ok own)) else Err UnknownCode) (Ok text) → (a ≡ true) × (b ≡ false) × (own ≡ text)
set_by true true c own text h = absurd (cc h)
set_by true false true own text h = absurd (cc h)
set_by true false false own text h = (refl, refl, ok_is own text h)
set_by false b c own text h = absurd (cc h)

pub odd_set : (cs : List Code) → list_all is_choice cs ≡ true → (length (spaced_texts cs) == 0) ≡ false → (length (spaced_texts cs) % 2 == 1) ≡ true
odd_set [] h some = absurd (false≢true (sym some))
odd_set (x ∷ xs) h some = odd_length x xs h

read_set : (a b : Bool) (m n : ℕ) → a ≡ true → b ≡ true → m ≡ n → ◌≡◌ {A = Result ℤ V} (if a then (if b then Ok (pos m) else Err UnknownCode) else Err Spelling) (Ok (pos n))
read_set true true m n h g same = ap (λ k. Ok (pos k)) same
read_set true false m n h g same = absurd (false≢true g)
read_set false b m n h g same = absurd (false≢true h)

pub set_back : (codes : List Code) (n : ℕ) (text : List ℕ) → list_all is_choice codes ≡ true → is_apart same_text codes ≡ true → set_text codes n ≡ Ok text → set_number codes text ≡ Ok (pos n)
set_back codes n text choices apart h =
    let C = codes_in codes n in
    let shown = set_by (bits_of C == n) (length (spaced_texts C) == 0) (has_soh (spaced_texts C)) (spaced_texts C) text h in
    let all : list_all is_choice C ≡ true = filter_all (has_bit n) is_choice codes choices in
    let cs : characters (spaced_texts C) ≡ bytes C = evens C all in
    let distinct : is_distinct (characters (spaced_texts C)) ≡ true = ap is_distinct cs ∙ distinct_bytes (has_bit n) codes choices apart in
    let spelled : is_set_text (spaced_texts C) ≡ true =
    together (length (spaced_texts C) % 2 == 1) _ (odd_set C all shown.1) (together (list_all (λ b. b == 32) (every_other false (spaced_texts C))) _ (odds C all) distinct) in
    let known : list_all (has_code codes) (characters (spaced_texts C)) ≡ true = ap (list_all (has_code codes)) cs ∙ all_coded (has_bit n) codes choices in
    let chosen : filter (is_named (characters (spaced_texts C))) codes ≡ C =
    ap (λ k. filter (is_named k) codes) cs ∙ filter_same (has_bit n) (is_named (bytes C)) codes (named_on (has_bit n) (bytes C) codes choices (named_alike (has_bit n) codes choices apart)) in
    let bits : bits_of (filter (is_named (characters (spaced_texts C))) codes) ≡ n = ap bits_of chosen ∙ eqb-true (bits_of C) n shown.0 in
    subst (λ t. set_number codes t ≡ Ok (pos n)) shown.2 (read_set (is_set_text (spaced_texts C)) (list_all (has_code codes) (characters (spaced_texts C))) _ n spelled known bits)
