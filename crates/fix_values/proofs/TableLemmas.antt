-- The tables of marks tell what they are kept for: which characters a set's text has, and which have a code.
use Rattle.std.proofs.Common.{◌≡◌, ℕ, zero, suc, ◌<◌, ◌≤◌, ◌%◌, Bool, true, false, not, ◌&&◌, ◌||◌, eqb, ◌==◌, List, [], ◌∷◌, length, get_or, replicate, cond, refl, sym, ap, ◌∙◌, arith, subst, length-set, inl, inr, pos, slice_index, Ok, Err}
use Rattle.std.proofs.lemmas.Bool.{eqb-true, cases_lt}
use Rattle.std.proofs.lemmas.Bool.Decides.{nat_tests, Decides-eqb}
use Rattle.std.proofs.lemmas.List.{get_or-set_same, get_or-set_other, get_or-replicate}
use Rattle.std.specs.List.{list_all, list_any, filter, AllByRecursion}
use Rattle.std.specs.Str.{bytes_eq}
use Rattle.fix_values.specs.declared.rule.Code.{Code}
use Rattle.fix_values.specs.declared.rule.V.TheVariants.{Spelling, UnknownCode}
use Rattle.fix_values.specs.Codes.{every_other, characters, is_among, is_distinct, is_set_text, is_code_of, has_code, is_named, is_choice, set_number, bits_of}
use Rattle.fix_values.specs.Tables.{is_marked, marked, goes_on, marks_of, first_byte, is_marked_code, marked_codes, with_marks, are_marked}
use Rattle.fix_values.proofs.NumeralLemmas.{both, false≢true, and_true, eqb_comm}
use Rattle.fix_values.proofs.CodeLemmas.{is_byte}

abbrev pub AreBytes : List ℕ → Type 0
AreBytes bs = AllByRecursion (λ b. b < 256) bs

every_small : (here : Bool) (bs : List ℕ) → AreBytes bs → AreBytes (every_other here bs)
every_small true [] h = tt
every_small false [] h = tt
every_small true (b ∷ bs) h = (h.0, every_small false bs h.1)
every_small false (b ∷ bs) h = every_small true bs h.1

-- a mark that was just set, and the others
marked_at_by : (t : List Bool) (b c : ℕ) (v : Bool) → c < length t → eqb c b ≡ v → is_marked (marked t b) c ≡ v || is_marked t c
marked_at_by t b c true h e =
    let same : c ≡ b = eqb-true c b e in
    subst (λ k. is_marked (marked t k) c ≡ true) same (get_or-set_same t c true false h)
marked_at_by t b c false h e = get_or-set_other t b c true false (λ same. false≢true (sym e ∙ (Decides-eqb c b).1 same))

marked_at : (t : List Bool) (b c : ℕ) → c < length t → is_marked (marked t b) c ≡ eqb c b || is_marked t c
marked_at t b c h = marked_at_by t b c (eqb c b) h refl

or_move : (x a m : Bool) → a || (x || m) ≡ (x || a) || m
or_move true true m = refl
or_move true false m = refl
or_move false a m = refl

-- the marks that a text leaves
marks_behind : (space : Bool) (t : List Bool) (bs : List ℕ) (c : ℕ) → c < length t → is_marked (marks_of space t bs) c ≡ is_among c (every_other (not space) bs) || is_marked t c
marks_behind true t [] c h = refl
marks_behind false t [] c h = refl
marks_behind true t (b ∷ bs) c h = marks_behind false t bs c h
marks_behind false t (b ∷ bs) c h =
    let more : c < length (marked t b) = omega (arith, h, length-set t b true) in
    marks_behind true (marked t b) bs c more ∙ (ap (λ m. is_among c (every_other false bs) || m) (marked_at t b c h)
    ∙ or_move (eqb c b) (is_among c (every_other false bs)) (is_marked t c))

length_marks : (space : Bool) (t : List Bool) (bs : List ℕ) → length (marks_of space t bs) ≡ length t
length_marks true t [] = refl
length_marks false t [] = refl
length_marks true t (b ∷ bs) = length_marks false t bs
length_marks false t (b ∷ bs) = length_marks true (marked t b) bs ∙ length-set t b true

-- whether a text that goes on so ends after a character
abbrev ends : Bool → List ℕ → Bool
ends space [] = space
ends space (b ∷ bs) = ends (not space) bs

-- none of them is marked, nor twice among them
abbrev fresh : List Bool → List ℕ → Bool
fresh t [] = true
fresh t (x ∷ xs) = not (is_marked t x) && fresh (marked t x) xs

and_first : (x e l f : Bool) → x && (e && (l && f)) ≡ e && ((x && l) && f)
and_first true e l f = refl
and_first false true l f = refl
and_first false false l f = refl

and_last : (y e l f : Bool) → y && (e && (l && f)) ≡ e && (l && (y && f))
and_last true e l f = refl
and_last false true true f = refl
and_last false true false f = refl
and_last false false l f = refl

goes_on_is : (space : Bool) (t : List Bool) (bs : List ℕ) →
    goes_on space t bs ≡ ends space bs && (list_all (λ b. b == 32) (every_other space bs) && fresh t (every_other (not space) bs))
goes_on_is true t [] = refl
goes_on_is false t [] = refl
goes_on_is true t (b ∷ bs) = ap (λ g. (b == 32) && g) (goes_on_is false t bs) ∙ and_first (b == 32) _ _ _
goes_on_is false t (b ∷ bs) = ap (λ g. not (is_marked t b) && g) (goes_on_is true (marked t b) bs) ∙ and_last (not (is_marked t b)) _ _ _

odd_next : (n : ℕ) → (n % 2 == 0) ≡ (suc n % 2 == 1)
odd_next n = grind (arith, nat_tests)

even_next : (n : ℕ) → (n % 2 == 1) ≡ (suc n % 2 == 0)
even_next n = grind (arith, nat_tests)

ends_is : (bs : List ℕ) → (ends false bs ≡ (length bs % 2 == 1)) × (ends true bs ≡ (length bs % 2 == 0))
ends_is [] = (refl, refl)
ends_is (b ∷ bs) = ((ends_is bs).1 ∙ odd_next (length bs), (ends_is bs).0 ∙ even_next (length bs))

swap_marks : (e m a l : Bool) → not (e || m) && (not a && l) ≡ not (e || a) && (not m && l)
swap_marks true m a l = refl
swap_marks false true true l = refl
swap_marks false true false l = refl
swap_marks false false true l = refl
swap_marks false false false l = refl

unmarked_on : (t : List Bool) (x : ℕ) (xs : List ℕ) → length t ≡ 256 → AreBytes xs →
    list_all (λ y. not (is_marked (marked t x) y)) xs ≡ not (is_among x xs) && list_all (λ y. not (is_marked t y)) xs
unmarked_on t x [] len h = refl
unmarked_on t x (y ∷ ys) len h =
    let here : is_marked (marked t x) y ≡ eqb x y || is_marked t y = marked_at t x y (omega (arith, h.0, len)) ∙ ap (λ e. e || is_marked t y) (eqb_comm y x) in
    ap (λ m. not m && list_all (λ z. not (is_marked (marked t x) z)) ys) here
    ∙ (ap (λ l. not (eqb x y || is_marked t y) && l) (unmarked_on t x ys len h.1)
    ∙ swap_marks (eqb x y) (is_marked t y) (is_among x ys) _)

sort_marks : (m d a l : Bool) → not m && (d && (not a && l)) ≡ (not a && d) && (not m && l)
sort_marks m true true l = refl_not m
  where
    refl_not : (k : Bool) → not k && false ≡ false
    refl_not true = refl
    refl_not false = refl
sort_marks true true false l = refl
sort_marks false true false l = refl
sort_marks true false true l = refl
sort_marks false false true l = refl
sort_marks true false false l = refl
sort_marks false false false l = refl

fresh_is : (t : List Bool) (xs : List ℕ) → length t ≡ 256 → AreBytes xs → fresh t xs ≡ is_distinct xs && list_all (λ x. not (is_marked t x)) xs
fresh_is t [] len h = refl
fresh_is t (x ∷ xs) len h =
    let more : length (marked t x) ≡ 256 = length-set t x true ∙ len in
    ap (λ f. not (is_marked t x) && f) (fresh_is (marked t x) xs more h.1)
    ∙ (ap (λ l. not (is_marked t x) && (is_distinct xs && l)) (unmarked_on t x xs len h.1)
    ∙ sort_marks (is_marked t x) (is_distinct xs) (is_among x xs) _)

-- the table without a mark
abbrev pub unmarked : List Bool
unmarked = replicate 256 false

none_marked : (xs : List ℕ) → AreBytes xs → list_all (λ x. not (is_marked unmarked x)) xs ≡ true
none_marked [] h = refl
none_marked (x ∷ xs) h = rw (get_or-replicate 256 x false false h.0) (none_marked xs h.1)

pub spelled_is : (text : List ℕ) → AreBytes text → goes_on false unmarked text ≡ is_set_text text
spelled_is text h =
    let cs : AreBytes (characters text) = every_small true text h in
    let new : fresh unmarked (characters text) ≡ is_distinct (characters text) =
    fresh_is unmarked (characters text) refl cs ∙ (ap (λ l. is_distinct (characters text) && l) (none_marked (characters text) cs) ∙ and_true (is_distinct (characters text))) in
    goes_on_is false unmarked text
    ∙ (ap (λ f. ends false text && (list_all (λ b. b == 32) (every_other false text) && f)) new
    ∙ ap (λ e. e && (list_all (λ b. b == 32) (every_other false text) && is_distinct (characters text))) (ends_is text).0)

pub bytes_small : (bs : List ℕ) → ((i : ℕ) → get_or bs i 0 < 256) → AreBytes bs
bytes_small [] h = tt
bytes_small (b ∷ bs) h = (h 0, bytes_small bs (λ i. h (suc i)))

-- one character beside the characters of a text
pub byte_named : (text cs : List ℕ) → length text ≡ 1 → list_any (λ c. bytes_eq text (c ∷ [])) cs ≡ is_among (slice_index text 0) cs
byte_named [] cs h = absurd (omega arith)
byte_named (b ∷ x ∷ xs) cs h = absurd (omega arith)
byte_named (b ∷ []) [] h = refl
byte_named (b ∷ []) (c ∷ cs) h =
    ap (λ e. e || list_any (λ d. bytes_eq (b ∷ []) (d ∷ [])) cs) (and_true (eqb b c)) ∙ ap (λ a. eqb b c || a) (byte_named (b ∷ []) cs h)

byte_is : (text : List ℕ) (c : ℕ) → length text ≡ 1 → bytes_eq text (c ∷ []) ≡ eqb c (slice_index text 0)
byte_is [] c h = absurd (omega arith)
byte_is (b ∷ x ∷ xs) c h = absurd (omega arith)
byte_is (b ∷ []) c h = and_true (eqb b c) ∙ eqb_comm b c

or_false : (b : Bool) → b || false ≡ b
or_false true = refl
or_false false = refl

beyond : {X : Type 0} (xs : List X) (i : ℕ) (d : X) → length xs ≤ i → get_or xs i d ≡ d
beyond [] i d h = refl
beyond (x ∷ xs) zero d h = absurd (omega arith)
beyond (x ∷ xs) (suc i) d h = beyond xs i d (omega arith)

differs : (c x : ℕ) → 256 ≤ c → x < 256 → eqb c x ≡ false
differs c x g h = grind (arith, nat_tests)

not_among : (c : ℕ) (xs : List ℕ) → AreBytes xs → 256 ≤ c → is_among c xs ≡ false
not_among c [] h g = refl
not_among c (x ∷ xs) h g = rw (differs c x g h.0) (not_among c xs h.1 g)

-- the marks of a text are its characters
named_is : (text : List ℕ) (c : ℕ) → AreBytes text → is_marked (marks_of false unmarked text) c ≡ is_among c (characters text)
named_is text c h =
    elim (cases_lt c 256) [
      | inl small ↦
          marks_behind false unmarked text c small ∙ (ap (λ m. is_among c (characters text) || m) (get_or-replicate 256 c false false small) ∙ or_false (is_among c (characters text)))
      | inr large ↦
          beyond (marks_of false unmarked text) c false (omega (arith, large, length_marks false unmarked text)) ∙ sym (not_among c (characters text) (every_small true text h) large)
    ]

filter_alike : {X : Type 0} (r p q : X → Bool) (xs : List X) → ((x : X) → r x ≡ true → p x ≡ q x) → list_all r xs ≡ true → filter p xs ≡ filter q xs
filter_alike r p q [] same h = refl
filter_alike r p q (x ∷ xs) same h =
    ap (λ b. cond b (x ∷ filter p xs) (filter p xs)) (same x (both (r x) (list_all r xs) h).0)
    ∙ ap (λ l. cond (q x) (x ∷ l) l) (filter_alike r p q xs same (both (r x) (list_all r xs) h).1)

named_codes : (codes : List Code) (text : List ℕ) → AreBytes text → list_all is_choice codes ≡ true →
    marked_codes (marks_of false unmarked text) codes ≡ filter (is_named (characters text)) codes
named_codes codes text h choices =
    filter_alike is_choice (is_marked_code (marks_of false unmarked text)) (is_named (characters text)) codes
    (λ code is. named_is text (first_byte code) h ∙ sym (byte_named code.text (characters text) (is_byte code is))) choices

coded_is : (t : List Bool) (codes : List Code) (c : ℕ) → list_all is_choice codes ≡ true → c < length t → is_marked (with_marks t codes) c ≡ has_code codes c || is_marked t c
coded_is t [] c h small = refl
coded_is t (x ∷ xs) c h small =
    let all = both (is_choice x) (list_all is_choice xs) h in
    let more : c < length (marked t (first_byte x)) = omega (arith, small, length-set t (first_byte x) true) in
    coded_is (marked t (first_byte x)) xs c all.1 more
    ∙ (ap (λ m. has_code xs c || m) (marked_at t (first_byte x) c small ∙ ap (λ e. e || is_marked t c) (sym (byte_is x.text c (is_byte x all.0))))
    ∙ or_move (is_code_of c x) (has_code xs c) (is_marked t c))

all_coded : (codes : List Code) (cs : List ℕ) → AreBytes cs → list_all is_choice codes ≡ true → list_all (is_marked (with_marks unmarked codes)) cs ≡ list_all (has_code codes) cs
all_coded codes [] h choices = refl
all_coded codes (c ∷ cs) h choices =
    let here : is_marked (with_marks unmarked codes) c ≡ has_code codes c =
    coded_is unmarked codes c choices h.0 ∙ (ap (λ m. has_code codes c || m) (get_or-replicate 256 c false false h.0) ∙ or_false (has_code codes c)) in
    ap (λ b. b && list_all (is_marked (with_marks unmarked codes)) cs) here ∙ ap (λ l. has_code codes c && l) (all_coded codes cs h.1 choices)

-- what was read of a set's text is its number
pub set_misspelled : (codes : List Code) (text : List ℕ) (spelled : Bool) → AreBytes text → spelled ≡ goes_on false unmarked text → spelled ≡ false → Err Spelling ≡ set_number codes text
set_misspelled codes text spelled h is no_text = rw (← spelled_is text h, ← is, no_text)

pub set_unknown : (codes : List Code) (text : List ℕ) (spelled all : Bool) (coded : List Bool) → AreBytes text → list_all is_choice codes ≡ true → spelled ≡ goes_on false unmarked text → spelled ≡ true →
    coded ≡ with_marks unmarked codes → all ≡ are_marked true coded text → all ≡ false → Err UnknownCode ≡ set_number codes text
set_unknown codes text spelled all coded h choices is right marks each missing =
    let known : list_all (has_code codes) (characters text) ≡ false =
    sym (all_coded codes (characters text) (every_small true text h) choices) ∙ (ap (λ t. are_marked true t text) (sym marks) ∙ (sym each ∙ missing)) in
    rw (← spelled_is text h, ← is, right, known)

pub set_read : (codes : List Code) (text : List ℕ) (spelled all : Bool) (named coded : List Bool) (n : ℕ) → AreBytes text → list_all is_choice codes ≡ true → spelled ≡ goes_on false unmarked text → spelled ≡ true →
    named ≡ marks_of false unmarked text → coded ≡ with_marks unmarked codes → all ≡ are_marked true coded text → all ≡ true → n ≡ bits_of (marked_codes named codes) → Ok (pos n) ≡ set_number codes text
set_read codes text spelled all named coded n h choices is right chars marks each there sum =
    let known : list_all (has_code codes) (characters text) ≡ true =
    sym (all_coded codes (characters text) (every_small true text h) choices) ∙ (ap (λ t. are_marked true t text) (sym marks) ∙ (sym each ∙ there)) in
    let bits : n ≡ bits_of (filter (is_named (characters text)) codes) =
    sum ∙ (ap (λ t. bits_of (marked_codes t codes)) chars ∙ ap bits_of (named_codes codes text h choices)) in
    rw (← spelled_is text h, ← is, right, known, bits)
