-- Words by one, and by two.
use Rattle.std.proofs.Common.{◌≡◌, ◌≤◌, ◌<◌, ◌-◌, ◌==◌, Bool, true, false, not, ◌&&◌, ◌||◌, ℕ, ◌+◌, cond, Some, None, find, add-one, drop-cons, List, [], ◌∷◌, length, get_or, map, take, drop, refl, sym, ap, ◌∙◌, subst, arith, if◌then◌else◌, Bor}
use Rattle.std.proofs.lemmas.Bool.{le-leb}
use Rattle.std.proofs.lemmas.List.{length-map, take_rest, take-map}
use Rattle.std.specs.List.{drop-map, list_all, list_any}
use Rattle.std.proofs.lemmas.List.Folds.{list_all-map}
use Rattle.std.proofs.Math.Dec.{leb}
use Rattle.std.specs.Prelude.{String, string_bytes}
use Rattle.std.specs.declared.alloc.Global.{Global}
use Rattle.std.specs.Str.{bytes_eq}
use Rattle.command_words.specs.Words.{FormRow, are_options, command_from, draws_of, fits, fits_values, is_file_name, said_by, said_after}

abbrev pub texts : List (String Global) → List (List ℕ)
texts words = map (λ word. string_bytes word) words

-- the words after the first two
abbrev pub behind_two : List (String Global) → List (String Global)
behind_two words = take (length words - 2) (drop 2 words)

pub pair_front : (words : List (String Global)) (word value : String Global) → 2 ≤ length words → word ≡ get_or words 0 word → value ≡ get_or words 1 value →
    texts words ≡ string_bytes word ∷ (string_bytes value ∷ texts (behind_two words))
pair_front [] word value two first second = absurd (omega arith)
pair_front (a ∷ []) word value two first second = absurd (omega arith)
pair_front (a ∷ b ∷ more) word value two first second =
    let after : behind_two (a ∷ b ∷ more) ≡ more = take_rest (a ∷ b ∷ more) 2 in
    rw (after, first, second) refl

list_any_map : {X Y : Type 0} (p : X → Bool) (h : Y → X) (ys : List Y) → list_any p (map h ys) ≡ list_any (λ y. p (h y)) ys
list_any_map p h [] = refl
list_any_map p h (y ∷ ys) = ap (λ b. p (h y) || b) (list_any_map p h ys)

-- one pair of options
pub pair_taken : (options : List (Bor (List ℕ))) (shown : List (List ℕ)) (words : List (String Global)) (word : String Global) (text : List ℕ) (taken all : Bool) →
    map (λ option. option.now) options ≡ shown → 2 ≤ length words → word ≡ get_or words 0 word → text ≡ string_bytes word →
    taken ≡ list_any (λ option. bytes_eq option.now text) options → are_options shown (texts words) ≡ all → (taken && are_options shown (texts (behind_two words))) ≡ all
pair_taken options shown [] word text taken all is two first is_text is_taken is_all = absurd (omega arith)
pair_taken options shown (a ∷ []) word text taken all is two first is_text is_taken is_all = absurd (omega arith)
pair_taken options shown (a ∷ b ∷ more) word text taken all is two first is_text is_taken is_all =
    let after : behind_two (a ∷ b ∷ more) ≡ more = take_rest (a ∷ b ∷ more) 2 in
    let begins : text ≡ string_bytes a = is_text ∙ ap (λ w. string_bytes w) first in
    let same : list_any {X = Bor (List ℕ)} (λ option. bytes_eq option.now text) options ≡ list_any (λ option. bytes_eq option text) shown =
    sym (list_any_map (λ option. bytes_eq option text) (λ (option : Bor (List ℕ)). option.now) options) ∙ ap (λ o. list_any (λ option. bytes_eq option text) o) is in
    let front : taken ≡ list_any (λ option. bytes_eq option (string_bytes a)) shown = is_taken ∙ same ∙ ap (λ t. list_any (λ option. bytes_eq option t) shown) begins in
    ap (λ t. t && are_options shown (texts (behind_two (a ∷ b ∷ more)))) front
    ∙ ap (λ m. list_any (λ option. bytes_eq option (string_bytes a)) shown && are_options shown (texts m)) after ∙ is_all

-- less than a pair
pub none_left : (shown : List (List ℕ)) (words : List (String Global)) (all : Bool) → length words < 2 → are_options shown (texts words) ≡ all → (length words == 0) ≡ all
none_left shown [] all few is_all = is_all
none_left shown (word ∷ []) all few is_all = is_all
none_left shown (word ∷ value ∷ more) all few is_all = absurd (omega arith)

-- the words after the first
abbrev pub behind_one : List (String Global) → List (String Global)
behind_one words = take (length words - 1) (drop 1 words)

-- the words after the first and so many more
abbrev pub behind_files : ℕ → List (String Global) → List (String Global)
behind_files files words = take (length (behind_one words) - files) (drop files (behind_one words))

not_false : (b : Bool) → not b ≡ false → b ≡ true
not_false true h = refl
not_false false h = cc

all_so : (a b c d c' d' : Bool) → a ≡ true → b ≡ true → c ≡ c' → d ≡ d' → (a && b && c && d) ≡ (c' && d')
all_so a b c d c' d' p q r s = rw (p, q, r, s) refl

-- the words after so many
abbrev pub after_some : ℕ → List (String Global) → List (String Global)
after_some n words = take (length words - n) (drop n words)

-- so many words are there
enough_so : (n : ℕ) (words : List (String Global)) → n ≤ length words → leb n (length (texts words)) ≡ true
enough_so n words enough = le-leb _ _ (subst (λ m. n ≤ m) (sym (length-map words (λ (word : String Global). string_bytes word))) enough)

drop_so : (n : ℕ) (words : List (String Global)) → drop n (texts words) ≡ texts (after_some n words)
drop_so n words = drop-map (λ word. string_bytes word) n words ∙ ap (λ m. texts m) (sym (take_rest words n))

-- words that are enough for the numbers
pub values_so : (row : FormRow) (words : List (String Global)) → row.numbers ≤ length words →
    are_options row.options (texts (after_some row.numbers words)) ≡ fits_values row (texts words)
values_so row words enough =
    sym (ap (λ b. b && are_options row.options (drop row.numbers (texts words))) (enough_so row.numbers words enough) ∙ ap (λ t. are_options row.options t) (drop_so row.numbers words))

-- what is said by words that are enough for the numbers
pub said_values : (row : FormRow) (files : List (List ℕ)) (words : List (String Global)) → row.numbers ≤ length words →
    said_after row files (texts words) ≡ command_from row.form files (texts (take row.numbers words)) (texts (after_some row.numbers words))
said_values row files words enough =
    ap (λ b. if b then command_from row.form files (take row.numbers (texts words)) (drop row.numbers (texts words)) else None) (enough_so row.numbers words enough)
    ∙ ap (λ n. command_from row.form files n (drop row.numbers (texts words))) (take-map (λ word. string_bytes word) row.numbers words)
    ∙ ap (λ o. command_from row.form files (texts (take row.numbers words)) o) (drop_so row.numbers words)

-- words that begin with the form's word, and are enough
pub fits_so : (row : FormRow) (words : List (String Global)) (word : String Global) (text : List ℕ) (named : Bool) →
    1 ≤ length words → word ≡ get_or words 0 word → text ≡ string_bytes word → not (bytes_eq text row.word) ≡ false → row.files ≤ length (behind_one words) →
    named ≡ list_all (λ word. is_file_name (string_bytes word)) (take row.files (behind_one words)) →
    (named && fits_values row (texts (behind_files row.files words))) ≡ fits row (texts words)
fits_so row [] word text named one first is_text same enough is_named = absurd (omega arith)
fits_so row (a ∷ more) word text named one first is_text same enough is_named =
    let after : behind_one (a ∷ more) ≡ more = take_rest (a ∷ more) 1 in
    let begins : text ≡ string_bytes a = is_text ∙ ap (λ w. string_bytes w) first in
    let e1 : bytes_eq (string_bytes a) row.word ≡ true = ap (λ t. bytes_eq t row.word) (sym begins) ∙ not_false _ same in
    let room : row.files ≤ length more = subst (λ m. row.files ≤ length m) after enough in
    let room' : row.files ≤ length (texts more) = subst (λ n. row.files ≤ n) (sym (length-map more (λ (word : String Global). string_bytes word))) room in
    let e2 : leb row.files (length (texts more)) ≡ true = le-leb _ _ room' in
    let e3 : list_all is_file_name (take row.files (texts more)) ≡ named =
    ap (λ t. list_all is_file_name t) (take-map (λ word. string_bytes word) row.files more) ∙ list_all-map is_file_name (λ word. string_bytes word) (take row.files more)
    ∙ sym (is_named ∙ ap (λ m. list_all (λ word. is_file_name (string_bytes word)) (take row.files m)) after) in
    let rest : behind_files row.files (a ∷ more) ≡ drop row.files more =
    take_rest (behind_one (a ∷ more)) row.files ∙ ap (λ m. drop row.files m) after in
    let e4 : fits_values row (drop row.files (texts more)) ≡ fits_values row (texts (behind_files row.files (a ∷ more))) =
    ap (λ t. fits_values row t) (drop-map (λ word. string_bytes word) row.files more ∙ ap (λ m. texts m) (sym rest)) in
    sym (all_so _ _ _ _ _ _ e1 e2 e3 e4)

-- an item that doesn't pass is passed over
pub find_on : {X : Type 0} (p : X → Bool) (xs : List X) (i : ℕ) (x : X) → i < length xs → p (get_or xs i x) ≡ false → find p (drop (i + 1) xs) ≡ find p (drop i xs)
find_on p xs i x h fails =
    let front : drop i xs ≡ get_or xs i x ∷ drop (i + 1) xs = rw add-one (drop-cons xs i x h) in
    sym (ap (find p) front ∙ ap (λ t. cond t (Some (get_or xs i x)) (find p (drop (i + 1) xs))) fails)

-- what is said by words of a row that are enough
pub said_so : (row : FormRow) (words : List (String Global)) → 1 ≤ length words → row.files ≤ length (behind_one words) →
    said_by row (texts words) ≡ said_after row (texts (take row.files (behind_one words))) (texts (behind_files row.files words))
said_so row [] one enough = absurd (omega arith)
said_so row (a ∷ more) one enough =
    let after : behind_one (a ∷ more) ≡ more = take_rest (a ∷ more) 1 in
    let room : row.files ≤ length more = subst (λ m. row.files ≤ length m) after enough in
    let room' : row.files ≤ length (texts more) = subst (λ n. row.files ≤ n) (sym (length-map more (λ (word : String Global). string_bytes word))) room in
    let rest : behind_files row.files (a ∷ more) ≡ drop row.files more = take_rest (behind_one (a ∷ more)) row.files ∙ ap (λ m. drop row.files m) after in
    let options : drop row.files (texts more) ≡ texts (behind_files row.files (a ∷ more)) = drop-map (λ word. string_bytes word) row.files more ∙ ap (λ m. texts m) (sym rest) in
    let names : take row.files (texts more) ≡ texts (take row.files (behind_one (a ∷ more))) =
    take-map (λ word. string_bytes word) row.files more ∙ ap (λ m. texts (take row.files m)) (sym after) in
    ap (λ b. if b then said_after row (take row.files (texts more)) (drop row.files (texts more)) else None) (le-leb _ _ room')
    ∙ ap (λ n. said_after row n (drop row.files (texts more))) names
    ∙ ap (λ v. said_after row (texts (take row.files (behind_one (a ∷ more)))) v) options

-- a seed without a count
pub one_word : (words : List (String Global)) → length words < 2 → (length words == 0) ≡ false → None ≡ draws_of (texts words)
one_word [] few some = cc
one_word (seed ∷ []) few some = refl
one_word (seed ∷ count ∷ more) few some = absurd (omega arith)
