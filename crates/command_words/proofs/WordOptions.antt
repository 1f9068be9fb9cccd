-- The number of an option, read pair by pair.
use Rattle.std.proofs.Common.{◌≡◌, ◌≤◌, ◌<◌, ℕ, true, false, cond, ◌&&◌, List, [], ◌∷◌, ◌++◌, length, get_or, Option, Some, None, is_some, unwrap_or, refl, sym, ap, ◌∙◌, arith, if◌then◌else◌, append_assoc}
use Rattle.std.proofs.lemmas.Bool.{le-leb}
use Rattle.std.proofs.lemmas.List.{append-nil}
use Rattle.std.specs.List.{list_all}
use Rattle.std.specs.Prelude.{String, string_bytes}
use Rattle.std.specs.declared.alloc.Global.{Global}
use Rattle.std.specs.Str.{bytes_eq}
use Rattle.command_words.specs.declared.options.NumberRange.{NumberRange}
use Rattle.command_words.specs.Words.{is_file_name, names_by, text_by, text_in, number_by, number_within, values_of}
use Rattle.command_words.proofs.WordLists.{texts, behind_two, pair_front}

-- the number of an option that had none so far, or this one, and has these values yet
abbrev pub number_after : NumberRange → Option ℕ → List (List ℕ) → Option ℕ
number_after range None values = number_by range values
number_after range (Some number) [] = Some number
number_after range (Some number) (value ∷ more) = None

-- the words begin with this pair
pub record BeginsPair (words : List (String Global)) (option value : List ℕ) : Type 0 where
  pub front : texts words ≡ option ∷ (value ∷ texts (behind_two words))

pub pair_begins : (words : List (String Global)) (word value : String Global) (text number : List ℕ) → 2 ≤ length words → word ≡ get_or words 0 word → value ≡ get_or words 1 value →
    text ≡ string_bytes word → number ≡ string_bytes value → BeginsPair words text number
pair_begins words word value text number two first second is_text is_number =
    record { front = rw (is_text, is_number) (pair_front words word value two first second) }

one_more : (option text number : List ℕ) (words : List (String Global)) → BeginsPair words text number → bytes_eq text option ≡ true →
    values_of option (texts words) ≡ number ∷ values_of option (texts (behind_two words))
one_more option text number words pair same =
    ap (λ w. values_of option w) pair.front ∙ ap (λ b. if b then number ∷ values_of option (texts (behind_two words)) else values_of option (texts (behind_two words))) same

no_more : (option text number : List ℕ) (words : List (String Global)) → BeginsPair words text number → bytes_eq text option ≡ false →
    values_of option (texts words) ≡ values_of option (texts (behind_two words))
no_more option text number words pair other =
    ap (λ w. values_of option w) pair.front ∙ ap (λ b. if b then number ∷ values_of option (texts (behind_two words)) else values_of option (texts (behind_two words))) other

-- its value is no number of the range
first_refused : (range : NumberRange) (given : Option ℕ) (number : List ℕ) (more : List (List ℕ)) → is_some given ≡ false → number_within range.least range.most number ≡ None →
    None ≡ number_after range given (number ∷ more)
first_refused range None number [] fresh refused = sym refused
first_refused range None number (again ∷ more) fresh refused = refl
first_refused range (Some n) number more fresh refused = refl

first_taken : (range : NumberRange) (given : Option ℕ) (number : List ℕ) (more : List (List ℕ)) (n : ℕ) → is_some given ≡ false → number_within range.least range.most number ≡ Some n →
    number_after range (Some n) more ≡ number_after range given (number ∷ more)
first_taken range None number [] n fresh taken = sym taken
first_taken range None number (again ∷ more) n fresh taken = refl
first_taken range (Some m) number more n fresh taken = cc

given_again : (range : NumberRange) (given : Option ℕ) (number : List ℕ) (more : List (List ℕ)) → is_some given ≡ true → None ≡ number_after range given (number ∷ more)
given_again range None number more twice = cc
given_again range (Some n) number more twice = refl

given_at_end : (range : NumberRange) (given : Option ℕ) → Some (unwrap_or given range.default) ≡ number_after range given []
given_at_end range None = refl
given_at_end range (Some n) = refl

-- ---- the steps of the loop

pub step_refused : (range : NumberRange) (given : Option ℕ) (option text number : List ℕ) (words : List (String Global)) (all : Option ℕ) → BeginsPair words text number → bytes_eq text option ≡ true →
    is_some given ≡ false → number_within range.least range.most number ≡ None → number_after range given (values_of option (texts words)) ≡ all → None ≡ all
step_refused range given option text number words all pair same fresh refused so_far =
    first_refused range given number _ fresh refused ∙ sym (ap (λ v. number_after range given v) (one_more option text number words pair same)) ∙ so_far

pub step_taken : (range : NumberRange) (given : Option ℕ) (option text number : List ℕ) (words : List (String Global)) (all : Option ℕ) (n : ℕ) → BeginsPair words text number → bytes_eq text option ≡ true →
    is_some given ≡ false → number_within range.least range.most number ≡ Some n → number_after range given (values_of option (texts words)) ≡ all →
    number_after range (Some n) (values_of option (texts (behind_two words))) ≡ all
step_taken range given option text number words all n pair same fresh taken so_far =
    first_taken range given number _ n fresh taken ∙ sym (ap (λ v. number_after range given v) (one_more option text number words pair same)) ∙ so_far

pub step_again : (range : NumberRange) (given : Option ℕ) (option text number : List ℕ) (words : List (String Global)) (all : Option ℕ) → BeginsPair words text number → bytes_eq text option ≡ true →
    is_some given ≡ true → number_after range given (values_of option (texts words)) ≡ all → None ≡ all
step_again range given option text number words all pair same twice so_far =
    given_again range given number _ twice ∙ sym (ap (λ v. number_after range given v) (one_more option text number words pair same)) ∙ so_far

pub step_other : (range : NumberRange) (given : Option ℕ) (option text number : List ℕ) (words : List (String Global)) (all : Option ℕ) → BeginsPair words text number → bytes_eq text option ≡ false →
    number_after range given (values_of option (texts words)) ≡ all → number_after range given (values_of option (texts (behind_two words))) ≡ all
step_other range given option text number words all pair other so_far =
    sym (ap (λ v. number_after range given v) (no_more option text number words pair other)) ∙ so_far

pub pairs_ended : (range : NumberRange) (given : Option ℕ) (option : List ℕ) (words : List (String Global)) (all : Option ℕ) → length words < 2 →
    number_after range given (values_of option (texts words)) ≡ all → Some (unwrap_or given range.default) ≡ all
pairs_ended range given option [] all few so_far = given_at_end range given ∙ so_far
pairs_ended range given option (word ∷ []) all few so_far = given_at_end range given ∙ so_far
pairs_ended range given option (word ∷ value ∷ more) all few so_far = absurd (omega arith)

-- ---- all values of an option

pub values_more : (option text value : List ℕ) (words : List (String Global)) (so all : List (List ℕ)) → BeginsPair words text value → bytes_eq text option ≡ true → so ++ values_of option (texts words) ≡ all →
    (so ++ value ∷ []) ++ values_of option (texts (behind_two words)) ≡ all
values_more option text value words so all pair same so_far =
    append_assoc so (value ∷ []) (values_of option (texts (behind_two words))) ∙ sym (ap (λ v. so ++ v) (one_more option text value words pair same)) ∙ so_far

pub values_other : (option text value : List ℕ) (words : List (String Global)) (so all : List (List ℕ)) → BeginsPair words text value → bytes_eq text option ≡ false → so ++ values_of option (texts words) ≡ all →
    so ++ values_of option (texts (behind_two words)) ≡ all
values_other option text value words so all pair other so_far = sym (ap (λ v. so ++ v) (no_more option text value words pair other)) ∙ so_far

pub values_ended : (option : List ℕ) (words : List (String Global)) (so all : List (List ℕ)) → length words < 2 → so ++ values_of option (texts words) ≡ all → so ≡ all
values_ended option [] so all few so_far = sym (append-nil so) ∙ so_far
values_ended option (word ∷ []) so all few so_far = sym (append-nil so) ∙ so_far
values_ended option (word ∷ value ∷ more) so all few so_far = absurd (omega arith)

-- ---- names that an option gives

pub names_taken : (most : ℕ) (values : List (List ℕ)) → length values ≤ most → list_all is_file_name values ≡ true → names_by most values ≡ Some values
names_taken most values few good = ap (λ t. cond (t && list_all is_file_name values) (Some values) None) (le-leb (length values) most few) ∙ ap (λ t. cond t (Some values) None) good

-- ---- header fields that an option gives

pub none_given : (values : List (List ℕ)) → length values ≡ 0 → text_by values ≡ Some None
none_given [] none = refl
none_given (value ∷ more) none = absurd (omega (arith, none))

pub one_given : (values : List (List ℕ)) (value : List ℕ) → length values ≡ 1 → value ≡ get_or values 0 value → text_by values ≡ text_in value
one_given [] value one is = absurd (omega (arith, one))
one_given (first ∷ []) value one is = ap text_in (sym is)
one_given (first ∷ again ∷ more) value one is = absurd (omega (arith, one))

pub more_given : (values : List (List ℕ)) → 2 ≤ length values → text_by values ≡ None
more_given [] many = absurd (omega (arith, many))
more_given (value ∷ []) many = absurd (omega (arith, many))
more_given (value ∷ again ∷ more) many = refl
