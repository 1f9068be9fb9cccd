-- The limits that options give lie in their ranges.
use Rattle.std.proofs.Common.{◌≡◌, ◌≤◌, ◌^◌, ℕ, Bool, true, false, ◌&&◌, nat_le, List, [], ◌∷◌, Option, Some, None, IfSome, unwrap_or, cond, refl, sym, subst, arith, if◌then◌else◌}
use Rattle.std.proofs.lemmas.Bool.{leb-true}
use Rattle.std.specs.Option.{option_map}
use Rattle.std.specs.Str.Parse.{digits_value}
use Rattle.sbe_base.specs.declared.status.Limits.{Limits}
use Rattle.command_words.specs.declared.options.NumberRange.{NumberRange}
use Rattle.command_words.specs.declared.options.Draws.{Draws}
use Rattle.command_words.specs.declared.options.HeadWords.{HeadWords}
use Rattle.command_words.specs.declared.options.TheConstants.{BEGIN, DEFAULT_BEGIN, SENDER, SEQ, SEQ_RANGE, TARGET, TIME}
use Rattle.command_words.specs.declared.options.TheConstants.{FRAME_RANGE, INPUT_RANGE, SEED_RANGE, COUNT_RANGE, MAX_FRAME, MAX_INPUT, MOST_MESSAGES}
use Rattle.command_words.specs.Words.{begin_given, draws_from, draws_of, head_of, head_with, is_field_text, text_by, text_given, text_in, HasFields, IsField, is_number, limits_from, limits_of, number_by, number_given, number_within, values_of}

abbrev InRange : NumberRange → ℕ → Type 0
InRange range n = (range.least ≤ n) × (n ≤ range.most)

number_if_in : (range : NumberRange) (number least most : Bool) (n : ℕ) → (least ≡ true → range.least ≤ n) → (most ≡ true → n ≤ range.most) →
    IfSome (if number && least && most then Some n else None) (λ n. InRange range n)
number_if_in range false least most n low high = tt
number_if_in range true false most n low high = tt
number_if_in range true true false n low high = tt
number_if_in range true true true n low high = (low refl, high refl)

word_within : (range : NumberRange) (word : List ℕ) → IfSome (number_within range.least range.most word) (λ n. InRange range n)
word_within range word =
    number_if_in range (is_number word) (nat_le range.least (digits_value 10 word)) (nat_le (digits_value 10 word) range.most) (digits_value 10 word)
    (leb-true range.least (digits_value 10 word)) (leb-true (digits_value 10 word) range.most)

by_range : (range : NumberRange) (values : List (List ℕ)) → InRange range range.default → IfSome (number_by range values) (λ n. InRange range n)
by_range range [] default = default
by_range range (value ∷ []) default = word_within range value
by_range range (value ∷ again ∷ more) default = tt

abbrev pub AreLimits : Limits → Type 0
AreLimits limits = (64 ≤ limits.frame) × (limits.frame ≤ 16_777_216) × (1 ≤ limits.input) × (limits.input ≤ 2 ^ 40)

from_both : (frame input : Option ℕ) → IfSome frame (λ n. InRange FRAME_RANGE n) → IfSome input (λ n. InRange INPUT_RANGE n) → IfSome (limits_from frame input) (λ limits. AreLimits limits)
from_both None input f i = tt
from_both (Some frame) None f i = tt
from_both (Some frame) (Some input) f i = (f.0, f.1, i.0, i.1)

pub limits_within : (pairs : List (List ℕ)) (limits : Limits) → Some limits ≡ limits_of pairs → AreLimits limits
limits_within pairs limits is =
    let all : IfSome (limits_of pairs) (λ limits. AreLimits limits) =
    from_both (number_given MAX_FRAME.now FRAME_RANGE pairs) (number_given MAX_INPUT.now INPUT_RANGE pairs)
    (by_range FRAME_RANGE (values_of MAX_FRAME.now pairs) (omega arith, omega arith)) (by_range INPUT_RANGE (values_of MAX_INPUT.now pairs) (omega arith, omega arith)) in
    subst (λ o. IfSome o (λ limits. AreLimits limits)) (sym is) all

-- so many messages at most
abbrev IsSmall : Draws → Type 0
IsSmall draws = draws.count ≤ MOST_MESSAGES

from_words : (seed count : Option ℕ) → IfSome count (λ n. InRange COUNT_RANGE n) → IfSome (draws_from seed count) (λ draws. IsSmall draws)
from_words None count c = tt
from_words (Some seed) None c = tt
from_words (Some seed) (Some count) c = c.1

small_draws : (words : List (List ℕ)) → IfSome (draws_of words) (λ draws. IsSmall draws)
small_draws [] = omega arith
small_draws (seed ∷ []) = tt
small_draws (seed ∷ count ∷ []) = from_words (number_within SEED_RANGE.least SEED_RANGE.most seed) (number_within COUNT_RANGE.least COUNT_RANGE.most count) (word_within COUNT_RANGE count)
small_draws (seed ∷ count ∷ word ∷ more) = tt

pub draws_within : (words : List (List ℕ)) (draws : Draws) → Some draws ≡ draws_of words → draws.count ≤ MOST_MESSAGES
draws_within words draws is = subst (λ o. IfSome o (λ draws. IsSmall draws)) (sym is) (small_draws words)

-- ---- header fields

word_field : (word : List ℕ) → IfSome (text_in word) (λ text. IsField text)
word_field word = by (is_field_text word) refl
  where
    by : (t : Bool) → is_field_text word ≡ t → IfSome (cond t (Some (Some word)) None) (λ text. IsField text)
    by true is = is
    by false is = tt

given_field : (values : List (List ℕ)) → IfSome (text_by values) (λ text. IsField text)
given_field [] = tt
given_field (value ∷ []) = word_field value
given_field (value ∷ again ∷ more) = tt

begin_field : (text : Option (Option (List ℕ))) → IfSome text (λ text. IsField text) → IfSome (option_map (λ begin. unwrap_or begin DEFAULT_BEGIN.now) text) (λ begin. is_field_text begin ≡ true)
begin_field None h = tt
begin_field (Some None) h = refl
begin_field (Some (Some begin)) h = h

all_fields : (seq : Option ℕ) (begin : Option (List ℕ)) (sender target time : Option (Option (List ℕ))) → IfSome begin (λ begin. is_field_text begin ≡ true) →
    IfSome sender (λ text. IsField text) → IfSome target (λ text. IsField text) → IfSome time (λ text. IsField text) → IfSome (head_with seq begin sender target time) (λ head. HasFields head)
all_fields None begin sender target time b s t m = tt
all_fields (Some seq) None sender target time b s t m = tt
all_fields (Some seq) (Some begin) None target time b s t m = tt
all_fields (Some seq) (Some begin) (Some sender) None time b s t m = tt
all_fields (Some seq) (Some begin) (Some sender) (Some target) None b s t m = tt
all_fields (Some seq) (Some begin) (Some sender) (Some target) (Some time) b s t m = record { begin = b; sender = s; target = t; time = m }

-- the header fields that options give are such
pub fields_given : (pairs : List (List ℕ)) (head : HeadWords) → head_of pairs ≡ Some head → HasFields head
fields_given pairs head is =
    let field : (option : List ℕ) → IfSome (text_given option pairs) (λ text. IsField text) = λ option. given_field (values_of option pairs) in
    subst (λ o. IfSome o (λ head. HasFields head)) is
    (all_fields (number_given SEQ.now SEQ_RANGE pairs) (begin_given pairs) (text_given SENDER.now pairs) (text_given TARGET.now pairs) (text_given TIME.now pairs)
    (begin_field (text_given BEGIN.now pairs) (field BEGIN.now)) (field SENDER.now) (field TARGET.now) (field TIME.now))
