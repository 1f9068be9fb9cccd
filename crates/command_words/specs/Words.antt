-- What words say.
use Rattle.std.specs.Prelude.{◌≡◌, ◌≤◌, ◌^◌, ℕ, Bool, true, false, ◌&&◌, ◌==◌, not, nat_lt, nat_le, if◌then◌else◌, List, [], ◌∷◌, length, map, get_or, codes, take, drop, filter, find, Option, Some, None, unwrap_or, Result, Ok, Err, ⊤}
use Rattle.std.specs.Option.{option_and_then, option_map}
use Rattle.std.specs.List.{list_all, list_any}
use Rattle.std.specs.Str.{bytes_eq, all_ascii_digits}
use Rattle.std.specs.Str.Parse.{digits_value}
use Rattle.sbe_base.specs.declared.status.Limits.{Limits}
use Rattle.command_words.specs.declared.words.Command.{Command}
use Rattle.command_words.specs.declared.words.WordsErr.{WordsErr}
use Rattle.command_words.specs.declared.words.WordsErr.TheVariants.{Usage, Memory}
use Rattle.command_words.specs.declared.forms.Form.{Form}
use Rattle.command_words.specs.declared.forms.TheConstants.{FORMS}
use Rattle.command_words.specs.declared.options.NumberRange.{NumberRange}
use Rattle.command_words.specs.declared.options.Draws.{Draws}
use Rattle.command_words.specs.declared.options.HeadWords.{HeadWords}
use Rattle.command_words.specs.declared.options.TheConstants.{BEGIN, DEFAULT_BEGIN, MOST_FIELD_BYTES, SENDER, SEQ, SEQ_RANGE, TARGET, TIME}
use Rattle.command_words.specs.declared.options.TheConstants.{ALSO, MOST_ALSO, MOST_MESSAGES, MAX_FRAME, MAX_INPUT, FRAME_RANGE, INPUT_RANGE, SEED_RANGE, COUNT_RANGE}

-- ---- one word

-- The word is a file's name: it isn't empty and doesn't begin with `--`.
abbrev pub is_file_name : List ℕ → Bool
is_file_name word = nat_lt 0 (length word) && not (bytes_eq (take 2 word) (codes "--"))

-- the word isn't empty, and has no leading zero before other characters
abbrev pub begins_a_number : List ℕ → Bool
begins_a_number [] = false
begins_a_number (digit ∷ []) = true
begins_a_number (digit ∷ next ∷ more) = not (digit == 48)

-- The word is a number: decimal digits without a sign, and without a leading zero except `0` itself.
abbrev pub is_number : List ℕ → Bool
is_number word = begins_a_number word && all_ascii_digits word

-- the number of a word, if it is from `least` to `most`
abbrev pub number_within : ℕ → ℕ → List ℕ → Option ℕ
number_within least most word =
    if is_number word && nat_le least (digits_value 10 word) && nat_le (digits_value 10 word) most
    then Some (digits_value 10 word)
    else None

-- ---- numbers: the words of a seed and a count

-- a seed and a count, if both are there
abbrev pub draws_from : Option ℕ → Option ℕ → Option Draws
draws_from (Some seed) (Some count) = Some (record { seed = seed; count = count })
draws_from (Some seed) None = None
draws_from None count = None

-- The messages that words ask for: a seed and a count, each in its range; the defaults without words.
abbrev pub draws_of : List (List ℕ) → Option Draws
draws_of [] = Some (record { seed = SEED_RANGE.default; count = COUNT_RANGE.default })
draws_of (seed ∷ []) = None
draws_of (seed ∷ count ∷ []) = draws_from (number_within SEED_RANGE.least SEED_RANGE.most seed) (number_within COUNT_RANGE.least COUNT_RANGE.most count)
draws_of (seed ∷ count ∷ word ∷ more) = None

-- ---- options: words in pairs, the option's word and its value

-- all words are pairs, and each pair begins with one of these options
abbrev pub are_options : List (List ℕ) → List (List ℕ) → Bool
are_options options [] = true
are_options options (word ∷ []) = false
are_options options (word ∷ value ∷ more) = list_any (λ option. bytes_eq option word) options && are_options options more

-- all values that pairs give for an option
abbrev pub values_of : List ℕ → List (List ℕ) → List (List ℕ)
values_of option [] = []
values_of option (word ∷ []) = []
values_of option (word ∷ value ∷ more) = if bytes_eq word option then value ∷ values_of option more else values_of option more

-- the number of an option with these values: its default without any, and a number of its range with one
abbrev pub number_by : NumberRange → List (List ℕ) → Option ℕ
number_by range [] = Some range.default
number_by range (value ∷ []) = number_within range.least range.most value
number_by range (value ∷ again ∷ more) = None

-- the number that pairs give for this option
abbrev pub number_given : List ℕ → NumberRange → List (List ℕ) → Option ℕ
number_given option range pairs = number_by range (values_of option pairs)

-- limits with both numbers, if both are there
abbrev pub limits_from : Option ℕ → Option ℕ → Option Limits
limits_from (Some frame) (Some input) = Some (record { frame = frame; input = input })
limits_from (Some frame) None = None
limits_from None input = None

-- the limits that pairs give
abbrev pub limits_of : List (List ℕ) → Option Limits
limits_of pairs = limits_from (number_given MAX_FRAME.now FRAME_RANGE pairs) (number_given MAX_INPUT.now INPUT_RANGE pairs)

-- these values, if there are at most `most` and each is a file's name
abbrev pub names_by : ℕ → List (List ℕ) → Option (List (List ℕ))
names_by most values = if nat_le (length values) most && list_all is_file_name values then Some values else None

-- the names of files that pairs give for this option, which may be given up to `most` times
abbrev pub names_given : List ℕ → ℕ → List (List ℕ) → Option (List (List ℕ))
names_given option most pairs = names_by most (values_of option pairs)

-- ---- the head of a text

-- it is a printable ASCII character, a space included
abbrev pub is_printed : ℕ → Bool
is_printed byte = nat_le 32 byte && nat_le byte 126

-- A header field has 1 to 64 bytes, each of them printable.
abbrev pub is_field_text : List ℕ → Bool
is_field_text word = nat_lt 0 (length word) && nat_le (length word) MOST_FIELD_BYTES && list_all is_printed word

-- the header field that an argument gives
abbrev pub text_in : List ℕ → Option (Option (List ℕ))
text_in word = if is_field_text word then Some (Some word) else None

-- the header field that these values give: none if there is no value
abbrev pub text_by : List (List ℕ) → Option (Option (List ℕ))
text_by [] = Some None
text_by (value ∷ []) = text_in value
text_by (value ∷ again ∷ more) = None

-- the header field that pairs give for this option
abbrev pub text_given : List ℕ → List (List ℕ) → Option (Option (List ℕ))
text_given option pairs = text_by (values_of option pairs)

-- the version of the encoding that pairs give, or its default
abbrev pub begin_given : List (List ℕ) → Option (List ℕ)
begin_given pairs = option_map (λ begin. unwrap_or begin DEFAULT_BEGIN.now) (text_given BEGIN.now pairs)

-- a head of these, if all are there
abbrev pub head_with : Option ℕ → Option (List ℕ) → Option (Option (List ℕ)) → Option (Option (List ℕ)) → Option (Option (List ℕ)) → Option HeadWords
head_with None begin sender target time = None
head_with (Some seq) None sender target time = None
head_with (Some seq) (Some begin) None target time = None
head_with (Some seq) (Some begin) (Some sender) None time = None
head_with (Some seq) (Some begin) (Some sender) (Some target) None = None
head_with (Some seq) (Some begin) (Some sender) (Some target) (Some time) =
    Some (record { begin = begin; sender = sender; target = target; seq = seq; time = time })

-- What pairs give for the head of a text.
abbrev pub head_of : List (List ℕ) → Option HeadWords
head_of pairs =
    head_with (number_given SEQ.now SEQ_RANGE pairs) (begin_given pairs) (text_given SENDER.now pairs) (text_given TARGET.now pairs) (text_given TIME.now pairs)

-- ---- forms: a command's word, names of files, numbers, and options

-- A row of the table of forms: the first word of the form, how many names of files and numbers follow, and which
-- options.
pub record FormRow : Type 0 where
  pub form : Form
  pub word : List ℕ
  pub files : ℕ
  pub numbers : ℕ
  pub options : List (List ℕ)

-- the table of forms
abbrev pub rows : List FormRow
rows = map (λ row. record { form = row.0; word = row.1.now; files = row.2; numbers = row.3; options = map (λ option. option.now) row.4.now }) FORMS

-- The rows of a command's word.
abbrev pub rows_of : List ℕ → List FormRow
rows_of word = filter (λ row. bytes_eq word row.word) rows

-- the words are at least as many as the row's numbers, and the rest are pairs of its options
abbrev pub fits_values : FormRow → List (List ℕ) → Bool
fits_values row values = nat_le row.numbers (length values) && are_options row.options (drop row.numbers values)

-- the words have the form of this row, whatever its numbers and the values of its options
abbrev pub fits : FormRow → List (List ℕ) → Bool
fits row [] = false
fits row (word ∷ rest) =
    bytes_eq word row.word && nat_le row.files (length rest)
    && list_all is_file_name (take row.files rest) && fits_values row (drop row.files rest)

-- a command of this form over these files, where its numbers and the values of its options are there
abbrev pub command_with : Form → List (List ℕ) → Option Draws → Option Limits → Option (List (List ℕ)) × Option HeadWords → Option Command
command_with form files None limits given = None
command_with form files (Some draws) None given = None
command_with form files (Some draws) (Some limits) (None, head) = None
command_with form files (Some draws) (Some limits) (Some also, None) = None
command_with form files (Some draws) (Some limits) (Some also, Some head) =
    Some (record { form = form; files = files; draws = draws; also = also; head = head; limits = limits })

-- a command of this form over these files, with the numbers that the first words give, and the options that the others
-- give
abbrev pub command_from : Form → List (List ℕ) → List (List ℕ) → List (List ℕ) → Option Command
command_from form files numbers options =
    command_with form files (draws_of numbers) (limits_of options) (names_given ALSO.now MOST_ALSO options, head_of options)

-- the command by the words after its files: the numbers, and then the options
abbrev pub said_after : FormRow → List (List ℕ) → List (List ℕ) → Option Command
said_after row files values =
    if nat_le row.numbers (length values) then command_from row.form files (take row.numbers values) (drop row.numbers values) else None

-- the command by the words of this row: the files after its word, and then the rest
abbrev pub said_by : FormRow → List (List ℕ) → Option Command
said_by row [] = None
said_by row (word ∷ rest) = if nat_le row.files (length rest) then said_after row (take row.files rest) (drop row.files rest) else None

-- The command that words mean: that of the first form that they have, with each option at most once and a right value.
abbrev pub command_of : List (List ℕ) → Option Command
command_of words = option_and_then (λ row. said_by row words) (find (λ row. fits row words) rows)

-- the answer is what the words mean, or that they mean nothing, unless it is out of memory
abbrev pub Says : {T : Type 0} → Result T WordsErr → Option T → Type 0
Says (Ok x) said = said ≡ Some x
Says (Err Usage) said = said ≡ None
Says (Err Memory) said = ⊤

-- the name of the file with this index among a command's files
abbrev pub file_at : Command → ℕ → List ℕ
file_at command place = get_or command.files place []

-- from 64 to 16,777,216 bytes for a frame, and from 1 to 1,099,511,627,776 bytes in all
abbrev pub AreInRange : Limits → Type 0
AreInRange limits = (64 ≤ limits.frame) × (limits.frame ≤ 16_777_216) × (1 ≤ limits.input) × (limits.input ≤ 2 ^ 40)

-- a header field that is given is one
abbrev pub IsField : Option (List ℕ) → Type 0
IsField None = ⊤
IsField (Some text) = is_field_text text ≡ true

-- the head's texts are header fields
pub record HasFields (head : HeadWords) : Type 0 where
  pub begin : is_field_text head.begin ≡ true
  pub sender : IsField head.sender
  pub target : IsField head.target
  pub time : IsField head.time

-- The limits of a command are in their ranges, it draws no more than so many messages, and its head's texts are header fields.
pub record HasLimits (command : Command) : Type 0 where
  pub limits : AreInRange command.limits
  pub count : command.draws.count ≤ MOST_MESSAGES
  pub head : HasFields command.head
