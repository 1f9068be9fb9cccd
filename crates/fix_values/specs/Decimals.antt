-- The texts of decimals, and when two decimals are the same fraction. From the FIX tag-value encoding, datatype float,
-- and for mantissa and exponent SBE 1.0, Field encoding. Own profile: how many digits are read, which exponents are
-- shown, and that a text is shown without needless zeros.
use Rattle.std.specs.Prelude.{◌≡◌, ◌≢◌, ◌⊎◌, ℕ, zero, suc, ◌+◌, ◌-◌, ◌*◌, ◌/◌, ◌%◌, ◌^◌, ◌<◌, ◌≤◌, Bool, true, ◌&&◌, ◌==◌, nat_lt, nat_le, if◌then◌else◌, List, [], ◌∷◌, ◌++◌, length, codes, decimal, ℤ, pos, ◌-ℤ◌, neg_ℤ, unsigned_abs, int_le, Result, Ok, Err}
use Rattle.std.specs.Str.{all_ascii_digits}
use Rattle.std.specs.Str.Parse.{digits_value}
use Rattle.sbe_types.specs.declared.kind.Leaf.{Leaf as LeafOf}
use Rattle.sbe_types.specs.Numbers.{natural}
use Rattle.fix_values.specs.declared.rule.V.{V}
use Rattle.fix_values.specs.declared.rule.V.TheVariants.{Spelling, Range, Inexact, Soh, Empty, UnknownCode}
use Rattle.fix_values.specs.declared.rule.Dec.{Dec}
use Rattle.fix_values.specs.declared.decimal.TheConstants.{MOST_DIGITS, MOST_EXPONENT}
use Rattle.fix_values.specs.Numerals.{sign, signed, is_below_zero, is_negative, unsigned, is_value}

-- a mantissa times ten to an exponent
abbrev pub dec : ℤ → ℤ → Dec
dec mantissa exponent = record { mantissa = mantissa; exponent = exponent }

-- how many zeros an exponent adds to the mantissa
abbrev pub zeros : Dec → ℕ
zeros d = natural d.exponent

-- how many of the mantissa's digits are after the point
abbrev pub places : Dec → ℕ
places d = natural (neg_ℤ d.exponent)

-- two decimals are the same fraction: they have the same sign, and the same size once both are multiplied by both
-- denominators
pub record SameFraction (a b : Dec) : Type 0 where
  pub sign : is_below_zero a.mantissa ≡ is_below_zero b.mantissa
  pub size : unsigned_abs a.mantissa * 10 ^ zeros a * 10 ^ places b ≡ unsigned_abs b.mantissa * 10 ^ zeros b * 10 ^ places a

-- the decimal is reduced: its mantissa isn't a multiple of ten, or it is zero with the exponent 0
abbrev pub IsReduced : Dec → Type 0
IsReduced d = (unsigned_abs d.mantissa % 10 ≢ 0) ⊎ ((d.mantissa ≡ pos 0) × (d.exponent ≡ pos 0))

-- digits without the leading zeros
abbrev pub without_leading : List ℕ → List ℕ
without_leading [] = []
without_leading (d ∷ ds) = if d == 48 then without_leading ds else d ∷ ds

-- a digit before others of which the last isn't zero; left out if it is a zero before none
abbrev pub kept_before : ℕ → List ℕ → List ℕ
kept_before d [] = if d == 48 then [] else d ∷ []
kept_before d (e ∷ es) = d ∷ e ∷ es

-- digits without the trailing zeros
abbrev pub without_trailing : List ℕ → List ℕ
without_trailing [] = []
without_trailing (d ∷ ds) = kept_before d (without_trailing ds)

-- the k digits of a number below 10^k, most significant first
abbrev pub digits_at : ℕ → ℕ → List ℕ
digits_at zero r = []
digits_at (suc k) r = (48 + r / 10 ^ k) ∷ digits_at k (r % 10 ^ k)

-- the same digits up to the last that isn't zero
abbrev pub fraction_of : ℕ → ℕ → List ℕ
fraction_of zero r = []
fraction_of (suc k) r = if r == 0 then [] else (48 + r / 10 ^ k) ∷ fraction_of k (r % 10 ^ k)

-- a point and the digits after it; nothing if there are none
abbrev pub pointed : List ℕ → List ℕ
pointed [] = []
pointed (d ∷ ds) = codes "." ++ d ∷ ds

-- the parts of a decimal's text
pub record Parts : Type 0 where
  pub negative : Bool
  pub whole : List ℕ
  pub fraction : List ℕ

-- how many digits count: all except the leading zeros of the whole part and the trailing zeros of the fraction
abbrev pub digits_counted : Parts → ℕ
digits_counted parts = length (without_leading parts.whole) + length (without_trailing parts.fraction)

-- the whole part of a decimal's size
abbrev pub whole_of : Dec → ℕ
whole_of d = unsigned_abs d.mantissa * 10 ^ zeros d / 10 ^ places d

-- The rest of the size after the point, in units of the last place.
abbrev pub rest_of : Dec → ℕ
rest_of d = unsigned_abs d.mantissa * 10 ^ zeros d % 10 ^ places d

-- the parts as they are shown: no leading zeros except a single 0, and no trailing zeros after the point
abbrev pub parts_shown : Bool → ℕ → ℕ → ℕ → Parts
parts_shown negative whole places rest = record { negative = negative; whole = decimal whole; fraction = without_trailing (digits_at places rest) }

-- a decimal's parts as they are shown
abbrev pub shown_parts : Dec → Parts
shown_parts d = parts_shown (is_below_zero d.mantissa) (whole_of d) (places d) (rest_of d)

-- a sign, the whole part, and the fraction after a point if there is one
abbrev pub parts_text : Parts → List ℕ
parts_text parts = sign parts.negative ++ (parts.whole ++ pointed parts.fraction)

-- the text of parts, if their digits can be read back
abbrev pub shown_text : Parts → Result (List ℕ) V
shown_text parts = if nat_le (digits_counted parts) MOST_DIGITS then Ok (parts_text parts) else Err Range

-- the text of a decimal, if its exponent is from -18 to 18 and its digits can be read back
abbrev pub decimal_text : Dec → Result (List ℕ) V
decimal_text d =
    if int_le (neg_ℤ MOST_EXPONENT) d.exponent && int_le d.exponent MOST_EXPONENT
    then shown_text (shown_parts d)
    else Err Range

-- the bytes before the first point
abbrev pub before_point : List ℕ → List ℕ
before_point [] = []
before_point (b ∷ bs) = if b == 46 then [] else b ∷ before_point bs

-- The bytes after the first point.
abbrev pub behind_point : List ℕ → List ℕ
behind_point [] = []
behind_point (b ∷ bs) = if b == 46 then bs else behind_point bs

-- The parts of a text, cut at the sign and the point.
abbrev pub parts_of : List ℕ → Parts
parts_of text = record { negative = is_negative text; whole = before_point (unsigned text); fraction = behind_point (unsigned text) }

-- only digits, and at least one
abbrev pub are_digits : List ℕ → List ℕ → Bool
are_digits whole fraction = nat_lt 0 (length whole + length fraction) && (all_ascii_digits whole && all_ascii_digits fraction)

-- the text is that of a decimal: an optional minus sign, then digits with at most one point, at least one digit (FIX
-- datatype float)
pub record SpellsDecimal (text : List ℕ) (parts : Parts) : Type 0 where
  pub spelled : (text ≡ sign parts.negative ++ parts.whole ++ codes "." ++ parts.fraction) ⊎ ((text ≡ sign parts.negative ++ parts.whole) × (parts.fraction ≡ []))
  pub digits : are_digits parts.whole parts.fraction ≡ true

-- the number of a decimal's text: all its digits are the mantissa, and the exponent gives how many are after the point
abbrev pub number_of_parts : Parts → Dec
number_of_parts parts = record {
  mantissa = signed parts.negative (digits_value 10 (parts.whole ++ parts.fraction));
  exponent = neg_ℤ (pos (length parts.fraction));
}

-- a text is read as this decimal: the reduced one that is the fraction of its digits, if not too many count
pub record IsReadAs (text : List ℕ) (d : Dec) : Type 0 where
  pub parts : Parts
  pub spelled : SpellsDecimal text parts
  pub few : digits_counted parts ≤ MOST_DIGITS
  pub number : SameFraction d (number_of_parts parts)
  pub form : IsReduced d

-- a text spells a decimal, but more of its digits count than are read
pub record HasTooMany (text : List ℕ) : Type 0 where
  pub parts : Parts
  pub spelled : SpellsDecimal text parts
  pub many : MOST_DIGITS < digits_counted parts

-- what reading a decimal's text answers: whether it is spelled as one is checked first, then how many digits count
abbrev pub ReadsDecimal : List ℕ → Result Dec V → Type 0
ReadsDecimal text (Ok d) = IsReadAs text d
ReadsDecimal text (Err Spelling) = (parts : Parts) → ¬ (SpellsDecimal text parts)
ReadsDecimal text (Err Range) = HasTooMany text
ReadsDecimal text (Err Inexact) = ⊥
ReadsDecimal text (Err Soh) = ⊥
ReadsDecimal text (Err Empty) = ⊥
ReadsDecimal text (Err UnknownCode) = ⊥

-- the reduced decimal of a whole part without leading zeros and a fraction without trailing zeros
abbrev pub reduced : Bool → List ℕ → List ℕ → Dec
reduced negative whole [] = record {
  mantissa = signed negative (digits_value 10 (without_trailing whole));
  exponent = pos (length whole - length (without_trailing whole));
}
reduced negative whole (f ∷ fs) = record {
  mantissa = signed negative (digits_value 10 (whole ++ f ∷ fs));
  exponent = neg_ℤ (pos (length (f ∷ fs)));
}

-- the decimal that a text spells, in its reduced form
abbrev pub decimal_of : List ℕ → Result Dec V
decimal_of text =
    let parts = parts_of text in
    if are_digits parts.whole parts.fraction
    then (if nat_le (digits_counted parts) MOST_DIGITS then Ok (reduced parts.negative (without_leading parts.whole) (without_trailing parts.fraction)) else Err Range)
    else Err Spelling

-- a number times a power of ten
abbrev pub widened : ℤ → ℕ → ℤ
widened n places = signed (is_below_zero n) (unsigned_abs n * 10 ^ places)

-- a number divided by a power of ten, if that is whole
abbrev pub narrowed : ℤ → ℕ → Result ℤ V
narrowed n places = if unsigned_abs n % 10 ^ places == 0 then Ok (signed (is_below_zero n) (unsigned_abs n / 10 ^ places)) else Err Inexact

-- the mantissa of the same fraction under another exponent, if there is one
abbrev pub mantissa_under : Dec → ℤ → Result ℤ V
mantissa_under d exponent =
    if int_le exponent d.exponent then Ok (widened d.mantissa (natural (d.exponent -ℤ exponent))) else narrowed d.mantissa (natural (exponent -ℤ d.exponent))

-- a number, if it is one of the leaf's
abbrev pub leaf_number : LeafOf → Result ℤ V → Result ℤ V
leaf_number leaf (Ok n) = if is_value leaf n then Ok n else Err Range
leaf_number leaf (Err v) = Err v

-- the mantissa that a decimal has under this exponent, as one of the leaf's numbers
abbrev pub fitted : Dec → LeafOf → ℤ → Result ℤ V
fitted d leaf exponent = leaf_number leaf (mantissa_under d exponent)
