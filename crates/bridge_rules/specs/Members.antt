-- What a value contains, for the rules of the bridge: its number, its text, the numbers of a composite's members, its
-- bits; and the composites that are made of numbers. From SBE 1.0, Field encoding.
use Rattle.std.specs.Prelude.{ℕ, zero, suc, Bool, true, false, bytes_eq, List, [], ◌∷◌, ℤ, Option, Some, None}
use Rattle.std.specs.Ordering.{int_eq}
use Rattle.sbe_types.specs.declared.message.Value.{Value, items-the_row-Value}
use Rattle.sbe_types.specs.declared.message.Value as value
use Rattle.sbe_types.specs.Numbers.{natural}
use Rattle.fix_dates.specs.declared.month.MonthYear.{MonthYear}
use Rattle.bridge_rules.specs.Rules.{UnitBy, always, on_wire}

-- the number of a value, if it is one
abbrev pub number_in : Value → Option ℤ
number_in (value.Num n) = Some n
number_in (value.Enum n) = Some n
number_in (value.Text t) = None
number_in (value.Nums es) = None
number_in (value.Set n) = None
number_in (value.Comp' k row) = None
number_in value.Null = None
number_in value.Const = None
number_in value.Absent = None

-- the text of a value, if it is one
abbrev pub text_in : Value → Option (List ℕ)
text_in (value.Text t) = Some t
text_in (value.Num n) = None
text_in (value.Enum n) = None
text_in (value.Nums es) = None
text_in (value.Set n) = None
text_in (value.Comp' k row) = None
text_in value.Null = None
text_in value.Const = None
text_in value.Absent = None

-- the number of the first of a composite's values
abbrev pub first_number : List Value → Option ℤ
first_number [] = None
first_number (v ∷ vs) = number_in v

-- the mantissa of a decimal
abbrev pub mantissa_in : Value → Option ℤ
mantissa_in (value.Comp' k row) = first_number (items-the_row-Value _ row)
mantissa_in (value.Text t) = None
mantissa_in (value.Num n) = None
mantissa_in (value.Enum n) = None
mantissa_in (value.Nums es) = None
mantissa_in (value.Set n) = None
mantissa_in value.Null = None
mantissa_in value.Const = None
mantissa_in value.Absent = None

-- the number of the second of a composite's values
abbrev pub second_number : List Value → Option ℤ
second_number [] = None
second_number (v ∷ vs) = first_number vs

-- the values of a composite's members
abbrev pub members_in : Value → List Value
members_in (value.Comp' k row) = items-the_row-Value _ row
members_in (value.Text t) = []
members_in (value.Num n) = []
members_in (value.Enum n) = []
members_in (value.Nums es) = []
members_in (value.Set n) = []
members_in value.Null = []
members_in value.Const = []
members_in value.Absent = []

-- the bits of a set, if the value is one
abbrev pub bits_in : Value → Option ℕ
bits_in (value.Set n) = Some n
bits_in (value.Text t) = None
bits_in (value.Num n) = None
bits_in (value.Enum n) = None
bits_in (value.Nums es) = None
bits_in (value.Comp' k row) = None
bits_in value.Null = None
bits_in value.Const = None
bits_in value.Absent = None

-- the value is that of a constant
abbrev pub is_const : Value → Bool
is_const value.Const = true
is_const (value.Text t) = false
is_const (value.Num n) = false
is_const (value.Enum n) = false
is_const (value.Nums es) = false
is_const (value.Set n) = false
is_const (value.Comp' k row) = false
is_const value.Null = false
is_const value.Absent = false

-- the value is this number
abbrev pub is_num : ℤ → Value → Bool
is_num m (value.Num n) = int_eq m n
is_num m (value.Enum n) = false
is_num m (value.Text t) = false
is_num m (value.Nums es) = false
is_num m (value.Set n) = false
is_num m (value.Comp' k row) = false
is_num m value.Null = false
is_num m value.Const = false
is_num m value.Absent = false

-- the value is this number of an enum
abbrev pub is_enum : ℤ → Value → Bool
is_enum m (value.Num n) = false
is_enum m (value.Enum n) = int_eq m n
is_enum m (value.Text t) = false
is_enum m (value.Nums es) = false
is_enum m (value.Set n) = false
is_enum m (value.Comp' k row) = false
is_enum m value.Null = false
is_enum m value.Const = false
is_enum m value.Absent = false

-- the value is this text
abbrev pub is_text : List ℕ → Value → Bool
is_text s (value.Num n) = false
is_text s (value.Enum n) = false
is_text s (value.Text t) = bytes_eq s t
is_text s (value.Nums es) = false
is_text s (value.Set n) = false
is_text s (value.Comp' k row) = false
is_text s value.Null = false
is_text s value.Const = false
is_text s value.Absent = false

-- two values of constants are the same number or text
abbrev pub same_value : Value → Value → Bool
same_value (value.Num m) v = is_num m v
same_value (value.Enum m) v = is_enum m v
same_value (value.Text s) v = is_text s v
same_value (value.Nums es) v = false
same_value (value.Set n) v = false
same_value (value.Comp' k row) v = false
same_value value.Null v = false
same_value value.Const v = false
same_value value.Absent v = false

-- a decimal with a constant exponent
abbrev pub decimal_value : Value → Value
decimal_value v = value.Comp (v ∷ value.Const ∷ [])

-- a composite of a number and another value
abbrev pub two_members : Value → Value → Value
two_members v w = value.Comp (v ∷ w ∷ [])

-- a number, or null
abbrev pub number_or_null : Option ℤ → Value
number_or_null None = value.Null
number_or_null (Some n) = value.Num n

-- a month's value
abbrev pub month_value : MonthYear → Value
month_value m = value.Comp (value.Num m.year ∷ value.Num m.month ∷ number_or_null m.day ∷ number_or_null m.week ∷ [])

-- the month, if its year and month are there
abbrev pub month_of : Option ℤ → Option ℤ → Option ℤ → Option ℤ → Option MonthYear
month_of None month day week = None
month_of (Some year) None day week = None
month_of (Some year) (Some month) day week = Some (record { year = year; month = month; day = day; week = week })

-- the month of a composite's values
abbrev pub month_in : List Value → Option MonthYear
month_in [] = None
month_in (y ∷ []) = None
month_in (y ∷ m ∷ []) = None
month_in (y ∷ m ∷ d ∷ []) = None
month_in (y ∷ m ∷ d ∷ w ∷ more) = month_of (number_in y) (number_in m) (number_in d) (number_in w)

-- the bytes, if there are any
abbrev pub unless_empty : List ℕ → Option (List ℕ)
unless_empty [] = None
unless_empty (b ∷ bs) = Some (b ∷ bs)

-- the result for a value that is there
abbrev pub and_then : {X Y : Type 0} → Option X → (X → Option Y) → Option Y
and_then None f = None
and_then (Some x) f = f x

-- the bits of a set that isn't empty
abbrev pub not_zero : ℕ → Option ℕ
not_zero zero = None
not_zero (suc n) = Some (suc n)

-- the unit of a moment
abbrev pub unit_in : UnitBy → Value → Option ℕ
unit_in (always u) v = Some u
unit_in (on_wire leaf) v = and_then (second_number (members_in v)) (λ u. Some (natural u))
