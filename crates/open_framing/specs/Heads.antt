-- The head of a frame. From SOFH 1.0, Framing header. Own profile: the byte order, that the length counts the head too,
-- and the three encoding types.
use Rattle.std.specs.Prelude.{ℕ, nat_lt, ◌==◌, Bool, ◌||◌, if◌then◌else◌, Result, Ok, Err, List, length, take, drop}
pub use Rattle.byte_digits.specs.Digits.{IsBytes}
use Rattle.byte_digits.specs.Digits.{number_high_first}
use Rattle.open_framing.specs.declared.head.TheConstants.{HEAD_BYTES, SBE_BIG, SBE_LITTLE, TAG_VALUE}
use Rattle.open_framing.specs.declared.head.Head.{Head}
use Rattle.open_framing.specs.declared.head.HeadErr.{HeadErr}
use Rattle.open_framing.specs.declared.head.HeadErr.TheVariants.{HeadShort, LengthShort, LengthOver, Encoding}

-- Message_Length: the first four bytes
abbrev pub length_in : List ℕ → ℕ
length_in bytes = number_high_first (take 4 bytes)

-- Encoding_Type: the two bytes after them
abbrev pub encoding_in : List ℕ → ℕ
encoding_in bytes = number_high_first (take 2 (drop 4 bytes))

-- SBE 1.0 in big-endian order, SBE 1.0 in little-endian order, tag-value
abbrev pub is_encoding : ℕ → Bool
is_encoding n = n == SBE_BIG || n == SBE_LITTLE || n == TAG_VALUE

-- the head that these two numbers make, or its first fault
abbrev pub head_by : ℕ → ℕ → ℕ → Result Head HeadErr
head_by size encoding limit =
    if nat_lt size HEAD_BYTES then Err (LengthShort size)
    else if nat_lt limit size then Err (LengthOver size)
    else if is_encoding encoding then Ok (record { length = size; encoding = encoding })
    else Err (Encoding encoding)

-- the head at the front of the bytes, or its first fault
abbrev pub head_of : List ℕ → ℕ → Result Head HeadErr
head_of bytes limit = if nat_lt (length bytes) HEAD_BYTES then Err HeadShort else head_by (length_in bytes) (encoding_in bytes) limit
