-- Numbers and their bytes. From SBE 1.0, Field encoding.
use Rattle.std.specs.Prelude.{ℕ, suc, ◌-◌, ◌*◌, ◌^◌, nat_le, nat_lt, Bool, true, false, if◌then◌else◌, List, ℤ, pos, negsuc, ◌-ℤ◌, slice_index, Option, Some, None}
use Rattle.std.specs.Int.{cast_signed, w8, w16, w32, w64}
use Rattle.byte_digits.specs.Digits.{number_high_first, number_low_first, digits_high_first, digits_low_first}
use Rattle.sbe_types.specs.declared.kind.Order.{Order}
use Rattle.sbe_types.specs.declared.kind.Order.TheVariants.{Little, Big}
use Rattle.sbe_types.specs.declared.kind.Primitive.{Primitive}
use Rattle.sbe_types.specs.declared.kind.Primitive.TheVariants.{Char, I8, I16, I32, I64, U8, U16, U32, U64}

-- how many bytes a primitive takes
abbrev pub prim_width : Primitive → ℕ
prim_width Char = 1
prim_width I8 = 1
prim_width I16 = 2
prim_width I32 = 4
prim_width I64 = 8
prim_width U8 = 1
prim_width U16 = 2
prim_width U32 = 4
prim_width U64 = 8

-- the primitive has negative numbers
abbrev pub is_signed : Primitive → Bool
is_signed I8 = true
is_signed I16 = true
is_signed I32 = true
is_signed I64 = true
is_signed Char = false
is_signed U8 = false
is_signed U16 = false
is_signed U32 = false
is_signed U64 = false

-- the unsigned number that bytes encode in a byte order
abbrev pub sum_in : Order → List ℕ → ℕ
sum_in Big bytes = number_high_first bytes
sum_in Little bytes = number_low_first bytes

-- the signed number that n stands for among `values` numbers: the upper half is negative
abbrev pub signed_of : ℕ → ℕ → ℤ
signed_of values n = if nat_le values (2 * n) then pos n -ℤ pos values else pos n

-- the number that the bytes of a primitive encode
abbrev pub number_of : Order → Primitive → List ℕ → ℤ
number_of order prim bytes = if is_signed prim then signed_of (256 ^ prim_width prim) (sum_in order bytes) else pos (sum_in order bytes)

-- the k lowest base-256 digits of n in a byte order
abbrev pub digits_in : Order → ℕ → ℕ → List ℕ
digits_in Big k n = digits_high_first k n
digits_in Little k n = digits_low_first k n

-- the unsigned number that stands for n among `values` numbers, if one does
abbrev pub unsigned_of : Bool → ℕ → ℤ → Option ℕ
unsigned_of false values (pos n) = if nat_lt n values then Some n else None
unsigned_of false values (negsuc n) = None
unsigned_of true values (pos n) = if nat_lt (2 * n) values then Some n else None
unsigned_of true values (negsuc n) = if nat_lt (2 * n) values then Some (values - suc n) else None

-- the k bytes of that number, if there is one
abbrev pub has_bytes : Order → ℕ → Option ℕ → Option (List ℕ)
has_bytes order k None = None
has_bytes order k (Some n) = Some (digits_in order k n)

-- the bytes of a primitive that encode n, if n is one of its numbers
abbrev pub bytes_of : Order → Primitive → ℤ → Option (List ℕ)
bytes_of order prim n = has_bytes order (prim_width prim) (unsigned_of (is_signed prim) (256 ^ prim_width prim) n)

-- a whole number as a natural one: 0 if it is negative
abbrev pub natural : ℤ → ℕ
natural (pos n) = n
natural (negsuc n) = 0

-- the number of a primitive's bytes, by a reader of unsigned numbers
abbrev pub read_as : (ℕ → List ℕ → ℕ) → Primitive → List ℕ → ℤ
read_as number Char bs = pos (slice_index bs 0)
read_as number U8 bs = pos (slice_index bs 0)
read_as number I8 bs = cast_signed w8 (slice_index bs 0)
read_as number U16 bs = pos (number 2 bs)
read_as number I16 bs = cast_signed w16 (number 2 bs)
read_as number U32 bs = pos (number 4 bs)
read_as number I32 bs = cast_signed w32 (number 4 bs)
read_as number U64 bs = pos (number 8 bs)
read_as number I64 bs = cast_signed w64 (number 8 bs)
