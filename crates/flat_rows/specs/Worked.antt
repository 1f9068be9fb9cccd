-- Fields on which the definitions are computed. Own profile.
use Rattle.std.specs.Prelude.{ℕ, Bool, true, false, Option, Some, None, List, [], ◌∷◌, map, ℤ, pos, negsuc, codes}
use Rattle.sbe_types.specs.declared.kind.ConstValue.{ConstValue}
use Rattle.sbe_types.specs.declared.kind.ConstValue.TheVariants as constant
use Rattle.sbe_types.specs.declared.kind.Kind.{Kind, Leaf, Enum, Set, Const, Comp', end_of-Member, more_of-Member}
use Rattle.sbe_types.specs.declared.kind.LeafShape.{LeafShape}
use Rattle.sbe_types.specs.declared.kind.LeafShape.TheVariants.{Number, EncodedText, Numbers}
use Rattle.sbe_types.specs.declared.kind.Leaf.{Leaf as LeafOf}
use Rattle.sbe_types.specs.declared.kind.Named.{Named}
use Rattle.sbe_types.specs.declared.kind.Presence.TheVariants.{Required, Optional}
use Rattle.sbe_types.specs.declared.kind.Primitive.{Primitive}
use Rattle.sbe_types.specs.declared.kind.Primitive.TheVariants.{Char, I32, U8, U16}
use Rattle.sbe_types.specs.declared.schema.Field.{Field}
use Rattle.flat_rows.specs.Bytes.{is_valid_byte}
use Rattle.flat_rows.specs.Scalars.{Scalar, scalar_at}

-- a required leaf with this many primitives
abbrev pub leaf : Primitive → ℕ → LeafShape → LeafOf
leaf prim length shape = record { prim = prim; length = length; shape = shape; presence = Required; null = pos 255; low = pos 0; high = pos 254 }

-- a single number
abbrev pub number : Primitive → Kind
number prim = Leaf (leaf prim 1 Number)

-- a field at a stated offset, or directly after those before it
abbrev pub field : List ℕ → Option ℕ → Kind → Field
field name offset kind = record { name = name; id = 1; since = 0; offset = offset; kind = kind }

-- a constant
abbrev pub fixed : List ℕ → ConstValue → Field
fixed name value = field name None (Const value)

-- a valid value or a choice
abbrev pub named : List ℕ → ℤ → Named
named name n = record { name = name; number = n }

-- an enum of one char
abbrev pub side : Kind
side = Enum (leaf Char 1 Number) (named (codes "Buy") (pos 49) ∷ named (codes "Sell") (pos 50) ∷ [])

-- a set of one byte
abbrev pub flags : Kind
flags = Set U8 (named (codes "Late") (pos 0) ∷ [])

-- a text of four chars
abbrev pub text : Kind
text = Leaf (leaf Char 4 EncodedText)

-- two numbers of two bytes
abbrev pub pair : Kind
pair = Leaf (leaf U16 2 Numbers)

-- a composite of a number, a constant, and a composite of one byte at its sixth byte
abbrev pub price : Kind
price = Comp' (tt ∷ tt ∷ tt ∷ []) (more_of-Member (codes "mantissa") None (number I32) (more_of-Member (codes "exponent") None (Const (constant.Num (negsuc 1)))
    (more_of-Member (codes "in") (Some 6) (Comp' (tt ∷ []) (more_of-Member (codes "x") None (number U8) end_of-Member)) end_of-Member)))

-- a field of each kind, of which one has a stated offset
abbrev pub mixed : List Field
mixed =
    field (codes "n") None (number U16) ∷ fixed (codes "k") (constant.Num (negsuc 3)) ∷ field (codes "e") None side ∷ field (codes "s") None flags
    ∷ field (codes "t") None text ∷ field (codes "o") (Some 10) pair ∷ field (codes "px") None price
    ∷ fixed (codes "c") (constant.Text (codes "U\"D")) ∷ fixed (codes "d") (constant.Code Char (named (codes "Sell") (pos 50))) ∷ fixed (codes "h") (constant.Text (97 ∷ 255 ∷ [])) ∷ []

-- their values in wire order
abbrev pub mixed_scalars : List Scalar
mixed_scalars =
    scalar_at (number U16) 0 ∷ scalar_at side 2 ∷ scalar_at flags 3 ∷ scalar_at text 4 ∷ scalar_at pair 10 ∷ scalar_at (number I32) 14 ∷ scalar_at (number U8) 20 ∷ []

-- an enum over this primitive with the values 0, 65 (twice), 200 and 255, and the null 200
abbrev pub doubled : Primitive → Kind
doubled prim =
    Enum (record { prim = prim; length = 1; shape = Number; presence = Optional; null = pos 200; low = pos 0; high = pos 255 })
    (named (codes "Nought") (pos 0) ∷ named (codes "First") (pos 65) ∷ named (codes "Second") (pos 65) ∷ named (codes "Null") (pos 200) ∷ named (codes "Last") (pos 255) ∷ [])

-- whether each of five bytes is a valid value of the kind
abbrev pub valid_at : Kind → List Bool
valid_at kind = map (is_valid_byte kind) (0 ∷ 1 ∷ 65 ∷ 200 ∷ 255 ∷ [])

-- those of that enum over a byte: all but 1
abbrev pub doubled_valid : List Bool
doubled_valid = true ∷ false ∷ true ∷ true ∷ true ∷ []

-- none of the five
abbrev pub none_valid : List Bool
none_valid = false ∷ false ∷ false ∷ false ∷ false ∷ []
