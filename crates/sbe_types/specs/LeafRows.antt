-- Leaves on which the definitions are computed. Own profile.
use Rattle.std.specs.Prelude.{ℕ, List, [], ◌∷◌, Option, Some, pos}
use Rattle.sbe_types.specs.declared.kind.Leaf.{Leaf as LeafOf}
use Rattle.sbe_types.specs.declared.kind.LeafShape.TheVariants.{RangedText, Numbers}
use Rattle.sbe_types.specs.declared.kind.Presence.TheVariants.{Required}
use Rattle.sbe_types.specs.declared.kind.Primitive.TheVariants.{Char, U16}
use Rattle.sbe_types.specs.declared.leaf.LeafCause.TheVariants.{Range, TextByte}
use Rattle.sbe_types.specs.declared.leaf.LeafFault.{LeafFault}

-- a text of four chars
abbrev pub four : LeafOf
four = record { prim = Char; length = 4; shape = RangedText; presence = Required; null = pos 0; low = pos 32; high = pos 126 }

-- an array of two numbers up to 1,000
abbrev pub two : LeafOf
two = record { prim = U16; length = 2; shape = Numbers; presence = Required; null = pos 65535; low = pos 0; high = pos 1000 }

-- a text with a byte after its end
abbrev pub ended_bytes : List ℕ
ended_bytes = 65 ∷ 0 ∷ 255 ∷ 1 ∷ []

-- a text with a bad byte
abbrev pub broken_bytes : List ℕ
broken_bytes = 65 ∷ 66 ∷ 31 ∷ 67 ∷ []

-- that byte
abbrev pub broken_fault : Option LeafFault
broken_fault = Some (record { cause = TextByte; at = 2; number = pos 31 })

-- two numbers of which the second is too large
abbrev pub large_bytes : List ℕ
large_bytes = 232 ∷ 3 ∷ 233 ∷ 3 ∷ []

-- that number
abbrev pub large_fault : Option LeafFault
large_fault = Some (record { cause = Range; at = 1; number = pos 1001 })
