-- The bytes of a number by a writer of unsigned ones. From SBE 1.0, Field encoding.
use Rattle.std.specs.Prelude.{ℕ, List, [], ◌∷◌, ℤ}
use Rattle.std.specs.Int.{cast_unsigned, w8, w16, w32, w64}
use Rattle.sbe_types.specs.declared.kind.Primitive.{Primitive}
use Rattle.sbe_types.specs.declared.kind.Primitive.TheVariants.{Char, I8, I16, I32, I64, U8, U16, U32, U64}
use Rattle.sbe_types.specs.Numbers.{natural}

-- the bytes of a number of a primitive, by a writer of unsigned numbers
abbrev pub written_as : (ℕ → ℕ → List ℕ) → Primitive → ℤ → List ℕ
written_as bytes Char n = natural n ∷ []
written_as bytes U8 n = natural n ∷ []
written_as bytes I8 n = cast_unsigned w8 n ∷ []
written_as bytes U16 n = bytes 2 (natural n)
written_as bytes I16 n = bytes 2 (cast_unsigned w16 n)
written_as bytes U32 n = bytes 4 (natural n)
written_as bytes I32 n = bytes 4 (cast_unsigned w32 n)
written_as bytes U64 n = bytes 8 (natural n)
written_as bytes I64 n = bytes 8 (cast_unsigned w64 n)
