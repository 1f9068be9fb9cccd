-- Pieces and names on which the definitions are computed. Own profile.
use Rattle.std.specs.Prelude.{ℕ, Option, Some, None, List, [], ◌∷◌, map, codes}
use Rattle.sbe_types.specs.declared.kind.Kind.{Kind}
use Rattle.sbe_types.specs.declared.kind.Primitive.TheVariants.{I32, U8, U16}
use Rattle.flat_rows.specs.Worked.{number, side, flags, text, pair}
use Rattle.json_rows.specs.Codes.{byte_name}
use Rattle.json_rows.specs.Pieces.{Slot, MergedPieces}

-- a value and what is before it
abbrev pub slot : List ℕ → Kind → ℕ → Slot
slot before kind place = record { before = before; kind = kind; place = place }

-- the values of a block of each kind, between a bracket and a comma, each with what is before it
abbrev pub mixed_pieces : MergedPieces
mixed_pieces =
    record {
      slots =
          slot (codes "{\"n\":") (number U16) 0 ∷ slot (codes ",\"k\":-4,\"e\":") side 2 ∷ slot (codes ",\"s\":") flags 3 ∷ slot (codes ",\"t\":") text 4
          ∷ slot (codes ",\"o\":") pair 10 ∷ slot (codes ",\"px\":{\"mantissa\":") (number I32) 14 ∷ slot (codes ",\"exponent\":-2,\"in\":{\"x\":") (number U8) 20 ∷ [];
      last = codes "}},\"c\":\"U\\\"D\",\"d\":\"Sell\",\"h\":{\"hex\":\"61ff\"}},";
    }

-- the pieces of a block without fields
abbrev pub nothing : MergedPieces
nothing = record { slots = []; last = codes "}" }

-- the names that a kind has for five bytes
abbrev pub names_at : Kind → List (Option (List ℕ))
names_at kind = map (byte_name kind) (0 ∷ 1 ∷ 65 ∷ 200 ∷ 255 ∷ [])

-- the first of two names with the same number, and none for the null
abbrev pub doubled_names : List (Option (List ℕ))
doubled_names = Some (codes "Nought") ∷ None ∷ Some (codes "First") ∷ None ∷ Some (codes "Last") ∷ []

-- none of the five has a name
abbrev pub no_names : List (Option (List ℕ))
no_names = None ∷ None ∷ None ∷ None ∷ None ∷ []
