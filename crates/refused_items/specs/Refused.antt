-- The line of a refused item. Own profile.
use Rattle.std.specs.Prelude.{ℕ, ◌/◌, ◌%◌, Option, Some, None, List, [], ◌∷◌, ◌++◌, codes, decimal}
use Rattle.hex.specs.Hex.{encode_lower}

-- why an item is refused: a code, the byte of the body if there is one, the path to the part, and a detail
pub record Refused : Type 0 where
  pub code : List ℕ
  pub offset : Option ℕ
  pub path : List ℕ
  pub detail : List ℕ

-- an offset, or null
abbrev pub offset_text : Option ℕ → List ℕ
offset_text None = codes "null"
offset_text (Some at) = decimal at

-- the line up to its path
abbrev pub front_text : ℕ → List ℕ → Option ℕ → List ℕ
front_text item code offset =
    codes "{\"refused\":\"" ++ (code ++ (codes "\",\"item\":" ++ (decimal item ++ (codes ",\"offset\":" ++ (offset_text offset ++ codes ",\"path\":")))))

-- the line after the path
abbrev pub back_text : List ℕ → List ℕ
back_text detail = codes "\",\"detail\":\"" ++ (detail ++ codes "\"}\n")

-- the line of a refused item; items are counted from 0
abbrev pub refused_line : ℕ → Refused → List ℕ
refused_line item why = front_text item why.code why.offset ++ (codes "\"" ++ (why.path ++ back_text why.detail))

-- ---- a frame of another encoding type

-- the four hexadecimal digits of an encoding type
abbrev pub type_text : ℕ → List ℕ
type_text encoding = encode_lower (encoding / 256 ∷ encoding % 256 ∷ [])

-- the encoding type isn't that of the schema
abbrev pub of_encoding : ℕ → Refused
of_encoding encoding = record { code = codes "E01"; offset = None; path = []; detail = type_text encoding }
