-- The text of pieces, if the bytes of each value show one. Which text a value has is own profile.
use Rattle.std.specs.Prelude.{◌≡◌, ℕ, Bool, List, [], ◌∷◌, ◌++◌}
use Rattle.sbe_types.specs.declared.kind.Order.{Order}
use Rattle.sbe_types.specs.declared.message.Value.{Value}
use Rattle.sbe_types.specs.Shows.{Shows}
use Rattle.json_values.specs.Values.{value_data}
use Rattle.json_values.specs.Plain.{shown_text}
use Rattle.json_rows.specs.Pieces.{Piece, literal, shown, Slot, MergedPieces}
use Rattle.flat_rows.specs.BlockChecks.{bytes_there}

-- the text of pieces: a literal as it is, and a value as its bytes show it
abbrev pub PiecesText : Order → Bool → List Piece → List ℕ → List ℕ → Type 0
PiecesText order known [] block text = text ≡ []
PiecesText order known (literal bytes ∷ ps) block text = (rest : List ℕ) × (text ≡ bytes ++ rest) × PiecesText order known ps block rest
PiecesText order known (shown kind place ∷ ps) block text =
    (v : Value) × (rest : List ℕ) × Shows order known kind v (bytes_there kind place block) × (text ≡ shown_text (value_data kind v) ++ rest) × PiecesText order known ps block rest

-- the text of values, each after what is before it
abbrev pub SlotsText : Order → Bool → List Slot → List ℕ → List ℕ → Type 0
SlotsText order known [] block text = text ≡ []
SlotsText order known (s ∷ ss) block text =
    (v : Value) × (rest : List ℕ) × Shows order known s.kind v (bytes_there s.kind s.place block) × (text ≡ s.before ++ (shown_text (value_data s.kind v) ++ rest))
    × SlotsText order known ss block rest

-- the text of values, and what follows the last one
abbrev pub MergedText : Order → Bool → MergedPieces → List ℕ → List ℕ → Type 0
MergedText order known j block text = (front : List ℕ) × SlotsText order known j.slots block front × (text ≡ front ++ j.last)
