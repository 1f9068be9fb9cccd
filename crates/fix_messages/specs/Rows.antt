-- Heads and texts of worked rows.
use Rattle.std.specs.Prelude.{ℕ, zero, suc, List, [], ◌∷◌, Some, None, codes}
use Rattle.bridge_terms.specs.Parts.{TagLists}
use Rattle.fix_messages.specs.Heads.{Head}

-- a head without options
abbrev pub bare : Head
bare = record { begin = codes "FIX.4.4"; sender = None; target = None; seq = None; time = None }

-- a head with all options except the time
abbrev pub full : Head
full = record { begin = codes "FIX.4.4"; sender = Some (codes "FIRM"); target = Some (codes "EXCH"); seq = Some 1; time = None }

-- raw data with its length field
abbrev pub raw : TagLists
raw = record { header = []; lengths = (95, 96) ∷ [] }

-- a text of n letters
abbrev pub long_text : ℕ → List ℕ
long_text zero = []
long_text (suc n) = 120 ∷ long_text n
