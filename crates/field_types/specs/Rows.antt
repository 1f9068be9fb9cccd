-- Fields and code sets on which datatypes are computed. Own profile.
use Rattle.std.specs.Prelude.{ℕ, List, [], ◌∷◌, codes, Option}
use Rattle.map_types.specs.declared.tree.CodeSetEl.{CodeSetEl}
use Rattle.map_types.specs.declared.tree.FieldEl.{FieldEl}

-- a field of this type
abbrev pub typed : List ℕ → Option ℕ → FieldEl
typed type_name length_id = record { id = 5001; name = codes "Own"; type_name = type_name; length_id = length_id }

-- a code set of this name and type, of one code
abbrev pub one_code : List ℕ → List ℕ → CodeSetEl
one_code name type_name = record { name = name; type_name = type_name; children = record { name = codes "Buy"; value = codes "1" } ∷ [] }
