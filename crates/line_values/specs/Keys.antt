-- The names that keys of objects may have. Own profile.
use Rattle.std.specs.Prelude.{ℕ, List, [], ◌∷◌, codes}
use Rattle.sbe_types.specs.declared.schema.Field.{Field}
use Rattle.sbe_types.specs.declared.schema.DataField.{DataField}
use Rattle.sbe_types.specs.declared.schema.Group.{Group, out-Group}
use Rattle.sbe_types.specs.declared.schema.Level.{out-Level}

-- the names of fields
abbrev pub field_names : List Field → List (List ℕ)
field_names [] = []
field_names (f ∷ fs) = f.name ∷ field_names fs

-- the names of data parts
abbrev pub data_names : List DataField → List (List ℕ)
data_names [] = []
data_names (p ∷ ps) = p.name ∷ data_names ps

-- a group's name, which is that of its level
abbrev pub group_name : Group → List ℕ
group_name g = (out-Level (out-Group g).level).name

-- the keys of an entry
abbrev pub entry_names : List (List ℕ)
entry_names = codes "data" ∷ codes "fields" ∷ codes "groups" ∷ []

-- the keys of a message
abbrev pub message_names : List (List ℕ)
message_names = codes "data" ∷ codes "fields" ∷ codes "groups" ∷ codes "template" ∷ codes "version" ∷ []
