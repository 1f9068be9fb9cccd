-- The places of one level of a structure: its fields, and its groups with the rows of their entries.
use Rattle.std.specs.Prelude.{◌≡◌, ℕ, List, [], ◌∷◌, ◌++◌, map, Option, Some, None}
use Rattle.std.specs.Borrow.{Bor}
use Rattle.reference_graph.specs.Expansion.{Structure, ended, plain, counted}
use Rattle.structure_rows.specs.declared.row.PlaceRow.{PlaceRow}
use Rattle.structure_rows.specs.Rows.{rows_of}
use Rattle.level_places.specs.declared.places.LevelPlaces.{LevelPlaces}

-- the tags of the fields of a level
abbrev pub field_tags : Structure → List ℕ
field_tags ended = []
field_tags (plain tag rest) = tag ∷ field_tags rest
field_tags (counted tag inner rest) = field_tags rest

-- the tags of the counts of a level's groups
abbrev pub group_tags : Structure → List ℕ
group_tags ended = []
group_tags (plain tag rest) = group_tags rest
group_tags (counted tag inner rest) = tag ∷ group_tags rest

-- the rows of the entries of each group
abbrev pub entry_rows : Structure → List (List PlaceRow)
entry_rows ended = []
entry_rows (plain tag rest) = entry_rows rest
entry_rows (counted tag inner rest) = rows_of inner ∷ entry_rows rest

-- the rows that are lent
abbrev pub lent_rows : List (Bor (List PlaceRow)) → List (List PlaceRow)
lent_rows all = map (λ rows. rows.now) all

-- the places are those of a structure
pub record HasPlaces (s : Structure) (places : LevelPlaces) : Type 0 where
  pub fields : places.fields ≡ field_tags s
  pub groups : places.groups ≡ group_tags s
  pub entries : lent_rows places.entries.items ≡ entry_rows s

-- ---- how the places are collected

-- the first place of a structure, which has this tag, with the rows of its entries if it is a group, and the rows after
-- it
pub data FirstPlace (s : Structure) (tag : ℕ) (own : Option (List PlaceRow)) (after : List PlaceRow) : Type 0 where
  a_field : (more : Structure) → s ≡ plain tag more → own ≡ None → after ≡ rows_of more → FirstPlace s tag own after
  a_group : (inner more : Structure) → s ≡ counted tag inner more → own ≡ Some (rows_of inner) → after ≡ rows_of more → FirstPlace s tag own after

-- the places so far and those that are left are all places
pub record Gathers (s left : Structure) (fields groups : List ℕ) (entries : List (List PlaceRow)) : Type 0 where
  pub fields_rest : fields ++ field_tags left ≡ field_tags s
  pub groups_rest : groups ++ group_tags left ≡ group_tags s
  pub entries_rest : entries ++ entry_rows left ≡ entry_rows s
