-- Levels whose fields end within the largest offset, by the facts of their types.
use Rattle.std.specs.Prelude.{ℕ, ◌≤◌, List, [], ◌∷◌, ⊤}
use Rattle.sbe_types.specs.declared.limits.TheConstants.{PLACE_LIMIT}
use Rattle.sbe_types.specs.declared.tree.MessageEl.{MessageEl}
use Rattle.sbe_types.specs.declared.tree.PartItem.{PartItem, Row_of-PartItem, end_of-PartItem, more_of-PartItem}
use Rattle.sbe_types.specs.declared.tree.PartItem as part
use Rattle.sbe_types.specs.declared.tree.TypesItem.{TypesItem}
use Rattle.schema_facts.specs.Ends.{end_with, parts_end}

-- the end of the fields of a row of parts, after fields that end at e
abbrev pub row_reach : List TypesItem → ℕ → {n : _} → Row_of-PartItem n → ℕ
row_reach types e end_of-PartItem = e
row_reach types e (more_of-PartItem p rest) = row_reach types (end_with types e p) rest

abbrev mutual
  -- the fields of a group's entries, and of the groups inside it, end within the largest offset
  pub IsShortPart : List TypesItem → PartItem → Type 0
  IsShortPart types (part.Field f) = ⊤
  IsShortPart types (part.Data d) = ⊤
  IsShortPart types (part.Group' name id dimension since length n row) = (row_reach types 0 row ≤ PLACE_LIMIT) × IsShortRow types row

  -- the same for a row of parts
  pub IsShortRow : List TypesItem → {n : _} → Row_of-PartItem n → Type 0
  IsShortRow types end_of-PartItem = ⊤
  IsShortRow types (more_of-PartItem p rest) = IsShortPart types p × IsShortRow types rest

-- the same for a list of parts
abbrev pub AreShortParts : List TypesItem → List PartItem → Type 0
AreShortParts types [] = ⊤
AreShortParts types (p ∷ ps) = IsShortPart types p × AreShortParts types ps

-- a level's fields end within the largest offset, and so do those of the groups inside it
pub record IsShortLevel (types : List TypesItem) (ps : List PartItem) : Type 0 where
  pub fields : parts_end types 0 ps ≤ PLACE_LIMIT
  pub groups : AreShortParts types ps

-- the same for the levels of these messages
abbrev pub AreShortMessages : List TypesItem → List MessageEl → Type 0
AreShortMessages types [] = ⊤
AreShortMessages types (m ∷ ms) = IsShortLevel types m.children × AreShortMessages types ms
