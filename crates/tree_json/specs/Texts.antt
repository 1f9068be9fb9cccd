-- What is printed alike for each message, level by level. Own profile.
use Rattle.std.specs.Prelude.{◌≡◌, ℕ, ◌==◌, if◌then◌else◌, Option, Some, None, List, [], ◌∷◌, length, slice_get, codes, ⊤}
use Rattle.std.specs.List.{AllByRecursion}
use Rattle.sbe_types.specs.declared.kind.Member.{Member}
use Rattle.sbe_types.specs.declared.schema.DataField.{DataField}
use Rattle.sbe_types.specs.declared.schema.Field.{Field}
use Rattle.sbe_types.specs.declared.schema.Group.{Group, Group', out-Group}
use Rattle.sbe_types.specs.declared.schema.Level.{Level, Level', out-Level, Row_of-Group, end_of-Group, more_of-Group}
use Rattle.schema_facts.specs.InOrder.{IsKindInOrder}
use Rattle.schema_facts.specs.Levels.{Node, nodes}
use Rattle.schema_facts.specs.Measured.{AreNarrowFields}
use Rattle.flyweight_view.specs.TypedBlocks.{TypedBlock}
use Rattle.json_rows.specs.Pieces.{Piece, pieces_between}
use Rattle.json_rows.specs.Tables.{HasPieces}
use Rattle.tree_json.specs.declared.texts.LevelTexts.{LevelTexts, out-LevelTexts}

-- what is printed before the fields: the opening of their object; without data, everything that precedes it
abbrev pub text_before : List DataField → List ℕ
text_before parts = if length parts == 0 then codes "{\"data\":{},\"fields\":{" else codes ",\"fields\":{"

-- what is printed after the fields: the opening of the groups' object; without groups, its closing bracket too
abbrev pub text_behind : List Group → List ℕ
text_behind groups = if length groups == 0 then codes ",\"groups\":{}" else codes ",\"groups\":{"

-- the pieces of the fields of a level, between these
abbrev pub level_pieces : Level → List Piece
level_pieces level = pieces_between (text_before (out-Level level).parts) (text_behind (out-Level level).groups) (out-Level level).fields

abbrev mutual
  -- the texts are those of a level's fields, and of each of its groups, at all depths
  pub AreLevelTexts : Level → LevelTexts → Type 0
  AreLevelTexts (Level' name id semantic since block_length fields n groups parts) t =
      HasPieces (level_pieces (Level' name id semantic since block_length fields n groups parts)) (out-LevelTexts t).fields
      × AreRowTexts groups (out-LevelTexts t).groups

  -- the same for groups, in order
  pub AreRowTexts : {n : _} → Row_of-Group n → List LevelTexts → Type 0
  AreRowTexts end_of-Group [] = ⊤
  AreRowTexts end_of-Group (t ∷ ts) = ⊥
  AreRowTexts (more_of-Group g rest) [] = ⊥
  AreRowTexts (more_of-Group g rest) (t ∷ ts) = AreGroupTexts g t × AreRowTexts rest ts

  -- the same for a group's entries
  pub AreGroupTexts : Group → LevelTexts → Type 0
  AreGroupTexts (Group' dim level) t = AreLevelTexts level t

-- the texts of groups, over the list of the groups
abbrev pub HaveTexts : List Group → List LevelTexts → Type 0
HaveTexts [] [] = ⊤
HaveTexts [] (t ∷ ts) = ⊥
HaveTexts (g ∷ gs) [] = ⊥
HaveTexts (g ∷ gs) (t ∷ ts) = AreLevelTexts (out-Group g).level t × HaveTexts gs ts

-- the pieces of the fields of a block that a view shows, between the same texts
abbrev pub block_pieces : TypedBlock → List Piece
block_pieces s = pieces_between (text_before s.parts) (text_behind s.groups) s.fields

-- the texts are those of a block that a view shows
pub record AreTextsOf (s : TypedBlock) (t : LevelTexts) : Type 0 where
  pub fields : HasPieces (block_pieces s) (out-LevelTexts t).fields
  pub groups : HaveTexts s.groups (out-LevelTexts t).groups

-- the texts of a level's group, if there are texts at all
abbrev pub texts_at : Option LevelTexts → ℕ → Option LevelTexts
texts_at None i = None
texts_at (Some t) i = slice_get (out-LevelTexts t).groups i

-- the same, if there are texts at all
abbrev pub AreTexts : Option LevelTexts → TypedBlock → Type 0
AreTexts None s = ⊤
AreTexts (Some t) s = AreTextsOf s t

-- the same for each of some blocks
abbrev pub AreTextsOfAll : Option LevelTexts → List TypedBlock → Type 0
AreTextsOfAll o [] = ⊤
AreTextsOfAll o (s ∷ ss) = AreTexts o s × AreTextsOfAll o ss

-- the same for a group's entries, if it is there
abbrev pub AreTextsOfGroup : Option LevelTexts → Option (List TypedBlock) → Type 0
AreTextsOfGroup o None = ⊤
AreTextsOfGroup o (Some ss) = AreTextsOfAll o ss

-- the texts of a schema's messages
abbrev pub AreMessageTexts : List Level → List LevelTexts → Type 0
AreMessageTexts [] [] = ⊤
AreMessageTexts [] (t ∷ ts) = ⊥
AreMessageTexts (l ∷ ls) [] = ⊥
AreMessageTexts (l ∷ ls) (t ∷ ts) = AreLevelTexts l t × AreMessageTexts ls ts

-- ---- what is required of a level before its texts are made

-- the kinds of a level's fields are in order, and the fields end within the largest offset
pub record IsPrintableNode (node : Node) : Type 0 where
  pub kinds : AllByRecursion (λ (f : Field). IsKindInOrder f.kind) (out-Level node.level).fields
  pub narrow : AreNarrowFields 0 (out-Level node.level).fields

-- the same for a level and the levels of its groups, at all depths
pub record IsPrintable (level : Level) : Type 0 where
  pub template : ℕ
  pub dim : Option (List Member)
  pub nodes_are : AllByRecursion IsPrintableNode (nodes template dim level)

-- the same for groups
abbrev pub AreGroupsPrintable : List Group → Type 0
AreGroupsPrintable gs = AllByRecursion (λ (g : Group). IsPrintable (out-Group g).level) gs
