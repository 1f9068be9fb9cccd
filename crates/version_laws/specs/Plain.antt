-- Which messages mislead no older decoder. `version` is old's, the levels are new's.
use Rattle.std.specs.Prelude.{◌≡◌, ℕ, Bool, true, false, List, [], ◌∷◌, slice_get, Some, ⊤}
use Rattle.std.specs.Bool.{MatchBool}
use Rattle.sbe_types.specs.declared.schema.DataField.{DataField}
use Rattle.sbe_types.specs.declared.schema.Group.{Group, Group'}
use Rattle.sbe_types.specs.declared.schema.Level.{Level, Level', Row_of-Group, end_of-Group, more_of-Group}
use Rattle.sbe_types.specs.declared.schema.WireSchema.{WireSchema}
use Rattle.sbe_types.specs.declared.message.DataVal.{DataVal}
use Rattle.sbe_types.specs.declared.message.DataVal.TheVariants as dataval
use Rattle.sbe_types.specs.declared.message.Block.{Block, out-Block}
use Rattle.sbe_types.specs.declared.message.GroupVal.{GroupVal, items-the_row-Block}
use Rattle.sbe_types.specs.declared.message.GroupVal.TheVariants as groupval
use Rattle.sbe_types.specs.declared.message.Msg.{Msg}
use Rattle.version_laws.specs.Differ.{is_old, group_since}

-- the property holds of each of these entries
abbrev pub AllOf : (Block → Type 0) → List Block → Type 0
AllOf P [] = ⊤
AllOf P (e ∷ es) = P e × AllOf P es

-- the property holds of each entry of a group, if the group is there
abbrev pub EachEntry : (Block → Type 0) → GroupVal → Type 0
EachEntry P groupval.Absent = ⊤
EachEntry P (groupval.Entries' n row) = AllOf P (items-the_row-Block _ row)

-- ---- entries: a part that old lacks isn't there

-- each data part that old lacks is absent
abbrev pub PlainParts : ℕ → List DataField → List DataVal → Type 0
PlainParts version [] vs = ⊤
PlainParts version (p ∷ ps) [] = ⊤
PlainParts version (p ∷ ps) (v ∷ vs) = MatchBool (is_old version p.since) ⊤ (v ≡ dataval.Absent) × PlainParts version ps vs

abbrev mutual
  -- no group or data that old lacks is in the entry
  pub PlainEntry : ℕ → Level → Block → Type 0
  PlainEntry version (Level' _ _ _ _ _ _ _ groups parts) block =
      PlainGroups version groups (out-Block block).groups × PlainParts version parts (out-Block block).parts

  -- each group that old lacks is absent, and the entries of the others are plain
  pub PlainGroups : ℕ → {n : _} → Row_of-Group n → List GroupVal → Type 0
  PlainGroups version end_of-Group vs = ⊤
  PlainGroups version (more_of-Group g gs) [] = ⊤
  PlainGroups version (more_of-Group g gs) (v ∷ vs) =
      MatchBool (is_old version (group_since g)) (PlainGroup version g v) (v ≡ groupval.Absent) × PlainGroups version gs vs

  -- each entry of the group is plain
  pub PlainGroup : ℕ → Group → GroupVal → Type 0
  PlainGroup version (Group' dim level) v = EachEntry (λ entry. PlainEntry version level entry) v

-- ---- the root: a part that old lacks, and that is there, is followed by none that old has

-- none of these data parts is one that old has
abbrev pub NoOldParts : ℕ → List DataField → Type 0
NoOldParts version [] = ⊤
NoOldParts version (p ∷ ps) = (is_old version p.since ≡ false) × NoOldParts version ps

-- none of these groups is one that old has
abbrev pub NoOldGroups : ℕ → {n : _} → Row_of-Group n → Type 0
NoOldGroups version end_of-Group = ⊤
NoOldGroups version (more_of-Group g gs) = (is_old version (group_since g) ≡ false) × NoOldGroups version gs

-- the data is absent
abbrev pub is_absent_part : DataVal → Bool
is_absent_part dataval.Absent = true
is_absent_part (dataval.Bytes bytes) = false

-- the group is absent
abbrev pub is_absent_group : GroupVal → Bool
is_absent_group groupval.Absent = true
is_absent_group (groupval.Entries' n row) = false

-- a data part that old lacks, and that is there, is followed by none that old has
abbrev pub PlainRootParts : ℕ → List DataField → List DataVal → Type 0
PlainRootParts version [] vs = ⊤
PlainRootParts version (p ∷ ps) [] = ⊤
PlainRootParts version (p ∷ ps) (v ∷ vs) =
    MatchBool (is_old version p.since) (PlainRootParts version ps vs) (MatchBool (is_absent_part v) (PlainRootParts version ps vs) (NoOldParts version ps))

-- the same for groups and the data after them; and the entries of groups that old has are plain
abbrev pub PlainRootGroups : ℕ → List DataField → List DataVal → {n : _} → Row_of-Group n → List GroupVal → Type 0
PlainRootGroups version parts ds end_of-Group vs = PlainRootParts version parts ds
PlainRootGroups version parts ds (more_of-Group g gs) [] = ⊤
PlainRootGroups version parts ds (more_of-Group g gs) (v ∷ vs) =
    MatchBool (is_old version (group_since g)) (PlainGroup version g v × PlainRootGroups version parts ds gs vs)
    (MatchBool (is_absent_group v) (PlainRootGroups version parts ds gs vs) (NoOldGroups version gs × NoOldParts version parts))

-- the same for a message's root
abbrev pub PlainRoot : ℕ → Level → Block → Type 0
PlainRoot version (Level' _ _ _ _ _ _ _ groups parts) block = PlainRootGroups version parts (out-Block block).parts groups (out-Block block).groups

-- the message misleads no decoder that knows only old: what it would misread is absent
abbrev pub Plain : WireSchema → WireSchema → Msg → Type 0
Plain old new m = (level : Level) → slice_get new.messages m.template ≡ Some level → PlainRoot old.version level m.block
