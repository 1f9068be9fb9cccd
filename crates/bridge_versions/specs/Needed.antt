-- Which parts a message of an earlier version may lack so that it comes back from its text: a part that is absent gives
-- no field, and a text without the field is read only if the part may be missing. Own profile.
use Rattle.std.specs.Prelude.{Bool, true, false, not, ◌&&◌, ◌||◌, List, [], ◌∷◌, pos, codes}
use Rattle.std.specs.List.{list_all}
use Rattle.sbe_types.specs.declared.kind.Kind.{Kind, Leaf, Enum, Set, Const, Comp', Row_of-Member, end_of-Member, more_of-Member}
use Rattle.sbe_types.specs.declared.schema.Field.{Field}
use Rattle.sbe_types.specs.declared.schema.DataField.{DataField}
use Rattle.sbe_types.specs.declared.schema.Group.{Group, Group'}
use Rattle.sbe_types.specs.declared.schema.Level.{Level, Level', Row_of-Group, end_of-Group, more_of-Group}
use Rattle.sbe_types.specs.declared.message.Value.{Value}
use Rattle.sbe_types.specs.declared.message.Value as value
use Rattle.sbe_types.specs.declared.message.DataVal.{DataVal}
use Rattle.sbe_types.specs.declared.message.Block.{Block, out-Block}
use Rattle.sbe_types.specs.declared.message.GroupVal.{GroupVal}
use Rattle.sbe_types.specs.Shown.{is_optional, admits}
use Rattle.sbe_wire.specs.Named.{is_admitted}
use Rattle.version_laws.specs.Plain.{is_absent_part, is_absent_group}
use Rattle.bridge_terms.specs.Blocks.{entries_of}

-- ---- parts

abbrev mutual
  -- a text needs a field for a part of this kind: a number, text or enum that isn't optional, a constant, or a composite
  -- whose first member is needed; a set may be empty
  pub is_needed : Kind → Bool
  is_needed (Leaf l) = not (is_optional l.presence)
  is_needed (Enum l names) = not (is_optional l.presence)
  is_needed (Set p names) = false
  is_needed (Const c) = true
  is_needed (Comp' n members) = is_first_needed members

  -- the first of a composite's members is needed
  pub is_first_needed : {n : _} → Row_of-Member n → Bool
  is_first_needed end_of-Member = false
  is_first_needed (more_of-Member name offset kind rest) = is_needed kind

-- the value of a field that the message's version doesn't have
abbrev pub is_absent : Value → Bool
is_absent value.Absent = true
is_absent (value.Num n) = false
is_absent (value.Text t) = false
is_absent (value.Nums es) = false
is_absent (value.Enum n) = false
is_absent (value.Set n) = false
is_absent (value.Comp' k row) = false
is_absent value.Null = false
is_absent value.Const = false

-- ---- a message

-- no field that is absent is needed
abbrev pub has_fields : List Field → List Value → Bool
has_fields [] [] = true
has_fields [] (v ∷ vs) = false
has_fields (f ∷ fs) [] = false
has_fields (f ∷ fs) (v ∷ vs) = not (is_absent v && is_needed f.kind) && has_fields fs vs

-- data that is absent may have the length 0
abbrev pub has_parts : List DataField → List DataVal → Bool
has_parts [] [] = true
has_parts [] (v ∷ vs) = false
has_parts (d ∷ ds) [] = false
has_parts (d ∷ ds) (v ∷ vs) = (not (is_absent_part v) || admits d.length (pos 0)) && has_parts ds vs

abbrev mutual
  -- no part that is absent, in the message or in an entry, is one that a text needs
  pub has_needed : Level → Block → Bool
  has_needed (Level' name id semantic since block_length fields _ groups parts) block =
      has_fields fields (out-Block block).fields && (has_groups groups (out-Block block).groups && has_parts parts (out-Block block).parts)

  -- the same for groups
  pub has_groups : {n : _} → Row_of-Group n → List GroupVal → Bool
  has_groups end_of-Group [] = true
  has_groups end_of-Group (v ∷ vs) = false
  has_groups (more_of-Group g rest) [] = false
  has_groups (more_of-Group g rest) (v ∷ vs) = has_entries g v && has_groups rest vs

  -- a group that is absent may have no entries; the same for each entry of one that is there
  pub has_entries : Group → GroupVal → Bool
  has_entries (Group' dim level) v = (not (is_absent_group v) || is_admitted dim (codes "numInGroup") 0) && list_all (λ e. has_needed level e) (entries_of v)
