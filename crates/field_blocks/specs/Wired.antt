-- Which parts of a template's level the parts of a plan are. Own profile.
use Rattle.std.specs.Prelude.{◌≡◌, ℕ, slice_get, Some, ⊤}
use Rattle.sbe_types.specs.declared.schema.DataField.{DataField}
use Rattle.sbe_types.specs.declared.schema.Field.{Field}
use Rattle.sbe_types.specs.declared.schema.Group.{Group, out-Group}
use Rattle.sbe_types.specs.declared.schema.Level.{Level, out-Level}
use Rattle.bridge_terms.specs.Plans.{Plan, Place, Repeat, done, single, group, in_fields, in_data}

-- the field of that number has the id
pub record IsField (level : Level) (i tag : ℕ) : Type 0 where
  pub field : Field
  pub there : slice_get (out-Level level).fields i ≡ Some field
  pub id : field.id ≡ tag

-- the data of that number has the id
pub record IsData (level : Level) (i tag : ℕ) : Type 0 where
  pub part : DataField
  pub there : slice_get (out-Level level).parts i ≡ Some part
  pub id : part.id ≡ tag

-- the field or data at a place has the id
abbrev pub IsAt : Level → Place → ℕ → Type 0
IsAt level (in_fields i) tag = IsField level i tag
IsAt level (in_data i) tag = IsData level i tag

-- the group at the place of a plan's group has its tag as id, and its level
pub record IsGroupAt (level : Level) (g : Repeat) : Type 0 where
  pub found : Group
  pub there : slice_get (out-Level level).groups g.place ≡ Some found
  pub id : (out-Level (out-Group found).level).id ≡ g.tag
  pub same : (out-Group found).level ≡ g.level

-- each part of the plan is that of the level which has its tag as id, and so at each depth
abbrev pub IsWired : Level → Plan → Type 0
IsWired level done = ⊤
IsWired level (single s rest) = IsAt level s.place s.tag × IsWired level rest
IsWired level (group g inner rest) = IsGroupAt level g × IsWired g.level inner × IsWired level rest
