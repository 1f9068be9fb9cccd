-- What an older schema knows of a message, and what a later one adds.
use Rattle.std.specs.Prelude.{◌≡◌, ◌<◌, ◌⊎◌, ℕ, Bool, if◌then◌else◌, Option, Some, None, List, [], ◌∷◌, map, slice_get}
use Rattle.sbe_types.specs.declared.schema.Field.{Field}
use Rattle.sbe_types.specs.declared.schema.DataField.{DataField}
use Rattle.sbe_types.specs.declared.schema.Group.{Group, Group'}
use Rattle.sbe_types.specs.declared.schema.Level.{Level, Level', out-Level, Row_of-Group, end_of-Group, more_of-Group}
use Rattle.sbe_types.specs.declared.schema.WireSchema.{WireSchema}
use Rattle.sbe_types.specs.declared.message.Value.TheVariants as value
use Rattle.sbe_types.specs.declared.message.DataVal.TheVariants as dataval
use Rattle.sbe_types.specs.declared.message.Block.{Block, out-Block}
use Rattle.sbe_types.specs.declared.message.GroupVal.{GroupVal, items-the_row-Block}
use Rattle.sbe_types.specs.declared.message.GroupVal.TheVariants as groupval
use Rattle.sbe_types.specs.declared.message.Msg.{Msg}
use Rattle.sbe_wire.specs.Faults.{message_named}
use Rattle.version_laws.specs.Differ.{is_old, group_since}

-- the same group with each entry changed
abbrev pub each_entry : (Block → Block) → GroupVal → GroupVal
each_entry f groupval.Absent = groupval.Absent
each_entry f (groupval.Entries' n row) = groupval.Entries (map f (items-the_row-Block _ row))

-- ---- projected: `version` is old's, the levels are new's

-- the values of the parts that old has
abbrev pub projected_list : {P V : Type 0} → (P → Bool) → List P → List V → List V
projected_list known [] vs = []
projected_list known (p ∷ ps) [] = []
projected_list known (p ∷ ps) (v ∷ vs) = if known p then v ∷ projected_list known ps vs else projected_list known ps vs

-- old has the field
abbrev pub old_field : ℕ → Field → Bool
old_field version f = is_old version f.since

-- old has the data part
abbrev pub old_part : ℕ → DataField → Bool
old_part version p = is_old version p.since

unfoldable mutual
  -- the block with the values of the parts that old has
  pub projected_block : ℕ → Level → Block → Block
  projected_block version (Level' _ _ _ _ _ fields _ groups parts) block = record {
    fields = projected_list (old_field version) fields (out-Block block).fields;
    groups = projected_groups version groups (out-Block block).groups;
    parts = projected_list (old_part version) parts (out-Block block).parts;
  }

  -- the groups that old has, each projected
  pub projected_groups : ℕ → {n : _} → Row_of-Group n → List GroupVal → List GroupVal
  projected_groups version end_of-Group vs = []
  projected_groups version (more_of-Group g gs) [] = []
  projected_groups version (more_of-Group g gs) (v ∷ vs) =
      if is_old version (group_since g)
      then projected_group version g v ∷ projected_groups version gs vs
      else projected_groups version gs vs

  -- the same group with each entry projected
  pub projected_group : ℕ → Group → GroupVal → GroupVal
  projected_group version (Group' dim level) v = each_entry (λ entry. projected_block version level entry) v

-- ---- lifted: a part that old lacks is absent

-- a value for each part of new: that of old, or absent
abbrev pub lifted_list : {P V : Type 0} → (P → Bool) → V → List P → List V → List V
lifted_list known absent [] vs = []
lifted_list known absent (p ∷ ps) [] = absent ∷ lifted_list known absent ps []
lifted_list known absent (p ∷ ps) (v ∷ vs) =
    if known p
    then v ∷ lifted_list known absent ps vs
    else absent ∷ lifted_list known absent ps (v ∷ vs)

unfoldable mutual
  -- the block with a value for each part of new
  pub lifted_block : ℕ → Level → Block → Block
  lifted_block version (Level' _ _ _ _ _ fields _ groups parts) block = record {
    fields = lifted_list (old_field version) value.Absent fields (out-Block block).fields;
    groups = lifted_groups version groups (out-Block block).groups;
    parts = lifted_list (old_part version) dataval.Absent parts (out-Block block).parts;
  }

  -- the groups of new: those of old, each lifted, or absent
  pub lifted_groups : ℕ → {n : _} → Row_of-Group n → List GroupVal → List GroupVal
  lifted_groups version end_of-Group vs = []
  lifted_groups version (more_of-Group g gs) [] = groupval.Absent ∷ lifted_groups version gs []
  lifted_groups version (more_of-Group g gs) (v ∷ vs) =
      if is_old version (group_since g)
      then lifted_group version g v ∷ lifted_groups version gs vs
      else groupval.Absent ∷ lifted_groups version gs (v ∷ vs)

  -- the same group with each entry lifted
  pub lifted_group : ℕ → Group → GroupVal → GroupVal
  lifted_group version (Group' dim level) v = each_entry (λ entry. lifted_block version level entry) v

-- ---- messages

-- m with the number of another template and another block; none if there is no such template
abbrev pub with_block : Msg → Option (ℕ × Level) → (Level → Block) → Option Msg
with_block m None block = None
with_block m (Some t) block = Some (record { template = t.0; version = m.version; block = block t.1 })

-- m, a message of that root, as old knows it
abbrev pub projected_from : WireSchema → Msg → Option Level → Option Msg
projected_from old m None = None
projected_from old m (Some level) = with_block m (message_named 0 (out-Level level).id old.messages) (λ other. projected_block old.version level m.block)

-- m, a message of new, as old knows it; none if old lacks the template
abbrev pub projected : WireSchema → WireSchema → Msg → Option Msg
projected old new m = projected_from old m (slice_get new.messages m.template)

-- m, a message of that root, as new reads it
abbrev pub lifted_from : WireSchema → WireSchema → Msg → Option Level → Option Msg
lifted_from old new m None = None
lifted_from old new m (Some level) = with_block m (message_named 0 (out-Level level).id new.messages) (λ other. lifted_block old.version other m.block)

-- m, a message of old, as new reads it
abbrev pub lifted : WireSchema → WireSchema → Msg → Option Msg
lifted old new m = lifted_from old new m (slice_get old.messages m.template)

-- m is of a later version than old, or both schemas have the same version: old checks no value by a list shorter than
-- its writer's
abbrev pub IsOfNew : WireSchema → WireSchema → Msg → Type 0
IsOfNew old new m = (old.version < m.version) ⊎ (old.version ≡ new.version)
