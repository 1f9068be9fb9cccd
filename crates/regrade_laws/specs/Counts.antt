-- How many parts a rewritten message has lost, and how many were filled in. Own profile.
use Rattle.std.specs.Prelude.{ℕ, ◌+◌, nat_le, Bool, true, false, not, ◌&&◌, if◌then◌else◌, Option, Some, None, List, [], ◌∷◌, slice_get}
use Rattle.sbe_types.specs.declared.schema.Field.{Field}
use Rattle.sbe_types.specs.declared.schema.DataField.{DataField}
use Rattle.sbe_types.specs.declared.schema.Group.{Group, Group'}
use Rattle.sbe_types.specs.declared.schema.Level.{Level, Level', Row_of-Group, end_of-Group, more_of-Group}
use Rattle.sbe_types.specs.declared.schema.WireSchema.{WireSchema}
use Rattle.sbe_types.specs.declared.message.Value.{Value}
use Rattle.sbe_types.specs.declared.message.Value.TheVariants as value
use Rattle.sbe_types.specs.declared.message.DataVal.{DataVal}
use Rattle.sbe_types.specs.declared.message.Block.{Block, out-Block}
use Rattle.sbe_types.specs.declared.message.GroupVal.{GroupVal, items-the_row-Block}
use Rattle.sbe_types.specs.declared.message.GroupVal.TheVariants as groupval
use Rattle.sbe_types.specs.declared.message.Msg.{Msg}
use Rattle.sbe_types.specs.Places.{is_const}
use Rattle.version_laws.specs.Differ.{is_old, group_since}
use Rattle.version_laws.specs.Plain.{is_absent_part, is_absent_group}
use Rattle.schema_facts.specs.Counted.{total}
use Rattle.regrade_laws.specs.Regraded.{moved}

-- 1 if the test holds, else 0
abbrev pub one_if : Bool → ℕ
one_if t = if t then 1 else 0

-- the sum of a number for each part and its value
abbrev pub sum_pairs : {P V : Type 0} → (P → V → ℕ) → List P → List V → ℕ
sum_pairs count [] vs = 0
sum_pairs count (p ∷ ps) [] = 0
sum_pairs count (p ∷ ps) (v ∷ vs) = count p v + sum_pairs count ps vs

-- for how many parts and values a test holds
abbrev pub count_pairs : {P V : Type 0} → (P → V → Bool) → List P → List V → ℕ
count_pairs test ps vs = sum_pairs (λ p v. one_if (test p v)) ps vs

-- the value of a field is absent
abbrev pub is_absent : Value → Bool
is_absent value.Absent = true
is_absent v = false

-- ---- filled

-- a field is filled if it is absent and isn't constant
abbrev pub fills_field : Field → Value → Bool
fills_field f v = is_absent v && not (is_const f.kind)

-- a data part is filled if it is absent
abbrev pub fills_part : DataField → DataVal → Bool
fills_part p v = is_absent_part v

unfoldable mutual
  -- How many parts of a block are absent, constants aside.
  pub filled_count : Level → Block → ℕ
  filled_count (Level' _ _ _ _ _ fields _ groups parts) block =
      count_pairs fills_field fields (out-Block block).fields + filled_groups_count groups (out-Block block).groups
      + count_pairs fills_part parts (out-Block block).parts

  -- the same for groups
  pub filled_groups_count : {n : _} → Row_of-Group n → List GroupVal → ℕ
  filled_groups_count end_of-Group vs = 0
  filled_groups_count (more_of-Group g gs) [] = 0
  filled_groups_count (more_of-Group g gs) (v ∷ vs) = filled_group_count g v + filled_groups_count gs vs

  -- the same for the entries of a group; an absent group counts once
  pub filled_group_count : Group → GroupVal → ℕ
  filled_group_count (Group' dim level) groupval.Absent = 1
  filled_group_count (Group' dim level) (groupval.Entries' n row) = total (λ entry. filled_count level entry) (items-the_row-Block _ row)

-- ---- dropped: `version` is that of the schema that is written

-- a field is dropped if the schema lacks it, and it is neither absent nor constant
abbrev pub drops_field : ℕ → Field → Value → Bool
drops_field version f v = not (is_old version f.since) && (not (is_absent v) && not (is_const f.kind))

-- a data part is dropped if the schema lacks it and it isn't absent
abbrev pub drops_part : ℕ → DataField → DataVal → Bool
drops_part version p v = not (is_old version p.since) && not (is_absent_part v)

unfoldable mutual
  -- How many parts of a block are there, constants aside, that a schema of this version lacks.
  pub dropped_count : ℕ → Level → Block → ℕ
  dropped_count version (Level' _ _ _ _ _ fields _ groups parts) block =
      count_pairs (drops_field version) fields (out-Block block).fields + dropped_groups_count version groups (out-Block block).groups
      + count_pairs (drops_part version) parts (out-Block block).parts

  -- the same for groups; a group that is dropped counts once
  pub dropped_groups_count : ℕ → {n : _} → Row_of-Group n → List GroupVal → ℕ
  dropped_groups_count version end_of-Group vs = 0
  dropped_groups_count version (more_of-Group g gs) [] = 0
  dropped_groups_count version (more_of-Group g gs) (v ∷ vs) =
      (if is_old version (group_since g) then dropped_group_count version g v else one_if (not (is_absent_group v)))
      + dropped_groups_count version gs vs

  -- the same for the entries of a group that is kept
  pub dropped_group_count : ℕ → Group → GroupVal → ℕ
  dropped_group_count version (Group' dim level) groupval.Absent = 0
  dropped_group_count version (Group' dim level) (groupval.Entries' n row) =
      total (λ entry. dropped_count version level entry) (items-the_row-Block _ row)

-- ---- of a message

-- how many parts of a block of this level are filled
abbrev pub filled_at : Block → Option Level → ℕ
filled_at block None = 0
filled_at block (Some level) = filled_count level block

-- the same for a message of the schema that is written
abbrev pub filled_of : WireSchema → Option Msg → ℕ
filled_of to None = 0
filled_of to (Some m) = filled_at m.block (slice_get to.messages m.template)

-- How many parts are filled in when a message of `from` is rewritten to `to`.
abbrev pub filled : WireSchema → WireSchema → Msg → ℕ
filled from to m = filled_of to (moved from to m)

-- how many parts of a message of this level are dropped
abbrev pub dropped_at : ℕ → Msg → Option Level → ℕ
dropped_at version m None = 0
dropped_at version m (Some level) = dropped_count version level m.block

-- How many parts are dropped when a message of `from` is rewritten to `to`; none if `to` is the later schema.
abbrev pub dropped : WireSchema → WireSchema → Msg → ℕ
dropped from to m = if nat_le from.version to.version then 0 else dropped_at to.version m (slice_get from.messages m.template)
