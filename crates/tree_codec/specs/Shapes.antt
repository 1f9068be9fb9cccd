-- The first misfit that a walk over a message reports, and groups in a list.
use Rattle.std.specs.Prelude.{ℕ, suc, Bool, true, false, Option, Some, None, List, [], ◌∷◌, ⊤}
use Rattle.sbe_types.specs.declared.message.DataVal.{DataVal}
use Rattle.sbe_types.specs.declared.message.DataVal.TheVariants as dataval
use Rattle.sbe_types.specs.declared.message.GroupVal.{GroupVal}
use Rattle.sbe_types.specs.declared.path.Step.TheVariants as way
use Rattle.sbe_types.specs.declared.schema.Group.{Group, Group'}
use Rattle.sbe_types.specs.declared.schema.Level.{Level, Level', Row_of-Group, end_of-Group, more_of-Group}
use Rattle.sbe_wire.specs.Misfit.{Misfit, or_else, misfit_in, group_shape}
use Rattle.tree_codec.specs.declared.first_misfit.FirstMisfit.{FirstMisfit}

-- the misfit in the slot
abbrev pub misfit_of : FirstMisfit → Misfit
misfit_of unfit = record { code = unfit.code; path = unfit.path; detail = unfit.detail }

-- the result that `true` or `false` and the misfit slot encode
abbrev pub misfit_unless : Bool → FirstMisfit → Option Misfit
misfit_unless true unfit = None
misfit_unless false unfit = Some (misfit_of unfit)

-- the first misfit of groups, counted from i
abbrev pub groups_unfit : ℕ → List Group → List GroupVal → Option Misfit
groups_unfit i [] vs = None
groups_unfit i (g ∷ gs) [] = None
groups_unfit i (g ∷ gs) (v ∷ vs) = or_else (misfit_in (way.Part i) (group_shape g v)) (groups_unfit (suc i) gs vs)

-- the data part is absent
abbrev pub is_gone : DataVal → Bool
is_gone dataval.Absent = true
is_gone (dataval.Bytes bytes) = false

abbrev mutual
  -- P holds of the level, and of the levels of all groups below it
  pub Throughout : (Level → Type 0) → Level → Type 0
  Throughout P (Level' name id semantic since block_length fields n groups parts) = P (Level' name id semantic since block_length fields n groups parts) × ThroughoutRow P groups

  -- the same for groups
  pub ThroughoutRow : (Level → Type 0) → {n : _} → Row_of-Group n → Type 0
  ThroughoutRow P end_of-Group = ⊤
  ThroughoutRow P (more_of-Group g rest) = ThroughoutGroup P g × ThroughoutRow P rest

  -- the same for a group
  pub ThroughoutGroup : (Level → Type 0) → Group → Type 0
  ThroughoutGroup P (Group' dim level) = Throughout P level
