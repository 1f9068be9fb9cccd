-- What the walk that counts the bytes of a message gives.
use Rattle.std.specs.Prelude.{ℕ, suc, if◌then◌else◌, codes, Option, Some, None, Ok, Err, List, [], ◌∷◌}
use Rattle.sbe_types.specs.declared.kind.Member.{Member}
use Rattle.sbe_types.specs.declared.message.Block.{Block, out-Block}
use Rattle.sbe_types.specs.declared.message.GroupVal.{GroupVal}
use Rattle.sbe_types.specs.declared.path.Step.TheVariants as way
use Rattle.sbe_types.specs.declared.schema.Group.{Group}
use Rattle.sbe_types.specs.declared.schema.Level.{Level, out-Level}
use Rattle.sbe_wire.specs.Misfit.{Taken, ◌then◌, taken_in, take_bytes, refused, block_taken, tail_taken, group_taken}
use Rattle.sbe_wire.specs.declared.codes.NCode.TheVariants as code
use Rattle.sbe_wire.specs.Named.{is_admitted}
use Rattle.sbe_types.specs.Places.{members_end}
use Rattle.tree_codec.specs.declared.first_misfit.FirstMisfit.{FirstMisfit}
use Rattle.tree_codec.specs.Shapes.{misfit_of}

-- the result that a number of bytes or None and the misfit slot encode
abbrev pub place_or_misfit : Option ℕ → FirstMisfit → Taken
place_or_misfit (Some n) unfit = Ok n
place_or_misfit None unfit = Err (misfit_of unfit)

-- the bytes so far after groups, counted from i
abbrev pub groups_room : ℕ → ℕ → ℕ → List Group → List GroupVal → Taken
groups_room limit i before [] vs = Ok before
groups_room limit i before (g ∷ gs) [] = Ok before
groups_room limit i before (g ∷ gs) (v ∷ vs) = taken_in (way.Part i) (group_taken limit before g v) then (λ after. groups_room limit (suc i) after gs vs)

-- the bytes so far after an entry: its block, and its groups and data
abbrev pub entry_room : ℕ → Level → ℕ → Block → Taken
entry_room limit level at entry =
    block_taken limit at (out-Level level).block_length (out-Level level).fields (out-Block entry).fields then (λ after. tail_taken limit after level entry)

-- the bytes so far after a dimension with the count `many`
abbrev pub dim_room : ℕ → ℕ → List Member → ℕ → Taken
dim_room limit before dim many = if is_admitted dim (codes "numInGroup") many then take_bytes limit before (members_end 0 dim) else refused code.Count many
