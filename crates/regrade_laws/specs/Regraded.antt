-- A message of one version of a schema, rewritten to another version. Own profile.
use Rattle.std.specs.Prelude.{ℕ, nat_le, if◌then◌else◌, Option, Some, None, Result, Ok, Err, List, slice_get}
use Rattle.sbe_types.specs.declared.path.Step.{Step}
use Rattle.sbe_types.specs.declared.schema.Level.{Level}
use Rattle.sbe_types.specs.declared.schema.WireSchema.{WireSchema}
use Rattle.sbe_types.specs.declared.message.Block.{Block}
use Rattle.sbe_types.specs.declared.message.Msg.{Msg}
use Rattle.version_laws.specs.declared.difference.Difference.{Difference}
use Rattle.version_laws.specs.Differ.{differ}
use Rattle.version_laws.specs.Projected.{projected, lifted}
use Rattle.regrade_laws.specs.declared.way.Way.{Way}
use Rattle.regrade_laws.specs.declared.way.Way.TheVariants.{Up, Down}
use Rattle.regrade_laws.specs.Fill.{Fills}
use Rattle.regrade_laws.specs.Filled.{filled_block}

-- this way, or the path of the first difference
abbrev pub way_by : Way → Option Difference → Result Way (List ℕ)
way_by way None = Ok way
way_by way (Some d) = Err d.path

-- The way from one schema to the other, or the path of the first difference if the later one doesn't extend the
-- earlier.
abbrev pub way_of : WireSchema → WireSchema → Result Way (List ℕ)
way_of from to = if nat_le from.version to.version then way_by Up (differ from to) else way_by Down (differ to from)

-- m with the parts that the schema `to` has, absent where m lacks them; None if `to` lacks the template
abbrev pub moved : WireSchema → WireSchema → Msg → Option Msg
moved from to m = if nat_le from.version to.version then lifted from to m else projected to from m

-- Why a message isn't rewritten: there is no such template, or the part at this path is absent and has no fill.
pub data Refusal : Type 0 where
  NoTemplate : Refusal
  NoFill : List Step → Refusal

-- m with this block, in this version, or its refusal
abbrev pub in_version : ℕ → Msg → Fills Block → Result Msg Refusal
in_version version m (Err path) = Err (NoFill path)
in_version version m (Ok block) = Ok (record { template = m.template; version = version; block = block })

-- m, whose parts are those of this level, with its absent parts filled
abbrev pub filled_by : ℕ → Msg → Option Level → Result Msg Refusal
filled_by version m None = Err NoTemplate
filled_by version m (Some level) = in_version version m (filled_block level m.block)

-- the same by m's template
abbrev pub filled_in : WireSchema → Option Msg → Result Msg Refusal
filled_in to None = Err NoTemplate
filled_in to (Some m) = filled_by to.version m (slice_get to.messages m.template)

-- A message of the schema `from`, as a message of `to`.
abbrev pub regraded : WireSchema → WireSchema → Msg → Result Msg Refusal
regraded from to m = filled_in to (moved from to m)
