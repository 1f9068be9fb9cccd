-- The message after a header, as far as the walk reports it.
use Rattle.std.specs.Prelude.{ℕ, ◌-◌, nat_lt, ◌&&◌, Bool, if◌then◌else◌, Option, Some, None, Result, Ok, Err, List, length, pos, codes}
use Rattle.sbe_types.specs.declared.schema.Level.{Level, out-Level}
use Rattle.sbe_types.specs.declared.schema.WireSchema.{WireSchema}
use Rattle.sbe_wire.specs.declared.codes.FCode.TheVariants as code
use Rattle.sbe_wire.specs.Faults.{Fault, fault_at}
use Rattle.sbe_wire.specs.Reading.{◌>>=◌}
use Rattle.sbe_wire.specs.Versions.{acting, floor, mode_of}
use Rattle.layout_tables.specs.Heads.{header_width}
use Rattle.body_walk.specs.declared.found.Found.{Found}
use Rattle.body_walk.specs.declared.header.Start.{Start}
use Rattle.body_walk.specs.Heads.{head_place, start_in}
use Rattle.body_walk.specs.inner.Outcomes.{fault_of}
use Rattle.body_walk.specs.inner.Cursor.{skim, entries_read}

-- what a header gives, if the block reaches the floor
abbrev pub start_check : WireSchema → Level → Start → Result Start Fault
start_check schema level start =
    if nat_lt start.block (floor (acting schema start.version) (out-Level level).fields)
    then Err (fault_at code.BlockShort (head_place schema (codes "blockLength")) (pos start.block))
    else Ok start

-- the version, or the fault if bytes follow the last part
abbrev pub rest_end : Bool → ℕ → List ℕ → ℕ → Result ℕ Fault
rest_end known version body next =
    if known && nat_lt next (length body) then Err (fault_at code.Trailing next (pos (length body - next))) else Ok version

-- the version after the root's block, groups and data, or the first fault
abbrev pub root_end : WireSchema → Level → List ℕ → Start → Result ℕ Fault
root_end schema level body start =
    let mode = mode_of schema start.version in
    skim (entries_read mode level start.block) body (header_width schema) >>= (λ next. rest_end mode.known start.version body next)

-- the version of a message of this level after a header with these numbers, or its first fault
abbrev pub message_from : WireSchema → Level → List ℕ → Start → Result ℕ Fault
message_from schema level body start = start_check schema level start >>= (λ s. root_end schema level body s)

-- the same after the header of the body
abbrev pub message_end : WireSchema → Level → List ℕ → Result ℕ Fault
message_end schema level body = message_from schema level body (start_in schema body)

-- the result that a start or None and the fault slot encode
abbrev pub start_went : Option Start → Found → Result Start Fault
start_went (Some start) found = Ok start
start_went None found = Err (fault_of found)
