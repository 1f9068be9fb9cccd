-- What a header gives: its numbers, and the message that it names. From SBE 1.0, Message structure.
use Rattle.std.specs.Prelude.{ℕ, nat_le, ◌==◌, if◌then◌else◌, Option, Some, None, Result, Ok, Err, List, length, take, pos, codes}
use Rattle.sbe_types.specs.declared.schema.Level.{Level}
use Rattle.sbe_types.specs.declared.schema.WireSchema.{WireSchema}
use Rattle.sbe_wire.specs.declared.codes.FCode.TheVariants as code
use Rattle.sbe_wire.specs.Faults.{Fault, fault_at, message_named}
use Rattle.sbe_wire.specs.Named.{number_named, place_named}
use Rattle.layout_tables.specs.Heads.{header_width}
use Rattle.body_walk.specs.declared.header.Start.{Start}

-- the header's number with this name
abbrev pub head_number : WireSchema → List ℕ → List ℕ → ℕ
head_number schema name head = number_named schema.order schema.header.members name head

-- the offset of the header's number with this name
abbrev pub head_place : WireSchema → List ℕ → ℕ
head_place schema name = place_named schema.header.members name

-- ---- the message that the header names

-- the number of the message that was found
abbrev pub found_template : WireSchema → ℕ → Option (ℕ × Level) → Result ℕ Fault
found_template schema id None = Err (fault_at code.Template (head_place schema (codes "templateId")) (pos id))
found_template schema id (Some m) = Ok m.0

-- the number of the message that a header's bytes name, or why they don't name one
abbrev pub named_template : WireSchema → List ℕ → Result ℕ Fault
named_template schema head =
    let schema_id = head_number schema (codes "schemaId") head in
    let id = head_number schema (codes "templateId") head in
    if schema_id == schema.id
    then found_template schema id (message_named 0 id schema.messages)
    else Err (fault_at code.SchemaId (head_place schema (codes "schemaId")) (pos schema_id))

-- the number of the message that a body's header names, or why it doesn't name one
abbrev pub header_template : WireSchema → List ℕ → Result ℕ Fault
header_template schema body =
    if nat_le (header_width schema) (length body)
    then named_template schema (take (header_width schema) body)
    else Err (fault_at code.ShortHeader 0 (pos (length body)))

-- ---- what follows it in the header

-- the block length and the version in a body's header
abbrev pub start_in : WireSchema → List ℕ → Start
start_in schema body =
    let head = take (header_width schema) body in
    record { block = head_number schema (codes "blockLength") head; version = head_number schema (codes "version") head }
