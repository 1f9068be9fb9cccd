-- How a body that isn't a message is refused. Own profile.
use Rattle.std.specs.Prelude.{ℕ, Option, Some, None, List, [], codes}
use Rattle.std.specs.Fmt.{signed_decimal}
use Rattle.std.specs.Result.{result_ok}
use Rattle.sbe_types.specs.declared.path.Step.{Step}
use Rattle.sbe_types.specs.declared.schema.WireSchema.{WireSchema}
use Rattle.sbe_wire.specs.declared.codes.FCode.{FCode}
use Rattle.sbe_wire.specs.declared.codes.FCode.TheVariants.{ShortHeader, SchemaId, Template, BlockShort, Truncated, Range, EnumUnknown, SetUnknown, TextByte, Count, Length, Trailing}
use Rattle.sbe_wire.specs.Faults.{Fault}
use Rattle.layout_tables.specs.Paths.{IsPathOf, path_text}
use Rattle.body_walk.specs.Heads.{header_template}
use Rattle.refused_items.specs.Refused.{Refused}

-- the code of a fault
abbrev pub fault_code : FCode → List ℕ
fault_code ShortHeader = codes "F01"
fault_code SchemaId = codes "F02"
fault_code Template = codes "F03"
fault_code BlockShort = codes "F04"
fault_code Truncated = codes "F05"
fault_code Range = codes "F06"
fault_code EnumUnknown = codes "F07"
fault_code SetUnknown = codes "F08"
fault_code TextByte = codes "F09"
fault_code Count = codes "F10"
fault_code Length = codes "F11"
fault_code Trailing = codes "F12"

-- the message that the header of a body names, if it names one of the schema's
abbrev pub message_meant : WireSchema → List ℕ → Option ℕ
message_meant schema body = result_ok (header_template schema body)

-- the text of a path of that message; empty without a message
abbrev pub way_text : WireSchema → Option ℕ → List Step → List ℕ
way_text schema None steps = []
way_text schema (Some template) steps = path_text schema template steps

-- the steps lead from the root of that message to one of its parts
abbrev pub IsWay : WireSchema → Option ℕ → List Step → Type 0
IsWay schema None steps = Unit {0}
IsWay schema (Some template) steps = IsPathOf schema template steps

-- the refusal of a fault, where the header names that message
abbrev pub of_fault_in : WireSchema → Option ℕ → Fault → Refused
of_fault_in schema meant fault =
    record { code = fault_code fault.code; offset = Some fault.offset; path = way_text schema meant fault.path; detail = signed_decimal fault.detail }

-- the refusal of a fault of a body
abbrev pub of_fault : WireSchema → List ℕ → Fault → Refused
of_fault schema body fault = of_fault_in schema (message_meant schema body) fault
