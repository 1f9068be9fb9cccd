-- The numbers that C sees.
use Rattle.std.specs.Prelude.{ℕ}
use Rattle.json_elements.specs.declared.refusal.Cause.{Cause}
use Rattle.json_elements.specs.declared.refusal.Cause.TheVariants as cause
use Rattle.schema_rules.specs.declared.codes.CCode.{CCode}
use Rattle.schema_rules.specs.declared.codes.CCode.TheVariants as rule
use Rattle.sbe_wire.specs.declared.codes.FCode.{FCode}
use Rattle.sbe_wire.specs.declared.codes.FCode.TheVariants as fault
use Rattle.sbe_wire.specs.declared.codes.NCode.{NCode}
use Rattle.sbe_wire.specs.declared.codes.NCode.TheVariants as misfit
use Rattle.line_values.specs.declared.refusals.JCode.{JCode}
use Rattle.line_values.specs.declared.refusals.JCode.TheVariants as line
use Rattle.field_values.specs.declared.state.FieldState.{FieldState}
use Rattle.field_values.specs.declared.state.FieldState.TheVariants as state
use Rattle.sbe_c.specs.declared.answers.Answer.{Answer}
use Rattle.sbe_c.specs.declared.answers.Answer.TheVariants.{Done, Closed, Memory, File, Rule, Body, Room, Absent, Line, Misfit}

-- the number of an answer
abbrev pub answer_code : Answer → ℕ
answer_code Done = 0
answer_code Closed = 1
answer_code Memory = 2
answer_code File = 3
answer_code Rule = 4
answer_code Body = 5
answer_code Room = 6
answer_code Absent = 7
answer_code Line = 8
answer_code Misfit = 9

-- the number in the code of a refused file: 1 of S01
abbrev pub cause_number : Cause → ℕ
cause_number cause.Xml = 1
cause_number cause.NotJson = 2
cause_number cause.Shape = 3
cause_number cause.Missing = 4
cause_number cause.BadAttribute = 5
cause_number cause.Limit = 6

-- the number in the code of a broken rule: 1 of C01
abbrev pub rule_number : CCode → ℕ
rule_number rule.DuplicateType = 1
rule_number rule.UnknownType = 2
rule_number rule.Float = 3
rule_number rule.Cycle = 4
rule_number rule.BadEncoding = 5
rule_number rule.BadNumber = 6
rule_number rule.DuplicateValue = 7
rule_number rule.Offset = 8
rule_number rule.BlockShort = 9
rule_number rule.BadHeader = 10
rule_number rule.BadDimension = 11
rule_number rule.BadData = 12
rule_number rule.DuplicateName = 13
rule_number rule.Order = 14
rule_number rule.Since = 15
rule_number rule.EmptyGroup = 16
rule_number rule.Depth = 17
rule_number rule.Width = 18
rule_number rule.Presence = 19

-- the number in the code of a body's fault: 1 of F01
abbrev pub fault_number : FCode → ℕ
fault_number fault.ShortHeader = 1
fault_number fault.SchemaId = 2
fault_number fault.Template = 3
fault_number fault.BlockShort = 4
fault_number fault.Truncated = 5
fault_number fault.Range = 6
fault_number fault.EnumUnknown = 7
fault_number fault.SetUnknown = 8
fault_number fault.TextByte = 9
fault_number fault.Count = 10
fault_number fault.Length = 11
fault_number fault.Trailing = 12

-- the number in the code of a line's refusal: 1 of J01
abbrev pub line_number : JCode → ℕ
line_number line.NotJson = 1
line_number line.Shape = 2
line_number line.UnknownName = 3
line_number line.Kind = 4

-- the number in the code of a message's misfit: 1 of N01
abbrev pub misfit_number : NCode → ℕ
misfit_number misfit.Range = 1
misfit_number misfit.EnumUnknown = 2
misfit_number misfit.SetUnknown = 3
misfit_number misfit.TextByte = 4
misfit_number misfit.Kind = 5
misfit_number misfit.Count = 6
misfit_number misfit.Length = 7
misfit_number misfit.Full = 8
misfit_number misfit.Shape = 9

-- the number of a field's state
abbrev pub state_number : FieldState → ℕ
state_number state.Here = 0
state_number state.Null = 1
state_number state.Absent = 2
state_number state.Const = 3
