-- How a refused file is noted, and the status of the run that ends with it.
use Rattle.std.specs.Prelude.{ℕ, List, [], ◌++◌, codes, decimal}
use Rattle.json_elements.specs.declared.refusal.Cause.{Cause}
use Rattle.json_elements.specs.declared.refusal.Cause.TheVariants as cause
use Rattle.json_values.specs.Values.{text_data}
use Rattle.json_values.specs.Plain.{plain_text}
use Rattle.map_types.specs.declared.codes.MCode.{MCode}
use Rattle.map_types.specs.declared.codes.MCode.TheVariants as mapping
use Rattle.schema_rules.specs.declared.codes.CCode.{CCode}
use Rattle.schema_rules.specs.declared.codes.CCode.TheVariants as rule
use Rattle.sbe_base.specs.declared.status.Status.{Status}
use Rattle.sbe_base.specs.declared.status.Status.TheVariants as status
use Rattle.schema_files.specs.declared.files.FileRefusal.{FileRefusal}
use Rattle.schema_files.specs.declared.files.FileRefusal.TheVariants as file
use Rattle.schema_files.specs.declared.files.FileRole.{FileRole}
use Rattle.schema_files.specs.declared.files.FileRole.TheVariants as role
use Rattle.schema_files.specs.declared.files.RefusedFile.{RefusedFile}

-- The name of a file in the notes, by its role.
abbrev pub role_name : FileRole → List ℕ
role_name role.Schema = codes "schema"
role_name (role.Also n) = codes "also" ++ decimal n
role_name role.Old = codes "old"
role_name role.New = codes "new"
role_name role.Map = codes "map"
role_name role.From = codes "from"
role_name role.To = codes "to"

-- The line of a file that is refused with this code at this path.
abbrev pub refused_file : FileRole → List ℕ → List ℕ → List ℕ
refused_file role code path =
    codes "{\"file\":\"" ++ (role_name role ++ (codes "\",\"refused\":\"" ++ (code ++ (codes "\",\"path\":" ++ (plain_text (text_data path) ++ codes "}\n")))))

-- the code for the cause why a file has no schema
abbrev pub cause_code : Cause → List ℕ
cause_code cause.Xml = codes "S01"
cause_code cause.NotJson = codes "S02"
cause_code cause.Shape = codes "S03"
cause_code cause.Missing = codes "S04"
cause_code cause.BadAttribute = codes "S05"
cause_code cause.Limit = codes "S06"

-- the code of a rule that a schema breaks
abbrev pub rule_code : CCode → List ℕ
rule_code rule.DuplicateType = codes "C01"
rule_code rule.UnknownType = codes "C02"
rule_code rule.Float = codes "C03"
rule_code rule.Cycle = codes "C04"
rule_code rule.BadEncoding = codes "C05"
rule_code rule.BadNumber = codes "C06"
rule_code rule.DuplicateValue = codes "C07"
rule_code rule.Offset = codes "C08"
rule_code rule.BlockShort = codes "C09"
rule_code rule.BadHeader = codes "C10"
rule_code rule.BadDimension = codes "C11"
rule_code rule.BadData = codes "C12"
rule_code rule.DuplicateName = codes "C13"
rule_code rule.Order = codes "C14"
rule_code rule.Since = codes "C15"
rule_code rule.EmptyGroup = codes "C16"
rule_code rule.Depth = codes "C17"
rule_code rule.Width = codes "C18"
rule_code rule.Presence = codes "C19"

-- the code for the reason why a file has no mapping
abbrev pub map_code : MCode → List ℕ
map_code mapping.Xml = codes "M01"
map_code mapping.NotJson = codes "M02"
map_code mapping.Shape = codes "M03"
map_code mapping.BadAttribute = codes "M04"
map_code mapping.UnknownReference = codes "M05"
map_code mapping.Duplicate = codes "M06"
map_code mapping.Cycle = codes "M07"
map_code mapping.AmbiguousTag = codes "M08"
map_code mapping.Datatype = codes "M09"
map_code mapping.Limit = codes "M10"

-- The line of a refused file.
abbrev pub why_line : FileRole → FileRefusal → List ℕ
why_line role file.Absent = codes "{\"absent\":\"" ++ (role_name role ++ codes "\"}\n")
why_line role file.TooLong = refused_file role (codes "S06") []
why_line role (file.Unread cause path) = refused_file role (cause_code cause) path
why_line role (file.Broken rule path) = refused_file role (rule_code rule) path
why_line role file.SameId = refused_file role (codes "X01") []
why_line role file.FormDiffers = refused_file role (codes "X02") []
why_line role (file.NoMap code path) = refused_file role (map_code code) path
why_line role (file.NotAnExtension path) = refused_file role (codes "G01") path

-- the same for a file with its role
abbrev pub refusal_line : RefusedFile → List ℕ
refusal_line refused = why_line refused.role refused.why

-- The status after a refused file.
abbrev pub refusal_status : FileRefusal → Status
refusal_status file.Absent = status.NoFile
refusal_status file.TooLong = status.SchemaRefused
refusal_status (file.Unread cause path) = status.SchemaRefused
refusal_status (file.Broken rule path) = status.SchemaRefused
refusal_status file.SameId = status.SchemaRefused
refusal_status file.FormDiffers = status.SchemaRefused
refusal_status (file.NoMap code path) = status.MapRefused
refusal_status (file.NotAnExtension path) = status.SchemaRefused
