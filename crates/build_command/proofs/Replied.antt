-- `build` has one reply to each line.
use Rattle.std.proofs.Common.{◌≡◌, ℕ, List, [], ◌∷◌, Option, Some, None, Result, Ok, Err, refl, sym, ap, ◌∙◌}
use Rattle.sbe_types.specs.declared.schema.WireSchema.{WireSchema}
use Rattle.sbe_types.specs.declared.message.Msg.{Msg}
use Rattle.sbe_wire.specs.Misfit.{Misfit, misfit}
use Rattle.line_values.specs.Refusals.{Refusal}
use Rattle.line_reading.specs.Lines.{tree_of}
use Rattle.schema_facts.specs.IsChecked.{IsChecked}
use Rattle.schema_files.specs.FileChecks.{file_schema}
use Rattle.command_files.specs.Files.{in_role}
use Rattle.schema_files.specs.declared.files.FileRole.TheVariants as role
use Rattle.schema_files.specs.declared.files.RefusedFile.{RefusedFile}
use Rattle.command_files.proofs.Loaded.{judged_checked}
use Rattle.command_steps.specs.Replies.{HasParts, by_lines, no_line}
use Rattle.command_steps.proofs.Folding.{AnswersOnce, lines_once}
use Rattle.command_steps.proofs.Told.{answered_parts, refused_parts}
use Rattle.build_command.specs.Build.{body_limit, message_reply, read_reply, built_reply}
use Rattle.build_command.specs.Builds.{Building, IsBuildReply, JudgesBuild, built_for}
use Rattle.build_command.proofs.Building.{is_built, built_once}

pub build_answers : (building : Building) (input : ℕ) → IsChecked building.schema → AnswersOnce (by_lines input no_line (IsBuildReply building))
build_answers building input checked = lines_once input no_line (IsBuildReply building)
    (λ kept line. (built_reply building.schema building.frame kept.items line, is_built building.schema building.frame kept.items line checked))
    (λ kept line a b h k. built_once building.schema building.frame kept.items line a b h k)

-- the schema of a build is a checked one
pub build_checked : (name : List ℕ) (frame : ℕ) (contents : List ℕ → Option (List ℕ)) (building : Building) → JudgesBuild name frame contents (Ok building) → IsChecked building.schema
build_checked name frame contents building h = by (in_role role.Schema (file_schema (contents name))) refl h
  where
    by : (r : Result WireSchema RefusedFile) → in_role role.Schema (file_schema (contents name)) ≡ r → Ok building ≡ built_for frame r → IsChecked building.schema
    by (Ok schema) e k = judged_checked role.Schema (contents name) building.schema (ok_is k ∙ sym e)
      where
        schema_of : Result Building RefusedFile → Result WireSchema RefusedFile
        schema_of (Ok b) = Ok b.schema
        schema_of (Err f) = Err f

        ok_is : ◌≡◌ {A = Result Building RefusedFile} (Ok building) (Ok (record { schema = schema; frame = frame })) → ◌≡◌ {A = Result WireSchema RefusedFile} (Ok building.schema) (Ok schema)
        ok_is q = ap schema_of q
    by (Err file) e k = cc

-- ---- it counts no parts

message_parts : (bytes : ℕ) (schema : WireSchema) (item : ℕ) (m : Msg) (why : Option Misfit) → HasParts bytes (message_reply schema item m why).verdict
message_parts bytes schema item m None = answered_parts bytes
message_parts bytes schema item m (Some why) = refused_parts bytes

read_parts : (bytes : ℕ) (schema : WireSchema) (frame item : ℕ) (read : Result Msg Refusal) → HasParts bytes (read_reply schema frame item read).verdict
read_parts bytes schema frame item (Ok m) = message_parts bytes schema item m (misfit schema m (body_limit frame))
read_parts bytes schema frame item (Err why) = refused_parts bytes

pub built_parts : (bytes : ℕ) (schema : WireSchema) (frame item : ℕ) (line : List ℕ) → HasParts bytes (built_reply schema frame item line).verdict
built_parts bytes schema frame item [] = answered_parts bytes
built_parts bytes schema frame item (b ∷ line) = read_parts bytes schema frame item (tree_of schema (b ∷ line))
