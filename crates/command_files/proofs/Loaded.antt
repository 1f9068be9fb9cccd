-- The one file of a command is loaded.
use Rattle.std.proofs.Common.{◌≡◌, ℕ, List, Option, Result, Ok, Err, refl, sym, ap, ◌∙◌}
use Rattle.sbe_types.specs.declared.schema.WireSchema.{WireSchema}
use Rattle.schema_facts.specs.IsChecked.{IsChecked}
use Rattle.schema_files.specs.FileChecks.{file_schema}
use Rattle.schema_files.specs.Files.{LoadsChecked, stop_of}
use Rattle.command_files.specs.Files.{FilesOf, LoadsFiles, in_role, JudgesFile}
use Rattle.schema_files.specs.declared.files.FileRefusal.{FileRefusal}
use Rattle.schema_files.specs.declared.files.FileRole.{FileRole}
use Rattle.schema_files.specs.declared.files.RefusedFile.{RefusedFile}
use Rattle.schema_files.specs.declared.files.LoadStop.{LoadStop}
use Rattle.schema_files.specs.declared.files.LoadStop.TheVariants.{Refused, Fault, NoMemory}
use Rattle.schema_files.proofs.Judging.{file_checked}

module _ (told : Option (List ℕ → Option (List ℕ))) (name : List ℕ) (at : FileRole) (IsRole : FileRole → Type 0) (IsGood : WireSchema → Type 0) where
  abbrev pub one_file : FilesOf WireSchema
  one_file = record { AreJudged = JudgesFile at name; IsRole = IsRole; AreGood = IsGood }

  pub file_loaded : (schema : WireSchema) → IsGood schema → LoadsChecked told name (Ok schema) → LoadsFiles one_file told (Ok schema)
  file_loaded schema good h = record { judges = λ contents same. sym (ap (in_role at) (h contents same)); fails = tt; good = good }

  pub file_stopped : (why : LoadStop) → IsRole at → LoadsChecked told name (Err why) → LoadsFiles one_file told (Err (stop_of at why))
  file_stopped (Refused why) is h = record { judges = λ contents same. sym (ap (in_role at) (h contents same)); fails = tt; good = tt }
  file_stopped Fault is h = record { judges = λ contents same. tt; fails = is; good = tt }
  file_stopped NoMemory is h = record { judges = λ contents same. tt; fails = tt; good = tt }

-- what a file is judged as is a checked schema
pub judged_checked : (at : FileRole) (file : Option (List ℕ)) (schema : WireSchema) → Ok schema ≡ in_role at (file_schema file) → IsChecked schema
judged_checked at file schema h = by (file_schema file) refl h
  where
    by : (r : Result WireSchema FileRefusal) → file_schema file ≡ r → Ok schema ≡ in_role at r → IsChecked schema
    by (Ok s) e k = file_checked file schema (e ∙ ok_is k)
      where
        ok_is : ◌≡◌ {A = Result WireSchema RefusedFile} (Ok schema) (Ok s) → ◌≡◌ {A = Result WireSchema FileRefusal} (Ok s) (Ok schema)
        ok_is q = let same : s ≡ schema = cc in ap Ok same
    by (Err why) e k = cc
