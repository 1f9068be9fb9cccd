-- What the files named in the words contain, or why they are refused.
use Rattle.std.specs.Prelude.{◌≡◌, ◌≤◌, ℕ, suc, nat_lt, Bool, true, false, if◌then◌else◌, Option, Some, None, Result, Ok, Err, List, [], ◌∷◌, ◌++◌, length, ⊤}
use Rattle.std.specs.List.{list_any}
use Rattle.sbe_types.specs.declared.schema.WireSchema.{WireSchema}
use Rattle.sbe_types.specs.declared.tree.Schema.{Schema}
use Rattle.json_elements.specs.Reading.{Reading as Reads}
use Rattle.sbe_schema.specs.Schemas.{schema_of}
use Rattle.schema_rules.specs.Judging.{CheckResult}
use Rattle.schema_rules.specs.Checked.{checked_of}
use Rattle.schema_check.specs.Forms.{SameForm}
use Rattle.dump_lines.specs.Chosen.{has_id}
use Rattle.dump_lines.specs.declared.schemas.Schemas.{Schemas}
use Rattle.schema_files.specs.declared.files.FileRefusal.{FileRefusal}
use Rattle.schema_files.specs.declared.files.FileRefusal.TheVariants.{Absent, TooLong, Unread, Broken, SameId, FormDiffers}
use Rattle.schema_files.specs.declared.files.FileRole.{FileRole}
use Rattle.schema_files.specs.declared.files.FileRole.TheVariants as role
use Rattle.schema_files.specs.declared.files.RefusedFile.{RefusedFile}
use Rattle.json_elements.specs.declared.file.TheConstants.{FILE_LIMIT}

-- ---- one file

-- the schema of a check, or the rule that is broken, with the path of the element that breaks it
abbrev pub in_order : CheckResult WireSchema → Result WireSchema FileRefusal
in_order (Ok schema) = Ok schema
in_order (Err broken) = Err (Broken broken.code broken.path)

-- the check of a tree that was read, or why there is no tree, and where
abbrev pub tree_in_order : Reads Schema → Result WireSchema FileRefusal
tree_in_order (Ok tree) = in_order (checked_of tree)
tree_in_order (Err unread) = Err (Unread unread.cause unread.path)

-- The schema in bytes, or why they are refused: they are read first, and the tree that was read is checked.
abbrev pub schema_in : List ℕ → Result WireSchema FileRefusal
schema_in bytes = tree_in_order (schema_of bytes)

-- The schema of a file, or why the file is refused; it must be there and not too long.
abbrev pub file_schema : Option (List ℕ) → Result WireSchema FileRefusal
file_schema None = Err Absent
file_schema (Some bytes) = if nat_lt FILE_LIMIT (length bytes) then Err TooLong else schema_in bytes

-- a file in this role that is refused for this reason
abbrev pub refused_as : FileRole → FileRefusal → RefusedFile
refused_as role why = record { role = role; why = why }

-- the first file, or one of `many` further ones
abbrev pub IsWithin : ℕ → FileRole → Type 0
IsWithin many role.Schema = ⊤
IsWithin many (role.Also n) = (1 ≤ n) × (n ≤ many)
IsWithin many role.Old = ⊥
IsWithin many role.New = ⊥
IsWithin many role.Map = ⊥
IsWithin many role.From = ⊥
IsWithin many role.To = ⊥

-- one of two files, the older or the newer
abbrev pub IsOfTwo : FileRole → Type 0
IsOfTwo role.Schema = ⊥
IsOfTwo (role.Also n) = ⊥
IsOfTwo role.Old = ⊤
IsOfTwo role.New = ⊤
IsOfTwo role.Map = ⊥
IsOfTwo role.From = ⊥
IsOfTwo role.To = ⊥

-- one of two files, that of the messages that are read or that of those that are written
abbrev pub IsFromTo : FileRole → Type 0
IsFromTo role.Schema = ⊥
IsFromTo (role.Also n) = ⊥
IsFromTo role.Old = ⊥
IsFromTo role.New = ⊥
IsFromTo role.Map = ⊥
IsFromTo role.From = ⊤
IsFromTo role.To = ⊤

-- ---- several schemas

-- only one schema
abbrev pub alone : WireSchema → Schemas
alone schema = record { first = schema; also = [] }

-- the same schemas and one more
abbrev pub with_one : Schemas → WireSchema → Schemas
with_one schemas schema = record { first = schemas.first; also = schemas.also ++ schema ∷ [] }

-- one of the schemas has this id
abbrev pub is_taken : Schemas → ℕ → Bool
is_taken schemas id = list_any (has_id id) (schemas.first ∷ schemas.also)

-- A further schema is accepted, unless an earlier one has its id, or its messages don't begin like those of the first.
pub data Joins (schemas : Schemas) (schema : WireSchema) (judged : Result WireSchema FileRefusal) : Type 0 where
  taken : is_taken schemas schema.id ≡ false → SameForm schemas.first schema → judged ≡ Ok schema → Joins schemas schema judged
  same_id : is_taken schemas schema.id ≡ true → judged ≡ Err SameId → Joins schemas schema judged
  form_differs : is_taken schemas schema.id ≡ false → (SameForm schemas.first schema → ⊥) → judged ≡ Err FormDiffers → Joins schemas schema judged

-- the same for a file, which may be refused itself
abbrev pub JoinsFrom : Schemas → Result WireSchema FileRefusal → Result WireSchema FileRefusal → Type 0
JoinsFrom schemas (Ok schema) judged = Joins schemas schema judged
JoinsFrom schemas (Err why) judged = judged ≡ Err why

-- after a file that is accepted `Next` decides; a refused one ends everything
abbrev pub GoesOn : FileRole → Result WireSchema FileRefusal → (WireSchema → Type 0) → Result Schemas RefusedFile → Type 0
GoesOn role (Ok schema) Next judged = Next schema
GoesOn role (Err why) Next judged = judged ≡ Err (refused_as role why)

-- further files, numbered from `number` on, after schemas that are accepted
abbrev pub JudgesMore : (List ℕ → Option (List ℕ)) → Schemas → ℕ → List (List ℕ) → Result Schemas RefusedFile → Type 0
JudgesMore contents schemas number [] judged = judged ≡ Ok schemas
JudgesMore contents schemas number (name ∷ names) judged =
    (one : Result WireSchema FileRefusal) × JoinsFrom schemas (file_schema (contents name)) one
    × GoesOn (role.Also number) one (λ schema. JudgesMore contents (with_one schemas schema) (suc number) names judged) judged

-- The schemas of a file and of further ones, in the order of the words, or the first file that is refused.
abbrev pub JudgesSchemas : (List ℕ → Option (List ℕ)) → List ℕ → List (List ℕ) → Result Schemas RefusedFile → Type 0
JudgesSchemas contents name also judged = GoesOn role.Schema (file_schema (contents name)) (λ schema. JudgesMore contents (alone schema) 1 also judged) judged
