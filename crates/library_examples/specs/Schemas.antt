-- What is reported of a schema file.
use Rattle.std.specs.Prelude.{◌≡◌, ℕ, List, Ok, Err, ⊤}
use Rattle.sbe_types.specs.declared.schema.WireSchema.{WireSchema}
use Rattle.sbe_types.specs.declared.tree.Schema.{Schema}
use Rattle.sbe_schema.specs.Schemas.{Answers, schema_of}
use Rattle.schema_rules.specs.Checked.{checked_of}
use Rattle.schema_rules.specs.Judging.{Gives}
use Rattle.library_examples.specs.declared.schemas.LoadErr.{LoadErr}
use Rattle.library_examples.specs.declared.schemas.LoadErr.TheVariants.{File, Rule, Memory}

-- The file has the elements of a schema, and this is the schema that they stand for.
pub record IsLoaded (file : List ℕ) (schema : WireSchema) : Type 0 where
  pub elements : Schema
  pub read : schema_of file ≡ Ok elements
  pub checked : checked_of elements ≡ Ok schema

-- the first fault of the file, or the first rule that its schema breaks; nothing is required when out of memory
abbrev pub IsNotLoaded : List ℕ → LoadErr → Type 0
IsNotLoaded file (File e) = Answers (Err e) (schema_of file)
IsNotLoaded file (Rule e) = (elements : Schema) × (schema_of file ≡ Ok elements) × Gives {X = WireSchema} (Err e) (checked_of elements)
IsNotLoaded file Memory = ⊤
