-- Which of a run's schemas a body is read by. Own profile.
use Rattle.std.specs.Prelude.{ℕ, ◌==◌, Bool, List, ◌∷◌, find, codes, unwrap_or}
use Rattle.std.specs.Option.{option_map_or}
use Rattle.sbe_types.specs.declared.schema.WireSchema.{WireSchema}
use Rattle.layout_tables.specs.Heads.{header_number}
use Rattle.dump_lines.specs.declared.schemas.Schemas.{Schemas}

-- the schema has this id
abbrev pub has_id : ℕ → WireSchema → Bool
has_id id schema = schema.id == id

-- the first schema with this id, or the first of all if none has it
abbrev pub schema_with : Schemas → ℕ → WireSchema
schema_with schemas id = unwrap_or (find (has_id id) (schemas.first ∷ schemas.also)) schemas.first

-- The schema whose id a body's header has; the first of all if the body is shorter than a header or no schema has the
-- id.
abbrev pub schema_for : Schemas → List ℕ → WireSchema
schema_for schemas body = option_map_or (schema_with schemas) (header_number schemas.first (codes "schemaId") body) schemas.first
