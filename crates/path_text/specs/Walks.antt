-- The position of the writer of a path in the schema.
use Rattle.std.specs.Prelude.{ℕ, List, [], Option, Some, None}
use Rattle.path_text.specs.declared.paths.Place.{Place}
use Rattle.path_text.specs.declared.paths.Place.TheVariants as place
use Rattle.layout_tables.specs.Paths.{Inside, in_level, in_group, in_kind, in_nothing, Stepped}

-- the position that is lent
abbrev pub inside_of : Place → Inside
inside_of (place.Level level) = in_level level.now
inside_of (place.Group level) = in_group level.now
inside_of (place.Kind kind) = in_kind kind.now
inside_of place.Nothing = in_nothing

-- the text of a step that leads somewhere, or nothing
abbrev pub step_text : Option Stepped → List ℕ
step_text None = []
step_text (Some s) = s.text
