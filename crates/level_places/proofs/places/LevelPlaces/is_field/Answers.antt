use Rattle.std.proofs.Common.{is_some, ap, ◌∙◌}
use Rattle.id_tables.specs.Places.{place_of}
use Rattle.level_places.proofs.Gathering.{field_placed}
use Rattle.level_places.proofs.places.LevelPlaces.is_field.Goals as goal

pub returns : goal.returns
returns c = λ s h. c.is_some.ensures ∙ ap is_some (c.place.ensures.is ∙ ap (place_of c.args.tag) h.fields) ∙ field_placed c.args.tag s
