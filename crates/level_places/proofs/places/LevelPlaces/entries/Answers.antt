use Rattle.std.proofs.Common.{sym, ap, ◌∙◌}
use Rattle.std.specs.Prelude.{slice_get}
use Rattle.id_tables.specs.Places.{place_of}
use Rattle.level_places.specs.Places.{lent_rows}
use Rattle.level_places.proofs.Gathering.{inner_placed, inner_unplaced, told_inner}
use Rattle.level_places.proofs.places.LevelPlaces.entries.Goals as goal

pub returns-in-None : goal.returns-in-None
returns-in-None c = λ s h. inner_unplaced c.args.tag s (ap (place_of c.args.tag) (sym h.groups) ∙ sym c.place.ensures.is ∙ c.in-None.is)

pub returns-in-Some : goal.returns-in-Some
returns-in-Some c = λ s h.
    let placed = inner_placed c.args.tag c.in-Some.i s (ap (place_of c.args.tag) (sym h.groups) ∙ sym c.place.ensures.is ∙ c.in-Some.is) in
    told_inner c.rows_at.result (slice_get (lent_rows c.as_slice.result.now) c.in-Some.i) c.rows_at.ensures c.args.tag s placed.0 placed.1
    (ap (λ es. slice_get (lent_rows es) c.in-Some.i) c.as_slice.ensures.value ∙ ap (λ es. slice_get es c.in-Some.i) h.entries ∙ placed.2)
