use Rattle.std.proofs.Common.{◌≡◌, ◌<◌, ℕ, List, Some, None, get_or, length, sym, ap, subst, ◌∙◌}
use Rattle.std.specs.Prelude.{option_map}
use Rattle.structure_rows.specs.declared.row.PlaceRow.{PlaceRow}
use Rattle.structure_rows.specs.Rows.{rows_of}
use Rattle.level_places.specs.Places.{lent_rows, FirstPlace, Gathers}
use Rattle.level_places.proofs.Gathering.{gathered_group, all_gathered, first_and_rest, lent_pushed}
use Rattle.level_places.proofs.places.LevelPlaces.new.Goals as goal

pub rows-preserved : goal.rows-preserved
rows-preserved c = λ s h.
    let q = c.rows.invariant s h in
    let none : PlaceRow = record { tag = 0; entries = None } in
    let tag : ℕ = (get_or c.rows.left.now 0 none).tag in
    let place = c.first_place.ensures.place q.0 (first_and_rest none c.rows.left.now c.in-len1-up.len_at_least ∙ q.1) in
    let own : option_map (λ rows. rows.now) c.first_place.result.0 ≡ Some c.in-Some.own.now = ap (option_map (λ rows. rows.now)) c.in-Some.is in
    let g = gathered_group s q.0 tag c.first_place.result.1.now c.rows.fields c.rows.groups (lent_rows c.rows.entries.items) q.2 c.in-Some.own.now
    (subst (λ (o : _). FirstPlace q.0 tag o c.first_place.result.1.now) own place) in (
      g.0,
      g.1,
      subst (λ (groups : List _). Gathers s g.0 c.rows.fields groups (lent_rows c.push-in-Some-2.new.self.items)) (sym c.in_ok-push-in-Some.ensures.ok)
          (subst (Gathers s g.0 c.rows.fields _) (sym (lent_pushed c.push-in-Some-2.new.self.items c.rows.entries.items c.in-Some.own c.in_ok-push-in-Some-2.ensures.items)) g.2),
    )

pub returns : goal.returns
returns c = λ s h.
    let q = c.rows.invariant s h in
    let none : length (rows_of q.0) < 1 = subst (λ (rows : List PlaceRow). length rows < 1) q.1 c.in_default.len_below in
    let all = all_gathered s q.0 c.rows.fields c.rows.groups (lent_rows c.rows.entries.items) q.2 none in
    record { fields = c.in_ok-new.ensures ∙ all.0; groups = c.in_ok-new-2.ensures ∙ all.1; entries = all.2 }
