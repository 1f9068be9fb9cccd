use Rattle.std.proofs.Common.{◌≡◌, List, Some, take, drop, length, length-drop, arith, sym, ap, ◌∙◌, subst}
use Rattle.structure_rows.specs.declared.row.PlaceRow.{PlaceRow}
use Rattle.level_places.specs.Places.{FirstPlace}
use Rattle.level_places.proofs.Gathering.{first_field, group_cut}
use Rattle.level_places.proofs.places.first_place.Goals as goal

pub returns-in-None-clause-place : goal.returns-in-None-clause-place
returns-in-None-clause-place c = λ s h. first_field s c.args.row c.args.rest.now h c.in-None.is

pub returns-in-Some-clause-shorter : goal.returns-in-Some-clause-shorter
returns-in-Some-clause-shorter c = omega (arith, ap length c.rest_from.ensures, length-drop c.at_most-many.result c.args.rest.now)

pub returns-in-Some-clause-place : goal.returns-in-Some-clause-place
returns-in-Some-clause-place c = λ s h.
    let cut = group_cut s c.args.row c.args.rest.now c.in-Some.many h c.in-Some.is in
    let size : c.at_most-many.result ≡ c.in-Some.many = c.at_most-many.ensures.same cut.0 in
    subst (λ (own : List PlaceRow). FirstPlace s c.args.row.tag (Some own) c.rest_from.result.now) (sym (c.front.ensures ∙ ap (λ n. take n c.args.rest.now) size))
    (subst (FirstPlace s c.args.row.tag (Some (take c.in-Some.many c.args.rest.now))) (sym (c.rest_from.ensures ∙ ap (λ n. drop n c.args.rest.now) size)) cut.1)
