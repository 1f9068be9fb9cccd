use Rattle.std.proofs.Common.{◌≡◌, ◌<◌, List, Some, map, length, refl, sym, ap, subst, ◌∙◌, arith}
use Rattle.std.specs.Prelude.{slice_get}
use Rattle.std.proofs.lemmas.List.{length-map}
use Rattle.std.proofs.lemmas.Option.{slice_get_read}
use Rattle.id_tables.specs.Places.{name_place}
use Rattle.map_types.specs.declared.tree.CodeEl.{CodeEl}
use Rattle.bridge_table.proofs.NamedTexts.{none_named, text_found}
use Rattle.bridge_table.proofs.datatype.CodeTable.text_named.Goals as goal

pub returns-in-None : goal.returns-in-None
returns-in-None c =
    none_named c.args.name.now 0 c.args.self.now
    (sym (c.place.ensures.is ∙ ap (name_place c.args.name.now) (c.self.invariant.0 ∙ ap (map (λ (x : CodeEl). x.name)) c.self.view_is)) ∙ c.in-None.is)

pub returns-in-Some : goal.returns-in-Some
returns-in-Some c =
    let own : CodeEl = c.index-self-i.result in
    let elements : List CodeEl = c.self.inside.elements.now in
    let many : length c.self.inside.names ≡ length elements = ap length c.self.invariant.0 ∙ length-map elements (λ (x : CodeEl). x.name) in
    let lt : c.in-Some.i < length c.self.inside.names = c.in-Some.ensures.within in
    let within : c.in-Some.i < length elements = omega arith in
    text_found c.args.name.now c.in-Some.i c.args.self.now
    (sym (c.place.ensures.is ∙ ap (name_place c.args.name.now) (c.self.invariant.0 ∙ ap (map (λ (x : CodeEl). x.name)) c.self.view_is)) ∙ c.in-Some.is)
    own
    (subst (λ (es : List CodeEl). slice_get es c.in-Some.i ≡ Some own) c.self.view_is (slice_get_read elements (length elements) c.in-Some.i own refl within c.index-self-i.is))
    ∙ ap (λ (x : CodeEl). Some x.value) c.index-self-i.is
    ∙ ap Some (sym c.as_slice.ensures)
