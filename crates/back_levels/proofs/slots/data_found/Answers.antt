use Rattle.std.proofs.Common.{◌≡◌, sym, ap, ◌∙◌, subst}
use Rattle.std.proofs.lemmas.Option.{same_Some}
use Rattle.sbe_types.specs.declared.schema.Level.{out-Level}
use Rattle.id_tables.specs.Places.{place_of}
use Rattle.plan_rows.specs.Found.{data_slot_by}
use Rattle.plan_rows.proofs.Finding.{data_placed, data_unplaced}
use Rattle.back_levels.specs.Found.{IsFound}
use Rattle.back_levels.proofs.slots.data_found.Goals as goal

pub returns-in-None : goal.returns-in-None
returns-in-None c = λ m h.
    data_unplaced m c.args.tag (out-Level c.args.level.now).parts (sym (c.place.ensures.is ∙ ap (place_of c.args.tag) c.requires.ids.parts) ∙ c.in-None.is)

pub returns-in-Some : goal.returns-in-Some
returns-in-Some c = λ m h.
    let tag = c.args.tag in
    let i = c.in-Some.i in
    let own = data_placed m tag i (out-Level c.args.level.now).parts (sym (c.place.ensures.is ∙ ap (place_of tag) c.requires.ids.parts) ∙ c.in-Some.is) in
    let same : own.0 ≡ c.at.result.now = same_Some own.0 c.at.result.now (sym own.1 ∙ c.at.ensures) in
    subst (λ o. IsFound o c.data_row.result) (sym (own.2 ∙ ap (data_slot_by m tag i) same)) (c.data_row.ensures m h)
