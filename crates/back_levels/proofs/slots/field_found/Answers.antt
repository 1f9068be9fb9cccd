use Rattle.std.proofs.Common.{◌≡◌, sym, ap, ◌∙◌, subst}
use Rattle.std.proofs.lemmas.Option.{same_Some}
use Rattle.sbe_types.specs.declared.schema.Field.{Field}
use Rattle.sbe_types.specs.declared.schema.Level.{out-Level}
use Rattle.id_tables.specs.Places.{place_of}
use Rattle.bridge_plan.specs.Mappings.{Mapping}
use Rattle.bridge_plan.specs.Covers.{field_slot}
use Rattle.bridge_cover.specs.Kinds.{HasKind}
use Rattle.bridge_cover.specs.Tables.{AreTables}
use Rattle.bridge_cover.proofs.Kinded.{field_kinds}
use Rattle.plan_rows.specs.Found.{field_slot_by}
use Rattle.plan_rows.proofs.Finding.{field_placed, field_unplaced, held_at}
use Rattle.plan_rows.proofs.Ruling.{if_ok}
use Rattle.back_levels.specs.Found.{IsFound}
use Rattle.back_levels.proofs.slots.field_found.Goals as goal

pub field_row-requires : goal.field_row-requires
field_row-requires c =
    record { order = held_at HasKind (out-Level c.args.level.now).fields c.in-Some.i c.at.result.now (field_kinds c.args.level.now c.requires.order) c.at.ensures }

pub returns-in-None : goal.returns-in-None
returns-in-None c = λ m h.
    field_unplaced m c.args.tag (out-Level c.args.level.now).fields (sym (c.place.ensures.is ∙ ap (place_of c.args.tag) c.requires.ids.fields) ∙ c.in-None.is)

pub returns-in-Some : goal.returns-in-Some
returns-in-Some c =
    let tag = c.args.tag in
    let i = c.in-Some.i in
    let fields = (out-Level c.args.level.now).fields in
    if_ok c.field_row.result (λ found. (m : Mapping) → AreTables m c.args.tables.now → IsFound (field_slot_by m tag i c.at.result.now.kind) found)
    (λ found. (m : Mapping) → AreTables m c.args.tables.now → IsFound (field_slot m tag 0 fields) found)
    (λ found is m h.
    let own = field_placed m tag i fields (sym (c.place.ensures.is ∙ ap (place_of tag) c.requires.ids.fields) ∙ c.in-Some.is) in
    let same : own.0 ≡ c.at.result.now = same_Some own.0 c.at.result.now (sym own.1 ∙ c.at.ensures) in
    subst (λ o. IsFound o found) (sym (own.2 ∙ ap (λ (f : Field). field_slot_by m tag i f.kind) same)) (is m h))
    c.field_row.ensures
