use Rattle.std.proofs.Common.{◌≡◌, ◌<◌, length, refl, sym, ap, ◌∙◌, subst, arith}
use Rattle.std.specs.Option.{option_map, IsSome}
use Rattle.std.proofs.lemmas.Option.{slice_get_read}
use Rattle.sbe_types.specs.declared.schema.Field.{Field}
use Rattle.sbe_types.specs.declared.schema.Level.{out-Level}
use Rattle.sbe_types.specs.Places.{field_place}
use Rattle.schema_facts.specs.Levels.{fields_at, fields_in}
use Rattle.layout_tables.proofs.Told.{fields_there, place_there, place_told}
use Rattle.body_walk.proofs.FieldsTold.{rows_ready}
use Rattle.body_walk.proofs.LevelsReady.{level_ready, row_fields}
use Rattle.body_walk.proofs.Opens.{level_within}
use Rattle.flyweight_view.proofs.SlotsTold.{row_here}
use Rattle.flyweight_view.proofs.plan.field_row.Goals as goal

pub row-row-requires : goal.row-row-requires
row-row-requires c = level_within c.args.layout.now c.args.number c.args.level.now c.requires.plan.level_is

pub index-requires : goal.index-requires
index-requires c =
    let own : fields_at c.args.layout.now c.args.number ≡ (out-Level c.args.level.now).fields = ap fields_in c.requires.plan.level_is in
    omega (arith, c.requires.field, ap length own, fields_there c.args.layout.now c.args.number c.row-row.result.now c.row-row.ensures)

pub returns-clause-row : goal.returns-clause-row
returns-clause-row c = λ f at.
    let schema = c.args.layout.now in
    let n = c.args.number in
    let row = c.row-row.result.now in
    let fields = (out-Level c.args.level.now).fields in
    let known = level_ready schema n c.args.level.now c.requires.plan.ready c.requires.plan.level_is in
    let own : fields_at schema n ≡ fields = ap fields_in c.requires.plan.level_is in
    let there : c.args.i < length row.fields.items = omega (arith, c.requires.field, ap length own, fields_there schema n row c.row-row.ensures) in
    let all = rows_ready c.args.span.now.mode.version c.args.span.now.size fields row.fields.items (row_fields schema n row c.args.level.now c.row-row.ensures c.requires.plan.level_is) known.placed known.ready c.requires.reaches in
    row_here c.args.span.now.mode.version c.args.span.now.size c.args.i fields row.fields.items f c.index.result.now all at (slice_get_read row.fields.items _ c.args.i c.index.result.now refl there c.index.ensures)

pub returns-clause-place : goal.returns-clause-place
returns-clause-place c = λ f at moves.
    let schema = c.args.layout.now in
    let n = c.args.number in
    let row = c.row-row.result.now in
    let fields = (out-Level c.args.level.now).fields in
    let own : fields_at schema n ≡ fields = ap fields_in c.requires.plan.level_is in
    let there : c.args.i < length row.fields.items = omega (arith, c.requires.field, ap length own, fields_there schema n row c.row-row.ensures) in
    let some : IsSome (field_place 0 fields c.args.i) = place_there fields c.args.i f.kind (ap (option_map (λ (f : Field). f.kind)) at) moves in
    ap (λ fs. field_place 0 fs c.args.i) (sym own)
    ∙ place_told schema n c.args.i row c.index.result.now c.row-row.ensures (slice_get_read row.fields.items _ c.args.i c.index.result.now refl there c.index.ensures)
    (subst (λ fs. IsSome (field_place 0 fs c.args.i)) (sym own) some)
