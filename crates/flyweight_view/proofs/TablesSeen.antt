-- Blocks that are seen, by the table of their level's fields.
use Rattle.std.proofs.Common.{◌≡◌, List, length, refl, sym, ap, ◌∙◌, subst, arith}
use Rattle.std.specs.Prelude.{slice_get, Option, Some, None, IfSome}
use Rattle.std.specs.Option.{IsSome}
use Rattle.sbe_types.specs.Places.{field_place}
use Rattle.schema_facts.specs.Levels.{fields_at, fields_in}
use Rattle.sbe_types.specs.declared.schema.Level.{Level, out-Level}
use Rattle.sbe_wire.specs.Lays.{FieldsLay}
use Rattle.flat_rows.specs.BlockChecks.{AllAlive}
use Rattle.flat_rows.specs.Scalars.{scalars_of}
use Rattle.flat_rows.specs.Tables.{stands_for, IsTable, RowsFit}
use Rattle.layout_tables.specs.declared.rows.FieldRow.{FieldRow}
use Rattle.layout_tables.specs.declared.rows.LevelRow.{LevelRow}
use Rattle.layout_tables.specs.Rowed.{RowFor}
use Rattle.layout_tables.proofs.Told.{place_told}
use Rattle.body_walk.specs.inner.Fields.{AreFieldRows}
use Rattle.flyweight_view.specs.declared.by_table.TableBlock.{TableBlock}
use Rattle.flyweight_view.specs.declared.plan.Plan.{Plan}
use Rattle.flyweight_view.specs.declared.plan.Plan.TheVariants as plan
use Rattle.flyweight_view.specs.declared.plan.Span.{Span}
use Rattle.body_walk.specs.inner.Blocks.{IsBlockRow}
use Rattle.flyweight_view.specs.inner.Blocks.{IsRowBlock}
use Rattle.flyweight_view.specs.ByTable.{IsFieldAt, IsTableBlock}
use Rattle.flyweight_view.specs.inner.Planned.{fields_of, typed_at, values_at, IsPlannedBlock}
use Rattle.body_walk.proofs.Alive.{all_alive}
use Rattle.flyweight_view.proofs.FieldsAt.{field_at, GivePlaces, HasRows}
use Rattle.flyweight_view.proofs.SlotsTold.{fields_lie, long_bytes}
use Rattle.body_walk.proofs.BlockRows.{block_row, block_fits}

-- what holds of each lent thing
pub some_then : {A : Type 0} (P Q : A → Type 0) (o : Option A) → ((x : A) → P x → Q x) → IfSome o P → IfSome o Q
some_then P Q None f h = tt
some_then P Q (Some x) f h = f x h

-- the row is that of a plan's level
abbrev pub RowOf : Plan → LevelRow → Type 0
RowOf (plan.Level layout number level) row = RowFor layout.now number row
RowOf (plan.Members members) row = ⊥

shown_by : (s : Span) (p : Plan) (level : Level) (row : LevelRow) (b : TableBlock) → IsPlannedBlock s p → IsBlockRow s.mode.version s.size level row → fields_of p ≡ (out-Level level).fields →
    GivePlaces (fields_of p) row.fields.items → IsRowBlock s row b → IsTableBlock b (typed_at s p)
shown_by s p level row b seen is fields places lent =
    let fs = (out-Level level).fields in
    let alive = all_alive s.mode.version fs (omega (arith, lent.newest, is.newest_is)) in
    let long = ap length lent.bytes_are ∙ long_bytes s p seen in
    let shown = fields_lie s p seen in
    let has : HasRows s p row.fields.items = record {
      seen = seen;
      little = lent.order;
      alive = subst (AllAlive s.mode.version) (sym fields) alive;
      are = subst (λ fs. AreFieldRows s.mode.version s.size fs row.fields.items) (sym fields) is.rows;
      places = places;
    } in
    record {
      table_is = subst IsTable (sym lent.table_is) is.flat_is.table_is;
      stands = ap stands_for lent.table_is ∙ is.flat_is.stands
          ∙ ap scalars_of (sym fields);
      fits = subst (λ t. RowsFit (length b.bytes.now) t.rows.items) (sym lent.table_is) (subst (λ k. RowsFit k row.flat.rows.items) (sym long) (block_fits s.mode.version s.size level row is lent.newest));
      placed = seen.placed;
      version = s.mode.version;
      known = s.mode.known;
      alive = subst (AllAlive s.mode.version) (sym fields) alive;
      lay = subst (λ o. FieldsLay (record { order = o; known = s.mode.known; version = s.mode.version }) 0 (fields_of p) (values_at s p) b.bytes.now) lent.order
          (subst (λ bs. FieldsLay s.mode 0 (fields_of p) (values_at s p) bs) (sym lent.bytes_are) shown);
      fields_at = λ i r there moves.
          subst (λ block. IsFieldAt (typed_at s p) i r block) (sym lent.bytes_are)
          (field_at s p row.fields.items has i r (ap (λ (rows : List FieldRow). slice_get rows i) (sym lent.fields_are) ∙ there) moves);
    }

pub level_shown : (s : Span) (p : Plan) (row : LevelRow) → IsPlannedBlock s p → RowOf p row → (b : TableBlock) → IsRowBlock s row b → IsTableBlock b (typed_at s p)
level_shown s (plan.Members members) row seen of b lent = absurd of
level_shown s (plan.Level layout number level) row seen of b lent =
    let is = block_row layout.now number row level.now s.mode.version s.size seen.plan_is.ready of seen.plan_is.level_is seen.reaches in
    let own : fields_at layout.now number ≡ (out-Level level.now).fields = ap fields_in seen.plan_is.level_is in
    let places : GivePlaces (out-Level level.now).fields row.fields.items = λ i r there some.
    ap (λ fs. field_place 0 fs i) (sym own) ∙ place_told layout.now number i row r of there (subst (λ fs. IsSome (field_place 0 fs i)) (sym own) some) in
    shown_by s (plan.Level layout number level) level.now row b seen is refl places lent
