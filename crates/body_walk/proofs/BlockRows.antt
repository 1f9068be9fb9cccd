-- Blocks of a level by its row, and by the table of its fields.
use Rattle.std.proofs.Common.{◌≡◌, ◌≤◌, ◌+◌, ℕ, List, length, take, drop, Ok, refl, sym, ap, ◌∙◌, subst, arith, length-take-le, length-drop}
use Rattle.std.specs.Prelude.{Some}
use Rattle.sbe_types.specs.declared.schema.Field.{Field}
use Rattle.sbe_types.specs.declared.schema.Level.{Level, out-Level}
use Rattle.sbe_types.specs.declared.schema.WireSchema.{WireSchema}
use Rattle.sbe_wire.specs.Placed.{ArePlaced}
use Rattle.sbe_wire.specs.Versions.{floor}
use Rattle.sbe_wire.proofs.Blocks.{fields_judges}
use Rattle.schema_facts.specs.Levels.{level_at}
use Rattle.flat_rows.specs.BlockChecks.{AllAlive, ScalarsShow}
use Rattle.flat_rows.specs.Scalars.{scalars_of}
use Rattle.flat_rows.specs.Tables.{RowsFit}
use Rattle.flat_rows.proofs.ValuesFit.{table_fits}
use Rattle.flat_rows.proofs.ValuesShow.{block_shown}
use Rattle.layout_tables.specs.declared.rows.FieldRow.{FieldRow}
use Rattle.layout_tables.specs.declared.rows.LevelRow.{LevelRow}
use Rattle.layout_tables.specs.Flats.{IsFlat}
use Rattle.layout_tables.specs.Rowed.{RowFor, FieldsAre, newest_of}
use Rattle.sbe_wire.specs.declared.mode.Mode.{Mode}
use Rattle.body_walk.specs.inner.Blocks.{IsBlockRow, ShowsEach}
use Rattle.body_walk.specs.inner.Cursor.{skim, entries_read}
use Rattle.body_walk.specs.inner.Fields.{fields_check}
use Rattle.body_walk.specs.inner.Ready.{IsReadySchema}
use Rattle.body_walk.specs.inner.Outcomes.{piece, check_at}
use Rattle.body_walk.proofs.Alive.{all_alive}
use Rattle.body_walk.proofs.FieldsTold.{fields_are, rows_ready}
use Rattle.body_walk.proofs.LevelsReady.{level_ready, same_node}
use Rattle.body_walk.proofs.Opens.{block_known, flat_told}

-- what is known of a level's row, for blocks of k bytes
pub block_row : (schema : WireSchema) (n : ℕ) (row : LevelRow) (level : Level) (version k : ℕ) → IsReadySchema schema → RowFor schema n row → level_at schema n ≡ Some level →
    floor version (out-Level level).fields ≤ k → IsBlockRow version k level row
block_row schema n row level version k ready is there reaches =
    let known = level_ready schema n level ready there in
    let same = same_node schema n row level is there in
    let are : FieldsAre 0 (out-Level level).fields row.fields.items = subst (λ (l : Level). FieldsAre 0 (out-Level l).fields row.fields.items) same is.2.fields in
    record {
      rows = rows_ready version k (out-Level level).fields row.fields.items are known.placed known.ready reaches;
      few = omega (arith, known.few);
      placed = known.placed;
      reaches = reaches;
      are = are;
      newest_is = is.2.newest_is ∙ ap (λ (l : Level). newest_of (out-Level l).fields) same;
      flat_is = subst (λ (l : Level). IsFlat l row.flat) same is.2.flat_is;
    }

-- where all fields stand, the values of the table lie in the block
pub block_fits : (version k : ℕ) (level : Level) (row : LevelRow) → IsBlockRow version k level row → row.newest ≤ version → RowsFit k row.flat.rows.items
block_fits version k level row is newest =
    let fs = (out-Level level).fields in
    table_fits row.flat fs version k is.placed
    (all_alive version fs (omega (arith, newest, is.newest_is))) is.reaches is.flat_is.table_is is.flat_is.stands

-- where the bytes of each value show one, the walk finds no fault
fields_good : (mode : Mode) (fields : List Field) (rows : List FieldRow) (at : ℕ) (block : List ℕ) → ArePlaced 0 fields → FieldsAre 0 fields rows → AllAlive mode.version fields →
    floor mode.version fields ≤ length block → ScalarsShow mode.order mode.known (scalars_of fields) block → fields_check mode (piece at block) 0 fields rows ≡ Ok tt
fields_good mode fields rows at block placed are alive reaches shows =
    let found = block_shown mode fields block placed alive reaches shows in
    let read = (fields_judges mode 0 0 0 fields (omega arith) placed).complete block found.0 found.1.1 in
    sym (fields_are mode (piece at block) 0 0 fields rows are) ∙ ap (check_at at) read

pub block_good : (mode : Mode) (level : Level) (row : LevelRow) (at : ℕ) (block : List ℕ) → IsBlockRow mode.version (length block) level row → ShowsEach mode row block →
    fields_check mode (piece at block) 0 (out-Level level).fields row.fields.items ≡ Ok tt
block_good mode level row at block is shows =
    let fs = (out-Level level).fields in
    fields_good mode fs row.fields.items at block is.placed is.are
    (all_alive mode.version fs (omega (arith, shows.newest, is.newest_is))) is.reaches (subst (λ ss. ScalarsShow mode.order mode.known ss block) is.flat_is.stands shows.shows)

-- where the values of the table show a block of a level without groups and data, the entry is that block
pub flat_shown : (mode : Mode) (level : Level) (row : LevelRow) (k : ℕ) (body : List ℕ) (at : ℕ) → IsBlockRow mode.version k level row → at + k ≤ length body →
    ShowsEach mode row (take k (drop at body)) → length (out-Level level).groups ≡ 0 → length (out-Level level).parts ≡ 0 → Ok (at + k) ≡ skim (entries_read mode level k) body at
flat_shown mode level row k body at is room shows no_groups no_parts =
    let bytes = take k (drop at body) in
    let near : at ≤ length body = omega (arith, room) in
    let long : length bytes ≡ k = length-take-le k (drop at body) (omega (arith, room, length-drop at body)) in
    let good = block_good mode level row at bytes (subst (λ n. IsBlockRow mode.version n level row) (sym long) is) shows in
    block_known mode level k body at near row bytes (Ok tt) is.are (record { room = room; bytes_are = refl; long = long }) (sym good)
    ∙ flat_told mode level k body at near no_groups no_parts
