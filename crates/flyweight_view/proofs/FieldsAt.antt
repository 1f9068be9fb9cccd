-- Fields of a block at the places of their rows.
use Rattle.std.proofs.Common.{◌≡◌, ◌≤◌, ◌<◌, ◌+◌, ◌-◌, ℕ, zero, suc, true, false, List, [], ◌∷◌, length, take, drop, Some, refl, sym, ap, ◌∙◌, subst, arith}
use Rattle.std.specs.Prelude.{slice_get}
use Rattle.std.specs.Bool.{MatchBool}
use Rattle.std.specs.Option.{option_map, IsSome}
use Rattle.sbe_types.specs.declared.kind.Order.TheVariants.{Little}
use Rattle.sbe_types.specs.declared.message.Value.TheVariants as value
use Rattle.sbe_types.specs.declared.schema.Field.{Field}
use Rattle.sbe_types.specs.Places.{bytes_at, field_place, is_const, width}
use Rattle.sbe_types.specs.Shows.{Shows}
use Rattle.sbe_wire.specs.Versions.{is_alive}
use Rattle.sbe_wire.proofs.PlaceLemmas.{each_from}
use Rattle.flat_rows.specs.BlockChecks.{AllAlive}
use Rattle.var_data.proofs.DataRows.{at_each}
use Rattle.layout_tables.specs.declared.rows.FieldRow.{FieldRow}
use Rattle.layout_tables.proofs.Told.{place_there}
use Rattle.body_walk.specs.inner.Fields.{AreFieldRows}
use Rattle.body_walk.proofs.FieldsTold.{rows_long}
use Rattle.flyweight_view.specs.declared.by_table.TableBlock.{TableBlock}
use Rattle.flyweight_view.specs.declared.plan.Plan.{Plan}
use Rattle.flyweight_view.specs.declared.plan.Span.{Span}
use Rattle.flyweight_view.specs.ByTable.{bytes_in_row, AreWithin, IsFieldAt, IsTableBlock}
use Rattle.flyweight_view.specs.inner.Planned.{bytes_of, fields_of, typed_at, values_at, IsPlannedBlock}
use Rattle.flyweight_view.specs.TypedBlocks.{TypedBlock}
use Rattle.flyweight_view.proofs.SlotsTold.{fields_lie, long_bytes, row_here}

item_at : {X : Type 0} (xs : List X) (i : ℕ) → i < length xs → (x : X) × (slice_get xs i ≡ Some x)
item_at [] i h = absurd (omega (arith, h))
item_at (x ∷ xs) zero h = (x, refl)
item_at (x ∷ xs) (suc i) h = item_at xs i (omega (arith, h))

in_range : {X : Type 0} (xs : List X) (i : ℕ) (x : X) → slice_get xs i ≡ Some x → i < length xs
in_range [] i x h = cc
in_range (y ∷ xs) zero x h = omega arith
in_range (y ∷ xs) (suc i) x h = let rest = in_range xs i x h in omega (arith, rest)

-- the rows give the places of the fields
abbrev pub GivePlaces : List Field → List FieldRow → Type 0
GivePlaces fields rows = (i : ℕ) (r : FieldRow) → slice_get rows i ≡ Some r → IsSome (field_place 0 fields i) → field_place 0 fields i ≡ Some r.place

-- a block of which all fields exist, with their rows
pub record HasRows (s : Span) (p : Plan) (rows : List FieldRow) : Type 0 where
  pub seen : IsPlannedBlock s p
  pub little : s.mode.order ≡ Little
  pub alive : AllAlive s.mode.version (fields_of p)
  pub are : AreFieldRows s.mode.version s.size (fields_of p) rows
  pub places : GivePlaces (fields_of p) rows

pub field_at : (s : Span) (p : Plan) (rows : List FieldRow) → HasRows s p rows → (i : ℕ) (r : FieldRow) → slice_get rows i ≡ Some r → r.is_constant ≡ false → IsFieldAt (typed_at s p) i r (bytes_of s)
field_at s p rows has i r there moves =
    let fs = fields_of p in
    let vs = values_at s p in
    let block = bytes_of s in
    let version = s.mode.version in
    let found = item_at fs i (omega (arith, rows_long version s.size fs rows has.are, in_range rows i r there)) in
    let f = found.0 in
    let row = row_here version s.size i fs rows f r has.are found.1 there in
    let fixed : is_const f.kind ≡ false = sym row.constant ∙ moves in
    let lives : is_alive version f.since ≡ true = at_each (λ (x : Field). is_alive version x.since ≡ true) fs i f has.alive found.1 in
    let end : r.end ≡ r.place + width f.kind = row.wide moves in
    let near : r.end ≤ s.size = row.within (ap (is_alive version) row.since ∙ lives) moves in
    let each = each_from s.mode block 0 fs vs (fields_lie s p has.seen) in
    let held = item_at vs i (omega (arith, each.0, in_range fs i f found.1)) in
    let shown : Shows s.mode.order s.mode.known f.kind held.0 (bytes_at (field_place 0 fs i) (width f.kind) block) =
    subst (λ t. MatchBool t (Shows s.mode.order s.mode.known f.kind held.0 (bytes_at (field_place 0 fs i) (width f.kind) block)) (held.0 ≡ value.Absent)) lives (each.1 i f held.0 found.1 held.1) in
    let place = has.places i r there (place_there fs i f.kind (ap (option_map (λ (x : Field). x.kind)) found.1) fixed) in
    let wide : width f.kind ≡ r.end - r.place = omega (arith, end) in
    let bytes : bytes_at (field_place 0 fs i) (width f.kind) block ≡ bytes_in_row r block =
    ap (λ o. bytes_at o (width f.kind) block) place ∙ ap (λ w. take w (drop r.place block)) wide in
    record {
      within = record { ordered = omega (arith, end); near = omega (arith, near, long_bytes s p has.seen) };
      shows = record {
        field = f;
        there = found.1;
        order = row.ready.order;
        value = held.0;
        given = held.1;
        known = s.mode.known;
        shown = subst (λ b. Shows Little s.mode.known f.kind held.0 b) bytes (subst (λ o. Shows o s.mode.known f.kind held.0 (bytes_at (field_place 0 fs i) (width f.kind) block)) has.little shown);
      };
    }

-- the rows of a block that shows its fields are within it
pub table_within : (b : TableBlock) (s : TypedBlock) → IsTableBlock b s → AreWithin b
table_within b s is = λ i r there moves. (is.fields_at i r there moves).within
