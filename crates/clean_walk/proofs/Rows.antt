-- The rows of a level, whose values are clean.
use Rattle.std.proofs.Common.{◌≡◌, ℕ, ◌+◌, ◌-◌, ◌<◌, ◌≤◌, Some, List, ◌∷◌, length, map, take, drop, get_or, sym, ap, ◌∙◌, subst, arith}
use Rattle.std.specs.List.{AllByRecursion}
use Rattle.std.proofs.lemmas.List.{drop_more, drop_all}
use Rattle.sbe_types.specs.declared.schema.Group.{Group}
use Rattle.sbe_types.specs.declared.schema.Level.{Level, out-Level}
use Rattle.sbe_types.specs.declared.schema.WireSchema.{WireSchema}
use Rattle.sbe_types.specs.Places.{width}
use Rattle.sbe_wire.specs.Placed.{IsPlacedLevel}
use Rattle.sbe_wire.proofs.Levels.{placed_fields}
use Rattle.flat_rows.specs.declared.rows.FlatRow.{FlatRow}
use Rattle.flat_rows.specs.Tables.{scalar_of, stands_for, IsRow, IsTable}
use Rattle.schema_facts.specs.Levels.{level_at}
use Rattle.layout_tables.specs.declared.rows.LevelRow.{LevelRow}
use Rattle.layout_tables.specs.Flats.{IsFlat}
use Rattle.layout_tables.specs.Rowed.{RowFor}
use Rattle.layout_tables.proofs.GroupWalk.{GroupsFrom}
use Rattle.body_walk.proofs.LevelsReady.{same_node}
use Rattle.body_walk.proofs.Opens.{Child, child_here}
use Rattle.clean_bodies.specs.Clean.{AreZeros, between, IsCleanKind, IsCleanBlock}
use Rattle.clean_walk.specs.inner.Values.{AreCleanValues, IsCleanRow}
use Rattle.clean_walk.proofs.Gaps.{block_clean}

-- ---- one row

pub row_said : (e begin next : ℕ) (row : FlatRow) (b : List ℕ) → IsRow row → begin ≡ row.place → next ≡ row.end → e ≤ begin → AreZeros (take (begin - e) (drop e b)) →
    IsCleanKind row.kind (take (next - begin) (drop begin b)) → IsCleanRow e row b
row_said e begin next row b is place end after gap clean =
    let size : next - begin ≡ width row.kind = omega (arith, place, end, is.end) in
    record {
      after = omega (arith, place, after);
      gap = subst (λ k. AreZeros (between e k b)) place gap;
      clean = subst (λ k. IsCleanKind row.kind (take (width row.kind) (drop k b))) place (subst (λ n. IsCleanKind row.kind (take n (drop begin b))) size clean);
    }

-- ---- one row more

-- what the rest of the rows gives from here on, all give
pub record LeadsRows (rows : List FlatRow) (b : List ℕ) (i e : ℕ) : Type 0 where
  pub near : e ≤ length b
  pub are : AllByRecursion IsRow (drop i rows)
  pub clean : AreCleanValues e (map scalar_of (drop i rows)) b → AreCleanValues 0 (map scalar_of rows) b

module _ (rows : List FlatRow) (b : List ℕ) (i e : ℕ) (leads : LeadsRows rows b i e) where
  split : (row : FlatRow) → i < length rows → row ≡ get_or rows i row → drop i rows ≡ row ∷ drop (i + 1) rows
  split row below is = drop_more rows i row below ∙ ap (λ y. y ∷ drop (i + 1) rows) (sym is)

  pub row_here : (row : FlatRow) → i < length rows → row ≡ get_or rows i row → IsRow row
  row_here row below is = (subst (AllByRecursion IsRow) (split row below is) leads.are).0

  pub rows_more : (row : FlatRow) (next : ℕ) → i < length rows → row ≡ get_or rows i row → next ≤ length b → IsCleanRow e row b → next ≡ row.end → LeadsRows rows b (i + 1) next
  rows_more row next below is near clean end =
      let here = subst (AllByRecursion IsRow) (split row below is) leads.are in
      let ends : next ≡ row.place + width row.kind = end ∙ here.0.end in
      record {
        near = near;
        are = here.1;
        clean = λ rest. leads.clean (subst (λ l. AreCleanValues e (map scalar_of l) b) (sym (split row below is))
            (clean.after, clean.gap, clean.clean, subst (λ n. AreCleanValues n (map scalar_of (drop (i + 1) rows)) b) ends rest));
      }

  pub rows_done : length rows ≤ i → AreZeros (drop e b) → AreCleanValues 0 (map scalar_of rows) b
  rows_done past zeros = leads.clean (subst (λ l. AreCleanValues e (map scalar_of l) b) (sym (drop_all i rows past)) zeros)

-- ---- the row of a level

module _ (schema : WireSchema) (n : ℕ) (row : LevelRow) (level : Level) (is : RowFor schema n row) (there : level_at schema n ≡ Some level) where
  flat : IsFlat level row.flat
  flat = subst (λ (l : Level). IsFlat l row.flat) (same_node schema n row level is there) is.2.flat_is

  pub table_there : IsTable row.flat
  table_there = flat.table_is

  pub block_size : row.block ≡ (out-Level level).block_length
  block_size = is.2.block ∙ ap (λ (l : Level). (out-Level l).block_length) (same_node schema n row level is there)

  pub block_there : (b : List ℕ) → IsPlacedLevel level → AreCleanValues 0 (stands_for row.flat) b → IsCleanBlock (out-Level level).fields b
  block_there b placed clean = block_clean b (out-Level level).fields (placed_fields level placed) (subst (λ ss. AreCleanValues 0 ss b) flat.stands clean)

-- a group of a level, whose entries' level has that number
pub child_of : (schema : WireSchema) (n : ℕ) (level : Level) → level_at schema n ≡ Some level → (gs : List Group) (i child : ℕ) (g : Group) → gs ≡ (out-Level level).groups → GroupsFrom schema n i child →
    i < length gs → g ≡ get_or gs i g → Child schema child g
child_of schema n level there gs i child g same from below is =
    child_here schema n level there child i from (omega (arith, below, ap length same)) g (subst (λ (l : List Group). g ≡ get_or l i g) same is)
