-- What is known of each level of a schema that is ready.
use Rattle.std.proofs.Common.{◌≡◌, ◌≤◌, ◌+◌, ℕ, suc, List, [], ◌∷◌, length, Option, Some, None, refl, sym, ap, ◌∙◌, subst, arith}
use Rattle.std.specs.Prelude.{slice_get, map}
use Rattle.std.specs.Option.{option_map}
use Rattle.std.specs.List.{AllByRecursion}
use Rattle.sbe_types.specs.declared.schema.DataField.{DataField}
use Rattle.sbe_types.specs.declared.schema.Field.{Field}
use Rattle.sbe_types.specs.declared.schema.Group.{Group, out-Group}
use Rattle.sbe_types.specs.declared.schema.Level.{Level, out-Level}
use Rattle.sbe_types.specs.declared.schema.WireSchema.{WireSchema}
use Rattle.sbe_types.specs.declared.limits.TheConstants.{PART_LIMIT}
use Rattle.sbe_wire.specs.Placed.{ArePlaced}
use Rattle.schema_facts.specs.CheckedLevels.{HasKinds, HasLengths, HasFewParts, IsLength, groups_deep}
use Rattle.schema_facts.specs.InOrder.{IsKindInOrder}
use Rattle.schema_facts.specs.Levels.{Node, nodes, all_nodes, level_at}
use Rattle.schema_facts.specs.Measured.{IsSmall}
use Rattle.layout_tables.specs.declared.rows.PartRow.{PartRow}
use Rattle.layout_tables.specs.declared.rows.LevelRow.{LevelRow}
use Rattle.layout_tables.specs.Rowed.{RowFor, FieldsAre, part_row}
use Rattle.var_data.proofs.DataRows.{at_each}
use Rattle.schema_facts.proofs.LevelNodes.{IsPlacedNode, placed_from, level_deep, group_is, in_list}
use Rattle.body_walk.specs.inner.Kinds.{HasFewMembers, IsReady}
use Rattle.body_walk.specs.inner.Ready.{IsReadySchema}

-- ---- places

-- ---- a level

-- what is known of a level
pub record LevelReady (level : Level) : Type 0 where
  pub placed : ArePlaced 0 (out-Level level).fields
  pub ready : AllByRecursion (λ (f : Field). IsReady f.kind) (out-Level level).fields
  pub few : length (out-Level level).fields + length (out-Level level).groups + length (out-Level level).parts ≤ PART_LIMIT
  pub small : AllByRecursion (λ (d : DataField). IsSmall d.length.prim) (out-Level level).parts

both_ready : (fs : List Field) → AllByRecursion (λ (f : Field). IsKindInOrder f.kind) fs → AllByRecursion (λ (f : Field). HasFewMembers f.kind) fs → AllByRecursion (λ (f : Field). IsReady f.kind) fs
both_ready [] h k = tt
both_ready (f ∷ fs) h k = (record { order = h.0; few = k.0 }, both_ready fs h.1 k.1)

lengths_small : (ds : List DataField) → AllByRecursion (λ (d : DataField). IsLength d.length) ds → AllByRecursion (λ (d : DataField). IsSmall d.length.prim) ds
lengths_small [] h = tt
lengths_small (d ∷ ds) h = (h.0.small, lengths_small ds h.1)

pub node_at : (o : Option Node) (level : Level) → option_map (λ (x : Node). x.level) o ≡ Some level → (this : Node) × (o ≡ Some this) × (this.level ≡ level)
node_at None level h = cc
node_at (Some this) level h = (this, refl, cc)

pub level_ready : (schema : WireSchema) (n : ℕ) (level : Level) → IsReadySchema schema → level_at schema n ≡ Some level → LevelReady level
level_ready schema n level h at =
    let this = node_at (slice_get (all_nodes schema) n) level at in
    let nodes = all_nodes schema in
    let kinds : HasKinds this.0 = at_each HasKinds nodes n this.0 h.checked.kinds.levels this.1 in
    let lengths : HasLengths this.0.level = at_each (λ (x : Node). HasLengths x.level) nodes n this.0 h.checked.lengths this.1 in
    subst LevelReady this.2 (record {
      placed = at_each IsPlacedNode nodes n this.0 (placed_from 0 schema.messages h.checked.placed.levels) this.1;
      ready = both_ready (out-Level this.0.level).fields kinds.fields (at_each (λ (x : Node). AllByRecursion (λ (f : Field). HasFewMembers f.kind) (out-Level x.level).fields) nodes n this.0 h.few this.1);
      few = at_each (λ (x : Node). HasFewParts x.level) nodes n this.0 h.checked.counts this.1;
      small = lengths_small (out-Level this.0.level).parts lengths;
    })

-- ---- its row

pub same_node : (schema : WireSchema) (n : ℕ) (row : LevelRow) (level : Level) (is : RowFor schema n row) → level_at schema n ≡ Some level → is.0.level ≡ level
same_node schema n row level is at =
    let both : Some is.0.level ≡ Some level = sym (ap (option_map (λ (x : Node). x.level)) is.1) ∙ at in
    cc

pub row_fields : (schema : WireSchema) (n : ℕ) (row : LevelRow) (level : Level) → RowFor schema n row → level_at schema n ≡ Some level → FieldsAre 0 (out-Level level).fields row.fields.items
row_fields schema n row level is at = subst (λ (l : Level). FieldsAre 0 (out-Level l).fields row.fields.items) (same_node schema n row level is at) is.2.fields

pub row_parts : (schema : WireSchema) (n : ℕ) (row : LevelRow) (level : Level) → RowFor schema n row → level_at schema n ≡ Some level → row.parts.items ≡ map part_row (out-Level level).parts
row_parts schema n row level is at = is.2.parts ∙ ap (λ (l : Level). map part_row (out-Level l).parts) (same_node schema n row level is at)

pub row_since : (schema : WireSchema) (n : ℕ) (row : LevelRow) (level : Level) → RowFor schema n row → level_at schema n ≡ Some level → row.since ≡ (out-Level level).since
row_since schema n row level is at = is.2.since ∙ ap (λ (l : Level). (out-Level l).since) (same_node schema n row level is at)

rows_small : (ds : List DataField) → AllByRecursion (λ (d : DataField). IsSmall d.length.prim) ds → AllByRecursion (λ (r : PartRow). IsSmall r.length.prim) (map part_row ds)
rows_small [] h = tt
rows_small (d ∷ ds) h = (h.0, rows_small ds h.1)

long_rows : (ds : List DataField) → length (map part_row ds) ≡ length ds
long_rows [] = refl
long_rows (d ∷ ds) = ap suc (long_rows ds)

pub parts_small : (level : Level) (rows : List PartRow) → LevelReady level → rows ≡ map part_row (out-Level level).parts → AllByRecursion (λ (r : PartRow). IsSmall r.length.prim) rows
parts_small level rows h is = subst (AllByRecursion (λ (r : PartRow). IsSmall r.length.prim)) (sym is) (rows_small (out-Level level).parts h.small)

pub parts_few : (level : Level) (rows : List PartRow) → LevelReady level → rows ≡ map part_row (out-Level level).parts → length (out-Level level).fields + length (out-Level level).groups + length rows ≤ PART_LIMIT
parts_few level rows h is = omega (arith, h.few, ap length is, long_rows (out-Level level).parts)

-- ---- how deep groups are nested

-- a group's level is less deep than the level that has it
pub group_shallow : (level : Level) (i : ℕ) (g : Group) → slice_get (out-Level level).groups i ≡ Some g → suc (groups_deep (out-Group g).level) ≤ groups_deep level
group_shallow level i g at = let rest = in_list (out-Level level).groups i g at in omega (arith, rest, level_deep level, group_is g)
