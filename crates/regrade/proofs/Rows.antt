-- The parts of a level as lists.
use Rattle.std.proofs.Common.{◌≡◌, ℕ, suc, ◌+◌, Bool, true, false, cond, List, [], ◌∷◌, length, map, Option, Some, None, Ok, Err, refl, sym, ap, ap₂, ◌∙◌, pos}
use Rattle.std.specs.Prelude.{codes, not, if◌then◌else◌}
use Rattle.std.specs.Option.{option_map_or}
use Rattle.std.specs.Str.{bytes_eq}
use denote.Hole.Carrier as carrier
use Rattle.sbe_types.specs.declared.kind.Kind as kinds
use Rattle.sbe_types.specs.declared.kind.Kind.{Kind, Leaf, Enum, Set, Const, Comp, Comp', Row_of-Member, end_of-Member, more_of-Member, items-the_row-Member, items_hidden-the_row-Member-0}
use Rattle.sbe_types.specs.declared.kind.Leaf.{Leaf as LeafOf}
use Rattle.sbe_types.specs.declared.kind.Member.{Member}
use Rattle.sbe_types.specs.declared.schema.Level as levels
use Rattle.sbe_types.specs.declared.schema.Group as groups_of
use Rattle.sbe_types.specs.declared.schema.Field.{Field}
use Rattle.sbe_types.specs.declared.schema.DataField.{DataField}
use Rattle.sbe_types.specs.declared.schema.Group.{Group, Group', out-Group}
use Rattle.sbe_types.specs.declared.schema.Level.{Level, Level', out-Level, Row_of-Group, end_of-Group, more_of-Group, items-the_row-Group, items_shown-the_row-Group-0}
use Rattle.sbe_types.specs.declared.message.Value.{Value}
use Rattle.sbe_types.specs.declared.message.Value.TheVariants as value
use Rattle.sbe_types.specs.declared.message.DataVal.{DataVal}
use Rattle.sbe_types.specs.declared.message.DataVal.TheVariants as dataval
use Rattle.sbe_types.specs.declared.message.Block.{Block, out-Block}
use Rattle.sbe_types.specs.declared.message.GroupVal.{GroupVal, items_hidden-the_row-Block-1}
use Rattle.sbe_types.specs.declared.message.GroupVal.TheVariants as groupval
use Rattle.sbe_types.specs.Places.{begin_of, end_past}
use Rattle.sbe_types.specs.Shown.{admits}
use Rattle.sbe_wire.specs.Named.{spot_of, spot_named, is_admitted}
use Rattle.schema_facts.specs.Counted.{total}
use Rattle.version_laws.specs.Differ.{is_old, group_since}
use Rattle.version_laws.specs.Projected.{each_entry, old_field, old_part, lifted_list, lifted_block, lifted_groups, lifted_group}
use Rattle.version_laws.specs.Plain.{is_absent_group}
use Rattle.version_laws.proofs.TailMoves.{each_of}
use Rattle.sbe_types.specs.declared.path.Step.TheVariants as way
use Rattle.regrade_laws.specs.Fill.{Fills, fill, fill_or_lack, fill_members, with_value, composite_of, field_or_fill, part_or_fill}
use Rattle.regrade_laws.specs.Filled.{in_step, then_all, filled_list, filled_entries, block_of, group_of, row_length, no_entries, filled_block, filled_groups, filled_group}
use Rattle.regrade_laws.specs.Counts.{one_if, sum_pairs, count_pairs, fills_field, fills_part, drops_field, drops_part, filled_count, filled_groups_count, filled_group_count, dropped_count, dropped_groups_count, dropped_group_count}
use Rattle.regrade.specs.Each.{lifted_each, lifted_fields, lifted_parts, lifted_groups_each, dropped_here, fill_each, kind_admits_none, named_admits_none}

-- ---- lifted

fields_each : (version : ℕ) (fs : List Field) (vs : List Value) → lifted_list (old_field version) value.Absent fs vs ≡ lifted_fields version fs vs
fields_each version [] vs = refl
fields_each version (f ∷ fs) [] = ap (λ r. value.Absent ∷ r) (fields_each version fs [])
fields_each version (f ∷ fs) (v ∷ vs) = ap₂ (λ r s. cond (old_field version f) (v ∷ r) (value.Absent ∷ s)) (fields_each version fs vs) (fields_each version fs (v ∷ vs))

parts_each : (version : ℕ) (ps : List DataField) (vs : List DataVal) → lifted_list (old_part version) dataval.Absent ps vs ≡ lifted_parts version ps vs
parts_each version [] vs = refl
parts_each version (p ∷ ps) [] = ap (λ r. dataval.Absent ∷ r) (parts_each version ps [])
parts_each version (p ∷ ps) (v ∷ vs) = ap₂ (λ r s. cond (old_part version p) (v ∷ r) (dataval.Absent ∷ s)) (parts_each version ps vs) (parts_each version ps (v ∷ vs))

rows_each : (version : ℕ) {n : _} (groups : Row_of-Group n) (vs : List GroupVal) → lifted_groups version groups vs ≡ lifted_groups_each version (items-the_row-Group _ groups) vs
unfolding lifted_groups
rows_each version end_of-Group vs = refl
rows_each version (more_of-Group g gs) [] = ap (λ r. groupval.Absent ∷ r) (rows_each version gs [])
rows_each version (more_of-Group g gs) (v ∷ vs) = ap₂ (λ r s. cond (is_old version (group_since g)) (lifted_group version g v ∷ r) (groupval.Absent ∷ s)) (rows_each version gs vs) (rows_each version gs (v ∷ vs))

abbrev pub block_with : List Value → List GroupVal → List DataVal → Block
block_with fields groups parts = record { fields = fields; groups = groups; parts = parts }

pub lifted_is : (version : ℕ) (level : Level) (block : Block) (fields : List Value) (groups : List GroupVal) (parts : List DataVal) →
    fields ≡ lifted_fields version (out-Level level).fields (out-Block block).fields →
    groups ≡ lifted_groups_each version (out-Level level).groups (out-Block block).groups →
    parts ≡ lifted_parts version (out-Level level).parts (out-Block block).parts →
    block_with fields groups parts ≡ lifted_block version level block
unfolding lifted_block levels.out-Level carrier.out
lifted_is version (Level' name id semantic since block_length fs n gs ps) block fields groups parts a b c =
    let old = out-Block block in
    ap (λ x. block_with x groups parts) (a ∙ sym (fields_each version fs old.fields))
    ∙ ap (λ x. block_with (lifted_list (old_field version) value.Absent fs old.fields) x parts)
    (b ∙ ap (λ l. lifted_groups_each version l old.groups) (items_shown-the_row-Group-0 n gs) ∙ sym (rows_each version gs old.groups))
    ∙ ap (λ x. block_with (lifted_list (old_field version) value.Absent fs old.fields) (lifted_groups version gs old.groups) x) (c ∙ sym (parts_each version ps old.parts))

lifted_group_is : (version : ℕ) (g : Group) (v : GroupVal) → lifted_group version g v ≡ each_entry (lifted_block version (out-Group g).level) v
unfolding lifted_group groups_of.out-Group carrier.out
lifted_group_is version (Group' dim level) v = refl

pub absent_lifts : (version : ℕ) (g : Group) (v : GroupVal) → v ≡ groupval.Absent → groupval.Absent ≡ lifted_group version g v
absent_lifts version g v h = sym (lifted_group_is version g v ∙ ap (each_entry (lifted_block version (out-Group g).level)) h)

pub entries_lift : (version : ℕ) (g : Group) (v : GroupVal) (es out : List Block) → v ≡ groupval.Entries es → out ≡ map (lifted_block version (out-Group g).level) es → groupval.Entries out ≡ lifted_group version g v
entries_lift version g v es out h e =
    ap groupval.Entries e ∙ sym (lifted_group_is version g v ∙ ap (each_entry (lifted_block version (out-Group g).level)) h ∙ each_of (lifted_block version (out-Group g).level) es)

-- ---- dropped

dropped_rows : (version : ℕ) {n : _} (row : Row_of-Group n) (vs : List GroupVal) → dropped_groups_count version row vs ≡ sum_pairs (dropped_here version) (items-the_row-Group _ row) vs
unfolding dropped_count
dropped_rows version end_of-Group vs = refl
dropped_rows version (more_of-Group g gs) [] = refl
dropped_rows version (more_of-Group g gs) (v ∷ vs) = ap (λ k. dropped_here version g v + k) (dropped_rows version gs vs)

abbrev pub dropped_parts_of : ℕ → Level → Block → ℕ
dropped_parts_of version level block =
    count_pairs (drops_field version) (out-Level level).fields (out-Block block).fields + sum_pairs (dropped_here version) (out-Level level).groups (out-Block block).groups
    + count_pairs (drops_part version) (out-Level level).parts (out-Block block).parts

pub dropped_is : (version : ℕ) (level : Level) (block : Block) → dropped_count version level block ≡ dropped_parts_of version level block
unfolding dropped_count levels.out-Level carrier.out
dropped_is version (Level' name id semantic since block_length fs n gs ps) block =
    let old = out-Block block in
    ap (λ k. count_pairs (drops_field version) fs old.fields + k + count_pairs (drops_part version) ps old.parts)
    (dropped_rows version gs old.groups ∙ ap (λ l. sum_pairs (dropped_here version) l old.groups) (sym (items_shown-the_row-Group-0 n gs)))

-- entries of a group that is kept
pub dropped_entries_are : (version : ℕ) (g : Group) (es : List Block) → dropped_group_count version g (groupval.Entries es) ≡ total (dropped_count version (out-Group g).level) es
unfolding dropped_count groups_of.out-Group carrier.out
dropped_entries_are version (Group' dim level) es = ap (total (dropped_count version level)) (items_hidden-the_row-Block-1 es)

absent_drops : (version : ℕ) (g : Group) (t : Bool) → cond t (dropped_group_count version g groupval.Absent) (one_if (not (is_absent_group groupval.Absent))) ≡ 0
unfolding dropped_count
absent_drops version (Group' dim level) true = refl
absent_drops version (Group' dim level) false = refl

pub absent_drops_none : (version : ℕ) (g : Group) (v : GroupVal) → v ≡ groupval.Absent → dropped_here version g v ≡ 0
absent_drops_none version g v h = ap (dropped_here version g) h ∙ absent_drops version g (is_old version (group_since g))

pub kept_drops : (version : ℕ) (g : Group) (v : GroupVal) (es : List Block) → v ≡ groupval.Entries es → is_old version (group_since g) ≡ true → dropped_here version g v ≡ total (dropped_count version (out-Group g).level) es
kept_drops version g v es h old =
    ap (λ t. cond t (dropped_group_count version g v) (one_if (not (is_absent_group v)))) old ∙ ap (dropped_group_count version g) h ∙ dropped_entries_are version g es

pub lost_drops : (version : ℕ) (g : Group) (v : GroupVal) (es : List Block) → v ≡ groupval.Entries es → is_old version (group_since g) ≡ false → dropped_here version g v ≡ 1
lost_drops version g v es h old = ap (λ t. cond t (dropped_group_count version g v) (one_if (not (is_absent_group v)))) old ∙ ap (λ x. one_if (not (is_absent_group x))) h

-- ---- filled

filled_rows : (i : ℕ) {n : _} (row : Row_of-Group n) (vs : List GroupVal) → filled_groups i row vs ≡ filled_list filled_group i (items-the_row-Group _ row) vs
unfolding filled_block
filled_rows i end_of-Group vs = refl
filled_rows i (more_of-Group g gs) [] = refl
filled_rows i (more_of-Group g gs) (v ∷ vs) = ap (then_all (in_step (way.Part i) (filled_group g v))) (filled_rows (suc i) gs vs)

row_long : {n : _} (row : Row_of-Group n) → row_length row ≡ length (items-the_row-Group _ row)
row_long end_of-Group = refl
row_long (more_of-Group g gs) = ap suc (row_long gs)

abbrev pub filled_parts_of : Level → Block → Fills Block
filled_parts_of level block =
    block_of (filled_list field_or_fill 0 (out-Level level).fields (out-Block block).fields)
    (filled_list filled_group (length (out-Level level).fields) (out-Level level).groups (out-Block block).groups)
    (filled_list part_or_fill (length (out-Level level).fields + length (out-Level level).groups) (out-Level level).parts (out-Block block).parts)

pub filled_is : (level : Level) (block : Block) → filled_block level block ≡ filled_parts_of level block
unfolding filled_block levels.out-Level carrier.out
filled_is (Level' name id semantic since block_length fs n gs ps) block =
    let old = out-Block block in
    let shown = sym (items_shown-the_row-Group-0 n gs) in
    ap₂ (λ x k. block_of (filled_list field_or_fill 0 fs old.fields) x (filled_list part_or_fill (length fs + k) ps old.parts))
    (filled_rows (length fs) gs old.groups ∙ ap (λ l. filled_list filled_group (length fs) l old.groups) shown)
    (row_long gs ∙ ap length shown)

counted_rows : {n : _} (row : Row_of-Group n) (vs : List GroupVal) → filled_groups_count row vs ≡ sum_pairs filled_group_count (items-the_row-Group _ row) vs
unfolding filled_count
counted_rows end_of-Group vs = refl
counted_rows (more_of-Group g gs) [] = refl
counted_rows (more_of-Group g gs) (v ∷ vs) = ap (λ k. filled_group_count g v + k) (counted_rows gs vs)

abbrev pub counted_parts_of : Level → Block → ℕ
counted_parts_of level block =
    count_pairs fills_field (out-Level level).fields (out-Block block).fields + sum_pairs filled_group_count (out-Level level).groups (out-Block block).groups
    + count_pairs fills_part (out-Level level).parts (out-Block block).parts

pub counted_is : (level : Level) (block : Block) → filled_count level block ≡ counted_parts_of level block
unfolding filled_count levels.out-Level carrier.out
counted_is (Level' name id semantic since block_length fs n gs ps) block =
    let old = out-Block block in
    ap (λ k. count_pairs fills_field fs old.fields + k + count_pairs fills_part ps old.parts)
    (counted_rows gs old.groups ∙ ap (λ l. sum_pairs filled_group_count l old.groups) (sym (items_shown-the_row-Group-0 n gs)))

pub filled_entries_are : (g : Group) (es : List Block) → filled_group g (groupval.Entries es) ≡ group_of (filled_entries (λ entry. filled_block (out-Group g).level entry) 0 es)
unfolding filled_block groups_of.out-Group carrier.out
filled_entries_are (Group' dim level) es = ap (λ bs. group_of (filled_entries (λ entry. filled_block level entry) 0 bs)) (items_hidden-the_row-Block-1 es)

pub counted_entries_are : (g : Group) (es : List Block) → filled_group_count g (groupval.Entries es) ≡ total (filled_count (out-Group g).level) es
unfolding filled_count groups_of.out-Group carrier.out
counted_entries_are (Group' dim level) es = ap (total (filled_count level)) (items_hidden-the_row-Block-1 es)

pub absent_fills : (g : Group) → filled_group g groupval.Absent ≡ no_entries g
unfolding filled_block
absent_fills (Group' dim level) = refl

pub absent_counts : (g : Group) → filled_group_count g groupval.Absent ≡ 1
unfolding filled_count
absent_counts (Group' dim level) = refl

abbrev pub none_in : List Member → Fills GroupVal
none_in dim = fill_or_lack (if is_admitted dim (codes "numInGroup") 0 then Some (groupval.Entries []) else None)

pub no_entries_is : (g : Group) → no_entries g ≡ none_in (out-Group g).dim
unfolding groups_of.out-Group carrier.out
no_entries_is (Group' dim level) = refl

-- ---- the fill of a composite

pub members_each : {n : _} (row : Row_of-Member n) → fill_members row ≡ fill_each (items-the_row-Member _ row)
unfolding fill
members_each end_of-Member = refl
members_each (more_of-Member name offset kind rest) = ap (with_value (fill kind)) (members_each rest)

-- ---- a number that may be 0

spot_admits : (place : ℕ) (kind : Kind) → option_map_or (λ s. admits s.leaf (pos 0)) (spot_of place kind) false ≡ kind_admits_none kind
spot_admits place (Leaf l) = refl
spot_admits place (Enum l names) = refl
spot_admits place (Set p names) = refl
spot_admits place (Const c) = refl
spot_admits place (Comp' n members) = refl

named_by : (e : ℕ) (name : List ℕ) (m : Member) (ms : List Member) (t : Bool) → option_map_or (λ s. admits s.leaf (pos 0)) (spot_named (end_past e m.offset m.kind) name ms) false ≡ named_admits_none name ms →
    option_map_or (λ s. admits s.leaf (pos 0)) (cond t (spot_of (begin_of e m.offset) m.kind) (spot_named (end_past e m.offset m.kind) name ms)) false ≡ cond t (kind_admits_none m.kind) (named_admits_none name ms)
named_by e name m ms true later = spot_admits (begin_of e m.offset) m.kind
named_by e name m ms false later = later

named_at : (e : ℕ) (name : List ℕ) (ms : List Member) → option_map_or (λ s. admits s.leaf (pos 0)) (spot_named e name ms) false ≡ named_admits_none name ms
named_at e name [] = refl
named_at e name (m ∷ ms) = named_by e name m ms (bytes_eq m.name name) (named_at (end_past e m.offset m.kind) name ms)

pub admitted_is : (dim : List Member) → is_admitted dim (codes "numInGroup") 0 ≡ named_admits_none (codes "numInGroup") dim
admitted_is dim = named_at 0 (codes "numInGroup") dim
