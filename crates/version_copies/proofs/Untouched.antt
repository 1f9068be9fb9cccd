-- A block that fits a level of which each part is effective: nothing of it is filled in, and nothing is dropped.
use Rattle.std.proofs.Common.{◌≡◌, ◌+◌, ℕ, false, List, [], ◌∷◌, Some, None, refl, ap, ap₂, ◌∙◌}
use Rattle.std.specs.Prelude.{not, ◌&&◌}
use denote.Hole.Carrier as carrier
use Rattle.sbe_types.specs.declared.schema.Level as levels
use Rattle.sbe_types.specs.declared.kind.Order.{Order}
use Rattle.sbe_types.specs.declared.kind.Kind.{Kind, Leaf, Enum, Set, Const, Comp'}
use Rattle.sbe_types.specs.declared.kind.LeafShape.{LeafShape}
use Rattle.sbe_types.specs.declared.kind.LeafShape.TheVariants.{Number, RangedText, EncodedText, Octets, Numbers}
use Rattle.sbe_types.specs.declared.kind.Leaf.{Leaf as LeafOf}
use Rattle.sbe_types.specs.declared.schema.Field.{Field}
use Rattle.sbe_types.specs.declared.schema.DataField.{DataField}
use Rattle.sbe_types.specs.declared.schema.Group.{Group, Group'}
use Rattle.sbe_types.specs.declared.schema.Level.{Level, Level', Row_of-Group, end_of-Group, more_of-Group}
use Rattle.sbe_types.specs.declared.message.Block.{Block, out-Block}
use Rattle.sbe_types.specs.declared.message.DataVal.{DataVal}
use Rattle.sbe_types.specs.declared.message.GroupVal.{GroupVal, items-the_row-Block, items_hidden-the_row-Block-1}
use Rattle.sbe_types.specs.declared.message.GroupVal.TheVariants as groupval
use Rattle.sbe_types.specs.declared.message.Value.{Value}
use Rattle.sbe_types.specs.declared.message.Value.TheVariants as value
use Rattle.sbe_types.specs.Places.{is_const}
use Rattle.sbe_types.specs.Wire.{wire_bytes, leaf_bytes, FitsKind}
use Rattle.sbe_wire.specs.Fits.{FieldsFit, PartsFit, EachFits, BlockFits, GroupsFit, GroupFits}
use Rattle.schema_facts.specs.Counted.{total}
use Rattle.version_laws.specs.Differ.{is_old, group_since}
use Rattle.version_laws.specs.Plain.{is_absent_part, is_absent_group}
use Rattle.regrade_laws.specs.Counts.{one_if, count_pairs, is_absent, fills_field, fills_part, drops_field, drops_part, filled_count, filled_groups_count, filled_group_count, dropped_count, dropped_groups_count, dropped_group_count}
use Rattle.regrade_laws.proofs.Effective.{FieldsEffective, PartsEffective, IsEffective, GroupsEffective, GroupEffective}
use Rattle.regrade_laws.proofs.Filling.{choice_yes}

-- ---- nothing is filled in

absent_leaf : (order : Order) (l : LeafOf) (shape : LeafShape) → leaf_bytes order shape l value.Absent ≡ None
absent_leaf order l Number = refl
absent_leaf order l RangedText = refl
absent_leaf order l EncodedText = refl
absent_leaf order l Octets = refl
absent_leaf order l Numbers = refl

absent_bytes : (order : Order) (kind : Kind) → wire_bytes order kind value.Absent ≡ None
absent_bytes order (Leaf l) = absent_leaf order l l.shape
absent_bytes order (Enum l names) = refl
absent_bytes order (Set p names) = refl
absent_bytes order (Const c) = refl
absent_bytes order (Comp' n members) = refl

field_there : (order : Order) (f : Field) (v : Value) → FitsKind order f.kind v → fills_field f v ≡ false
field_there order f value.Absent fits = let some : wire_bytes order f.kind value.Absent ≡ Some fits.0 = fits.1 in let none = absent_bytes order f.kind in cc
field_there order f v fits = refl

fields_there : (order : Order) (fs : List Field) (vs : List Value) → FieldsFit order fs vs → count_pairs fills_field fs vs ≡ 0
fields_there order [] [] fits = refl
fields_there order [] (v ∷ vs) fits = absurd fits
fields_there order (f ∷ fs) [] fits = absurd fits
fields_there order (f ∷ fs) (v ∷ vs) fits = ap₂ (λ t n. one_if t + n) (field_there order f v fits.0) (fields_there order fs vs fits.1)

parts_there : (ps : List DataField) (vs : List DataVal) → PartsFit ps vs → count_pairs fills_part ps vs ≡ 0
parts_there [] [] fits = refl
parts_there [] (v ∷ vs) fits = absurd fits
parts_there (p ∷ ps) [] fits = absurd fits
parts_there (p ∷ ps) (v ∷ vs) fits = ap₂ (λ t n. one_if t + n) (ap is_absent_part fits.0.1) (parts_there ps vs fits.1)

entries_there : (order : Order) (level : Level) → ((b : Block) → BlockFits order level b → filled_count level b ≡ 0) →
    (es : List Block) → EachFits (λ e. BlockFits order level e) es → total (λ e. filled_count level e) es ≡ 0
entries_there order level there [] fits = refl
entries_there order level there (e ∷ es) fits = ap₂ (λ a b. a + b) (there e fits.0) (entries_there order level there es fits.1)

mutual
  unfolding filled_count levels.out-Level carrier.out

  pub none_filled : (order : Order) (level : Level) (block : Block) → BlockFits order level block → filled_count level block ≡ 0
  none_filled order (Level' name id semantic since size fields n groups parts) block fits =
      let f = fields_there order fields (out-Block block).fields fits.0 in
      let g = groups_there order groups (out-Block block).groups fits.1 in
      ap₂ (λ a b. a + b) (ap₂ (λ a b. a + b) f g) (parts_there parts (out-Block block).parts fits.2)

  groups_there : (order : Order) {n : _} (row : Row_of-Group n) (vs : List GroupVal) → GroupsFit order row vs → filled_groups_count row vs ≡ 0
  groups_there order end_of-Group vs fits = refl
  groups_there order (more_of-Group g gs) [] fits = absurd fits
  groups_there order (more_of-Group g gs) (v ∷ vs) fits = ap₂ (λ a b. a + b) (group_there order g v fits.0) (groups_there order gs vs fits.1)

  group_there : (order : Order) (g : Group) (v : GroupVal) → GroupFits order g v → filled_group_count g v ≡ 0
  group_there order (Group' dim level) v fits =
      ap (filled_group_count (Group' dim level)) fits.1
      ∙ ap (λ bs. total (λ e. filled_count level e) bs) (items_hidden-the_row-Block-1 fits.0)
      ∙ entries_there order level (none_filled order level) fits.0 fits.3

-- ---- nothing is dropped

fields_kept : (version : ℕ) (fs : List Field) (vs : List Value) → FieldsEffective version fs → count_pairs (drops_field version) fs vs ≡ 0
fields_kept version [] vs all = refl
fields_kept version (f ∷ fs) [] all = refl
fields_kept version (f ∷ fs) (v ∷ vs) all =
    ap₂ (λ t n. one_if (not t && (not (is_absent v) && not (is_const f.kind))) + n) all.0 (fields_kept version fs vs all.1)

parts_kept : (version : ℕ) (ps : List DataField) (vs : List DataVal) → PartsEffective version ps → count_pairs (drops_part version) ps vs ≡ 0
parts_kept version [] vs all = refl
parts_kept version (p ∷ ps) [] all = refl
parts_kept version (p ∷ ps) (v ∷ vs) all = ap₂ (λ t n. one_if (not t && not (is_absent_part v)) + n) all.0 (parts_kept version ps vs all.1)

entries_kept : (version : ℕ) (level : Level) → ((b : Block) → dropped_count version level b ≡ 0) → (es : List Block) →
    total (λ e. dropped_count version level e) es ≡ 0
entries_kept version level kept [] = refl
entries_kept version level kept (e ∷ es) = ap₂ (λ a b. a + b) (kept e) (entries_kept version level kept es)

mutual
  unfolding dropped_count levels.out-Level carrier.out

  pub none_dropped : (version : ℕ) (level : Level) (block : Block) → IsEffective version level → dropped_count version level block ≡ 0
  none_dropped version (Level' name id semantic since size fields n groups parts) block all =
      let f = fields_kept version fields (out-Block block).fields all.0 in
      let g = groups_kept version groups (out-Block block).groups all.1 in
      ap₂ (λ a b. a + b) (ap₂ (λ a b. a + b) f g) (parts_kept version parts (out-Block block).parts all.2)

  groups_kept : (version : ℕ) {n : _} (row : Row_of-Group n) (vs : List GroupVal) → GroupsEffective version row → dropped_groups_count version row vs ≡ 0
  groups_kept version end_of-Group vs all = refl
  groups_kept version (more_of-Group g gs) [] all = refl
  groups_kept version (more_of-Group g gs) (v ∷ vs) all =
      ap₂ (λ a b. a + b) (choice_yes (is_old version (group_since g)) (dropped_group_count version g v) (one_if (not (is_absent_group v))) all.0 ∙ group_kept version g v all.1)
      (groups_kept version gs vs all.2)

  group_kept : (version : ℕ) (g : Group) (v : GroupVal) → GroupEffective version g → dropped_group_count version g v ≡ 0
  group_kept version (Group' dim level) groupval.Absent all = refl
  group_kept version (Group' dim level) (groupval.Entries' n row) all = entries_kept version level (λ b. none_dropped version level b all) (items-the_row-Block _ row)
