-- A message that fits has each part of its level, and none absent.
use Rattle.std.proofs.Common.{◌≡◌, ℕ, suc, ◌+◌, List, [], ◌∷◌, length, Some, None, Ok, refl, sym, ap, ◌∙◌}
use denote.Hole.Carrier as carrier
use Rattle.sbe_types.specs.declared.schema.Level as levels
use Rattle.sbe_types.specs.declared.kind.Order.{Order}
use Rattle.sbe_types.specs.declared.kind.Kind.{Kind, Leaf, Enum, Set, Const, Comp'}
use Rattle.sbe_types.specs.declared.kind.LeafShape.{LeafShape}
use Rattle.sbe_types.specs.declared.kind.LeafShape.TheVariants.{Number, RangedText, EncodedText, Octets, Numbers}
use Rattle.sbe_types.specs.declared.kind.Leaf.{Leaf as LeafOf}
use Rattle.sbe_types.specs.declared.path.Step.TheVariants as way
use Rattle.sbe_types.specs.declared.schema.Field.{Field}
use Rattle.sbe_types.specs.declared.schema.DataField.{DataField}
use Rattle.sbe_types.specs.declared.schema.Group.{Group, Group'}
use Rattle.sbe_types.specs.declared.schema.Level.{Level, Level', out-Level, Row_of-Group, end_of-Group, more_of-Group}
use Rattle.sbe_types.specs.declared.message.Block.{Block, out-Block}
use Rattle.sbe_types.specs.declared.message.Value.{Value}
use Rattle.sbe_types.specs.declared.message.Value.TheVariants as value
use Rattle.sbe_types.specs.declared.message.DataVal.{DataVal}
use Rattle.sbe_types.specs.declared.message.GroupVal.{GroupVal, items_hidden-the_row-Block-1}
use Rattle.sbe_types.specs.Places.{end_past}
use Rattle.sbe_types.specs.Wire.{wire_bytes, leaf_bytes, FitsKind}
use Rattle.sbe_wire.specs.Fits.{FieldsFit, PartFits, PartsFit, EachFits, BlockFits, GroupsFit, GroupFits}
use Rattle.version_laws.specs.Differ.{is_old, group_since}
use Rattle.version_laws.specs.Plain.{AllOf}
use Rattle.version_laws.specs.Projected.{old_field, old_part}
use Rattle.version_laws.proofs.Stands.{Lists, FieldsStand, PartsStand, LevelStands, GroupsStand, GroupStands}
use Rattle.version_laws.proofs.BlockMoves.{taken, passed, take_it, pass_it, by_bool}
use Rattle.regrade_laws.specs.Fill.{field_or_fill, part_or_fill}
use Rattle.regrade_laws.specs.Filled.{in_step, then_all, filled_list, filled_entries, group_of, block_of, row_length, filled_block, filled_groups, filled_group}
use Rattle.regrade_laws.proofs.Filling.{HasList, AllThere, there_list}
use Rattle.regrade_laws.proofs.Back.{HasBlock, HasGroups, HasGroup}

-- ---- what fits isn't absent

absent_leaf : (order : Order) (l : LeafOf) (shape : LeafShape) → leaf_bytes order shape l value.Absent ≡ None
absent_leaf order l Number = refl
absent_leaf order l RangedText = refl
absent_leaf order l EncodedText = refl
absent_leaf order l Octets = refl
absent_leaf order l Numbers = refl

absent_bytes : (order : Order) (kind : Kind) → wire_bytes order kind value.Absent ≡ None
absent_bytes order (Leaf l) = absent_leaf order l l.shape
absent_bytes order (Enum l names) = refl
absent_bytes order (Set p names) = refl
absent_bytes order (Const c) = refl
absent_bytes order (Comp' n members) = refl

pub fits_there : (order : Order) (kind : Kind) (f : Field) (v : Value) → FitsKind order kind v → field_or_fill f v ≡ Ok v
fits_there order kind f value.Absent fits = let some : wire_bytes order kind value.Absent ≡ Some fits.0 = fits.1 in let none = absent_bytes order kind in cc
fits_there order kind f v fits = refl

pub part_there : (p q : DataField) (v : DataVal) → PartFits p v → part_or_fill q v ≡ Ok v
part_there p q v fits = ap (part_or_fill q) fits.1 ∙ ap Ok (sym fits.1)

-- ---- with each part of the level itself

fields_there : (order : Order) (fs : List Field) (vs : List Value) → FieldsFit order fs vs → AllThere field_or_fill fs vs
fields_there order [] [] fits = tt
fields_there order [] (v ∷ vs) fits = absurd fits
fields_there order (f ∷ fs) [] fits = absurd fits
fields_there order (f ∷ fs) (v ∷ vs) fits = (fits_there order f.kind f v fits.0, fields_there order fs vs fits.1)

parts_there : (ps : List DataField) (vs : List DataVal) → PartsFit ps vs → AllThere part_or_fill ps vs
parts_there [] [] fits = tt
parts_there [] (v ∷ vs) fits = absurd fits
parts_there (p ∷ ps) [] fits = absurd fits
parts_there (p ∷ ps) (v ∷ vs) fits = (part_there p p v fits.0, parts_there ps vs fits.1)

there_entries : (order : Order) (level : Level) → ((b : Block) → BlockFits order level b → filled_block level b ≡ Ok b) → (i : ℕ) (es : List Block) → EachFits (λ e. BlockFits order level e) es →
    filled_entries (λ e. filled_block level e) i es ≡ Ok es
there_entries order level there i [] fits = refl
there_entries order level there i (e ∷ es) fits =
    ap (λ b. then_all (in_step (way.Entry i) b) (filled_entries (λ e. filled_block level e) (suc i) es)) (there e fits.0) ∙ ap (then_all (Ok e)) (there_entries order level there (suc i) es fits.1)

mutual
  unfolding filled_block filled_groups filled_group levels.out-Level carrier.out

  -- where nothing is absent, nothing is filled
  pub there_block : (order : Order) (level : Level) (block : Block) → BlockFits order level block → filled_block level block ≡ Ok block
  there_block order (Level' name id semantic since size fields n groups parts) block fits =
      let old = out-Block block in
      let f = there_list field_or_fill 0 fields old.fields (fields_there order fields old.fields fits.0) in
      let g = there_groups order (length fields) groups old.groups fits.1 in
      let d = there_list part_or_fill (length fields + row_length groups) parts old.parts (parts_there parts old.parts fits.2) in
      ap (λ x. block_of x (filled_groups (length fields) groups old.groups) (filled_list part_or_fill (length fields + row_length groups) parts old.parts)) f
      ∙ ap (λ x. block_of (Ok old.fields) x (filled_list part_or_fill (length fields + row_length groups) parts old.parts)) g
      ∙ ap (λ x. block_of (Ok old.fields) (Ok old.groups) x) d

  there_groups : (order : Order) (i : ℕ) {n : _} (row : Row_of-Group n) (vs : List GroupVal) → GroupsFit order row vs → filled_groups i row vs ≡ Ok vs
  there_groups order i end_of-Group [] fits = refl
  there_groups order i end_of-Group (v ∷ vs) fits = absurd fits
  there_groups order i (more_of-Group g gs) [] fits = absurd fits
  there_groups order i (more_of-Group g gs) (v ∷ vs) fits =
      ap (λ x. then_all (in_step (way.Part i) x) (filled_groups (suc i) gs vs)) (there_group order g v fits.0) ∙ ap (then_all (Ok v)) (there_groups order (suc i) gs vs fits.1)

  there_group : (order : Order) (g : Group) (v : GroupVal) → GroupFits order g v → filled_group g v ≡ Ok v
  there_group order (Group' dim level) v fits =
      let es = fits.0 in
      let entries = there_entries order level (there_block order level) 0 es fits.3 in
      ap (filled_group (Group' dim level)) fits.1 ∙ ap (λ bs. group_of (filled_entries (λ e. filled_block level e) 0 bs)) (items_hidden-the_row-Block-1 es) ∙ ap group_of entries ∙ ap Ok (sym fits.1)

-- ---- with the parts of a later level that stand for those of this one

module _ (R : Lists) (version : ℕ) (order : Order) where
  fields_have : (e : ℕ) (olds : List Field) (d : ℕ) (news : List Field) (vs : List Value) → FieldsStand R version e olds d news → FieldsFit order olds vs → HasList field_or_fill (old_field version) news vs
  fields_have e [] d [] [] h fits = tt
  fields_have e [] d [] (v ∷ vs) h fits = absurd fits
  fields_have e (f ∷ fs) d [] vs h fits = absurd h
  fields_have e [] d (g ∷ gs) [] h fits =
      by_bool _ (is_old version g.since) (λ o. absurd (taken _ _ _ o h)) (λ o. (o, fields_have e [] (end_past d g.offset g.kind) gs [] (passed _ _ _ o h) tt))
  fields_have e [] d (g ∷ gs) (v ∷ vs) h fits = absurd fits
  fields_have e (f ∷ fs) d (g ∷ gs) [] h fits = absurd fits
  fields_have e (f ∷ fs) d (g ∷ gs) (v ∷ vs) h fits =
      by_bool _ (is_old version g.since)
      (λ o. let k = taken _ _ _ o h in take_it _ _ _ o (fits_there order f.kind g v fits.0, fields_have (end_past e f.offset f.kind) fs (end_past d g.offset g.kind) gs vs k.1 fits.1))
      (λ o. pass_it _ _ _ o (fields_have e (f ∷ fs) (end_past d g.offset g.kind) gs (v ∷ vs) (passed _ _ _ o h) fits))

  parts_have : (olds news : List DataField) (vs : List DataVal) → PartsStand version olds news → PartsFit olds vs → HasList part_or_fill (old_part version) news vs
  parts_have [] [] [] h fits = tt
  parts_have [] [] (v ∷ vs) h fits = absurd fits
  parts_have (f ∷ fs) [] vs h fits = absurd h
  parts_have [] (g ∷ gs) [] h fits = by_bool _ (is_old version g.since) (λ o. absurd (taken _ _ _ o h)) (λ o. (o, parts_have [] gs [] (passed _ _ _ o h) tt))
  parts_have [] (g ∷ gs) (v ∷ vs) h fits = absurd fits
  parts_have (f ∷ fs) (g ∷ gs) [] h fits = absurd fits
  parts_have (f ∷ fs) (g ∷ gs) (v ∷ vs) h fits =
      by_bool _ (is_old version g.since)
      (λ o. let k = taken _ _ _ o h in take_it _ _ _ o (part_there f g v fits.0, parts_have fs gs vs k.1 fits.1))
      (λ o. pass_it _ _ _ o (parts_have (f ∷ fs) gs (v ∷ vs) (passed _ _ _ o h) fits))

  entries_have : (old level : Level) → ((b : Block) → BlockFits order old b → HasBlock version level b) → (es : List Block) → EachFits (λ e. BlockFits order old e) es → AllOf (λ e. HasBlock version level e) es
  entries_have old level have [] fits = tt
  entries_have old level have (e ∷ es) fits = (have e fits.0, entries_have old level have es fits.1)

  mutual
    pub block_has : (old level : Level) (block : Block) → LevelStands R version old level → BlockFits order old block → HasBlock version level block
    block_has (Level' _ _ _ _ _ fs _ os ps) (Level' _ _ _ _ _ gs _ ns qs) block h fits =
        (fields_have 0 fs 0 gs (out-Block block).fields h.0 fits.0, groups_have os ns (out-Block block).groups h.1 fits.1, parts_have ps qs (out-Block block).parts h.2 fits.2)

    groups_have : {n : _} (olds : Row_of-Group n) {k : _} (news : Row_of-Group k) (vs : List GroupVal) → GroupsStand R version olds news → GroupsFit order olds vs → HasGroups version news vs
    groups_have end_of-Group end_of-Group [] h fits = tt
    groups_have end_of-Group end_of-Group (v ∷ vs) h fits = absurd fits
    groups_have (more_of-Group f fs) end_of-Group vs h fits = absurd h
    groups_have end_of-Group (more_of-Group g gs) [] h fits = by_bool _ (is_old version (group_since g)) (λ o. absurd (taken _ _ _ o h)) (λ o. (o, groups_have end_of-Group gs [] (passed _ _ _ o h) tt))
    groups_have end_of-Group (more_of-Group g gs) (v ∷ vs) h fits = absurd fits
    groups_have (more_of-Group f fs) (more_of-Group g gs) [] h fits = absurd fits
    groups_have (more_of-Group f fs) (more_of-Group g gs) (v ∷ vs) h fits =
        by_bool _ (is_old version (group_since g))
        (λ o. let k = taken _ _ _ o h in take_it _ _ _ o (group_has f g v k.0 fits.0, groups_have fs gs vs k.1 fits.1))
        (λ o. pass_it _ _ _ o (groups_have (more_of-Group f fs) gs (v ∷ vs) (passed _ _ _ o h) fits))

    group_has : (f g : Group) (v : GroupVal) → GroupStands R version f g → GroupFits order f v → HasGroup version g v
    group_has (Group' od old) (Group' dim level) v h fits = (fits.0, fits.1, entries_have old level (λ b k. block_has old level b h.2 k) fits.0 fits.3)
