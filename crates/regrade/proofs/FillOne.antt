-- One part that is filled, or not.
use Rattle.std.proofs.Common.{◌≡◌, ◌+◌, ℕ, Bool, true, false, List, [], ◌∷◌, Option, Some, None, Ok, Err, refl, sym, ap, ◌∙◌, pos}
use Rattle.std.specs.Prelude.{not, ◌&&◌, if◌then◌else◌, codes}
use Rattle.sbe_types.specs.declared.kind.ConstValue.{ConstValue}
use Rattle.sbe_types.specs.declared.kind.Kind.{Kind, Const}
use Rattle.sbe_types.specs.declared.schema.Field.{Field}
use Rattle.sbe_types.specs.declared.schema.DataField.{DataField}
use Rattle.sbe_types.specs.declared.schema.Group.{Group, out-Group}
use Rattle.sbe_types.specs.declared.message.Value.{Value}
use Rattle.sbe_types.specs.declared.message.Value.TheVariants as value
use Rattle.sbe_types.specs.declared.message.DataVal.{DataVal}
use Rattle.sbe_types.specs.declared.message.DataVal.TheVariants as dataval
use Rattle.sbe_types.specs.declared.message.GroupVal.{GroupVal}
use Rattle.sbe_types.specs.declared.message.GroupVal.TheVariants as groupval
use Rattle.sbe_types.specs.Places.{is_const}
use Rattle.sbe_types.specs.Shown.{admits}
use Rattle.sbe_wire.specs.Named.{is_admitted}
use Rattle.version_laws.specs.Plain.{is_absent_part}
use Rattle.regrade_laws.specs.Fill.{Fills, fill, fill_or_lack, field_or_fill, part_or_fill}
use Rattle.regrade_laws.specs.Filled.{filled_group, no_entries}
use Rattle.regrade_laws.specs.Counts.{one_if, is_absent, fills_field, fills_part, filled_group_count}
use Rattle.regrade.proofs.Rows.{absent_fills, absent_counts, no_entries_is, none_in}

absent_is : (v : Value) → is_absent v ≡ true → v ≡ value.Absent
absent_is value.Absent h = refl
absent_is v h = cc

-- ---- a field

module _ (f : Field) (v : Value) where
  pub there_told : is_absent v ≡ false → field_or_fill f v ≡ Ok v
  there_told h = by v h
    where
      by : (w : Value) → is_absent w ≡ false → field_or_fill f w ≡ Ok w
      by value.Absent e = cc
      by w e = refl

  pub there_counts : is_absent v ≡ false → one_if (fills_field f v) ≡ 0
  there_counts h = ap (λ t. one_if (t && not (is_const f.kind))) h

  pub filled_told : is_absent v ≡ true → (x : Value) → fill f.kind ≡ Some x → field_or_fill f v ≡ Ok x
  filled_told h x is = ap (field_or_fill f) (absent_is v h) ∙ ap fill_or_lack is

  pub lack_told : is_absent v ≡ true → fill f.kind ≡ None → field_or_fill f v ≡ Err []
  lack_told h is = ap (field_or_fill f) (absent_is v h) ∙ ap fill_or_lack is

  pub filled_counts : is_absent v ≡ true → is_const f.kind ≡ false → one_if (fills_field f v) ≡ 1
  filled_counts h c = ap (λ t. one_if (t && not (is_const f.kind))) h ∙ ap (λ t. one_if (not t)) c

  pub const_counts : is_absent v ≡ true → is_const f.kind ≡ true → one_if (fills_field f v) ≡ 0
  const_counts h c = ap (λ t. one_if (t && not (is_const f.kind))) h ∙ ap (λ t. one_if (not t)) c

-- ---- a data part

module _ (p : DataField) (v : DataVal) where
  pub bytes_told : (bytes : List ℕ) → v ≡ dataval.Bytes bytes → part_or_fill p v ≡ Ok (dataval.Bytes bytes)
  bytes_told bytes is = ap (part_or_fill p) is

  pub bytes_count : (bytes : List ℕ) → v ≡ dataval.Bytes bytes → one_if (fills_part p v) ≡ 0
  bytes_count bytes is = ap (λ x. one_if (is_absent_part x)) is

  pub part_filled : v ≡ dataval.Absent → admits p.length (pos 0) ≡ true → part_or_fill p v ≡ Ok (dataval.Bytes [])
  part_filled is may = ap (part_or_fill p) is ∙ ap (λ t. fill_or_lack (if t then Some (dataval.Bytes []) else None)) may

  pub part_lacks : v ≡ dataval.Absent → admits p.length (pos 0) ≡ false → part_or_fill p v ≡ Err []
  part_lacks is may = ap (part_or_fill p) is ∙ ap (λ t. fill_or_lack (if t then Some (dataval.Bytes []) else None)) may

  pub part_counts : v ≡ dataval.Absent → one_if (fills_part p v) ≡ 1
  part_counts is = ap (λ x. one_if (is_absent_part x)) is

-- ---- a group

module _ (g : Group) (v : GroupVal) (is : v ≡ groupval.Absent) where
  pub group_filled : is_admitted (out-Group g).dim (codes "numInGroup") 0 ≡ true → filled_group g v ≡ Ok (groupval.Entries [])
  group_filled may = ap (filled_group g) is ∙ absent_fills g ∙ no_entries_is g ∙ ap (λ t. fill_or_lack (if t then Some (groupval.Entries []) else None)) may

  pub group_lacks : is_admitted (out-Group g).dim (codes "numInGroup") 0 ≡ false → filled_group g v ≡ Err []
  group_lacks may = ap (filled_group g) is ∙ absent_fills g ∙ no_entries_is g ∙ ap (λ t. fill_or_lack (if t then Some (groupval.Entries []) else None)) may

  pub group_counts : filled_group_count g v ≡ 1
  group_counts = ap (filled_group_count g) is ∙ absent_counts g
