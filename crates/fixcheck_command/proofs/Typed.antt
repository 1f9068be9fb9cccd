-- The type and the number of the fields of a text that a table holds; and the sum that a fault tells.
use Rattle.std.proofs.Common.{◌≡◌, ℕ, suc, ◌+◌, ◌-◌, ◌<◌, ◌≤◌, ◌%◌, List, [], ◌∷◌, ◌++◌, length, take, drop, Some, refl, sym, ap, ◌∙◌, arith, append_assoc, length-append}
use Rattle.std.specs.Prelude.{slice_get, sum}
use Rattle.std.proofs.Math.Seq.{take-append_seam, drop-append_seam}
use Rattle.tagvalue_codec.specs.declared.data_tags.Pair.{Pair}
use Rattle.tagvalue_codec.specs.declared.table.FixField.{FixField}
use Rattle.tagvalue_codec.specs.declared.read.TCode.{TCode}
use Rattle.tagvalue_codec.specs.declared.read.TCode.TheVariants.{FirstTag, BodyLength, LengthWrong, MsgType, CheckSum, Field as NoField, DataLength, TooMany}
use Rattle.tagvalue_codec.specs.declared.read.FixFault.{FixFault}
use Rattle.tagvalue_codec.specs.Fields.{soh, Field, tag_bytes, field_bytes}
use Rattle.tagvalue_codec.specs.Texts.{Parts, front, FaultOf, IsFirstFault}
use Rattle.tagvalue_codec.specs.Reading.{placed_at, placed}
use Rattle.tagvalue_codec.specs.Places.{Holds}
use Rattle.fixcheck_command.specs.FixCheck.{type_of, HasDigits, HoldsType}

-- ---- the table of a text

placed_many : (at : ℕ) (fs : List Field) → length (placed at fs) ≡ length fs
placed_many at [] = refl
placed_many at (f ∷ fs) = ap suc (placed_many (at + length (field_bytes f)) fs)

-- bytes between others
between : (a b c : List ℕ) (n : ℕ) → n ≡ length a → take (length b) (drop n (a ++ (b ++ c))) ≡ b
between a b c n e = ap (λ k. take (length b) (drop k (a ++ (b ++ c)))) e ∙ ap (take (length b)) (drop-append_seam a (b ++ c)) ∙ take-append_seam b c

module _ (tags : List Pair) (text : List ℕ) (table : List FixField) (h : Holds tags text table) where
  abbrev p : Parts
  p = h.is.parts

  -- where the type begins
  abbrev type_at : ℕ
  type_at = 0 + length (field_bytes p.begin) + length (field_bytes p.size)

  abbrev pub type_field : FixField
  type_field = placed_at type_at p.kind

  -- what stands before its value, and after it
  abbrev before : List ℕ
  before = field_bytes p.begin ++ (field_bytes p.size ++ tag_bytes p.kind.tag)

  abbrev after : List ℕ
  after = soh ∷ (p.rest ++ p.last)

  pub third : slice_get table 2 ≡ Some type_field
  third = ap (λ t. slice_get t 2) (h.table_is ∙ ap (placed 0) h.is.fields_are)

  text_is : text ≡ before ++ (p.kind.value ++ after)
  text_is = h.is.typed.spans.opens.text_is ∙ parted (field_bytes p.begin) (field_bytes p.size) (tag_bytes p.kind.tag) p.kind.value p.rest p.last
    where
      parted : (a b t v r l : List ℕ) → a ++ (b ++ (((t ++ (v ++ (soh ∷ []))) ++ r) ++ l)) ≡ (a ++ (b ++ t)) ++ (v ++ (soh ∷ (r ++ l)))
      parted a b t v r l =
          let rest : List ℕ = v ++ (soh ∷ (r ++ l)) in
          let inner : ((t ++ (v ++ (soh ∷ []))) ++ r) ++ l ≡ t ++ rest =
          append_assoc (t ++ (v ++ (soh ∷ []))) r l ∙ append_assoc t (v ++ (soh ∷ [])) (r ++ l) ∙ ap (λ x. t ++ x) (append_assoc v (soh ∷ []) (r ++ l)) in
          ap (λ x. a ++ (b ++ x)) inner ∙ ap (λ x. a ++ x) (sym (append_assoc b t rest)) ∙ sym (append_assoc a (b ++ t) rest)

  from_is : type_field.from ≡ length before
  from_is =
      let one = length-append (field_bytes p.begin) (field_bytes p.size ++ tag_bytes p.kind.tag) in
      let two = length-append (field_bytes p.size) (tag_bytes p.kind.tag) in
      omega (arith, one, two)

  -- the table has the type, within the text
  pub holds_type : HoldsType text table
  holds_type = (type_field, third, omega arith, within)
    where
      within : type_field.to ≤ length text
      within =
          let whole : length text ≡ length before + length (p.kind.value ++ after) = ap length text_is ∙ length-append before (p.kind.value ++ after) in
          let more = length-append p.kind.value after in
          omega (arith, whole, more, from_is)

  pub type_is : take (type_field.to - type_field.from) (drop type_field.from text) ≡ type_of h.fields
  type_is =
      let long : type_field.to - type_field.from ≡ length p.kind.value = omega arith in
      ap (λ n. take n (drop type_field.from text)) long ∙ ap (λ t. take (length p.kind.value) (drop type_field.from t)) text_is
      ∙ between before p.kind.value after type_field.from from_is ∙ sym (ap type_of h.is.fields_are)

  pub count_is : length table ≡ length h.fields
  count_is = ap length h.table_is ∙ placed_many 0 h.fields

-- ---- the sum that a fault tells

digits_by : (tags : List Pair) (text : List ℕ) (code : TCode) (offset detail : ℕ) → FaultOf tags text code offset detail → HasDigits code detail
digits_by tags text FirstTag offset detail h e = cc
digits_by tags text BodyLength offset detail h e = cc
digits_by tags text LengthWrong offset detail h e = cc
digits_by tags text MsgType offset detail h e = cc
digits_by tags text CheckSum offset detail h e = small detail (sum (front h.0)) h.7
  where
    small : (n total : ℕ) → n ≡ total % 256 → n < 1000
    small n total same = omega (arith, same)
digits_by tags text NoField offset detail h e = cc
digits_by tags text DataLength offset detail h e = cc
digits_by tags text TooMany offset detail h e = cc

pub has_digits : (tags : List Pair) (text : List ℕ) (fault : FixFault) → IsFirstFault tags text fault → HasDigits fault.code fault.detail
has_digits tags text fault h = digits_by tags text fault.code fault.offset fault.detail h
