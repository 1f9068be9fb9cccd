-- A value without a misfit fits.
use Rattle.std.proofs.Common.{◌≡◌, ℕ, suc, ◌+◌, ◌*◌, ◌^◌, ◌≤◌, Bool, true, false, cond, List, [], ◌∷◌, ◌++◌, length, take, drop, Option, Some, None, ℤ, pos, refl, sym, ap, ◌∙◌, subst, arith, length-append}
use Rattle.std.specs.Prelude.{not, ◌&&◌, ◌||◌, ◌==◌, nat_le, nat_lt, find}
use Rattle.std.specs.List.{list_all}
use Rattle.std.proofs.Math.Seq.{take-append_seam, drop-append_seam}
use Rattle.std.proofs.lemmas.Bool.Decides.{nat_tests}
use Rattle.sbe_types.specs.declared.kind.Order.{Order}
use Rattle.sbe_types.specs.declared.kind.LeafShape.{LeafShape}
use Rattle.sbe_types.specs.declared.kind.LeafShape.TheVariants.{Number, RangedText, EncodedText, Octets, Numbers}
use Rattle.sbe_types.specs.declared.kind.Leaf.{Leaf as LeafOf}
use Rattle.sbe_types.specs.declared.kind.Named.{Named}
use Rattle.sbe_types.specs.declared.kind.Primitive.{Primitive}
use Rattle.sbe_types.specs.declared.kind.Kind.{Kind, Leaf, Enum, Set, Const, Comp', Row_of-Member, end_of-Member, more_of-Member}
use Rattle.sbe_types.specs.declared.path.Step.TheVariants as way
use Rattle.sbe_types.specs.declared.message.Elem.{Elem}
use Rattle.sbe_types.specs.declared.message.Elem.TheVariants as elem
use Rattle.sbe_types.specs.declared.message.Value.{Value, items-the_row-Value}
use Rattle.sbe_types.specs.declared.message.Value.TheVariants as value
use Rattle.sbe_types.specs.Numbers.{number_of, bytes_of, prim_width, natural, has_bytes, digits_in}
use Rattle.sbe_types.specs.Places.{width}
use Rattle.sbe_types.specs.Shown.{admits, is_null, is_optional, is_octets, is_listed, has_listed_bits, shown_element, shown_number, shown_enum, shown_set}
use Rattle.sbe_types.specs.Shows.{ShowsLeaf, ShowsText, ShowsElements, ShowsArray, is_text_byte, is_empty, text_value}
use Rattle.sbe_types.specs.Wire.{both, element_bytes, elements_bytes, array_bytes, leaf_bytes, text_bytes, member_values, FitsKind}
use Rattle.sbe_types.proofs.Inverse.{number_of-bytes_of, bytes_of-width}
use Rattle.sbe_wire.specs.Placed.{IsPlacedKind, IsPlacedRow}
use Rattle.sbe_wire.specs.declared.codes.NCode.TheVariants as code
use Rattle.sbe_wire.specs.Misfit.{Misfit, unless, misfit_here, misfit_in, byte_misfit, other_kind, number_misfit, text_misfit, element_misfit, elements_misfit, array_misfit, leaf_misfit, enum_misfit, set_misfit, const_misfit, same_length, value_misfit, row_misfit}
use Rattle.writing_laws.specs.Writable.{HasNumber, IsWritableLeaf, IsWritableEnum, IsWritableSet, IsWritableKind, IsWritableRow}
use Rattle.writing_laws.proofs.Slots.{RowFits, no_member, one_member, of_members}
use Rattle.writing_laws.proofs.ListRows.{comp_is}
use Rattle.writing_laws.proofs.Numerals.{untrue, both_true, is_null_of}
use Rattle.writing_laws.proofs.Refusals.{some_none, unless_true, or_none, in_none, byte_none, found_none}
use Rattle.writing_laws.proofs.KindBack.{text_fits}

-- the bytes of a number that a primitive has
pub numeral : (order : Order) (p : Primitive) (n : ℤ) → HasNumber p n → (bytes : List ℕ) × (bytes_of order p n ≡ Some bytes) × (length bytes ≡ prim_width p) × (number_of order p bytes ≡ n)
numeral order p n h =
    let is : bytes_of order p n ≡ Some (digits_in order (prim_width p) h.0) = ap (has_bytes order (prim_width p)) h.1 in
    (digits_in order (prim_width p) h.0, is, (bytes_of-width order p n _ is).0, number_of-bytes_of order p n _ is)

not_false : (t : Bool) → not t ≡ true → t ≡ false
not_false true h = absurd (untrue h)
not_false false h = refl

module _ (order : Order) (leaf : LeafOf) where
  abbrev w : ℕ
  w = prim_width leaf.prim

  abbrev Fitting : LeafShape → Value → Type 0
  Fitting s v = (bytes : List ℕ) × (leaf_bytes order s leaf v ≡ Some bytes) × (length bytes ≡ width (Leaf leaf)) × ((length bytes ≡ width (Leaf leaf)) × ShowsLeaf order s leaf v bytes)

  -- ---- a number

  single : IsWritableLeaf leaf → leaf.shape ≡ Number → w ≡ width (Leaf leaf)
  single writable is = omega arith ∙ ap (λ n. w * n) (sym (writable.single is))

  num_fits : IsWritableLeaf leaf → leaf.shape ≡ Number → (n : ℤ) → number_misfit leaf (value.Num n) ≡ None → Fitting Number (value.Num n)
  num_fits writable is n h =
      let two = both_true (admits leaf n) (not (is_null leaf n)) (unless_true _ code.Range n h) in
      let has = numeral order leaf.prim n (writable.admitted n two.0) in
      let long : length has.0 ≡ width (Leaf leaf) = has.2 ∙ single writable is in
      let shows : shown_number leaf (number_of order leaf.prim has.0) ≡ Some (value.Num n) =
      ap (shown_number leaf) has.3
      ∙ ap (λ t. cond t (Some value.Null) (cond (admits leaf n) (Some (value.Num n)) None)) (not_false (is_null leaf n) two.1)
      ∙ ap (λ t. cond t (Some (value.Num n)) None) two.0 in
      (has.0, has.1, long, (long, shows))

  null_fits : IsWritableLeaf leaf → leaf.shape ≡ Number → number_misfit leaf value.Null ≡ None → Fitting Number value.Null
  null_fits writable is h =
      let optional : is_optional leaf.presence ≡ true = unless_true _ code.Kind (pos 0) h in
      let has = numeral order leaf.prim leaf.null writable.null in
      let long : length has.0 ≡ width (Leaf leaf) = has.2 ∙ single writable is in
      let shows : shown_number leaf (number_of order leaf.prim has.0) ≡ Some value.Null =
      ap (shown_number leaf) has.3
      ∙ ap (λ t. cond t (Some value.Null) (cond (admits leaf leaf.null) (Some (value.Num leaf.null)) None)) (is_null_of leaf optional (ap is_octets is)) in
      (has.0, has.1, long, (long, shows))

  number_fits : IsWritableLeaf leaf → leaf.shape ≡ Number → (v : Value) → number_misfit leaf v ≡ None → Fitting Number v
  number_fits writable is (value.Num n) h = num_fits writable is n h
  number_fits writable is value.Null h = null_fits writable is h
  number_fits writable is (value.Text text) h = absurd (some_none h)
  number_fits writable is (value.Nums elements) h = absurd (some_none h)
  number_fits writable is (value.Enum n) h = absurd (some_none h)
  number_fits writable is (value.Set n) h = absurd (some_none h)
  number_fits writable is (value.Comp' n row) h = absurd (some_none h)
  number_fits writable is value.Const h = absurd (some_none h)
  number_fits writable is value.Absent h = absurd (some_none h)

  -- ---- a text

  abbrev TextFits : Value → Type 0
  TextFits v = (bytes : List ℕ) × (text_bytes leaf v ≡ Some bytes) × (length bytes ≡ width (Leaf leaf)) × ((length bytes ≡ width (Leaf leaf)) × ShowsText leaf v bytes)

  text_by : (v : Value) (text : List ℕ) → text_value leaf text ≡ v → length text ≤ width (Leaf leaf) → list_all (is_text_byte leaf) text ≡ true → TextFits v
  text_by v text is short good =
      let fits = text_fits leaf text short good in
      subst TextFits is (fits.0, fits.1, fits.2, (fits.2, fits.3))

  of_text : (v : Value) → text_misfit leaf v ≡ None → TextFits v
  of_text (value.Text text) h =
      let two = or_none (unless (nat_le (length text) (width (Leaf leaf)) && not (is_optional leaf.presence && is_empty text)) (misfit_here code.Range (pos (length text)))) (byte_misfit (find (λ b. not (is_text_byte leaf b)) text)) h in
      let sized = both_true (nat_le (length text) (width (Leaf leaf))) (not (is_optional leaf.presence && is_empty text)) (unless_true _ code.Range (pos (length text)) two.0) in
      let fits : nat_le (length text) (width (Leaf leaf)) ≡ true = sized.0 in
      text_by (value.Text text) text (ap (λ t. cond t value.Null (value.Text text)) (not_false (is_optional leaf.presence && is_empty text) sized.1)) (grind (arith, nat_tests))
      (found_none (is_text_byte leaf) text (byte_none (find (λ b. not (is_text_byte leaf b)) text) two.1))
  of_text value.Null h =
      let optional : is_optional leaf.presence ≡ true = unless_true _ code.Kind (pos 0) h in
      text_by value.Null [] (ap (λ t. cond (t && true) value.Null (value.Text [])) optional) (omega arith) refl
  of_text (value.Num n) h = absurd (some_none h)
  of_text (value.Nums elements) h = absurd (some_none h)
  of_text (value.Enum n) h = absurd (some_none h)
  of_text (value.Set n) h = absurd (some_none h)
  of_text (value.Comp' n row) h = absurd (some_none h)
  of_text value.Const h = absurd (some_none h)
  of_text value.Absent h = absurd (some_none h)

  -- ---- an array

  abbrev ElementFits : Elem → Type 0
  ElementFits e = (bytes : List ℕ) × (element_bytes order leaf e ≡ Some bytes) × (length bytes ≡ w) × (shown_element leaf (number_of order leaf.prim bytes) ≡ Some e)

  element_fits : IsWritableLeaf leaf → (e : Elem) → element_misfit leaf e ≡ None → ElementFits e
  element_fits writable (elem.Num n) h =
      let two = both_true (admits leaf n) (not (is_null leaf n)) (unless_true _ code.Range n h) in
      let has = numeral order leaf.prim n (writable.admitted n two.0) in
      let shows : shown_element leaf (number_of order leaf.prim has.0) ≡ Some (elem.Num n) =
      ap (shown_element leaf) has.3
      ∙ ap (λ t. cond t (Some elem.Null) (cond (admits leaf n) (Some (elem.Num n)) None)) (not_false (is_null leaf n) two.1)
      ∙ ap (λ t. cond t (Some (elem.Num n)) None) two.0 in
      (has.0, has.1, has.2, shows)
  element_fits writable elem.Null h =
      let two = both_true (is_optional leaf.presence) (not (is_octets leaf.shape)) (unless_true _ code.Kind (pos 0) h) in
      let has = numeral order leaf.prim leaf.null writable.null in
      let shows : shown_element leaf (number_of order leaf.prim has.0) ≡ Some elem.Null =
      ap (shown_element leaf) has.3
      ∙ ap (λ t. cond t (Some elem.Null) (cond (admits leaf leaf.null) (Some (elem.Num leaf.null)) None)) (is_null_of leaf two.0 (not_false (is_octets leaf.shape) two.1)) in
      (has.0, has.1, has.2, shows)

  elements_fit : IsWritableLeaf leaf → (i : ℕ) (es : List Elem) → elements_misfit leaf i es ≡ None → (bytes : List ℕ) × (elements_bytes order leaf es ≡ Some bytes) × (length bytes ≡ w * length es) × ShowsElements order leaf es bytes
  elements_fit writable i [] h = ([], refl, omega arith, refl)
  elements_fit writable i (e ∷ es) h =
      let two = or_none (misfit_in (way.Elem i) (element_misfit leaf e)) (elements_misfit leaf (suc i) es) h in
      let here = element_fits writable e (in_none (way.Elem i) (element_misfit leaf e) two.0) in
      let there = elements_fit writable (suc i) es two.1 in
      let x = here.0 in
      let y = there.0 in
      let step : w * suc (length es) ≡ w * length es + w = grind arith in
      let front : take w (x ++ y) ≡ x = ap (λ n. take n (x ++ y)) (sym here.2) ∙ take-append_seam x y in
      let back : drop w (x ++ y) ≡ y = ap (λ n. drop n (x ++ y)) (sym here.2) ∙ drop-append_seam x y in (
        x ++ y,
        ap (λ o. both o (elements_bytes order leaf es)) here.1 ∙ ap (λ o. both (Some x) o) there.1,
        omega (arith, length-append x y, here.2, there.2, step),
        (omega (arith, length-append x y, here.2), ap (λ b. shown_element leaf (number_of order leaf.prim b)) front ∙ here.3, subst (ShowsElements order leaf es) (sym back) there.3),
      )

  abbrev ArrayFits : Value → Type 0
  ArrayFits v = (bytes : List ℕ) × (array_bytes order leaf v ≡ Some bytes) × (length bytes ≡ width (Leaf leaf)) × ((length bytes ≡ width (Leaf leaf)) × ShowsArray order leaf v bytes)

  nums_by : IsWritableLeaf leaf → (es : List Elem) (t : Bool) → (length es == leaf.length) ≡ t → cond t (elements_misfit leaf 0 es) other_kind ≡ None → ArrayFits (value.Nums es)
  nums_by writable es true e h =
      let fits = elements_fit writable 0 es h in
      let many : length es ≡ leaf.length = grind (arith, nat_tests) in
      let long : length fits.0 ≡ width (Leaf leaf) = fits.2 ∙ ap (λ n. w * n) many in
      (fits.0, ap (λ t. cond t (elements_bytes order leaf es) None) e ∙ fits.1, long, (long, (es, refl, fits.3)))
  nums_by writable es false e h = absurd (some_none h)

  of_array : IsWritableLeaf leaf → (v : Value) → array_misfit leaf v ≡ None → ArrayFits v
  of_array writable (value.Nums es) h = nums_by writable es (length es == leaf.length) refl h
  of_array writable (value.Num n) h = absurd (some_none h)
  of_array writable value.Null h = absurd (some_none h)
  of_array writable (value.Text text) h = absurd (some_none h)
  of_array writable (value.Enum n) h = absurd (some_none h)
  of_array writable (value.Set n) h = absurd (some_none h)
  of_array writable (value.Comp' n row) h = absurd (some_none h)
  of_array writable value.Const h = absurd (some_none h)
  of_array writable value.Absent h = absurd (some_none h)

  leaf_fits : (s : LeafShape) → leaf.shape ≡ s → IsWritableLeaf leaf → (v : Value) → leaf_misfit s leaf v ≡ None → Fitting s v
  leaf_fits Number is writable v h = number_fits writable is v h
  leaf_fits RangedText is writable v h = of_text v h
  leaf_fits EncodedText is writable v h = of_text v h
  leaf_fits Octets is writable v h = of_array writable v h
  leaf_fits Numbers is writable v h = of_array writable v h

-- ---- an enum

module _ (order : Order) (leaf : LeafOf) (names : List Named) where
  enum_is : IsWritableEnum leaf names → (n : ℤ) → enum_misfit leaf names (value.Enum n) ≡ None → FitsKind order (Enum leaf names) (value.Enum n)
  enum_is writable n h =
      let two = or_none (unless (is_listed names n) (misfit_here code.EnumUnknown n)) (unless (not (is_null leaf n)) (misfit_here code.Range n)) h in
      let listed : is_listed names n ≡ true = unless_true _ code.EnumUnknown n two.0 in
      let has = numeral order leaf.prim n (writable.listed n listed) in
      let shows : shown_enum leaf names true (number_of order leaf.prim has.0) ≡ Some (value.Enum n) =
      ap (shown_enum leaf names true) has.3
      ∙ ap (λ t. cond t (Some value.Null) (cond (is_listed names n || not true) (Some (value.Enum n)) None)) (not_false (is_null leaf n) (unless_true _ code.Range n two.1))
      ∙ ap (λ t. cond (t || not true) (Some (value.Enum n)) None) listed in
      (has.0, has.1, has.2, (has.2, shows))

  enum_null : IsWritableEnum leaf names → is_octets leaf.shape ≡ false → enum_misfit leaf names value.Null ≡ None → FitsKind order (Enum leaf names) value.Null
  enum_null writable plain h =
      let optional : is_optional leaf.presence ≡ true = unless_true _ code.Kind (pos 0) h in
      let has = numeral order leaf.prim leaf.null writable.null in
      let shows : shown_enum leaf names true (number_of order leaf.prim has.0) ≡ Some value.Null =
      ap (shown_enum leaf names true) has.3
      ∙ ap (λ t. cond t (Some value.Null) (cond (is_listed names leaf.null || not true) (Some (value.Enum leaf.null)) None)) (is_null_of leaf optional plain) in
      (has.0, has.1, has.2, (has.2, shows))

  enum_fits : IsWritableEnum leaf names → (v : Value) → enum_misfit leaf names v ≡ None → FitsKind order (Enum leaf names) v
  enum_fits writable (value.Enum n) h = enum_is writable n h
  enum_fits writable value.Null h = enum_null writable writable.plain h
  enum_fits writable (value.Num n) h = absurd (some_none h)
  enum_fits writable (value.Text text) h = absurd (some_none h)
  enum_fits writable (value.Nums elements) h = absurd (some_none h)
  enum_fits writable (value.Set n) h = absurd (some_none h)
  enum_fits writable (value.Comp' n row) h = absurd (some_none h)
  enum_fits writable value.Const h = absurd (some_none h)
  enum_fits writable value.Absent h = absurd (some_none h)

-- ---- a set

module _ (order : Order) (p : Primitive) (names : List Named) where
  set_is : IsWritableSet p names → (n : ℕ) → set_misfit names (value.Set n) ≡ None → FitsKind order (Set p names) (value.Set n)
  set_is writable n h =
      let two = both_true (nat_lt n (2 ^ 64)) (has_listed_bits names 64 n) (unless_true _ code.SetUnknown (pos n) h) in
      let has = numeral order p (pos n) (writable.choices n h) in
      let shows : shown_set names true (natural (number_of order p has.0)) ≡ Some (value.Set n) =
      ap (λ k. shown_set names true (natural k)) has.3 ∙ ap (λ t. cond (t || not true) (Some (value.Set n)) None) two.1 in
      (has.0, has.1, has.2, (has.2, shows))

  set_fits : IsWritableSet p names → (v : Value) → set_misfit names v ≡ None → FitsKind order (Set p names) v
  set_fits writable (value.Set n) h = set_is writable n h
  set_fits writable (value.Num n) h = absurd (some_none h)
  set_fits writable value.Null h = absurd (some_none h)
  set_fits writable (value.Text text) h = absurd (some_none h)
  set_fits writable (value.Nums elements) h = absurd (some_none h)
  set_fits writable (value.Enum n) h = absurd (some_none h)
  set_fits writable (value.Comp' n row) h = absurd (some_none h)
  set_fits writable value.Const h = absurd (some_none h)
  set_fits writable value.Absent h = absurd (some_none h)

-- ---- a constant

const_is : (v : Value) → const_misfit v ≡ None → v ≡ value.Const
const_is value.Const h = refl
const_is (value.Num n) h = absurd (some_none h)
const_is value.Null h = absurd (some_none h)
const_is (value.Text text) h = absurd (some_none h)
const_is (value.Nums elements) h = absurd (some_none h)
const_is (value.Enum n) h = absurd (some_none h)
const_is (value.Set n) h = absurd (some_none h)
const_is (value.Comp' n row) h = absurd (some_none h)
const_is value.Absent h = absurd (some_none h)

-- ---- a kind

-- a composite's value is the list of its members' values
comp_of : {n : _} (members : Row_of-Member n) (v : Value) → row_misfit 0 members (member_values v) ≡ None → (vs : List Value) × (value.Comp vs ≡ v) × (row_misfit 0 members (Some vs) ≡ None)
comp_of members (value.Comp' n row) h = (items-the_row-Value _ row, comp_is n row, h)
comp_of members value.Const h = absurd (some_none h)
comp_of members (value.Num n) h = absurd (some_none h)
comp_of members value.Null h = absurd (some_none h)
comp_of members (value.Text text) h = absurd (some_none h)
comp_of members (value.Nums elements) h = absurd (some_none h)
comp_of members (value.Enum n) h = absurd (some_none h)
comp_of members (value.Set n) h = absurd (some_none h)
comp_of members value.Absent h = absurd (some_none h)

-- where the number of values is right, the first and the others have no misfit
row_parts : (t : Bool) (m : Option Misfit) → cond t m other_kind ≡ None → m ≡ None
row_parts true m h = h
row_parts false m h = absurd (some_none h)

mutual
  pub kind_fits : (order : Order) (kind : Kind) → IsPlacedKind kind → IsWritableKind kind → (v : Value) → value_misfit kind v ≡ None → FitsKind order kind v
  kind_fits order (Leaf l) placed writable v h = leaf_fits order l l.shape refl writable v h
  kind_fits order (Enum l names) placed writable v h = enum_fits order l names writable v h
  kind_fits order (Set p names) placed writable v h = set_fits order p names writable v h
  kind_fits order (Const c) placed writable v h = subst (FitsKind order (Const c)) (sym (const_is v h)) ([], refl, refl, (refl, refl))
  kind_fits order (Comp' n members) placed writable v h =
      let found = comp_of members v h in
      subst (FitsKind order (Comp' n members)) found.1 (of_members order n members found.0 (row_fits order 0 0 members placed writable found.0 found.2))

  row_fits : (order : Order) (e i : ℕ) {n : _} (row : Row_of-Member n) → IsPlacedRow e row → IsWritableRow row → (vs : List Value) → row_misfit i row (Some vs) ≡ None → RowFits order e row vs
  row_fits order e i end_of-Member placed writable [] h = no_member order e
  row_fits order e i end_of-Member placed writable (v ∷ vs) h = absurd (some_none h)
  row_fits order e i (more_of-Member name offset kind rest) placed writable [] h = absurd (some_none h)
  row_fits order e i (more_of-Member name offset kind rest) placed writable (v ∷ vs) h =
      let two = or_none (misfit_in (way.Part i) (value_misfit kind v)) (row_misfit (suc i) rest (Some vs)) (row_parts (same_length rest vs) _ h) in
      one_member order e name offset kind rest v vs placed.0
      (kind_fits order kind placed.1 writable.0 v (in_none (way.Part i) (value_misfit kind v) two.0))
      (row_fits order _ (suc i) rest placed.2 writable.1 vs two.1)
