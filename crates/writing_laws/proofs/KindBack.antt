-- A value that bytes show has bytes, and these show it.
use Rattle.std.proofs.Common.{◌≡◌, ℕ, zero, suc, ◌+◌, ◌*◌, ◌^◌, ◌-◌, ◌≤◌, Bool, true, false, cond, List, [], ◌∷◌, length, take, drop, Some, None, pos, refl, sym, ap, ◌∙◌, subst, arith, length-append, length-drop}
use Rattle.std.specs.Prelude.{replicate, ◌&&◌, ◌||◌, ◌==◌, not}
use Rattle.std.specs.List.{list_all}
use Rattle.std.proofs.lemmas.List.{length-replicate, take-append-drop, length-take-le}
use Rattle.std.proofs.lemmas.Bool.Decides.{nat_tests}
use Rattle.byte_digits.specs.Digits.{IsBytes}
use Rattle.byte_digits.proofs.Bytes.{IsBytes-take, IsBytes-drop}
use Rattle.sbe_types.specs.declared.kind.Order.{Order}
use Rattle.sbe_types.specs.declared.kind.LeafShape.{LeafShape}
use Rattle.sbe_types.specs.declared.kind.LeafShape.TheVariants.{Number, RangedText, EncodedText, Octets, Numbers}
use Rattle.sbe_types.specs.declared.kind.Leaf.{Leaf as LeafOf}
use Rattle.sbe_types.specs.declared.kind.Named.{Named}
use Rattle.sbe_types.specs.declared.kind.Primitive.{Primitive}
use Rattle.sbe_types.specs.declared.kind.Primitive.TheVariants.{Char, I8, I16, I32, I64, U8, U16, U32, U64}
use Rattle.sbe_types.specs.declared.kind.Kind.{Kind, Leaf, Enum, Set, Const, Comp', Row_of-Member, end_of-Member, more_of-Member}
use Rattle.sbe_types.specs.declared.message.Elem.{Elem}
use Rattle.sbe_types.specs.declared.message.Value.{Value}
use Rattle.sbe_types.specs.declared.message.Value.TheVariants as value
use Rattle.sbe_types.specs.Numbers.{number_of, bytes_of, prim_width, is_signed, natural, sum_in, signed_of}
use Rattle.sbe_types.specs.Places.{width}
use Rattle.sbe_types.specs.Shown.{shown_set, has_listed_bits, is_optional}
use Rattle.sbe_types.specs.Shows.{Shows, MembersShow, ShowsLeaf, ShowsText, ShowsElements, ShowsArray, EndsText, is_text_byte, is_empty, text_value}
use Rattle.sbe_types.specs.Wire.{both, padded, elements_bytes, array_bytes, text_bytes, leaf_bytes, set_bytes, FitsKind}
use Rattle.sbe_types.proofs.Inverse.{bytes_of-number_of}
use Rattle.sbe_wire.specs.Placed.{IsPlacedKind, IsPlacedRow}
use Rattle.writing_laws.specs.Writable.{IsWritableLeaf, IsWritableKind, IsWritableRow}
use Rattle.writing_laws.proofs.Slots.{RowFits, no_member, one_member, of_members}
use Rattle.writing_laws.proofs.Numerals.{none_some, some_is, number_wire, element_wire, enum_wire}

pub prim_wide : (p : Primitive) → 1 ≤ prim_width p
prim_wide Char = omega arith
prim_wide I8 = omega arith
prim_wide I16 = omega arith
prim_wide I32 = omega arith
prim_wide I64 = omega arith
prim_wide U8 = omega arith
prim_wide U16 = omega arith
prim_wide U32 = omega arith
prim_wide U64 = omega arith

-- ---- a text

pub zeros_end : (n : ℕ) → EndsText (replicate n 0)
zeros_end zero = tt
zeros_end (suc n) = refl

pub padded_long : (n : ℕ) (text : List ℕ) → length text ≤ n → length (padded n text) ≡ n
padded_long n text h = omega (arith, length-append text (replicate (n - length text) 0), length-replicate {A = ℕ} (n - length text) 0, h)

pub null_empty : (leaf : LeafOf) (t : Bool) → is_optional leaf.presence ≡ t → (text : List ℕ)
    → text_bytes leaf (cond (t && is_empty text) value.Null (value.Text text)) ≡ Some (padded (width (Leaf leaf)) text)
null_empty leaf true o [] = refl
null_empty leaf true o (x ∷ xs) = refl
null_empty leaf false o text = refl

-- a text of good bytes that isn't too long fits
pub text_fits : (leaf : LeafOf) (text : List ℕ) → length text ≤ width (Leaf leaf) → list_all (is_text_byte leaf) text ≡ true →
    (bytes : List ℕ) × (text_bytes leaf (text_value leaf text) ≡ Some bytes) × (length bytes ≡ width (Leaf leaf)) × ShowsText leaf (text_value leaf text) bytes
text_fits leaf text short good =
    let n = width (Leaf leaf) in
    (padded n text, null_empty leaf (is_optional leaf.presence) refl text, padded_long n text short, (text, replicate (n - length text) 0, refl, zeros_end (n - length text), good, refl))

-- ---- an array

module _ (order : Order) (leaf : LeafOf) where
  abbrev w : ℕ
  w = prim_width leaf.prim

  elements_back : (es : List Elem) (n : ℕ) (b : List ℕ) → length b ≡ w * n → IsBytes b → ShowsElements order leaf es b
      → (elements_bytes order leaf es ≡ Some b) × (length es ≡ n)
  elements_back [] zero b long good h = (ap Some (sym h), refl)
  elements_back [] (suc n) b long good h =
      let step : w * suc n ≡ w * n + w = grind arith in
      absurd (omega (arith, long, ap length h, step, prim_wide leaf.prim))
  elements_back (e ∷ es) zero b long good h = absurd (omega (arith, long, h.0, prim_wide leaf.prim))
  elements_back (e ∷ es) (suc n) b long good h =
      let step : w * suc n ≡ w * n + w = grind arith in
      let first : bytes_of order leaf.prim (number_of order leaf.prim (take w b)) ≡ Some (take w b) =
      bytes_of-number_of order leaf.prim (take w b) (length-take-le w b h.0) (IsBytes-take w b good) in
      let rest = elements_back es n (drop w b) (omega (arith, length-drop w b, long, step)) (IsBytes-drop w b good) h.2 in (
        ap (λ o. both o (elements_bytes order leaf es)) (element_wire order leaf _ e h.1 ∙ first) ∙ ap (λ o. both (Some (take w b)) o) rest.0 ∙ ap Some (take-append-drop w b),
        omega (arith, rest.1),
      )

  pub array_back : (v : Value) (b : List ℕ) → length b ≡ width (Leaf leaf) → IsBytes b → ShowsArray order leaf v b
      → array_bytes order leaf v ≡ Some b
  array_back v b long good h =
      let found = elements_back h.0 leaf.length b long good h.2 in
      let many : length h.0 ≡ leaf.length = found.1 in
      let same : (length h.0 == leaf.length) ≡ true = grind (arith, nat_tests) in
      ap (array_bytes order leaf) h.1 ∙ ap (λ t. cond t (elements_bytes order leaf h.0) None) same ∙ found.0

  abbrev Fitting : LeafShape → Value → Type 0
  Fitting s v = (bytes : List ℕ) × (leaf_bytes order s leaf v ≡ Some bytes) × (length bytes ≡ width (Leaf leaf)) × ((length bytes ≡ width (Leaf leaf)) × ShowsLeaf order s leaf v bytes)

  text_back : (v : Value) (b : List ℕ) → length b ≡ width (Leaf leaf) → ShowsText leaf v b →
      (bytes : List ℕ) × (text_bytes leaf v ≡ Some bytes) × (length bytes ≡ width (Leaf leaf)) × ShowsText leaf v bytes
  text_back v b long h =
      let short : length h.0 ≤ width (Leaf leaf) = omega (arith, long, ap length h.2, length-append h.0 h.1) in
      let fits = text_fits leaf h.0 short h.4 in
      subst (λ v. (bytes : List ℕ) × (text_bytes leaf v ≡ Some bytes) × (length bytes ≡ width (Leaf leaf)) × ShowsText leaf v bytes) (sym h.5) fits

  leaf_back : (s : LeafShape) → leaf.shape ≡ s → IsWritableLeaf leaf → (v : Value) (b : List ℕ)
      → length b ≡ width (Leaf leaf) → IsBytes b → ShowsLeaf order s leaf v b → Fitting s v
  leaf_back Number is writable v b long good h =
      let one : width (Leaf leaf) ≡ w = ap (λ n. w * n) (writable.single is) ∙ omega arith in
      let wide : length b ≡ w = long ∙ one in
      (b, number_wire order leaf (number_of order leaf.prim b) v h ∙ bytes_of-number_of order leaf.prim b wide good, long, (long, h))
  leaf_back RangedText is writable v b long good h = let fits = text_back v b long h in (fits.0, fits.1, fits.2, (fits.2, fits.3))
  leaf_back EncodedText is writable v b long good h = let fits = text_back v b long h in (fits.0, fits.1, fits.2, (fits.2, fits.3))
  leaf_back Octets is writable v b long good h = (b, array_back v b long good h, long, (long, h))
  leaf_back Numbers is writable v b long good h = (b, array_back v b long good h, long, (long, h))

-- ---- a set

set_by : (order : Order) (p : Primitive) (t : Bool) (n : ℕ) (v : Value) → cond t (Some (value.Set n)) None ≡ Some v
    → set_bytes order p v ≡ bytes_of order p (pos n)
set_by order p true n v h = ap (set_bytes order p) (sym (some_is h))
set_by order p false n v h = absurd (none_some h)

pub unsigned_natural : (order : Order) (p : Primitive) (b : List ℕ) → is_signed p ≡ false
    → pos (natural (number_of order p b)) ≡ number_of order p b
unsigned_natural order p b h =
    let is : number_of order p b ≡ pos (sum_in order b) = ap (λ t. cond t (signed_of (256 ^ prim_width p) (sum_in order b)) (pos (sum_in order b))) h in
    ap (λ n. pos (natural n)) is ∙ sym is

pub set_back : (order : Order) (p : Primitive) (names : List Named) (v : Value) (b : List ℕ) → is_signed p ≡ false
    → length b ≡ prim_width p → IsBytes b → shown_set names true (natural (number_of order p b)) ≡ Some v
    → set_bytes order p v ≡ Some b
set_back order p names v b plain long good h =
    set_by order p (has_listed_bits names 64 (natural (number_of order p b)) || not true) (natural (number_of order p b)) v h
    ∙ ap (bytes_of order p) (unsigned_natural order p b plain)
    ∙ bytes_of-number_of order p b long good

-- ---- a kind

mutual
  pub shown_fits : (order : Order) (kind : Kind) → IsPlacedKind kind → IsWritableKind kind → (v : Value) (b : List ℕ)
      → IsBytes b → Shows order true kind v b → FitsKind order kind v
  shown_fits order (Leaf l) placed writable v b good h = leaf_back order l l.shape refl writable v b h.0 good h.1
  shown_fits order (Enum l names) placed writable v b good h =
      (b, enum_wire order l names (number_of order l.prim b) v h.1 ∙ bytes_of-number_of order l.prim b h.0 good, h.0, h)
  shown_fits order (Set p names) placed writable v b good h = (b, set_back order p names v b writable.unsigned h.0 good h.1, h.0, h)
  shown_fits order (Const c) placed writable v b good h = subst (FitsKind order (Const c)) (sym h.1) ([], refl, refl, (refl, refl))
  shown_fits order (Comp' n members) placed writable v b good h =
      subst (FitsKind order (Comp' n members)) (sym h.1.1) (of_members order n members h.1.0 (shown_row order 0 members placed writable h.1.0 b good h.1.2))

  shown_row : (order : Order) (e : ℕ) {n : _} (row : Row_of-Member n) → IsPlacedRow e row → IsWritableRow row
      → (vs : List Value) (b : List ℕ) → IsBytes b → MembersShow order true e row vs b → RowFits order e row vs
  shown_row order e end_of-Member placed writable [] b good h = no_member order e
  shown_row order e end_of-Member placed writable (v ∷ vs) b good h = absurd h
  shown_row order e (more_of-Member name offset kind rest) placed writable [] b good h = absurd h
  shown_row order e (more_of-Member name offset kind rest) placed writable (v ∷ vs) b good h =
      one_member order e name offset kind rest v vs placed.0
      (shown_fits order kind placed.1 writable.0 v _ (IsBytes-take _ _ (IsBytes-drop _ b good)) h.0)
      (shown_row order _ rest placed.2 writable.1 vs b good h.1)
