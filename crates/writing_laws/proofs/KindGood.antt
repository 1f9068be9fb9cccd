-- A value that fits has no misfit.
use Rattle.std.proofs.Common.{◌≡◌, ℕ, zero, suc, ◌+◌, ◌*◌, ◌^◌, ◌≤◌, Bool, true, false, cond, List, [], ◌∷◌, length, take, drop, Option, Some, None, ℤ, pos, refl, sym, ap, ◌∙◌, arith, length-append, length-drop}
use Rattle.std.specs.Prelude.{not, ◌&&◌, ◌||◌, ◌==◌, nat_le, nat_lt, find}
use Rattle.std.specs.List.{list_all}
use Rattle.std.proofs.lemmas.Bool.Decides.{nat_tests}
use Rattle.sbe_types.specs.declared.kind.Order.{Order}
use Rattle.sbe_types.specs.declared.kind.LeafShape.{LeafShape}
use Rattle.sbe_types.specs.declared.kind.LeafShape.TheVariants.{Number, RangedText, EncodedText, Octets, Numbers}
use Rattle.sbe_types.specs.declared.kind.Leaf.{Leaf as LeafOf}
use Rattle.sbe_types.specs.declared.kind.Named.{Named}
use Rattle.sbe_types.specs.declared.kind.Primitive.{Primitive}
use Rattle.sbe_types.specs.declared.kind.Primitive.TheVariants.{Char, I8, I16, I32, I64, U8, U16, U32, U64}
use Rattle.sbe_types.specs.declared.kind.Kind.{Kind, Leaf, Enum, Set, Const, Comp', Row_of-Member, end_of-Member, more_of-Member}
use Rattle.sbe_types.specs.declared.path.Step.TheVariants as way
use Rattle.sbe_types.specs.declared.message.Elem.{Elem}
use Rattle.sbe_types.specs.declared.message.Elem.TheVariants as elem
use Rattle.sbe_types.specs.declared.message.Value.{Value, items_hidden-the_row-Value-0}
use Rattle.sbe_types.specs.declared.message.Value.TheVariants as value
use Rattle.sbe_types.specs.Numbers.{number_of, bytes_of, prim_width, is_signed, natural, unsigned_of, has_bytes}
use Rattle.sbe_types.specs.Places.{width}
use Rattle.sbe_types.specs.Shown.{admits, is_null, is_optional, is_octets, is_listed, has_listed_bits, shown_element, shown_number, shown_enum}
use Rattle.sbe_types.specs.Shows.{Shows, MembersShow, ShowsLeaf, ShowsText, ShowsElements, ShowsArray, is_text_byte, is_empty}
use Rattle.sbe_types.specs.Wire.{both, wire_bytes, row_bytes, set_bytes, FitsKind}
use Rattle.sbe_wire.specs.declared.codes.NCode.TheVariants as code
use Rattle.sbe_wire.specs.Misfit.{or_else, unless, misfit_here, misfit_in, byte_misfit, other_kind, number_misfit, text_misfit, element_misfit, elements_misfit, array_misfit, leaf_misfit, enum_misfit, set_misfit, const_misfit, same_length, value_misfit, row_misfit}
use Rattle.writing_laws.proofs.Numerals.{none_some, some_is, both_true, null_is}
use Rattle.writing_laws.proofs.Refusals.{none_or, none_found, both_some}
use Rattle.writing_laws.proofs.Slots.{gap, past}
use Rattle.writing_laws.proofs.KindBack.{prim_wide}

-- ---- numbers

module _ (leaf : LeafOf) where
  number_by : (t u : Bool) (k : ℤ) (v : Value) → is_null leaf k ≡ t → admits leaf k ≡ u → ◌≡◌ {A = Option Value} (cond t (Some value.Null) (cond u (Some (value.Num k)) None)) (Some v) → number_misfit leaf v ≡ None
  number_by true u k v e f h =
      ap (number_misfit leaf) (sym (some_is h)) ∙ ap (λ t. unless t other_kind) (null_is leaf k e).0
  number_by false true k v e f h =
      ap (number_misfit leaf) (sym (some_is h)) ∙ ap (λ t. unless (t && not (is_null leaf k)) (misfit_here code.Range k)) f ∙ ap (λ t. unless (true && not t) (misfit_here code.Range k)) e
  number_by false false k v e f h = absurd (none_some h)

  number_good : (k : ℤ) (v : Value) → shown_number leaf k ≡ Some v → number_misfit leaf v ≡ None
  number_good k v h = number_by (is_null leaf k) (admits leaf k) k v refl refl h

  element_by : (t u : Bool) (k : ℤ) (v : Elem) → is_null leaf k ≡ t → admits leaf k ≡ u → ◌≡◌ {A = Option Elem} (cond t (Some elem.Null) (cond u (Some (elem.Num k)) None)) (Some v) → element_misfit leaf v ≡ None
  element_by true u k v e f h =
      let is = null_is leaf k e in
      ap (element_misfit leaf) (sym (some_is h)) ∙ ap (λ t. unless (t && not (is_octets leaf.shape)) other_kind) is.0 ∙ ap (λ t. unless (true && not t) other_kind) is.1
  element_by false true k v e f h =
      ap (element_misfit leaf) (sym (some_is h)) ∙ ap (λ t. unless (t && not (is_null leaf k)) (misfit_here code.Range k)) f ∙ ap (λ t. unless (true && not t) (misfit_here code.Range k)) e
  element_by false false k v e f h = absurd (none_some h)

  element_good : (k : ℤ) (v : Elem) → shown_element leaf k ≡ Some v → element_misfit leaf v ≡ None
  element_good k v h = element_by (is_null leaf k) (admits leaf k) k v refl refl h

  or_not : (t : Bool) → (t || not true) ≡ t
  or_not true = refl
  or_not false = refl

  enum_by : (names : List Named) (t u : Bool) (k : ℤ) (v : Value) → is_null leaf k ≡ t → (is_listed names k || not true) ≡ u →
      ◌≡◌ {A = Option Value} (cond t (Some value.Null) (cond u (Some (value.Enum k)) None)) (Some v) → enum_misfit leaf names v ≡ None
  enum_by names true u k v e f h = ap (enum_misfit leaf names) (sym (some_is h)) ∙ ap (λ t. unless t other_kind) (null_is leaf k e).0
  enum_by names false true k v e f h =
      let listed : is_listed names k ≡ true = sym (or_not (is_listed names k)) ∙ f in
      ap (enum_misfit leaf names) (sym (some_is h))
      ∙ ap (λ t. or_else (unless t (misfit_here code.EnumUnknown k)) (unless (not (is_null leaf k)) (misfit_here code.Range k))) listed
      ∙ ap (λ t. unless (not t) (misfit_here code.Range k)) e
  enum_by names false false k v e f h = absurd (none_some h)

  enum_good : (names : List Named) (k : ℤ) (v : Value) → shown_enum leaf names true k ≡ Some v → enum_misfit leaf names v ≡ None
  enum_good names k v h = enum_by names (is_null leaf k) (is_listed names k || not true) k v refl refl h

  -- ---- a text

  text_by : (text : List ℕ) (t : Bool) → (is_optional leaf.presence && is_empty text) ≡ t → length text ≤ width (Leaf leaf) → list_all (is_text_byte leaf) text ≡ true →
      text_misfit leaf (cond t value.Null (value.Text text)) ≡ None
  text_by text true e short good = ap (λ t. unless t other_kind) (both_true (is_optional leaf.presence) (is_empty text) e).0
  text_by text false e short good =
      let fits : nat_le (length text) (width (Leaf leaf)) ≡ true = grind (arith, nat_tests) in
      none_or (unless (nat_le (length text) (width (Leaf leaf)) && not (is_optional leaf.presence && is_empty text)) (misfit_here code.Range (pos (length text))))
      (byte_misfit (find (λ b. not (is_text_byte leaf b)) text))
      (ap (λ t. unless (t && not (is_optional leaf.presence && is_empty text)) (misfit_here code.Range (pos (length text)))) fits
      ∙ ap (λ t. unless (true && not t) (misfit_here code.Range (pos (length text)))) e)
      (ap byte_misfit (none_found (is_text_byte leaf) text good))

  text_good : (v : Value) (b : List ℕ) → length b ≡ width (Leaf leaf) → ShowsText leaf v b → text_misfit leaf v ≡ None
  text_good v b long h =
      let short : length h.0 ≤ width (Leaf leaf) = omega (arith, long, ap length h.2, length-append h.0 h.1) in
      ap (text_misfit leaf) h.5 ∙ text_by h.0 (is_optional leaf.presence && is_empty h.0) refl short h.4

  -- ---- an array

  abbrev w : ℕ
  w = prim_width leaf.prim

  module _ (order : Order) where
    elements_good : (i : ℕ) (es : List Elem) (b : List ℕ) → ShowsElements order leaf es b → elements_misfit leaf i es ≡ None
    elements_good i [] b h = refl
    elements_good i (e ∷ es) b h =
        none_or (misfit_in (way.Elem i) (element_misfit leaf e)) (elements_misfit leaf (suc i) es)
        (ap (misfit_in (way.Elem i)) (element_good (number_of order leaf.prim (take w b)) e h.1))
        (elements_good (suc i) es (drop w b) h.2)

    elements_many : (es : List Elem) (n : ℕ) (b : List ℕ) → length b ≡ w * n → ShowsElements order leaf es b → length es ≡ n
    elements_many [] zero b long h = refl
    elements_many [] (suc n) b long h =
        let step : w * suc n ≡ w * n + w = grind arith in
        absurd (omega (arith, long, ap length h, step, prim_wide leaf.prim))
    elements_many (e ∷ es) zero b long h = absurd (omega (arith, long, h.0, prim_wide leaf.prim))
    elements_many (e ∷ es) (suc n) b long h =
        let step : w * suc n ≡ w * n + w = grind arith in
        omega (arith, elements_many es n (drop w b) (omega (arith, length-drop w b, long, step)) h.2)

    array_good : (v : Value) (b : List ℕ) → length b ≡ width (Leaf leaf) → ShowsArray order leaf v b → array_misfit leaf v ≡ None
    array_good v b long h =
        let many : length h.0 ≡ leaf.length = elements_many h.0 leaf.length b long h.2 in
        let same : (length h.0 == leaf.length) ≡ true = grind (arith, nat_tests) in
        ap (array_misfit leaf) h.1 ∙ ap (λ t. cond t (elements_misfit leaf 0 h.0) other_kind) same ∙ elements_good 0 h.0 b h.2

    leaf_good : (s : LeafShape) (v : Value) (b : List ℕ) → length b ≡ width (Leaf leaf) → ShowsLeaf order s leaf v b → leaf_misfit s leaf v ≡ None
    leaf_good Number v b long h = number_good (number_of order leaf.prim b) v h
    leaf_good RangedText v b long h = text_good v b long h
    leaf_good EncodedText v b long h = text_good v b long h
    leaf_good Octets v b long h = array_good v b long h
    leaf_good Numbers v b long h = array_good v b long h

-- ---- a set

-- a number of a primitive is below 2 ^ 64
unsigned_small : (p : Primitive) (n m : ℕ) → unsigned_of (is_signed p) (256 ^ prim_width p) (pos n) ≡ Some m → nat_lt n (2 ^ 64) ≡ true
unsigned_small Char n m h = grind (arith, nat_tests, h)
unsigned_small I8 n m h = grind (arith, nat_tests, h)
unsigned_small I16 n m h = grind (arith, nat_tests, h)
unsigned_small I32 n m h = grind (arith, nat_tests, h)
unsigned_small I64 n m h = grind (arith, nat_tests, h)
unsigned_small U8 n m h = grind (arith, nat_tests, h)
unsigned_small U16 n m h = grind (arith, nat_tests, h)
unsigned_small U32 n m h = grind (arith, nat_tests, h)
unsigned_small U64 n m h = grind (arith, nat_tests, h)

has_number : (order : Order) (k : ℕ) (o : Option ℕ) (bytes : List ℕ) → has_bytes order k o ≡ Some bytes → (m : ℕ) × (o ≡ Some m)
has_number order k None bytes h = absurd (none_some h)
has_number order k (Some m) bytes h = (m, refl)

set_small : (order : Order) (p : Primitive) (n : ℕ) (bytes : List ℕ) → bytes_of order p (pos n) ≡ Some bytes → nat_lt n (2 ^ 64) ≡ true
set_small order p n bytes h =
    let has = has_number order (prim_width p) (unsigned_of (is_signed p) (256 ^ prim_width p) (pos n)) bytes h in
    unsigned_small p n has.0 has.1

set_by : (order : Order) (p : Primitive) (names : List Named) (n : ℕ) (t : Bool) (v : Value) (bytes : List ℕ) → (has_listed_bits names 64 n || not true) ≡ t →
    ◌≡◌ {A = Option Value} (cond t (Some (value.Set n)) None) (Some v) → set_bytes order p v ≡ Some bytes → set_misfit names v ≡ None
set_by order p names n true v bytes e h k =
    let is : value.Set n ≡ v = some_is h in
    let small : nat_lt n (2 ^ 64) ≡ true = set_small order p n bytes (ap (set_bytes order p) is ∙ k) in
    let listed : has_listed_bits names 64 n ≡ true = sym (or_false (has_listed_bits names 64 n)) ∙ e in
    ap (set_misfit names) (sym is)
    ∙ ap (λ t. unless (t && has_listed_bits names 64 n) (misfit_here code.SetUnknown (pos n))) small
    ∙ ap (λ t. unless t (misfit_here code.SetUnknown (pos n))) listed
  where
    or_false : (t : Bool) → (t || not true) ≡ t
    or_false true = refl
    or_false false = refl
set_by order p names n false v bytes e h k = absurd (none_some h)

-- ---- a kind

same_shown : (order : Order) {n : _} (row : Row_of-Member n) (e : ℕ) (vs : List Value) (b : List ℕ) → MembersShow order true e row vs b → same_length row vs ≡ true
same_shown order end_of-Member e [] b h = refl
same_shown order end_of-Member e (v ∷ vs) b h = absurd h
same_shown order (more_of-Member name offset kind rest) e [] b h = absurd h
same_shown order (more_of-Member name offset kind rest) e (v ∷ vs) b h = same_shown order rest _ vs b h.1

mutual
  -- what has bytes and is shown has no misfit
  pub kind_good : (order : Order) (kind : Kind) (v : Value) (x b : List ℕ) → wire_bytes order kind v ≡ Some x → Shows order true kind v b → value_misfit kind v ≡ None
  kind_good order (Leaf l) v x b w h = leaf_good l order l.shape v b h.0 h.1
  kind_good order (Enum l names) v x b w h = enum_good l names (number_of order l.prim b) v h.1
  kind_good order (Set p names) v x b w h = set_by order p names (natural (number_of order p b)) (has_listed_bits names 64 (natural (number_of order p b)) || not true) v x refl h.1 w
  kind_good order (Const c) v x b w h = ap const_misfit h.1
  kind_good order (Comp' n members) v x b w h =
      let vs = h.1.0 in
      let same = items_hidden-the_row-Value-0 vs in
      let written : row_bytes order 0 members (Some vs) ≡ Some x = ap (λ l. row_bytes order 0 members (Some l)) (sym same) ∙ ap (wire_bytes order (Comp' n members)) (sym h.1.1) ∙ w in
      ap (value_misfit (Comp' n members)) h.1.1 ∙ ap (λ l. row_misfit 0 members (Some l)) same ∙ row_good order 0 0 members vs x b written h.1.2

  row_good : (order : Order) (e i : ℕ) {n : _} (row : Row_of-Member n) (vs : List Value) (x b : List ℕ) → row_bytes order e row (Some vs) ≡ Some x → MembersShow order true e row vs b → row_misfit i row (Some vs) ≡ None
  row_good order e i end_of-Member [] x b w h = refl
  row_good order e i end_of-Member (v ∷ vs) x b w h = absurd h
  row_good order e i (more_of-Member name offset kind rest) [] x b w h = absurd h
  row_good order e i (more_of-Member name offset kind rest) (v ∷ vs) x b w h =
      let two = both_some (both (Some (gap e offset kind)) (wire_bytes order kind v)) (row_bytes order (past e offset kind) rest (Some vs)) x w in
      let part = both_some (Some (gap e offset kind)) (wire_bytes order kind v) two.0 two.2 in
      ap (λ t. cond t (or_else (misfit_in (way.Part i) (value_misfit kind v)) (row_misfit (suc i) rest (Some vs))) other_kind) (same_shown order rest _ vs b h.1)
      ∙ none_or (misfit_in (way.Part i) (value_misfit kind v)) (row_misfit (suc i) rest (Some vs))
      (ap (misfit_in (way.Part i)) (kind_good order kind v part.1 _ part.3 h.0))
      (row_good order _ (suc i) rest vs two.1 b two.3 h.1)

pub fits_good : (order : Order) (kind : Kind) (v : Value) → FitsKind order kind v → value_misfit kind v ≡ None
fits_good order kind v h = kind_good order kind v h.0 h.0 h.1 h.3
