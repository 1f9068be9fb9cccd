-- The valid values of an enum of one byte, noted one after another.
use Rattle.std.proofs.Common.{◌≡◌, ◌<◌, ℕ, zero, suc, ℤ, Bool, true, false, not, List, [], ◌∷◌, length, set, get_or, replicate, pos, refl, sym, ap, ◌∙◌, subst, arith, inl, inr}
use Rattle.std.specs.Prelude.{◌&&◌, ◌||◌, ◌==◌, slice_index}
use Rattle.std.specs.Ordering.{int_eq}
use Rattle.std.proofs.lemmas.Bool.{cases_eq}
use Rattle.std.proofs.lemmas.Bool.Decides.{Decides-int_eq}
use Rattle.std.proofs.lemmas.List.{get_or-set_same, get_or-set_other}
use Rattle.sbe_types.specs.declared.kind.Kind.{Kind, Leaf, Enum, Set, Const, Comp'}
use Rattle.sbe_types.specs.declared.kind.Leaf.{Leaf as LeafOf}
use Rattle.sbe_types.specs.declared.kind.Named.{Named}
use Rattle.sbe_types.specs.declared.kind.Order.TheVariants.{Little}
use Rattle.sbe_types.specs.declared.kind.Primitive.{Primitive}
use Rattle.sbe_types.specs.declared.kind.Primitive.TheVariants.{Char, I8, I16, I32, I64, U8, U16, U32, U64}
use Rattle.sbe_types.specs.Numbers.{number_of, prim_width}
use Rattle.sbe_types.specs.Shown.{is_null, is_listed, is_octets, is_optional}
use Rattle.flat_rows.specs.Bytes.{is_byte, is_valid_byte, AreListedBytes, AreUnset, AreValidBytes, IsValidByte, Notes, NotesNull}
use Rattle.flat_rows.specs.BlockChecks.{ShowsSome}
use Rattle.flat_rows.proofs.Looks.{enum_shows}

untrue : ◌≡◌ {A = Bool} false true → ⊥
untrue h = cc

not_so : (t : Bool) → (t ≡ true → ⊥) → t ≡ false
not_so true h = absurd (h refl)
not_so false h = refl

same_number : (a b : ℕ) → ◌≡◌ {A = ℤ} (pos a) (pos b) → a ≡ b
same_number a b h = cc

or_false : (t : Bool) → t ≡ (false || t)
or_false t = refl

-- ---- one number more

none_there : (n b : ℕ) → ◌≡◌ {A = ℕ} (get_or (replicate n 0) b 0) 0
none_there zero b = refl
none_there (suc n) zero = refl
none_there (suc n) (suc b) = none_there n b

pub none_set : (n : ℕ) → AreUnset (replicate n 0)
none_set n = λ b small. ap (λ k. k == 1) (none_there n b)

-- it is none of a byte
pub none_noted : (valid : List ℕ) (number : ℤ) → ((b : ℕ) → b < 256 → number ≡ pos b → ⊥) → Notes number valid valid
none_noted valid number none = λ b small.
    let other : int_eq number (pos b) ≡ false = not_so (int_eq number (pos b)) (λ is. none b small ((Decides-int_eq number (pos b)).0 is)) in
    ap (λ t. t || (get_or valid b 0 == 1)) (sym other)

pub byte_noted : (valid : List ℕ) (number : ℤ) (byte : ℕ) → length valid ≡ 256 → byte < 256 → pos byte ≡ number → Notes number valid (set valid byte 1)
byte_noted valid number byte size within is = λ b small.
    elim (cases_eq b byte) [
      | inl same ↦
          let here : get_or (set valid byte 1) b 0 ≡ 1 = ap (λ k. get_or (set valid byte 1) k 0) same ∙ get_or-set_same valid byte 1 0 (omega (arith, size, within)) in
          let equal : int_eq number (pos b) ≡ true = (Decides-int_eq number (pos b)).1 (sym is ∙ ap pos (sym same)) in
          ap (λ k. k == 1) here ∙ ap (λ t. t || (get_or valid b 0 == 1)) (sym equal)
      | inr other ↦
          let there : get_or (set valid byte 1) b 0 ≡ get_or valid b 0 = get_or-set_other valid byte b 1 0 other in
          let differs : int_eq number (pos b) ≡ false = not_so (int_eq number (pos b)) (λ eq. other (same_number b byte (sym ((Decides-int_eq number (pos b)).0 eq) ∙ sym is))) in
          ap (λ k. k == 1) there ∙ ap (λ t. t || (get_or valid b 0 == 1)) (sym differs)
    ]

-- the number of a name that stands before others
pub name_noted : (old new : List ℕ) (v : Named) (names : List Named) → AreListedBytes old names → Notes v.number old new → AreListedBytes new (v ∷ names)
name_noted old new v names h note = λ b small. note b small ∙ ap (λ t. int_eq v.number (pos b) || t) (h b small)

-- ---- the null

flipped : (m n : ℤ) → int_eq m n ≡ int_eq n m
flipped m n = by (int_eq n m) refl
  where
    by : (t : Bool) → int_eq n m ≡ t → int_eq m n ≡ t
    by true h = (Decides-int_eq m n).1 (sym ((Decides-int_eq n m).0 h))
    by false h = not_so (int_eq m n) (λ is. untrue (sym h ∙ (Decides-int_eq n m).1 (sym ((Decides-int_eq m n).0 is))))

own_number : (n : ℤ) → int_eq n n ≡ true
own_number n = (Decides-int_eq n n).1 refl

and_true : (t : Bool) → (t && true) ≡ t
and_true true = refl
and_true false = refl

may_be_null : (leaf : LeafOf) → is_null leaf leaf.null ≡ (is_optional leaf.presence && not (is_octets leaf.shape))
may_be_null leaf =
    let may = is_optional leaf.presence && not (is_octets leaf.shape) in
    ap (λ t. may && t) (own_number leaf.null) ∙ and_true may

pub null_noted : (leaf : LeafOf) (old new : List ℕ) → is_null leaf leaf.null ≡ true → Notes leaf.null old new → NotesNull leaf old new
null_noted leaf old new may note = λ b small.
    let is : is_null leaf (pos b) ≡ int_eq leaf.null (pos b) = ap (λ t. t && int_eq (pos b) leaf.null) (sym (may_be_null leaf) ∙ may) ∙ flipped (pos b) leaf.null in
    note b small ∙ ap (λ t. t || (get_or old b 0 == 1)) (sym is)

pub no_null : (leaf : LeafOf) (valid : List ℕ) → is_null leaf leaf.null ≡ false → NotesNull leaf valid valid
no_null leaf valid may = λ b small.
    let is : is_null leaf (pos b) ≡ false = ap (λ t. t && int_eq (pos b) leaf.null) (sym (may_be_null leaf) ∙ may) in
    ap (λ t. t || (get_or valid b 0 == 1)) (sym is)

-- ---- the whole table

pub enum_noted : (leaf : LeafOf) (names : List Named) (old new : List ℕ) → is_byte leaf.prim ≡ true → AreListedBytes old names → NotesNull leaf old new → AreValidBytes new (Enum leaf names)
enum_noted leaf names old new byte listed null = λ b small.
    null b small ∙ ap (λ t. is_null leaf (pos b) || t) (listed b small) ∙ ap (λ t. t && (is_null leaf (pos b) || is_listed names (pos b))) (sym byte)

pub wide_enum : (leaf : LeafOf) (names : List Named) → is_byte leaf.prim ≡ false → AreValidBytes [] (Enum leaf names)
wide_enum leaf names wide = λ b small. ap (λ t. t && (is_null leaf (pos b) || is_listed names (pos b))) (sym wide)

-- ---- what the table says

both_tests : (s t : Bool) → (s && t) ≡ true → (s ≡ true) × (t ≡ true)
both_tests true t h = (refl, h)
both_tests false t h = absurd (untrue h)

byte_number : (p : Primitive) (b : ℕ) → is_byte p ≡ true → number_of Little p (b ∷ []) ≡ pos b
byte_number Char b h = ap pos (omega arith)
byte_number U8 b h = ap pos (omega arith)
byte_number I8 b h = absurd (untrue h)
byte_number I16 b h = absurd (untrue h)
byte_number I32 b h = absurd (untrue h)
byte_number I64 b h = absurd (untrue h)
byte_number U16 b h = absurd (untrue h)
byte_number U32 b h = absurd (untrue h)
byte_number U64 b h = absurd (untrue h)

one_wide : (p : Primitive) → is_byte p ≡ true → prim_width p ≡ 1
one_wide Char h = refl
one_wide U8 h = refl
one_wide I8 h = absurd (untrue h)
one_wide I16 h = absurd (untrue h)
one_wide I32 h = absurd (untrue h)
one_wide I64 h = absurd (untrue h)
one_wide U16 h = absurd (untrue h)
one_wide U32 h = absurd (untrue h)
one_wide U64 h = absurd (untrue h)

pub lone : (xs : List ℕ) → length xs ≡ 1 → xs ≡ slice_index xs 0 ∷ []
lone [] h = absurd (omega (arith, h))
lone (x ∷ []) h = refl
lone (x ∷ y ∷ ys) h = absurd (omega (arith, h))

-- the number that one byte shows
pub byte_shown : (p : Primitive) (bytes : List ℕ) → is_byte p ≡ true → length bytes ≡ 1 → number_of Little p bytes ≡ pos (slice_index bytes 0)
byte_shown p bytes h one = ap (number_of Little p) (lone bytes one) ∙ byte_number p (slice_index bytes 0) h

null_or : (s t u : Bool) → (s || t) ≡ true → (s || (t || u)) ≡ true
null_or true t u h = refl
null_or false true u h = refl
null_or false false u h = absurd (untrue h)

enum_valid : (leaf : LeafOf) (names : List Named) (known : Bool) (b : ℕ) → is_valid_byte (Enum leaf names) b ≡ true → ShowsSome Little known (Enum leaf names) (b ∷ [])
enum_valid leaf names known b h =
    let two = both_tests (is_byte leaf.prim) (is_null leaf (pos b) || is_listed names (pos b)) h in
    let number = byte_number leaf.prim b two.0 in
    enum_shows leaf names known (b ∷ []) (sym (one_wide leaf.prim two.0))
    (ap (λ n. is_null leaf n || (is_listed names n || not known)) number ∙ null_or (is_null leaf (pos b)) (is_listed names (pos b)) (not known) two.1)

valid_shows : (kind : Kind) (known : Bool) (b : ℕ) → is_valid_byte kind b ≡ true → ShowsSome Little known kind (b ∷ [])
valid_shows (Enum leaf names) known b h = enum_valid leaf names known b h
valid_shows (Leaf l) known b h = absurd (untrue h)
valid_shows (Set p names) known b h = absurd (untrue h)
valid_shows (Const c) known b h = absurd (untrue h)
valid_shows (Comp' n members) known b h = absurd (untrue h)

-- a byte that the table has as valid is a value
pub byte_shows : (valid : List ℕ) (kind : Kind) (known : Bool) (bytes : List ℕ) → AreValidBytes valid kind → IsValidByte valid bytes → ShowsSome Little known kind bytes
byte_shows valid kind known bytes are is =
    let b = slice_index bytes 0 in
    let yes : is_valid_byte kind b ≡ true = sym (are b is.small) ∙ ap (λ k. k == 1) is.set in
    subst (ShowsSome Little known kind) (sym (lone bytes is.one)) (valid_shows kind known b yes)
