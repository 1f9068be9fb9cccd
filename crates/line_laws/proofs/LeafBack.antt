-- Single values read back: numbers, texts, arrays, enums, sets and constants.
use Rattle.std.proofs.Common.{◌≡◌, ◌≤◌, ◌<◌, ◌*◌, ◌^◌, ℕ, suc, Bool, true, false, cond, ◌&&◌, ◌==◌, List, [], ◌∷◌, Option, Some, None, Ok, ℤ, pos, negsuc, refl, sym, ap, ◌∙◌, subst, arith}
use Rattle.std.specs.Prelude.{◌||◌, not, if◌then◌else◌, int_le, nat_lt, ⊤}
use Rattle.std.specs.List.{AllByRecursion, list_all}
use Rattle.std.specs.Option.{option_map_or}
use Rattle.std.specs.Ordering.{int_eq}
use Rattle.std.specs.Str.{IsUtf8, bytes_eq}
use borrow.Author.Tests.{ltb-true}
use Rattle.std.proofs.lemmas.Bool.{and_parts}
use Rattle.std.proofs.lemmas.Bool.Decides.{Decides-int_eq, nat_tests}
use Rattle.std.proofs.lemmas.Int.{ints}
use Rattle.std.proofs.lemmas.Slice.Eq.{bytes_eq-Decides}
use Rattle.json.proofs.Printed.Utf8.{IsUtf8-are_ascii}
use Rattle.serde_json.specs.Data.{Data, null, number, string, array, unsigned, Items, item, items_depth}
use Rattle.serde_json.specs.Find.{of_integer}
use Rattle.sbe_types.specs.declared.kind.Order.{Order}
use Rattle.sbe_types.specs.declared.kind.Primitive.{Primitive}
use Rattle.sbe_types.specs.declared.kind.Primitive.TheVariants.{Char, I8, I16, I32, I64, U8, U16, U32, U64}
use Rattle.sbe_types.specs.declared.kind.LeafShape.{LeafShape}
use Rattle.sbe_types.specs.declared.kind.LeafShape.TheVariants.{Number, RangedText, EncodedText, Octets, Numbers}
use Rattle.sbe_types.specs.declared.kind.Leaf.{Leaf as LeafOf}
use Rattle.sbe_types.specs.declared.kind.Named.{Named}
use Rattle.sbe_types.specs.declared.kind.ConstValue.{ConstValue}
use Rattle.sbe_types.specs.declared.kind.ConstValue.TheVariants as constant
use Rattle.sbe_types.specs.declared.kind.Kind.{Leaf, Enum, Set}
use Rattle.sbe_types.specs.declared.message.Elem.{Elem}
use Rattle.sbe_types.specs.declared.message.Elem.TheVariants as elem
use Rattle.sbe_types.specs.declared.message.Value.{Value}
use Rattle.sbe_types.specs.declared.message.Value.TheVariants as value
use Rattle.sbe_types.specs.InForm.{IsName}
use Rattle.sbe_types.specs.Numbers.{natural, number_of, bytes_of, has_bytes}
use Rattle.sbe_types.specs.Shown.{is_optional, is_octets, admits, is_null, is_listed, has_listed_bits, shown_enum, shown_set}
use Rattle.sbe_types.specs.Shows.{is_empty, text_value, ShowsText, ShowsElements, ShowsLeaf}
use Rattle.sbe_types.specs.Wire.{set_bytes}
use Rattle.schema_rules.specs.Ranges.{is_number_of}
use Rattle.schema_facts.specs.InOrder.{IsLeafFrom, IsNumberOf, IsEnumInOrder, IsSetInOrder, IsConstantInOrder}
use Rattle.json_values.specs.Values as tree
use Rattle.json_values.specs.Values.{text_data, hex, is_printable, single_data, number_data, elements_data, enum_data, name_of, set_data, chosen, has_bit, constant_data, shown_data, no_entries}
use Rattle.line_values.specs.declared.refusals.JCode.TheVariants as code
use Rattle.line_values.specs.Refusals.{Reading, ◌>>=◌, refuse}
use Rattle.line_values.specs.Objects.{there_or, each, at_item, integer_of}
use Rattle.line_values.specs.Values as line
use Rattle.line_values.specs.Values.{null_in, number_in, text_in, text_of, element_of, element_in, array_in, shape_in, leaf_lack, value_if_missing, enum_in, set_in, constant_in, fixed, is_number}
use Rattle.line_laws.specs.AsRead.{as_read, items_as_read, ItemsHaveIntegers, ItemsHaveTexts}
use Rattle.line_laws.specs.ValuesBack.{TextHasBytes, ConstantHasBytes}
use Rattle.line_laws.proofs.Differ.{do_differ}
use Rattle.line_laws.proofs.NamedBack.{some_is, none_some, names_of, numbers_of, integer_back, enum_back, are_bits, set_back}
use Rattle.line_laws.proofs.Shown.{IsPrinted, IsGood}
use Rattle.line_laws.proofs.TextBack.{text_back, text_printed, IsKept, number_kept, admitted_kept, number_printed, name_text}

-- ---- null

-- a number that is null is so in an optional leaf that is no octets
null_is : (l : LeafOf) (n : ℤ) → is_null l n ≡ true → (is_optional l.presence ≡ true) × (not (is_octets l.shape) ≡ true)
null_is l n h = and_parts _ _ (and_parts (is_optional l.presence && not (is_octets l.shape)) (int_eq n l.null) h).0

null_printed : IsPrinted 1 (Some null)
null_printed = record { integers = tt; texts = tt; deep = omega arith }

-- what a number shows, by its two tests
abbrev Found : {X : Type 0} → Bool → Bool → X → X → X → Type 0
Found {X} t u first second x = ◌≡◌ {A = Option X} (cond t (Some first) (cond u (Some second) None)) (Some x)

-- ---- a single number

same_character : (p : Primitive) → line.is_character p ≡ tree.is_character p
same_character Char = refl
same_character I8 = refl
same_character I16 = refl
same_character I32 = refl
same_character I64 = refl
same_character U8 = refl
same_character U16 = refl
same_character U32 = refl
same_character U64 = refl

-- a char by its two tests
abbrev char_by : Bool → Bool → ℤ → Data
char_by t u n = cond t (cond u (string (natural n ∷ [])) (number_data n)) (number_data n)

single_by : (l : LeafOf) (n : ℤ) (t u : Bool) → line.is_character l.prim ≡ t → (int_le (pos 32) n && int_le n (pos 126)) ≡ u → number_in l (as_read (char_by t u n)) ≡ Ok (value.Num n)
single_by l n false u c e = integer_back value.Num n
single_by l n true false c e = integer_back value.Num n
single_by l (pos k) true true c e = ap (λ t. if t && (1 == 1) then Ok (value.Num (pos k)) else refuse code.Kind []) c
single_by l (negsuc k) true true c e = absurd cc

single_printed : (n : ℤ) (t u : Bool) → (int_le (pos 32) n && int_le n (pos 126)) ≡ u → IsKept n → IsPrinted 1 (Some (char_by t u n))
single_printed n false u e h = number_printed n h
single_printed n true false e h = number_printed n h
single_printed (pos k) true true e h =
    let small : nat_lt k 128 ≡ true = grind (arith, nat_tests, ints) in
    record { integers = tt; texts = IsUtf8-are_ascii (k ∷ []) (rw small refl); deep = omega arith }
single_printed (negsuc k) true true e h = absurd cc

-- how a leaf's value is read, by its shape
abbrev pub leaf_reader : LeafShape → LeafOf → Option Data → Reading Value
leaf_reader s l found = there_or (leaf_lack s l) (λ d. shape_in s l d) found

abbrev pub GoodLeaf : LeafShape → LeafOf → Value → Type 0
GoodLeaf s l v = IsGood (leaf_reader s l) 1 (shown_data (Leaf l) no_entries v) v

number_good : (l : LeafOf) (t u : Bool) (n : ℤ) (v : Value) → is_number_of l.prim l.low ≡ true → is_number_of l.prim l.high ≡ true → is_null l n ≡ t → admits l n ≡ u → Found t u value.Null (value.Num n) v → GoodLeaf Number l v
number_good l true u n v low high e a h = subst (GoodLeaf Number l) (some_is h) (record { read = ap null_in (null_is l n e).0; printed = null_printed })
number_good l false true n v low high e a h =
    let seen = int_le (pos 32) n && int_le n (pos 126) in
    let char = tree.is_character l.prim in
    subst (GoodLeaf Number l) (some_is h) (record { read = single_by l n char seen (same_character l.prim) refl; printed = single_printed n char seen refl (admitted_kept l n low high a) })
number_good l false false n v low high e a h = absurd (none_some h)

-- ---- a text

text_is : (l : LeafOf) (bytes : List ℕ) (t : Bool) → text_in l (as_read (cond t (string bytes) (hex bytes))) ≡ text_of (as_read (cond t (string bytes) (hex bytes)))
text_is l bytes true = refl
text_is l bytes false = refl

text_by : (l : LeafOf) (bytes : List ℕ) (t : Bool) → (is_optional l.presence && is_empty bytes) ≡ t → TextHasBytes (cond t value.Null (value.Text bytes)) → GoodLeaf RangedText l (cond t value.Null (value.Text bytes))
text_by l bytes true e h = record { read = ap null_in (and_parts (is_optional l.presence) (is_empty bytes) e).0; printed = null_printed }
text_by l bytes false e h =
    record {
      read = text_is l bytes (list_all is_printable bytes) ∙ ap (λ r. r >>= (λ b. Ok (value.Text b))) (text_back bytes h);
      printed = text_printed bytes;
    }

text_good : (l : LeafOf) (v : Value) (b : List ℕ) → TextHasBytes v → ShowsText l v b → GoodLeaf RangedText l v
text_good l v b h shows =
    let is : v ≡ text_value l shows.0 = shows.5 in
    subst (GoodLeaf RangedText l) (sym is) (text_by l shows.0 (is_optional l.presence && is_empty shows.0) refl (subst TextHasBytes is h))

-- ---- an array

-- elements that are kept, and null only where nulls may stand
abbrev AreKept : Bool → List Elem → Type 0
AreKept nulls [] = ⊤
AreKept nulls (elem.Num n ∷ es) = IsKept n × AreKept nulls es
AreKept nulls (elem.Null ∷ es) = (nulls ≡ true) × AreKept nulls es

kept_by : (l : LeafOf) (nulls t u : Bool) (n : ℤ) (e : Elem) (es : List Elem) → is_number_of l.prim l.low ≡ true → is_number_of l.prim l.high ≡ true → ((x : ℤ) → is_null l x ≡ true → nulls ≡ true)
    → is_null l n ≡ t → admits l n ≡ u → Found t u elem.Null (elem.Num n) e → AreKept nulls es → AreKept nulls (e ∷ es)
kept_by l nulls true u n e es low high only z a h rest = subst (λ e. AreKept nulls (e ∷ es)) (some_is h) (only n z, rest)
kept_by l nulls false true n e es low high only z a h rest = subst (λ e. AreKept nulls (e ∷ es)) (some_is h) (admitted_kept l n low high a, rest)
kept_by l nulls false false n e es low high only z a h rest = absurd (none_some h)

elements_kept : (order : Order) (l : LeafOf) (nulls : Bool) → is_number_of l.prim l.low ≡ true → is_number_of l.prim l.high ≡ true → ((x : ℤ) → is_null l x ≡ true → nulls ≡ true)
    → (es : List Elem) (b : List ℕ) → ShowsElements order l es b → AreKept nulls es
elements_kept order l nulls low high only [] b h = tt
elements_kept order l nulls low high only (e ∷ es) b h = kept_by l nulls _ _ _ e es low high only refl refl h.1 (elements_kept order l nulls low high only es _ h.2)

element_back : (n : ℤ) → element_of (number (of_integer n)) ≡ Ok (elem.Num n)
element_back (pos n) = refl
element_back (negsuc n) = refl

each_back : (nulls : Bool) (i : ℕ) (es : List Elem) → AreKept nulls es → each (element_in nulls) i (items_as_read (elements_data es)) ≡ Ok es
unfolding each
each_back nulls i [] h = refl
each_back nulls i (elem.Num n ∷ es) h =
    ap (λ r. at_item i r >>= (λ x. each (element_in nulls) (suc i) (items_as_read (elements_data es)) >>= (λ xs. Ok (x ∷ xs)))) (element_back n)
    ∙ ap (λ r. r >>= (λ xs. Ok (elem.Num n ∷ xs))) (each_back nulls (suc i) es h.1)
each_back nulls i (elem.Null ∷ es) h =
    ap (λ t. at_item i (if t then Ok elem.Null else refuse code.Kind []) >>= (λ x. each (element_in nulls) (suc i) (items_as_read (elements_data es)) >>= (λ xs. Ok (x ∷ xs)))) h.0
    ∙ ap (λ r. r >>= (λ xs. Ok (elem.Null ∷ xs))) (each_back nulls (suc i) es h.1)

elements_integers : (nulls : Bool) (es : List Elem) → AreKept nulls es → ItemsHaveIntegers (elements_data es)
elements_integers nulls [] h = tt
elements_integers nulls (elem.Num n ∷ es) h = (h.0, elements_integers nulls es h.1)
elements_integers nulls (elem.Null ∷ es) h = (tt, elements_integers nulls es h.1)

elements_texts : (es : List Elem) → ItemsHaveTexts (elements_data es)
elements_texts [] = tt
elements_texts (elem.Num n ∷ es) = (tt, elements_texts es)
elements_texts (elem.Null ∷ es) = (tt, elements_texts es)

elements_flat : (es : List Elem) → items_depth (elements_data es) ≤ 0
elements_flat [] = omega arith
elements_flat (elem.Num n ∷ es) = omega (arith, elements_flat es)
elements_flat (elem.Null ∷ es) = omega (arith, elements_flat es)

array_back : (nulls : Bool) (es : List Elem) → AreKept nulls es → array_in nulls (as_read (array (elements_data es))) ≡ Ok (value.Nums es)
array_back nulls es h = ap (λ r. r >>= (λ xs. Ok (value.Nums xs))) (each_back nulls 0 es h)

array_printed : (nulls : Bool) (es : List Elem) → AreKept nulls es → IsPrinted 1 (Some (array (elements_data es)))
array_printed nulls es h = record { integers = elements_integers nulls es h; texts = elements_texts es; deep = omega (arith, elements_flat es) }

octets_good : (l : LeafOf) (es : List Elem) → AreKept false es → GoodLeaf Octets l (value.Nums es)
octets_good l es h = record { read = array_back false es h; printed = array_printed false es h }

numbers_good : (l : LeafOf) (es : List Elem) → AreKept true es → GoodLeaf Numbers l (value.Nums es)
numbers_good l es h = record { read = array_back true es h; printed = array_printed true es h }

never_null : (l : LeafOf) (n : ℤ) → l.shape ≡ Octets → is_null l n ≡ true → false ≡ true
never_null l n is h = sym (ap (λ s. not (is_octets s)) is) ∙ (null_is l n h).1

-- ---- a leaf

pub leaf_good : (order : Order) (least : ℕ) (l : LeafOf) (s : LeafShape) → l.shape ≡ s → IsLeafFrom least l → (v : Value) (b : List ℕ) → TextHasBytes v → ShowsLeaf order s l v b → GoodLeaf s l v
leaf_good order least l Number is h v b bytes shows = number_good l _ _ (number_of order l.prim b) v h.low h.high refl refl shows
leaf_good order least l RangedText is h v b bytes shows = text_good l v b bytes shows
leaf_good order least l EncodedText is h v b bytes shows = let good = text_good l v b bytes shows in record { read = good.read; printed = good.printed }
leaf_good order least l Octets is h v b bytes shows =
    subst (GoodLeaf Octets l) (sym shows.1) (octets_good l shows.0 (elements_kept order l false h.low h.high (λ n z. never_null l n is z) shows.0 b shows.2))
leaf_good order least l Numbers is h v b bytes shows =
    subst (GoodLeaf Numbers l) (sym shows.1) (numbers_good l shows.0 (elements_kept order l true h.low h.high (λ n z. refl) shows.0 b shows.2))

-- ---- an enum

listed_number : (p : Primitive) (values : List Named) (n : ℤ) → AllByRecursion (λ (v : Named). IsNumberOf p v.number) values → is_listed values n ≡ true → is_number_of p n ≡ true
listed_number p [] n h is = absurd cc
listed_number p (v ∷ vs) n h is = by (int_eq v.number n) refl is (listed_number p vs n h.1)
  where
    by : (t : Bool) → int_eq v.number n ≡ t → (t || is_listed vs n) ≡ true → (is_listed vs n ≡ true → is_number_of p n ≡ true) → is_number_of p n ≡ true
    by true e k later = subst (λ m. is_number_of p m ≡ true) ((Decides-int_eq v.number n).0 e) h.0
    by false e k later = later k

found_name : (values : List Named) (n : ℤ) (s : List ℕ) → AllByRecursion (λ (v : Named). IsName v.name) values → name_of values n ≡ Some s → IsName s
found_name [] n s h is = absurd (none_some is)
found_name (v ∷ vs) n s h is = by (int_eq v.number n) is (found_name vs n s h.1)
  where
    by : (t : Bool) → cond t (Some v.name) (name_of vs n) ≡ Some s → (name_of vs n ≡ Some s → IsName s) → IsName s
    by true k later = subst IsName (some_is k) h.0
    by false k later = later k

enum_printed : (values : List Named) (n : ℤ) (o : Option (List ℕ)) → name_of values n ≡ o → AllByRecursion (λ (v : Named). IsName v.name) values → IsKept n → IsPrinted 1 (Some (option_map_or string o (number_data n)))
enum_printed values n None is h kept = number_printed n kept
enum_printed values n (Some s) is h kept = record { integers = tt; texts = name_text s (found_name values n s h is); deep = omega arith }

abbrev pub GoodEnum : LeafOf → List Named → Value → Type 0
GoodEnum l names v = IsGood (λ found. there_or (value_if_missing l value.Null) (λ d. enum_in l names d) found) 1 (shown_data (Enum l names) no_entries v) v

enum_by : (l : LeafOf) (names : List Named) (t u : Bool) (n : ℤ) (v : Value) → IsEnumInOrder l names → is_null l n ≡ t → (is_listed names n || not true) ≡ u → Found t u value.Null (value.Enum n) v → GoodEnum l names v
enum_by l names true u n v h e a is = subst (GoodEnum l names) (some_is is) (record { read = ap null_in (null_is l n e).0; printed = null_printed })
enum_by l names false true n v h e a is =
    let kept = number_kept l.prim n (listed_number l.prim names n h.listed.numbers (or_false (is_listed names n) a)) in
    subst (GoodEnum l names) (some_is is) (record {
      read = enum_back l names n (do_differ (names_of names) h.listed.names_differ);
      printed = enum_printed names n (name_of names n) refl h.listed.names kept;
    })
  where
    or_false : (t : Bool) → (t || false) ≡ true → t ≡ true
    or_false true k = refl
    or_false false k = k
enum_by l names false false n v h e a is = absurd (none_some is)

pub enum_good : (l : LeafOf) (names : List Named) (n : ℤ) (v : Value) → IsEnumInOrder l names → shown_enum l names true n ≡ Some v → GoodEnum l names v
enum_good l names n v h is = enum_by l names (is_null l n) (is_listed names n || not true) n v h refl refl is

-- ---- a set

items_by : (t : Bool) (name : List ℕ) (rest : Items) → IsUtf8 name → ItemsHaveTexts rest → ItemsHaveTexts (if t then item (string name) rest else rest)
items_by true name rest h k = (h, k)
items_by false name rest h k = k

integers_by : (t : Bool) (name : List ℕ) (rest : Items) → ItemsHaveIntegers rest → ItemsHaveIntegers (if t then item (string name) rest else rest)
integers_by true name rest k = (tt, k)
integers_by false name rest k = k

flat_by : (t : Bool) (name : List ℕ) (rest : Items) → items_depth rest ≤ 0 → items_depth (if t then item (string name) rest else rest) ≤ 0
flat_by true name rest k = omega (arith, k)
flat_by false name rest k = k

chosen_texts : (bits : ℕ) (cs : List Named) → AllByRecursion (λ (c : Named). IsName c.name) cs → ItemsHaveTexts (chosen bits cs)
chosen_texts bits [] h = tt
chosen_texts bits (c ∷ cs) h = items_by (has_bit bits c.number) c.name (chosen bits cs) (name_text c.name h.0) (chosen_texts bits cs h.1)

chosen_integers : (bits : ℕ) (cs : List Named) → ItemsHaveIntegers (chosen bits cs)
chosen_integers bits [] = tt
chosen_integers bits (c ∷ cs) = integers_by (has_bit bits c.number) c.name (chosen bits cs) (chosen_integers bits cs)

chosen_flat : (bits : ℕ) (cs : List Named) → items_depth (chosen bits cs) ≤ 0
chosen_flat bits [] = omega arith
chosen_flat bits (c ∷ cs) = flat_by (has_bit bits c.number) c.name (chosen bits cs) (chosen_flat bits cs)

set_printed : (names : List Named) (bits : ℕ) (t : Bool) → AllByRecursion (λ (c : Named). IsName c.name) names → bits < 2 ^ 64 → IsPrinted 1 (Some (if t then array (chosen bits names) else number (unsigned bits)))
set_printed names bits true h small = record { integers = chosen_integers bits names; texts = chosen_texts bits names h; deep = omega (arith, chosen_flat bits names) }
set_printed names bits false h small = record { integers = small; texts = tt; deep = omega arith }

abbrev pub GoodSet : Primitive → List Named → Value → Type 0
GoodSet p names v = IsGood (λ found. there_or (refuse code.Shape []) (λ d. set_in names d) found) 1 (shown_data (Set p names) no_entries v) v

wire_test : (order : Order) (k n : ℕ) (t : Bool) (bytes : List ℕ) → has_bytes order k (if t then Some n else None) ≡ Some bytes → t ≡ true
wire_test order k n true bytes h = refl
wire_test order k n false bytes h = absurd (none_some h)

wire_small : (order : Order) (p : Primitive) (n : ℕ) (bytes : List ℕ) → bytes_of order p (pos n) ≡ Some bytes → n < 2 ^ 64
wire_small order Char n bytes h = omega (arith, ltb-true _ _ (wire_test order 1 n (nat_lt n 256) bytes h))
wire_small order U8 n bytes h = omega (arith, ltb-true _ _ (wire_test order 1 n (nat_lt n 256) bytes h))
wire_small order U16 n bytes h = omega (arith, ltb-true _ _ (wire_test order 2 n (nat_lt n 65536) bytes h))
wire_small order U32 n bytes h = omega (arith, ltb-true _ _ (wire_test order 4 n (nat_lt n 4294967296) bytes h))
wire_small order U64 n bytes h = omega (arith, ltb-true _ _ (wire_test order 8 n (nat_lt n 18446744073709551616) bytes h))
wire_small order I8 n bytes h = omega (arith, ltb-true _ _ (wire_test order 1 n (nat_lt (2 * n) 256) bytes h))
wire_small order I16 n bytes h = omega (arith, ltb-true _ _ (wire_test order 2 n (nat_lt (2 * n) 65536) bytes h))
wire_small order I32 n bytes h = omega (arith, ltb-true _ _ (wire_test order 4 n (nat_lt (2 * n) 4294967296) bytes h))
wire_small order I64 n bytes h = omega (arith, ltb-true _ _ (wire_test order 8 n (nat_lt (2 * n) 18446744073709551616) bytes h))

set_by : (order : Order) (p : Primitive) (names : List Named) (bits : ℕ) (t : Bool) (v : Value) (wire : List ℕ) → IsSetInOrder p names → set_bytes order p v ≡ Some wire → has_listed_bits names 64 bits ≡ t
    → cond (t || not true) (Some (value.Set bits)) None ≡ Some v → GoodSet p names v
set_by order p names bits true v wire h w e is =
    let small = wire_small order p bits wire (ap (set_bytes order p) (some_is is) ∙ w) in
    subst (GoodSet p names) (some_is is) (record {
      read = set_back names bits small (are_bits p names h.listed.numbers) (do_differ (names_of names) h.listed.names_differ) (do_differ (numbers_of names) h.listed.numbers_differ);
      printed = set_printed names bits (has_listed_bits names 64 bits) h.listed.names small;
    })
set_by order p names bits false v wire h w e is = absurd (none_some is)

pub set_good : (order : Order) (p : Primitive) (names : List Named) (bits : ℕ) (v : Value) (wire : List ℕ) → IsSetInOrder p names → set_bytes order p v ≡ Some wire → shown_set names true bits ≡ Some v → GoodSet p names v
set_good order p names bits v wire h w is = set_by order p names bits (has_listed_bits names 64 bits) v wire h w refl is

-- ---- a constant

abbrev pub GoodConstant : ConstValue → Type 0
GoodConstant c = IsGood (λ found. there_or (Ok value.Const) (λ d. constant_in c d) found) 1 (Some (constant_data c)) value.Const

number_same : (n : ℤ) → is_number n (integer_of (number (of_integer n))) ≡ true
number_same (pos n) = (Decides-int_eq (pos n) (pos n)).1 refl
number_same (negsuc n) = (Decides-int_eq (negsuc n) (negsuc n)).1 refl

pub constant_good : (c : ConstValue) → IsConstantInOrder c → ConstantHasBytes c → GoodConstant c
constant_good (constant.Num n) h bytes = record { read = ap fixed (number_same n); printed = number_printed n (number_kept h.0 n h.1) }
constant_good (constant.Text text) h bytes =
    record {
      read = ap (λ r. r >>= (λ found. fixed (bytes_eq found text))) (text_back text bytes) ∙ ap fixed ((bytes_eq-Decides text text).1 refl);
      printed = text_printed text;
    }
constant_good (constant.Code p named) h bytes =
    record { read = ap fixed ((bytes_eq-Decides named.name named.name).1 refl); printed = record { integers = tt; texts = name_text named.name h.name; deep = omega arith } }
