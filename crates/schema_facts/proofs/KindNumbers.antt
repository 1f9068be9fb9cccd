-- The numbers of accepted leaves and listed values are numbers of their primitive.
use Rattle.std.proofs.Common.{◌≡◌, ℕ, ◌-◌, ◌*◌, ◌≤◌, ◌<◌, Bool, true, false, List, [], ◌∷◌, Option, Some, None, refl, ap, sym, subst, ◌∙◌, arith, eq-eqb, eqb-true, le-leb, leb-true, ltb-true}
use Rattle.std.specs.Prelude.{◌≢◌, ◌==◌, ◌&&◌, not, int_le, nat_le, nat_lt, is_some, Ok, ℤ, pos, negsuc, unwrap_or, if◌then◌else◌}
use Rattle.std.specs.Option.{option_map_or}
use Rattle.std.specs.Str.Parse.{signed_digits_value}
use Rattle.sbe_types.specs.declared.limits.TheConstants.{LENGTH_LIMIT}
use Rattle.sbe_types.specs.declared.kind.Primitive.{Primitive}
use Rattle.sbe_types.specs.declared.kind.Primitive.TheVariants.{Char, I8, I16, I32, I64, U8, U16, U32, U64}
use Rattle.sbe_types.specs.declared.kind.Presence.{Presence}
use Rattle.sbe_types.specs.declared.kind.LeafShape.{LeafShape}
use Rattle.sbe_types.specs.declared.kind.LeafShape.TheVariants as shape
use Rattle.sbe_types.specs.declared.tree.TypeEl.{TypeEl}
use Rattle.sbe_types.specs.declared.tree.TypesItem.{TypesItem}
use Rattle.sbe_types.specs.Numbers.{prim_width}
use Rattle.sbe_types.specs.Shown.{is_octets}
use Rattle.schema_rules.specs.Judging.{first_of}
use Rattle.schema_rules.specs.Names.{integral, plain_type}
use Rattle.sbe_types.specs.declared.tree.PrimitiveType.{PrimitiveType}
use Rattle.sbe_types.specs.declared.tree.PrimitiveType.TheVariants.{Integral, Float, Double}
use Rattle.schema_rules.specs.Ranges.{numbers_of, is_number_of, is_whole_text, character, number_in, value_number, bit_number}
use Rattle.schema_rules.specs.Kinds.{is_unstated, array_shape, shape_of, low_of, high_of, null_of, leaf_of}
use Rattle.schema_rules.specs.TypeRules.{is_constant, is_out, has_bad_number_over, type_rules}
use Rattle.schema_facts.specs.InOrder.{IsShapeOf, IsLeafFrom, IsNumberOf, IsBitOf}
use Rattle.schema_facts.proofs.KindPassed.{all_pass, neither}

-- ---- tests

pub not_false : (b : Bool) → not b ≡ false → b ≡ true
not_false true h = refl
not_false false h = cc

pub both_true : (a b : Bool) → a && b ≡ true → (a ≡ true) × (b ≡ true)
both_true true b h = (refl, h)
both_true false b h = cc

are_true : (a b : Bool) → a ≡ true → b ≡ true → a && b ≡ true
are_true true b h k = k
are_true false b h k = h

-- ---- the numbers that texts spell

zero_in : (prim : Primitive) → is_number_of prim (pos 0) ≡ true
zero_in Char = refl
zero_in I8 = refl
zero_in I16 = refl
zero_in I32 = refl
zero_in I64 = refl
zero_in U8 = refl
zero_in U16 = refl
zero_in U32 = refl
zero_in U64 = refl

between : (P : ℤ → Type 0) (whole within : Bool) (v : ℤ) → (within ≡ true → P v) → P (pos 0) → P (unwrap_or (if whole && within then Some v else None) (pos 0))
between P true true v h z = h refl
between P true false v h z = z
between P false within v h z = z

pub number_is : (prim : Primitive) (text : List ℕ) → IsNumberOf prim (unwrap_or (number_in prim text) (pos 0))
number_is prim text =
    between (IsNumberOf prim) (is_whole_text text) (is_number_of prim (signed_digits_value 10 text)) (signed_digits_value 10 text) (λ h. h) (zero_in prim)

byte_in : (c : ℕ) → c < 256 → int_le (pos 0) (pos c) && int_le (pos c) (pos 255) ≡ true
byte_in c h = are_true (nat_le 0 c) (nat_le c 255) (le-leb 0 c (omega arith)) (le-leb c 255 (omega arith))

byte_is : (c : ℕ) (is_byte : Bool) → nat_lt c 256 ≡ is_byte → IsNumberOf Char (unwrap_or (if is_byte then Some (pos c) else None) (pos 0))
byte_is c true h = byte_in c (ltb-true c 256 h)
byte_is c false h = refl

char_is : (text : List ℕ) → IsNumberOf Char (unwrap_or (character text) (pos 0))
char_is [] = refl
char_is (c ∷ []) = byte_is c (nat_lt c 256) refl
char_is (c ∷ (d ∷ cs)) = refl

-- the number of a valid value
pub value_is : (prim : Primitive) (text : List ℕ) → IsNumberOf prim (unwrap_or (value_number prim text) (pos 0))
value_is Char text = char_is text
value_is I8 text = number_is I8 text
value_is I16 text = number_is I16 text
value_is I32 text = number_is I32 text
value_is I64 text = number_is I64 text
value_is U8 text = number_is U8 text
value_is U16 text = number_is U16 text
value_is U32 text = number_is U32 text
value_is U64 text = number_is U64 text

bit_below : (bytes : ℕ) (v : ℤ) → 1 ≤ bytes → int_le (pos 0) v && int_le v (pos (8 * bytes - 1)) ≡ true → IsBitOf bytes v
bit_below bytes (pos b) some h = let most = leb-true b (8 * bytes - 1) (both_true (nat_le 0 b) (nat_le b (8 * bytes - 1)) h).1 in omega arith
bit_below bytes (negsuc n) some h = let low = (both_true (int_le (pos 0) (negsuc n)) (int_le (negsuc n) (pos (8 * bytes - 1))) h).0 in cc

some_byte : (prim : Primitive) → 1 ≤ prim_width prim
some_byte Char = omega arith
some_byte I8 = omega arith
some_byte I16 = omega arith
some_byte I32 = omega arith
some_byte I64 = omega arith
some_byte U8 = omega arith
some_byte U16 = omega arith
some_byte U32 = omega arith
some_byte U64 = omega arith

bit_zero : (bytes : ℕ) → 1 ≤ bytes → IsBitOf bytes (pos 0)
bit_zero bytes some = omega arith

-- the bit of a choice
pub bit_is : (prim : Primitive) (text : List ℕ) → IsBitOf (prim_width prim) (unwrap_or (bit_number (prim_width prim) text) (pos 0))
bit_is prim text =
    between (IsBitOf (prim_width prim)) (is_whole_text text)
    (int_le (pos 0) (signed_digits_value 10 text) && int_le (signed_digits_value 10 text) (pos (8 * prim_width prim - 1))) (signed_digits_value 10 text)
    (bit_below (prim_width prim) (signed_digits_value 10 text) (some_byte prim)) (bit_zero (prim_width prim) (some_byte prim))

-- ---- the null and the range of a leaf

pub own_null : (prim : Primitive) → is_number_of prim (numbers_of prim).null ≡ true
own_null Char = refl
own_null I8 = refl
own_null I16 = refl
own_null I32 = refl
own_null I64 = refl
own_null U8 = refl
own_null U16 = refl
own_null U32 = refl
own_null U64 = refl

pub own_low : (prim : Primitive) → is_number_of prim (numbers_of prim).low ≡ true
own_low Char = refl
own_low I8 = refl
own_low I16 = refl
own_low I32 = refl
own_low I64 = refl
own_low U8 = refl
own_low U16 = refl
own_low U32 = refl
own_low U64 = refl

pub own_high : (prim : Primitive) → is_number_of prim (numbers_of prim).high ≡ true
own_high Char = refl
own_high I8 = refl
own_high I16 = refl
own_high I32 = refl
own_high I64 = refl
own_high U8 = refl
own_high U16 = refl
own_high U32 = refl
own_high U64 = refl

stated_in : (prim : Primitive) (o : Option ℤ) (own : ℤ) → is_out prim o ≡ false → is_number_of prim own ≡ true → is_number_of prim (unwrap_or o own) ≡ true
stated_in prim None own h k = k
stated_in prim (Some n) own h k = not_false (is_number_of prim n) h

-- ---- the shape of a leaf

more_than_one : (n : ℕ) → n == 1 ≡ false → n ≢ 1
more_than_one n h e = let same = eq-eqb n 1 e in cc

text_shape : (encoded : Bool) (n : ℕ) → n ≢ 1 → IsShapeOf (if encoded then shape.EncodedText else shape.RangedText) Char n
text_shape true n h = (refl, h)
text_shape false n h = (refl, h)

octet_shape : (unstated : Bool) (n : ℕ) → n ≢ 1 → IsShapeOf (if unstated then shape.Octets else shape.Numbers) U8 n
octet_shape true n h = (refl, h)
octet_shape false n h = ((λ e. cc), h)

array_is : (prim : Primitive) (t : TypeEl) → t.length ≢ 1 → IsShapeOf (array_shape prim t) prim t.length
array_is Char t h = text_shape (is_some t.character_encoding) t.length h
array_is U8 t h = octet_shape (is_unstated t) t.length h
array_is I8 t h = ((λ e. cc), h)
array_is I16 t h = ((λ e. cc), h)
array_is I32 t h = ((λ e. cc), h)
array_is I64 t h = ((λ e. cc), h)
array_is U16 t h = ((λ e. cc), h)
array_is U32 t h = ((λ e. cc), h)
array_is U64 t h = ((λ e. cc), h)

shape_by : (one : Bool) (prim : Primitive) (t : TypeEl) → t.length == 1 ≡ one → IsShapeOf (if one then shape.Number else array_shape prim t) prim t.length
shape_by true prim t h = eqb-true t.length 1 h
shape_by false prim t h = array_is prim t (more_than_one t.length h)

-- the greatest number is stated, or that of octets
record HighIs (prim : Primitive) (low high : ℤ) : Type 0 where
  number : is_number_of prim high ≡ true
  range : int_le low high ≡ true

octets_high : (prim : Primitive) (low : ℤ) → prim ≡ U8 → is_number_of prim low ≡ true → HighIs prim low (pos 255)
octets_high prim low is h =
    let own : is_number_of U8 low ≡ true = subst (λ (p : Primitive). is_number_of p low ≡ true) is h in
    subst (λ (p : Primitive). HighIs p low (pos 255)) (sym is)
    (record { number = refl; range = (both_true (int_le (pos 0) low) (int_le low (pos 255)) own).1 })

high_by : (s : LeafShape) (prim : Primitive) (n : ℕ) (low high : ℤ) → IsShapeOf s prim n → is_number_of prim low ≡ true → HighIs prim low high →
    HighIs prim low (if is_octets s then pos 255 else high)
high_by shape.Number prim n low high is h own = own
high_by shape.RangedText prim n low high is h own = own
high_by shape.EncodedText prim n low high is h own = own
high_by shape.Octets prim n low high is h own = octets_high prim low is.0 h
high_by shape.Numbers prim n low high is h own = own

-- ---- leaves

-- what the rules have found of a type over a primitive
pub record GoodType (prim : Primitive) (t : TypeEl) : Type 0 where
  pub null : is_number_of prim (null_of prim t) ≡ true
  pub low : is_number_of prim (low_of prim t) ≡ true
  pub high : is_number_of prim (high_of prim t) ≡ true
  pub range : int_le (low_of prim t) (high_of prim t) ≡ true
  pub most : t.length ≤ LENGTH_LIMIT

pub good_type : (types : List TypesItem) (member : Bool) (prim : Primitive) (t : TypeEl) → integral t.primitive_type ≡ Some prim →
    first_of (type_rules types member t) ≡ Ok tt → t.length ≤ LENGTH_LIMIT → GoodType prim t
good_type types member prim t is h short =
    let each = all_pass (type_rules types member t) h in
    let numbers : has_bad_number_over types t prim ≡ false = ap (λ (o : Option Primitive). option_map_or (has_bad_number_over types t) o false) (sym is) ∙ each.1.1.1.0 in
    let null = neither (is_out prim t.null_value) _ numbers in
    let low = neither (is_out prim t.min_value) _ null.1 in
    let high = neither (is_out prim t.max_value) _ low.1 in
    let range = neither (not (int_le (low_of prim t) (high_of prim t))) _ high.1 in
    record {
      null = stated_in prim t.null_value (numbers_of prim).null null.0 (own_null prim);
      low = stated_in prim t.min_value (numbers_of prim).low low.0 (own_low prim);
      high = stated_in prim t.max_value (numbers_of prim).high high.0 (own_high prim);
      range = not_false (int_le (low_of prim t) (high_of prim t)) range.0;
      most = short;
    }

pub leaf_is : (prim : Primitive) (presence : Presence) (t : TypeEl) (n : ℕ) → GoodType prim t → is_constant presence ≡ false → n ≤ t.length → IsLeafFrom n (leaf_of prim presence t)
leaf_is prim presence t n good fixed least =
    let shape = shape_by (t.length == 1) prim t refl in
    let high = high_by (shape_of prim t) prim t.length (low_of prim t) (high_of prim t) shape good.low (record { number = good.high; range = good.range }) in
    record { null = good.null; low = good.low; high = high.number; range = high.range; least = least; most = good.most; shape = shape; presence = fixed }

-- ---- the types of the words for primitives

own_range : (prim : Primitive) → int_le (numbers_of prim).low (numbers_of prim).high ≡ true
own_range Char = refl
own_range I8 = refl
own_range I16 = refl
own_range I32 = refl
own_range I64 = refl
own_range U8 = refl
own_range U16 = refl
own_range U32 = refl
own_range U64 = refl

plain_own : (name : List ℕ) (prim : Primitive) → GoodType prim (plain_type name (Integral prim))
plain_own name prim = record { null = own_null prim; low = own_low prim; high = own_high prim; range = own_range prim; most = omega arith }

pub plain_good : (name : List ℕ) (p : PrimitiveType) (prim : Primitive) → integral p ≡ Some prim → GoodType prim (plain_type name p)
plain_good name (Integral q) prim h =
    let same : q ≡ prim = cc in
    subst (λ (p : Primitive). GoodType p (plain_type name (Integral q))) same (plain_own name q)
plain_good name Float prim h = cc
plain_good name Double prim h = cc
