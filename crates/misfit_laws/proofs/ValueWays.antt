-- The misfit of a value is not a lack of room, and its path leads to a part of the value.
use Rattle.std.proofs.Common.{◌≡◌, ℕ, suc, Bool, true, false, cond, List, [], ◌∷◌, length, Option, Some, None, ℤ, pos, refl}
use Rattle.std.specs.Prelude.{⊤, ◌==◌, ◌&&◌, ◌^◌, not, nat_le, nat_lt, find, map}
use Rattle.sbe_types.specs.declared.kind.Kind.{Kind, Leaf, Enum, Set, Const, Comp', Row_of-Member, end_of-Member, more_of-Member, items-the_row-Member}
use Rattle.sbe_types.specs.declared.kind.Leaf.{Leaf as LeafOf}
use Rattle.sbe_types.specs.declared.kind.LeafShape.{LeafShape}
use Rattle.sbe_types.specs.declared.kind.LeafShape.TheVariants.{Number, RangedText, EncodedText, Octets, Numbers}
use Rattle.sbe_types.specs.declared.kind.Named.{Named}
use Rattle.sbe_types.specs.declared.message.Elem.{Elem}
use Rattle.sbe_types.specs.declared.message.Elem.TheVariants as elem
use Rattle.sbe_types.specs.declared.message.Value.{Value}
use Rattle.sbe_types.specs.declared.message.Value.TheVariants as value
use Rattle.sbe_types.specs.declared.path.Step.{Step}
use Rattle.sbe_types.specs.declared.path.Step.TheVariants as way
use Rattle.sbe_types.specs.declared.schema.Field.{Field}
use Rattle.sbe_types.specs.Places.{width}
use Rattle.sbe_types.specs.Shown.{admits, is_null, is_optional, is_octets, is_listed, has_listed_bits}
use Rattle.sbe_types.specs.Shows.{is_empty, is_text_byte}
use Rattle.sbe_types.specs.Wire.{member_values}
use Rattle.sbe_wire.specs.declared.codes.NCode.{NCode}
use Rattle.sbe_wire.specs.declared.codes.NCode.TheVariants as code
use Rattle.sbe_wire.specs.Misfit.{Misfit, misfit_here, misfit_in, or_else, unless, is_full, other_kind, number_misfit, byte_misfit, text_misfit, element_misfit, elements_misfit, array_misfit, leaf_misfit, enum_misfit, set_misfit, const_misfit, same_length, value_misfit, row_misfit, fields_misfit}
use Rattle.layout_tables.specs.Paths.{Inside, in_kind, in_nothing, NamedPart, field_part, member_part, parts_inside}
use Rattle.misfit_laws.proofs.Leading.{Leads, LeadsBy, here, part_leads, element_leads, Behind, first_is, next_are, all_are}

-- no misfit, or one that is not a lack of room and whose path leads on from the place
abbrev pub LeadsOn : Inside → Option Misfit → Type 0
LeadsOn inside None = ⊤
LeadsOn inside (Some m) = (is_full m.code ≡ false) × Leads inside m.path

pub told_here : (inside : Inside) (c : NCode) (n : ℤ) → is_full c ≡ false → LeadsOn inside (misfit_here c n)
told_here inside c n h = (h, here inside [] refl)

told_unless : (inside : Inside) (t : Bool) (m : Option Misfit) → LeadsOn inside m → LeadsOn inside (unless t m)
told_unless inside true m h = tt
told_unless inside false m h = h

pub told_or : (inside : Inside) (m k : Option Misfit) → LeadsOn inside m → LeadsOn inside k → LeadsOn inside (or_else m k)
told_or inside None k h j = j
told_or inside (Some m) k h j = h

pub told_step : (inside : Inside) (step : Step) (below : Inside) (m : Option Misfit) → LeadsBy inside step below → LeadsOn below m → LeadsOn inside (misfit_in step m)
told_step inside step below None leads h = tt
told_step inside step below (Some m) leads h = (h.0, leads m.path h.1)

other : (inside : Inside) → LeadsOn inside other_kind
other inside = told_here inside code.Kind (pos 0) refl

-- ---- numbers, texts and arrays

number_told : (inside : Inside) (leaf : LeafOf) (v : Value) → LeadsOn inside (number_misfit leaf v)
number_told inside leaf (value.Num n) = told_unless inside (admits leaf n && not (is_null leaf n)) (misfit_here code.Range n) (told_here inside code.Range n refl)
number_told inside leaf value.Null = told_unless inside (is_optional leaf.presence) other_kind (other inside)
number_told inside leaf (value.Text text) = other inside
number_told inside leaf (value.Nums elements) = other inside
number_told inside leaf (value.Enum n) = other inside
number_told inside leaf (value.Set n) = other inside
number_told inside leaf (value.Comp' n row) = other inside
number_told inside leaf value.Const = other inside
number_told inside leaf value.Absent = other inside

byte_told : (inside : Inside) (o : Option ℕ) → LeadsOn inside (byte_misfit o)
byte_told inside None = tt
byte_told inside (Some b) = told_here inside code.TextByte (pos b) refl

text_told : (inside : Inside) (leaf : LeafOf) (v : Value) → LeadsOn inside (text_misfit leaf v)
text_told inside leaf (value.Text text) =
    let fits = nat_le (length text) (width (Leaf leaf)) && not (is_optional leaf.presence && is_empty text) in
    let long = misfit_here code.Range (pos (length text)) in
    let bad = find (λ b. not (is_text_byte leaf b)) text in
    told_or inside (unless fits long) (byte_misfit bad) (told_unless inside fits long (told_here inside code.Range (pos (length text)) refl)) (byte_told inside bad)
text_told inside leaf value.Null = told_unless inside (is_optional leaf.presence) other_kind (other inside)
text_told inside leaf (value.Num n) = other inside
text_told inside leaf (value.Nums elements) = other inside
text_told inside leaf (value.Enum n) = other inside
text_told inside leaf (value.Set n) = other inside
text_told inside leaf (value.Comp' n row) = other inside
text_told inside leaf value.Const = other inside
text_told inside leaf value.Absent = other inside

element_told : (inside : Inside) (leaf : LeafOf) (e : Elem) → LeadsOn inside (element_misfit leaf e)
element_told inside leaf (elem.Num n) = told_unless inside (admits leaf n && not (is_null leaf n)) (misfit_here code.Range n) (told_here inside code.Range n refl)
element_told inside leaf elem.Null = told_unless inside (is_optional leaf.presence && not (is_octets leaf.shape)) other_kind (other inside)

elements_told : (leaf : LeafOf) (i : ℕ) (es : List Elem) → LeadsOn (in_kind (Leaf leaf)) (elements_misfit leaf i es)
elements_told leaf i [] = tt
elements_told leaf i (e ∷ es) =
    told_or (in_kind (Leaf leaf)) (misfit_in (way.Elem i) (element_misfit leaf e)) (elements_misfit leaf (suc i) es)
    (told_step (in_kind (Leaf leaf)) (way.Elem i) in_nothing (element_misfit leaf e) (element_leads leaf i) (element_told in_nothing leaf e))
    (elements_told leaf (suc i) es)

-- a misfit, or that the value is of another kind
told_either : (inside : Inside) (t : Bool) (m : Option Misfit) → LeadsOn inside m → LeadsOn inside (cond t m other_kind)
told_either inside true m h = h
told_either inside false m h = other inside

array_told : (leaf : LeafOf) (v : Value) → LeadsOn (in_kind (Leaf leaf)) (array_misfit leaf v)
array_told leaf (value.Nums elements) = told_either (in_kind (Leaf leaf)) (length elements == leaf.length) (elements_misfit leaf 0 elements) (elements_told leaf 0 elements)
array_told leaf (value.Num n) = other (in_kind (Leaf leaf))
array_told leaf value.Null = other (in_kind (Leaf leaf))
array_told leaf (value.Text text) = other (in_kind (Leaf leaf))
array_told leaf (value.Enum n) = other (in_kind (Leaf leaf))
array_told leaf (value.Set n) = other (in_kind (Leaf leaf))
array_told leaf (value.Comp' n row) = other (in_kind (Leaf leaf))
array_told leaf value.Const = other (in_kind (Leaf leaf))
array_told leaf value.Absent = other (in_kind (Leaf leaf))

leaf_told : (shape : LeafShape) (leaf : LeafOf) (v : Value) → LeadsOn (in_kind (Leaf leaf)) (leaf_misfit shape leaf v)
leaf_told Number leaf v = number_told (in_kind (Leaf leaf)) leaf v
leaf_told RangedText leaf v = text_told (in_kind (Leaf leaf)) leaf v
leaf_told EncodedText leaf v = text_told (in_kind (Leaf leaf)) leaf v
leaf_told Octets leaf v = array_told leaf v
leaf_told Numbers leaf v = array_told leaf v

-- ---- enums, sets and constants

enum_told : (inside : Inside) (leaf : LeafOf) (names : List Named) (v : Value) → LeadsOn inside (enum_misfit leaf names v)
enum_told inside leaf names (value.Enum n) =
    let unknown = misfit_here code.EnumUnknown n in
    let null = misfit_here code.Range n in
    told_or inside (unless (is_listed names n) unknown) (unless (not (is_null leaf n)) null)
    (told_unless inside (is_listed names n) unknown (told_here inside code.EnumUnknown n refl))
    (told_unless inside (not (is_null leaf n)) null (told_here inside code.Range n refl))
enum_told inside leaf names value.Null = told_unless inside (is_optional leaf.presence) other_kind (other inside)
enum_told inside leaf names (value.Num n) = other inside
enum_told inside leaf names (value.Text text) = other inside
enum_told inside leaf names (value.Nums elements) = other inside
enum_told inside leaf names (value.Set n) = other inside
enum_told inside leaf names (value.Comp' n row) = other inside
enum_told inside leaf names value.Const = other inside
enum_told inside leaf names value.Absent = other inside

set_told : (inside : Inside) (names : List Named) (v : Value) → LeadsOn inside (set_misfit names v)
set_told inside names (value.Set n) =
    told_unless inside (nat_lt n (2 ^ 64) && has_listed_bits names 64 n) (misfit_here code.SetUnknown (pos n)) (told_here inside code.SetUnknown (pos n) refl)
set_told inside names (value.Num n) = other inside
set_told inside names value.Null = other inside
set_told inside names (value.Text text) = other inside
set_told inside names (value.Nums elements) = other inside
set_told inside names (value.Enum n) = other inside
set_told inside names (value.Comp' n row) = other inside
set_told inside names value.Const = other inside
set_told inside names value.Absent = other inside

const_told : (inside : Inside) (v : Value) → LeadsOn inside (const_misfit v)
const_told inside value.Const = tt
const_told inside (value.Num n) = other inside
const_told inside value.Null = other inside
const_told inside (value.Text text) = other inside
const_told inside (value.Nums elements) = other inside
const_told inside (value.Enum n) = other inside
const_told inside (value.Set n) = other inside
const_told inside (value.Comp' n row) = other inside
const_told inside value.Absent = other inside

-- ---- kinds, and the fields of a block

-- the parts of a row of members
abbrev row_parts : {n : _} → Row_of-Member n → List NamedPart
row_parts row = map member_part (items-the_row-Member _ row)

abbrev row_part : List ℕ → Option ℕ → Kind → NamedPart
row_part name offset kind = member_part (record { name = name; offset = offset; kind = kind })

mutual
  kind_told : (kind : Kind) (v : Value) → LeadsOn (in_kind kind) (value_misfit kind v)
  kind_told (Leaf l) v = leaf_told l.shape l v
  kind_told (Enum l names) v = enum_told (in_kind (Enum l names)) l names v
  kind_told (Set p names) v = set_told (in_kind (Set p names)) names v
  kind_told (Const c) v = const_told (in_kind (Const c)) v
  kind_told (Comp' n members) v = row_told (in_kind (Comp' n members)) 0 members (member_values v) (all_are (map member_part (items-the_row-Member _ members)))

  row_told : (inside : Inside) (i : ℕ) {n : _} (row : Row_of-Member n) (vs : Option (List Value)) → Behind (parts_inside inside) i (map member_part (items-the_row-Member _ row)) → LeadsOn inside (row_misfit i row vs)
  row_told inside i end_of-Member None stand = other inside
  row_told inside i (more_of-Member name offset kind rest) None stand = other inside
  row_told inside i end_of-Member (Some []) stand = tt
  row_told inside i end_of-Member (Some (v ∷ vs)) stand = other inside
  row_told inside i (more_of-Member name offset kind rest) (Some []) stand = other inside
  row_told inside i (more_of-Member name offset kind rest) (Some (v ∷ vs)) stand =
      let this = row_part name offset kind in
      let leads = part_leads inside i this (first_is (parts_inside inside) i this (row_parts rest) stand) in
      told_either inside (same_length rest vs) (or_else (misfit_in (way.Part i) (value_misfit kind v)) (row_misfit (suc i) rest (Some vs)))
      (told_or inside (misfit_in (way.Part i) (value_misfit kind v)) (row_misfit (suc i) rest (Some vs))
      (told_step inside (way.Part i) (in_kind kind) (value_misfit kind v) leads (kind_told kind v))
      (row_told inside (suc i) rest (Some vs) (next_are (parts_inside inside) i this (row_parts rest) stand)))

pub fields_told : (inside : Inside) (i : ℕ) (fields : List Field) (values : List Value) → Behind (parts_inside inside) i (map field_part fields) → LeadsOn inside (fields_misfit i fields values)
fields_told inside i [] vs stand = tt
fields_told inside i (f ∷ fs) [] stand = tt
fields_told inside i (f ∷ fs) (v ∷ vs) stand =
    let leads = part_leads inside i (field_part f) (first_is (parts_inside inside) i (field_part f) (map field_part fs) stand) in
    told_or inside (misfit_in (way.Part i) (value_misfit f.kind v)) (fields_misfit (suc i) fs vs)
    (told_step inside (way.Part i) (in_kind f.kind) (value_misfit f.kind v) leads (kind_told f.kind v))
    (fields_told inside (suc i) fs vs (next_are (parts_inside inside) i (field_part f) (map field_part fs) stand))
