-- The leaves, enums, sets and constants of accepted types are in order.
use Rattle.std.proofs.Common.{◌≡◌, ℕ, ◌≤◌, Bool, true, false, List, [], ◌∷◌, map, length, Option, Some, None, refl, ap, sym, subst, ◌∙◌, arith, eqb-true}
use Rattle.std.proofs.lemmas.List.{length-map}
use Rattle.std.specs.Prelude.{◌==◌, not, Ok, ⊤, find, pos, unwrap_or, if◌then◌else◌, option_map, option_and_then}
use Rattle.std.specs.Option.{option_or}
use Rattle.std.specs.List.{AllByRecursion}
use Rattle.std.specs.Str.{bytes_eq}
use Rattle.sbe_types.specs.declared.kind.Primitive.{Primitive}
use Rattle.sbe_types.specs.declared.kind.Primitive.TheVariants.{U8}
use Rattle.sbe_types.specs.declared.kind.Presence.{Presence}
use Rattle.sbe_types.specs.declared.kind.Presence.TheVariants.{Required, Optional, Constant}
use Rattle.sbe_types.specs.declared.kind.Leaf.{Leaf as LeafOf}
use Rattle.sbe_types.specs.declared.kind.Named.{Named}
use Rattle.sbe_types.specs.declared.kind.ConstValue.TheVariants as value
use Rattle.sbe_types.specs.declared.tree.ValueRef.{ValueRef}
use Rattle.sbe_types.specs.declared.tree.TypeEl.{TypeEl}
use Rattle.sbe_types.specs.declared.tree.EnumEl.{EnumEl}
use Rattle.sbe_types.specs.declared.tree.SetEl.{SetEl}
use Rattle.sbe_types.specs.declared.tree.ValidValueEl.{ValidValueEl}
use Rattle.sbe_types.specs.declared.tree.ChoiceEl.{ChoiceEl}
use Rattle.sbe_types.specs.declared.tree.TypesItem.{TypesItem}
use Rattle.sbe_types.specs.declared.tree.TypesItem.TheVariants as item
use Rattle.sbe_types.specs.InForm.{IsName, IsEnumInForm, IsSetInForm}
use Rattle.sbe_types.specs.Numbers.{prim_width}
use Rattle.schema_rules.specs.declared.encodings.Encoding.{Encoding}
use Rattle.schema_rules.specs.Judging.{first_of}
use Rattle.schema_rules.specs.Ranges.{is_char, number_in}
use Rattle.sbe_types.specs.declared.tree.PrimitiveType.{PrimitiveType}
use Rattle.schema_rules.specs.Names.{plain_type, integral, simple_of, enum_of, declared_as, type_named, Referred, referred_in, referred}
use Rattle.schema_rules.specs.Kinds.{Use, effective, encoding_of, encoding_named, with_presence, valid_value, choice, code_over, code_found, code_of, text_value, constant_of, type_over, type_in, type_kind, enum_over, enum_in, enum_kind, set_in, set_kind}
use Rattle.schema_rules.specs.TypeRules.{is_constant, is_enum_primitive, is_set_primitive, is_encoding, has_value_twice, has_bit_twice, has_no_value, type_rules, enum_rules, set_rules}
use Rattle.schema_facts.specs.InOrder.{AreAccepted, IsLeafFrom, IsEnumInOrder, IsSetInOrder, AreListed, IsNumberOf, IsBitOf, IsConstantInOrder, IsKindFrom}
use Rattle.schema_facts.proofs.KindPassed.{all_pass, neither, then_ok}
use Rattle.schema_facts.proofs.FactKinds.{some_of}
use Rattle.schema_facts.proofs.KindOptional.{leaf_with}
use Rattle.schema_facts.proofs.KindDeclared.{declared_good, then_some, named_by}
use Rattle.schema_facts.proofs.KindListed.{values_differ}
use Rattle.schema_facts.proofs.KindNumbers.{not_false, both_true, number_is, value_is, bit_is, GoodType, good_type, leaf_is, plain_good}

-- ---- lists

pub mapped : {X Y : Type 0} (f : X → Y) (P : X → Type 0) (Q : Y → Type 0) → ((x : X) → P x → Q (f x)) → (xs : List X) → AllByRecursion P xs → AllByRecursion Q (map f xs)
mapped f P Q from [] h = tt
mapped f P Q from (x ∷ xs) h = (from x h.0, mapped f P Q from xs h.1)

pub each_of : {X : Type 0} (P : X → Type 0) → ((x : X) → P x) → (xs : List X) → AllByRecursion P xs
each_of P h [] = tt
each_of P h (x ∷ xs) = (h x, each_of P h xs)

found_or : {X : Type 0} (P : X → Type 0) (b : Bool) (x : X) (o : Option X) (v : X) → (if b then Some x else o) ≡ Some v → P x → (o ≡ Some v → P v) → P v
found_or P true x o v h here later = let same : x ≡ v = cc in subst P same here
found_or P false x o v h here later = later h

found_all : {X : Type 0} (P : X → Type 0) (p : X → Bool) (xs : List X) (v : X) → AllByRecursion P xs → find p xs ≡ Some v → P v
found_all P p [] v h found = cc
found_all P p (x ∷ xs) v h found = found_or P (p x) x (find p xs) v found h.0 (found_all P p xs v h.1)

mapped_some : {X Y : Type 0} (f : X → Y) (o : Option X) (y : Y) → option_map f o ≡ Some y → (x : X) × (o ≡ Some x) × (f x ≡ y)
mapped_some f None y h = cc
mapped_some f (Some x) y h = (x, refl, cc)

-- ---- parts of types

enum_with : (p : Presence) (l : LeafOf) (values : List Named) → is_constant p ≡ false → IsEnumInOrder l values → IsEnumInOrder (with_presence p l) values
enum_with p l values fixed h =
    record { leaf = leaf_with p 1 l fixed h.leaf; single = h.single; encoding = h.encoding; some = h.some; few = h.few; listed = h.listed }

simple_is : (t : TypesItem) (s : TypeEl) → simple_of t ≡ Some s → t ≡ item.Type s
simple_is (item.Type t) s h = cc
simple_is (item.Composite c) s h = cc
simple_is (item.Enum e) s h = cc
simple_is (item.Set x) s h = cc

enum_is_found : (t : TypesItem) (e : EnumEl) → enum_of t ≡ Some e → t ≡ item.Enum e
enum_is_found (item.Type t) e h = cc
enum_is_found (item.Composite c) e h = cc
enum_is_found (item.Enum d) e h = cc
enum_is_found (item.Set x) e h = cc

module _ (types : List TypesItem) (accepted : AreAccepted types) where
  -- ---- encodings

  -- a type that a name stands for
  abbrev IsGoodNamed : List ℕ → Option TypesItem → Type 0
  IsGoodNamed name o = (t : TypeEl) (prim : Primitive) → o ≡ Some (item.Type t) → integral t.primitive_type ≡ Some prim → GoodType prim t

  plain_named_good : (name word : List ℕ) (primitive : PrimitiveType) → IsGoodNamed name (Some (item.Type (plain_type word primitive)))
  plain_named_good name word primitive t prim same is =
      let same : plain_type word primitive ≡ t = cc in
      subst (λ (t : TypeEl). GoodType prim t) same (plain_good word primitive prim (ap (λ (t : TypeEl). integral t.primitive_type) same ∙ is))

  declared_named_good : (name : List ℕ) (d : TypesItem) → declared_as types name ≡ Some d → IsGoodNamed name (Some d)
  declared_named_good name d found t prim same is =
      let good = declared_good types accepted name (item.Type t) (found ∙ same) in
      good_type types false prim t is (then_ok (first_of (type_rules types false t)) _ tt good.judged).1 good.form.primitives

  simple_good : (name : List ℕ) → IsGoodNamed name (type_named types name)
  simple_good name = named_by (IsGoodNamed name) (λ t prim same is. cc) (plain_named_good name) types name (declared_named_good name)

  -- the leaf of an encoding is in order, if it is long enough
  pub record GoodEncoding (e : Encoding) : Type 0 where
    pub leaf : (n : ℕ) → n ≤ e.leaf.length → IsLeafFrom n e.leaf

  encoding_by : (t : TypeEl) (e : Encoding) → encoding_of t ≡ Some e → ((prim : Primitive) → integral t.primitive_type ≡ Some prim → GoodType prim t) → GoodEncoding e
  encoding_by t e h good =
      let found = mapped_some _ (integral t.primitive_type) e h in
      subst GoodEncoding found.2 (record { leaf = λ n least. leaf_is found.0 Required t n (good found.0 found.1) refl least })

  pub encoding_good : (name : List ℕ) (e : Encoding) → encoding_named types name ≡ Some e → GoodEncoding e
  encoding_good name e h =
      let found = then_some encoding_of (option_and_then simple_of (type_named types name)) e h in
      let simple = then_some simple_of (type_named types name) found.0 found.1 in
      let named = simple.1 ∙ ap (λ (t : TypesItem). Some t) (simple_is simple.0 found.0 simple.2) in
      encoding_by found.0 e found.2 (λ prim is. simple_good name found.0 prim named is)

  -- ---- enums and sets

  enum_values : (e : EnumEl) (encoding : Encoding) → IsEnumInForm e → has_value_twice (Some encoding) e ≡ false →
      AreListed (IsNumberOf encoding.leaf.prim) (map (valid_value encoding.leaf.prim) e.children)
  enum_values e encoding form once =
      let prim = encoding.leaf.prim in
      let differ = values_differ (map (valid_value prim) e.children) once in
      record {
        names = mapped (valid_value prim) (λ (v : ValidValueEl). IsName v.name) (λ (v : Named). IsName v.name) (λ v name. name) e.children form.values;
        numbers = mapped (valid_value prim) (λ (v : ValidValueEl). ⊤) (λ (v : Named). IsNumberOf prim v.number) (λ v any. value_is prim v.text) e.children (each_of (λ (v : ValidValueEl). ⊤) (λ v. tt) e.children);
        names_differ = differ.names;
        numbers_differ = differ.numbers;
      }

  -- what the rules have found of an enum over an encoding
  pub enum_is : (e : EnumEl) (encoding : Encoding) → first_of (enum_rules types e) ≡ Ok tt → IsEnumInForm e → encoding_named types e.encoding_type ≡ Some encoding →
      IsEnumInOrder encoding.leaf (map (valid_value encoding.leaf.prim) e.children)
  enum_is e encoding h form is =
      let each = all_pass (enum_rules types e) h in
      let encodes = neither (not (is_encoding is_enum_primitive (encoding_named types e.encoding_type))) (has_no_value e) each.1.1.0 in
      let found : is_encoding is_enum_primitive (Some encoding) ≡ true = ap (is_encoding is_enum_primitive) (sym is) ∙ not_false (is_encoding is_enum_primitive (encoding_named types e.encoding_type)) encodes.0 in
      let once : has_value_twice (Some encoding) e ≡ false = ap (λ (o : Option Encoding). has_value_twice o e) (sym is) ∙ each.1.1.1.1.0 in
      let parts = both_true (is_enum_primitive encoding.leaf.prim) (encoding.leaf.length == 1) found in
      let single = eqb-true encoding.leaf.length 1 parts.1 in
      let count = length-map e.children (valid_value encoding.leaf.prim) in
      let some = some_of (length e.children) encodes.1 in
      let few = form.count in
      record {
        leaf = (encoding_good e.encoding_type encoding is).leaf 1 (omega arith);
        single = single;
        encoding = parts.0;
        some = omega arith;
        few = omega arith;
        listed = enum_values e encoding form once;
      }

  -- what the rules have found of a set over an encoding
  pub set_is : (s : SetEl) (encoding : Encoding) → first_of (set_rules types s) ≡ Ok tt → IsSetInForm s → encoding_named types s.encoding_type ≡ Some encoding →
      IsSetInOrder encoding.leaf.prim (map (choice encoding.leaf.prim) s.children)
  set_is s encoding h form is =
      let each = all_pass (set_rules types s) h in
      let found : is_encoding is_set_primitive (Some encoding) ≡ true = ap (is_encoding is_set_primitive) (sym is) ∙ not_false (is_encoding is_set_primitive (encoding_named types s.encoding_type)) each.1.1.0 in
      let once : has_bit_twice (Some encoding) s ≡ false = ap (λ (o : Option Encoding). has_bit_twice o s) (sym is) ∙ each.1.1.1.1.0 in
      let parts = both_true (is_set_primitive encoding.leaf.prim) (encoding.leaf.length == 1) found in
      let prim = encoding.leaf.prim in
      let differ = values_differ (map (choice prim) s.children) once in
      record {
        encoding = parts.0;
        listed = record {
          names = mapped (choice prim) (λ (c : ChoiceEl). IsName c.name) (λ (v : Named). IsName v.name) (λ c name. name) s.children form.choices;
          numbers = mapped (choice prim) (λ (c : ChoiceEl). ⊤) (λ (v : Named). IsBitOf (prim_width prim) v.number) (λ c any. bit_is prim c.text) s.children (each_of (λ (c : ChoiceEl). ⊤) (λ c. tt) s.children);
          names_differ = differ.names;
          numbers_differ = differ.numbers;
        };
      }

  -- ---- constants

  -- an enum that a name stands for is declared
  referred_enum : (name : List ℕ) (e : EnumEl) → type_named types name ≡ Some (item.Enum e) → declared_as types name ≡ Some (item.Enum e)
  referred_enum name e =
      named_by (λ o. o ≡ Some (item.Enum e) → declared_as types name ≡ Some (item.Enum e)) (λ h. cc) (λ word primitive h. cc) types name (λ t found h. found ∙ h)

  code_by : (name : List ℕ) (e : EnumEl) (v : ValidValueEl) (o : Option Encoding) → encoding_named types e.encoding_type ≡ o → declared_as types name ≡ Some (item.Enum e) →
      IsName v.name → IsConstantInOrder (code_over (record { enum = e; value = v }) o)
  code_by name e v None is declared named = (U8, refl)
  code_by name e v (Some encoding) is declared named =
      let good = declared_good types accepted name (item.Enum e) declared in
      let enum = enum_is e encoding good.judged good.form is in
      record { encoding = enum.encoding; name = named; number = value_is encoding.leaf.prim v.text }

  code_found_is : (ref : ValueRef) (o : Option Referred) → referred types ref ≡ o → IsConstantInOrder (code_found types o)
  code_found_is ref None h = (U8, refl)
  code_found_is ref (Some r) h =
      let outer = then_some (referred_in ref.value_name) (option_and_then enum_of (type_named types ref.enum_name)) r h in
      let inner = then_some enum_of (type_named types ref.enum_name) outer.0 outer.1 in
      let named = inner.1 ∙ ap (λ (t : TypesItem). Some t) (enum_is_found inner.0 outer.0 inner.2) in
      let declared = referred_enum ref.enum_name outer.0 named in
      let value = mapped_some _ (find (λ (v : ValidValueEl). bytes_eq ref.value_name v.name) outer.0.children) r outer.2 in
      let good = declared_good types accepted ref.enum_name (item.Enum outer.0) declared in
      subst (λ (r : Referred). IsConstantInOrder (code_found types (Some r))) value.2
      (code_by ref.enum_name outer.0 value.0 (encoding_named types outer.0.encoding_type) refl declared
      (found_all (λ (v : ValidValueEl). IsName v.name) (λ (v : ValidValueEl). bytes_eq ref.value_name v.name) outer.0.children value.0 good.form.values value.1))

  code_is : (ref : Option ValueRef) → IsConstantInOrder (code_of types ref)
  code_is None = (U8, refl)
  code_is (Some ref) = code_found_is ref (referred types ref) refl

  text_or_number : (char : Bool) (prim : Primitive) (text : List ℕ) → IsConstantInOrder (if char then value.Text text else value.Num (unwrap_or (number_in prim text) (pos 0)))
  text_or_number true prim text = tt
  text_or_number false prim text = (prim, number_is prim text)

  text_is : (prim : Primitive) (text : Option (List ℕ)) → IsConstantInOrder (text_value prim text)
  text_is prim None = (U8, refl)
  text_is prim (Some text) = text_or_number (is_char prim) prim text

  constant_is : (prim : Primitive) (t : TypeEl) (ref : Option ValueRef) → IsConstantInOrder (constant_of types prim t ref)
  constant_is prim t None = text_is prim t.text
  constant_is prim t (Some ref) = code_is (Some ref)

  -- ---- kinds that are no composites

  type_by : (own : Use) (t : TypeEl) (n : ℕ) (prim : Primitive) (p : Presence) → GoodType prim t → n ≤ t.length → IsKindFrom n (type_over types own t prim p)
  type_by own t n prim Required good least = leaf_is prim Required t n good refl least
  type_by own t n prim Optional good least = leaf_is prim Optional t n good refl least
  type_by own t n prim Constant good least = constant_is prim t (option_or own.value_ref t.value_ref)

  type_found : (own : Use) (t : TypeEl) (n : ℕ) (o : Option Primitive) → integral t.primitive_type ≡ o →
      ((prim : Primitive) → integral t.primitive_type ≡ Some prim → GoodType prim t) → n ≤ t.length → IsKindFrom n (type_in types own t o)
  type_found own t n None is good least = (U8, refl)
  type_found own t n (Some prim) is good least = type_by own t n prim (effective own.presence t.presence) (good prim is) least

  pub type_parts : (own : Use) (t : TypeEl) (n : ℕ) → ((prim : Primitive) → integral t.primitive_type ≡ Some prim → GoodType prim t) → n ≤ t.length → IsKindFrom n (type_kind types own t)
  type_parts own t n good least = type_found own t n (integral t.primitive_type) refl good least

  enum_by : (own : Use) (e : EnumEl) (n : ℕ) (encoding : Encoding) (p : Presence) → IsEnumInOrder encoding.leaf (map (valid_value encoding.leaf.prim) e.children) → IsKindFrom n (enum_over types own e encoding p)
  enum_by own e n encoding Required h = h
  enum_by own e n encoding Optional h = enum_with Optional encoding.leaf (map (valid_value encoding.leaf.prim) e.children) refl h
  enum_by own e n encoding Constant h = code_is own.value_ref

  enum_found : (own : Use) (e : EnumEl) (n : ℕ) (o : Option Encoding) → encoding_named types e.encoding_type ≡ o →
      first_of (enum_rules types e) ≡ Ok tt → IsEnumInForm e → IsKindFrom n (enum_in types own e o)
  enum_found own e n None is h form = (U8, refl)
  enum_found own e n (Some encoding) is h form = enum_by own e n encoding (effective own.presence encoding.presence) (enum_is e encoding h form is)

  pub enum_parts : (own : Use) (e : EnumEl) (n : ℕ) → first_of (enum_rules types e) ≡ Ok tt → IsEnumInForm e → IsKindFrom n (enum_kind types own e)
  enum_parts own e n h form = enum_found own e n (encoding_named types e.encoding_type) refl h form

  set_found : (s : SetEl) (n : ℕ) (o : Option Encoding) → encoding_named types s.encoding_type ≡ o → first_of (set_rules types s) ≡ Ok tt → IsSetInForm s → IsKindFrom n (set_in s o)
  set_found s n None is h form = (U8, refl)
  set_found s n (Some encoding) is h form = set_is s encoding h form is

  pub set_parts : (s : SetEl) (n : ℕ) → first_of (set_rules types s) ≡ Ok tt → IsSetInForm s → IsKindFrom n (set_kind types s)
  set_parts s n h form = set_found s n (encoding_named types s.encoding_type) refl h form
