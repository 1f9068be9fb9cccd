-- What is printed of the bytes of a kind is the text of the value that they show.
use Rattle.std.proofs.Common.{◌≡◌, ◌<◌, ◌+◌, ◌*◌, ◌-◌, ℕ, zero, suc, Bool, true, false, cond, List, [], ◌∷◌, ◌++◌, length, take, drop, Option, Some, None, ℤ, pos, refl, sym, ap, ap₂, ◌∙◌, subst, arith, length-drop}
use Rattle.std.specs.Prelude.{◌&&◌, ◌||◌, not, is_some}
use Rattle.serde_json.specs.Written.{comma_if}
use Rattle.serde_json.specs.Data.{Data, null, array, Items, item}
use Rattle.sbe_types.specs.declared.kind.ConstValue.{ConstValue}
use Rattle.sbe_types.specs.declared.kind.Kind.{Kind, Leaf, Enum, Set, Const, Comp'}
use Rattle.sbe_types.specs.declared.kind.Leaf.{Leaf as LeafOf}
use Rattle.sbe_types.specs.declared.kind.LeafShape.{LeafShape}
use Rattle.sbe_types.specs.declared.kind.LeafShape.TheVariants.{Number, RangedText, EncodedText, Octets, Numbers}
use Rattle.sbe_types.specs.declared.kind.Named.{Named}
use Rattle.sbe_types.specs.declared.kind.Order.{Order}
use Rattle.sbe_types.specs.declared.kind.Primitive.{Primitive}
use Rattle.sbe_types.specs.declared.kind.Primitive.TheVariants.{Char, I8, I16, I32, I64, U8, U16, U32, U64}
use Rattle.sbe_types.specs.declared.message.Elem.{Elem}
use Rattle.sbe_types.specs.declared.message.Elem.TheVariants as elem
use Rattle.sbe_types.specs.declared.message.Value.{Value}
use Rattle.sbe_types.specs.declared.message.Value.TheVariants as value
use Rattle.sbe_types.specs.Numbers.{number_of, natural, prim_width}
use Rattle.sbe_types.specs.Shown.{admits, is_null, is_listed, is_optional, has_listed_bits}
use Rattle.sbe_types.specs.Shows.{Shows, ShowsLeaf, ShowsText, ShowsArray, ShowsElements, is_empty}
use Rattle.field_values.specs.Reports.{before_zero}
use Rattle.field_values.proofs.Shown.{text_front}
use Rattle.json_values.specs.Values.{value_data, is_character, single_data, number_data, enum_data, text_data, set_data, element_data, elements_data, constant_data, is_there}
use Rattle.json_values.specs.Plain.{plain_text, plain_items, shown_text}
use Rattle.json_fields.specs.Shown.{single_shown, enum_shown, text_shown, element_shown, elements_shown, PrintsShown}
use Rattle.sbe_base.specs.Objects.{Object}
use Rattle.printers.specs.Prints.{Prints}
use Rattle.printers.specs.declared.printer.Printer.{Printer}
use Rattle.json_fields.proofs.Shown.{there_is}
use Rattle.printers.proofs.Printing.{reprinted}
use Rattle.json_values.proofs.Entries.{item_next}

some_is : {A : Type 0} {x y : A} → ◌≡◌ {A = Option A} (Some x) (Some y) → x ≡ y
some_is h = cc

-- null, or another value
either : (s t : Bool) (x v : Value) → cond s (Some value.Null) (cond t (Some x) None) ≡ Some v → v ≡ cond s value.Null x
either true t x v h = sym (some_is h)
either false true x v h = sym (some_is h)
either false false x v h = cc

data_if : (kind : Kind) (s : Bool) (x v : Value) (d : Data) → v ≡ cond s value.Null x → value_data kind value.Null ≡ Some null → value_data kind x ≡ Some d
    → value_data kind v ≡ Some (cond s null d)
data_if kind true x v d is none other = ap (value_data kind) is ∙ none
data_if kind false x v d is none other = ap (value_data kind) is ∙ other

-- ---- leaves

module _ (order : Order) (leaf : LeafOf) (v : Value) (b : List ℕ) where
  abbrev n : ℤ
  n = number_of order leaf.prim b

  single_is : ShowsLeaf order Number leaf v b → value_data (Leaf leaf) v ≡ Some (single_shown leaf n)
  unfolding value_data
  single_is h = data_if (Leaf leaf) (is_null leaf n) (value.Num n) v (single_data (is_character leaf.prim) n) (either (is_null leaf n) (admits leaf n) (value.Num n) v h) refl refl

  text_is : ShowsText leaf v b → value_data (Leaf leaf) v ≡ Some (text_shown leaf b)
  unfolding value_data
  text_is h = data_if (Leaf leaf) (is_optional leaf.presence && is_empty (before_zero b)) (value.Text (before_zero b)) v (text_data (before_zero b)) (text_front leaf v b h) refl refl

element_if : (s t : Bool) (n : ℤ) (e : Elem) → cond s (Some elem.Null) (cond t (Some (elem.Num n)) None) ≡ Some e → element_data e ≡ cond s null (number_data n)
element_if true t n e h = ap element_data (sym (some_is h))
element_if false true n e h = ap element_data (sym (some_is h))
element_if false false n e h = cc

pub some_width : (p : Primitive) → 0 < prim_width p
some_width Char = omega arith
some_width I8 = omega arith
some_width I16 = omega arith
some_width I32 = omega arith
some_width I64 = omega arith
some_width U8 = omega arith
some_width U16 = omega arith
some_width U32 = omega arith
some_width U64 = omega arith

one_more : (w n : ℕ) → w * suc n ≡ w * n + w
one_more w n = grind arith

module _ (order : Order) (leaf : LeafOf) where
  abbrev one : ℕ
  one = prim_width leaf.prim

  abbrev first : List ℕ → ℤ
  first b = number_of order leaf.prim (take one b)

  elements_are : (es : List Elem) (n : ℕ) (b : List ℕ) → ShowsElements order leaf es b → length b ≡ one * n → elements_data es ≡ elements_shown order leaf n b
  elements_are [] zero b h wide = refl
  elements_are [] (suc n) b h wide = absurd (omega (arith, some_width leaf.prim, one_more one n, wide, ap length h))
  elements_are (e ∷ es) zero b h wide = absurd (omega (arith, some_width leaf.prim, h.0, wide))
  elements_are (e ∷ es) (suc n) b h wide =
      ap₂ item (element_if (is_null leaf (first b)) (admits leaf (first b)) (first b) e h.1)
      (elements_are es n (drop one b) h.2 (omega (arith, length-drop one b, one_more one n, wide)))

  array_is : (v : Value) (b : List ℕ) → ShowsArray order leaf v b → length b ≡ one * leaf.length → value_data (Leaf leaf) v ≡ Some (array (elements_shown order leaf leaf.length b))
  unfolding value_data
  array_is v b h wide = ap (value_data (Leaf leaf)) h.1 ∙ ap (λ items. Some (array items)) (elements_are h.0 leaf.length b h.2 wide)

-- one element, and then those after it
pub elements_next : (order : Order) (leaf : LeafOf) (later : Bool) (left : ℕ) (b rest : List ℕ) (n : ℤ) → 0 < left → n ≡ number_of order leaf.prim (take (prim_width leaf.prim) b) → rest ≡ drop (prim_width leaf.prim) b
    → (comma_if later ++ plain_text (element_shown leaf n)) ++ plain_items true (elements_shown order leaf (left - 1) rest) ≡ plain_items later (elements_shown order leaf left b)
elements_next order leaf later zero b rest n some is same = absurd (omega (arith, some))
elements_next order leaf later (suc k) b rest n some is same =
    let before : suc k - 1 ≡ k = omega arith in
    ap₂ (λ (d : Data) (items : Items). (comma_if later ++ plain_text d) ++ plain_items true items) (ap (element_shown leaf) is) (ap₂ (elements_shown order leaf) before same) ∙ sym (item_next later _ _)

pub less_wide : (w n : ℕ) → 0 < n → w * n - w ≡ w * (n - 1)
less_wide w zero some = absurd (omega (arith, some))
less_wide w (suc k) some =
    let before : suc k - 1 ≡ k = omega arith in
    let cut : w * k + w - w ≡ w * k = omega arith in
    ap (λ x. x - w) (one_more w k) ∙ cut ∙ ap (λ j. w * j) (sym before)

-- ---- other kinds

module _ (order : Order) (known : Bool) (v : Value) (b : List ℕ) where
  enum_is : (l : LeafOf) (names : List Named) → Shows order known (Enum l names) v b → value_data (Enum l names) v ≡ Some (enum_shown l names (number_of order l.prim b))
  unfolding value_data
  enum_is l names h =
      let n = number_of order l.prim b in
      data_if (Enum l names) (is_null l n) (value.Enum n) v (enum_data names n) (either (is_null l n) (is_listed names n || not known) (value.Enum n) v h.1) refl refl

  set_at : (bits : ℕ) (t : Bool) → cond t (Some (value.Set bits)) None ≡ Some v → v ≡ value.Set bits
  set_at bits true h = sym (some_is h)
  set_at bits false h = cc

  set_is : (p : Primitive) (names : List Named) → Shows order known (Set p names) v b → value_data (Set p names) v ≡ Some (set_data names (natural (number_of order p b)))
  unfolding value_data
  set_is p names h =
      let bits = natural (number_of order p b) in
      ap (value_data (Set p names)) (set_at bits (has_listed_bits names 64 bits || not known) h.1)

  constant_is : (c : ConstValue) → Shows order known (Const c) v b → value_data (Const c) v ≡ Some (constant_data c)
  unfolding value_data
  constant_is c h = ap (value_data (Const c)) h.1

-- ---- what was written

-- the text of data that a value is
pub told_as : {O : Type 0} {state : O → Object (List ℕ)} {a c : Printer O} (kind : Kind) (v : Value) (d : Data) → value_data kind v ≡ Some d → Prints state a c (plain_text d) → Prints state a c (shown_text (value_data kind v))
told_as kind v d is w = reprinted (ap shown_text (sym is)) w

pub single_written : {O : Type 0} {state : O → Object (List ℕ)} {a c : Printer O} (order : Order) (leaf : LeafOf) (b : List ℕ) → Prints state a c (plain_text (single_shown leaf (number_of order leaf.prim b)))
    → (v : Value) → ShowsLeaf order Number leaf v b → Prints state a c (shown_text (value_data (Leaf leaf) v))
single_written order leaf b w v h = told_as (Leaf leaf) v _ (single_is order leaf v b h) w

pub text_written : {O : Type 0} {state : O → Object (List ℕ)} {a c : Printer O} (order : Order) (leaf : LeafOf) (b : List ℕ) → Prints state a c (plain_text (text_shown leaf b))
    → (v : Value) → ShowsText leaf v b → Prints state a c (shown_text (value_data (Leaf leaf) v))
text_written order leaf b w v h = told_as (Leaf leaf) v _ (text_is order leaf v b h) w

pub array_written : {O : Type 0} {state : O → Object (List ℕ)} {a c : Printer O} (order : Order) (leaf : LeafOf) (b : List ℕ) → length b ≡ prim_width leaf.prim * leaf.length → Prints state a c (plain_text (array (elements_shown order leaf leaf.length b)))
    → (v : Value) → ShowsArray order leaf v b → Prints state a c (shown_text (value_data (Leaf leaf) v))
array_written order leaf b wide w v h = told_as (Leaf leaf) v _ (array_is order leaf v b h wide) w

pub enum_written : {O : Type 0} {state : O → Object (List ℕ)} {a c : Printer O} (order : Order) (l : LeafOf) (names : List Named) (b : List ℕ) → Prints state a c (plain_text (enum_shown l names (number_of order l.prim b))) → PrintsShown order (Enum l names) b (Prints state a c)
enum_written order l names b w = record { text = λ known v h. told_as (Enum l names) v _ (enum_is order known v b l names h) w }

pub set_written : {O : Type 0} {state : O → Object (List ℕ)} {a c : Printer O} (order : Order) (p : Primitive) (names : List Named) (b : List ℕ) (bits : ℕ) → pos bits ≡ number_of order p b → Prints state a c (plain_text (set_data names bits)) → PrintsShown order (Set p names) b (Prints state a c)
set_written order p names b bits is w =
    record { text = λ known v h. told_as (Set p names) v _ (set_is order known v b p names h) (reprinted (ap (λ n. plain_text (set_data names (natural n))) is) w) }

pub constant_written : {O : Type 0} {state : O → Object (List ℕ)} {a c : Printer O} (order : Order) (k : ConstValue) (b : List ℕ) → Prints state a c (plain_text (constant_data k)) → PrintsShown order (Const k) b (Prints state a c)
constant_written order k b w = record { text = λ known v h. told_as (Const k) v _ (constant_is order known v b k h) w }

pub leaf_written : {O : Type 0} {state : O → Object (List ℕ)} {a c : Printer O} (order : Order) (leaf : LeafOf) (b : List ℕ) → ((v : Value) → ShowsLeaf order leaf.shape leaf v b → Prints state a c (shown_text (value_data (Leaf leaf) v))) → PrintsShown order (Leaf leaf) b (Prints state a c)
leaf_written order leaf b w = record { text = λ known v h. w v h.1 }

-- the same of a kind that is this one
pub written_as : {O : Type 0} {state : O → Object (List ℕ)} {a c : Printer O} (order : Order) (kind k : Kind) (b : List ℕ) → kind ≡ k → PrintsShown order k b (Prints state a c) → PrintsShown order kind b (Prints state a c)
written_as {O} {state} {a} {c} order kind k b is w = subst (λ x. PrintsShown order x b (Prints state a c)) (sym is) w

-- ---- a value that bytes show is there

is_if : (kind : Kind) (s : Bool) (x v : Value) → v ≡ cond s value.Null x → is_there kind x ≡ true → is_there kind v ≡ true
is_if kind true x v is other = ap (is_there kind) is
is_if kind false x v is other = ap (is_there kind) is ∙ other

leaf_there : (order : Order) (leaf : LeafOf) (shape : LeafShape) (v : Value) (b : List ℕ) → ShowsLeaf order shape leaf v b → is_there (Leaf leaf) v ≡ true
leaf_there order leaf Number v b h =
    let n = number_of order leaf.prim b in
    is_if (Leaf leaf) (is_null leaf n) (value.Num n) v (either (is_null leaf n) (admits leaf n) (value.Num n) v h) refl
leaf_there order leaf RangedText v b h = is_if (Leaf leaf) (is_optional leaf.presence && is_empty (before_zero b)) (value.Text (before_zero b)) v (text_front leaf v b h) refl
leaf_there order leaf EncodedText v b h = is_if (Leaf leaf) (is_optional leaf.presence && is_empty (before_zero b)) (value.Text (before_zero b)) v (text_front leaf v b h) refl
leaf_there order leaf Octets v b h = ap (is_there (Leaf leaf)) h.1
leaf_there order leaf Numbers v b h = ap (is_there (Leaf leaf)) h.1

kind_there : (order : Order) (known : Bool) (kind : Kind) (v : Value) (b : List ℕ) → Shows order known kind v b → is_there kind v ≡ true
kind_there order known (Leaf l) v b h = leaf_there order l l.shape v b h.1
kind_there order known (Enum l names) v b h =
    let n = number_of order l.prim b in
    is_if (Enum l names) (is_null l n) (value.Enum n) v (either (is_null l n) (is_listed names n || not known) (value.Enum n) v h.1) refl
kind_there order known (Set p names) v b h =
    let bits = natural (number_of order p b) in
    ap (is_there (Set p names)) (set_at order known v b bits (has_listed_bits names 64 bits || not known) h.1)
kind_there order known (Const c) v b h = ap (is_there (Const c)) h.1
kind_there order known (Comp' n members) v b h = ap (is_there (Comp' n members)) h.1.1

found : (o : Option Data) → is_some o ≡ true → (d : Data) × (o ≡ Some d)
found None h = cc
found (Some d) h = (d, refl)

-- something is shown of a value that bytes show
pub is_shown : (order : Order) (known : Bool) (kind : Kind) (v : Value) (b : List ℕ) → Shows order known kind v b → (d : Data) × (value_data kind v ≡ Some d)
is_shown order known kind v b h = found (value_data kind v) (sym (there_is kind v) ∙ kind_there order known kind v b h)
