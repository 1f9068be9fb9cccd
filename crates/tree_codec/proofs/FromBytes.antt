-- The value that is read of bytes is the one that they show.
use Rattle.std.proofs.Common.{◌≡◌, ◌<◌, ◌+◌, ◌*◌, ◌-◌, ℕ, zero, suc, Bool, true, false, cond, List, [], ◌∷◌, ◌++◌, length, take, drop, Option, Some, None, ℤ, pos, refl, sym, ap, ap₂, ◌∙◌, subst, arith, length-drop, append_assoc}
use Rattle.std.specs.Prelude.{◌||◌, not}
use Rattle.sbe_types.specs.declared.kind.ConstValue.{ConstValue}
use Rattle.sbe_types.specs.declared.kind.Kind.{Kind, Leaf, Enum, Set, Const}
use Rattle.sbe_types.specs.declared.kind.Leaf.{Leaf as LeafOf}
use Rattle.sbe_types.specs.declared.kind.LeafShape.{LeafShape}
use Rattle.sbe_types.specs.declared.kind.LeafShape.TheVariants.{Number, RangedText, EncodedText, Octets, Numbers}
use Rattle.sbe_types.specs.declared.kind.Named.{Named}
use Rattle.sbe_types.specs.declared.kind.Order.{Order}
use Rattle.sbe_types.specs.declared.kind.Primitive.{Primitive}
use Rattle.sbe_types.specs.declared.kind.Primitive.TheVariants.{Char, I8, I16, I32, I64, U8, U16, U32, U64}
use Rattle.sbe_types.specs.declared.message.Elem.{Elem}
use Rattle.sbe_types.specs.declared.message.Elem.TheVariants as elem
use Rattle.sbe_types.specs.declared.message.Value.{Value}
use Rattle.sbe_types.specs.declared.message.Value.TheVariants as value
use Rattle.sbe_types.specs.Numbers.{number_of, natural, prim_width}
use Rattle.sbe_types.specs.Shown.{admits, is_null, is_listed, has_listed_bits}
use Rattle.sbe_types.specs.Shows.{ShowsLeaf, ShowsArray, ShowsElements, text_value}
use Rattle.field_values.specs.Reports.{before_zero}
use Rattle.field_values.proofs.Shown.{text_front}
use Rattle.tree_codec.specs.TheValues.{number_value, enum_value, element_value, elements_from, IsLeafValue, IsTheValue}

some_is : {A : Type 0} {x y : A} → ◌≡◌ {A = Option A} (Some x) (Some y) → x ≡ y
some_is h = cc

-- null, or another value
either : (s t : Bool) (x v : Value) → cond s (Some value.Null) (cond t (Some x) None) ≡ Some v → cond s value.Null x ≡ v
either true t x v h = some_is h
either false true x v h = some_is h
either false false x v h = cc

-- ---- leaves

number_shown : (order : Order) (leaf : LeafOf) (b : List ℕ) (v : Value) → ShowsLeaf order Number leaf v b → number_value leaf (number_of order leaf.prim b) ≡ v
number_shown order leaf b v h =
    let n = number_of order leaf.prim b in
    either (is_null leaf n) (admits leaf n) (value.Num n) v h

element_if : (s t : Bool) (n : ℤ) (e : Elem) → cond s (Some elem.Null) (cond t (Some (elem.Num n)) None) ≡ Some e → e ≡ cond s elem.Null (elem.Num n)
element_if true t n e h = sym (some_is h)
element_if false true n e h = sym (some_is h)
element_if false false n e h = cc

some_width : (p : Primitive) → 0 < prim_width p
some_width Char = omega arith
some_width I8 = omega arith
some_width I16 = omega arith
some_width I32 = omega arith
some_width I64 = omega arith
some_width U8 = omega arith
some_width U16 = omega arith
some_width U32 = omega arith
some_width U64 = omega arith

one_more : (w n : ℕ) → w * suc n ≡ w * n + w
one_more w n = grind arith

module _ (order : Order) (leaf : LeafOf) where
  abbrev one : ℕ
  one = prim_width leaf.prim

  abbrev first : List ℕ → ℤ
  first b = number_of order leaf.prim (take one b)

  elements_are : (es : List Elem) (n : ℕ) (b : List ℕ) → ShowsElements order leaf es b → length b ≡ one * n → es ≡ elements_from order leaf n b
  elements_are [] zero b h wide = refl
  elements_are [] (suc n) b h wide = absurd (omega (arith, some_width leaf.prim, one_more one n, wide, ap length h))
  elements_are (e ∷ es) zero b h wide = absurd (omega (arith, some_width leaf.prim, h.0, wide))
  elements_are (e ∷ es) (suc n) b h wide =
      ap₂ (λ (x : Elem) xs. x ∷ xs) (element_if (is_null leaf (first b)) (admits leaf (first b)) (first b) e h.1)
      (elements_are es n (drop one b) h.2 (omega (arith, length-drop one b, one_more one n, wide)))

  array_shown : (b : List ℕ) → length b ≡ one * leaf.length → (v : Value) → ShowsArray order leaf v b → value.Nums (elements_from order leaf leaf.length b) ≡ v
  array_shown b wide v h = sym (h.1 ∙ ap value.Nums (elements_are h.0 leaf.length b h.2 wide))

-- one element after those that were read
pub elements_next : (order : Order) (leaf : LeafOf) (left : ℕ) (b rest : List ℕ) (done all : List Elem) (n : ℤ) → 0 < left → n ≡ number_of order leaf.prim (take (prim_width leaf.prim) b) → rest ≡ drop (prim_width leaf.prim) b
    → done ++ elements_from order leaf left b ≡ all → (done ++ element_value leaf n ∷ []) ++ elements_from order leaf (left - 1) rest ≡ all
elements_next order leaf zero b rest done all n some is same h = absurd (omega (arith, some))
elements_next order leaf (suc k) b rest done all n some is same h =
    let before : suc k - 1 ≡ k = omega arith in
    append_assoc done (element_value leaf n ∷ []) (elements_from order leaf (suc k - 1) rest)
    ∙ ap₂ (λ (e : Elem) (es : List Elem). done ++ e ∷ es) (ap (element_value leaf) is) (ap₂ (elements_from order leaf) before same) ∙ h

pub less_wide : (w n : ℕ) → 0 < n → w * n - w ≡ w * (n - 1)
less_wide w zero some = absurd (omega (arith, some))
less_wide w (suc k) some =
    let before : suc k - 1 ≡ k = omega arith in
    let cut : w * k + w - w ≡ w * k = omega arith in
    ap (λ x. x - w) (one_more w k) ∙ cut ∙ ap (λ j. w * j) (sym before)

shaped : (order : Order) (leaf : LeafOf) (b : List ℕ) (shape : LeafShape) (it : Value) → leaf.shape ≡ shape → ((v : Value) → ShowsLeaf order shape leaf v b → it ≡ v) → IsLeafValue order leaf b it
shaped order leaf b shape it is h = record { same = λ v s. h v (subst (λ x. ShowsLeaf order x leaf v b) is s) }

pub number_is : (order : Order) (leaf : LeafOf) (b : List ℕ) (it : Value) → leaf.shape ≡ Number → it ≡ number_value leaf (number_of order leaf.prim b) → IsLeafValue order leaf b it
number_is order leaf b it is same = shaped order leaf b Number it is (λ v h. same ∙ number_shown order leaf b v h)

pub ranged_is : (order : Order) (leaf : LeafOf) (b : List ℕ) (it : Value) → leaf.shape ≡ RangedText → it ≡ text_value leaf (before_zero b) → IsLeafValue order leaf b it
ranged_is order leaf b it is same = shaped order leaf b RangedText it is (λ v h. same ∙ sym (text_front leaf v b h))

pub encoded_is : (order : Order) (leaf : LeafOf) (b : List ℕ) (it : Value) → leaf.shape ≡ EncodedText → it ≡ text_value leaf (before_zero b) → IsLeafValue order leaf b it
encoded_is order leaf b it is same = shaped order leaf b EncodedText it is (λ v h. same ∙ sym (text_front leaf v b h))

pub octets_are : (order : Order) (leaf : LeafOf) (b : List ℕ) (it : Value) → leaf.shape ≡ Octets → length b ≡ prim_width leaf.prim * leaf.length → it ≡ value.Nums (elements_from order leaf leaf.length b) → IsLeafValue order leaf b it
octets_are order leaf b it is wide same = shaped order leaf b Octets it is (λ v h. same ∙ array_shown order leaf b wide v h)

pub numbers_are : (order : Order) (leaf : LeafOf) (b : List ℕ) (it : Value) → leaf.shape ≡ Numbers → length b ≡ prim_width leaf.prim * leaf.length → it ≡ value.Nums (elements_from order leaf leaf.length b) → IsLeafValue order leaf b it
numbers_are order leaf b it is wide same = shaped order leaf b Numbers it is (λ v h. same ∙ array_shown order leaf b wide v h)

-- ---- kinds

pub leaf_is : (order : Order) (leaf : LeafOf) (b : List ℕ) (it : Value) → IsLeafValue order leaf b it → IsTheValue order (Leaf leaf) b it
leaf_is order leaf b it h = record { same = λ known v s. h.same v s.1 }

pub enum_is : (order : Order) (l : LeafOf) (names : List Named) (b : List ℕ) (it : Value) → it ≡ enum_value l (number_of order l.prim b) → IsTheValue order (Enum l names) b it
enum_is order l names b it is =
    let n = number_of order l.prim b in
    record { same = λ known v s. is ∙ either (is_null l n) (is_listed names n || not known) (value.Enum n) v s.1 }

set_at : (v : Value) (bits : ℕ) (t : Bool) → cond t (Some (value.Set bits)) None ≡ Some v → value.Set bits ≡ v
set_at v bits true h = some_is h
set_at v bits false h = cc

pub set_is : (order : Order) (p : Primitive) (names : List Named) (b : List ℕ) (bits : ℕ) → pos bits ≡ number_of order p b → IsTheValue order (Set p names) b (value.Set bits)
set_is order p names b bits is =
    let read = natural (number_of order p b) in
    record { same = λ known v s. ap (λ n. value.Set (natural n)) is ∙ set_at v read (has_listed_bits names 64 read || not known) s.1 }

pub const_is : (order : Order) (c : ConstValue) (b : List ℕ) → IsTheValue order (Const c) b value.Const
const_is order c b = record { same = λ known v s. sym s.1 }

-- the same of a kind that is this one
pub value_as : (order : Order) (kind k : Kind) (b : List ℕ) (it : Value) → kind ≡ k → IsTheValue order k b it → IsTheValue order kind b it
value_as order kind k b it is h = subst (λ x. IsTheValue order x b it) (sym is) h
