-- Each number that may stand in a kind in order has bytes.
use Rattle.std.proofs.Common.{◌≡◌, ℕ, ◌^◌, ◌<◌, Bool, true, false, List, [], ◌∷◌, None, ℤ, pos, refl, subst, arith}
use Rattle.std.specs.Prelude.{◌||◌, nat_lt}
use Rattle.std.specs.List.{AllByRecursion}
use Rattle.std.specs.Ordering.{int_eq}
use Rattle.std.proofs.lemmas.Bool.Decides.{nat_tests, Decides-int_eq}
use Rattle.sbe_types.specs.declared.kind.LeafShape.{LeafShape}
use Rattle.sbe_types.specs.declared.kind.LeafShape.TheVariants.{Number, RangedText, EncodedText, Octets, Numbers}
use Rattle.sbe_types.specs.declared.kind.Leaf.{Leaf as LeafOf}
use Rattle.sbe_types.specs.declared.kind.Named.{Named}
use Rattle.sbe_types.specs.declared.kind.Primitive.{Primitive}
use Rattle.sbe_types.specs.declared.kind.Kind.{Kind, Leaf, Enum, Set, Const, Comp', Row_of-Member, end_of-Member, more_of-Member}
use Rattle.sbe_types.specs.Shown.{admits, is_octets, is_listed, has_listed_bits}
use Rattle.sbe_wire.specs.declared.codes.NCode.TheVariants as code
use Rattle.sbe_wire.specs.Misfit.{unless, misfit_here}
use Rattle.schema_rules.specs.Ranges.{is_number_of}
use Rattle.schema_facts.specs.InOrder.{IsShapeOf, IsLeafFrom, IsNumberOf, IsEnumInOrder, IsSetInOrder, IsKindFrom, AreKindsFrom}
use Rattle.writing_laws.specs.Writable.{IsWritableLeaf, IsWritableEnum, IsWritableSet, IsWritableKind, IsWritableRow}
use Rattle.writable_schemas.proofs.WholeNumbers.{untrue, both_true, has_number, number_between}
use Rattle.writable_schemas.proofs.SetBits.{choices_number, set_unsigned}

single_by : (s : LeafShape) (p : Primitive) (n : ℕ) → IsShapeOf s p n → s ≡ Number → n ≡ 1
single_by s p n h is = subst (λ s. IsShapeOf s p n) is h

-- the numbers that a leaf in order admits
pub admitted_number : (least : ℕ) (l : LeafOf) → IsLeafFrom least l → (n : ℤ) → admits l n ≡ true → is_number_of l.prim n ≡ true
admitted_number least l h n within = number_between l.prim l.low l.high n h.low h.high within

pub leaf_writable : (least : ℕ) (l : LeafOf) → IsLeafFrom least l → IsWritableLeaf l
leaf_writable least l h = record {
  admitted = λ n within. has_number l.prim n (admitted_number least l h n within);
  null = has_number l.prim l.null h.null;
  single = λ is. single_by l.shape l.prim l.length h.shape is;
}

plain_by : (s : LeafShape) (p : Primitive) (n : ℕ) → IsShapeOf s p n → n ≡ 1 → is_octets s ≡ false
plain_by Number p n h one = refl
plain_by RangedText p n h one = refl
plain_by EncodedText p n h one = refl
plain_by Octets p n h one = absurd (h.1 one)
plain_by Numbers p n h one = refl

listed_number : (p : Primitive) (names : List Named) (n : ℤ) → AllByRecursion (λ (v : Named). IsNumberOf p v.number) names → is_listed names n ≡ true → is_number_of p n ≡ true
listed_number p [] n all h = absurd (untrue h)
listed_number p (v ∷ vs) n all h = by (int_eq v.number n) refl (listed_number p vs n all.1) h
  where
    by : (t : Bool) → int_eq v.number n ≡ t → (is_listed vs n ≡ true → is_number_of p n ≡ true) → (t || is_listed vs n) ≡ true → is_number_of p n ≡ true
    by true e more k = subst (λ m. is_number_of p m ≡ true) ((Decides-int_eq v.number n).0 e) all.0
    by false e more k = more k

enum_writable : (l : LeafOf) (names : List Named) → IsEnumInOrder l names → IsWritableEnum l names
enum_writable l names h = record {
  listed = λ n is. has_number l.prim n (listed_number l.prim names n h.listed.numbers is);
  null = has_number l.prim l.null h.leaf.null;
  plain = plain_by l.shape l.prim l.length h.leaf.shape h.single;
}

unless_true : (t : Bool) (n : ℤ) → unless t (misfit_here code.SetUnknown n) ≡ None → t ≡ true
unless_true true n h = refl
unless_true false n h = cc

set_writable : (p : Primitive) (names : List Named) → IsSetInOrder p names → IsWritableSet p names
set_writable p names h = record {
  unsigned = set_unsigned p h.encoding;
  choices = λ n none.
      let two = both_true (nat_lt n (2 ^ 64)) (has_listed_bits names 64 n) (unless_true _ (pos n) none) in
      let small : n < 2 ^ 64 = below n two.0 in
      (choices_number p names h.encoding h.listed.numbers n 64 small refl two.1).1;
}
  where
    below : (n : ℕ) → nat_lt n (2 ^ 64) ≡ true → n < 2 ^ 64
    below n k = grind (arith, nat_tests)

mutual
  pub kind_writable : (least : ℕ) (kind : Kind) → IsKindFrom least kind → IsWritableKind kind
  kind_writable least (Leaf l) h = leaf_writable least l h
  kind_writable least (Enum l names) h = enum_writable l names h
  kind_writable least (Set p names) h = set_writable p names h
  kind_writable least (Const c) h = tt
  kind_writable least (Comp' n members) h = row_writable least members h.kinds

  row_writable : (least : ℕ) {n : _} (row : Row_of-Member n) → AreKindsFrom least row → IsWritableRow row
  row_writable least end_of-Member h = tt
  row_writable least (more_of-Member name offset kind rest) h = (kind_writable least kind h.0, row_writable least rest h.1)
