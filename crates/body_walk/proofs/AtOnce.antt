-- Values that one look at their bytes shows.
use Rattle.std.proofs.Common.{◌≡◌, ◌≤◌, ℕ, Bool, true, false, cond, List, Some, None, Result, Ok, Err, ℤ, pos, negsuc, refl, ap, ◌∙◌, subst, arith}
use Rattle.std.specs.Prelude.{◌||◌, ◌&&◌, not, nat_le}
use Rattle.std.proofs.lemmas.Bool.Decides.{nat_tests}
use Rattle.sbe_types.specs.declared.kind.Kind.{Kind, Leaf, Enum}
use Rattle.sbe_types.specs.declared.kind.Leaf.{Leaf as LeafOf}
use Rattle.sbe_types.specs.declared.kind.LeafShape.TheVariants.{Number, RangedText, EncodedText}
use Rattle.sbe_types.specs.declared.kind.Named.{Named}
use Rattle.sbe_types.specs.declared.kind.Order.{Order}
use Rattle.sbe_types.specs.declared.kind.Primitive.TheVariants.{Char}
use Rattle.sbe_types.specs.declared.message.Value.{Value}
use Rattle.sbe_types.specs.declared.message.Value.TheVariants as value
use Rattle.sbe_types.specs.declared.path.Step.TheVariants as way
use Rattle.sbe_types.specs.LeafBad.{shape_bad, leaf_bad, text_bad, unshown}
use Rattle.sbe_types.specs.Numbers.{number_of}
use Rattle.sbe_types.specs.Shown.{admits, is_null, is_listed, shown_number}
use Rattle.sbe_types.specs.Shows.{is_ranged}
use Rattle.sbe_types.proofs.BadLemmas.{encoded_good}
use Rattle.schema_rules.specs.Ranges.{is_number_of}
use Rattle.schema_facts.specs.InOrder.{IsLeafInOrder, IsShapeOf}
use Rattle.sbe_wire.specs.declared.codes.FCode.TheVariants as code
use Rattle.sbe_wire.specs.Faults.{Fault}
use Rattle.sbe_wire.specs.Reading.{inside, value_read}
use Rattle.sbe_wire.specs.declared.mode.Mode.{Mode}
use Rattle.body_walk.specs.inner.Outcomes.{piece, check_at}
use Rattle.body_walk.specs.inner.Kinds.{answered, leaf_answer, leaf_check, kind_check, part_check}
use Rattle.body_walk.proofs.KindTold.{leaf_is, enum_is}
use Rattle.body_walk.proofs.LeafTold.{leaf_shown}

-- ---- numbers

some_either : {X : Type 0} (n : ℤ) (x y : X) (s : Bool) → unshown 0 n (cond s (Some x) (Some y)) ≡ None
some_either n x y true = refl
some_either n x y false = refl

in_range : (leaf : LeafOf) (n : ℤ) → admits leaf n ≡ true → unshown 0 n (shown_number leaf n) ≡ None
in_range leaf n fits = ap (λ t. unshown 0 n (cond (is_null leaf n) (Some value.Null) (cond t (Some (value.Num n)) None))) fits ∙ some_either n value.Null (value.Num n) (is_null leaf n)

pub number_looks : (order : Order) (leaf : LeafOf) (b : List ℕ) → leaf.shape ≡ Number → admits leaf (number_of order leaf.prim b) ≡ true → leaf_bad order leaf b ≡ None
number_looks order leaf b shape fits = ap (λ s. shape_bad order s leaf b) shape ∙ in_range leaf (number_of order leaf.prim b) fits

-- ---- texts

pub text_looks : (order : Order) (leaf : LeafOf) (b : List ℕ) → leaf.shape ≡ RangedText → text_bad leaf b ≡ None → leaf_bad order leaf b ≡ None
text_looks order leaf b shape h = ap (λ s. shape_bad order s leaf b) shape ∙ h

pub encoded_looks : (order : Order) (leaf : LeafOf) (b : List ℕ) → leaf.shape ≡ EncodedText → leaf_bad order leaf b ≡ None
encoded_looks order leaf b shape = ap (λ s. shape_bad order s leaf b) shape ∙ encoded_good leaf b (ap is_ranged shape)

-- the range of a text is one of bytes
pub text_bounds : (leaf : LeafOf) → IsLeafInOrder leaf → leaf.shape ≡ RangedText → (is_number_of Char leaf.low ≡ true) × (is_number_of Char leaf.high ≡ true)
text_bounds leaf is shape =
    let prim : leaf.prim ≡ Char = (subst (λ s. IsShapeOf s leaf.prim leaf.length) shape is.shape).0 in
    (subst (λ p. is_number_of p leaf.low ≡ true) prim is.low, subst (λ p. is_number_of p leaf.high ≡ true) prim is.high)

below : (m : ℕ) → nat_le 0 m && nat_le m 255 ≡ true → m ≤ 255
below m h = grind (arith, nat_tests)

pub char_is : (n : ℤ) → is_number_of Char n ≡ true → (m : ℕ) × (n ≡ pos m) × (m ≤ 255)
char_is (pos m) h = (m, refl, below m h)
char_is (negsuc m) h = cc

-- ---- kinds

pub leaf_looks : (mode : Mode) (kind : Kind) (l : LeafOf) (b : List ℕ) (at : ℕ) → kind ≡ Leaf l → leaf_bad mode.order l b ≡ None → kind_check mode kind (piece at b) ≡ Ok tt
leaf_looks mode kind l b at is h = ap (λ (k : Kind). kind_check mode k (piece at b)) is ∙ leaf_is mode l (piece at b) ∙ leaf_shown mode.order l at b ∙ ap (leaf_answer l at) h

pub enum_looks : (mode : Mode) (kind : Kind) (l : LeafOf) (names : List Named) (b : List ℕ) (at : ℕ) → kind ≡ Enum l names →
    (is_null l (number_of mode.order l.prim b) || (is_listed names (number_of mode.order l.prim b) || not mode.known)) ≡ true → kind_check mode kind (piece at b) ≡ Ok tt
enum_looks mode kind l names b at is h =
    ap (λ (k : Kind). kind_check mode k (piece at b)) is ∙ enum_is mode l names (piece at b) ∙ ap (answered code.EnumUnknown at (number_of mode.order l.prim b)) h

-- a part shows what its kind shows
pub part_looks : (mode : Mode) (kind : Kind) (i at : ℕ) (b : List ℕ) → kind_check mode kind (piece at b) ≡ Ok tt → part_check mode kind i (piece at b) ≡ Ok tt
part_looks mode kind i at b h = shows (value_read mode.order mode.known kind b) h
  where
    shows : (r : Result Value Fault) → check_at at r ≡ Ok tt → check_at at (inside (way.Part i) r) ≡ Ok tt
    shows (Ok v) h = refl
    shows (Err f) h = cc

-- a leaf shows a value where it has no fault
pub leaf_good : (order : Order) (l : LeafOf) (at : ℕ) (b : List ℕ) → leaf_bad order l b ≡ None → leaf_check order l (piece at b) ≡ Ok tt
leaf_good order l at b h = leaf_shown order l at b ∙ ap (leaf_answer l at) h
