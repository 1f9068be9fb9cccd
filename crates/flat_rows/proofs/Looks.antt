-- What one look at the bytes of a value says.
use Rattle.std.proofs.Common.{◌≡◌, ℕ, Bool, true, false, cond, not, List, [], ◌∷◌, ◌++◌, length, Some, None, ℤ, pos, refl, sym, ap, ap₂, ◌∙◌, subst}
use Rattle.std.specs.Prelude.{◌||◌, ◌&&◌, ◌==◌, int_le, IsTrue}
use Rattle.std.specs.List.{list_all}
use Rattle.std.specs.Ordering.{int_eq}
use Rattle.std.proofs.lemmas.Bool.{eqb-true}
use Rattle.sbe_types.specs.declared.kind.Kind.{Kind, Leaf, Enum}
use Rattle.sbe_types.specs.declared.kind.Leaf.{Leaf as LeafOf}
use Rattle.sbe_types.specs.declared.kind.LeafShape.TheVariants.{RangedText}
use Rattle.sbe_types.specs.declared.kind.Named.{Named}
use Rattle.sbe_types.specs.declared.kind.Order.TheVariants.{Little}
use Rattle.sbe_types.specs.declared.kind.Primitive.{Primitive}
use Rattle.sbe_types.specs.declared.message.Value.{Value}
use Rattle.sbe_types.specs.declared.message.Value.TheVariants as value
use Rattle.sbe_types.specs.LeafBad.{leaf_bad}
use Rattle.sbe_types.specs.Numbers.{number_of, prim_width}
use Rattle.sbe_types.specs.Places.{width}
use Rattle.sbe_types.specs.Shown.{admits, is_null, is_octets, is_optional, is_listed}
use Rattle.sbe_types.specs.Shows.{ShowsLeaf, ShowsText, EndsText, is_ranged, is_text_byte, text_value}
use Rattle.sbe_types.proofs.BadLemmas.{bad_or_shown}
use Rattle.flat_rows.specs.declared.rows.Quick.{Quick}
use Rattle.flat_rows.specs.BlockChecks.{ShowsSome}
use Rattle.flat_rows.specs.Quick.{KeepsNumber, KeepsText, IsQuickNumber, IsQuickText, is_none, is_between, is_text_within}

-- one of two tests holds, and a value is shown
either_shown : (s t : Bool) (x y : Value) → (s || t) ≡ true → (v : Value) × (cond s (Some x) (cond t (Some y) None) ≡ Some v)
either_shown true t x y h = (x, refl)
either_shown false true x y h = (y, refl)
either_shown false false x y h = absurd cc

-- ---- numbers

both_same : (o p : Bool) → (o && true) && p ≡ o && p
both_same true p = refl
both_same false p = refl

-- what is kept of a number tells whether it is null
pub null_is : (prim : Primitive) (q : Quick) (leaf : LeafOf) (n : ℤ) → IsQuickNumber prim q leaf → is_null leaf n ≡ is_none q n
null_is prim q leaf n is =
    ap (λ s. (is_optional leaf.presence && not (is_octets s)) && int_eq n leaf.null) is.shape
    ∙ ap₂ (λ o m. (o && true) && int_eq n m) (sym is.optional) (sym is.null) ∙ both_same q.optional (int_eq n q.null)

range_is : (q : Quick) (leaf : LeafOf) (n : ℤ) → q.low ≡ leaf.low → q.high ≡ leaf.high → admits leaf n ≡ is_between q n
range_is q leaf n low high = ap₂ (λ a b. int_le a n && int_le n b) (sym low) (sym high)

pub number_shows : (prim : Primitive) (q : Quick) (leaf : LeafOf) (known : Bool) (b : List ℕ) → IsQuickNumber prim q leaf → length b ≡ width (Leaf leaf) →
    (is_none q (number_of Little prim b) || is_between q (number_of Little prim b)) ≡ true → ShowsSome Little known (Leaf leaf) b
number_shows prim q leaf known b is wide h =
    let n = number_of Little leaf.prim b in
    let same : number_of Little prim b ≡ n = ap (λ p. number_of Little p b) (sym is.prim_is) in
    let tests : (is_null leaf n || admits leaf n) ≡ true =
    ap₂ (λ s t. s || t) (null_is prim q leaf n is) (range_is q leaf n is.low is.high) ∙ sym (ap (λ m. is_none q m || is_between q m) same) ∙ h in
    let found = either_shown (is_null leaf n) (admits leaf n) value.Null (value.Num n) tests in
    (found.0, (wide, subst (λ s. ShowsLeaf Little s leaf found.0 b) (sym is.shape) found.1))

-- ---- texts

-- good bytes, and what may stand after them
abbrev IsGood : LeafOf → List ℕ → Type 0
IsGood leaf b = (text : List ℕ) × (after : List ℕ) × (b ≡ text ++ after) × EndsText after × IsTrue (list_all (is_text_byte leaf) text)

good_byte : (leaf : LeafOf) (x : ℕ) → leaf.shape ≡ RangedText → (x == 0) ≡ false → admits leaf (pos x) ≡ true → is_text_byte leaf x ≡ true
good_byte leaf x shape zero fits =
    ap₂ (λ z s. not z && cond (is_ranged s) (admits leaf (pos x)) true) zero shape ∙ fits

one_more : (q : Quick) (leaf : LeafOf) (x : ℕ) (xs : List ℕ) (z t : Bool) → IsQuickText q leaf → (x == 0) ≡ z → is_between q (pos x) ≡ t → (is_text_within q xs ≡ true → IsGood leaf xs) →
    cond (is_between q (pos x)) (is_text_within q xs) (x == 0) ≡ true → IsGood leaf (x ∷ xs)
one_more q leaf x xs true t is zero fits rest h = ([], x ∷ xs, refl, eqb-true x 0 zero, refl)
one_more q leaf x xs false true is zero fits rest h =
    let more = rest (sym (ap (λ t. cond t (is_text_within q xs) (x == 0)) fits) ∙ h) in
    let byte = good_byte leaf x is.shape zero (range_is q leaf (pos x) is.low is.high ∙ fits) in
    (x ∷ more.0, more.1, ap (λ l. x ∷ l) more.2, more.3, ap₂ (λ s t. s && t) byte more.4)
one_more q leaf x xs false false is zero fits rest h =
    let never : false ≡ true = sym zero ∙ sym (ap (λ t. cond t (is_text_within q xs) (x == 0)) fits) ∙ h in
    absurd cc

good_text : (q : Quick) (leaf : LeafOf) (b : List ℕ) → IsQuickText q leaf → is_text_within q b ≡ true → IsGood leaf b
good_text q leaf [] is h = ([], [], refl, tt, refl)
good_text q leaf (x ∷ xs) is h = one_more q leaf x xs (x == 0) (is_between q (pos x)) is refl refl (good_text q leaf xs is) h

pub text_shows : (q : Quick) (leaf : LeafOf) (known : Bool) (b : List ℕ) → IsQuickText q leaf → length b ≡ width (Leaf leaf) → is_text_within q b ≡ true → ShowsSome Little known (Leaf leaf) b
text_shows q leaf known b is wide h =
    let good = good_text q leaf b is h in
    let v = text_value leaf good.0 in
    let shows : ShowsText leaf v b = (good.0, good.1, good.2, good.3, good.4, refl) in
    (v, (wide, subst (λ s. ShowsLeaf Little s leaf v b) (sym is.shape) shows))

-- ---- other kinds

pub leaf_shows : (leaf : LeafOf) (known : Bool) (b : List ℕ) → length b ≡ width (Leaf leaf) → leaf_bad Little leaf b ≡ None → ShowsSome Little known (Leaf leaf) b
leaf_shows leaf known b wide h = (bad_or_shown Little leaf known b wide).0 h

pub enum_shows : (l : LeafOf) (names : List Named) (known : Bool) (b : List ℕ) → length b ≡ prim_width l.prim →
    (is_null l (number_of Little l.prim b) || (is_listed names (number_of Little l.prim b) || not known)) ≡ true → ShowsSome Little known (Enum l names) b
enum_shows l names known b wide h =
    let n = number_of Little l.prim b in
    let found = either_shown (is_null l n) (is_listed names n || not known) value.Null (value.Enum n) h in
    (found.0, (wide, found.1))

-- ---- kinds

pub leaf_kind : (kind : Kind) (leaf : LeafOf) (known : Bool) (b : List ℕ) → kind ≡ Leaf leaf → length b ≡ width kind → leaf_bad Little leaf b ≡ None → ShowsSome Little known kind b
leaf_kind kind leaf known b is wide h = subst (λ k. ShowsSome Little known k b) (sym is) (leaf_shows leaf known b (wide ∙ ap width is) h)

pub enum_kind : (kind : Kind) (l : LeafOf) (names : List Named) (known : Bool) (b : List ℕ) → kind ≡ Enum l names → length b ≡ width kind →
    (is_null l (number_of Little l.prim b) || (is_listed names (number_of Little l.prim b) || not known)) ≡ true → ShowsSome Little known kind b
enum_kind kind l names known b is wide h = subst (λ k. ShowsSome Little known k b) (sym is) (enum_shows l names known b (wide ∙ ap width is) h)

pub number_kind : (kind : Kind) (prim : Primitive) (q : Quick) (known : Bool) (b : List ℕ) (n : ℤ) (answer : Bool) → KeepsNumber prim q kind → length b ≡ width kind → n ≡ number_of Little prim b →
    answer ≡ (is_none q n || is_between q n) → answer ≡ true → ShowsSome Little known kind b
number_kind kind prim q known b n answer is wide same test h =
    let tests = sym (ap (λ m. is_none q m || is_between q m) same) ∙ sym test ∙ h in
    subst (λ k. ShowsSome Little known k b) (sym is.1) (number_shows prim q is.0 known b is.2 (wide ∙ ap width is.1) tests)

pub text_kind : (kind : Kind) (q : Quick) (known : Bool) (b : List ℕ) → KeepsText q kind → length b ≡ width kind → is_text_within q b ≡ true → ShowsSome Little known kind b
text_kind kind q known b is wide h =
    subst (λ k. ShowsSome Little known k b) (sym is.1) (text_shows q is.0 known b is.2 (wide ∙ ap width is.1) h)
