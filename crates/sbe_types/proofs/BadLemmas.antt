-- The first fault of a leaf's bytes: how the code finds it, and that without one they show a value.
use Rattle.std.proofs.Common.{◌≡◌, ℕ, zero, suc, ◌+◌, ◌-◌, ◌*◌, ◌<◌, ◌≤◌, Bool, true, false, cond, List, [], ◌∷◌, ◌++◌, length, take, drop, Option, Some, None, ℤ, pos, refl, sym, ap, ◌∙◌, subst, arith, length-drop}
use Rattle.std.proofs.Math.Seq.{drop-append_seam}
use Rattle.std.specs.Prelude.{◌==◌, not, ◌&&◌, ◌↔◌, if◌then◌else◌}
use Rattle.std.specs.Option.{option_or}
use Rattle.std.specs.List.{take_while, list_all}
use Rattle.std.proofs.lemmas.Bool.Decides.{nat_tests}
use Rattle.std.proofs.lemmas.List.Sums.{take_while-cons}
use Rattle.sbe_types.specs.declared.kind.Order.{Order}
use Rattle.sbe_types.specs.declared.kind.Primitive.{Primitive}
use Rattle.sbe_types.specs.declared.kind.Primitive.TheVariants.{Char, I8, I16, I32, I64, U8, U16, U32, U64}
use Rattle.sbe_types.specs.declared.kind.LeafShape.{LeafShape}
use Rattle.sbe_types.specs.declared.kind.LeafShape.TheVariants.{Number, RangedText, EncodedText, Octets, Numbers}
use Rattle.sbe_types.specs.declared.kind.Leaf.{Leaf as LeafOf}
use Rattle.sbe_types.specs.declared.kind.Kind.{Leaf}
use Rattle.sbe_types.specs.declared.leaf.LeafCause.TheVariants.{Range, TextByte}
use Rattle.sbe_types.specs.declared.leaf.LeafFault.{LeafFault}
use Rattle.sbe_types.specs.declared.message.Elem.{Elem}
use Rattle.sbe_types.specs.declared.message.Value.{Value}
use Rattle.sbe_types.specs.declared.message.Value.TheVariants as value
use Rattle.sbe_types.specs.Numbers.{number_of, prim_width}
use Rattle.sbe_types.specs.Places.{width}
use Rattle.sbe_types.specs.Shown.{admits, shown_element, shown_number}
use Rattle.sbe_types.specs.Shows.{is_ranged, is_text_byte, text_value, EndsText, Shows, ShowsText, ShowsElements, ShowsLeaf}
use Rattle.sbe_types.specs.LeafBad.{unshown, stopped_at, text_bad, elements_bad, shape_bad, leaf_bad, fault_unless}
use Rattle.sbe_types.proofs.TextLemmas.{Stops, splits, passes, stops, fronts}

untrue : ◌≡◌ {A = Bool} false true → ⊥
untrue k = cc

-- ---- a text

abbrev bad_byte : ℕ → ℕ → Option LeafFault
bad_byte n x = Some (record { cause = TextByte; at = n; number = pos x })

-- the first bad byte of a text in a range, by its bytes in turn; the first is number n
abbrev pub text_from : LeafOf → ℕ → List ℕ → Option LeafFault
text_from leaf n [] = None
text_from leaf n (x ∷ b) =
    if x == 0 then None else (if admits leaf (pos x) then text_from leaf (n + 1) b else bad_byte n x)

-- the same after n bytes
abbrev stopped_from : LeafOf → ℕ → List ℕ → Option LeafFault
stopped_from leaf n b = let text = take_while (is_text_byte leaf) b in stopped_at (n + length text) (drop (length text) b)

goes_on : (leaf : LeafOf) (n x : ℕ) (b : List ℕ) → is_text_byte leaf x ≡ true → stopped_from leaf n (x ∷ b) ≡ stopped_from leaf (n + 1) b
goes_on leaf n x b h =
    let text = take_while (is_text_byte leaf) b in
    let longer : n + suc (length text) ≡ (n + 1) + length text = omega arith in
    rw (take_while-cons (is_text_byte leaf) x b, h) (ap (λ k. stopped_at k (drop (length text) b)) longer)

stops_here : (leaf : LeafOf) (n x : ℕ) (b : List ℕ) → is_text_byte leaf x ≡ false → stopped_from leaf n (x ∷ b) ≡ stopped_at n (x ∷ b)
stops_here leaf n x b h =
    let same : n + 0 ≡ n = omega arith in
    rw (take_while-cons (is_text_byte leaf) x b, h) (ap (λ k. stopped_at k (x ∷ b)) same)

good_byte : (leaf : LeafOf) (x : ℕ) → is_ranged leaf.shape ≡ true → is_text_byte leaf x ≡ (not (x == 0) && admits leaf (pos x))
good_byte leaf x h = ap (λ t. not (x == 0) && cond t (admits leaf (pos x)) true) h

turn : (leaf : LeafOf) (n x : ℕ) (b : List ℕ) (z a : Bool) → is_ranged leaf.shape ≡ true → (x == 0) ≡ z → admits leaf (pos x) ≡ a → text_from leaf (n + 1) b ≡ stopped_from leaf (n + 1) b →
    text_from leaf n (x ∷ b) ≡ stopped_from leaf n (x ∷ b)
turn leaf n x b true a r z is rest =
    ap (λ (t : Bool). cond t None (cond (admits leaf (pos x)) (text_from leaf (n + 1) b) (bad_byte n x))) z
    ∙ sym (stops_here leaf n x b (good_byte leaf x r ∙ ap (λ t. not t && admits leaf (pos x)) z)
    ∙ ap (λ (t : Bool). cond t None (bad_byte n x)) z)
turn leaf n x b false true r z is rest =
    ap (λ (t : Bool). cond t None (cond (admits leaf (pos x)) (text_from leaf (n + 1) b) (bad_byte n x))) z
    ∙ ap (λ (t : Bool). cond t (text_from leaf (n + 1) b) (bad_byte n x)) is
    ∙ rest
    ∙ sym (goes_on leaf n x b (good_byte leaf x r ∙ ap (λ t. not t && admits leaf (pos x)) z ∙ ap (λ t. not false && t) is))
turn leaf n x b false false r z is rest =
    ap (λ (t : Bool). cond t None (cond (admits leaf (pos x)) (text_from leaf (n + 1) b) (bad_byte n x))) z
    ∙ ap (λ (t : Bool). cond t (text_from leaf (n + 1) b) (bad_byte n x)) is
    ∙ sym (stops_here leaf n x b (good_byte leaf x r ∙ ap (λ t. not t && admits leaf (pos x)) z ∙ ap (λ t. not false && t) is)
    ∙ ap (λ (t : Bool). cond t None (bad_byte n x)) z)

from_is : (leaf : LeafOf) (n : ℕ) (b : List ℕ) → is_ranged leaf.shape ≡ true → text_from leaf n b ≡ stopped_from leaf n b
from_is leaf n [] h = refl
from_is leaf n (x ∷ b) h = turn leaf n x b (x == 0) (admits leaf (pos x)) h refl refl (from_is leaf (n + 1) b h)

pub text_start : (leaf : LeafOf) (b : List ℕ) → is_ranged leaf.shape ≡ true → text_from leaf 0 b ≡ text_bad leaf b
text_start leaf b h = let text = take_while (is_text_byte leaf) b in from_is leaf 0 b h ∙ ap (λ n. stopped_at n (drop (length text) b)) (omega arith)

-- a text with a character encoding has no bad byte
ends_there : (leaf : LeafOf) (n : ℕ) (b : List ℕ) → is_ranged leaf.shape ≡ false → Stops (is_text_byte leaf) b → stopped_at n b ≡ None
ends_there leaf n [] h s = refl
ends_there leaf n (x ∷ b) h s = zero_is (x == 0) refl
  where
    zero_is : (t : Bool) → (x == 0) ≡ t → stopped_at n (x ∷ b) ≡ None
    zero_is true e = ap (λ (t : Bool). cond t None (bad_byte n x)) e
    zero_is false e = absurd (untrue (sym s ∙ ap (λ t. not t && cond (is_ranged leaf.shape) (admits leaf (pos x)) true) e ∙ ap (λ t. not false && cond t (admits leaf (pos x)) true) h))

pub encoded_good : (leaf : LeafOf) (b : List ℕ) → is_ranged leaf.shape ≡ false → text_bad leaf b ≡ None
encoded_good leaf b h = let text = take_while (is_text_byte leaf) b in ends_there leaf (length text) (drop (length text) b) h (stops (is_text_byte leaf) b)

-- ---- an array

one_more : (n i : ℕ) → i < n → n - i ≡ suc (n - (i + 1))
one_more n i h = omega arith

-- the next element lies in what is left of an array
pub room : (w n i : ℕ) → i < n → w ≤ w * (n - i)
room w n i h = rw (one_more n i h) (grind arith)

pub left : (w n i : ℕ) → i < n → w * (n - i) - w ≡ w * (n - (i + 1))
left w n i h = rw (one_more n i h) (grind arith)

module _ (order : Order) (leaf : LeafOf) where
  abbrev w : ℕ
  w = prim_width leaf.prim

  abbrev number : List ℕ → ℤ
  number b = number_of order leaf.prim (take w b)

  pub elements_more : (i n : ℕ) (b : List ℕ) → i < n → None ≡ unshown i (number b) (shown_element leaf (number b)) →
      elements_bad order leaf (i + 1) (n - (i + 1)) (drop w b) ≡ elements_bad order leaf i (n - i) b
  elements_more i n b h good =
      let next : i + 1 ≡ suc i = omega arith in
      ap (λ k. elements_bad order leaf k (n - (i + 1)) (drop w b)) next
      ∙ ap (λ o. option_or o (elements_bad order leaf (suc i) (n - (i + 1)) (drop w b))) good
      ∙ ap (λ k. elements_bad order leaf i k b) (sym (one_more n i h))

  pub elements_end : (i n : ℕ) (b : List ℕ) (f : LeafFault) → i < n → Some f ≡ unshown i (number b) (shown_element leaf (number b)) → Some f ≡ elements_bad order leaf i (n - i) b
  elements_end i n b f h bad =
      ap (λ o. option_or o (elements_bad order leaf (suc i) (n - (i + 1)) (drop w b))) bad
      ∙ ap (λ k. elements_bad order leaf i k b) (sym (one_more n i h))

-- ---- without a fault a value is shown

is_shown : {X : Type 0} (i : ℕ) (n : ℤ) (o : Option X) → unshown i n o ≡ None → (x : X) × (o ≡ Some x)
is_shown i n None h = cc
is_shown i n (Some x) h = (x, refl)

or_none : (o p : Option LeafFault) → option_or o p ≡ None → (o ≡ None) × (p ≡ None)
or_none None p h = (refl, h)
or_none (Some f) p h = cc

none_ends : (n : ℕ) (after : List ℕ) → stopped_at n after ≡ None → EndsText after
none_ends n [] h = tt
none_ends n (x ∷ after) h = zero_is (x == 0) refl h
  where
    zero_is : (t : Bool) → (x == 0) ≡ t → cond t None (bad_byte n x) ≡ None → x ≡ 0
    zero_is true e k = grind (arith, nat_tests)
    zero_is false e k = cc

ends_none : (n : ℕ) (after : List ℕ) → EndsText after → stopped_at n after ≡ None
ends_none n [] h = refl
ends_none n (x ∷ after) h = ap (λ k. cond (k == 0) None (bad_byte n k)) h

zero_stops : (leaf : LeafOf) (after : List ℕ) → EndsText after → Stops (is_text_byte leaf) after
zero_stops leaf [] h = tt
zero_stops leaf (x ∷ after) h = ap (is_text_byte leaf) h

text_shows : (leaf : LeafOf) (b : List ℕ) → text_bad leaf b ≡ None → ShowsText leaf (text_value leaf (take_while (is_text_byte leaf) b)) b
text_shows leaf b h =
    let text = take_while (is_text_byte leaf) b in
    (text, drop (length text) b, splits (is_text_byte leaf) b, none_ends (length text) (drop (length text) b) h, passes (is_text_byte leaf) b, refl)

shows_text : (leaf : LeafOf) (b : List ℕ) (v : Value) → ShowsText leaf v b → text_bad leaf b ≡ None
shows_text leaf b v h =
    let front : take_while (is_text_byte leaf) (h.0 ++ h.1) ≡ h.0 = fronts (is_text_byte leaf) h.0 h.1 h.4 (zero_stops leaf h.1 h.3) in
    ap (text_bad leaf) h.2
    ∙ ap (λ t. stopped_at (length t) (drop (length t) (h.0 ++ h.1))) front
    ∙ ap (stopped_at (length h.0)) (drop-append_seam h.0 h.1)
    ∙ ends_none (length h.0) h.1 h.3

prim_wide : (p : Primitive) → 1 ≤ prim_width p
prim_wide Char = omega arith
prim_wide I8 = omega arith
prim_wide I16 = omega arith
prim_wide I32 = omega arith
prim_wide I64 = omega arith
prim_wide U8 = omega arith
prim_wide U16 = omega arith
prim_wide U32 = omega arith
prim_wide U64 = omega arith

no_bytes : (b : List ℕ) → length b ≡ 0 → b ≡ []
no_bytes [] h = refl
no_bytes (x ∷ b) h = absurd (omega (arith, h))

module _ (order : Order) (leaf : LeafOf) where
  abbrev wide : ℕ
  wide = prim_width leaf.prim

  abbrev shows_at : List ℕ → ℤ
  shows_at b = number_of order leaf.prim (take wide b)

  rest_long : (n : ℕ) (b : List ℕ) → length b ≡ wide * suc n → (wide ≤ length b) × (length (drop wide b) ≡ wide * n)
  rest_long n b long = let step : wide * suc n ≡ wide * n + wide = grind arith in (omega (arith, long, step), omega (arith, length-drop wide b, long, step))

  elements_show : (i n : ℕ) (b : List ℕ) → length b ≡ wide * n → elements_bad order leaf i n b ≡ None → (es : List Elem) × ShowsElements order leaf es b
  elements_show i zero b long h = ([], no_bytes b (omega (arith, long)))
  elements_show i (suc n) b long h =
      let both = or_none (unshown i (shows_at b) (shown_element leaf (shows_at b))) (elements_bad order leaf (suc i) n (drop wide b)) h in
      let first = is_shown i (shows_at b) (shown_element leaf (shows_at b)) both.0 in
      let part = rest_long n b long in
      let rest = elements_show (suc i) n (drop wide b) part.1 both.1 in
      (first.0 ∷ rest.0, (part.0, first.1, rest.1))

  show_elements : (i n : ℕ) (b : List ℕ) (es : List Elem) → length b ≡ wide * n → ShowsElements order leaf es b → elements_bad order leaf i n b ≡ None
  show_elements i zero b es long h = refl
  show_elements i (suc n) b [] long h = let part = rest_long n b long in let none : length b ≡ 0 = ap length h in absurd (omega (arith, part.0, none, prim_wide leaf.prim))
  show_elements i (suc n) b (e ∷ es) long h =
      let part = rest_long n b long in
      ap (λ o. option_or (unshown i (shows_at b) o) (elements_bad order leaf (suc i) n (drop wide b))) h.1
      ∙ show_elements (suc i) n (drop wide b) es part.1 h.2

  shape_shows : (s : LeafShape) (b : List ℕ) → length b ≡ wide * leaf.length → shape_bad order s leaf b ≡ None → (v : Value) × ShowsLeaf order s leaf v b
  shape_shows Number b long h = is_shown 0 (number_of order leaf.prim b) (shown_number leaf (number_of order leaf.prim b)) h
  shape_shows RangedText b long h = (_, text_shows leaf b h)
  shape_shows EncodedText b long h = (_, text_shows leaf b h)
  shape_shows Octets b long h = let found = elements_show 0 leaf.length b long h in (value.Nums found.0, (found.0, refl, found.1))
  shape_shows Numbers b long h = let found = elements_show 0 leaf.length b long h in (value.Nums found.0, (found.0, refl, found.1))

  shows_shape : (s : LeafShape) (b : List ℕ) (v : Value) → length b ≡ wide * leaf.length → ShowsLeaf order s leaf v b → shape_bad order s leaf b ≡ None
  shows_shape Number b v long h = ap (unshown 0 (number_of order leaf.prim b)) h
  shows_shape RangedText b v long h = shows_text leaf b v h
  shows_shape EncodedText b v long h = shows_text leaf b v h
  shows_shape Octets b v long h = show_elements 0 leaf.length b h.0 long h.2
  shows_shape Numbers b v long h = show_elements 0 leaf.length b h.0 long h.2

  pub bad_or_shown : (known : Bool) (b : List ℕ) → length b ≡ width (Leaf leaf) → (leaf_bad order leaf b ≡ None) ↔ ((v : Value) × Shows order known (Leaf leaf) v b)
  bad_or_shown known b long =
      (λ h. let found = shape_shows leaf.shape b long h in (found.0, (long, found.1)), λ s. shows_shape leaf.shape b s.0 long s.1.1)
