-- What a leaf's bytes show is told by its first fault.
use Rattle.std.proofs.Common.{◌≡◌, ◌≤◌, ◌<◌, ◌+◌, ◌*◌, ◌^◌, ℕ, zero, suc, Bool, true, false, cond, List, [], ◌∷◌, length, take, drop, Option, Some, None, Result, Ok, Err, ℤ, pos, refl, sym, ap, ◌∙◌, arith, length-drop}
use Rattle.std.specs.Prelude.{◌==◌}
use Rattle.std.specs.Option.{ok_or, option_or}
use Rattle.std.specs.List.{take_while}
use Rattle.sbe_types.specs.declared.kind.Order.{Order}
use Rattle.sbe_types.specs.declared.kind.LeafShape.{LeafShape}
use Rattle.sbe_types.specs.declared.kind.LeafShape.TheVariants.{Number, RangedText, EncodedText, Octets, Numbers}
use Rattle.sbe_types.specs.declared.kind.Leaf.{Leaf as LeafOf}
use Rattle.sbe_types.specs.declared.kind.Kind.{Leaf}
use Rattle.sbe_types.specs.declared.leaf.LeafCause.TheVariants.{Range, TextByte}
use Rattle.sbe_types.specs.declared.leaf.LeafFault.{LeafFault}
use Rattle.sbe_types.specs.declared.limits.TheConstants.{LENGTH_LIMIT}
use Rattle.sbe_types.specs.declared.message.Elem.{Elem}
use Rattle.sbe_types.specs.declared.message.Value.{Value}
use Rattle.sbe_types.specs.declared.message.Value.TheVariants as value
use Rattle.sbe_types.specs.declared.path.Step.TheVariants as way
use Rattle.sbe_types.specs.LeafBad.{unshown, elements_bad, stopped_at, text_bad, shape_bad, leaf_bad}
use Rattle.std.proofs.Math.Nat.{mul-le-mul_left}
use Rattle.sbe_types.specs.declared.kind.Primitive.{Primitive}
use Rattle.sbe_types.specs.declared.kind.Primitive.TheVariants.{Char, I8, I16, I32, I64, U8, U16, U32, U64}
use Rattle.sbe_types.specs.Numbers.{number_of, prim_width}
use Rattle.sbe_types.specs.Places.{width}
use Rattle.sbe_types.specs.Shown.{shown, shown_element}
use Rattle.sbe_types.specs.Shows.{is_text_byte, text_value}
use Rattle.sbe_wire.specs.declared.codes.FCode.TheVariants as code
use Rattle.sbe_wire.specs.Faults.{Fault, fault_at}
use Rattle.sbe_wire.specs.Reading.{◌>>=◌, later, inside, leaf_read, text_ended, elements_read}
use Rattle.schema_facts.specs.InOrder.{IsLeafInOrder, IsShapeOf}
use Rattle.body_walk.specs.inner.Outcomes.{check_at, piece}
use Rattle.body_walk.specs.inner.Kinds.{shape_answer, leaf_answer, leaf_check, IsLeafFault}

-- ---- numbers

number_is : (leaf : LeafOf) (at : ℕ) (n : ℤ) (o : Option Value) → check_at at (ok_or o (fault_at code.Range 0 n)) ≡ shape_answer Number leaf at (unshown 0 n o)
number_is leaf at n (Some v) = refl
number_is leaf at n None = ap (λ k. Err (fault_at code.Range k n)) (omega arith)

-- ---- texts

abbrev ended : LeafOf → List ℕ → ℕ → Bool → Result Value Fault
ended leaf text x t = cond t (Ok (text_value leaf text)) (Err (fault_at code.TextByte (length text) (pos x)))

abbrev stopped : List ℕ → ℕ → Bool → Option LeafFault
stopped text x t = cond t None (Some (record { cause = TextByte; at = length text; number = pos x }))

byte_is : (leaf : LeafOf) (at : ℕ) (text : List ℕ) (x : ℕ) (t : Bool) → check_at at (ended leaf text x t) ≡ shape_answer RangedText leaf at (stopped text x t)
byte_is leaf at text x true = refl
byte_is leaf at text x false = refl

text_is : (leaf : LeafOf) (at : ℕ) (text after : List ℕ) → check_at at (text_ended leaf text after) ≡ shape_answer RangedText leaf at (stopped_at (length text) after)
text_is leaf at text [] = refl
text_is leaf at text (x ∷ after) = byte_is leaf at text x (x == 0)

any_text : (leaf : LeafOf) (at : ℕ) (o : Option LeafFault) → shape_answer RangedText leaf at o ≡ shape_answer EncodedText leaf at o
any_text leaf at None = refl
any_text leaf at (Some f) = refl

-- ---- arrays

settled_more : {X : Type 0} (a w : ℕ) (x : X) (r : Result (List X) Fault) → check_at a (later w r >>= (λ xs. Ok (x ∷ xs))) ≡ check_at (a + w) r
settled_more a w x (Ok xs) = refl
settled_more a w x (Err f) = ap (λ n. Err (record { code = f.code; path = f.path; offset = n; detail = f.detail })) (omega arith)

settled_made : {X Y : Type 0} (a : ℕ) (make : X → Y) (r : Result X Fault) → check_at a (r >>= (λ x. Ok (make x))) ≡ check_at a r
settled_made a make (Ok x) = refl
settled_made a make (Err f) = refl

any_array : (leaf : LeafOf) (at : ℕ) (o : Option LeafFault) → shape_answer Numbers leaf at o ≡ shape_answer Octets leaf at o
any_array leaf at None = refl
any_array leaf at (Some f) = refl

module _ (order : Order) (leaf : LeafOf) (c : ℕ) where
  abbrev w : ℕ
  w = prim_width leaf.prim

  abbrev number : List ℕ → ℤ
  number b = number_of order leaf.prim (take w b)

  element_step : (i : ℕ) (n : ℤ) (o : Option Elem) (r : Result (List Elem) Fault) (rest : Option LeafFault) → check_at (c + w * i + w) r ≡ shape_answer Numbers leaf c rest →
      check_at (c + w * i) (inside (way.Elem i) (ok_or o (fault_at code.Range 0 n)) >>= (λ e. later w r >>= (λ es. Ok (e ∷ es)))) ≡ shape_answer Numbers leaf c (option_or (unshown i n o) rest)
  element_step i n None r rest h = ap (λ k. Err (record { code = code.Range; path = way.Elem i ∷ []; offset = k; detail = n })) (omega arith)
  element_step i n (Some e) r rest h = settled_more (c + w * i) w e r ∙ h

  elements_are : (i n : ℕ) (b : List ℕ) → check_at (c + w * i) (elements_read order leaf i n b) ≡ shape_answer Numbers leaf c (elements_bad order leaf i n b)
  unfolding elements_read
  elements_are i zero b = refl
  elements_are i (suc n) b =
      let step : c + w * i + w ≡ c + w * suc i = grind arith in
      element_step i (number b) (shown_element leaf (number b)) (elements_read order leaf (suc i) n (drop w b)) (elements_bad order leaf (suc i) n (drop w b))
      (ap (λ k. check_at k (elements_read order leaf (suc i) n (drop w b))) step ∙ elements_are (suc i) n (drop w b))

  array_is : (b : List ℕ) → check_at c (elements_read order leaf 0 leaf.length b >>= (λ es. Ok (value.Nums es))) ≡ shape_answer Numbers leaf c (elements_bad order leaf 0 leaf.length b)
  array_is b =
      let start : c ≡ c + w * 0 = omega arith in
      settled_made c (λ es. value.Nums es) (elements_read order leaf 0 leaf.length b)
      ∙ ap (λ k. check_at k (elements_read order leaf 0 leaf.length b)) start
      ∙ elements_are 0 leaf.length b

  shape_is : (s : LeafShape) (b : List ℕ) → check_at c (leaf_read order s leaf b) ≡ shape_answer s leaf c (shape_bad order s leaf b)
  shape_is Number b = number_is leaf c (number_of order leaf.prim b) (shown (Leaf leaf) true (number_of order leaf.prim b))
  shape_is RangedText b = let text = take_while (is_text_byte leaf) b in text_is leaf c text (drop (length text) b)
  shape_is EncodedText b = let text = take_while (is_text_byte leaf) b in text_is leaf c text (drop (length text) b) ∙ any_text leaf c (text_bad leaf b)
  shape_is Octets b = array_is b ∙ any_array leaf c (elements_bad order leaf 0 leaf.length b)
  shape_is Numbers b = array_is b

-- what a leaf shows is told by its first fault
pub leaf_shown : (order : Order) (leaf : LeafOf) (at : ℕ) (b : List ℕ) → leaf_check order leaf (piece at b) ≡ leaf_answer leaf at (leaf_bad order leaf b)
leaf_shown order leaf at b = shape_is order leaf at leaf.shape b

-- ---- where the first fault lies

number_first : {X : Type 0} (n : ℤ) (o : Option X) (f : LeafFault) → unshown 0 n o ≡ Some f → f.at ≡ 0
number_first n (Some x) f h = cc
number_first n None f h = let same : record { cause = Range; at = 0; number = n } ≡ f = cc in ap (λ (f : LeafFault). f.at) (sym same)

at_stop : (n x : ℕ) (t : Bool) (f : LeafFault) → ◌≡◌ {A = Option LeafFault} (cond t None (Some (record { cause = TextByte; at = n; number = pos x }))) (Some f) → f.at ≡ n
at_stop n x true f h = cc
at_stop n x false f h = let same : record { cause = TextByte; at = n; number = pos x } ≡ f = cc in ap (λ (f : LeafFault). f.at) (sym same)

text_first : (n : ℕ) (after : List ℕ) (f : LeafFault) → stopped_at n after ≡ Some f → (f.at ≡ n) × (1 ≤ length after)
text_first n [] f h = cc
text_first n (x ∷ after) f h = (at_stop n x (x == 0) f h, omega arith)

text_in : (leaf : LeafOf) (b : List ℕ) (f : LeafFault) → text_bad leaf b ≡ Some f → f.at < length b
text_in leaf b f h =
    let text = take_while (is_text_byte leaf) b in
    let first = text_first (length text) (drop (length text) b) f h in
    omega (arith, first.0, first.1, length-drop (length text) b)

or_first : {X : Type 0} (i : ℕ) (n : ℤ) (o : Option X) (p : Option LeafFault) (f : LeafFault) (k : ℕ) → option_or (unshown i n o) p ≡ Some f → i < k → (p ≡ Some f → f.at < k) → f.at < k
or_first i n (Some x) p f k h low rest = rest h
or_first i n None p f k h low rest = let same : record { cause = Range; at = i; number = n } ≡ f = cc in let is : f.at ≡ i = ap (λ (f : LeafFault). f.at) (sym same) in omega arith

elements_in : (order : Order) (leaf : LeafOf) (i n k : ℕ) (b : List ℕ) (f : LeafFault) → i + n ≤ k → elements_bad order leaf i n b ≡ Some f → f.at < k
elements_in order leaf i zero k b f fits h = cc
elements_in order leaf i (suc n) k b f fits h =
    let number = number_of order leaf.prim (take (prim_width leaf.prim) b) in
    or_first i number (shown_element leaf number) (elements_bad order leaf (suc i) n (drop (prim_width leaf.prim) b)) f k h (omega arith)
    (λ e. elements_in order leaf (suc i) n k (drop (prim_width leaf.prim) b) f (omega arith) e)

prim_wide : (p : Primitive) → 1 ≤ prim_width p
prim_wide Char = omega arith
prim_wide I8 = omega arith
prim_wide I16 = omega arith
prim_wide I32 = omega arith
prim_wide I64 = omega arith
prim_wide U8 = omega arith
prim_wide U16 = omega arith
prim_wide U32 = omega arith
prim_wide U64 = omega arith

one_wide : (w n : ℕ) → 1 ≤ w → n ≤ w * n
one_wide w n h = let grows = mul-le-mul_left n h in omega (arith, grows, swap)
  where
    swap : n * w ≡ w * n
    swap = grind arith

module _ (order : Order) (leaf : LeafOf) (at : ℕ) (b : List ℕ) (f : LeafFault) (long : length b ≡ prim_width leaf.prim * leaf.length) (most : leaf.length ≤ LENGTH_LIMIT) (near : at + length b < 2 ^ 64) where
  in_array : f.at < leaf.length → IsLeafFault leaf at f
  in_array h =
      let w = prim_width leaf.prim in
      let ends : w * f.at ≤ w * leaf.length = mul-le-mul_left w (omega (arith, h)) in
      let wider = one_wide w f.at (prim_wide leaf.prim) in
      record { few = omega (arith, h, most); byte = omega (arith, ends, wider, long, near); element = omega (arith, ends, long, near) }

  in_text : prim_width leaf.prim ≡ 1 → f.at < length b → IsLeafFault leaf at f
  in_text one h =
      let same : length b ≡ 1 * leaf.length = long ∙ ap (λ w. w * leaf.length) one in
      in_array (omega (arith, h, same))

  in_shape : (s : LeafShape) → IsShapeOf s leaf.prim leaf.length → shape_bad order s leaf b ≡ Some f → IsLeafFault leaf at f
  in_shape Number shape h = let first = number_first (number_of order leaf.prim b) (shown (Leaf leaf) true (number_of order leaf.prim b)) f h in in_array (omega (arith, shape, first))
  in_shape RangedText shape h = in_text (ap prim_width shape.0) (text_in leaf b f h)
  in_shape EncodedText shape h = in_text (ap prim_width shape.0) (text_in leaf b f h)
  in_shape Octets shape h = in_array (elements_in order leaf 0 leaf.length leaf.length b f (omega arith) h)
  in_shape Numbers shape h = in_array (elements_in order leaf 0 leaf.length leaf.length b f (omega arith) h)

-- the first fault lies in the leaf
pub leaf_fault_in : (order : Order) (leaf : LeafOf) (at : ℕ) (b : List ℕ) (f : LeafFault) → IsLeafInOrder leaf → length b ≡ width (Leaf leaf) → at + length b < 2 ^ 64 → leaf_bad order leaf b ≡ Some f → IsLeafFault leaf at f
leaf_fault_in order leaf at b f is long near bad = in_shape order leaf at b f long is.most near leaf.shape is.shape bad
