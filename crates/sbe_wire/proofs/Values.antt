-- What is read as a value is what the bytes show, and the fault that is told is the first one.
use Rattle.std.proofs.Common.{◌≡◌, inl, inr, ℕ, zero, suc, ◌+◌, ◌*◌, ◌≤◌, Bool, true, false, cond, List, [], ◌∷◌, ◌++◌, length, take, drop, Option, Some, Result, Ok, Err, refl, sym, ap, ◌∙◌, subst, arith, length-take, length-drop}
use Rattle.std.proofs.Math.Seq.{drop-append_seam}
use Rattle.std.specs.Prelude.{not, ◌&&◌, ◌==◌, ℤ, pos}
use Rattle.std.specs.Option.{ok_or}
use Rattle.std.specs.List.{take_while, list_all}
use Rattle.std.proofs.lemmas.Bool.Decides.{nat_tests}
use Rattle.sbe_types.specs.declared.kind.Order.{Order}
use Rattle.sbe_types.specs.declared.kind.Primitive.{Primitive}
use Rattle.sbe_types.specs.declared.kind.Primitive.TheVariants.{Char, I8, I16, I32, I64, U8, U16, U32, U64}
use Rattle.sbe_types.specs.declared.kind.LeafShape.{LeafShape}
use Rattle.sbe_types.specs.declared.kind.LeafShape.TheVariants.{Number, RangedText, EncodedText, Octets, Numbers}
use Rattle.sbe_types.specs.declared.kind.Leaf.{Leaf as LeafOf}
use Rattle.sbe_types.specs.declared.kind.Kind.{Kind, Leaf, Enum, Set, Const, Comp', Row_of-Member, end_of-Member, more_of-Member}
use Rattle.sbe_types.specs.declared.path.Step.TheVariants as way
use Rattle.sbe_types.specs.declared.message.Elem.{Elem}
use Rattle.sbe_types.specs.declared.message.Value.{Value}
use Rattle.sbe_types.specs.declared.message.Value.TheVariants as value
use Rattle.sbe_types.specs.Numbers.{number_of, prim_width}
use Rattle.sbe_types.specs.Places.{width, is_const, begin_of, row_end}
use Rattle.sbe_types.specs.Shown.{shown, shown_element}
use Rattle.sbe_types.specs.Shows.{Shows, MembersShow, ShowsText, ShowsElements, ShowsArray, ShowsLeaf, EndsText, is_text_byte, text_value}
use Rattle.sbe_wire.specs.declared.codes.FCode.{FCode}
use Rattle.sbe_wire.specs.declared.codes.FCode.TheVariants as code
use Rattle.sbe_wire.specs.Faults.{Fault, shifted, under, fault_at, is_bad_byte, TextFault, NumberFault, ElementsFault, LeafFault, KindFault, RowFault}
use Rattle.sbe_wire.specs.Reading.{◌>>=◌, later, inside, number_value, text_ended, text_read, element_read, elements_read, array_read, leaf_read, value_read, row_read}
use Rattle.sbe_wire.specs.Agree.{Judges}
use Rattle.sbe_wire.specs.Placed.{BeginsBehind, IsPlacedKind, IsPlacedRow}
use Rattle.sbe_wire.proofs.Combine.{empty_is, ok_is, err_is, bind_ok, bind_err, later_ok, later_err, inside_ok, inside_err}
use Rattle.sbe_wire.proofs.Judging.{never, found_is, missed_is, rejudged, made_by, MadeBy, moved, beside, Beside, BesideFault}
use Rattle.sbe_types.proofs.TextLemmas.{splits, passes, stops, fronts, Stops}

-- ---- a number

pub number_judges : (kind : Kind) (known : Bool) (code : FCode) → Judges (λ (n : ℤ). Unit {0}) (number_value kind known code) (λ v n. shown kind known n ≡ Some v) (λ f n. NumberFault kind known code n f)
number_judges kind known code = record {
  sound = λ n v g h. found_is (shown kind known n) (fault_at code 0 n) v h;
  complete = λ n v h. ap (λ o. ok_or o (fault_at code 0 n)) h;
  told = λ n f g h. missed_is (shown kind known n) (fault_at code 0 n) f h;
  only = λ n f h. ap (λ o. ok_or o (fault_at code 0 n)) h.0 ∙ ap Err (sym h.1);
}

-- ---- a text

text_sound : (leaf : LeafOf) (text after b : List ℕ) (v : Value) → b ≡ text ++ after → list_all (is_text_byte leaf) text ≡ true → text_ended leaf text after ≡ Ok v → ShowsText leaf v b
text_sound leaf text [] b v whole all h = (text, [], whole, tt, all, sym (ok_is h))
text_sound leaf text (x ∷ after) b v whole all h = ends (x == 0) refl h
  where
    ends : (t : Bool) → (x == 0) ≡ t → cond t (Ok (text_value leaf text)) (Err (fault_at code.TextByte (length text) (pos x))) ≡ Ok v → ShowsText leaf v b
    ends true e k = (text, x ∷ after, whole, grind (arith, nat_tests), all, sym (ok_is k))
    ends false e k = cc

zero_stops : (leaf : LeafOf) (after : List ℕ) → EndsText after → Stops (is_text_byte leaf) after
zero_stops leaf [] h = tt
zero_stops leaf (x ∷ after) h = ap (is_text_byte leaf) h

ended_is : (leaf : LeafOf) (text after : List ℕ) → EndsText after → text_ended leaf text after ≡ Ok (text_value leaf text)
ended_is leaf text [] h = refl
ended_is leaf text (x ∷ after) h = ap (λ k. cond (k == 0) (Ok (text_value leaf text)) (Err (fault_at code.TextByte (length text) (pos k)))) h

text_complete : (leaf : LeafOf) (b : List ℕ) (v : Value) → ShowsText leaf v b → text_read leaf b ≡ Ok v
text_complete leaf b v h =
    let front : take_while (is_text_byte leaf) (h.0 ++ h.1) ≡ h.0 = fronts (is_text_byte leaf) h.0 h.1 h.4 (zero_stops leaf h.1 h.3) in
    ap (text_read leaf) h.2
    ∙ ap (λ t. text_ended leaf t (drop (length t) (h.0 ++ h.1))) front
    ∙ ap (text_ended leaf h.0) (drop-append_seam h.0 h.1)
    ∙ ended_is leaf h.0 h.1 h.3 ∙ ap Ok (sym h.5)

text_told : (leaf : LeafOf) (text after b : List ℕ) (f : Fault) → b ≡ text ++ after → list_all (is_text_byte leaf) text ≡ true → Stops (is_text_byte leaf) after → text_ended leaf text after ≡ Err f → TextFault leaf f b
text_told leaf text [] b f whole all stop h = absurd (never h)
text_told leaf text (x ∷ after) b f whole all stop h = ends (x == 0) refl h
  where
    ends : (t : Bool) → (x == 0) ≡ t → cond t (Ok (text_value leaf text)) (Err (fault_at code.TextByte (length text) (pos x))) ≡ Err f → TextFault leaf f b
    ends true e k = absurd (never k)
    ends false e k = (text, x, after, whole, all, ap (λ t. not (x == 0) && not t) stop ∙ ap (λ t. not t && not false) e, sym (err_is k))

bad_stops : (leaf : LeafOf) (x : ℕ) (t u : Bool) → (x == 0) ≡ t → is_text_byte leaf x ≡ u → is_bad_byte leaf x ≡ true → (t ≡ false) × (u ≡ false)
bad_stops leaf x true u e d h = absurd (untrue (sym (ap (λ t. not t && not (is_text_byte leaf x)) e) ∙ h))
  where
    untrue : ◌≡◌ {A = Bool} false true → ⊥
    untrue k = cc
bad_stops leaf x false true e d h = absurd (untrue (sym (ap (λ t. not (x == 0) && not t) d ∙ ap (λ t. not t && not true) e) ∙ h))
  where
    untrue : ◌≡◌ {A = Bool} false true → ⊥
    untrue k = cc
bad_stops leaf x false false e d h = (refl, refl)

text_only : (leaf : LeafOf) (b : List ℕ) (f : Fault) → TextFault leaf f b → text_read leaf b ≡ Err f
text_only leaf b f h =
    let bad = bad_stops leaf h.1 (h.1 == 0) (is_text_byte leaf h.1) refl refl h.5 in
    let front : take_while (is_text_byte leaf) (h.0 ++ h.1 ∷ h.2) ≡ h.0 = fronts (is_text_byte leaf) h.0 (h.1 ∷ h.2) h.4 bad.1 in
    ap (text_read leaf) h.3
    ∙ ap (λ t. text_ended leaf t (drop (length t) (h.0 ++ h.1 ∷ h.2))) front
    ∙ ap (text_ended leaf h.0) (drop-append_seam h.0 (h.1 ∷ h.2))
    ∙ ap (λ t. cond t (Ok (text_value leaf h.0)) (Err (fault_at code.TextByte (length h.0) (pos h.1)))) bad.0 ∙ ap Err (sym h.6)

pub text_judges : (leaf : LeafOf) → Judges (λ (b : List ℕ). Unit {0}) (text_read leaf) (ShowsText leaf) (TextFault leaf)
text_judges leaf = record {
  sound = λ b v g h. text_sound leaf (take_while (is_text_byte leaf) b) (drop (length (take_while (is_text_byte leaf) b)) b) b v (splits (is_text_byte leaf) b) (passes (is_text_byte leaf) b) h;
  complete = λ b v h. text_complete leaf b v h;
  told = λ b f g h. text_told leaf (take_while (is_text_byte leaf) b) (drop (length (take_while (is_text_byte leaf) b)) b) b f (splits (is_text_byte leaf) b) (passes (is_text_byte leaf) b) (stops (is_text_byte leaf) b) h;
  only = λ b f h. text_only leaf b f h;
}

-- ---- an array

prim_wide : (p : Primitive) → 1 ≤ prim_width p
prim_wide Char = omega arith
prim_wide I8 = omega arith
prim_wide I16 = omega arith
prim_wide I32 = omega arith
prim_wide I64 = omega arith
prim_wide U8 = omega arith
prim_wide U16 = omega arith
prim_wide U32 = omega arith
prim_wide U64 = omega arith

module _ (order : Order) (leaf : LeafOf) where
  abbrev w : ℕ
  w = prim_width leaf.prim

  abbrev number : List ℕ → ℤ
  number b = number_of order leaf.prim (take w b)

  elements_sound : (i n : ℕ) (b : List ℕ) (es : List Elem) → length b ≡ w * n → elements_read order leaf i n b ≡ Ok es → ShowsElements order leaf es b
  unfolding elements_read
  elements_sound i zero b es long h = subst (λ es. ShowsElements order leaf es b) (ok_is h) (empty_is b (omega (arith, long)))
  elements_sound i (suc n) b es long h =
      let first = bind_ok (inside (way.Elem i) (element_read order leaf b)) (λ e. later w (elements_read order leaf (suc i) n (drop w b)) >>= (λ es. Ok (e ∷ es))) es h in
      let others = bind_ok (later w (elements_read order leaf (suc i) n (drop w b))) (λ es. Ok (first.0 ∷ es)) es first.2 in
      let step : w * suc n ≡ w * n + w = grind arith in
      let rest_long : length (drop w b) ≡ w * n = omega (arith, length-drop w b, long, step) in
      let enough : w ≤ length b = omega (arith, long, step) in
      let here : shown_element leaf (number b) ≡ Some first.0 = found_is (shown_element leaf (number b)) _ first.0 (inside_ok (way.Elem i) (element_read order leaf b) first.0 first.1) in
      let rest : ShowsElements order leaf others.0 (drop w b) = elements_sound (suc i) n (drop w b) others.0 rest_long (later_ok w (elements_read order leaf (suc i) n (drop w b)) others.0 others.1) in
      let whole : ShowsElements order leaf (first.0 ∷ others.0) b = (enough, here, rest) in
      subst (λ es. ShowsElements order leaf es b) (ok_is others.2) whole

  elements_complete : (i n : ℕ) (b : List ℕ) (es : List Elem) → length b ≡ w * n → ShowsElements order leaf es b → elements_read order leaf i n b ≡ Ok es
  unfolding elements_read
  elements_complete i zero b [] long h = refl
  elements_complete i zero b (e ∷ es) long h = absurd (omega (arith, long, h.0, prim_wide leaf.prim))
  elements_complete i (suc n) b [] long h =
      let step : w * suc n ≡ w * n + w = grind arith in
      absurd (omega (arith, long, ap length h, step, prim_wide leaf.prim))
  elements_complete i (suc n) b (e ∷ es) long h =
      let step : w * suc n ≡ w * n + w = grind arith in
      let rest_long : length (drop w b) ≡ w * n = omega (arith, length-drop w b, long, step) in
      let here : element_read order leaf b ≡ Ok e = ap (λ o. ok_or o (fault_at code.Range 0 (number b))) h.1 in
      ap (λ r. inside (way.Elem i) r >>= (λ e. later w (elements_read order leaf (suc i) n (drop w b)) >>= (λ es. Ok (e ∷ es)))) here
      ∙ ap (λ r. later w r >>= (λ es. Ok (e ∷ es))) (elements_complete (suc i) n (drop w b) es rest_long h.2)

  elements_told : (i n : ℕ) (b : List ℕ) (f : Fault) → elements_read order leaf i n b ≡ Err f → ElementsFault order leaf i n f b
  unfolding elements_read
  elements_told i zero b f h = absurd (never h)
  elements_told i (suc n) b f h =
      elim (bind_err (inside (way.Elem i) (element_read order leaf b)) (λ e. later w (elements_read order leaf (suc i) n (drop w b)) >>= (λ es. Ok (e ∷ es))) f h) [
        | inl e ↦
            let deep = inside_err (way.Elem i) (element_read order leaf b) f e in
            let missed = missed_is (shown_element leaf (number b)) (fault_at code.Range 0 (number b)) deep.0 deep.1 in
            inl (missed.0, deep.2 ∙ ap (under (way.Elem i)) missed.1)
        | inr e ↦ elim (bind_err (later w (elements_read order leaf (suc i) n (drop w b))) (λ es. Ok (e.0 ∷ es)) f e.2) [
          | inl d ↦
              let out = later_err w (elements_read order leaf (suc i) n (drop w b)) f d in
              let here : shown_element leaf (number b) ≡ Some e.0 = found_is (shown_element leaf (number b)) _ e.0 (inside_ok (way.Elem i) (element_read order leaf b) e.0 e.1) in
              inr (e.0, out.0, here, elements_told (suc i) n (drop w b) out.0 out.1, out.2)
          | inr d ↦ absurd (never d.2)
        ]
      ]

  elements_only : (i n : ℕ) (b : List ℕ) (f : Fault) → ElementsFault order leaf i n f b → elements_read order leaf i n b ≡ Err f
  unfolding elements_read
  elements_only i zero b f h = absurd h
  elements_only i (suc n) b f h = elim h [
    | inl e ↦
        let here : element_read order leaf b ≡ Err (fault_at code.Range 0 (number b)) = ap (λ o. ok_or o (fault_at code.Range 0 (number b))) e.0 in
        ap (λ r. inside (way.Elem i) r >>= (λ e. later w (elements_read order leaf (suc i) n (drop w b)) >>= (λ es. Ok (e ∷ es)))) here ∙ ap Err (sym e.1)
    | inr e ↦
        let here : element_read order leaf b ≡ Ok e.0 = ap (λ o. ok_or o (fault_at code.Range 0 (number b))) e.2 in
        ap (λ r. inside (way.Elem i) r >>= (λ e. later w (elements_read order leaf (suc i) n (drop w b)) >>= (λ es. Ok (e ∷ es)))) here
        ∙ ap (λ r. later w r >>= (λ es. Ok (e.0 ∷ es))) (elements_only (suc i) n (drop w b) e.1 e.3) ∙ ap Err (sym e.4)
  ]

  array_sound : (b : List ℕ) (v : Value) → length b ≡ width (Leaf leaf) → array_read order leaf b ≡ Ok v → ShowsArray order leaf v b
  array_sound b v long h =
      let found = bind_ok (elements_read order leaf 0 leaf.length b) (λ es. Ok (value.Nums es)) v h in
      (found.0, sym (ok_is found.2), elements_sound 0 leaf.length b found.0 long found.1)

  array_told : (b : List ℕ) (f : Fault) → array_read order leaf b ≡ Err f → ElementsFault order leaf 0 leaf.length f b
  array_told b f h = elim (bind_err (elements_read order leaf 0 leaf.length b) (λ es. Ok (value.Nums es)) f h) [
    | inl e ↦ elements_told 0 leaf.length b f e
    | inr e ↦ absurd (never e.2)
  ]

  abbrev ShownBy : LeafShape → Value → List ℕ → Type 0
  ShownBy shape v b = (length b ≡ width (Leaf leaf)) × ShowsLeaf order shape leaf v b

  array_judges : Judges (λ b. length b ≡ width (Leaf leaf)) (array_read order leaf) (λ v b. (length b ≡ width (Leaf leaf)) × ShowsArray order leaf v b) (ElementsFault order leaf 0 leaf.length)
  array_judges = record {
    sound = λ b v g h. (g, array_sound b v g h);
    complete = λ b v h. ap (λ r. r >>= (λ es. Ok (value.Nums es))) (elements_complete 0 leaf.length b h.1.0 h.0 h.1.2) ∙ ap Ok (sym h.1.1);
    told = λ b f g h. array_told b f h;
    only = λ b f h. ap (λ r. r >>= (λ es. Ok (value.Nums es))) (elements_only 0 leaf.length b f h);
  }

  texts : Judges (λ b. length b ≡ width (Leaf leaf)) (text_read leaf) (λ v b. (length b ≡ width (Leaf leaf)) × ShowsText leaf v b) (TextFault leaf)
  texts = record {
    sound = λ b v g h. (g, (text_judges leaf).sound b v tt h);
    complete = λ b v h. (text_judges leaf).complete b v h.1;
    told = λ b f g h. (text_judges leaf).told b f tt h;
    only = λ b f h. (text_judges leaf).only b f h;
  }

  numbers : Judges (λ b. length b ≡ width (Leaf leaf)) (leaf_read order Number leaf) (ShownBy Number) (LeafFault order Number leaf)
  numbers =
      let judges = number_judges (Leaf leaf) true code.Range in
      record {
        sound = λ b v g h. (g, judges.sound (number_of order leaf.prim b) v tt h);
        complete = λ b v h. judges.complete (number_of order leaf.prim b) v h.1;
        told = λ b f g h. judges.told (number_of order leaf.prim b) f tt h;
        only = λ b f h. judges.only (number_of order leaf.prim b) f h;
      }

  pub leaf_judges : (shape : LeafShape) → Judges (λ b. length b ≡ width (Leaf leaf)) (leaf_read order shape leaf) (ShownBy shape) (LeafFault order shape leaf)
  leaf_judges Number = numbers
  leaf_judges RangedText = texts
  leaf_judges EncodedText = texts
  leaf_judges Octets = array_judges
  leaf_judges Numbers = array_judges

-- ---- a kind

-- the end of members lies after their beginning
pub row_grows : {n : _} (row : Row_of-Member n) (e : ℕ) → IsPlacedRow e row → e ≤ row_end e row
row_grows end_of-Member e h = omega arith
row_grows (more_of-Member name offset kind rest) e h = past (is_const kind) refl h.0 (row_grows rest _ h.2)
  where
    past : (t : Bool) → is_const kind ≡ t → BeginsBehind e offset kind →
        (cond (is_const kind) e (begin_of e offset + width kind)) ≤ row_end (cond (is_const kind) e (begin_of e offset + width kind)) rest →
        e ≤ row_end (cond (is_const kind) e (begin_of e offset + width kind)) rest
    past true c beyond k = let same : cond (is_const kind) e (begin_of e offset + width kind) ≡ e = ap (λ t. cond t e (begin_of e offset + width kind)) c in omega arith
    past false c beyond k =
        let same : cond (is_const kind) e (begin_of e offset + width kind) ≡ begin_of e offset + width kind = ap (λ t. cond t e (begin_of e offset + width kind)) c in
        let begins : e ≤ begin_of e offset = beyond c in
        omega arith

pub const_width : (kind : Kind) → is_const kind ≡ true → width kind ≡ 0
const_width (Const c) h = refl
const_width (Leaf l) h = cc
const_width (Enum l names) h = cc
const_width (Set p names) h = cc
const_width (Comp' n members) h = cc

-- a slice that lies in the bytes is as long as it says
pub slice_long : (p n : ℕ) (b : List ℕ) → p + n ≤ length b → length (take n (drop p b)) ≡ n
slice_long p n b h = simp (length-take, length-drop) (omega arith)

-- the bytes of a part that ends in time
pub part_long : (e : ℕ) (offset : Option ℕ) (kind : Kind) (b : List ℕ) (t : Bool) → is_const kind ≡ t → (t ≡ false → begin_of e offset + width kind ≤ length b) →
    length (take (width kind) (drop (begin_of e offset) b)) ≡ width kind
part_long e offset kind b true c h = rw (const_width kind c) (simp length-take (omega arith))
part_long e offset kind b false c h = slice_long (begin_of e offset) (width kind) b (h refl)

module _ (order : Order) (known : Bool) where
  number_of_kind : (kind : Kind) (p : Primitive) (code : FCode) → Judges (λ b. length b ≡ prim_width p) (λ b. number_value kind known code (number_of order p b)) (λ v b. (length b ≡ prim_width p) × (shown kind known (number_of order p b) ≡ Some v)) (λ f b. NumberFault kind known code (number_of order p b) f)
  number_of_kind kind p code =
      let judges = number_judges kind known code in
      record {
        sound = λ b v g h. (g, judges.sound (number_of order p b) v tt h);
        complete = λ b v h. judges.complete (number_of order p b) v h.1;
        told = λ b f g h. judges.told (number_of order p b) f tt h;
        only = λ b f h. judges.only (number_of order p b) f h;
      }

  const_judges : Judges (λ (b : List ℕ). length b ≡ 0) (λ b. Ok value.Const) (λ v b. (b ≡ []) × (v ≡ value.Const)) (λ f b. ⊥)
  const_judges = record {
    sound = λ b v g h. (none b g, sym (ok_is h));
    complete = λ b v h. ap Ok (sym h.1);
    told = λ b f g h. absurd (never h);
    only = λ b f h. absurd h;
  }
    where
      none : (b : List ℕ) → length b ≡ 0 → b ≡ []
      none [] h = refl
      none (x ∷ xs) h = absurd (omega (arith, h))

  abbrev JudgesKind : Kind → Type 0
  JudgesKind kind = Judges (λ b. length b ≡ width kind) (value_read order known kind) (Shows order known kind) (KindFault order known kind)

  abbrev JudgesRow : ℕ → ℕ → {n : _} → Row_of-Member n → Type 0
  JudgesRow e i row = Judges (λ b. row_end e row ≤ length b) (row_read order known e i row) (MembersShow order known e row) (RowFault order known e i row)

  no_members : (e i : ℕ) → JudgesRow e i end_of-Member
  unfolding row_read
  no_members e i = record {
    sound = λ b vs g h. subst (λ vs. MembersShow order known e end_of-Member vs b) (ok_is h) tt;
    complete = λ b vs h. none vs b h;
    told = λ b f g h. absurd (never h);
    only = λ b f h. absurd h;
  }
    where
      none : (vs : List Value) (b : List ℕ) → MembersShow order known e end_of-Member vs b → ◌≡◌ {A = Result (List Value) Fault} (Ok []) (Ok vs)
      none [] b h = refl
      none (v ∷ vs) b h = absurd h

  module _ (e i : ℕ) (name : List ℕ) (offset : Option ℕ) (kind : Kind) {n : _} (rest : Row_of-Member n) where
    abbrev next : ℕ
    next = cond (is_const kind) e (begin_of e offset + width kind)

    abbrev slice : List ℕ → List ℕ
    slice b = take (width kind) (drop (begin_of e offset) b)

    beside_to : (vs : List Value) (b : List ℕ) → Beside (λ v b. Shows order known kind v (slice b)) (MembersShow order known next rest) vs b → MembersShow order known e (more_of-Member name offset kind rest) vs b
    beside_to vs b h =
        let whole : MembersShow order known e (more_of-Member name offset kind rest) (h.0 ∷ h.1) b = (h.3, h.4) in
        subst (λ vs. MembersShow order known e (more_of-Member name offset kind rest) vs b) (sym h.2) whole

    beside_from : (vs : List Value) (b : List ℕ) → MembersShow order known e (more_of-Member name offset kind rest) vs b → Beside (λ v b. Shows order known kind v (slice b)) (MembersShow order known next rest) vs b
    beside_from [] b h = absurd h
    beside_from (v ∷ vs) b h = (v, vs, refl, h.0, h.1)

    one_more : IsPlacedRow e (more_of-Member name offset kind rest) → JudgesKind kind → JudgesRow next (suc i) rest → JudgesRow e i (more_of-Member name offset kind rest)
    unfolding row_read
    one_more placed here there =
        let ends : (b : List ℕ) → row_end next rest ≤ length b → next ≤ length b = λ b h. omega (arith, row_grows rest next placed.2) in
        rejudged (λ b. row_end next rest ≤ length b) (λ b. row_end next rest ≤ length b) (row_read order known e i (more_of-Member name offset kind rest))
        (Beside (λ v b. Shows order known kind v (slice b)) (MembersShow order known next rest)) (MembersShow order known e (more_of-Member name offset kind rest))
        (BesideFault (λ f b. (g : Fault) × KindFault order known kind g (slice b) × (f ≡ shifted (begin_of e offset) (under (way.Part i) g))) (λ v b. Shows order known kind v (slice b)) (RowFault order known next (suc i) rest))
        (RowFault order known e i (more_of-Member name offset kind rest))
        (λ b h. h) (λ vs b g h. beside_to vs b h) beside_from (λ f b h. h) (λ f b h. h)
        (beside (λ b. row_end next rest ≤ length b) (λ b. later (begin_of e offset) (inside (way.Part i) (value_read order known kind (slice b)))) (row_read order known next (suc i) rest)
        (λ v b. Shows order known kind v (slice b)) (MembersShow order known next rest) (λ f b. (g : Fault) × KindFault order known kind g (slice b) × (f ≡ shifted (begin_of e offset) (under (way.Part i) g))) (RowFault order known next (suc i) rest)
        (moved (λ b. length b ≡ width kind) (value_read order known kind) (Shows order known kind) (KindFault order known kind) (λ b. row_end next rest ≤ length b) slice (begin_of e offset) (way.Part i)
        (λ b h. part_long e offset kind b (is_const kind) refl (λ c. subst (λ (t : Bool). cond t e (begin_of e offset + width kind) ≤ length b) c (ends b h))) here) there)

  of_row : (n : _) (members : Row_of-Member _) → JudgesRow 0 0 members → JudgesKind (Comp' n members)
  unfolding value_read
  of_row n members judges =
      rejudged (λ b. row_end 0 members ≤ length b) (λ b. length b ≡ width (Comp' n members)) (value_read order known (Comp' n members))
      (MadeBy value.Comp (MembersShow order known 0 members)) (Shows order known (Comp' n members)) (RowFault order known 0 0 members) (KindFault order known (Comp' n members))
      (λ b h. omega (arith, h)) (λ v b g h. (g, (h.0, h.1, h.2))) (λ v b h. h.1) (λ f b h. h) (λ f b h. h)
      (made_by (λ b. row_end 0 members ≤ length b) (row_read order known 0 0 members) value.Comp (MembersShow order known 0 members) (RowFault order known 0 0 members) judges)

  mutual
    unfolding value_read

    pub kind_judges : (kind : Kind) → IsPlacedKind kind → JudgesKind kind
    kind_judges (Leaf l) placed = leaf_judges order l l.shape
    kind_judges (Enum l names) placed = number_of_kind (Enum l names) l.prim code.EnumUnknown
    kind_judges (Set p names) placed = number_of_kind (Set p names) p code.SetUnknown
    kind_judges (Const c) placed = const_judges
    kind_judges (Comp' n members) placed = of_row n members (row_judges 0 0 members placed)

    pub row_judges : (e i : ℕ) {n : _} (row : Row_of-Member n) → IsPlacedRow e row → JudgesRow e i row
    row_judges e i end_of-Member placed = no_members e i
    row_judges e i (more_of-Member name offset kind rest) placed = one_more e i name offset kind rest placed (kind_judges kind placed.1) (row_judges _ (suc i) rest placed.2)
