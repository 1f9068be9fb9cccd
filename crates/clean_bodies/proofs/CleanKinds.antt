-- A value that clean bytes show has these bytes.
use Rattle.std.proofs.Common.{◌≡◌, ℕ, suc, ◌+◌, ◌*◌, ◌-◌, ◌≤◌, Bool, true, false, cond, List, [], ◌∷◌, ◌++◌, length, take, drop, Some, refl, sym, ap, ◌∙◌, subst, arith, length-append}
use Rattle.std.specs.Prelude.{replicate}
use Rattle.byte_digits.specs.Digits.{IsBytes}
use Rattle.byte_digits.proofs.Bytes.{IsBytes-take, IsBytes-drop}
use Rattle.sbe_types.specs.declared.kind.Order.{Order}
use Rattle.sbe_types.specs.declared.kind.LeafShape.{LeafShape}
use Rattle.sbe_types.specs.declared.kind.LeafShape.TheVariants.{Number, RangedText, EncodedText, Octets, Numbers}
use Rattle.sbe_types.specs.declared.kind.Leaf.{Leaf as LeafOf}
use Rattle.sbe_types.specs.declared.kind.Kind.{Kind, Leaf, Enum, Set, Const, Comp', Row_of-Member, end_of-Member, more_of-Member}
use Rattle.sbe_types.specs.declared.message.Value.{Value, items_hidden-the_row-Value-0}
use Rattle.sbe_types.specs.Numbers.{number_of, prim_width}
use Rattle.sbe_types.specs.Places.{width, is_const, begin_of, row_end}
use Rattle.sbe_types.specs.Shown.{is_optional}
use Rattle.sbe_types.specs.Shows.{Shows, MembersShow, ShowsLeaf, ShowsText, EndsText}
use Rattle.sbe_types.specs.Wire.{both, text_bytes, leaf_bytes, wire_bytes, row_bytes}
use Rattle.sbe_types.proofs.Inverse.{bytes_of-number_of}
use Rattle.sbe_wire.specs.Placed.{BeginsBehind, IsPlacedKind, IsPlacedRow}
use Rattle.sbe_wire.proofs.Values.{row_grows, const_width}
use Rattle.writing_laws.specs.Writable.{IsWritableLeaf, IsWritableKind, IsWritableRow}
use Rattle.writing_laws.proofs.Numerals.{number_wire, enum_wire}
use Rattle.writing_laws.proofs.KindBack.{null_empty, array_back, set_back}
use Rattle.clean_bodies.specs.Clean.{AreZeros, between, part_in, IsCleanText, IsCleanLeaf, HasCleanGap, IsCleanKind, AreCleanMembers}
use Rattle.clean_bodies.proofs.Zeros.{between_append, gap_zeros, between_none, whole_between}

-- ---- a text

-- what follows a clean text is what pads it
pads : (n : ℕ) (text after : List ℕ) → length text + length after ≡ n → EndsText after → IsCleanText (text ++ after)
    → after ≡ replicate (n - length text) 0
pads n text [] long ends clean = let none : 0 ≡ n - length text = omega (arith, long) in ap (λ k. replicate k 0) none
pads n text (x ∷ xs) long ends clean =
    let rest : AreZeros xs = clean text xs (ap (λ y. text ++ (y ∷ xs)) ends) in
    let many : suc (length xs) ≡ n - length text = omega (arith, long) in
    ap (λ y. y ∷ xs) ends ∙ ap (λ ys. 0 ∷ ys) rest ∙ ap (λ k. replicate k 0) many

text_clean : (leaf : LeafOf) (v : Value) (b : List ℕ) → length b ≡ width (Leaf leaf) → ShowsText leaf v b
    → IsCleanText b → text_bytes leaf v ≡ Some b
text_clean leaf v b long h clean =
    let n = width (Leaf leaf) in
    let total : length h.0 + length h.1 ≡ n = omega (arith, long, ap length h.2, length-append h.0 h.1) in
    let zeros = pads n h.0 h.1 total h.3 (subst IsCleanText h.2 clean) in
    ap (text_bytes leaf) h.5 ∙ null_empty leaf (is_optional leaf.presence) refl h.0 ∙ ap (λ z. Some (h.0 ++ z)) (sym zeros) ∙ ap Some (sym h.2)

-- ---- a leaf

module _ (order : Order) (leaf : LeafOf) where
  leaf_clean : (s : LeafShape) → leaf.shape ≡ s → IsWritableLeaf leaf → (v : Value) (b : List ℕ) → length b ≡ width (Leaf leaf)
      → IsBytes b → ShowsLeaf order s leaf v b → IsCleanLeaf s b → leaf_bytes order s leaf v ≡ Some b
  leaf_clean Number is writable v b long good h clean =
      let one : width (Leaf leaf) ≡ prim_width leaf.prim = ap (λ n. prim_width leaf.prim * n) (writable.single is) ∙ omega arith in
      let wide : length b ≡ prim_width leaf.prim = long ∙ one in
      number_wire order leaf (number_of order leaf.prim b) v h ∙ bytes_of-number_of order leaf.prim b wide good
  leaf_clean RangedText is writable v b long good h clean = text_clean leaf v b long h clean
  leaf_clean EncodedText is writable v b long good h clean = text_clean leaf v b long h clean
  leaf_clean Octets is writable v b long good h clean = array_back order leaf v b long good h
  leaf_clean Numbers is writable v b long good h clean = array_back order leaf v b long good h

-- ---- one part after another

-- the zeros before a part and its bytes are the bytes up to its end
pub part_is : (e : ℕ) (offset : _) (kind : Kind) (t : Bool) → is_const kind ≡ t → BeginsBehind e offset kind
    → (b : List ℕ) → (t ≡ false → begin_of e offset + width kind ≤ length b) → HasCleanGap e offset kind b
    → replicate (cond t 0 (begin_of e offset - e)) 0 ++ part_in e offset kind b ≡ between e (cond t e (begin_of e offset + width kind)) b
part_is e offset kind true c later b within gap =
    ap (λ n. take n (drop (begin_of e offset) b)) (const_width kind c) ∙ sym (between_none e b)
part_is e offset kind false c later b within gap =
    let begin = begin_of e offset in
    let begins : e ≤ begin = later c in
    let ends : begin + width kind ≤ length b = within refl in
    let size : width kind ≡ (begin + width kind) - begin = omega arith in
    ap (λ z. z ++ part_in e offset kind b) (gap_zeros e begin b begins (omega (arith, ends)) (gap c))
    ∙ ap (λ n. between e begin b ++ take n (drop begin b)) size
    ∙ between_append e begin (begin + width kind) b begins (omega arith)

-- where the part ends, at e or after
pub part_grows : (e : ℕ) (offset : _) (kind : Kind) (t : Bool) → is_const kind ≡ t → BeginsBehind e offset kind
    → e ≤ cond t e (begin_of e offset + width kind)
part_grows e offset kind true c later = omega arith
part_grows e offset kind false c later = let begins : e ≤ begin_of e offset = later c in omega (arith, begins)

pub part_within : (e limit : ℕ) (offset : _) (kind : Kind) (t : Bool)
    → cond t e (begin_of e offset + width kind) ≤ limit → t ≡ false → begin_of e offset + width kind ≤ limit
part_within e limit offset kind t h is = subst (λ u. cond u e (begin_of e offset + width kind) ≤ limit) is h

-- ---- a kind

module _ (order : Order) where
  mutual
    pub kind_clean : (kind : Kind) → IsPlacedKind kind → IsWritableKind kind → (v : Value) (b : List ℕ) → IsBytes b
        → Shows order true kind v b → IsCleanKind kind b → wire_bytes order kind v ≡ Some b
    kind_clean (Leaf l) placed writable v b good h clean = leaf_clean order l l.shape refl writable v b h.0 good h.1 clean
    kind_clean (Enum l names) placed writable v b good h clean =
        enum_wire order l names (number_of order l.prim b) v h.1 ∙ bytes_of-number_of order l.prim b h.0 good
    kind_clean (Set p names) placed writable v b good h clean = set_back order p names v b writable.unsigned h.0 good h.1
    kind_clean (Const c) placed writable v b good h clean = ap (wire_bytes order (Const c)) h.1 ∙ ap Some (sym h.0)
    kind_clean (Comp' n members) placed writable v b good h clean =
        ap (wire_bytes order (Comp' n members)) h.1.1
        ∙ ap (λ l. row_bytes order 0 members (Some l)) (items_hidden-the_row-Value-0 h.1.0)
        ∙ row_clean 0 members placed writable h.1.0 b good (omega (arith, h.0)) h.1.2 clean
        ∙ ap Some (whole_between (row_end 0 members) b (sym h.0))

    row_clean : (e : ℕ) {n : _} (row : Row_of-Member n) → IsPlacedRow e row → IsWritableRow row
        → (vs : List Value) (b : List ℕ) → IsBytes b → row_end e row ≤ length b → MembersShow order true e row vs b
        → AreCleanMembers e row b → row_bytes order e row (Some vs) ≡ Some (between e (row_end e row) b)
    row_clean e end_of-Member placed writable [] b good within h clean = ap Some (sym (between_none e b))
    row_clean e end_of-Member placed writable (v ∷ vs) b good within h clean = absurd h
    row_clean e (more_of-Member name offset kind rest) placed writable [] b good within h clean = absurd h
    row_clean e (more_of-Member name offset kind rest) placed writable (v ∷ vs) b good within h clean =
        let next : ℕ = cond (is_const kind) e (begin_of e offset + width kind) in
        let zeros : List ℕ = replicate (cond (is_const kind) 0 (begin_of e offset - e)) 0 in
        let grows : next ≤ row_end next rest = row_grows rest next placed.2 in
        let later : e ≤ next = part_grows e offset kind (is_const kind) refl placed.0 in
        let here : wire_bytes order kind v ≡ Some (part_in e offset kind b) =
        kind_clean kind placed.1 writable.0 v (part_in e offset kind b) (IsBytes-take _ _ (IsBytes-drop _ b good)) h.0 clean.1 in
        let there = row_clean next rest placed.2 writable.1 vs b good within h.1 clean.2 in
        let part =
        part_is e offset kind (is_const kind) refl placed.0 b
        (part_within e (length b) offset kind (is_const kind) (omega (arith, grows, within))) clean.0 in
        ap (λ o. both (both (Some zeros) o) (row_bytes order next rest (Some vs))) here
        ∙ ap (λ o. both (Some (zeros ++ part_in e offset kind b)) o) there
        ∙ ap (λ z. Some (z ++ between next (row_end next rest) b)) part
        ∙ ap Some (between_append e next (row_end next rest) b later grows)
