-- Zeros between the values of a block are zeros between its parts.
use Rattle.std.proofs.Common.{◌≡◌, ◌≤◌, ◌+◌, ◌-◌, ℕ, zero, suc, Bool, true, false, cond, List, [], ◌∷◌, ◌++◌, take, drop, refl, sym, ap, ◌∙◌, subst, arith, append_assoc}
use Rattle.std.specs.List.{AllByRecursion}
use Rattle.std.proofs.lemmas.List.{take-take, drop-drop, drop-take}
use Rattle.sbe_types.specs.declared.kind.Kind.{Kind, Leaf, Enum, Set, Const, Comp', Row_of-Member, end_of-Member, more_of-Member}
use Rattle.sbe_types.specs.declared.schema.Field.{Field}
use Rattle.sbe_types.specs.Places.{width, row_end, is_const, begin_of, end_past, fields_end}
use Rattle.sbe_wire.specs.Placed.{BeginsBehind, IsPlacedKind, IsPlacedRow, ArePlaced}
use Rattle.sbe_wire.proofs.Values.{row_grows}
use Rattle.flat_rows.specs.Scalars.{Scalar, kind_scalars, member_scalars, field_scalars, scalars_of}
use Rattle.flat_rows.proofs.Inside.{kind_inside}
use Rattle.clean_bodies.specs.Clean.{AreZeros, between, HasCleanGap, IsCleanKind, AreCleanMembers, AreCleanFields, IsCleanBlock}
use Rattle.clean_walk.specs.inner.Values.{AreCleanValues}

-- ---- zeros

tail_zeros : (x : ℕ) (xs : List ℕ) → AreZeros (x ∷ xs) → AreZeros xs
tail_zeros x xs h = cc

zeros_take : (n : ℕ) (xs : List ℕ) → AreZeros xs → AreZeros (take n xs)
zeros_take zero xs h = refl
zeros_take (suc n) [] h = refl
zeros_take (suc n) (x ∷ xs) h =
    let first : x ≡ 0 = cc in
    ap (λ y. y ∷ take n xs) first ∙ ap (λ ys. 0 ∷ ys) (zeros_take n xs (tail_zeros x xs h))

zeros_drop : (n : ℕ) (xs : List ℕ) → AreZeros xs → AreZeros (drop n xs)
zeros_drop zero xs h = h
zeros_drop (suc n) [] h = h
zeros_drop (suc n) (x ∷ xs) h = zeros_drop n xs (tail_zeros x xs h)

-- ---- where values begin

-- the values begin at e or after
abbrev From : ℕ → List Scalar → Type 0
From e ss = AllByRecursion (λ (s : Scalar). e ≤ s.place) ss

from_less : (d e : ℕ) (ss : List Scalar) → d ≤ e → From e ss → From d ss
from_less d e [] h all = tt
from_less d e (s ∷ ss) h all = (omega (arith, h, all.0), from_less d e ss h all.1)

both_from : (e : ℕ) (ss ts : List Scalar) → From e ss → From e ts → From e (ss ++ ts)
both_from e [] ts h k = k
both_from e (s ∷ ss) ts h k = (h.0, both_from e ss ts h.1 k)

past_grows : (e : ℕ) (offset : _) (kind : Kind) (t : Bool) → is_const kind ≡ t → BeginsBehind e offset kind → e ≤ cond t e (begin_of e offset + width kind)
past_grows e offset kind true c h = omega arith
past_grows e offset kind false c h = let begins : e ≤ begin_of e offset = h c in omega arith

mutual
  kind_from : (kind : Kind) (e at : ℕ) → (is_const kind ≡ false → e ≤ at) → IsPlacedKind kind → From e (kind_scalars kind at)
  kind_from (Leaf l) e at h placed = (h refl, tt)
  kind_from (Enum l names) e at h placed = (h refl, tt)
  kind_from (Set p names) e at h placed = (h refl, tt)
  kind_from (Const c) e at h placed = tt
  kind_from (Comp' n members) e at h placed = let begins : e ≤ at = h refl in from_less e (at + 0) (member_scalars at 0 members) (omega (arith, begins)) (row_from members at 0 placed)

  row_from : {n : _} (row : Row_of-Member n) (at e : ℕ) → IsPlacedRow e row → From (at + e) (member_scalars at e row)
  row_from end_of-Member at e placed = tt
  row_from (more_of-Member name offset kind rest) at e placed =
      let p = begin_of e offset in
      let next = cond (is_const kind) e (p + width kind) in
      let grows : e ≤ next = past_grows e offset kind (is_const kind) refl placed.0 in
      both_from (at + e) (kind_scalars kind (at + p)) (member_scalars at next rest)
      (kind_from kind (at + e) (at + p) (λ c. let begins : e ≤ p = placed.0 c in omega (arith, begins)) placed.1)
      (from_less (at + e) (at + next) (member_scalars at next rest) (omega (arith, grows)) (row_from rest at next placed.2))

fields_from : (e : ℕ) (fs : List Field) → ArePlaced e fs → From e (field_scalars e fs)
fields_from e [] placed = tt
fields_from e (f ∷ fs) placed =
    let p = begin_of e f.offset in
    let next = end_past e f.offset f.kind in
    let grows : e ≤ next = past_grows e f.offset f.kind (is_const f.kind) refl placed.0 in
    both_from e (kind_scalars f.kind p) (field_scalars next fs) (kind_from f.kind e p placed.0 placed.1) (from_less e next (field_scalars next fs) grows (fields_from next fs placed.2))

-- ---- one part, and those after it

sum_by : (t : Bool) (at e p w : ℕ) → cond t (at + e) (at + p + w) ≡ at + cond t e (p + w)
sum_by true at e p w = refl
sum_by false at e p w = omega arith

module _ (b : List ℕ) where
  moved : (d e : ℕ) → d ≤ e → drop e b ≡ drop (e - d) (drop d b)
  moved d e h = let place : e ≡ d + (e - d) = omega (arith, h) in ap (λ n. drop n b) place ∙ sym (drop-drop (e - d) d b)

  -- zeros up to a place, and from there on
  gap_front : (d e place : ℕ) → d ≤ e → e ≤ place → AreZeros (between d place b) → AreZeros (between d e b)
  gap_front d e place h k zeros = subst AreZeros (take-take (e - d) (place - d) (drop d b) (omega (arith, h, k))) (zeros_take (e - d) (between d place b) zeros)

  gap_back : (d e place : ℕ) → d ≤ e → e ≤ place → AreZeros (between d place b) → AreZeros (between e place b)
  gap_back d e place h k zeros =
      let total : place - d ≡ (e - d) + (place - e) = omega (arith, h, k) in
      let is : drop (e - d) (between d place b) ≡ between e place b =
      ap (λ n. drop (e - d) (take n (drop d b))) total ∙ drop-take (e - d) (place - e) (drop d b) ∙ ap (take (place - e)) (sym (moved d e h)) in
      subst AreZeros is (zeros_drop (e - d) (between d place b) zeros)

  advance : (d e : ℕ) (ss : List Scalar) → d ≤ e → From e ss → AreCleanValues d ss b → AreZeros (between d e b) × AreCleanValues e ss b
  advance d e [] h from clean = (zeros_take (e - d) (drop d b) clean, subst AreZeros (sym (moved d e h)) (zeros_drop (e - d) (drop d b) clean))
  advance d e (s ∷ ss) h from clean = (gap_front d e s.place h from.0 clean.1, (from.0, gap_back d e s.place h from.0 clean.1, clean.2, clean.3))

  -- a gap between members, in the bytes of their composite
  gap_inside : (at e p w : ℕ) → e ≤ p → p ≤ w → between e p (take w (drop at b)) ≡ between (at + e) (at + p) b
  gap_inside at e p w h k =
      let whole : w ≡ e + (w - e) = omega (arith, h, k) in
      let many : (at + p) - (at + e) ≡ p - e = omega arith in
      ap (λ n. take (p - e) (drop e (take n (drop at b)))) whole
      ∙ ap (take (p - e)) (drop-take e (w - e) (drop at b))
      ∙ take-take (p - e) (w - e) (drop e (drop at b)) (omega (arith, h, k))
      ∙ ap (take (p - e)) (drop-drop e at b)
      ∙ ap (λ n. take n (drop (at + e) b)) (sym many)

  mutual
    -- the part of a kind at q after parts that end at d
    part_clean : (kind : Kind) (d q : ℕ) (rest : List Scalar) → (is_const kind ≡ false → d ≤ q) → IsPlacedKind kind → From (cond (is_const kind) d (q + width kind)) rest →
        AreCleanValues d (kind_scalars kind q ++ rest) b →
        (is_const kind ≡ false → AreZeros (between d q b)) × IsCleanKind kind (take (width kind) (drop q b)) × AreCleanValues (cond (is_const kind) d (q + width kind)) rest b
    part_clean (Leaf l) d q rest h placed from clean = (λ c. clean.1, clean.2, clean.3)
    part_clean (Enum l names) d q rest h placed from clean = (λ c. clean.1, tt, clean.3)
    part_clean (Set p names) d q rest h placed from clean = (λ c. clean.1, tt, clean.3)
    part_clean (Const k) d q rest h placed from clean = (λ c. absurd (cc c), tt, clean)
    part_clean (Comp' n members) d q rest h placed from clean =
        let w = row_end 0 members in
        let start : From (q + 0) (member_scalars q 0 members) = row_from members q 0 placed in
        let all : From q (member_scalars q 0 members ++ rest) =
        both_from q (member_scalars q 0 members) rest (from_less q (q + 0) (member_scalars q 0 members) (omega arith) start) (from_less q (q + w) rest (omega arith) from) in
        let here = advance d q (member_scalars q 0 members ++ rest) (h refl) all clean in
        let none : q ≡ q + 0 = omega arith in
        let inner = members_clean members q 0 w rest placed (omega arith) from (subst (λ n. AreCleanValues n (member_scalars q 0 members ++ rest) b) none here.1) in
        (λ c. here.0, inner.0, inner.1)

    -- the members of a composite of w bytes
    members_clean : {n : _} (row : Row_of-Member n) (at e w : ℕ) (rest : List Scalar) → IsPlacedRow e row → row_end e row ≤ w → From (at + row_end e row) rest →
        AreCleanValues (at + e) (member_scalars at e row ++ rest) b → AreCleanMembers e row (take w (drop at b)) × AreCleanValues (at + row_end e row) rest b
    members_clean end_of-Member at e w rest placed ends from clean = (tt, clean)
    members_clean (more_of-Member name offset kind row) at e w rest placed ends from clean =
        let p = begin_of e offset in
        let next = cond (is_const kind) e (p + width kind) in
        let tail = member_scalars at next row in
        let grows : next ≤ row_end next row = row_grows row next placed.2 in
        let sum : cond (is_const kind) (at + e) (at + p + width kind) ≡ at + next = sum_by (is_const kind) at e p (width kind) in
        let within : is_const kind ≡ false → p + width kind ≤ w = λ c. subst (λ (t : Bool). cond t e (p + width kind) ≤ w) c (omega (arith, grows, ends)) in
        let after : From (at + next) (tail ++ rest) = both_from (at + next) tail rest (row_from row at next placed.2) (from_less (at + next) (at + row_end next row) rest (omega (arith, grows)) from) in
        let one = part_clean kind (at + e) (at + p) (tail ++ rest) (λ c. let begins : e ≤ p = placed.0 c in omega (arith, begins)) placed.1
        (subst (λ n. From n (tail ++ rest)) (sym sum) after) (subst (λ l. AreCleanValues (at + e) l b) (append_assoc (kind_scalars kind (at + p)) tail rest) clean) in
        let more = members_clean row at next w rest placed.2 ends from (subst (λ n. AreCleanValues n (tail ++ rest) b) sum one.2) in
        let gap : HasCleanGap e offset kind (take w (drop at b)) =
        λ c. let begins : e ≤ p = placed.0 c in let ended = within c in subst AreZeros (sym (gap_inside at e p w begins (omega (arith, ended)))) (one.0 c) in
        ((gap, subst (IsCleanKind kind) (sym (kind_inside at p w kind b within)) one.1, more.0), more.1)

  fields_clean : (e : ℕ) (fs : List Field) → ArePlaced e fs → AreCleanValues e (field_scalars e fs) b → AreCleanFields e fs b × AreZeros (drop (fields_end e fs) b)
  fields_clean e [] placed clean = (tt, clean)
  fields_clean e (f ∷ fs) placed clean =
      let next = end_past e f.offset f.kind in
      let one = part_clean f.kind e (begin_of e f.offset) (field_scalars next fs) placed.0 placed.1 (fields_from next fs placed.2) clean in
      let more = fields_clean next fs placed.2 one.2 in
      ((one.0, one.1, more.0), more.1)

  -- a block is clean where its values are
  pub block_clean : (fs : List Field) → ArePlaced 0 fs → AreCleanValues 0 (scalars_of fs) b → IsCleanBlock fs b
  block_clean fs placed clean = let all = fields_clean 0 fs placed clean in record { fields_clean = all.0; rest_clean = all.1 }
