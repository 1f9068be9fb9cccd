-- The two numbers of a dimension, and the zeros between them.
use Rattle.std.proofs.Common.{◌≡◌, ◌≤◌, ◌+◌, ◌-◌, ◌*◌, ◌==◌, inl, inr, ◌⊎◌, ℕ, Bool, true, false, List, [], ◌∷◌, ◌++◌, length, take, drop, replicate, Option, Some, None, refl, sym, ap, ◌∙◌, subst, arith, append_assoc, length-append}
use Rattle.std.specs.Prelude.{◌&&◌, ◌||◌, codes, pos, if◌then◌else◌}
use Rattle.std.specs.Str.{bytes_eq}
use Rattle.std.proofs.lemmas.Bool.{and_parts, eqb-true}
use Rattle.std.proofs.lemmas.Bool.Decides.{nat_tests}
use Rattle.std.proofs.lemmas.List.{append-nil, take-append-le, drop-append-le, take_at, drop_all, take-replicate, drop-replicate, length-replicate, replicate-append-replicate}
use Rattle.std.proofs.lemmas.Slice.Eq.{bytes_eq-Decides}
use Rattle.sbe_types.specs.declared.kind.Order.{Order}
use Rattle.sbe_types.specs.declared.kind.Kind.{Kind, Leaf, Enum, Set, Const, Comp, Comp'}
use Rattle.sbe_types.specs.declared.kind.Member.{Member}
use Rattle.sbe_types.specs.Numbers.{bytes_of, prim_width}
use Rattle.sbe_types.specs.Places.{begin_of, end_past, is_const, members_end}
use Rattle.sbe_types.specs.Wire.{both}
use Rattle.sbe_types.proofs.Inverse.{bytes_of-width}
use Rattle.sbe_wire.specs.Canonical.{named_bytes, number_bytes_in}
use Rattle.sbe_wire.specs.Named.{Spot, spot_named, spot_of}
use Rattle.sbe_wire.specs.Placed.{IsPlacedKind}
use Rattle.schema_rules.specs.Counters.{has_counter, is_counter, is_counter_primitive, leaf_in, is_dimension}
use Rattle.schema_facts.proofs.KindLists.{PlacedList, placed_members}
use Rattle.schema_facts.proofs.LevelEntries.{either}
use Rattle.field_bytes.specs.Laid.{laid_at}

-- ---- two pieces among zeros

abbrev zeros : ℕ → List ℕ
zeros n = replicate n 0

-- one piece at p, zeros up to q, and another
abbrev pub spread : ℕ → List ℕ → ℕ → List ℕ → List ℕ
spread p one q other = (zeros p ++ one) ++ ((zeros (q - (p + length one)) ++ other) ++ [])

shape : (p q n : ℕ) (one other : List ℕ) → (zeros p ++ one) ++ (zeros (q - n) ++ other) ≡ (zeros p ++ one) ++ ((zeros (q - n) ++ other) ++ [])
shape p q n one other = ap (λ x. (zeros p ++ one) ++ x) (sym (append-nil (zeros (q - n) ++ other)))

alone : (p n : ℕ) (one : List ℕ) → p ≤ n → laid_at p one (zeros n) ≡ zeros p ++ (one ++ zeros (n - (p + length one)))
alone p n one within = ap (λ x. x ++ (one ++ drop (p + length one) (zeros n))) (take-replicate p n 0 within) ∙ ap (λ x. zeros p ++ (one ++ x)) (drop-replicate (p + length one) n 0)

module _ (p q n : ℕ) (one other : List ℕ) (apart : p + length one ≤ q) (whole : q + length other ≡ n) where
  abbrev r : ℕ
  r = p + length one

  pub last_put : laid_at q other (laid_at p one (zeros n)) ≡ spread p one q other
  last_put =
      let split : zeros (n - r) ≡ zeros (q - r) ++ zeros (length other) =
      ap zeros (omega (arith, apart, whole)) ∙ sym (replicate-append-replicate (q - r) (length other) 0) in
      let front : List ℕ = (zeros p ++ one) ++ zeros (q - r) in
      let was : laid_at p one (zeros n) ≡ front ++ zeros (length other) =
      alone p n one (omega (arith, apart, whole)) ∙ ap (λ x. zeros p ++ (one ++ x)) split ∙ sym (append_assoc (zeros p) one (zeros (q - r) ++ zeros (length other)))
      ∙ sym (append_assoc (zeros p ++ one) (zeros (q - r)) (zeros (length other))) in
      let long : length front ≡ q =
      omega (arith, length-append (zeros p ++ one) (zeros (q - r)), length-append (zeros p) one, length-replicate {A = ℕ} p 0, length-replicate {A = ℕ} (q - r) 0, apart) in
      let all : length (front ++ zeros (length other)) ≡ n = omega (arith, length-append front (zeros (length other)), length-replicate {A = ℕ} (length other) 0, long, whole) in
      ap (laid_at q other) was
      ∙ ap (λ x. x ++ (other ++ drop (q + length other) (front ++ zeros (length other)))) (take_at front (zeros (length other)) q long)
      ∙ ap (λ x. front ++ (other ++ x)) (drop_all (q + length other) (front ++ zeros (length other)) (omega (arith, all, whole)))
      ∙ ap (λ x. front ++ x) (append-nil other)
      ∙ append_assoc (zeros p ++ one) (zeros (q - r)) other
      ∙ shape p q r one other

  pub first_put : laid_at p one (laid_at q other (zeros n)) ≡ spread p one q other
  first_put =
      let none : n - (q + length other) ≡ 0 = omega (arith, whole) in
      let was : laid_at q other (zeros n) ≡ zeros q ++ other =
      alone q n other (omega (arith, whole)) ∙ ap (λ k. zeros q ++ (other ++ zeros k)) none ∙ ap (λ x. zeros q ++ x) (append-nil other) in
      let long : length (zeros q) ≡ q = length-replicate q 0 in
      let before : take p (zeros q ++ other) ≡ zeros p = take-append-le p (zeros q) other (omega (arith, long, apart)) ∙ take-replicate p q 0 (omega (arith, apart)) in
      let next : drop r (zeros q ++ other) ≡ zeros (q - r) ++ other = drop-append-le r (zeros q) other (omega (arith, long, apart)) ∙ ap (λ x. x ++ other) (drop-replicate r q 0) in
      ap (laid_at p one) was
      ∙ ap (λ x. x ++ (one ++ drop r (zeros q ++ other))) before
      ∙ ap (λ x. zeros p ++ (one ++ x)) next
      ∙ sym (append_assoc (zeros p) one (zeros (q - r) ++ other))
      ∙ shape p q r one other

-- ---- the two members

-- two members of these names are the numbers at these spots, one after the other
pub record IsPair (one other : List ℕ) (first last : Spot) (dim : List Member) : Type 0 where
  pub a : Member
  pub b : Member
  pub is : dim ≡ a ∷ (b ∷ [])
  pub name_a : a.name ≡ one
  pub name_b : b.name ≡ other
  pub kind_a : a.kind ≡ Leaf first.leaf
  pub kind_b : b.kind ≡ Leaf last.leaf
  pub place_a : begin_of 0 a.offset ≡ first.place
  pub place_b : begin_of (end_past 0 a.offset a.kind) b.offset ≡ last.place
  pub single_a : first.leaf.length ≡ 1
  pub single_b : last.leaf.length ≡ 1

choose : (t : Bool) (x y : Option Spot) → t ≡ true → (if t then x else y) ≡ x
choose true x y h = refl
choose false x y h = cc

pass_over : (t : Bool) (x y : Option Spot) → t ≡ false → (if t then x else y) ≡ y
pass_over true x y h = cc
pass_over false x y h = refl

spot_is : (place : ℕ) (kind : Kind) (spot : Spot) → spot_of place kind ≡ Some spot → (kind ≡ Leaf spot.leaf) × (place ≡ spot.place)
spot_is place (Leaf l) spot h = (ap (λ s. Leaf s.leaf) (same h), ap (λ s. s.place) (same h))
  where
    same : {x y : Spot} → ◌≡◌ {A = Option Spot} (Some x) (Some y) → x ≡ y
    same k = cc
spot_is place (Enum l names) spot h = cc
spot_is place (Set p names) spot h = cc
spot_is place (Const c) spot h = cc
spot_is place (Comp' n members) spot h = cc

single : (kind : Kind) (spot : Spot) → kind ≡ Leaf spot.leaf → is_counter (leaf_in kind) ≡ true → spot.leaf.length ≡ 1
single kind spot is h =
    let both : (is_counter_primitive spot.leaf.prim && spot.leaf.length == 1) ≡ true = sym (ap (λ k. is_counter (leaf_in k)) is) ∙ h in
    eqb-true spot.leaf.length 1 (and_parts (is_counter_primitive spot.leaf.prim) (spot.leaf.length == 1) both).1

-- the test of has_counter
abbrev counts : List ℕ → Member → Bool
counts name m = bytes_eq name m.name && is_counter (leaf_in m.kind)

named : (name : List ℕ) (m : Member) → counts name m ≡ true → (m.name ≡ name) × (is_counter (leaf_in m.kind) ≡ true)
named name m h =
    let parts = and_parts (bytes_eq name m.name) (is_counter (leaf_in m.kind)) h in
    (sym ((bytes_eq-Decides name m.name).0 parts.0), parts.1)

-- two counters of two members stand in one order or the other
in_order : (one other : List ℕ) (a b : Member) → (one ≡ other → ⊥) → has_counter (a ∷ (b ∷ [])) one ≡ true → has_counter (a ∷ (b ∷ [])) other ≡ true →
    ((counts one a ≡ true) × (counts other b ≡ true)) ⊎ ((counts other a ≡ true) × (counts one b ≡ true))
in_order one other a b apart h k = elim (either (counts one a) (counts one b || false) h) [
  | inl x ↦ elim (either (counts other a) (counts other b || false) k) [
    | inl y ↦ absurd (apart (sym (named one a x).0 ∙ (named other a y).0))
    | inr y ↦ inl (x, only (counts other b) y)
  ]
  | inr x ↦ elim (either (counts other a) (counts other b || false) k) [
    | inl y ↦ inr (y, only (counts one b) x)
    | inr y ↦ absurd (apart (sym (named one b (only (counts one b) x)).0 ∙ (named other b (only (counts other b) y)).0))
  ]
]
  where
    only : (t : Bool) → (t || false) ≡ true → t ≡ true
    only true h = refl
    only false h = h

not_equal : (one other name : List ℕ) → (one ≡ other → ⊥) → name ≡ one → (t : Bool) → bytes_eq name other ≡ t → t ≡ false
not_equal one other name apart is true h = absurd (apart (sym is ∙ (bytes_eq-Decides name other).0 h))
not_equal one other name apart is false h = refl

pair_is : (one other : List ℕ) (a b : Member) (first last : Spot) → (one ≡ other → ⊥) → counts one a ≡ true → counts other b ≡ true →
    spot_named 0 one (a ∷ (b ∷ [])) ≡ Some first → spot_named 0 other (a ∷ (b ∷ [])) ≡ Some last → IsPair one other first last (a ∷ (b ∷ []))
pair_is one other a b first last apart x y h k =
    let left = named one a x in
    let right = named other b y in
    let end = end_past 0 a.offset a.kind in
    let begin = begin_of end b.offset in
    let later : Option Spot = if bytes_eq b.name one then spot_of begin b.kind else None in
    let last_later : Option Spot = if bytes_eq b.name other then spot_of begin b.kind else None in
    let found_a = spot_is (begin_of 0 a.offset) a.kind first (sym (choose (bytes_eq a.name one) (spot_of (begin_of 0 a.offset) a.kind) later ((bytes_eq-Decides a.name one).1 left.0)) ∙ h) in
    let found_b = spot_is begin b.kind last (sym (choose (bytes_eq b.name other) (spot_of begin b.kind) None ((bytes_eq-Decides b.name other).1 right.0))
    ∙ sym (pass_over (bytes_eq a.name other) (spot_of (begin_of 0 a.offset) a.kind) last_later (not_equal one other a.name apart left.0 (bytes_eq a.name other) refl)) ∙ k) in
    record {
      a = a;
      b = b;
      is = refl;
      name_a = left.0;
      name_b = right.0;
      kind_a = found_a.0;
      kind_b = found_b.0;
      place_a = found_a.1;
      place_b = found_b.1;
      single_a = single a.kind first found_a.0 left.1;
      single_b = single b.kind last found_b.0 right.1;
    }

-- a dimension is one pair or the other
pub pair_of : (dim : List Member) (block count : Spot) → is_dimension dim ≡ true → spot_named 0 (codes "blockLength") dim ≡ Some block → spot_named 0 (codes "numInGroup") dim ≡ Some count →
    IsPair (codes "blockLength") (codes "numInGroup") block count dim ⊎ IsPair (codes "numInGroup") (codes "blockLength") count block dim
pair_of [] block count h x y = cc
pair_of (a ∷ []) block count h x y = cc
pair_of (a ∷ (b ∷ [])) block count h x y =
    let two = and_parts (has_counter (a ∷ (b ∷ [])) (codes "blockLength")) (has_counter (a ∷ (b ∷ [])) (codes "numInGroup")) h in
    elim (in_order (codes "blockLength") (codes "numInGroup") a b (λ e. cc) two.0 two.1) [
      | inl z ↦ inl (pair_is (codes "blockLength") (codes "numInGroup") a b block count (λ e. cc) z.0 z.1 x y)
      | inr z ↦ inr (pair_is (codes "numInGroup") (codes "blockLength") a b count block (λ e. cc) z.0 z.1 y x)
    ]
pair_of (a ∷ (b ∷ (c ∷ ms))) block count h x y =
    let test : (length (a ∷ (b ∷ (c ∷ ms))) == 2) ≡ true = (and_parts _ _ h).0 in
    let two : length (a ∷ (b ∷ (c ∷ ms))) ≡ 2 = grind (arith, nat_tests) in
    absurd (omega (arith, two))

-- ---- their bytes

module _ (order : Order) (numbers : List ℕ → ℕ) (one other : List ℕ) (first last : Spot) (dim : List Member) (pair : IsPair one other first last dim) where
  abbrev w : ℕ
  w = prim_width first.leaf.prim

  end_is : end_past 0 pair.a.offset pair.a.kind ≡ first.place + w
  end_is =
      ap (end_past 0 pair.a.offset) pair.kind_a
      ∙ ap (λ p. p + w * first.leaf.length) pair.place_a
      ∙ ap (λ k. first.place + w * k) pair.single_a
      ∙ omega arith

  pub whole_is : members_end 0 dim ≡ last.place + prim_width last.leaf.prim
  whole_is =
      ap (members_end 0) pair.is
      ∙ ap (end_past (end_past 0 pair.a.offset pair.a.kind) pair.b.offset) pair.kind_b
      ∙ ap (λ p. p + prim_width last.leaf.prim * last.leaf.length) pair.place_b
      ∙ ap (λ k. last.place + prim_width last.leaf.prim * k) pair.single_b
      ∙ omega arith

  pieces : (x y : List ℕ) → bytes_of order first.leaf.prim (pos (numbers one)) ≡ Some x → bytes_of order last.leaf.prim (pos (numbers other)) ≡ Some y →
      named_bytes order numbers 0 dim ≡ Some ((zeros first.place ++ x) ++ ((zeros (last.place - (first.place + w)) ++ y) ++ []))
  pieces x y h k =
      let e = end_past 0 pair.a.offset pair.a.kind in
      let begin = begin_of e pair.b.offset in
      let here : number_bytes_in order pair.a.kind (numbers pair.a.name) ≡ Some x = ap (λ kind. number_bytes_in order kind (numbers pair.a.name)) pair.kind_a ∙ ap (λ name. bytes_of order first.leaf.prim (pos (numbers name))) pair.name_a ∙ h in
      let there : number_bytes_in order pair.b.kind (numbers pair.b.name) ≡ Some y = ap (λ kind. number_bytes_in order kind (numbers pair.b.name)) pair.kind_b ∙ ap (λ name. bytes_of order last.leaf.prim (pos (numbers name))) pair.name_b ∙ k in
      let gap : begin - e ≡ last.place - (first.place + w) = omega (arith, pair.place_b, end_is) in
      let start : begin_of 0 pair.a.offset - 0 ≡ first.place = omega (arith, pair.place_a) in
      ap (named_bytes order numbers 0) pair.is
      ∙ ap (λ o. both (both (Some (zeros (begin_of 0 pair.a.offset - 0))) o) (both (both (Some (zeros (begin - e))) (number_bytes_in order pair.b.kind (numbers pair.b.name))) (Some []))) here
      ∙ ap (λ o. both (Some (zeros (begin_of 0 pair.a.offset - 0) ++ x)) (both (both (Some (zeros (begin - e))) o) (Some []))) there
      ∙ ap (λ m. Some ((zeros m ++ x) ++ ((zeros (begin - e) ++ y) ++ []))) start
      ∙ ap (λ m. Some ((zeros first.place ++ x) ++ ((zeros m ++ y) ++ []))) gap

  -- the two pieces, with zeros between them
  pub pair_bytes : (x y : List ℕ) → bytes_of order first.leaf.prim (pos (numbers one)) ≡ Some x → bytes_of order last.leaf.prim (pos (numbers other)) ≡ Some y →
      named_bytes order numbers 0 dim ≡ Some (spread first.place x last.place y)
  pair_bytes x y h k =
      pieces x y h k ∙ ap (λ n. Some ((zeros first.place ++ x) ++ ((zeros (last.place - (first.place + n)) ++ y) ++ []))) (sym (bytes_of-width order first.leaf.prim (pos (numbers one)) x h).0)

  -- the first ends where the last begins, or before
  pub apart_is : IsPlacedKind (Comp dim) → first.place + w ≤ last.place
  apart_is placed =
      let rows = subst (PlacedList 0) pair.is (placed_members dim placed) in
      let after : end_past 0 pair.a.offset pair.a.kind ≤ begin_of (end_past 0 pair.a.offset pair.a.kind) pair.b.offset = rows.2.0 (ap is_const pair.kind_b) in
      omega (arith, end_is, pair.place_b, after)
