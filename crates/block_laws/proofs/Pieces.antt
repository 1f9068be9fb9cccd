-- A block as pieces: where the piece of a field stands, and another in its place.
use Rattle.std.proofs.Common.{◌≡◌, ℕ, zero, suc, ◌+◌, ◌-◌, ◌≤◌, ◌<◌, Bool, true, false, cond, List, [], ◌∷◌, ◌++◌, length, take, drop, replicate, slice_set, Option, Some, None, refl, sym, ap, ◌∙◌, arith, append_assoc, length-append}
use Rattle.std.specs.Prelude.{slice_get}
use Rattle.std.proofs.lemmas.List.{length-replicate}
use Rattle.std.proofs.Math.Seq.{take-append_seam, drop-append_seam, drop-append-add}
use Rattle.sbe_types.specs.declared.kind.Order.{Order}
use Rattle.sbe_types.specs.declared.kind.Kind.{Kind, Leaf, Enum, Set, Const, Comp'}
use Rattle.sbe_types.specs.declared.schema.Field.{Field}
use Rattle.sbe_types.specs.declared.message.Value.{Value}
use Rattle.sbe_types.specs.Places.{is_const, begin_of, end_past, fields_end, field_place, width}
use Rattle.sbe_types.specs.Wire.{both, wire_bytes}
use Rattle.sbe_wire.specs.Placed.{BeginsBehind}
use Rattle.sbe_wire.specs.Canonical.{fields_bytes}
use Rattle.typed_writer.specs.Held.{spliced}
use Rattle.block_laws.specs.Pieces.{gap, laid, AreWide, piece_and_others, wires, Ascend}

none_some : {A : Type 0} {x : A} → ◌≡◌ {A = Option A} None (Some x) → ⊥
none_some h = cc

some_is : {A : Type 0} {x y : A} → ◌≡◌ {A = Option A} (Some x) (Some y) → x ≡ y
some_is h = cc

-- ---- a piece over another

pub over : (front old back w : List ℕ) → length old ≡ length w → spliced (front ++ (old ++ back)) (length front) w ≡ front ++ (w ++ back)
over front old back w same =
    let first : take (length front) (front ++ (old ++ back)) ≡ front = take-append_seam front (old ++ back) in
    let last : drop (length front + length w) (front ++ (old ++ back)) ≡ back =
    drop-append-add front (old ++ back) (length w) ∙ ap (λ n. drop n (old ++ back)) (sym same) ∙ drop-append_seam old back in
    ap (λ z. z ++ w ++ drop (length front + length w) (front ++ (old ++ back))) first ∙ ap (λ z. front ++ w ++ z) last ∙ append_assoc front w back

-- ---- where a field's piece stands

past_by : (b : Bool) (e at n w : ℕ) → (b ≡ false → e ≤ at) → (b ≡ true → w ≡ 0) → n ≡ w → e + (cond b 0 (at - e) + n) ≡ cond b e (at + w)
past_by true e at n w up none same = let zero_wide = none refl in omega (arith, same, zero_wide)
past_by false e at n w up none same = let low = up refl in omega (arith, same, low)

pub no_bytes : (kind : Kind) → is_const kind ≡ true → width kind ≡ 0
no_bytes (Leaf l) h = cc
no_bytes (Enum l names) h = cc
no_bytes (Set p names) h = cc
no_bytes (Const c) h = refl
no_bytes (Comp' n members) h = cc

past_of : (e : ℕ) (f : Field) (n : ℕ) → BeginsBehind e f.offset f.kind → n ≡ width f.kind → e + (gap e f + n) ≡ end_past e f.offset f.kind
past_of e f n up same = past_by (is_const f.kind) e (begin_of e f.offset) n (width f.kind) up (no_bytes f.kind) same

begins_by : (b : Bool) (e n at : ℕ) → (b ≡ false → e ≤ n) → cond b None (Some n) ≡ Some at → e + cond b 0 (n - e) ≡ at
begins_by true e n at up h = absurd (none_some h)
begins_by false e n at up h = let low = up refl in let same : n ≡ at = some_is h in omega (arith, low, same)

-- the pieces are as long as their fields
pub laid_long : (e : ℕ) (fs : List Field) (ps : List (List ℕ)) → Ascend e fs → AreWide fs ps → e + length (laid e fs ps) ≡ fields_end e fs
laid_long e [] [] up wide = omega arith
laid_long e [] (p ∷ ps) up wide = absurd wide
laid_long e (f ∷ fs) [] up wide = absurd wide
laid_long e (f ∷ fs) (p ∷ ps) up wide =
    let rest = laid_long (end_past e f.offset f.kind) fs ps up.1 wide.1 in
    let past = past_of e f (length p) up.0 wide.0 in
    let two = length-append p (laid (end_past e f.offset f.kind) fs ps) in
    let gap_bytes : List ℕ = replicate (gap e f) 0 in
    let one = length-append gap_bytes (p ++ laid (end_past e f.offset f.kind) fs ps) in
    let zeros : length gap_bytes ≡ gap e f = length-replicate (gap e f) 0 in
    omega (arith, rest, past, one, two, zeros)

-- the piece of field i stands at a place, and another there leaves all else
pub record StandsAt (e : ℕ) (fs : List Field) (ps : List (List ℕ)) (i at : ℕ) : Type 0 where
  pub front : List ℕ
  pub piece : List ℕ
  pub back : List ℕ
  pub place : e + length front ≡ at
  pub whole : laid e fs ps ≡ front ++ (piece ++ back)
  pub wide : (f : Field) → slice_get fs i ≡ Some f → length piece ≡ width f.kind
  pub other : (w : List ℕ) → laid e fs (slice_set ps i w) ≡ front ++ (w ++ back)

joins : (a b c d : List ℕ) → a ++ (b ++ (c ++ d)) ≡ (a ++ b) ++ (c ++ d)
joins a b c d = sym (append_assoc a b (c ++ d))

pub stands_at : (e : ℕ) (fs : List Field) (ps : List (List ℕ)) (i at : ℕ) → Ascend e fs → AreWide fs ps → field_place e fs i ≡ Some at → StandsAt e fs ps i at
stands_at e [] ps i at up wide h = absurd (none_some h)
stands_at e (f ∷ fs) [] i at up wide h = absurd wide
stands_at e (f ∷ fs) (p ∷ ps) zero at up wide h = record {
  front = replicate (gap e f) 0;
  piece = p;
  back = laid (end_past e f.offset f.kind) fs ps;
  place = ap (λ n. e + n) (length-replicate (gap e f) 0) ∙ begins_by (is_const f.kind) e (begin_of e f.offset) at up.0 h;
  whole = refl;
  wide = λ g same. wide.0 ∙ ap (λ (x : Field). width x.kind) (some_is same);
  other = λ w. refl;
}
stands_at e (f ∷ fs) (p ∷ ps) (suc i) at up wide h =
    let r = stands_at (end_past e f.offset f.kind) fs ps i at up.1 wide.1 h in
    let zeros : List ℕ = replicate (gap e f) 0 in
    let here : List ℕ = zeros ++ p in
    let moves : (q : List ℕ) → zeros ++ (p ++ (r.front ++ (q ++ r.back))) ≡ (here ++ r.front) ++ (q ++ r.back) = λ q.
    sym (append_assoc zeros p (r.front ++ (q ++ r.back))) ∙ joins here r.front q r.back in
    let long : length here ≡ gap e f + length p = length-append zeros p ∙ ap (λ n. n + length p) (length-replicate (gap e f) 0) in
    let moved = past_of e f (length p) up.0 wide.0 in
    let total = length-append here r.front in
    let placed = r.place in
    record {
      front = here ++ r.front;
      piece = r.piece;
      back = r.back;
      place = omega (arith, total, long, moved, placed);
      whole = ap (λ z. zeros ++ (p ++ z)) r.whole ∙ moves r.piece;
      wide = r.wide;
      other = λ w. ap (λ z. zeros ++ (p ++ z)) (r.other w) ∙ moves w;
    }

-- a piece that is set keeps all other pieces, and what stands around them
pub set_keeps : (front back : List ℕ) (fs : List Field) (ps : List (List ℕ)) (i at : ℕ) (f : Field) (w : List ℕ) → Ascend 0 fs → AreWide fs ps → field_place 0 fs i ≡ Some at → slice_get fs i ≡ Some f →
    length w ≡ width f.kind → spliced (front ++ (laid 0 fs ps ++ back)) (length front + at) w ≡ front ++ (laid 0 fs (slice_set ps i w) ++ back)
set_keeps front back fs ps i at f w up wide h is same =
    let s = stands_at 0 fs ps i at up wide h in
    let shape : (q : List ℕ) → front ++ ((s.front ++ (q ++ s.back)) ++ back) ≡ (front ++ s.front) ++ (q ++ (s.back ++ back)) = λ q.
    ap (λ z. front ++ z) (append_assoc s.front (q ++ s.back) back ∙ ap (λ z. s.front ++ z) (append_assoc q s.back back)) ∙ joins front s.front q (s.back ++ back) in
    let long = length-append front s.front in
    let stands = s.place in
    let place : length front + at ≡ length (front ++ s.front) = omega (arith, long, stands) in
    ap (λ z. spliced (front ++ (z ++ back)) (length front + at) w) s.whole
    ∙ ap (λ z. spliced z (length front + at) w) (shape s.piece)
    ∙ ap (λ n. spliced ((front ++ s.front) ++ (s.piece ++ (s.back ++ back))) n w) place
    ∙ over (front ++ s.front) s.piece (s.back ++ back) w (s.wide f is ∙ sym same)
    ∙ sym (ap (λ z. front ++ (z ++ back)) (s.other w) ∙ shape w)

pub wide_set : (fs : List Field) (ps : List (List ℕ)) (i : ℕ) (f : Field) (w : List ℕ) → AreWide fs ps → slice_get fs i ≡ Some f → length w ≡ width f.kind → AreWide fs (slice_set ps i w)
wide_set [] [] i f w wide is same = tt
wide_set [] (p ∷ ps) i f w wide is same = absurd wide
wide_set (g ∷ fs) [] i f w wide is same = absurd wide
wide_set (g ∷ fs) (p ∷ ps) zero f w wide is same = (same ∙ ap (λ (x : Field). width x.kind) (sym (some_is is)), wide.1)
wide_set (g ∷ fs) (p ∷ ps) (suc i) f w wide is same = (wide.0, wide_set fs ps i f w wide.1 is same)

-- ---- the pieces of values

laid_step : (g : List ℕ) (w : Option (List ℕ)) (ws : Option (List (List ℕ))) (b : Option (List ℕ)) (lay : List (List ℕ) → List ℕ) →
    ((qs : List (List ℕ)) → ws ≡ Some qs → b ≡ Some (lay qs)) → (ps : List (List ℕ)) → piece_and_others w ws ≡ Some ps →
    (p : List ℕ) × (qs : List (List ℕ)) × (ps ≡ p ∷ qs) × (both (both (Some g) w) b ≡ Some (g ++ (p ++ lay qs)))
laid_step g None ws b lay go ps h = absurd (none_some h)
laid_step g (Some p) None b lay go ps h = absurd (none_some h)
laid_step g (Some p) (Some qs) b lay go ps h = (p, qs, sym (some_is h), ap (λ z. both (Some (g ++ p)) z) (go qs refl) ∙ ap Some (append_assoc g p (lay qs)))

-- pieces that are the bytes of the values are the bytes of the fields
pub laid_is : (order : Order) (e : ℕ) (fs : List Field) (vs : List Value) (ps : List (List ℕ)) → wires order fs vs ≡ Some ps → fields_bytes order e fs vs ≡ Some (laid e fs ps)
laid_is order e [] [] ps h = refl
laid_is order e [] (v ∷ vs) ps h = absurd (none_some h)
laid_is order e (f ∷ fs) [] ps h = absurd (none_some h)
laid_is order e (f ∷ fs) (v ∷ vs) ps h =
    let next = end_past e f.offset f.kind in
    let r = laid_step (replicate (gap e f) 0) (wire_bytes order f.kind v) (wires order fs vs) (fields_bytes order next fs vs) (laid next fs) (λ qs k. laid_is order next fs vs qs k) ps h in
    r.3 ∙ ap (λ z. Some (laid e (f ∷ fs) z)) (sym r.2)

grown : (p : Option (List ℕ)) (a b : Option (List (List ℕ))) (w : List ℕ) (ws : List (List ℕ)) → ((qs : List (List ℕ)) → a ≡ Some qs → b ≡ Some (qs ++ w ∷ [])) →
    piece_and_others p a ≡ Some ws → piece_and_others p b ≡ Some (ws ++ w ∷ [])
grown None a b w ws go k = absurd (none_some k)
grown (Some p) None b w ws go k = absurd (none_some k)
grown (Some p) (Some qs) b w ws go k = ap (piece_and_others (Some p)) (go qs refl) ∙ ap (λ (z : List (List ℕ)). Some (z ++ w ∷ [])) (some_is k)

-- one value more
pub wires_more : (order : Order) (fs : List Field) (vs : List Value) (i : ℕ) (f : Field) (v : Value) (w : List ℕ) (ws : List (List ℕ)) → slice_get fs i ≡ Some f → slice_get vs i ≡ Some v →
    wire_bytes order f.kind v ≡ Some w → wires order (take i fs) (take i vs) ≡ Some ws → wires order (take (suc i) fs) (take (suc i) vs) ≡ Some (ws ++ w ∷ [])
wires_more order [] vs i f v w ws fi vi wi h = absurd (none_some fi)
wires_more order (g ∷ fs) [] i f v w ws fi vi wi h = absurd (none_some vi)
wires_more order (g ∷ fs) (u ∷ vs) zero f v w ws fi vi wi h =
    let here : wire_bytes order g.kind u ≡ Some w =
    ap (λ (x : Field). wire_bytes order x.kind u) (some_is fi) ∙ ap (λ (x : Value). wire_bytes order f.kind x) (some_is vi) ∙ wi in
    ap (λ z. piece_and_others z (Some [])) here ∙ ap (λ (z : List (List ℕ)). Some (z ++ w ∷ [])) (some_is h)
wires_more order (g ∷ fs) (u ∷ vs) (suc i) f v w ws fi vi wi h =
    grown (wire_bytes order g.kind u) (wires order (take i fs) (take i vs)) (wires order (take (suc i) fs) (take (suc i) vs)) w ws
    (λ qs k. wires_more order fs vs i f v w qs fi vi wi k) h

pub below : (fs : List Field) (ps : List (List ℕ)) (i : ℕ) (f : Field) → AreWide fs ps → slice_get fs i ≡ Some f → i < length ps
below [] ps i f wide h = absurd (none_some h)
below (g ∷ fs) [] i f wide h = absurd wide
below (g ∷ fs) (p ∷ ps) zero f wide h = omega arith
below (g ∷ fs) (p ∷ ps) (suc i) f wide h = let k = below fs ps i f wide.1 h in omega (arith, k)

pub many : (fs : List Field) (ps : List (List ℕ)) → AreWide fs ps → length ps ≡ length fs
many [] [] wide = refl
many [] (p ∷ ps) wide = absurd wide
many (f ∷ fs) [] wide = absurd wide
many (f ∷ fs) (p ∷ ps) wide = ap suc (many fs ps wide.1)
