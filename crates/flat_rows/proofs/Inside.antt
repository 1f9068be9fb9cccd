-- The bytes of a part inside the bytes of a whole, and how far parts reach.
use Rattle.std.proofs.Common.{◌≡◌, ◌≤◌, ◌+◌, ◌-◌, ℕ, Bool, true, false, cond, List, [], ◌∷◌, take, drop, refl, sym, ap, ◌∙◌, arith}
use Rattle.std.proofs.lemmas.List.{take-take, drop-drop, drop-take}
use Rattle.std.specs.Prelude.{not, ◌&&◌, Option}
use Rattle.sbe_types.specs.declared.kind.Kind.{Kind}
use Rattle.sbe_types.specs.declared.schema.Field.{Field}
use Rattle.sbe_types.specs.Places.{width, is_const, begin_of, end_past, fields_end}
use Rattle.sbe_wire.specs.Placed.{BeginsBehind, ArePlaced}
use Rattle.sbe_wire.specs.Versions.{is_alive, floor_from}
use Rattle.sbe_wire.proofs.Values.{const_width}
use Rattle.flat_rows.specs.BlockChecks.{AllAlive}

part_inside : (at p n w : ℕ) (b : List ℕ) → p + n ≤ w → take n (drop p (take w (drop at b))) ≡ take n (drop (at + p) b)
part_inside at p n w b h =
    let m : ℕ = w - p in
    let whole : w ≡ p + m = omega (arith, h) in
    ap (λ k. take n (drop p (take k (drop at b)))) whole ∙ ap (take n) (drop-take p m (drop at b)) ∙ take-take n m (drop p (drop at b)) (omega (arith, h)) ∙ ap (take n) (drop-drop p at b)

-- the bytes of a member, in those of its composite and in those of the block
pub kind_inside : (at p w : ℕ) (kind : Kind) (b : List ℕ) → (is_const kind ≡ false → p + width kind ≤ w) →
    take (width kind) (drop p (take w (drop at b))) ≡ take (width kind) (drop (at + p) b)
kind_inside at p w kind b h = by_case (is_const kind) refl
  where
    by_case : (t : Bool) → is_const kind ≡ t → take (width kind) (drop p (take w (drop at b))) ≡ take (width kind) (drop (at + p) b)
    by_case true c = ap (λ n. take n (drop p (take w (drop at b)))) (const_width kind c) ∙ sym (ap (λ n. take n (drop (at + p) b)) (const_width kind c))
    by_case false c = part_inside at p (width kind) w b (h c)

past_grows : (e : ℕ) (offset : Option ℕ) (kind : Kind) (t : Bool) → is_const kind ≡ t → BeginsBehind e offset kind → e ≤ cond t e (begin_of e offset + width kind)
past_grows e offset kind true c h = omega arith
past_grows e offset kind false c h = let begins : e ≤ begin_of e offset = h c in omega arith

-- the end of fields lies after their beginning
pub fields_grow : (e : ℕ) (fs : List Field) → ArePlaced e fs → e ≤ fields_end e fs
fields_grow e [] h = omega arith
fields_grow e (f ∷ fs) h =
    let grows = past_grows e f.offset f.kind (is_const f.kind) refl h.0 in
    let rest = fields_grow (end_past e f.offset f.kind) fs h.2 in
    omega (arith, grows, rest)

reach_all : (version e reached : ℕ) (f : Field) (t : Bool) → is_alive version f.since ≡ true → is_const f.kind ≡ t → reached ≡ e →
    cond (is_alive version f.since && not (is_const f.kind)) (end_past e f.offset f.kind) reached ≡ end_past e f.offset f.kind
reach_all version e reached f true a c same =
    ap (λ t. cond (t && not (is_const f.kind)) (end_past e f.offset f.kind) reached) a ∙ ap (λ t. cond (true && not t) (end_past e f.offset f.kind) reached) c
    ∙ same ∙ sym (ap (λ t. cond t e (begin_of e f.offset + width f.kind)) c)
reach_all version e reached f false a c same =
    ap (λ t. cond (t && not (is_const f.kind)) (end_past e f.offset f.kind) reached) a ∙ ap (λ t. cond (true && not t) (end_past e f.offset f.kind) reached) c

-- where all fields stand, the floor is their end
pub floor_is : (version e reached : ℕ) (fs : List Field) → AllAlive version fs → reached ≡ e → floor_from version e reached fs ≡ fields_end e fs
floor_is version e reached [] alive same = same
floor_is version e reached (f ∷ fs) alive same =
    floor_is version (end_past e f.offset f.kind) (cond (is_alive version f.since && not (is_const f.kind)) (end_past e f.offset f.kind) reached) fs alive.1
    (reach_all version e reached f (is_const f.kind) alive.0 refl same)
