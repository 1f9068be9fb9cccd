-- Fields by their numbers: each lies at its place, and the floor is where the last one that is alive ends.
use Rattle.std.proofs.Common.{◌≡◌, inl, inr, ℕ, zero, suc, ◌+◌, ◌≤◌, Bool, true, false, cond, List, [], ◌∷◌, length, Option, None, Some, refl, sym, ap, ◌∙◌, subst, arith}
use Rattle.std.specs.Prelude.{◌⊎◌, not, ◌&&◌, slice_get}
use Rattle.std.specs.Bool.{MatchBool}
use Rattle.sbe_types.specs.declared.kind.Kind.{Kind, Leaf, Enum, Set, Const, Comp'}
use Rattle.sbe_types.specs.declared.schema.Field.{Field}
use Rattle.sbe_types.specs.declared.message.Value.{Value}
use Rattle.sbe_types.specs.declared.message.Value.TheVariants as value
use Rattle.sbe_types.specs.Places.{width, is_const, begin_of, end_past, place_of, field_place, bytes_at}
use Rattle.sbe_types.specs.Shows.{Shows}
use Rattle.sbe_types.proofs.PlaceLemmas.{bytes_at_place}
use Rattle.sbe_wire.specs.declared.mode.Mode.{Mode}
use Rattle.sbe_wire.specs.Versions.{is_alive, floor_from}
use Rattle.sbe_wire.specs.Lays.{FieldLays, FieldsLay}
use Rattle.sbe_wire.specs.Placed.{ArePlaced}
use Rattle.sbe_wire.proofs.Blocks.{reach, reach_within, floor_reaches}

module _ (mode : Mode) (b : List ℕ) where
  -- a field's value by the bytes at a place
  abbrev pub LiesAt : Option ℕ → Field → Value → Type 0
  LiesAt place f v = MatchBool (is_alive mode.version f.since) (Shows mode.order mode.known f.kind v (bytes_at place (width f.kind) b)) (v ≡ value.Absent)

  abbrev pub EachFrom : ℕ → List Field → List Value → Type 0
  EachFrom e fields values =
      (length values ≡ length fields)
      × ((i : ℕ) (f : Field) (v : Value) → slice_get fields i ≡ Some f → slice_get values i ≡ Some v → LiesAt (field_place e fields i) f v)

  at_place : (e : ℕ) (f : Field) (v : Value) → FieldLays mode e f v b → LiesAt (place_of e f.offset f.kind) f v
  at_place e f v h = rw (bytes_at_place e f.offset f.kind b) h

  from_place : (e : ℕ) (f : Field) (v : Value) → LiesAt (place_of e f.offset f.kind) f v → FieldLays mode e f v b
  from_place e f v h = rw (bytes_at_place e f.offset f.kind b) at h

  each_more : (e : ℕ) (first : Field) (fields : List Field) (v : Value) (values : List Value) → FieldLays mode e first v b →
      EachFrom (end_past e first.offset first.kind) fields values → EachFrom e (first ∷ fields) (v ∷ values)
  each_more e first fields v values h later = (ap suc later.0, each)
    where
      each : (i : ℕ) (f : Field) (w : Value) → slice_get (first ∷ fields) i ≡ Some f → slice_get (v ∷ values) i ≡ Some w → LiesAt (field_place e (first ∷ fields) i) f w
      each zero f w is there =
          let same : first ≡ f = cc in
          let shown : v ≡ w = cc in
          subst (λ f. LiesAt (place_of e first.offset first.kind) f w) same (subst (λ w. LiesAt (place_of e first.offset first.kind) first w) shown (at_place e first v h))
      each (suc i) f w is there = later.1 i f w is there

  pub each_from : (e : ℕ) (fields : List Field) (values : List Value) → FieldsLay mode e fields values b → EachFrom e fields values
  each_from e [] [] h = (refl, λ i f v is there. cc)
  each_from e [] (v ∷ vs) h = absurd h
  each_from e (f ∷ fs) [] h = absurd h
  each_from e (f ∷ fs) (v ∷ vs) h = each_more e f fs v vs h.0 (each_from (end_past e f.offset f.kind) fs vs h.1)

  pub each_back : (e : ℕ) (fields : List Field) (values : List Value) → EachFrom e fields values → FieldsLay mode e fields values b
  each_back e [] [] h = tt
  each_back e [] (v ∷ vs) h = absurd (omega (arith, h.0))
  each_back e (f ∷ fs) [] h = absurd (omega (arith, h.0))
  each_back e (f ∷ fs) (v ∷ vs) h =
      let later = each_back (end_past e f.offset f.kind) fs vs (omega (arith, h.0), λ i g w is there. h.1 (suc i) g w is there) in
      (from_place e f v (h.1 0 f v refl refl), later)

-- ---- the floor

-- a part with a place is no constant, and its place is where it begins
placed_at : (e : ℕ) (offset : Option ℕ) (kind : Kind) (place : ℕ) → place_of e offset kind ≡ Some place → (is_const kind ≡ false) × (place ≡ begin_of e offset)
placed_at e offset (Leaf l) place h = (refl, cc)
placed_at e offset (Enum l names) place h = (refl, cc)
placed_at e offset (Set p names) place h = (refl, cc)
placed_at e offset (Const c) place h = cc
placed_at e offset (Comp' n members) place h = (refl, cc)

ends_at : (e : ℕ) (f : Field) (place : ℕ) → place_of e f.offset f.kind ≡ Some place → end_past e f.offset f.kind ≡ place + width f.kind
ends_at e f place h =
    let is = placed_at e f.offset f.kind place h in
    ap (λ t. cond t e (begin_of e f.offset + width f.kind)) is.0 ∙ ap (λ p. p + width f.kind) (sym is.1)

reach_at : (version e reached : ℕ) (f : Field) (place : ℕ) → is_alive version f.since ≡ true → place_of e f.offset f.kind ≡ Some place → reach version e reached f ≡ place + width f.kind
reach_at version e reached f place alive h =
    let is = placed_at e f.offset f.kind place h in
    ap (λ t. cond (t && not (is_const f.kind)) (end_past e f.offset f.kind) reached) alive
    ∙ ap (λ t. cond (true && not t) (end_past e f.offset f.kind) reached) is.0
    ∙ ends_at e f place h

pub floor_holds : (version e reached : ℕ) (fields : List Field) → reached ≤ e → ArePlaced e fields → (i place : ℕ) (f : Field) →
    slice_get fields i ≡ Some f → is_alive version f.since ≡ true → field_place e fields i ≡ Some place → place + width f.kind ≤ floor_from version e reached fields
floor_holds version e reached [] within h i place f is alive at = cc
floor_holds version e reached (g ∷ fs) within h zero place f is alive at =
    let same : g ≡ f = cc in
    let here : reach version e reached g ≡ place + width g.kind = reach_at version e reached g place (ap (λ (x : Field). is_alive version x.since) same ∙ alive) at in
    let there = floor_reaches version (end_past e g.offset g.kind) (reach version e reached g) fs (reach_within version e reached g _ refl within h.0) h.2 in
    subst (λ (x : Field). place + width x.kind ≤ floor_from version e reached (g ∷ fs)) same (omega (arith, here, there))
floor_holds version e reached (g ∷ fs) within h (suc i) place f is alive at =
    floor_holds version (end_past e g.offset g.kind) (reach version e reached g) fs (reach_within version e reached g _ refl within h.0) h.2 i place f is alive at

-- the end that a field which is alive brings, or the one that was reached before it
reach_is : (version e reached : ℕ) (f : Field) (alive fixed : Bool) → is_alive version f.since ≡ alive → is_const f.kind ≡ fixed →
    (reach version e reached f ≡ reached) ⊎ ((alive ≡ true) × (place_of e f.offset f.kind ≡ Some (begin_of e f.offset)) × (reach version e reached f ≡ begin_of e f.offset + width f.kind))
reach_is version e reached f false fixed a c = inl (ap (λ t. cond (t && not (is_const f.kind)) (end_past e f.offset f.kind) reached) a)
reach_is version e reached f true true a c =
    inl (ap (λ t. cond (t && not (is_const f.kind)) (end_past e f.offset f.kind) reached) a ∙ ap (λ t. cond (true && not t) (end_past e f.offset f.kind) reached) c)
reach_is version e reached f true false a c =
    let at : place_of e f.offset f.kind ≡ Some (begin_of e f.offset) = ap (λ t. cond t None (Some (begin_of e f.offset))) c in
    inr (refl, at, reach_at version e reached f (begin_of e f.offset) a at)

-- a field that is alive ends there
abbrev pub EndsAField : ℕ → ℕ → List Field → ℕ → Type 0
EndsAField version e fields n =
    (i : ℕ) × (place : ℕ) × (f : Field) × (slice_get fields i ≡ Some f) × (is_alive version f.since ≡ true) × (field_place e fields i ≡ Some place) × (n ≡ place + width f.kind)

pub floor_met : (version e reached : ℕ) (fields : List Field) → (floor_from version e reached fields ≡ reached) ⊎ EndsAField version e fields (floor_from version e reached fields)
floor_met version e reached [] = inl refl
floor_met version e reached (f ∷ fs) =
    elim (floor_met version (end_past e f.offset f.kind) (reach version e reached f) fs) [
      | inl same ↦
          elim (reach_is version e reached f (is_alive version f.since) (is_const f.kind) refl refl) [
            | inl before ↦ inl (same ∙ before)
            | inr here ↦ inr (0, begin_of e f.offset, f, refl, here.0, here.1, same ∙ here.2)
          ]
      | inr later ↦ inr (suc later.0, later.1, later.2, later.3, later.4, later.5, later.6)
    ]
