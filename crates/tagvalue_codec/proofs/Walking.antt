-- The fields of a body are read, and the first fault is told.
use Rattle.std.proofs.Common.{◌≡◌, ◌≢◌, ◌⊎◌, inl, inr, ℕ, zero, suc, ◌+◌, ◌<◌, Bool, true, false, cond, List, [], ◌∷◌, ◌++◌, length, Result, Ok, Err, Option, Some, None, refl, sym, ap, ◌∙◌, subst, arith, length-append}
use Rattle.std.specs.Prelude.{nat_lt, not, ◌==◌}
use Rattle.std.specs.Option.{ok_or}
use Rattle.std.specs.Str.Parse.{digits_value}
use Rattle.std.proofs.lemmas.Bool.{and_parts as both, and_from as together, lt-ltb, ltb-true, eqb-true, eq-eqb, false≢true}
use Rattle.tagvalue_codec.specs.declared.data_tags.Pair.{Pair}
use Rattle.tagvalue_codec.specs.declared.data_tags.Role.{Role}
use Rattle.tagvalue_codec.specs.declared.data_tags.Role.TheVariants.{Plain, Length, Data}
use Rattle.tagvalue_codec.specs.declared.read.TCode.{TCode}
use Rattle.tagvalue_codec.specs.declared.read.TCode.TheVariants as code
use Rattle.tagvalue_codec.specs.declared.read.FixFault.{FixFault}
use Rattle.tagvalue_codec.specs.Fields.{soh, Field, tag_bytes, field_bytes, IsTag, is_number, IsCount}
use Rattle.tagvalue_codec.specs.Pairs.{role_of}
use Rattle.tagvalue_codec.specs.Texts.{Owed, Free, Owes, is_locked, Begins, IsOrdinary, FitsRole, IsOwed, MayStand, owed_after, Body, Misplaced, Lacks, FaultHere, Place, FaultAfter}
use Rattle.tagvalue_codec.specs.Reading.{tag_read, exact_read, with_value, field_read, ordinary_read, data_read, is_tag, is_count, fits_role, fitting, step, fault_at, with_front, walk_on, is_over, walk}
use Rattle.tagvalue_codec.proofs.Finding.{not_none, tag_sound, tag_complete, field_sound, field_complete, exact_field_sound, exact_field_complete, kept_sound, kept_complete}

pub ok_is : {A E : Type 0} {x y : A} → ◌≡◌ {A = Result A E} (Ok x) (Ok y) → x ≡ y
ok_is h = cc

pub err_is : {A E : Type 0} {u v : E} → ◌≡◌ {A = Result A E} (Err u) (Err v) → u ≡ v
err_is h = cc

pub ok_not_err : {A E : Type 0} {x : A} {e : E} → ◌≢◌ {A = Result A E} (Ok x) (Err e)
ok_not_err h = cc

pub not_false : (b : Bool) → not b ≡ true → b ≡ false
not_false true h = absurd (false≢true h)
not_false false h = refl

-- ---- one field

pub ordinary_sound : (b : List ℕ) (f : Field) (rest : List ℕ) → ordinary_read b ≡ Some (f, rest) → IsOrdinary f × (b ≡ field_bytes f ++ rest)
ordinary_sound b f rest h =
    let k = kept_sound (λ f. not (is_locked f.tag)) (field_read b) f rest h in
    let r = field_sound b f rest k.0 in
    (record { plain = r.0; unlocked = not_false (is_locked f.tag) k.1 }, r.1)

pub ordinary_complete : (f : Field) (rest : List ℕ) → IsOrdinary f → ordinary_read (field_bytes f ++ rest) ≡ Some (f, rest)
ordinary_complete f rest is = kept_complete (λ f. not (is_locked f.tag)) (field_read (field_bytes f ++ rest)) f rest (field_complete f rest is.plain) (ap not is.unlocked)

pub data_sound : (tag many : ℕ) (b : List ℕ) (f : Field) (rest : List ℕ) → data_read tag many b ≡ Some (f, rest) → IsOwed tag many f × (b ≡ field_bytes f ++ rest)
data_sound tag many b f rest h =
    let k = kept_sound (λ f. f.tag == tag) (with_value (exact_read many) (tag_read b)) f rest h in
    let r = exact_field_sound many b f rest k.0 in
    (record { tagged = r.0; same = eqb-true f.tag tag k.1; long = r.1.0 }, r.1.1)

pub data_complete : (tag many : ℕ) (f : Field) (rest : List ℕ) → IsOwed tag many f → data_read tag many (field_bytes f ++ rest) ≡ Some (f, rest)
data_complete tag many f rest is =
    kept_complete (λ f. f.tag == tag) (with_value (exact_read many) (tag_read (field_bytes f ++ rest))) f rest
    (ap (λ n. with_value (exact_read n) (tag_read (field_bytes f ++ rest))) (sym is.long) ∙ exact_field_complete f rest is.tagged) (eq-eqb f.tag tag is.same)

-- where nothing is found, nothing stands
pub lacking : (P : Field → Type 0) (b : List ℕ) (p : List ℕ → Option (Field × List ℕ)) → ((f : Field) (rest : List ℕ) → P f → p (field_bytes f ++ rest) ≡ Some (f, rest)) → p b ≡ None → Lacks P b
lacking P b p complete none f after is e = not_none (sym none ∙ ap p e ∙ complete f after is)

-- and where nothing stands, nothing is found
pub missing : (P : Field → Type 0) (b : List ℕ) (o : Option (Field × List ℕ)) → ((f : Field) (rest : List ℕ) → o ≡ Some (f, rest) → P f × (b ≡ field_bytes f ++ rest)) → Lacks P b → o ≡ None
missing P b None sound lacks = refl
missing P b (Some r) sound lacks = let s = sound r.0 r.1 refl in absurd (lacks r.0 r.1 s.0 s.1)

-- ---- roles

tag_is : (tag : ℕ) (b : List ℕ) (o : Option (ℕ × List ℕ)) → tag_read b ≡ o → is_tag tag o ≡ true → Begins tag b
tag_is tag b None is h = absurd (false≢true h)
tag_is tag b (Some t) is h =
    let same : t.0 ≡ tag = eqb-true t.0 tag h in
    let s = tag_sound b t.0 t.1 is in
    record { tagged = subst IsTag same s.0; more = t.1; bytes_are = s.1 ∙ ap (λ k. tag_bytes k ++ t.1) same }

tag_begins : (tag : ℕ) (b : List ℕ) → Begins tag b → is_tag tag (tag_read b) ≡ true
tag_begins tag b h = ap (λ x. is_tag tag (tag_read x)) h.bytes_are ∙ ap (is_tag tag) (tag_complete tag h.more h.tagged) ∙ eq-eqb tag tag refl

count_is : (value : List ℕ) → is_count value ≡ true → IsCount value
count_is value h =
    let parts = both (is_number value) (nat_lt 0 (digits_value 10 value)) h in
    record { digits = parts.0; above = ltb-true 0 (digits_value 10 value) parts.1 }

is_counted : (value : List ℕ) → IsCount value → is_count value ≡ true
is_counted value h = together (is_number value) (nat_lt 0 (digits_value 10 value)) h.digits (lt-ltb 0 (digits_value 10 value) h.above)

fits : (role : Role) (f : Field) (after : List ℕ) → fits_role role f after ≡ true → FitsRole role f after
fits Plain f after h = tt
fits (Length tag) f after h =
    let parts = both (is_count f.value) (is_tag tag (tag_read after)) h in
    (count_is f.value parts.0, tag_is tag after (tag_read after) refl parts.1)
fits Data f after h = absurd (false≢true h)

has_fit : (role : Role) (f : Field) (after : List ℕ) → FitsRole role f after → fits_role role f after ≡ true
has_fit Plain f after h = refl
has_fit (Length tag) f after h = together (is_count f.value) (is_tag tag (tag_read after)) (is_counted f.value h.0) (tag_begins tag after h.1)
has_fit Data f after h = absurd h

-- ---- the field that stands here

-- the fault where no field may stand here
abbrev pub StepFault : List Pair → Owed → List ℕ → TCode → Type 0
StepFault tags Free b c = ((c ≡ code.Field) × Lacks IsOrdinary b) ⊎ ((c ≡ code.DataLength) × Misplaced tags b)
StepFault tags (Owes tag many) b c = (c ≡ code.DataLength) × Lacks (IsOwed tag many) b

fitting_ok : (tags : List Pair) (o : Option (Field × List ℕ)) (f : Field) (after : List ℕ) → fitting tags o ≡ Ok (f, after) → (o ≡ Some (f, after)) × FitsRole (role_of tags f.tag) f after
fitting_ok tags None f after h = absurd (ok_not_err (sym h))
fitting_ok tags (Some r) f after h = by_fit (fits_role (role_of tags r.0.tag) r.0 r.1) refl h where
  by_fit : (is : Bool) → fits_role (role_of tags r.0.tag) r.0 r.1 ≡ is → ◌≡◌ {A = Result (Field × List ℕ) TCode} (cond {A = Result (Field × List ℕ) TCode} is (Ok r) (Err code.DataLength)) (Ok (f, after)) →
      ◌≡◌ {A = Option (Field × List ℕ)} (Some r) (Some (f, after)) × FitsRole (role_of tags f.tag) f after
  by_fit false is k = absurd (ok_not_err (sym k))
  by_fit true is k =
      let same : ◌≡◌ {A = Field × List ℕ} r (f, after) = ok_is k in
      (ap Some same, subst (λ (x : Field × List ℕ). FitsRole (role_of tags x.0.tag) x.0 x.1) same (fits (role_of tags r.0.tag) r.0 r.1 is))

fitting_err : (tags : List Pair) (o : Option (Field × List ℕ)) (c : TCode) → fitting tags o ≡ Err c →
    ((c ≡ code.Field) × (o ≡ None)) ⊎ ((c ≡ code.DataLength) × ((r : Field × List ℕ) × (o ≡ Some r) × (fits_role (role_of tags r.0.tag) r.0 r.1 ≡ false)))
fitting_err tags None c h = inl (sym (err_is h), refl)
fitting_err tags (Some r) c h = by_fit (fits_role (role_of tags r.0.tag) r.0 r.1) refl h where
  by_fit : (is : Bool) → fits_role (role_of tags r.0.tag) r.0 r.1 ≡ is → ◌≡◌ {A = Result (Field × List ℕ) TCode} (cond {A = Result (Field × List ℕ) TCode} is (Ok r) (Err code.DataLength)) (Err c) →
      ((c ≡ code.Field) × (◌≡◌ {A = Option (Field × List ℕ)} (Some r) None)) ⊎ ((c ≡ code.DataLength) × ((x : Field × List ℕ) × (◌≡◌ {A = Option (Field × List ℕ)} (Some r) (Some x)) × (fits_role (role_of tags x.0.tag) x.0 x.1 ≡ false)))
  by_fit true is k = absurd (ok_not_err k)
  by_fit false is k = inr (sym (err_is k), (r, refl, is))

pub step_sound : (tags : List Pair) (owed : Owed) (b : List ℕ) (f : Field) (after : List ℕ) → step tags owed b ≡ Ok (f, after) → (b ≡ field_bytes f ++ after) × MayStand tags owed f after
step_sound tags Free b f after h =
    let r = fitting_ok tags (ordinary_read b) f after h in
    let s = ordinary_sound b f after r.0 in
    (s.1, (s.0, r.1))
step_sound tags (Owes tag many) b f after h = by_data (data_read tag many b) refl h where
  by_data : (o : Option (Field × List ℕ)) → data_read tag many b ≡ o → ok_or o code.DataLength ≡ Ok (f, after) → (b ≡ field_bytes f ++ after) × IsOwed tag many f
  by_data None is k = absurd (ok_not_err (sym k))
  by_data (Some r) is k = let s = data_sound tag many b f after (is ∙ ap Some (ok_is k)) in (s.1, s.0)

pub step_complete : (tags : List Pair) (owed : Owed) (f : Field) (after : List ℕ) → MayStand tags owed f after → step tags owed (field_bytes f ++ after) ≡ Ok (f, after)
step_complete tags Free f after h = rw (ordinary_complete f after h.0, has_fit (role_of tags f.tag) f after h.1) refl
step_complete tags (Owes tag many) f after h = rw (data_complete tag many f after h) refl

pub step_told : (tags : List Pair) (owed : Owed) (b : List ℕ) (c : TCode) → step tags owed b ≡ Err c → StepFault tags owed b c
step_told tags Free b c h = elim (fitting_err tags (ordinary_read b) c h) [
  | inl e ↦ inl (e.0, lacking IsOrdinary b ordinary_read ordinary_complete e.1)
  | inr e ↦
      let s = ordinary_sound b e.1.0.0 e.1.0.1 e.1.1 in
      inr (e.0, (e.1.0.0, e.1.0.1, s.1, s.0, λ good. false≢true (sym e.1.2 ∙ has_fit (role_of tags e.1.0.0.tag) e.1.0.0 e.1.0.1 good)))
]
step_told tags (Owes tag many) b c h = by_data (data_read tag many b) refl h where
  by_data : (o : Option (Field × List ℕ)) → data_read tag many b ≡ o → ok_or o code.DataLength ≡ Err c → (c ≡ code.DataLength) × Lacks (IsOwed tag many) b
  by_data None is k = (sym (err_is k), lacking (IsOwed tag many) b (data_read tag many) (data_complete tag many) is)
  by_data (Some r) is k = absurd (ok_not_err k)

unfit : (role : Role) (f : Field) (after : List ℕ) → ¬ (FitsRole role f after) → fits_role role f after ≡ false
unfit role f after bad = by_fit (fits_role role f after) refl where
  by_fit : (is : Bool) → fits_role role f after ≡ is → is ≡ false
  by_fit true is = absurd (bad (fits role f after is))
  by_fit false is = refl

pub step_only : (tags : List Pair) (owed : Owed) (b : List ℕ) (c : TCode) → StepFault tags owed b c → step tags owed b ≡ Err c
step_only tags Free b c h = elim h [
  | inl e ↦ rw (missing IsOrdinary b (ordinary_read b) (ordinary_sound b) e.1, e.0) refl
  | inr e ↦ ap (step tags Free) e.1.2 ∙ rw (ordinary_complete e.1.0 e.1.1 e.1.3, unfit (role_of tags e.1.0.tag) e.1.0 e.1.1 e.1.4, e.0) refl
]
step_only tags (Owes tag many) b c h = rw (missing (IsOwed tag many) b (data_read tag many b) (data_sound tag many b) h.1, h.0) refl

-- ---- the fields of a body

-- a field has bytes
some_bytes : (f : Field) (after : List ℕ) → 0 < length (field_bytes f ++ after)
some_bytes f after = omega (arith, length-append (field_bytes f) after, length-append (tag_bytes f.tag) (f.value ++ (soh ∷ [])), length-append f.value (soh ∷ []))

-- bytes that are there aren't over
goes_on : (owed : Owed) (b : List ℕ) → 0 < length b → is_over owed b ≡ false
goes_on Free [] h = absurd (omega arith)
goes_on Free (x ∷ b) h = refl
goes_on (Owes tag many) b h = refl

over_is : (owed : Owed) (b : List ℕ) → is_over owed b ≡ true → (owed ≡ Free) × (b ≡ [])
over_is Free [] h = (refl, refl)
over_is Free (x ∷ b) h = absurd (false≢true h)
over_is (Owes tag many) b h = absurd (false≢true h)

-- what a walk goes on with
abbrev pub Next : Type 0
Next = Field → List ℕ → Result (List Field) FixFault

front_ok : (f : Field) (r : Result (List Field) FixFault) (fs : List Field) → with_front f r ≡ Ok fs → (gs : List Field) × (r ≡ Ok gs) × (fs ≡ f ∷ gs)
front_ok f (Ok gs) fs h = (gs, refl, sym (ok_is h))
front_ok f (Err e) fs h = absurd (ok_not_err (sym h))

front_err : (f : Field) (r : Result (List Field) FixFault) (fault : FixFault) → with_front f r ≡ Err fault → r ≡ Err fault
front_err f (Ok gs) fault h = absurd (ok_not_err h)
front_err f (Err e) fault h = ap Err (err_is h)

walk_on_ok : (at : ℕ) (r : Result (Field × List ℕ) TCode) (next : Next) (fs : List Field) → walk_on at r next ≡ Ok fs →
    (x : Field × List ℕ) × (r ≡ Ok x) × ((gs : List Field) × (next x.0 x.1 ≡ Ok gs) × (fs ≡ x.0 ∷ gs))
walk_on_ok at (Err c) next fs h = absurd (ok_not_err (sym h))
walk_on_ok at (Ok x) next fs h = (x, refl, front_ok x.0 (next x.0 x.1) fs h)

walk_on_err : (at : ℕ) (r : Result (Field × List ℕ) TCode) (next : Next) (fault : FixFault) → walk_on at r next ≡ Err fault →
    ((c : TCode) × (r ≡ Err c) × (fault ≡ fault_at c at)) ⊎ ((x : Field × List ℕ) × (r ≡ Ok x) × (next x.0 x.1 ≡ Err fault))
walk_on_err at (Err c) next fault h = inl (c, refl, sym (err_is h))
walk_on_err at (Ok x) next fault h = inr (x, refl, front_err x.0 (next x.0 x.1) fault h)

-- what is read are the fields, and there is room for one more
abbrev pub Walked : List Pair → ℕ → Owed → List Field → List ℕ → Type 0
Walked tags room owed fs b = Body tags owed fs b × (length fs < room)

sound_on : (tags : List Pair) (room : ℕ) (owed : Owed) (at : ℕ) (b : List ℕ) (fs : List Field) (next : Next) →
    ((f : Field) (after : List ℕ) (gs : List Field) → next f after ≡ Ok gs → Walked tags room (owed_after tags owed f) gs after) →
    walk_on at (step tags owed b) next ≡ Ok fs → Walked tags (suc room) owed fs b
sound_on tags room owed at b fs next later h =
    let r = walk_on_ok at (step tags owed b) next fs h in
    let s = step_sound tags owed b r.0.0 r.0.1 r.1 in
    let w = later r.0.0 r.0.1 r.2.0 r.2.1 in
    subst (λ (l : List Field). Walked tags (suc room) owed l b) (sym r.2.2) ((r.0.1, s.0, s.1, w.0), omega (arith, w.1))

sound_by : (tags : List Pair) (room : ℕ) (owed : Owed) (at : ℕ) (b : List ℕ) (fs : List Field) (next : Next) (over : Bool) → is_over owed b ≡ over →
    ((f : Field) (after : List ℕ) (gs : List Field) → next f after ≡ Ok gs → Walked tags room (owed_after tags owed f) gs after) →
    cond {A = Result (List Field) FixFault} over (Ok []) (walk_on at (step tags owed b) next) ≡ Ok fs → Walked tags (suc room) owed fs b
sound_by tags room owed at b fs next true is later h = subst (λ (l : List Field). Walked tags (suc room) owed l b) (ok_is h) (over_is owed b is, omega arith)
sound_by tags room owed at b fs next false is later h = sound_on tags room owed at b fs next later h

pub walk_sound : (tags : List Pair) (room : ℕ) (owed : Owed) (at : ℕ) (b : List ℕ) (fs : List Field) → walk tags room owed at b ≡ Ok fs → Walked tags room owed fs b
unfolding walk
walk_sound tags zero owed at b fs h = absurd (ok_not_err (sym h))
walk_sound tags (suc room) owed at b fs h =
    sound_by tags room owed at b fs (λ f after. walk tags room (owed_after tags owed f) (at + length (field_bytes f)) after) (is_over owed b) refl
    (λ f after gs k. walk_sound tags room (owed_after tags owed f) (at + length (field_bytes f)) after gs k) h

pub walk_complete : (tags : List Pair) (room : ℕ) (owed : Owed) (at : ℕ) (b : List ℕ) (fs : List Field) → Body tags owed fs b → length fs < room → walk tags room owed at b ≡ Ok fs
unfolding walk
walk_complete tags zero owed at b fs body few = absurd (omega arith)
walk_complete tags (suc room) owed at b [] body few = rw (body.0, body.1) refl
walk_complete tags (suc room) owed at b (f ∷ fs) body few =
    ap (walk tags (suc room) owed at) body.1
    ∙ rw (
      goes_on owed (field_bytes f ++ body.0) (some_bytes f body.0),
      step_complete tags owed f body.0 body.2,
      walk_complete tags room (owed_after tags owed f) (at + length (field_bytes f)) body.0 fs body.3 (omega arith),
    ) refl

-- a fault that is told is the first one
pub record Told (tags : List Pair) (p : Place) (b : List ℕ) (fault : FixFault) : Type 0 where
  pub good : List Field
  pub is : FaultAfter tags p good b fault

-- a place by its parts
abbrev pub place : ℕ → Owed → ℕ → Place
place room owed at = record { room = room; owed = owed; at = at }

here : (tags : List Pair) (room : ℕ) (owed : Owed) (b : List ℕ) (c : TCode) → is_over owed b ≡ false → StepFault tags owed b c → FaultHere tags (suc room) owed b c
here tags room Free [] c is h = absurd (false≢true (sym is))
here tags room Free (x ∷ b) c is h = ((λ e. let none : 0 ≡ suc (length b) = ap length (sym e) in omega arith), h)
here tags room (Owes tag many) b c is h = h

there : (tags : List Pair) (room : ℕ) (owed : Owed) (b : List ℕ) (c : TCode) → FaultHere tags (suc room) owed b c → (is_over owed b ≡ false) × StepFault tags owed b c
there tags room Free [] c h = absurd (h.0 refl)
there tags room Free (x ∷ b) c h = (refl, h.1)
there tags room (Owes tag many) b c h = (refl, h)

told_by : (tags : List Pair) (room : ℕ) (owed : Owed) (at : ℕ) (b : List ℕ) (fault : FixFault) (over : Bool) → is_over owed b ≡ over →
    ((f : Field) (after : List ℕ) → walk tags room (owed_after tags owed f) (at + length (field_bytes f)) after ≡ Err fault → Told tags (place room (owed_after tags owed f) (at + length (field_bytes f))) after fault) →
    cond {A = Result (List Field) FixFault} over (Ok []) (walk_on at (step tags owed b) (λ f after. walk tags room (owed_after tags owed f) (at + length (field_bytes f)) after)) ≡ Err fault → Told tags (place (suc room) owed at) b fault
told_by tags room owed at b fault true is later h = absurd (ok_not_err h)
told_by tags room owed at b fault false is later h = elim (walk_on_err at (step tags owed b) (λ f after. walk tags room (owed_after tags owed f) (at + length (field_bytes f)) after) fault h) [
  | inl e ↦ subst (Told tags (place (suc room) owed at) b) (sym e.2) (record { good = []; is = (here tags room owed b e.0 is (step_told tags owed b e.0 e.1), refl, refl) })
  | inr e ↦
      let s = step_sound tags owed b e.0.0 e.0.1 e.1 in
      let w = later e.0.0 e.0.1 e.2 in
      record { good = e.0.0 ∷ w.good; is = (omega arith, e.0.1, s.0, s.1, w.is) }
]

pub walk_told : (tags : List Pair) (room : ℕ) (owed : Owed) (at : ℕ) (b : List ℕ) (fault : FixFault) → walk tags room owed at b ≡ Err fault → Told tags (place room owed at) b fault
unfolding walk
walk_told tags zero owed at b fault h = subst (Told tags (place zero owed at) b) (err_is h) (record { good = []; is = (refl, refl, refl) })
walk_told tags (suc room) owed at b fault h =
    told_by tags room owed at b fault (is_over owed b) refl (λ f after k. walk_told tags room (owed_after tags owed f) (at + length (field_bytes f)) after fault k) h

-- a fault without a detail, by its parts
by_parts : (fault : FixFault) (c : TCode) (at : ℕ) → fault.code ≡ c → fault.offset ≡ at → fault.detail ≡ 0 → fault_at c at ≡ fault
by_parts fault c at code_is offset_is detail_is = λ i. record { code = sym code_is i; offset = sym offset_is i; detail = sym detail_is i }

-- the first fault is told
pub walk_only : (tags : List Pair) (room : ℕ) (owed : Owed) (at : ℕ) (good : List Field) (b : List ℕ) (fault : FixFault) → FaultAfter tags (place room owed at) good b fault → walk tags room owed at b ≡ Err fault
unfolding walk
walk_only tags zero owed at [] b fault h = ap Err (by_parts fault code.TooMany at h.0 h.1 h.2)
walk_only tags zero owed at (f ∷ good) b fault h = absurd (omega (arith, h.0))
walk_only tags (suc room) owed at [] b fault h =
    let t = there tags room owed b fault.code h.0 in
    rw (t.0, step_only tags owed b fault.code t.1) (ap Err (by_parts fault fault.code at refl h.1 h.2))
walk_only tags (suc room) owed at (f ∷ good) b fault h =
    ap (walk tags (suc room) owed at) h.2
    ∙ rw (
      goes_on owed (field_bytes f ++ h.1) (some_bytes f h.1),
      step_complete tags owed f h.1 h.3,
      walk_only tags room (owed_after tags owed f) (at + length (field_bytes f)) good h.1 fault h.4,
    ) refl
