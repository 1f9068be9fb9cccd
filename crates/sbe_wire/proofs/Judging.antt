-- Judges that are put together agree with the definitions that are put together in the same way.
use Rattle.std.proofs.Common.{◌≡◌, ◌⊎◌, inl, inr, ℕ, Bool, true, false, cond, List, ◌∷◌, Option, Some, None, Result, Ok, Err, refl, sym, ap, ◌∙◌}
use Rattle.std.specs.Prelude.{IsTrue}
use Rattle.std.specs.Bool.{MatchBool}
use Rattle.std.specs.Option.{ok_or}
use Rattle.sbe_types.specs.declared.path.Step.{Step}
use Rattle.sbe_wire.specs.Faults.{Fault, shifted, under}
use Rattle.sbe_wire.specs.Reading.{◌>>=◌, later, inside}
use Rattle.sbe_wire.specs.Agree.{Judges}
use Rattle.sbe_wire.proofs.Combine.{ok_is, err_is, bind_ok, bind_err, later_ok, later_err, inside_ok, inside_err}

pub never : {Z : Type 0} {z : Z} {g : Fault} → ◌≡◌ {A = Result Z Fault} (Ok z) (Err g) → ⊥
never k = cc

-- ---- an option, or a fault

pub found_is : {X : Type 0} (o : Option X) (e : Fault) (x : X) → ok_or o e ≡ Ok x → o ≡ Some x
found_is None e x h = cc
found_is (Some y) e x h = ap Some (ok_is h)

pub missed_is : {X : Type 0} (o : Option X) (e f : Fault) → ok_or o e ≡ Err f → (o ≡ None) × (f ≡ e)
missed_is None e f h = (refl, sym (err_is h))
missed_is (Some y) e f h = cc

-- ---- the same judge under an equal definition

pub rejudged : {A X : Type 0} (G H : A → Type 0) (q : A → Result X Fault) (R S : X → A → Type 0) (F K : Fault → A → Type 0) →
    ((a : A) → H a → G a) → ((x : X) (a : A) → H a → R x a → S x a) → ((x : X) (a : A) → S x a → R x a) →
    ((f : Fault) (a : A) → F f a → K f a) → ((f : Fault) (a : A) → K f a → F f a) → Judges G q R F → Judges H q S K
rejudged G H q R S F K given to from there back judges = record {
  sound = λ a x g h. to x a g (judges.sound a x (given a g) h);
  complete = λ a x h. judges.complete a x (from x a h);
  told = λ a f g h. there f a (judges.told a f (given a g) h);
  only = λ a f h. judges.only a f (back f a h);
}

-- ---- a value that is made of another

abbrev pub MadeBy : {A X Y : Type 0} → (X → Y) → (X → A → Type 0) → Y → A → Type 0
MadeBy {A} {X} make R y a = (x : X) × (y ≡ make x) × R x a

pub made_by : {A X Y : Type 0} (G : A → Type 0) (q : A → Result X Fault) (make : X → Y) (R : X → A → Type 0) (F : Fault → A → Type 0) →
    Judges G q R F → Judges G (λ a. q a >>= (λ x. Ok (make x))) (MadeBy make R) F
made_by {A} {X} {Y} G q make R F judges = record {
  sound = λ a y g h. let found = bind_ok (q a) (λ x. Ok (make x)) y h in (found.0, sym (ok_is found.2), judges.sound a found.0 g found.1);
  complete = λ a y h. ap (λ r. r >>= (λ x. Ok (make x))) (judges.complete a h.0 h.2) ∙ ap Ok (sym h.1);
  told = λ a f g h. elim (bind_err (q a) (λ x. Ok (make x)) f h) [ inl e ↦ judges.told a f g e | inr e ↦ absurd (never e.2) ];
  only = λ a f h. ap (λ r. r >>= (λ x. Ok (make x))) (judges.only a f h);
}

-- ---- a part of the bytes, further on and inside a step

pub moved : {A B X : Type 0} (G : B → Type 0) (q : B → Result X Fault) (R : X → B → Type 0) (F : Fault → B → Type 0) (Given : A → Type 0) (slice : A → B) (n : ℕ) (step : Step) →
    ((a : A) → Given a → G (slice a)) → Judges G q R F →
    Judges Given (λ a. later n (inside step (q (slice a)))) (λ x a. R x (slice a)) (λ f a. (g : Fault) × F g (slice a) × (f ≡ shifted n (under step g)))
moved G q R F Given slice n step given judges = record {
  sound = λ a x g h. judges.sound (slice a) x (given a g) (inside_ok step (q (slice a)) x (later_ok n (inside step (q (slice a))) x h));
  complete = λ a x h. ap (λ r. later n (inside step r)) (judges.complete (slice a) x h);
  told = λ a f g h.
      let out = later_err n (inside step (q (slice a))) f h in
      let deep = inside_err step (q (slice a)) out.0 out.1 in
      (deep.0, judges.told (slice a) deep.0 (given a g) deep.1, out.2 ∙ ap (shifted n) deep.2);
  only = λ a f h. ap (λ r. later n (inside step r)) (judges.only (slice a) h.0 h.1) ∙ ap Err (sym h.2);
}

-- ---- one value beside others

abbrev pub Beside : {A X : Type 0} → (X → A → Type 0) → (List X → A → Type 0) → List X → A → Type 0
Beside {A} {X} R S ys a = (x : X) × (xs : List X) × (ys ≡ x ∷ xs) × R x a × S xs a

abbrev pub BesideFault : {A X : Type 0} → (Fault → A → Type 0) → (X → A → Type 0) → (Fault → A → Type 0) → Fault → A → Type 0
BesideFault {A} {X} F R K f a = F f a ⊎ ((x : X) × R x a × K f a)

pub beside : {A X : Type 0} (G : A → Type 0) (p : A → Result X Fault) (q : A → Result (List X) Fault) (R : X → A → Type 0) (S : List X → A → Type 0) (F K : Fault → A → Type 0) →
    Judges G p R F → Judges G q S K → Judges G (λ a. p a >>= (λ x. q a >>= (λ xs. Ok (x ∷ xs)))) (Beside R S) (BesideFault F R K)
beside {A} {X} G p q R S F K here there = record { sound = sound; complete = complete; told = told; only = only }
  where
    sound : (a : A) (ys : List X) → G a → p a >>= (λ x. q a >>= (λ xs. Ok (x ∷ xs))) ≡ Ok ys → Beside R S ys a
    sound a ys g h =
        let first = bind_ok (p a) (λ x. q a >>= (λ xs. Ok (x ∷ xs))) ys h in
        let others = bind_ok (q a) (λ xs. Ok (first.0 ∷ xs)) ys first.2 in
        (first.0, others.0, sym (ok_is others.2), here.sound a first.0 g first.1, there.sound a others.0 g others.1)

    complete : (a : A) (ys : List X) → Beside R S ys a → p a >>= (λ x. q a >>= (λ xs. Ok (x ∷ xs))) ≡ Ok ys
    complete a ys h =
        ap (λ r. r >>= (λ x. q a >>= (λ xs. Ok (x ∷ xs)))) (here.complete a h.0 h.3)
        ∙ ap (λ r. r >>= (λ xs. Ok (h.0 ∷ xs))) (there.complete a h.1 h.4) ∙ ap Ok (sym h.2)

    told : (a : A) (f : Fault) → G a → p a >>= (λ x. q a >>= (λ xs. Ok (x ∷ xs))) ≡ Err f → BesideFault F R K f a
    told a f g h = elim (bind_err (p a) (λ x. q a >>= (λ xs. Ok (x ∷ xs))) f h) [
      | inl e ↦ inl (here.told a f g e)
      | inr e ↦ elim (bind_err (q a) (λ xs. Ok (e.0 ∷ xs)) f e.2) [
        | inl d ↦ inr (e.0, here.sound a e.0 g e.1, there.told a f g d)
        | inr d ↦ absurd (never d.2)
      ]
    ]

    only : (a : A) (f : Fault) → BesideFault F R K f a → p a >>= (λ x. q a >>= (λ xs. Ok (x ∷ xs))) ≡ Err f
    only a f h = elim h [
      | inl e ↦ ap (λ r. r >>= (λ x. q a >>= (λ xs. Ok (x ∷ xs)))) (here.only a f e)
      | inr e ↦
          ap (λ r. r >>= (λ x. q a >>= (λ xs. Ok (x ∷ xs)))) (here.complete a e.0 e.1)
          ∙ ap (λ r. r >>= (λ xs. Ok (e.0 ∷ xs))) (there.only a f e.2)
    ]

-- ---- a part that is alive, or absent

pub chosen : {A X : Type 0} (t : Bool) (G : A → Type 0) (q : A → Result X Fault) (none : X) (R : X → A → Type 0) (F : Fault → A → Type 0) →
    (t ≡ true → Judges G q R F) → Judges G (λ a. cond t (q a) (Ok none)) (λ x a. MatchBool t (R x a) (x ≡ none)) (λ f a. IsTrue t × F f a)
chosen true G q none R F judged = let judges = judged refl in record {
  sound = judges.sound;
  complete = judges.complete;
  told = λ a f g h. (refl, judges.told a f g h);
  only = λ a f h. judges.only a f h.1;
}
chosen false G q none R F judged = record {
  sound = λ a x g h. sym (ok_is h);
  complete = λ a x h. ap Ok (sym h);
  told = λ a f g h. absurd (never h);
  only = λ a f h. absurd (untrue h.0);
}
  where
    untrue : IsTrue false → ⊥
    untrue k = cc
