-- Readers that are put together agree with the definitions that are put together in the same way.
use Rattle.std.proofs.Common.{◌≡◌, ◌⊎◌, inl, inr, ℕ, zero, suc, ◌-◌, ◌≤◌, ◌<◌, Bool, true, false, cond, List, [], ◌∷◌, ◌++◌, length, take, drop, Result, Ok, Err, refl, sym, ap, ◌∙◌, subst, arith, append_assoc, length-append, length-take}
use Rattle.std.proofs.Math.Seq.{take-append_seam, drop-append_seam}
use Rattle.std.proofs.lemmas.List.{take-append-drop}
use Rattle.std.proofs.lemmas.Bool.Decides.{nat_tests}
use Rattle.std.specs.Prelude.{nat_le, IsTrue, pos}
use Rattle.sbe_wire.specs.declared.codes.FCode.TheVariants as code
use Rattle.std.specs.Bool.{MatchBool}
use Rattle.sbe_types.specs.declared.path.Step.{Step}
use Rattle.sbe_types.specs.declared.path.Step.TheVariants as way
use Rattle.sbe_wire.specs.Lays.{IsConcatenation, IsConcatenationOfBoth}
use Rattle.sbe_wire.specs.Faults.{Fault, shifted, under, fault_at, FaultAfter, TooShort, Under, TimesFault, EachFault}
use Rattle.sbe_wire.specs.Reading.{Reader, ◌>>=◌, later, inside, and_then, then_read, nothing, and_check, read_and_check, bytes_or, bytes_read, read_in, times_read, each_read, then_all}
use Rattle.sbe_wire.specs.Agree.{Reads, Judges}

-- ---- answers

pub ok_is : {A E : Type 0} {x y : A} → ◌≡◌ {A = Result A E} (Ok x) (Ok y) → x ≡ y
ok_is h = cc

pub err_is : {A E : Type 0} {u v : E} → ◌≡◌ {A = Result A E} (Err u) (Err v) → u ≡ v
err_is h = cc

pub pair_fst : {X Y : Type 0} {x y : X} {u v : Y} → ◌≡◌ {A = X × Y} (x, u) (y, v) → x ≡ y
pair_fst h = ap (λ p. p.0) h

pub pair_snd : {X Y : Type 0} {x y : X} {u v : Y} → ◌≡◌ {A = X × Y} (x, u) (y, v) → u ≡ v
pair_snd h = ap (λ p. p.1) h

pub empty_is : (b : List ℕ) → length b ≡ 0 → b ≡ []
empty_is [] h = refl
empty_is (x ∷ xs) h = absurd (omega (arith, h))

pub bind_ok : {X Y : Type 0} (r : Result X Fault) (f : X → Result Y Fault) (y : Y) → r >>= f ≡ Ok y → (x : X) × (r ≡ Ok x) × (f x ≡ Ok y)
bind_ok (Ok x) f y h = (x, refl, h)
bind_ok (Err e) f y h = cc

pub bind_err : {X Y : Type 0} (r : Result X Fault) (f : X → Result Y Fault) (e : Fault) → r >>= f ≡ Err e → (r ≡ Err e) ⊎ ((x : X) × (r ≡ Ok x) × (f x ≡ Err e))
bind_err (Ok x) f e h = inr (x, refl, h)
bind_err (Err u) f e h = inl (ap Err (err_is h))

pub later_ok : {X : Type 0} (n : ℕ) (r : Result X Fault) (x : X) → later n r ≡ Ok x → r ≡ Ok x
later_ok n (Ok y) x h = h
later_ok n (Err f) x h = cc

pub later_err : {X : Type 0} (n : ℕ) (r : Result X Fault) (f : Fault) → later n r ≡ Err f → (g : Fault) × (r ≡ Err g) × (f ≡ shifted n g)
later_err n (Ok y) f h = cc
later_err n (Err g) f h = (g, refl, sym (err_is h))

pub inside_ok : {X : Type 0} (step : Step) (r : Result X Fault) (x : X) → inside step r ≡ Ok x → r ≡ Ok x
inside_ok step (Ok y) x h = h
inside_ok step (Err f) x h = cc

pub inside_err : {X : Type 0} (step : Step) (r : Result X Fault) (f : Fault) → inside step r ≡ Err f → (g : Fault) × (r ≡ Err g) × (f ≡ under step g)
inside_err step (Ok y) f h = cc
inside_err step (Err g) f h = (g, refl, sym (err_is h))

and_then_ok : {X Y : Type 0} (b : List ℕ) (r : Result (X × List ℕ) Fault) (q : X → List ℕ → Result Y Fault) (y : Y) → and_then b r q ≡ Ok y → (x : X × List ℕ) × (r ≡ Ok x) × (q x.0 x.1 ≡ Ok y)
and_then_ok b (Ok x) q y h = (x, refl, later_ok _ (q x.0 x.1) y h)
and_then_ok b (Err f) q y h = cc

and_then_err : {X Y : Type 0} (b : List ℕ) (r : Result (X × List ℕ) Fault) (q : X → List ℕ → Result Y Fault) (f : Fault) → and_then b r q ≡ Err f →
    (r ≡ Err f) ⊎ ((x : X × List ℕ) × (g : Fault) × (r ≡ Ok x) × (q x.0 x.1 ≡ Err g) × (f ≡ shifted (length b - length x.1) g))
and_then_err b (Ok x) q f h = let found = later_err _ (q x.0 x.1) f h in inr (x, found.0, refl, found.1, found.2)
and_then_err b (Err g) q f h = inl (ap Err (err_is h))

-- ---- the same reader under an equal definition

pub restated : {X : Type 0} (p : Reader X) (R S : X → List ℕ → Type 0) (F G : Fault → List ℕ → Type 0) →
    ((x : X) (b : List ℕ) → R x b → S x b) → ((x : X) (b : List ℕ) → S x b → R x b) →
    ((f : Fault) (b : List ℕ) → F f b → G f b) → ((f : Fault) (b : List ℕ) → G f b → F f b) → Reads p R F → Reads p S G
restated p R S F G to from there back reads = record {
  sound = λ b x rest h. let s = reads.sound b x rest h in (s.0, s.1, to x s.0 s.2);
  complete = λ x front rest h. reads.complete x front rest (from x front h);
  told = λ b f h. there f b (reads.told b f h);
  only = λ b f h. reads.only b f (back f b h);
}

-- ---- one after another

abbrev pub After : {X Y : Type 0} → (X → List ℕ → Type 0) → (X → Y → List ℕ → Type 0) → Y → List ℕ → Type 0
After {X} R S y b = (x : X) × (front : List ℕ) × (back : List ℕ) × (b ≡ front ++ back) × R x front × S x y back

pub after : {X Y : Type 0} (p : Reader X) (q : X → Reader Y) (R : X → List ℕ → Type 0) (F : Fault → List ℕ → Type 0) (S : X → Y → List ℕ → Type 0) (G : X → Fault → List ℕ → Type 0) →
    Reads p R F → ((x : X) (front : List ℕ) → R x front → Reads (q x) (S x) (G x)) → Reads (then_read p q) (After R S) (FaultAfter F R G)
after {X} {Y} p q R F S G here there = record { sound = sound; complete = complete; told = told; only = only }
  where
    sound : (b : List ℕ) (y : Y) (rest : List ℕ) → then_read p q b ≡ Ok (y, rest) → (front : List ℕ) × (b ≡ front ++ rest) × After R S y front
    sound b y rest h =
        let one = and_then_ok b (p b) q (y, rest) h in
        let first = here.sound b one.0.0 one.0.1 one.1 in
        let others = (there one.0.0 first.0 first.2).sound one.0.1 y rest one.2 in
        (first.0 ++ others.0, first.1 ∙ ap (λ r. first.0 ++ r) others.1 ∙ sym (append_assoc first.0 others.0 rest), (one.0.0, first.0, others.0, refl, first.2, others.2))

    complete : (y : Y) (front rest : List ℕ) → After R S y front → then_read p q (front ++ rest) ≡ Ok (y, rest)
    complete y front rest h =
        let regrouped : front ++ rest ≡ h.1 ++ (h.2 ++ rest) = ap (λ f. f ++ rest) h.3 ∙ append_assoc h.1 h.2 rest in
        ap (then_read p q) regrouped
        ∙ ap (λ r. and_then (h.1 ++ (h.2 ++ rest)) r q) (here.complete h.0 h.1 (h.2 ++ rest) h.4)
        ∙ ap (later (length (h.1 ++ (h.2 ++ rest)) - length (h.2 ++ rest))) ((there h.0 h.1 h.4).complete y h.2 rest h.5)

    told : (b : List ℕ) (f : Fault) → then_read p q b ≡ Err f → FaultAfter F R G f b
    told b f h = elim (and_then_err b (p b) q f h) [
      | inl e ↦ inl (here.told b f e)
      | inr e ↦
          let first = here.sound b e.0.0 e.0.1 e.2 in
          let far : length b - length e.0.1 ≡ length first.0 = omega (arith, ap length first.1, length-append first.0 e.0.1) in
          inr (e.0.0, first.0, e.0.1, e.1, first.1, first.2, (there e.0.0 first.0 first.2).told e.0.1 e.1 e.3, e.4 ∙ ap (λ n. shifted n e.1) far)
    ]

    only : (b : List ℕ) (f : Fault) → FaultAfter F R G f b → then_read p q b ≡ Err f
    only b f h = elim h [
      | inl e ↦ ap (λ r. and_then b r q) (here.only b f e)
      | inr e ↦
          let read : p b ≡ Ok (e.0, e.2) = ap p e.4 ∙ here.complete e.0 e.1 e.2 e.5 in
          let far : length b - length e.2 ≡ length e.1 = omega (arith, ap length e.4, length-append e.1 e.2) in
          ap (λ r. and_then b r q) read ∙ ap (later (length b - length e.2)) ((there e.0 e.1 e.5).only e.2 e.3 e.6) ∙ ap Err (ap (λ n. shifted n e.3) far ∙ sym e.7)
    ]

-- ---- a value that is made of another

abbrev pub MadeOf : {X Y : Type 0} → (X → Y) → (X → List ℕ → Type 0) → Y → List ℕ → Type 0
MadeOf {X} make R y b = (x : X) × (y ≡ make x) × R x b

pub made : {X Y : Type 0} (p : Reader X) (make : X → Y) (R : X → List ℕ → Type 0) (F : Fault → List ℕ → Type 0) →
    Reads p R F → Reads (then_read p (λ x. nothing (make x))) (MadeOf make R) F
made {X} {Y} p make R F reads = record { sound = sound; complete = complete; told = told; only = only }
  where
    sound : (b : List ℕ) (y : Y) (rest : List ℕ) → then_read p (λ x. nothing (make x)) b ≡ Ok (y, rest) → (front : List ℕ) × (b ≡ front ++ rest) × MadeOf make R y front
    sound b y rest h =
        let one = and_then_ok b (p b) (λ x. nothing (make x)) (y, rest) h in
        let is = ok_is one.2 in
        let read : p b ≡ Ok (one.0.0, rest) = one.1 ∙ ap (λ r. Ok (one.0.0, r)) (pair_snd is) in
        let first = reads.sound b one.0.0 rest read in
        (first.0, first.1, (one.0.0, sym (pair_fst is), first.2))

    complete : (y : Y) (front rest : List ℕ) → MadeOf make R y front → then_read p (λ x. nothing (make x)) (front ++ rest) ≡ Ok (y, rest)
    complete y front rest h =
        ap (λ r. and_then (front ++ rest) r (λ x. nothing (make x))) (reads.complete h.0 front rest h.2) ∙ ap (λ y. Ok (y, rest)) (sym h.1)

    told : (b : List ℕ) (f : Fault) → then_read p (λ x. nothing (make x)) b ≡ Err f → F f b
    told b f h = elim (and_then_err b (p b) (λ x. nothing (make x)) f h) [
      | inl e ↦ reads.told b f e
      | inr e ↦ absurd (never e.3)
    ]
      where
        never : {Z : Type 0} {z : Z} {g : Fault} → ◌≡◌ {A = Result Z Fault} (Ok z) (Err g) → ⊥
        never k = cc

    only : (b : List ℕ) (f : Fault) → F f b → then_read p (λ x. nothing (make x)) b ≡ Err f
    only b f h = ap (λ r. and_then b r (λ x. nothing (make x))) (reads.only b f h)

-- ---- so many bytes

abbrev pub Exactly : ℕ → List ℕ → List ℕ → Type 0
Exactly n x b = (length b ≡ n) × (x ≡ b)

-- fewer bytes than n, and the fault that they give
abbrev pub Fewer : (List ℕ → Fault) → ℕ → Fault → List ℕ → Type 0
Fewer fault n f b = (length b < n) × (f ≡ fault b)

abbrev bytes_by : Bool → Fault → ℕ → Reader (List ℕ)
bytes_by there fault n b = cond {A = Result (List ℕ × List ℕ) Fault} there (Ok (take n b, drop n b)) (Err fault)

bytes_sound : (fault : Fault) (n : ℕ) (b x rest : List ℕ) (t : Bool) → nat_le n (length b) ≡ t → bytes_by t fault n b ≡ Ok (x, rest) → (front : List ℕ) × (b ≡ front ++ rest) × Exactly n x front
bytes_sound fault n b x rest true e h =
    let is = ok_is h in
    let fits : n ≤ length b = grind (arith, nat_tests) in
    (take n b, sym (take-append-drop n b) ∙ ap (λ r. take n b ++ r) (pair_snd is), (simp length-take (omega arith), sym (pair_fst is)))
bytes_sound fault n b x rest false e h = cc

bytes_complete : (fault : Fault) (n : ℕ) (x front rest : List ℕ) → length front ≡ n → x ≡ front → bytes_or fault n (front ++ rest) ≡ Ok (x, rest)
bytes_complete fault n x front rest wide is =
    let fits : nat_le n (length (front ++ rest)) ≡ true = grind (arith, nat_tests, length-append) in
    let front_is : take n (front ++ rest) ≡ x = ap (λ k. take k (front ++ rest)) (sym wide) ∙ take-append_seam front rest ∙ sym is in
    let rest_is : drop n (front ++ rest) ≡ rest = ap (λ k. drop k (front ++ rest)) (sym wide) ∙ drop-append_seam front rest in
    rw (fits, front_is, rest_is) refl

bytes_told : (fault : Fault) (n : ℕ) (b : List ℕ) (f : Fault) (t : Bool) → nat_le n (length b) ≡ t → bytes_by t fault n b ≡ Err f → (length b < n) × (f ≡ fault)
bytes_told fault n b f true e h = cc
bytes_told fault n b f false e h = (grind (arith, nat_tests), sym (err_is h))

bytes_only : (fault : Fault) (n : ℕ) (b : List ℕ) (f : Fault) → length b < n → f ≡ fault → bytes_or fault n b ≡ Err f
bytes_only fault n b f short is =
    let misses : nat_le n (length b) ≡ false = grind (arith, nat_tests) in
    rw misses (ap Err (sym is))

pub so_many_or : (fault : List ℕ → Fault) (n : ℕ) → Reads (λ b. bytes_or (fault b) n b) (Exactly n) (Fewer fault n)
so_many_or fault n = record {
  sound = λ b x rest h. bytes_sound (fault b) n b x rest (nat_le n (length b)) refl h;
  complete = λ x front rest h. bytes_complete (fault (front ++ rest)) n x front rest h.0 h.1;
  told = λ b f h. bytes_told (fault b) n b f (nat_le n (length b)) refl h;
  only = λ b f h. bytes_only (fault b) n b f h.0 h.1;
}

pub so_many : (n : ℕ) → Reads (bytes_read n) (Exactly n) (TooShort n)
so_many n = so_many_or (λ b. fault_at code.Truncated 0 (pos n)) n

-- ---- inside a step

pub stepped : {X : Type 0} (step : Step) (p : Reader X) (R : X → List ℕ → Type 0) (F : Fault → List ℕ → Type 0) → Reads p R F → Reads (read_in step p) R (Under step F)
stepped {X} step p R F reads = record {
  sound = λ b x rest h. reads.sound b x rest (inside_ok step (p b) (x, rest) h);
  complete = λ x front rest h. ap (inside step) (reads.complete x front rest h);
  told = λ b f h. let found = inside_err step (p b) f h in (found.0, reads.told b found.0 found.1, found.2);
  only = λ b f h. ap (inside step) (reads.only b h.0 h.1) ∙ ap Err (sym h.2);
}

-- ---- a part that is alive, or absent

abbrev pub Alive : {X : Type 0} → Bool → (X → List ℕ → Type 0) → X → X → List ℕ → Type 0
Alive t R none x b = MatchBool t (R x b) ((x ≡ none) × (b ≡ []))

pub choice : {X : Type 0} (t : Bool) (p : Reader X) (none : X) (R : X → List ℕ → Type 0) (F : Fault → List ℕ → Type 0) →
    Reads p R F → Reads (λ b. cond t (p b) (Ok (none, b))) (Alive t R none) (λ f b. IsTrue t × F f b)
choice {X} true p none R F reads = record {
  sound = reads.sound;
  complete = reads.complete;
  told = λ b f h. (refl, reads.told b f h);
  only = λ b f h. reads.only b f h.1;
}
choice {X} false p none R F reads = record {
  sound = λ b x rest h. ([], pair_snd (ok_is h), (sym (pair_fst (ok_is h)), refl));
  complete = λ x front rest h. ap (λ f. Ok (none, f ++ rest)) h.1 ∙ ap (λ y. Ok (y, rest)) (sym h.0);
  told = λ b f h. absurd (never h);
  only = λ b f h. absurd (untrue h.0);
}
  where
    never : {Z : Type 0} {z : Z} {g : Fault} → ◌≡◌ {A = Result Z Fault} (Ok z) (Err g) → ⊥
    never k = cc

    untrue : IsTrue false → ⊥
    untrue k = cc

-- ---- nothing, and items one after another

pub none_read : {X : Type 0} → Reads (λ b. Ok ([], b)) (λ (xs : List X) b. (xs ≡ []) × (b ≡ [])) (λ _ _. ⊥)
none_read {X} = record {
  sound = λ b x rest h. ([], pair_snd (ok_is h), (sym (pair_fst (ok_is h)), refl));
  complete = λ x front rest h. ap (λ f. Ok ([], f ++ rest)) h.1 ∙ ap (λ y. Ok (y, rest)) (sym h.0);
  told = λ b f h. absurd (never h);
  only = λ b f h. absurd h;
}
  where
    never : {Z : Type 0} {z : Z} {g : Fault} → ◌≡◌ {A = Result Z Fault} (Ok z) (Err g) → ⊥
    never k = cc

-- the items of a group's entries
abbrev pub Times : {X : Type 0} → (X → List ℕ → Type 0) → ℕ → List X → List ℕ → Type 0
Times R n xs b = (length xs ≡ n) × IsConcatenation R xs b

times_to : {X : Type 0} (R : X → List ℕ → Type 0) (n : ℕ) (xs : List X) (b : List ℕ) → After R (λ x. MadeOf (λ ys. x ∷ ys) (Times R n)) xs b → Times R (suc n) xs b
times_to {X} R n xs b h =
    let whole : Times R (suc n) (h.0 ∷ h.5.0) b = (ap suc h.5.2.0, (h.1, h.2, h.3, h.4, h.5.2.1)) in
    subst (λ ys. Times R (suc n) ys b) (sym h.5.1) whole

times_from : {X : Type 0} (R : X → List ℕ → Type 0) (n : ℕ) (xs : List X) (b : List ℕ) → Times R (suc n) xs b → After R (λ x. MadeOf (λ ys. x ∷ ys) (Times R n)) xs b
times_from R n [] b h = absurd (omega (arith, h.0))
times_from R n (x ∷ xs) b h = (x, h.1.0, h.1.1, h.1.2, h.1.3, (xs, refl, (omega (arith, h.0), h.1.4)))

pub times : {X : Type 0} (p : Reader X) (R : X → List ℕ → Type 0) (F : Fault → List ℕ → Type 0) →
    (i n : ℕ) → (0 < n → Reads p R F) → Reads (times_read p i n) (Times R n) (TimesFault F R i n)
unfolding times_read
times {X} p R F i zero reads =
    restated (λ b. Ok ([], b)) (λ (xs : List X) b. (xs ≡ []) × (b ≡ [])) (Times R zero) (λ _ _. ⊥) (TimesFault F R i zero)
    (λ xs b h. subst (λ ys. Times R zero ys b) (sym h.0) (refl, h.1)) (λ xs b h. no_items xs b h.0 h.1) (λ f b h. h) (λ f b h. h) none_read
  where
    no_items : (xs : List X) (b : List ℕ) → length xs ≡ 0 → IsConcatenation R xs b → (xs ≡ []) × (b ≡ [])
    no_items [] b h k = (refl, k)
    no_items (x ∷ xs) b h k = absurd (omega (arith, h))
times {X} p R F i (suc n) reads =
    restated (times_read p i (suc n)) (After R (λ x. MadeOf (λ ys. x ∷ ys) (Times R n))) (Times R (suc n)) (FaultAfter (Under (way.Entry i) F) R (λ _. TimesFault F R (suc i) n)) (TimesFault F R i (suc n))
    (times_to R n) (times_from R n) (λ f b h. h) (λ f b h. h)
    (after (read_in (way.Entry i) p) (λ x. then_read (times_read p (suc i) n) (λ xs. nothing (x ∷ xs))) R (Under (way.Entry i) F) (λ x. MadeOf (λ ys. x ∷ ys) (Times R n)) (λ _. TimesFault F R (suc i) n)
    (stepped (way.Entry i) p R F (reads (omega arith)))
    (λ x front h. made (times_read p (suc i) n) (λ xs. x ∷ xs) (Times R n) (TimesFault F R (suc i) n) (times p R F (suc i) n (λ some. reads (omega arith)))))

each_to : {X Y : Type 0} (R : X → Y → List ℕ → Type 0) (x : X) (xs : List X) (ys : List Y) (b : List ℕ) → After (R x) (λ y. MadeOf (λ zs. y ∷ zs) (IsConcatenationOfBoth R xs)) ys b → IsConcatenationOfBoth R (x ∷ xs) ys b
each_to R x xs ys b h =
    let whole : IsConcatenationOfBoth R (x ∷ xs) (h.0 ∷ h.5.0) b = (h.1, h.2, h.3, h.4, h.5.2) in
    subst (λ zs. IsConcatenationOfBoth R (x ∷ xs) zs b) (sym h.5.1) whole

each_from : {X Y : Type 0} (R : X → Y → List ℕ → Type 0) (x : X) (xs : List X) (ys : List Y) (b : List ℕ) → IsConcatenationOfBoth R (x ∷ xs) ys b → After (R x) (λ y. MadeOf (λ zs. y ∷ zs) (IsConcatenationOfBoth R xs)) ys b
each_from R x xs [] b h = absurd h
each_from R x xs (y ∷ ys) b h = (y, h.0, h.1, h.2, h.3, (ys, refl, h.4))

pub each : {X Y : Type 0} (p : X → Reader Y) (R : X → Y → List ℕ → Type 0) (F : X → Fault → List ℕ → Type 0) → ((x : X) → Reads (p x) (R x) (F x)) →
    (i : ℕ) (xs : List X) → Reads (each_read p i xs) (IsConcatenationOfBoth R xs) (EachFault F R i xs)
unfolding each_read
each {X} {Y} p R F reads i [] =
    restated (λ b. Ok ([], b)) (λ (ys : List Y) b. (ys ≡ []) × (b ≡ [])) (IsConcatenationOfBoth R []) (λ _ _. ⊥) (EachFault F R i [])
    (λ ys b h. subst (λ zs. IsConcatenationOfBoth R [] zs b) (sym h.0) h.1) (λ ys b h. no_items ys b h) (λ f b h. h) (λ f b h. h) none_read
  where
    no_items : (ys : List Y) (b : List ℕ) → IsConcatenationOfBoth R [] ys b → (ys ≡ []) × (b ≡ [])
    no_items [] b h = (refl, h)
    no_items (y ∷ ys) b h = absurd h
each {X} {Y} p R F reads i (x ∷ xs) =
    restated (each_read p i (x ∷ xs)) (After (R x) (λ y. MadeOf (λ zs. y ∷ zs) (IsConcatenationOfBoth R xs))) (IsConcatenationOfBoth R (x ∷ xs)) (FaultAfter (Under (way.Part i) (F x)) (R x) (λ _. EachFault F R (suc i) xs)) (EachFault F R i (x ∷ xs))
    (each_to R x xs) (each_from R x xs) (λ f b h. h) (λ f b h. h)
    (after (read_in (way.Part i) (p x)) (λ y. then_read (each_read p (suc i) xs) (λ ys. nothing (y ∷ ys))) (R x) (Under (way.Part i) (F x)) (λ y. MadeOf (λ zs. y ∷ zs) (IsConcatenationOfBoth R xs)) (λ _. EachFault F R (suc i) xs)
    (stepped (way.Part i) (p x) (R x) (F x) (reads x))
    (λ y front h. made (each_read p (suc i) xs) (λ ys. y ∷ ys) (IsConcatenationOfBoth R xs) (EachFault F R (suc i) xs) (each p R F reads (suc i) xs)))

-- ---- a value that is judged

abbrev pub JudgedOf : {A X : Type 0} → (A → List ℕ → Type 0) → (X → A → Type 0) → X → List ℕ → Type 0
JudgedOf {A} R S x b = (a : A) × R a b × S x a

abbrev pub JudgedFault : {A : Type 0} → (Fault → List ℕ → Type 0) → (A → List ℕ → Type 0) → (Fault → A → Type 0) → Fault → List ℕ → Type 0
JudgedFault {A} F R G f b = F f b ⊎ ((a : A) × (front : List ℕ) × (back : List ℕ) × (b ≡ front ++ back) × R a front × G f a)

judged_ok : {A X : Type 0} (q : A → Result X Fault) (r : Result (A × List ℕ) Fault) (x : X) (rest : List ℕ) → and_check q r ≡ Ok (x, rest) → (a : A) × (r ≡ Ok (a, rest)) × (q a ≡ Ok x)
judged_ok q (Err f) x rest h = cc
judged_ok q (Ok r) x rest h =
    let found = bind_ok (q r.0) (λ y. Ok (y, r.1)) (x, rest) h in
    (r.0, ap (λ k. Ok (r.0, k)) (pair_snd (ok_is found.2)), found.1 ∙ ap Ok (pair_fst (ok_is found.2)))

judged_err : {A X : Type 0} (q : A → Result X Fault) (r : Result (A × List ℕ) Fault) (f : Fault) → and_check q r ≡ Err f → (r ≡ Err f) ⊎ ((a : A) × (rest : List ℕ) × (r ≡ Ok (a, rest)) × (q a ≡ Err f))
judged_err q (Err g) f h = inl (ap Err (err_is h))
judged_err q (Ok r) f h = elim (bind_err (q r.0) (λ y. Ok (y, r.1)) f h) [
  | inl e ↦ inr (r.0, r.1, refl, e)
  | inr e ↦ absurd (never e.2)
]
  where
    never : {Z : Type 0} {z : Z} {g : Fault} → ◌≡◌ {A = Result Z Fault} (Ok z) (Err g) → ⊥
    never k = cc

pub computed : {A X : Type 0} (p : Reader A) (q : A → Result X Fault) (R : A → List ℕ → Type 0) (F : Fault → List ℕ → Type 0) (Given : A → Type 0) (S : X → A → Type 0) (G : Fault → A → Type 0) →
    Reads p R F → ((a : A) (b : List ℕ) → R a b → Given a) → Judges Given q S G → Reads (read_and_check p q) (JudgedOf R S) (JudgedFault F R G)
computed {A} {X} p q R F Given S G reads given judges = record { sound = sound; complete = complete; told = told; only = only }
  where
    sound : (b : List ℕ) (x : X) (rest : List ℕ) → read_and_check p q b ≡ Ok (x, rest) → (front : List ℕ) × (b ≡ front ++ rest) × JudgedOf R S x front
    sound b x rest h =
        let found = judged_ok q (p b) x rest h in
        let first = reads.sound b found.0 rest found.1 in
        (first.0, first.1, (found.0, first.2, judges.sound found.0 x (given found.0 first.0 first.2) found.2))

    complete : (x : X) (front rest : List ℕ) → JudgedOf R S x front → read_and_check p q (front ++ rest) ≡ Ok (x, rest)
    complete x front rest h =
        ap (and_check q) (reads.complete h.0 front rest h.1) ∙ ap (λ r. r >>= (λ y. Ok (y, rest))) (judges.complete h.0 x h.2)

    told : (b : List ℕ) (f : Fault) → read_and_check p q b ≡ Err f → JudgedFault F R G f b
    told b f h = elim (judged_err q (p b) f h) [
      | inl e ↦ inl (reads.told b f e)
      | inr e ↦
          let first = reads.sound b e.0 e.1 e.2 in
          inr (e.0, first.0, e.1, first.1, first.2, judges.told e.0 f (given e.0 first.0 first.2) e.3)
    ]

    only : (b : List ℕ) (f : Fault) → JudgedFault F R G f b → read_and_check p q b ≡ Err f
    only b f h = elim h [
      | inl e ↦ ap (and_check q) (reads.only b f e)
      | inr e ↦
          let read : p b ≡ Ok (e.0, e.2) = ap p e.3 ∙ reads.complete e.0 e.1 e.2 e.4 in
          ap (and_check q) read ∙ ap (λ r. r >>= (λ y. Ok (y, e.2))) (judges.only e.0 f e.5)
    ]

-- ---- what is left at the end is judged

abbrev pub All : {A : Type 0} → A → Type 0
All a = Unit {0}

pub at_end : {X Y : Type 0} (p : Reader X) (q : X → List ℕ → Result Y Fault) (R : X → List ℕ → Type 0) (F : Fault → List ℕ → Type 0) (S : X → Y → List ℕ → Type 0) (G : X → Fault → List ℕ → Type 0) →
    Reads p R F → ((x : X) (front : List ℕ) → R x front → Judges All (q x) (S x) (G x)) → Judges All (then_all p q) (After R S) (FaultAfter F R G)
at_end {X} {Y} p q R F S G here there = record { sound = sound; complete = complete; told = told; only = only }
  where
    sound : (b : List ℕ) (y : Y) → All b → then_all p q b ≡ Ok y → After R S y b
    sound b y g h =
        let one = and_then_ok b (p b) q y h in
        let first = here.sound b one.0.0 one.0.1 one.1 in
        (one.0.0, first.0, one.0.1, first.1, first.2, (there one.0.0 first.0 first.2).sound one.0.1 y tt one.2)

    complete : (b : List ℕ) (y : Y) → After R S y b → then_all p q b ≡ Ok y
    complete b y h =
        ap (then_all p q) h.3
        ∙ ap (λ r. and_then (h.1 ++ h.2) r q) (here.complete h.0 h.1 h.2 h.4)
        ∙ ap (later (length (h.1 ++ h.2) - length h.2)) ((there h.0 h.1 h.4).complete h.2 y h.5)

    told : (b : List ℕ) (f : Fault) → All b → then_all p q b ≡ Err f → FaultAfter F R G f b
    told b f g h = elim (and_then_err b (p b) q f h) [
      | inl e ↦ inl (here.told b f e)
      | inr e ↦
          let first = here.sound b e.0.0 e.0.1 e.2 in
          let far : length b - length e.0.1 ≡ length first.0 = omega (arith, ap length first.1, length-append first.0 e.0.1) in
          inr (e.0.0, first.0, e.0.1, e.1, first.1, first.2, (there e.0.0 first.0 first.2).told e.0.1 e.1 tt e.3, e.4 ∙ ap (λ n. shifted n e.1) far)
    ]

    only : (b : List ℕ) (f : Fault) → FaultAfter F R G f b → then_all p q b ≡ Err f
    only b f h = elim h [
      | inl e ↦ ap (λ r. and_then b r q) (here.only b f e)
      | inr e ↦
          let read : p b ≡ Ok (e.0, e.2) = ap p e.4 ∙ here.complete e.0 e.1 e.2 e.5 in
          let far : length b - length e.2 ≡ length e.1 = omega (arith, ap length e.4, length-append e.1 e.2) in
          ap (λ r. and_then b r q) read ∙ ap (later (length b - length e.2)) ((there e.0 e.1 e.5).only e.2 e.3 e.6) ∙ ap Err (ap (λ n. shifted n e.3) far ∙ sym e.7)
    ]
