-- From readers of lists to a cursor in the body.
use Rattle.std.proofs.Common.{◌≡◌, ◌≤◌, ℕ, zero, suc, ◌+◌, ◌-◌, Bool, true, false, cond, List, [], ◌∷◌, length, take, drop, Result, Ok, Err, refl, sym, ap, ◌∙◌, subst, arith, add_assoc, length-drop}
use Rattle.std.specs.Prelude.{nat_le, pos}
use borrow.Author.Tests.{leb-true}
use Rattle.std.proofs.lemmas.List.{drop-drop}
use Rattle.sbe_types.specs.declared.path.Step.{Step}
use Rattle.sbe_types.specs.declared.path.Step.TheVariants as way
use Rattle.sbe_wire.specs.Faults.{Fault, fault_at}
use Rattle.sbe_wire.specs.declared.codes.FCode.TheVariants as code
use Rattle.sbe_wire.specs.Reading.{Reader, ◌>>=◌, later, inside, and_then, then_read, nothing, and_check, read_and_check, bytes_read, read_in, times_read, each_read}
use Rattle.body_walk.specs.inner.Cursor.{placed, skim, steps_end}

-- ---- what is left after a reader is an end of the bytes

abbrev pub EndOf : {X : Type 0} → List ℕ → Result (X × List ℕ) Fault → Type 0
EndOf {X} b r = (x : X) (rest : List ℕ) → r ≡ Ok (x, rest) → (k : ℕ) × (k ≤ length b) × (rest ≡ drop k b)

pub record Leaves {X : Type 0} (p : Reader X) : Type 0 where
  pub left : (b : List ℕ) → EndOf b (p b)

pub fst_is : {X Y E : Type 0} {x y : X} {u v : Y} → ◌≡◌ {A = Result (X × Y) E} (Ok (x, u)) (Ok (y, v)) → x ≡ y
fst_is {X} {Y} {x = x} {y = y} {u = u} {v = v} h = let e : ◌≡◌ {A = X × Y} (x, u) (y, v) = cc in ap (λ p. p.0) e

pub snd_is : {X Y E : Type 0} {x y : X} {u v : Y} → ◌≡◌ {A = Result (X × Y) E} (Ok (x, u)) (Ok (y, v)) → u ≡ v
snd_is {X} {Y} {x = x} {y = y} {u = u} {v = v} h = let e : ◌≡◌ {A = X × Y} (x, u) (y, v) = cc in ap (λ p. p.1) e

pub at_if : {X : Type 0} (t : Bool) (b : List ℕ) (r s : Result (X × List ℕ) Fault) → EndOf b r → EndOf b s → EndOf b (cond t r s)
at_if true b r s h k = h
at_if false b r s h k = k

pub at_err : {X : Type 0} (b : List ℕ) (f : Fault) → EndOf {X = X} b (Err f)
at_err b f x rest h = cc

pub at_all : {X : Type 0} (b : List ℕ) (y : X) → EndOf b (Ok (y, b))
at_all b y x rest h = (0, omega arith, sym (snd_is h))

at_later : {X : Type 0} (n k : ℕ) (b : List ℕ) (r : Result (X × List ℕ) Fault) → k ≤ length b → EndOf (drop k b) r → EndOf b (later n r)
at_later n k b (Err f) h e x rest is = cc
at_later n k b (Ok r) h e x rest is =
    let found = e r.0 r.1 refl in
    (k + found.0, omega (arith, length-drop k b, found.1), sym (snd_is is) ∙ found.2 ∙ drop-drop found.0 k b)

at_then : {X Y : Type 0} (b : List ℕ) (r : Result (X × List ℕ) Fault) (q : X → Reader Y) → EndOf b r → ((x : X) → Leaves (q x)) → EndOf b (and_then b r q)
at_then b (Err f) q e all x rest is = cc
at_then b (Ok r) q e all x rest is =
    let found = e r.0 r.1 refl in
    at_later (length b - length r.1) found.0 b (q r.0 r.1) found.1 (subst (λ rest. EndOf rest (q r.0 r.1)) found.2 ((all r.0).left r.1)) x rest is

pub leaves_then : {X Y : Type 0} (p : Reader X) (q : X → Reader Y) → Leaves p → ((x : X) → Leaves (q x)) → Leaves (then_read p q)
leaves_then p q h all = record { left = λ b. at_then b (p b) q (h.left b) all }

pub leaves_nothing : {X : Type 0} (y : X) → Leaves (nothing y)
leaves_nothing y = record { left = λ b. at_all b y }

pub at_inside : {X : Type 0} (step : Step) (b : List ℕ) (r : Result (X × List ℕ) Fault) → EndOf b r → EndOf b (inside step r)
at_inside step b (Ok r) h x rest is = h x rest is
at_inside step b (Err f) h x rest is = cc

pub leaves_in : {X : Type 0} (step : Step) (p : Reader X) → Leaves p → Leaves (read_in step p)
leaves_in step p h = record { left = λ b. at_inside step b (p b) (h.left b) }

at_made : {X Y : Type 0} (b rest : List ℕ) (o : Result Y Fault) (x : X) → EndOf b (Ok (x, rest)) → EndOf b (o >>= (λ y. Ok (y, rest)))
at_made b rest (Err f) x e y last is = cc
at_made b rest (Ok z) x e y last is = let found = e x rest refl in (found.0, found.1, sym (snd_is is) ∙ found.2)

pub at_judged : {X Y : Type 0} (b : List ℕ) (q : X → Result Y Fault) (r : Result (X × List ℕ) Fault) → EndOf b r → EndOf b (and_check q r)
at_judged b q (Err f) h x rest is = cc
at_judged b q (Ok r) h x rest is = at_made b r.1 (q r.0) r.0 h x rest is

pub leaves_judged : {X Y : Type 0} (p : Reader X) (q : X → Result Y Fault) → Leaves p → Leaves (read_and_check p q)
leaves_judged p q h = record { left = λ b. at_judged b q (p b) (h.left b) }

pub at_bytes : (t : Bool) (n : ℕ) (b : List ℕ) (f : Fault) → (t ≡ true → n ≤ length b) → EndOf b (cond t (Ok (take n b, drop n b)) (Err f))
at_bytes true n b f h x rest is = (n, h refl, sym (snd_is is))
at_bytes false n b f h x rest is = cc

pub leaves_bytes : (n : ℕ) → Leaves (bytes_read n)
leaves_bytes n = record { left = λ b. at_bytes (nat_le n (length b)) n b _ (leb-true n (length b)) }

pub leaves_times : {X : Type 0} (p : Reader X) (i n : ℕ) → Leaves p → Leaves (times_read p i n)
unfolding times_read
leaves_times {X} p i zero h = leaves_nothing {X = List X} []
leaves_times {X} p i (suc n) h =
    leaves_then _ _ (leaves_in (way.Entry i) p h) (λ x. leaves_then _ _ (leaves_times p (suc i) n h) (λ xs. leaves_nothing (x ∷ xs)))

pub leaves_each : {X Y : Type 0} (p : X → Reader Y) (i : ℕ) (xs : List X) → ((x : X) → Leaves (p x)) → Leaves (each_read p i xs)
unfolding each_read
leaves_each {X} {Y} p i [] h = leaves_nothing {X = List Y} []
leaves_each {X} {Y} p i (x ∷ xs) h =
    leaves_then _ _ (leaves_in (way.Part i) (p x) (h x)) (λ y. leaves_then _ _ (leaves_each p (suc i) xs h) (λ ys. leaves_nothing (y ∷ ys)))

-- ---- a cursor

placed_later : {X : Type 0} (len at d : ℕ) (r : Result (X × List ℕ) Fault) → placed len at (later d r) ≡ placed len (at + d) r
placed_later len at d (Ok r) = refl
placed_later len at d (Err f) = ap (λ n. Err (record { code = f.code; path = f.path; offset = n; detail = f.detail })) (sym (add_assoc at d f.offset))

pub placed_inside : {X : Type 0} (len at : ℕ) (step : Step) (r : Result (X × List ℕ) Fault) → placed len at (inside step r) ≡ inside step (placed len at r)
placed_inside len at step (Ok r) = refl
placed_inside len at step (Err f) = refl

skim_went : {X Y : Type 0} (r : Result (X × List ℕ) Fault) (q : X → Reader Y) (g : ℕ → Result ℕ Fault) (body : List ℕ) (at : ℕ) → at ≤ length body → EndOf (drop at body) r →
    ((x : X) (n : ℕ) → n ≤ length body → r ≡ Ok (x, drop n body) → skim (q x) body n ≡ g n) →
    placed (length body) at (and_then (drop at body) r q) ≡ (placed (length body) at r >>= g)
skim_went (Err f) q g body at h e same = refl
skim_went (Ok r) q g body at h e same =
    let found = e r.0 r.1 refl in
    let rest : r.1 ≡ drop (at + found.0) body = found.2 ∙ drop-drop found.0 at body in
    let long : length (drop at body) ≡ length body - at = length-drop at body in
    let near : at + found.0 ≤ length body = omega (arith, found.1) in
    let left : length r.1 ≡ length body - (at + found.0) = ap length rest ∙ length-drop (at + found.0) body in
    let far : at + (length (drop at body) - length r.1) ≡ at + found.0 = omega (arith, found.1) in
    let there : length body - length r.1 ≡ at + found.0 = omega arith in
    placed_later (length body) at (length (drop at body) - length r.1) (q r.0 r.1)
    ∙ ap (λ n. placed (length body) n (q r.0 r.1)) far
    ∙ ap (λ b. placed (length body) (at + found.0) (q r.0 b)) rest
    ∙ same r.0 (at + found.0) near (ap (λ b. Ok (r.0, b)) rest)
    ∙ ap g (sym there)

-- one reader after another: what the second does is known at each place
pub skim_then : {X Y : Type 0} (p : Reader X) (q : X → Reader Y) (g : ℕ → Result ℕ Fault) (body : List ℕ) (at : ℕ) → at ≤ length body → Leaves p →
    ((x : X) (n : ℕ) → n ≤ length body → p (drop at body) ≡ Ok (x, drop n body) → skim (q x) body n ≡ g n) →
    skim (then_read p q) body at ≡ (skim p body at >>= g)
skim_then p q g body at h leaves same = skim_went (p (drop at body)) q g body at h (leaves.left (drop at body)) same

pub bind_last : {X : Type 0} (r : Result X Fault) → (r >>= (λ x. Ok x)) ≡ r
bind_last (Ok x) = refl
bind_last (Err f) = refl

pub skim_nothing : {X : Type 0} (x : X) (body : List ℕ) (at : ℕ) → at ≤ length body → skim (nothing x) body at ≡ Ok at
skim_nothing x body at h = ap Ok (omega (arith, length-drop at body))

pub skim_made : {X Y : Type 0} (p : Reader X) (make : X → Y) (body : List ℕ) (at : ℕ) → at ≤ length body → Leaves p → skim (then_read p (λ x. nothing (make x))) body at ≡ skim p body at
skim_made p make body at h leaves = skim_then p (λ x. nothing (make x)) (λ n. Ok n) body at h leaves (λ x n near e. skim_nothing (make x) body n near) ∙ bind_last (skim p body at)

pub times_walked : {X : Type 0} (p : Reader X) (i n : ℕ) (body : List ℕ) (at : ℕ) → at ≤ length body → Leaves p → skim (times_read p i n) body at ≡ steps_end (skim p body) i n at
unfolding times_read
times_walked {X} p i zero body at h leaves = skim_nothing {X = List X} [] body at h
times_walked {X} p i (suc n) body at h leaves =
    let next_i : suc i ≡ i + 1 = omega arith in
    skim_then (read_in (way.Entry i) p) (λ x. then_read (times_read p (suc i) n) (λ xs. nothing (x ∷ xs))) (λ next. steps_end (skim p body) (i + 1) n next) body at h (leaves_in (way.Entry i) p leaves)
    (λ x m near e. skim_made (times_read p (suc i) n) (λ xs. x ∷ xs) body m near (leaves_times p (suc i) n leaves) ∙ times_walked p (suc i) n body m near leaves ∙ ap (λ k. steps_end (skim p body) k n m) next_i)
    ∙ ap (λ r. r >>= (λ next. steps_end (skim p body) (i + 1) n next)) (placed_inside (length body) at (way.Entry i) (p (drop at body)))

judged_went : {X Y : Type 0} (t : Bool) (k : ℕ) (q : List ℕ → Result X Fault) (s : X → Reader Y) (g : X → Result ℕ Fault) (body : List ℕ) (at : ℕ) (r : Result X Fault) → q (take k (drop at body)) ≡ r → at ≤ length body → (t ≡ true → k ≤ length body - at) →
    ((x : X) → at + k ≤ length body → skim (s x) body (at + k) ≡ g x) →
    placed (length body) at (and_then (drop at body) (and_check q (cond t (Ok (take k (drop at body), drop k (drop at body))) (Err (fault_at code.Truncated 0 (pos k))))) s)
    ≡ cond t (later at r >>= g) (Err (fault_at code.Truncated at (pos k)))
judged_went false k q s g body at r is h fits same = ap (λ n. Err (fault_at code.Truncated n (pos k))) (omega arith)
judged_went {X} true k q s g body at (Err f) is h fits same =
    ap (λ (z : Result X Fault). placed (length body) at (and_then (drop at body) (z >>= (λ y. Ok (y, drop k (drop at body)))) s)) is
judged_went {X} true k q s g body at (Ok x) is h fits same =
    let enough = fits refl in
    let near : at + k ≤ length body = omega arith in
    let long : length (drop at body) ≡ length body - at = length-drop at body in
    let left : length (drop k (drop at body)) ≡ length body - (at + k) = ap length (drop-drop k at body) ∙ length-drop (at + k) body in
    let far : at + (length (drop at body) - length (drop k (drop at body))) ≡ at + k = omega arith in
    ap (λ (z : Result X Fault). placed (length body) at (and_then (drop at body) (z >>= (λ y. Ok (y, drop k (drop at body)))) s)) is
    ∙ placed_later (length body) at (length (drop at body) - length (drop k (drop at body))) (s x (drop k (drop at body)))
    ∙ ap (λ n. placed (length body) n (s x (drop k (drop at body)))) far
    ∙ ap (λ b. placed (length body) (at + k) (s x b)) (drop-drop k at body)
    ∙ same x near

-- so many bytes that are judged, and then a reader
pub skim_judged : {X Y : Type 0} (k : ℕ) (q : List ℕ → Result X Fault) (s : X → Reader Y) (g : X → Result ℕ Fault) (body : List ℕ) (at : ℕ) → at ≤ length body →
    ((x : X) → at + k ≤ length body → skim (s x) body (at + k) ≡ g x) →
    skim (then_read (read_and_check (bytes_read k) q) s) body at ≡ cond (nat_le k (length body - at)) (later at (q (take k (drop at body))) >>= g) (Err (fault_at code.Truncated at (pos k)))
skim_judged k q s g body at h same =
    ap (λ n. placed (length body) at (and_then (drop at body) (and_check q (cond (nat_le k n) (Ok (take k (drop at body), drop k (drop at body))) (Err (fault_at code.Truncated 0 (pos k))))) s)) (length-drop at body)
    ∙ judged_went (nat_le k (length body - at)) k q s g body at (q (take k (drop at body))) refl h (leb-true k (length body - at)) same
