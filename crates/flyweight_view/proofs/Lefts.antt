-- Items that are read one after another, one by one.
use Rattle.std.proofs.Common.{◌≡◌, ◌≤◌, ◌+◌, ◌-◌, ℕ, zero, suc, List, [], ◌∷◌, length, drop, Result, Ok, Err, refl, sym, ap, ◌∙◌, subst, arith, length-drop}
use Rattle.std.specs.Prelude.{IsOk}
use Rattle.std.proofs.lemmas.List.{drop-drop}
use Rattle.sbe_types.specs.declared.path.Step.{Step}
use Rattle.sbe_types.specs.declared.path.Step.TheVariants as way
use Rattle.sbe_wire.specs.Faults.{Fault}
use Rattle.sbe_wire.specs.Reading.{Reader, later, inside, and_then, then_read, nothing, read_in, times_read, each_read}
use Rattle.sbe_wire.proofs.Combine.{ok_is, later_ok, inside_ok}
use Rattle.body_walk.specs.inner.Cursor.{placed, skim}
use Rattle.flyweight_view.specs.inner.Lefts.{items_of, rest_of}
use Rattle.body_walk.proofs.Cursor.{Leaves}

-- ---- answers

pub ok_there : {X : Type 0} (r : Result X Fault) → IsOk r → (x : X) × (r ≡ Ok x)
ok_there (Ok x) h = (x, refl)
ok_there (Err f) h = cc

pub ok_from : {X : Type 0} (r : Result X Fault) (x : X) → r ≡ Ok x → IsOk r
ok_from {X} r x e = subst (λ (z : Result X Fault). IsOk z) (sym e) refl

pub never_ok : {X : Type 0} (r : Result X Fault) (f : Fault) → r ≡ Err f → IsOk r → ⊥
never_ok (Ok x) f e h = cc
never_ok (Err g) f e h = cc

pub step_ok : {X Y : Type 0} (b : List ℕ) (r : Result (X × List ℕ) Fault) (q : X → Reader Y) (y : Y × List ℕ) → and_then b r q ≡ Ok y → (p : X × List ℕ) × (r ≡ Ok p) × (q p.0 p.1 ≡ Ok y)
step_ok b (Err f) q y h = cc
step_ok b (Ok p) q y h = (p, refl, later_ok (length b - length p.1) (q p.0 p.1) y h)

-- what is read stays the same after other bytes
pub later_same : {X : Type 0} (n : ℕ) (r : Result X Fault) → IsOk (later n r) → later n r ≡ r
later_same n (Ok x) h = refl
later_same n (Err f) h = cc

-- ---- one item, and those after it

abbrev cons_read : {X : Type 0} → Step → Reader X → Reader (List X) → Reader (List X)
cons_read step p more = then_read (read_in step p) (λ x. then_read more (λ xs. nothing (x ∷ xs)))

pub record Cons {X : Type 0} (p : Reader X) (more : Reader (List X)) (b : List ℕ) (r : List X × List ℕ) : Type 0 where
  pub x : X
  pub rest : List ℕ
  pub xs : List X
  pub first : p b ≡ Ok (x, rest)
  pub others : more rest ≡ Ok (xs, r.1)
  pub whole : r.0 ≡ x ∷ xs

pub cons_ok : {X : Type 0} (step : Step) (p : Reader X) (more : Reader (List X)) (b : List ℕ) (r : List X × List ℕ) → cons_read step p more b ≡ Ok r → Cons p more b r
cons_ok {X} step p more b r h =
    let one = step_ok b (inside step (p b)) (λ x. then_read more (λ xs. nothing (x ∷ xs))) r h in
    let two = step_ok one.0.1 (more one.0.1) (λ xs. nothing (one.0.0 ∷ xs)) r one.2 in
    let last = ok_is two.2 in
    record {
      x = one.0.0;
      rest = one.0.1;
      xs = two.0.0;
      first = inside_ok step (p b) one.0 one.1;
      others = two.1 ∙ ap (λ (z : List X × List ℕ). Ok (two.0.0, z.1)) last;
      whole = sym (ap (λ (z : List X × List ℕ). z.0) last);
    }

pub cons_made : {X : Type 0} (step : Step) (p : Reader X) (more : Reader (List X)) (b rest last : List ℕ) (x : X) (xs : List X) → p b ≡ Ok (x, rest) → more rest ≡ Ok (xs, last) → cons_read step p more b ≡ Ok (x ∷ xs, last)
cons_made {X} step p more b rest last x xs e f =
    ap (λ (r : Result (X × List ℕ) Fault). and_then b (inside step r) (λ x. then_read more (λ xs. nothing (x ∷ xs)))) e
    ∙ ap (λ (r : Result (List X × List ℕ) Fault). later (length b - length rest) (and_then rest r (λ xs. nothing (x ∷ xs)))) f

-- the numbers of items only tell where a fault lies
pub times_any : {X : Type 0} (p : Reader X) (i j n : ℕ) (b : List ℕ) (r : List X × List ℕ) → times_read p i n b ≡ Ok r → times_read p j n b ≡ Ok r
unfolding times_read
times_any p i j zero b r h = h
times_any {X} p i j (suc n) b r h =
    let c = cons_ok (way.Entry i) p (times_read p (suc i) n) b r h in
    cons_made (way.Entry j) p (times_read p (suc j) n) b c.rest r.1 c.x c.xs c.first (times_any p (suc i) (suc j) n c.rest (c.xs, r.1) c.others)
    ∙ ap (λ (l : List X). Ok (l, r.1)) (sym c.whole)

pub each_any : {X Y : Type 0} (p : X → Reader Y) (i j : ℕ) (xs : List X) (b : List ℕ) (r : List Y × List ℕ) → each_read p i xs b ≡ Ok r → each_read p j xs b ≡ Ok r
unfolding each_read
each_any p i j [] b r h = h
each_any {X} {Y} p i j (x ∷ xs) b r h =
    let c = cons_ok (way.Part i) (p x) (each_read p (suc i) xs) b r h in
    cons_made (way.Part j) (p x) (each_read p (suc j) xs) b c.rest r.1 c.x c.xs c.first (each_any p (suc i) (suc j) xs c.rest (c.xs, r.1) c.others)
    ∙ ap (λ (l : List Y). Ok (l, r.1)) (sym c.whole)

-- the first of some items, and those after it
pub record First {X : Type 0} (p : Reader X) (all more : Reader (List X)) (b : List ℕ) : Type 0 where
  pub x : X
  pub rest : List ℕ
  pub first : p b ≡ Ok (x, rest)
  pub others : IsOk (more rest)
  pub items : items_of (all b) ≡ x ∷ items_of (more rest)
  pub rests : rest_of (all b) ≡ rest_of (more rest)

made_first : {X : Type 0} (p : Reader X) (all more other : Reader (List X)) (b : List ℕ) (r : List X × List ℕ) → all b ≡ Ok r → (c : Cons p other b r) → more c.rest ≡ Ok (c.xs, r.1) → First p all more b
made_first {X} p all more other b r is c others = record {
  x = c.x;
  rest = c.rest;
  first = c.first;
  others = ok_from (more c.rest) (c.xs, r.1) others;
  items = ap items_of is ∙ c.whole ∙ ap (λ (z : Result (List X × List ℕ) Fault). c.x ∷ items_of z) (sym others);
  rests = ap rest_of is ∙ ap rest_of (sym others);
}

pub times_next : {X : Type 0} (p : Reader X) (n : ℕ) (b : List ℕ) → IsOk (times_read p 0 (suc n) b) → First p (times_read p 0 (suc n)) (times_read p 0 n) b
unfolding times_read
times_next p n b h =
    let r = ok_there (times_read p 0 (suc n) b) h in
    let c = cons_ok (way.Entry 0) p (times_read p 1 n) b r.0 r.1 in
    made_first p (times_read p 0 (suc n)) (times_read p 0 n) (times_read p 1 n) b r.0 r.1 c (times_any p 1 0 n c.rest (c.xs, r.0.1) c.others)

pub each_next : {X Y : Type 0} (p : X → Reader Y) (x : X) (xs : List X) (b : List ℕ) → IsOk (each_read p 0 (x ∷ xs) b) → First (p x) (each_read p 0 (x ∷ xs)) (each_read p 0 xs) b
unfolding each_read
each_next p x xs b h =
    let r = ok_there (each_read p 0 (x ∷ xs) b) h in
    let c = cons_ok (way.Part 0) (p x) (each_read p 1 xs) b r.0 r.1 in
    made_first (p x) (each_read p 0 (x ∷ xs)) (each_read p 0 xs) (each_read p 1 xs) b r.0 r.1 c (each_any p 1 0 xs c.rest (c.xs, r.0.1) c.others)

-- one item alone
pub times_one : {X : Type 0} (p : Reader X) (b rest : List ℕ) (x : X) → p b ≡ Ok (x, rest) → times_read p 0 1 b ≡ Ok (x ∷ [], rest)
unfolding times_read
times_one {X} p b rest x e = cons_made (way.Entry 0) p (times_read p 1 0) b rest rest x [] e refl

-- as many items are read as are told
pub times_many : {X : Type 0} (p : Reader X) (n : ℕ) (b : List ℕ) → IsOk (times_read p 0 n b) → length (items_of (times_read p 0 n b)) ≡ n
unfolding times_read
times_many p zero b h = refl
times_many p (suc n) b h =
    let f = times_next p n b h in
    ap length f.items ∙ ap suc (times_many p n f.rest f.others)

pub each_many : {X Y : Type 0} (p : X → Reader Y) (i : ℕ) (xs : List X) (b : List ℕ) (r : List Y × List ℕ) → each_read p i xs b ≡ Ok r → length r.0 ≡ length xs
unfolding each_read
each_many {X} {Y} p i [] b r h = ap (λ (z : List Y × List ℕ). length z.0) (sym (ok_is h))
each_many p i (x ∷ xs) b r h =
    let c = cons_ok (way.Part i) (p x) (each_read p (suc i) xs) b r h in
    ap length c.whole ∙ ap suc (each_many p (suc i) xs c.rest (c.xs, r.1) c.others)

-- ---- places

-- where it is read, the bytes after it are those from the place on that is told
pub read_there : {X : Type 0} (p : Reader X) (body : List ℕ) (at next : ℕ) → at ≤ length body → Leaves p → IsOk (p (drop at body)) → Ok next ≡ skim p body at → (rest_of (p (drop at body)) ≡ drop next body) × (next ≤ length body)
read_there {X} p body at next near leaves ok is =
    let r = ok_there (p (drop at body)) ok in
    let found = leaves.left (drop at body) r.0.0 r.0.1 r.1 in
    let rest : r.0.1 ≡ drop (at + found.0) body = found.2 ∙ drop-drop found.0 at body in
    let long = length-drop at body in
    let here : ◌≡◌ {A = Result ℕ Fault} (Ok next) (Ok (length body - length r.0.1)) = is ∙ ap (placed (length body) at) r.1 in
    let far : next ≡ length body - length r.0.1 = ok_is here in
    let left : length r.0.1 ≡ length body - (at + found.0) = ap length rest ∙ length-drop (at + found.0) body in
    let fits : at + found.0 ≤ length body = omega (arith, found.1, long, near) in
    let there : next ≡ at + found.0 = omega (arith, far, left, fits) in
    (ap rest_of r.1 ∙ rest ∙ ap (λ n. drop n body) (sym there), omega (arith, there, fits))

-- a value that is made of what is read
pub made_there : {X Y : Type 0} (p : Reader X) (make : X → Y) (b : List ℕ) → IsOk (then_read p (λ x. nothing (make x)) b) → IsOk (p b) × (rest_of (then_read p (λ x. nothing (make x)) b) ≡ rest_of (p b))
made_there {X} {Y} p make b h = made (p b) h
  where
    made : (r : Result (X × List ℕ) Fault) → IsOk (and_then b r (λ x. nothing (make x))) → IsOk r × (rest_of (and_then b r (λ x. nothing (make x))) ≡ rest_of r)
    made (Ok r) h = (refl, refl)
    made (Err f) h = cc
