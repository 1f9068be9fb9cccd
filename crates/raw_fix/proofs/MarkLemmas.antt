-- The first mark, and how far bytes that are no text go.
use Rattle.std.proofs.Common.{◌≡◌, ◌<◌, ℕ, Bool, true, false, List, [], ◌∷◌, ◌++◌, length, take, Option, Some, None, inl, inr, refl, sym, ap, ◌∙◌, subst, arith, append_assoc}
use Rattle.std.specs.Prelude.{◌==◌, if◌then◌else◌}
use Rattle.std.proofs.lemmas.Bool.{eqb-true, eq-eqb}
use Rattle.std.proofs.Math.Seq.{take-append_seam}
use Rattle.std.proofs.lemmas.List.{append-nil}
use Rattle.open_framing.specs.Lines.{with_byte}
use Rattle.raw_fix.specs.Raw.{mark, NoMark, BeforeMark, RunsOn, IsRun, begins_with, before_mark, run_by, run_of}
use Rattle.raw_fix.proofs.Fronts.{and_true}

begins_told : (front bytes : List ℕ) → begins_with front bytes ≡ true → (more : List ℕ) × (bytes ≡ front ++ more)
begins_told [] bytes h = (bytes, refl)
begins_told (a ∷ front) [] h = cc
begins_told (a ∷ front) (b ∷ bytes) h =
    let both = and_true (a == b) (begins_with front bytes) h in
    let rest = begins_told front bytes both.1 in
    (rest.0, ap (λ x. x ∷ bytes) (sym (eqb-true a b both.0)) ∙ ap (λ x. a ∷ x) rest.1)

pub begins_there : (front more : List ℕ) → begins_with front (front ++ more) ≡ true
begins_there [] more = refl
begins_there (a ∷ front) more = rw (eq-eqb a a refl) (begins_there front more)

-- ---- what the search tells

-- a mark, or none
abbrev Sought : List ℕ → Option (List ℕ) → Type 0
Sought bytes (Some front) = BeforeMark bytes front
Sought bytes None = NoMark bytes

-- a place of a mark in bytes that don't begin with one
behind_byte : (b : ℕ) (bytes f m : List ℕ) → begins_with mark (b ∷ bytes) ≡ false → b ∷ bytes ≡ f ++ mark ++ m → (g : List ℕ) × (f ≡ b ∷ g) × (bytes ≡ g ++ mark ++ m)
behind_byte b bytes [] m begun e = let yes : begins_with mark (b ∷ bytes) ≡ true = ap (begins_with mark) e ∙ begins_there mark m in cc
behind_byte b bytes (c ∷ f) m begun e = (f, cc, cc)

sought_on : (b : ℕ) (bytes : List ℕ) (o : Option (List ℕ)) → begins_with mark (b ∷ bytes) ≡ false → Sought bytes o → Sought (b ∷ bytes) (with_byte b o)
sought_on b bytes None begun none = λ f m e. let at = behind_byte b bytes f m begun e in none at.0 m at.2
sought_on b bytes (Some front) begun there = record {
  more = there.more;
  whole = ap (λ x. b ∷ x) there.whole;
  first = λ f m e. let at = behind_byte b bytes f m begun e in let low = there.first at.0 m at.2 in omega (arith, low, ap length at.1);
}

sought_by : (b : ℕ) (bytes : List ℕ) (t : Bool) → begins_with mark (b ∷ bytes) ≡ t → Sought bytes (before_mark bytes) → Sought (b ∷ bytes) (if t then Some [] else with_byte b (before_mark bytes))
sought_by b bytes true is rest =
    let told = begins_told mark (b ∷ bytes) is in
    record { more = told.0; whole = told.1; first = λ f m e. omega arith }
sought_by b bytes false is rest = sought_on b bytes (before_mark bytes) is rest

sought : (bytes : List ℕ) → Sought bytes (before_mark bytes)
sought [] = none_in where
  none_in : NoMark []
  none_in [] m e = cc
  none_in (c ∷ f) m e = cc
sought (b ∷ bytes) = sought_by b bytes (begins_with mark (b ∷ bytes)) refl (sought bytes)

pub mark_told : (bytes front : List ℕ) → before_mark bytes ≡ Some front → BeforeMark bytes front
mark_told bytes front h = subst (Sought bytes) h (sought bytes)

pub mark_none : (bytes : List ℕ) → before_mark bytes ≡ None → NoMark bytes
mark_none bytes h = subst (Sought bytes) h (sought bytes)

-- two fronts of one length are one
front_is : (bytes f g m n : List ℕ) → bytes ≡ f ++ m → bytes ≡ g ++ n → length f ≡ length g → f ≡ g
front_is bytes f g m n d e same = sym (take-append_seam f m) ∙ ap (take (length f)) (sym d) ∙ ap (λ k. take k bytes) same ∙ ap (take (length g)) e ∙ take-append_seam g n

before_once : (bytes f g : List ℕ) → BeforeMark bytes f → BeforeMark bytes g → f ≡ g
before_once bytes f g a b =
    let low = a.first g b.more b.whole in
    let high = b.first f a.more a.whole in
    front_is bytes f g (mark ++ a.more) (mark ++ b.more) (a.whole ∙ append_assoc f mark a.more) (b.whole ∙ append_assoc g mark b.more) (omega (arith, low, high))

pub mark_found : (bytes front : List ℕ) → BeforeMark bytes front → before_mark bytes ≡ Some front
mark_found bytes front there = by_answer (before_mark bytes) refl where
  by_answer : (o : Option (List ℕ)) → before_mark bytes ≡ o → before_mark bytes ≡ Some front
  by_answer None told = absurd (mark_none bytes told front there.more there.whole)
  by_answer (Some f) told = told ∙ ap Some (before_once bytes f front (mark_told bytes f told) there)

pub mark_missed : (bytes : List ℕ) → NoMark bytes → before_mark bytes ≡ None
mark_missed bytes none = by_answer (before_mark bytes) refl where
  by_answer : (o : Option (List ℕ)) → before_mark bytes ≡ o → before_mark bytes ≡ None
  by_answer None told = told
  by_answer (Some f) told = let there = mark_told bytes f told in absurd (none f there.more there.whole)

-- ---- runs

run_told_by : (goes_on : Bool) (b : ℕ) (after run : List ℕ) (o : Option (List ℕ)) → before_mark after ≡ o → with_byte b (run_by goes_on after o) ≡ Some run → IsRun goes_on (b ∷ after) run
run_told_by goes_on b after run (Some front) told h = record { byte = b; after = after; front = front; begins = refl; runs = cc; ends = inl (mark_told after front told) }
run_told_by true b after run None told h = cc
run_told_by false b after run None told h = record { byte = b; after = after; front = after; begins = refl; runs = cc; ends = inr (refl, refl, mark_none after told) }

pub run_told : (goes_on : Bool) (bytes run : List ℕ) → run_of goes_on bytes ≡ Some run → IsRun goes_on bytes run
run_told goes_on [] run h = cc
run_told goes_on (b ∷ after) run h = run_told_by goes_on b after run (before_mark after) refl h

run_front : (goes_on : Bool) (after front : List ℕ) → RunsOn goes_on after front → run_by goes_on after (before_mark after) ≡ Some front
run_front goes_on after front (inl there) = ap (run_by goes_on after) (mark_found after front there)
run_front goes_on after front (inr last) = ap (run_by goes_on after) (mark_missed after last.2) ∙ ap (λ t. run_by t after None) last.0 ∙ ap Some (sym last.1)

pub run_found : (goes_on : Bool) (bytes run : List ℕ) → IsRun goes_on bytes run → run_of goes_on bytes ≡ Some run
run_found goes_on bytes run is =
    ap (run_of goes_on) is.begins ∙ ap (with_byte is.byte) (run_front goes_on is.after is.front is.ends) ∙ ap Some (sym is.runs)

run_splits : (goes_on : Bool) (after front : List ℕ) → RunsOn goes_on after front → (more : List ℕ) × (after ≡ front ++ more)
run_splits goes_on after front (inl there) = (mark ++ there.more, there.whole ∙ append_assoc front mark there.more)
run_splits goes_on after front (inr last) = ([], sym last.1 ∙ sym (append-nil front))

-- a run stands at the front
pub run_stands : (goes_on : Bool) (bytes run : List ℕ) → IsRun goes_on bytes run → (more : List ℕ) × (bytes ≡ run ++ more)
run_stands goes_on bytes run is =
    let rest = run_splits goes_on is.after is.front is.ends in
    (rest.0, is.begins ∙ ap (λ x. is.byte ∷ x) rest.1 ∙ ap (λ x. x ++ rest.0) (sym is.runs))

pub run_filled : (goes_on : Bool) (bytes run : List ℕ) → IsRun goes_on bytes run → 0 < length run
run_filled goes_on bytes run is = omega (arith, ap length is.runs)

-- some bytes that don't go on are a run
pub run_some : (b : ℕ) (after : List ℕ) → (run : List ℕ) × (run_of false (b ∷ after) ≡ Some run)
run_some b after = by_answer (before_mark after) where
  by_answer : (o : Option (List ℕ)) → (run : List ℕ) × (with_byte b (run_by false after o) ≡ Some run)
  by_answer None = (b ∷ after, refl)
  by_answer (Some front) = (b ∷ front, refl)
