-- How many bytes the parts take, one after another.
use Rattle.std.proofs.Common.{◌≡◌, ℕ, ◌+◌, ◌≤◌, Bool, true, false, cond, List, [], ◌++◌, length, Option, Some, None, Result, Ok, Err, refl, sym, ap, ◌∙◌, subst, arith, length-append}
use Rattle.std.specs.Prelude.{nat_le}
use Rattle.std.proofs.lemmas.Bool.Decides.{nat_tests}
use Rattle.sbe_types.specs.declared.path.Step.{Step}
use Rattle.sbe_types.specs.Wire.{both}
use Rattle.sbe_wire.specs.declared.codes.NCode.TheVariants as code
use Rattle.sbe_wire.specs.Misfit.{Misfit, Taken, ◌then◌, taken_in, take_bytes, refused, passed}
use Rattle.sbe_wire.proofs.Combine.{ok_is}

pub err_ok : {A E : Type 0} {x : A} {u : E} → ◌≡◌ {A = Result A E} (Err u) (Ok x) → ⊥
err_ok k = cc

pub ok_err : {A E : Type 0} {x : A} {u : E} → ◌≡◌ {A = Result A E} (Ok x) (Err u) → ⊥
ok_err k = cc

pub then_ok : (r : Taken) (f : ℕ → Taken) (n : ℕ) → r then f ≡ Ok n → (k : ℕ) × (r ≡ Ok k) × (f k ≡ Ok n)
then_ok (Ok k) f n h = (k, refl, h)
then_ok (Err m) f n h = absurd (err_ok h)

pub in_ok : (step : Step) (r : Taken) (n : ℕ) → taken_in step r ≡ Ok n → r ≡ Ok n
in_ok step (Ok k) n h = h
in_ok step (Err m) n h = absurd (err_ok h)

pub passed_ok : (m : Option Misfit) (k n : ℕ) → passed k m ≡ Ok n → (m ≡ None) × (k ≡ n)
passed_ok None k n h = (refl, ok_is h)
passed_ok (Some m) k n h = absurd (err_ok h)

-- after any bytes the parts take n more where the limit admits them, and never others
pub record Takes (f : ℕ → ℕ → Taken) (n : ℕ) : Type 0 where
  pub room : (limit before : ℕ) → before + n ≤ limit → f limit before ≡ Ok (before + n)
  pub over : (limit before after : ℕ) → f limit before ≡ Ok after → (after ≡ before + n) × (before ≤ limit → after ≤ limit)

pub takes_nothing : Takes (λ limit before. Ok before) 0
takes_nothing = record {
  room = λ limit before h. ap Ok (omega arith);
  over = λ limit before after h. let is : before ≡ after = ok_is h in (omega (arith, is), λ w. omega (arith, is, w));
}

pub takes_bytes : (n : ℕ) → Takes (λ limit before. take_bytes limit before n) n
takes_bytes n = record {
  room = λ limit before h. let fits : nat_le (before + n) limit ≡ true = grind (arith, nat_tests) in ap (λ t. cond t (Ok (before + n)) (refused code.Full (before + n))) fits;
  over = λ limit before after h. by (nat_le (before + n) limit) limit before after refl h;
}
  where
    by : (t : Bool) (limit before after : ℕ) → nat_le (before + n) limit ≡ t → cond t (Ok (before + n)) (refused code.Full (before + n)) ≡ Ok after → (after ≡ before + n) × (before ≤ limit → after ≤ limit)
    by true limit before after e h =
        let is : before + n ≡ after = ok_is h in
        let fits : before + n ≤ limit = grind (arith, nat_tests) in
        (sym is, λ w. omega (arith, is, fits))
    by false limit before after e h = absurd (err_ok h)

pub takes_same : (f g : ℕ → ℕ → Taken) (n : ℕ) → ((limit before : ℕ) → g limit before ≡ f limit before) → Takes f n → Takes g n
takes_same f g n same takes = record {
  room = λ limit before h. same limit before ∙ takes.room limit before h;
  over = λ limit before after h. takes.over limit before after (sym (same limit before) ∙ h);
}

pub takes_in : (step : Step) (f : ℕ → ℕ → Taken) (n : ℕ) → Takes f n → Takes (λ limit before. taken_in step (f limit before)) n
takes_in step f n takes = record {
  room = λ limit before h. ap (taken_in step) (takes.room limit before h);
  over = λ limit before after h. takes.over limit before after (in_ok step (f limit before) after h);
}

pub takes_then : (f g : ℕ → ℕ → Taken) (a b : ℕ) → Takes f a → Takes g b → Takes (λ limit before. f limit before then (λ after. g limit after)) (a + b)
takes_then f g a b first second = record {
  room = λ limit before h.
      ap (λ r. r then (λ after. g limit after)) (first.room limit before (omega (arith, h)))
      ∙ second.room limit (before + a) (omega (arith, h))
      ∙ ap Ok (omega arith);
  over = λ limit before after h.
      let t = then_ok (f limit before) (λ after. g limit after) after h in
      let x = first.over limit before t.0 t.1 in
      let y = second.over limit t.0 after t.2 in
      (omega (arith, x.0, y.0), λ w. y.1 (x.1 w));
}

pub takes_passed : (f : ℕ → ℕ → Taken) (n : ℕ) (m : Option Misfit) → m ≡ None → Takes f n → Takes (λ limit before. f limit before then (λ after. passed after m)) n
takes_passed f n m none takes = record {
  room = λ limit before h. ap (λ r. r then (λ after. passed after m)) (takes.room limit before h) ∙ ap (passed (before + n)) none;
  over = λ limit before after h.
      let t = then_ok (f limit before) (λ after. passed after m) after h in
      let p = passed_ok m t.0 after t.2 in
      takes.over limit before after (t.1 ∙ ap Ok p.1);
}

-- ---- bytes that are written

-- bytes that are there, lie so, and are as many as are counted
pub record Written (out : Option (List ℕ)) (R : List ℕ → Type 0) (took : ℕ → ℕ → Taken) : Type 0 where
  pub bytes : List ℕ
  pub is : out ≡ Some bytes
  pub lies : R bytes
  pub takes : Takes took (length bytes)

-- first these bytes, and then those
abbrev pub Then : (List ℕ → Type 0) → (List ℕ → Type 0) → List ℕ → Type 0
Then R S b = (front : List ℕ) × (back : List ℕ) × (b ≡ front ++ back) × R front × S back

pub nothing_written : Written (Some []) (λ b. b ≡ []) (λ limit before. Ok before)
nothing_written = record { bytes = []; is = refl; lies = refl; takes = takes_nothing }

pub written_then : (x y : Option (List ℕ)) (R S : List ℕ → Type 0) (f g : ℕ → ℕ → Taken) → Written x R f → Written y S g →
    Written (both x y) (Then R S) (λ limit before. f limit before then (λ after. g limit after))
written_then x y R S f g first second = record {
  bytes = first.bytes ++ second.bytes;
  is = ap (λ o. both o y) first.is ∙ ap (λ o. both (Some first.bytes) o) second.is;
  lies = (first.bytes, second.bytes, refl, first.lies, second.lies);
  takes =
      subst (Takes (λ limit before. f limit before then (λ after. g limit after))) (sym (length-append first.bytes second.bytes))
      (takes_then f g (length first.bytes) (length second.bytes) first.takes second.takes);
}

pub written_in : (step : Step) (x : Option (List ℕ)) (R : List ℕ → Type 0) (f : ℕ → ℕ → Taken) → Written x R f → Written x R (λ limit before. taken_in step (f limit before))
written_in step x R f w = record { bytes = w.bytes; is = w.is; lies = w.lies; takes = takes_in step f (length w.bytes) w.takes }

pub written_as : (x : Option (List ℕ)) (R S : List ℕ → Type 0) (f : ℕ → ℕ → Taken) → ((b : List ℕ) → R b → S b) → Written x R f → Written x S f
written_as x R S f to w = record { bytes = w.bytes; is = w.is; lies = to w.bytes w.lies; takes = w.takes }

pub counted_as : (x : Option (List ℕ)) (R : List ℕ → Type 0) (f g : ℕ → ℕ → Taken) → ((limit before : ℕ) → g limit before ≡ f limit before) → Written x R f → Written x R g
counted_as x R f g same w = record { bytes = w.bytes; is = w.is; lies = w.lies; takes = takes_same f g (length w.bytes) same w.takes }
