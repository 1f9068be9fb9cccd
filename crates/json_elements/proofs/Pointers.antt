-- The steps of a refusal, and its pointer.
use Rattle.std.proofs.Common.{◌≡◌, ℕ, ◌+◌, ◌<◌, List, [], ◌∷◌, ◌++◌, length, take, get_or, sym, ap, ◌∙◌, append_assoc, append-nil}
use Rattle.std.proofs.lemmas.List.{take_more}
use Rattle.std.specs.Prelude.{codes, Err}
use Rattle.json_elements.specs.declared.refusal.Step.{Step}
use Rattle.json_elements.specs.declared.refusal.ElementErr.{ElementErr}
use Rattle.json_elements.specs.declared.refusal.ElementErr.TheVariants.{Refused, Memory}
use Rattle.json_elements.specs.Reading.{Reading, Refusal, refusal, Gives, GoesOut, inside, step_text, pointer}

pub further : (steps : List Step) (step : Step) → pointer (steps ++ step ∷ []) ≡ codes "/" ++ (step_text step ++ pointer steps)
further [] step = sym (ap (λ (t : List ℕ). codes "/" ++ t) (append-nil (step_text step)))
further (s ∷ steps) step =
    ap (λ (t : List ℕ). t ++ (codes "/" ++ step_text s)) (further steps step)
    ∙ ap (λ (t : List ℕ). codes "/" ++ t) (append_assoc (step_text step) (pointer steps) (codes "/" ++ step_text s))

pub goes_out : {X : Type 0} (step : Step) (e out : ElementErr) (told : Reading X) → GoesOut step e out → Gives {X = X} (Err e) told → Gives {X = X} (Err out) (inside (step_text step) told)
goes_out step e Memory told h given = tt
goes_out step Memory (Refused cause steps) told h given = absurd h
goes_out step (Refused inner near) (Refused cause steps) told h given =
    ap (inside (step_text step)) given
    ∙ ap (λ (r : Refusal). Err r) (ap (λ (c : _). refusal c (codes "/" ++ (step_text step ++ pointer near))) (sym h.0) ∙ ap (refusal cause) (sym (ap pointer h.1 ∙ further near step)))

last_first : (steps : List Step) (n : ℕ) (none : Step) → n < length steps → pointer (take (n + 1) steps) ≡ codes "/" ++ (step_text (get_or steps n none) ++ pointer (take n steps))
last_first steps n none h = ap pointer (take_more steps n none h) ∙ further (take n steps) (get_or steps n none)

pub one_step : (steps : List Step) (n : ℕ) (none : Step) (text new : List ℕ) → n < length steps → new ≡ text ++ (codes "/" ++ step_text (get_or steps n none)) →
    text ++ pointer (take (n + 1) steps) ≡ pointer steps → new ++ pointer (take n steps) ≡ pointer steps
one_step steps n none text new h more so_far =
    ap (λ (t : List ℕ). t ++ pointer (take n steps)) more
    ∙ append_assoc text (codes "/" ++ step_text (get_or steps n none)) (pointer (take n steps))
    ∙ ap (λ (t : List ℕ). text ++ t) (sym (last_first steps n none h))
    ∙ so_far
