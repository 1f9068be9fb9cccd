-- What is left after places, and then others, and after places inside a step.
use Rattle.std.proofs.Common.{◌≡◌, ◌<◌, ℕ, suc, Bool, true, false, cond, List, [], ◌∷◌, length, Option, Some, None, Result, refl, sym, ap, arith, ◌∙◌}
use Rattle.std.specs.Fmt.{decimal}
use Rattle.fix_values.specs.declared.rule.V.{V}
use Rattle.tagvalue_codec.specs.Drafts.{Draft}
use Rattle.bridge_terms.specs.Parts.{TagLists}
use Rattle.bridge_terms.specs.Places.{Way, to_part, to_entry, Written, Refused, Places, then_places, places_then, places_in, place_of, text_places, entries_places, run_places}
use Rattle.message_walk.specs.declared.halt.Halt.{Halt}
use Rattle.message_walk.specs.declared.put.Put.{Put}
use Rattle.message_walk.specs.declared.put.Put.TheVariants as put
use Rattle.message_walk.specs.Ways.{pushed}
use Rattle.message_walk.specs.Rows.{run_inside}
use Rattle.message_walk.specs.States.{State, after, after_places, full_at, go_on, is_over, outcome, state_in, with_fields, IsPut}

-- ---- one after another

chosen : (b : Bool) (d : Draft) (h : Halt) (s : State) (more : Draft → State)
    → cond b (record { draft = d; halt = Some h }) (go_on s more) ≡ go_on (cond b (record { draft = d; halt = Some h }) s) more
chosen true d h s more = refl
chosen false d h s more = refl

places_on : (lists : TagLists) (d : Draft) (xs : List Written) (r : Option Refused) (later : Places)
    → after lists d (places_then xs r later) ≡ go_on (after_places lists d xs r) (λ e. after lists e later)
places_on lists d [] None later = refl
places_on lists d [] (Some u) later = refl
places_on lists d (x ∷ xs) None later =
    ap (λ s. cond (is_over lists d x.fields) (record { draft = d; halt = Some (full_at lists d x) }) s) (places_on lists (with_fields lists d x.fields) xs None later)
    ∙ chosen (is_over lists d x.fields) d (full_at lists d x) (after_places lists (with_fields lists d x.fields) xs None) (λ e. after lists e later)
places_on lists d (x ∷ xs) (Some u) later =
    ap (λ s. cond (is_over lists d x.fields) (record { draft = d; halt = Some (full_at lists d x) }) s) (places_on lists (with_fields lists d x.fields) xs (Some u) later)
    ∙ chosen (is_over lists d x.fields) d (full_at lists d x) (after_places lists (with_fields lists d x.fields) xs (Some u)) (λ e. after lists e later)

pub after_then : (lists : TagLists) (d : Draft) (first later : Places) → after lists d (then_places first later) ≡ go_on (after lists d first) (λ e. after lists e later)
after_then lists d first later = places_on lists d first.places first.refused later

-- ---- inside a step

chosen_in : (b : Bool) (step : Way) (s t : State) → cond b (state_in step s) (state_in step t) ≡ state_in step (cond b s t)
chosen_in true step s t = refl
chosen_in false step s t = refl

inside : (lists : TagLists) (d : Draft) (step : Way) (xs : List Written) (r : Option Refused)
    → after lists d (places_in step (record { places = xs; refused = r })) ≡ state_in step (after_places lists d xs r)
inside lists d step [] None = refl
inside lists d step [] (Some u) = refl
inside lists d step (x ∷ xs) None =
    ap (λ s. cond (is_over lists d x.fields) (state_in step (record { draft = d; halt = Some (full_at lists d x) })) s) (inside lists (with_fields lists d x.fields) step xs None)
    ∙ chosen_in (is_over lists d x.fields) step (record { draft = d; halt = Some (full_at lists d x) }) (after_places lists (with_fields lists d x.fields) xs None)
inside lists d step (x ∷ xs) (Some u) =
    ap (λ s. cond (is_over lists d x.fields) (state_in step (record { draft = d; halt = Some (full_at lists d x) })) s) (inside lists (with_fields lists d x.fields) step xs (Some u))
    ∙ chosen_in (is_over lists d x.fields) step (record { draft = d; halt = Some (full_at lists d x) }) (after_places lists (with_fields lists d x.fields) xs (Some u))

pub after_in : (lists : TagLists) (d : Draft) (step : Way) (inner : Places) → after lists d (places_in step inner) ≡ state_in step (after lists d inner)
after_in lists d step inner = inside lists d step inner.places inner.refused

-- ---- what a call answers, and the places after it

pub step_on : (lists : TagLists) (d e : Draft) (h : Halt) (first later : Places) → outcome true e h ≡ after lists d first
    → after lists d (then_places first later) ≡ after lists e later
step_on lists d e h first later done = after_then lists d first later ∙ ap (λ s. go_on s (λ e. after lists e later)) (sym done)

pub step_off : (lists : TagLists) (d e : Draft) (h : Halt) (first later : Places) → outcome false e h ≡ after lists d first
    → outcome false e h ≡ after lists d (then_places first later)
step_off lists d e h first later done = ap (λ s. go_on s (λ e. after lists e later)) done ∙ sym (after_then lists d first later)

pub in_on : (lists : TagLists) (d e : Draft) (h g : Halt) (step : Way) (inner : Places) → outcome true e h ≡ after lists d inner
    → outcome true e g ≡ after lists d (places_in step inner)
in_on lists d e h g step inner done = ap (state_in step) done ∙ sym (after_in lists d step inner)

pub in_off : (lists : TagLists) (d e : Draft) (h g : Halt) (step : Way) (inner : Places) → outcome false e h ≡ after lists d inner
    → g ≡ record { cause = h.cause; way = pushed step h.way } → outcome false e g ≡ after lists d (places_in step inner)
in_off lists d e h g step inner done same =
    ap (λ g. record { draft = e; halt = Some g }) same ∙ ap (state_in step) done ∙ sym (after_in lists d step inner)

-- ---- one field

pub put_on : (lists : TagLists) (p : Put) (d e : Draft) (h g : Halt) (tag : ℕ) (text : Result (Option (List ℕ)) V)
    → IsPut lists d tag text (record { put = p; draft = e; halt = h }) → (p ≡ put.Refused → ⊥) → outcome true e g ≡ after lists d (text_places tag text)
put_on lists put.Written d e h g tag text is good = is.0
put_on lists put.Nothing d e h g tag text is good = is.0
put_on lists put.Refused d e h g tag text is good = absurd (good refl)

pub put_off : (lists : TagLists) (p : Put) (d e : Draft) (h : Halt) (tag : ℕ) (text : Result (Option (List ℕ)) V)
    → IsPut lists d tag text (record { put = p; draft = e; halt = h }) → p ≡ put.Refused → outcome false e h ≡ after lists d (text_places tag text)
put_off lists put.Written d e h tag text is bad = cc
put_off lists put.Nothing d e h tag text is bad = cc
put_off lists put.Refused d e h tag text is bad = is.0

-- ---- a group

pub run_in : {X : Type 0} (tag : ℕ) (entry : X → Places) (es : List X) → run_places tag entry es ≡ places_in (to_part tag) (run_inside tag entry es)
run_in tag entry [] = refl
run_in tag entry (e ∷ es) = refl

pub run_off : {X : Type 0} (lists : TagLists) (d e : Draft) (h : Halt) (tag : ℕ) (entry : X → Places) (es : List X) → 0 < length es
    → outcome false e h ≡ after lists d (place_of tag (decimal (length es))) → outcome false e h ≡ after lists d (run_inside tag entry es)
run_off lists d e h tag entry [] some done = absurd (omega arith)
run_off lists d e h tag entry (x ∷ xs) some done = step_off lists d e h (place_of tag (decimal (length (x ∷ xs)))) (entries_places entry 0 (x ∷ xs)) done

pub run_on : {X : Type 0} (lists : TagLists) (d e : Draft) (h : Halt) (tag : ℕ) (entry : X → Places) (es : List X) (s : State) → 0 < length es
    → outcome true e h ≡ after lists d (place_of tag (decimal (length es))) → s ≡ after lists e (entries_places entry 0 es) → s ≡ after lists d (run_inside tag entry es)
run_on lists d e h tag entry [] s some done more = absurd (omega arith)
run_on lists d e h tag entry (x ∷ xs) s some done more =
    more ∙ sym (step_on lists d e h (place_of tag (decimal (length (x ∷ xs)))) (entries_places entry 0 (x ∷ xs)) done)

pub no_run : {X : Type 0} (lists : TagLists) (d : Draft) (h : Halt) (tag : ℕ) (entry : X → Places) (es : List X) → length es ≡ 0
    → outcome true d h ≡ after lists d (run_inside tag entry es)
no_run lists d h tag entry [] none = refl
no_run lists d h tag entry (x ∷ xs) none = absurd (omega (arith, none))

-- ---- entries

pub entry_off : {X : Type 0} (lists : TagLists) (d e : Draft) (h g : Halt) (entry : X → Places) (n : ℕ) (x : X) (xs : List X)
    → outcome false e h ≡ after lists d (entry x) → g ≡ record { cause = h.cause; way = pushed (to_entry n) h.way }
    → outcome false e g ≡ after lists d (entries_places entry n (x ∷ xs))
entry_off lists d e h g entry n x xs done same =
    step_off lists d e g (places_in (to_entry n) (entry x)) (entries_places entry (suc n) xs) (in_off lists d e h g (to_entry n) (entry x) done same)

pub entry_on : {X : Type 0} (lists : TagLists) (d e : Draft) (h : Halt) (entry : X → Places) (n : ℕ) (x : X) (xs : List X)
    → outcome true e h ≡ after lists d (entry x) → after lists e (entries_places entry (suc n) xs) ≡ after lists d (entries_places entry n (x ∷ xs))
entry_on lists d e h entry n x xs done =
    sym (step_on lists d e h (places_in (to_entry n) (entry x)) (entries_places entry (suc n) xs) (in_on lists d e h h (to_entry n) (entry x) done))
