-- Steps at the end of an array.
use Rattle.std.proofs.Common.{◌≡◌, ◌<◌, ◌≤◌, ◌-◌, ℕ, suc, List, [], ◌∷◌, length, drop, take, refl, sym, ap, ◌∙◌, arith, length-drop}
use Rattle.std.specs.Prelude.{slice_set, map, if◌then◌else◌}
use Rattle.std.proofs.lemmas.Bool.{le-ltb, lt-ltb}
use Rattle.std.proofs.lemmas.List.{take_rest}
use Rattle.sbe_types.proofs.Trails.{none_left, one_in_front}
use Rattle.message_walk.specs.declared.trail.WayStep.{WayStep}
use Rattle.message_walk.specs.Ways.{way_of, steps_from, pushed}

pub no_steps : (steps : List WayStep) (n : ℕ) → length steps ≡ n → steps_from n steps ≡ []
no_steps steps n h = ap (map way_of) (none_left steps n h)

map_long : (xs : List WayStep) → length (map way_of xs) ≡ length xs
map_long [] = refl
map_long (x ∷ xs) = ap suc (map_long xs)

steps_long : (steps : List WayStep) (start : ℕ) → length (steps_from start steps) ≡ length steps - start
steps_long steps start = map_long (drop start steps) ∙ length-drop start steps

-- a step in front of those from one on
pub step_in_front : (steps : List WayStep) (start : ℕ) (s : WayStep) → start ≤ 20 → length steps ≡ 20 → 0 < start
    → steps_from (start - 1) (slice_set steps (start - 1) s) ≡ pushed (way_of s) (steps_from start steps)
step_in_front steps start s within long some =
    let few : length (steps_from start steps) < 20 = omega (arith, steps_long steps start, long, within, some) in
    ap (map way_of) (one_in_front steps start s (omega (arith, some)) (omega (arith, within, long)))
    ∙ sym (ap (λ b. if b then way_of s ∷ steps_from start steps else steps_from start steps) (lt-ltb (length (steps_from start steps)) 20 few))

-- no room in front
pub no_room : (steps : List WayStep) (start : ℕ) (s : WayStep) → length steps ≡ 20 → start ≡ 0
    → steps_from start steps ≡ pushed (way_of s) (steps_from start steps)
no_room steps start s long none =
    let all : 20 ≤ length (steps_from start steps) = omega (arith, steps_long steps start, long, none) in
    sym (ap (λ b. if b then way_of s ∷ steps_from start steps else steps_from start steps) (le-ltb (length (steps_from start steps)) 20 all))

-- the steps from one on, as they are lent
pub rest_of_steps : (steps : List WayStep) (start : ℕ) → map way_of (take (length steps - start) (drop start steps)) ≡ steps_from start steps
rest_of_steps steps start = ap (map way_of) (take_rest steps start)
