-- The path to a place, of which the last steps are kept. Own profile.
use Rattle.std.specs.Prelude.{ℕ, nat_lt, if◌then◌else◌, List, [], ◌∷◌, length, map, drop}
use Rattle.bridge_terms.specs.Places.{Way, to_part, to_entry}
use Rattle.message_walk.specs.declared.trail.WayStep.{WayStep}
use Rattle.message_walk.specs.declared.trail.WayStep.TheVariants as step

-- a step of the code as a step of the definitions
abbrev pub way_of : WayStep → Way
way_of (step.Part tag) = to_part tag
way_of (step.Entry i) = to_entry i

-- the steps of an array from one on, as a path
abbrev pub steps_from : ℕ → List WayStep → List Way
steps_from start steps = map way_of (drop start steps)

-- a path with one more step in front, unless it has twenty
abbrev pub pushed : Way → List Way → List Way
pushed step way = if nat_lt (length way) 20 then step ∷ way else way

-- the last twenty steps of a path
abbrev pub kept_way : List Way → List Way
kept_way [] = []
kept_way (step ∷ way) = pushed step (kept_way way)
