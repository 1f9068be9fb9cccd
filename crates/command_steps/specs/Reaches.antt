-- How far a pump has got in its input.
use Rattle.std.specs.Prelude.{◌≡◌, ℕ, Bool, true, false, List, [], ⊤}
use Rattle.command_steps.specs.Ahead.{Ahead, none_ahead}
use Rattle.command_steps.specs.Splits.{Reading, Frames, Lines, Once, Nothing, Others, Piece, End, Splits, Begins}

-- Frames are not read ahead, and neither is the input of a command that takes nothing.
abbrev pub IsAhead : Reading → Ahead → Type 0
IsAhead (Frames limits) ahead = ahead ≡ none_ahead
IsAhead (Lines input) ahead = ⊤
IsAhead Once ahead = ahead ≡ none_ahead
IsAhead Nothing ahead = ahead ≡ none_ahead
IsAhead (Others reading laws input) ahead = ⊤

-- how far a pump has got, by whether the end of the input was met
abbrev pub ReachesIf : Bool → Ahead → Reading → List ℕ → List Piece → List ℕ → Type 0
ReachesIf false ahead reading stream pieces rest = Begins reading ahead stream pieces rest
ReachesIf true ahead reading stream pieces rest = Splits reading stream pieces End × (rest ≡ [])

-- The input begins with these pieces, and the rest follows them; or its end was met, and these are all its pieces.
abbrev pub Reaches : Ahead → Reading → List ℕ → List Piece → List ℕ → Type 0
Reaches ahead reading stream pieces rest = ReachesIf ahead.met_end ahead reading stream pieces rest
