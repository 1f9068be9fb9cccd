-- What the bytes held settle. Own profile.
use Rattle.std.specs.Prelude.{◌≡◌, ◌≤◌, ◌+◌, ℕ, Bool, Option, None, Some, List, ◌++◌, length, take, drop}
use Rattle.raw_fix.specs.declared.taken.Run.{Run}
use Rattle.raw_fix.specs.declared.step.Step.{Step}
use Rattle.raw_fix.specs.declared.step.Step.TheVariants as step
use Rattle.raw_fix.specs.Raw.{Texts, IsMessage, Undecided, BeforeMark, NoMark}
use Rattle.raw_fix.specs.Places.{NoneBegins}
use Rattle.raw_fix.specs.Stream.{Ahead, Garbles, LetsGo}

-- P holds whatever bytes follow those held, from this offset on, and whether or not the stream goes on after them
abbrev pub Whatever : List ℕ → ℕ → (Ahead → Type 0) → Type 0
Whatever held at P = (more : List ℕ) (goes_on : Bool) → P (record { place = at; bytes = held ++ more; goes_on = goes_on })

-- the bytes held settle this step, whatever follows them
abbrev pub Steps : Texts → List ℕ → ℕ → Option Run → Step → Type 0
Steps texts held at begun (step.Message n) = (begun ≡ None) × (n ≤ length held) × IsMessage texts held (take n held)
Steps texts held at begun (step.Ends run n) = (n ≤ length held) × Whatever held at (λ next. Garbles texts next (take n held) begun run)
Steps texts held at begun (step.GoesOn run n) =
    (n ≤ length held) × (length held ≤ n + 4) × NoMark (drop n held) × Whatever held at (λ next. LetsGo texts next (take n held) begun (Some run))
Steps texts held at begun step.More = (begun ≡ None) × Undecided texts.most held

-- garbled bytes go on with the first ones of those held, and then up to a mark
abbrev pub RunSteps : List ℕ → ℕ → Run → Step → Type 0
RunSteps held front run (step.Message n) = ⊥
RunSteps held front run (step.Ends next n) = (n ≤ length held) × (front ≤ n) × BeforeMark (drop front held) (drop front (take n held)) × (next ≡ record run { length = run.length + n })
RunSteps held front run (step.GoesOn next n) =
    (n ≤ length held) × (front ≤ n) × (length held ≤ n + 4) × NoMark (drop n held) × NoneBegins (drop front held) (length (drop front (take n held))) × (next ≡ record run { length = run.length + n })
RunSteps held front run step.More = ⊥
