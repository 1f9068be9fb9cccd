-- What filling the absent parts of a message leaves. Own profile.
use Rattle.std.specs.Prelude.{◌≡◌, ◌≤◌, ◌<◌, ℕ, ◌+◌, ◌^◌, Result, Ok, Err, List, ◌∷◌, length, ⊤}
use Rattle.sbe_types.specs.declared.path.Step.{Step}
use Rattle.regrade_laws.specs.Fill.{Fills}
use Rattle.regrade.specs.declared.filler.Filler.{Filler}
use Rattle.regrade.specs.declared.filler.Unfilled.{Unfilled}
use Rattle.regrade.specs.declared.filler.Unfilled.TheVariants.{NoFill, Memory}

-- Either the parts are written and the filled ones are counted, or the path of the part without a fill is kept.
abbrev pub IsFilled : {X : Type 0} → Fills X → ℕ → Filler → Filler → Result X Unfilled → Type 0
IsFilled told count old new (Ok x) = (told ≡ Ok x) × (new.filled ≡ old.filled + count)
IsFilled told count old new (Err NoFill) = told ≡ Err new.lack
IsFilled told count old new (Err Memory) = ⊤

-- the path of a part without a fill has at most `most` steps
abbrev pub IsLow : {X : Type 0} → ℕ → Filler → Result X Unfilled → Type 0
IsLow most new (Ok x) = ⊤
IsLow most new (Err NoFill) = length new.lack ≤ most
IsLow most new (Err Memory) = ⊤

-- `count` more parts can be counted
abbrev pub HasRoom : ℕ → Filler → Type 0
HasRoom count filler = filler.filled + count < 2 ^ 64

-- the path, if there is one, has one more step in front
abbrev pub IsInside : Step → Unfilled → Filler → Filler → Type 0
IsInside step NoFill old new = new.lack ≡ step ∷ old.lack
IsInside step Memory old new = ⊤

-- the path, if there is one, may have one more step
abbrev pub IsShort : Unfilled → Filler → Type 0
IsShort NoFill filler = length filler.lack < 20
IsShort Memory filler = ⊤
