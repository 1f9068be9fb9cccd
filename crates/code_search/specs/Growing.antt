-- Codes whose numbers grow. Own profile.
use Rattle.std.specs.Prelude.{ℤ, ◌<ℤ◌, List, [], ◌∷◌, ⊤}
use Rattle.fix_values.specs.declared.rule.Code.{Code}

-- the numbers of codes grow from one that is greater than a number on
abbrev pub AreAbove : ℤ → List Code → Type 0
AreAbove n [] = ⊤
AreAbove n (code ∷ codes) = (n <ℤ code.number) × AreAbove code.number codes

-- the number of each code is greater than that of the code before it
abbrev pub AreGrowing : List Code → Type 0
AreGrowing [] = ⊤
AreGrowing (code ∷ codes) = AreAbove code.number codes
