-- The texts of the codes of a few bits. Own profile.
use Rattle.std.specs.Prelude.{◌≡◌, ℕ, List, [], ◌∷◌, ◌++◌, false}
use Rattle.fix_values.specs.declared.rule.Code.{Code}
use Rattle.fix_values.specs.Codes.{bits_of, has_soh}

-- texts of codes, a space before each, and the number that the codes' bits make up
pub record Part : Type 0 where
  pub text : List ℕ
  pub shown : ℕ

-- the texts of codes, a space before each
abbrev pub spaced : List Code → List ℕ
spaced [] = []
spaced (code ∷ codes) = 32 ∷ (code.text ++ spaced codes)

-- the texts are those of these codes, and none has SOH
pub record IsPart (part : Part) (codes : List Code) : Type 0 where
  pub text : part.text ≡ spaced codes
  pub plain : has_soh part.text ≡ false
  pub shown : part.shown ≡ bits_of codes
