-- The texts of sets. Own profile.
use Rattle.std.specs.Prelude.{◌≤◌, ℕ, List, length, take}
use Rattle.fix_values.specs.declared.rule.Code.{Code}
use Rattle.fix_values.specs.Codes.{codes_in}
use Rattle.set_texts.specs.declared.texts.SetTexts.{SetTexts}
use Rattle.set_texts.specs.declared.texts.Written.{Written}
use Rattle.set_texts.specs.Parts.{IsPart}
use Rattle.set_texts.specs.Runs.{AreRuns}

-- the texts are those of a list of codes
abbrev pub HasTexts : SetTexts → List Code → Type 0
HasTexts texts codes = AreRuns texts.runs codes

-- what is written are the texts of those of the codes whose bits a number has, and the number that they make up
pub record IsWritten (written : Written) (room : List ℕ) (codes : List Code) (bits : ℕ) : Type 0 where
  pub within : written.end ≤ length room
  pub part : IsPart (record { text = take written.end room; shown = written.shown }) (codes_in codes bits)
