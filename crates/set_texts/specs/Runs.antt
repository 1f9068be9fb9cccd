-- The texts of sets by runs of codes, each with its bits among four. Own profile.
use Rattle.std.specs.Prelude.{◌≡◌, ◌≤◌, ◌<◌, ◌+◌, ◌*◌, ◌/◌, ◌%◌, ◌^◌, ℕ, List, [], ◌∷◌, take, drop, slice_get, Some, pos}
use Rattle.fix_values.specs.declared.rule.Code.{Code}
use Rattle.fix_values.specs.Codes.{codes_in}
use Rattle.set_texts.specs.declared.runs.TheConstants.{PARTS, WIDTH}
use Rattle.set_texts.specs.Parts.{IsPart, Part}

-- codes whose bits are among four from the first one on: how many they are, and their texts for each number of four bits
pub record Run : Type 0 where
  pub first : ℕ
  pub many : ℕ
  pub parts : List Part

-- a code has one of four bits
abbrev pub HasPlaceFrom : ℕ → Code → Type 0
HasPlaceFrom first code = (place : ℕ) × (code.number ≡ pos place) × (first ≤ place) × (place < first + WIDTH)

-- the parts have the texts of those of the codes whose bits are among these four, for each number of four bits
abbrev pub AreParts : List Part → ℕ → List Code → Type 0
AreParts parts first codes = (n : ℕ) (part : Part) → slice_get parts n ≡ Some part → IsPart part (codes_in codes (n * 2 ^ first))

-- for each number, a run has the texts of those of the codes whose bits the number has
abbrev pub IsRun : Run → List Code → Type 0
IsRun run codes = (n : ℕ) (part : Part) → slice_get run.parts (n / 2 ^ run.first % PARTS) ≡ Some part → IsPart part (codes_in codes n)

-- runs have the texts of a list of codes, one after another
abbrev pub AreRuns : List Run → List Code → Type 0
AreRuns [] codes = codes ≡ []
AreRuns (run ∷ runs) codes = IsRun run (take run.many codes) × AreRuns runs (drop run.many codes)
