-- What a call leaves in a caller's buffer and in its report.
use Rattle.std.specs.Prelude.{ℕ, ◌+◌, ◌*◌, ◌^◌, ℤ, pos, neg_ℤ, if◌then◌else◌, Option, Some, None, List}
use Rattle.sbe_c.specs.declared.answers.Report.{Report}
use Rattle.sbe_c.specs.declared.reading.Number.{Number}

-- A buffer before and after a call, and the report of the call.
pub record Outcome : Type 0 where
  pub old : List ℕ
  pub new : List ℕ
  pub report : Report

-- the same by its parts
abbrev pub outcome : List ℕ → List ℕ → Report → Outcome
outcome old new report = record { old = old; new = new; report = report }

-- ---- numbers

-- the size of a number as C sees it
abbrev pub size_told : Number → ℕ
size_told n = n.high * 2 ^ 64 + n.low

-- the number, if there is one
abbrev pub number_told : Number → Option ℤ
number_told n = if n.is_there then Some (if n.is_negative then neg_ℤ (pos (size_told n)) else pos (size_told n)) else None

-- The same for a buffer of numbers.
pub record NumbersOutcome : Type 0 where
  pub old : List Number
  pub new : List Number
  pub report : Report

-- the same by its parts
abbrev pub numbers_outcome : List Number → List Number → Report → NumbersOutcome
numbers_outcome old new report = record { old = old; new = new; report = report }
