-- The calls of an object in memory, some of which are meant to fail. Own profile.
use Rattle.std.specs.Prelude.{ℕ, Bool, List, Contains, if◌then◌else◌}
use Rattle.sbe_base.specs.Causes.{one_more}

-- the numbers of the calls that are meant to fail, counted from 1; how many calls were made; how many of them failed
pub record CallLog : Type 0 where
  pub failing : List ℕ
  pub made : ℕ
  pub faults : ℕ

-- no call was made yet
abbrev pub no_calls : List ℕ → CallLog
no_calls failing = record { failing = failing; made = 0; faults = 0 }

-- the number of the next call; it stays at the largest number of 64 bits
abbrev pub next_number : CallLog → ℕ
next_number log = one_more log.made

-- the next call is one of those that are meant to fail
abbrev pub IsListed : CallLog → Type 0
IsListed log = Contains log.failing (next_number log)

-- the log after one more call, which failed or didn't
abbrev pub one_call : CallLog → Bool → CallLog
one_call log failed = record { failing = log.failing; made = next_number log; faults = (if failed then one_more log.faults else log.faults) }
