-- When a fault may be reported, and what it leaves. Each object outside counts its own faults; `before` and `now` are
-- such counts, and `old` and `new` are known bytes before and after a call. Own profile.
use Rattle.std.specs.Prelude.{◌≡◌, ℕ, ◌+◌, ◌-◌, ◌^◌, ◌≤◌, min, List, ◌++◌, Option, Result, OnErr, OnOk}
use Rattle.std.specs.Io.KnownBytes.{Appends}

-- the count after one more fault; it stays at the largest number of 64 bits
abbrev pub one_more : ℕ → ℕ
one_more count = min (count + 1) (2 ^ 64 - 1)

-- the count rose, or is at its largest value
abbrev pub Rose : ℕ → ℕ → Type 0
Rose before now = one_more before ≤ now

-- The count never falls. It rose at a failure, and any other answer leaves it.
pub record HasCause {T E : Type 0} (before now : ℕ) (result : Result T E) : Type 0 where
  pub later : before ≤ now
  pub failed : OnErr result (Rose before now)
  pub kept : OnOk result (now ≡ before)

-- known bytes grow by a prefix of `bs`
abbrev pub AppendsPart : Option (List ℕ) → Option (List ℕ) → List ℕ → Type 0
AppendsPart old new bs = (front : List ℕ) × (back : List ℕ) × (bs ≡ front ++ back) × Appends old new front
