-- What is remembered of the bytes that are held. Own profile.
use Rattle.std.specs.Prelude.{◌≡◌, ℕ, ◌+◌, ◌-◌, ◌<◌, ◌≤◌, ◌%◌, List, length, take, drop, sum}
use Rattle.std.specs.List.{AllByRecursion}
use Rattle.tagvalue_codec.specs.Reading.{plain_len}
use Rattle.raw_walk.specs.declared.ends.End.{End}
use Rattle.raw_walk.specs.declared.ends.Ends.{Ends}
use Rattle.raw_walk.specs.declared.sums.SumAt.{SumAt}
use Rattle.raw_walk.specs.declared.sums.Sums.{Sums}
use Rattle.raw_walk.specs.declared.recall.Recall.{Recall}

-- the bytes that are held, and how many bytes of the input precede them
pub record Held : Type 0 where
  pub place : ℕ
  pub bytes : List ℕ

-- these bytes after so many
abbrev pub held_at : ℕ → List ℕ → Held
held_at place bytes = record { place = place; bytes = bytes }

-- the first SOH after the place where a value begins is where it ends
pub record EndsAt (h : Held) (e : End) : Type 0 where
  pub within : e.to < h.place + length h.bytes
  pub plain : e.from + plain_len (drop (e.from - h.place) h.bytes) ≡ e.to

-- what is remembered of a value is right if the value begins in the bytes that are held
abbrev pub IsEnd : Held → End → Type 0
IsEnd h e = h.place ≤ e.from → e.from < e.to → EndsAt h e

-- all that is remembered of values is right
pub record AreEnds (h : Held) (ends : Ends) : Type 0 where
  pub some : 0 < length ends.cells.items
  pub each : AllByRecursion (IsEnd h) ends.cells.items

-- a sum is that of the bytes that are held up to its place, and of those before them
abbrev pub IsSumAt : Held → ℕ → SumAt → Type 0
IsSumAt h before s = s.sum ≡ (before + sum (take (s.at - h.place) h.bytes)) % 256

-- a remembered sum is right if its place is in the bytes that are held, and isn't after the last one
abbrev pub IsCell : Held → ℕ → SumAt → SumAt → Type 0
IsCell h before last s = h.place ≤ s.at → (s.at ≤ last.at) × IsSumAt h before s

-- the last sum is right if its place is in the bytes that are held
pub record IsLast (h : Held) (before : ℕ) (s : SumAt) : Type 0 where
  pub within : s.at ≤ h.place + length h.bytes
  pub is : IsSumAt h before s

-- all remembered sums are right, and are counted from the same byte
pub record AreSums (h : Held) (s : Sums) : Type 0 where
  pub before : ℕ
  pub some : 0 < length s.cells.items
  pub each : AllByRecursion (IsCell h before s.last) s.cells.items
  pub last : h.place ≤ s.last.at → IsLast h before s.last

-- all that is remembered is right
pub record Recalls (h : Held) (r : Recall) : Type 0 where
  pub ends : AreEnds h r.ends
  pub sums : AreSums h r.sums
