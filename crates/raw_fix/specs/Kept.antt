-- The bytes of a stream that are held, in a window with more room. Own profile.
use Rattle.std.specs.Prelude.{ℕ, ◌-◌, ◌≤◌, length}
use Rattle.frame_stream.specs.Window.{HeldState}
use Rattle.raw_walk.specs.declared.recall.Recall.{Recall}
use Rattle.raw_walk.specs.Recalled.{Recalls, held_at}

-- there is room for the most bytes that are held, and what is remembered of those that are is right
pub record IsKept (size : ℕ) (h : HeldState) (recall : Recall) : Type 0 where
  pub room : size ≤ h.size
  pub recalls : Recalls (held_at (h.taken - length h.bytes) h.bytes) recall
