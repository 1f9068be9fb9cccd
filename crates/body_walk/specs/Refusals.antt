-- Why a body isn't a message.
use Rattle.std.specs.Prelude.{ℕ, Option}
use Rattle.sbe_wire.specs.Faults.{Fault}
use Rattle.body_walk.specs.declared.refusal.Refusal.{Refusal}

-- why a body isn't a message: the number of the message with its header's template id, if there is one, and its first
-- fault
pub record Misread : Type 0 where
  pub template : Option ℕ
  pub fault : Fault

-- the fault that a refusal reports
abbrev pub refused : Refusal → Fault
refused r = record { code = r.code; path = r.path; offset = r.offset; detail = r.detail }
