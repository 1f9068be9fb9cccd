-- What an object outside models. Own profile.
use Rattle.std.specs.Prelude.{◌≤◌, ℕ, Option}
use Rattle.sbe_base.specs.Causes.{Rose}

-- the content that an object models, if it models it, and how often it has failed
pub record Object (T : Type 0) : Type 0 where
  pub told : Option T
  pub faults : ℕ

-- a call failed: the count rose, or is at its largest value
pub record Failed {T : Type 0} (old new : Object T) : Type 0 where
  pub rose : Rose old.faults new.faults
  pub later : old.faults ≤ new.faults
