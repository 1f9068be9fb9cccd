-- What the size of a message's body means.
use Rattle.std.specs.Prelude.{ℕ, Result, Ok, Err}
use Rattle.sbe_wire.specs.Misfit.{Misfit, Taken}
use Rattle.tree_codec.specs.declared.sizing.EncodeErr.{EncodeErr}

-- the misfit that a refusal reports
abbrev pub sized_err : EncodeErr → Misfit
sized_err e = record { code = e.code; path = e.path; detail = e.detail }

-- the number of bytes, or the first misfit
abbrev pub sized : Result ℕ EncodeErr → Taken
sized (Ok n) = Ok n
sized (Err e) = Err (sized_err e)
