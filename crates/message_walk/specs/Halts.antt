-- The first place of a message that isn't written, as the walk reports it. Own profile.
use Rattle.std.specs.Prelude.{[], min, Option, Some, None}
use Rattle.bridge_terms.specs.Places.{Way, Why, no_text, no_delimiter, Unsent, over_limit, unwritten}
use Rattle.message_walk.specs.declared.halt.Cause.{Cause}
use Rattle.message_walk.specs.declared.halt.Cause.TheVariants as cause
use Rattle.message_walk.specs.declared.halt.Halt.{Halt}
use Rattle.message_walk.specs.Ways.{kept_way, pushed}

-- why a place isn't written, as the walk reports it
abbrev pub cause_of : Why → Cause
cause_of (no_text v) = cause.NoText v
cause_of no_delimiter = cause.NoDelimiter

-- why a message isn't written completely, with the last steps of the path
abbrev pub halt_of : Unsent → Halt
halt_of (over_limit o) = record { cause = cause.Full (min o.size 18446744073709551615); way = kept_way o.way }
halt_of (unwritten r) = record { cause = cause_of r.why; way = kept_way r.way }

-- a place inside a step
abbrev pub halt_in : Way → Option Halt → Option Halt
halt_in step None = None
halt_in step (Some h) = Some (record { cause = h.cause; way = pushed step h.way })

-- an entry that doesn't begin with its delimiter, with an empty path
abbrev pub undelimited_here : Halt
undelimited_here = record { cause = cause.NoDelimiter; way = [] }
