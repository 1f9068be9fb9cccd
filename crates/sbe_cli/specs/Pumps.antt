-- What holds inside a pump.
use Rattle.std.specs.Prelude.{◌≡◌, Option, Some, None, ⊤}
use Rattle.sbe_base.specs.declared.status.Limits.{Limits}
use Rattle.sbe_base.specs.declared.status.Status.{Status}
use Rattle.frame_stream.specs.Stream.{StreamState}
use Rattle.frame_stream.specs.LineTakes.{LineState}
use Rattle.raw_fix.specs.Stream.{RawState}
use Rattle.raw_steps.specs.Stands.{StandsRaw, raw_ahead}
use Rattle.command_steps.specs.Ahead.{Ahead, none_ahead}
use Rattle.command_steps.specs.Replies.{none_kept}
use Rattle.command_steps.specs.Stands.{IsBounded, Stands, StandsLines, StandsOnce, lines_ahead}
use Rattle.command_steps.specs.declared.kept.Kept.{Kept}
use Rattle.command_steps.specs.declared.step.Step.{Step}
use Rattle.command_steps.specs.declared.step.Step.TheVariants.{Ended}
use Rattle.sbe_cli.specs.Jobs as jobs
use Rattle.sbe_cli.specs.Jobs.{Job}
use Rattle.sbe_cli.specs.declared.pump.Work.{Work}
use Rattle.sbe_cli.specs.declared.pump.Work.TheVariants as work

-- what is still to come: frames, lines, items of a stream without heads, or nothing of the input
pub data Feed : Type 0 where
  frames : Limits → StreamState → Feed
  lines : Limits → LineState → Feed
  items : Limits → RawState → Feed
  nothing : Feed

-- The job of work, and what is still to come for it.
pub record OnJob : Type 0 where
  pub job : Job
  pub feed : Feed

-- The job and the feed of each work: one line for each command.
abbrev pub on_job : Work → OnJob
on_job (work.Check on) = record { job = jobs.Check on.command; feed = nothing }
on_job (work.Coverage on) = record { job = jobs.Coverage on.command; feed = nothing }
on_job (work.Compat on) = record { job = jobs.Compat on.command; feed = nothing }
on_job (work.Dump on) = record { job = jobs.Dump on.command on.limits; feed = frames on.limits on.stream }
on_job (work.Build on) = record { job = jobs.Build on.command on.limits.input; feed = lines on.limits on.stream }
on_job (work.FixCheck on) = record { job = jobs.FixCheck on.command on.limits; feed = frames on.limits on.stream }
on_job (work.ToFix on) = record { job = jobs.ToFix on.command on.limits; feed = frames on.limits on.stream }
on_job (work.ToSbe on) = record { job = jobs.ToSbe on.command on.limits; feed = frames on.limits on.stream }
on_job (work.SelfTest on) = record { job = jobs.SelfTest on.command; feed = nothing }
on_job (work.Regrade on) = record { job = jobs.Regrade on.command on.limits; feed = frames on.limits on.stream }
on_job (work.RawFrame on) = record { job = jobs.RawFrame on.command on.limits; feed = items on.limits on.stream }

-- the job of work
abbrev pub job_of : Work → Job
job_of on = (on_job on).job

-- what is known of the input after the pieces
abbrev pub ahead_in : Feed → Ahead
ahead_in (frames limits stream) = none_ahead
ahead_in (lines limits stream) = lines_ahead stream
ahead_in (items limits stream) = raw_ahead stream
ahead_in nothing = none_ahead

-- what work knows of the input after its pieces
abbrev pub ahead_of : Work → Ahead
ahead_of on = ahead_in (on_job on).feed

-- what holds of a feed at every moment
abbrev pub IsSoundFeed : Feed → Type 0
IsSoundFeed (frames limits stream) = IsBounded limits
IsSoundFeed (lines limits stream) = IsBounded limits
IsSoundFeed (items limits stream) = IsBounded limits
IsSoundFeed nothing = ⊤

-- what holds of a feed before the end
abbrev pub StandsIn : Feed → Kept → Type 0
StandsIn (frames limits stream) kept = Stands limits stream kept
StandsIn (lines limits stream) kept = StandsLines limits stream kept
StandsIn (items limits stream) kept = StandsRaw limits stream kept
StandsIn nothing kept = StandsOnce kept

-- what holds of work at every moment
abbrev pub IsSoundWork : Work → Type 0
IsSoundWork on = IsSoundFeed (on_job on).feed

-- what holds of work before its end
abbrev pub StandsSo : Work → Kept → Type 0
StandsSo on kept = StandsIn (on_job on).feed kept

-- What holds of a pump at every moment.
pub record IsPump (on : Work) (kept : Kept) (ended : Option Status) : Type 0 where
  pub sound : IsSoundWork on
  pub stands : ended ≡ None → StandsSo on kept

-- work of which nothing is done yet
pub record IsOpened (on : Work) : Type 0 where
  pub sound : IsSoundWork on
  pub stands : StandsSo on none_kept
  pub ahead : ahead_of on ≡ none_ahead

-- an answer that ends a pump
abbrev pub EndsAs : Step → Option Status → Status → Type 0
EndsAs step ended code = (step ≡ Ended code) × (ended ≡ Some code)
