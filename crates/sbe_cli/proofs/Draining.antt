-- A pump that runs until it has ended.
use Rattle.std.proofs.Common.{◌≡◌, ◌≤◌, refl, sym, ap, ◌∙◌, subst}
use Rattle.sbe_base.specs.declared.status.Status.{Status}
use Rattle.replies.specs.Outside.{Streams}
use Rattle.command_steps.specs.Splits.{most_pieces}
use Rattle.command_steps.specs.Steps.{Moment, Steps, Drains, passage}
use Rattle.command_steps.specs.declared.step.Step.TheVariants.{Went, Ended}
use Rattle.command_steps.proofs.Running.{IsRunning, runs_new, runs_more, drained}
use Rattle.sbe_cli.specs.Jobs.{Job, answering_of, reading_of}
use Rattle.sbe_cli.specs.Opens.{PumpState, opened_for}

-- a pump on this job, which runs
pub record IsDraining (job : Job) (pump : PumpState) (old now : Streams) : Type 0 where
  pub job_is : pump.job ≡ job
  pub within : pump.at.kept.items ≤ most_pieces (reading_of pump.job)
  pub running : IsRunning (answering_of job) pump.at old now

within_so : (job other : Job) (pump : PumpState) → other ≡ job → pump.at.kept.items ≤ most_pieces (reading_of job) → pump.at.kept.items ≤ most_pieces (reading_of other)
within_so job other pump same h = subst (λ (j : Job). pump.at.kept.items ≤ most_pieces (reading_of j)) (sym same) h

pub began : (pump : PumpState) (old : Streams) → pump ≡ opened_for pump.job → IsDraining pump.job pump old old
began pump old new =
    let running = subst (λ (m : Moment). IsRunning (answering_of pump.job) m old old) (sym (ap (λ (s : PumpState). s.at) new)) (runs_new (answering_of pump.job) old) in
    record { job_is = refl; within = running.within; running = running }

module _ (job : Job) (old now new : Streams) (pump pump' : PumpState) (h : IsDraining job pump old now) where
  pub went_on : Steps (answering_of pump.job) pump.at pump'.at (passage now new) Went → pump'.job ≡ pump.job → IsDraining job pump' old new
  went_on step same =
      let here = subst (λ (j : Job). Steps (answering_of j) pump.at pump'.at (passage now new) Went) h.job_is step in
      let running = runs_more (answering_of job) old now new pump.at pump'.at h.running here in
      record { job_is = same ∙ h.job_is; within = within_so job pump'.job pump' (same ∙ h.job_is) running.within; running = running }

  pub came_to_end : (code : Status) → Steps (answering_of pump.job) pump.at pump'.at (passage now new) (Ended code) → Drains (answering_of job) old new code
  came_to_end code step =
      drained (answering_of job) old now new pump.at pump'.at code h.running (subst (λ (j : Job). Steps (answering_of j) pump.at pump'.at (passage now new) (Ended code)) h.job_is step)
