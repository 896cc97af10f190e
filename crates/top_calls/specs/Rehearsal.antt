-- What the journal of a rehearsal promises.
use Rattle.std.specs.Prelude.{ℕ, ◌≡◌, ◌⊎◌, Option, [], length}
use Rattle.upd_base.specs.Plan.{Planned, bound}
use Rattle.group_run.specs.Run.{Events, IsGroupRun}
use Rattle.group_run.specs.Ordered.{IsOrdered}
use Rattle.group_run.specs.Settled.{IsFulfilled, IsQuiet, IsSettled, IsTrusting}
use Rattle.group_laws.specs.Versions.{CountsSwitches, HasSwitchedKinds, HasWholeSegments}
use Rattle.rehearsal.specs.Ends.{EndsAt, IsOnTheWay}
use Rattle.rehearsal.specs.FullAtRest.{FullAtRest}
use Rattle.rehearsal.specs.declared.rehearsed.RehearsalEnd.TheVariants as ends
use Rattle.program_texts.specs.Rules.{the_rules}
use Rattle.top_calls.specs.Recorded.{CameTo, scheduled}
use Rattle.planned_calls.specs.Calls.{HasNo, MakesEach, MakesPlanned, is_crash, is_suspect}
use Rattle.planned_calls.specs.Sends.{DeliversSends}
use Rattle.program_texts.specs.declared.run_end.End.TheVariants.{Settled, Spent}
use Rattle.program_texts.specs.declared.status.Status.{Status}
use Rattle.program_texts.specs.declared.status.Status.TheVariants as statuses

-- The laws of a journal's events, whatever led to them.
pub record KeepsLaws (plan : Planned) (past : Events) : Type 0 where
  -- they are a group run of the plan from the opening
  pub run : IsGroupRun the_rules plan past
  -- the logs agree, nothing stands twice in one, and only what was accepted
  pub ordered : IsOrdered the_rules plan past
  -- versions count the switches of a log; each further one has the kind of the switch below; each segment ends at its first
  pub counts : CountsSwitches the_rules plan past
  pub kinds : HasSwitchedKinds the_rules plan past
  pub segments : HasWholeSegments the_rules plan past
  -- settled without crash or suspicion, every accepted message stands in every log
  pub fulfilled : IsSettled the_rules plan past → IsQuiet plan past → IsFulfilled the_rules plan past
  -- without a suspicion that was taken, a run as long as the bound is settled
  pub bounded : IsTrusting plan past → length past ≡ bound plan → IsSettled the_rules plan past
  -- each planned call stands there at most once, each thread's in order; settled each stands there once
  pub planned : MakesPlanned plan past
  pub each : IsSettled the_rules plan past → MakesEach plan past
  -- a plan without suspicions has trusting runs, and without crashes quiet ones
  pub trusting : HasNo is_suspect plan → IsTrusting plan past
  pub quiet : HasNo is_suspect plan → HasNo is_crash plan → IsQuiet plan past
  -- settled and quiet, where calls were answered as full only at rest, each planned send stands in every log
  pub delivers : FullAtRest the_rules plan [] past → IsSettled the_rules plan past → IsQuiet plan past → DeliversSends the_rules plan past

-- How far the events are those of the schedule: to its end, and at want of memory on the way there.
abbrev pub FollowsSchedule : Status → Planned → Events → Events → Type 0
FollowsSchedule statuses.Done plan past whole = EndsAt the_rules plan ends.Settled past whole
FollowsSchedule statuses.TurnsSpent plan past whole = EndsAt the_rules plan ends.Spent past whole
FollowsSchedule statuses.SinkFailed plan past whole = EndsAt the_rules plan ends.Settled past whole ⊎ EndsAt the_rules plan ends.Spent past whole
FollowsSchedule statuses.NoMemory plan past whole = IsOnTheWay past whole
FollowsSchedule statuses.Words plan past whole = ⊥
FollowsSchedule statuses.SourceFailed plan past whole = ⊥
FollowsSchedule (statuses.Scenario fault) plan past whole = ⊥
FollowsSchedule (statuses.NotARun place) plan past whole = ⊥
FollowsSchedule (statuses.LineDown from to) plan past whole = ⊥
FollowsSchedule (statuses.LineLied from to at put got) plan past whole = ⊥
FollowsSchedule (statuses.JournalRefused fault) plan past whole = ⊥

-- What is true of the events of a journal that came with this status.
pub record IsRehearsalOf (seed : Option ℕ) (status : Status) (plan : Planned) (past : Events) : Type 0 where
  -- the laws hold of them, and they are those of the schedule that is asked for
  pub laws : KeepsLaws plan past
  pub schedule : FollowsSchedule status plan past (scheduled seed plan)
  -- at status 0 the run is settled, and each planned call stands there once
  pub settled : status ≡ statuses.Done → CameTo Settled plan past
  pub each : status ≡ statuses.Done → MakesEach plan past
  -- at status 0 each send of a plan without crash and suspicion was accepted and stands in every log
  pub delivered : status ≡ statuses.Done → HasNo is_suspect plan → HasNo is_crash plan → DeliversSends the_rules plan past
  -- where the turns are spent, the run is as long as the bound and not settled, and a suspicion was taken
  pub spent : status ≡ statuses.TurnsSpent → CameTo Spent plan past
  pub suspected : status ≡ statuses.TurnsSpent → IsTrusting plan past → ⊥
