-- What the worker of a shared group knows of its pass.
use Rattle.std.specs.Prelude.{ℕ, Bool, false, true, ◌≡◌, ◌+◌, ◌*◌, ◌<◌, ◌≤◌, List, [], length, Option, Some, None, slice_index_or}
use Rattle.upd_base.specs.Plan.{is_plan}
use Rattle.turn_lock.specs.Lists.{IsPrefix}
use Rattle.turn_lock.specs.Pass.{parts}
use Rattle.line_rules.specs.Lines.{IsEvenLine}
use Rattle.order_trait.specs.declared.ordering.Ordering.{Ghosts}
use Rattle.member_rules.specs.Kept.{rules_of}
use Rattle.run_journal.specs.Journal.{events_of}
use Rattle.turn_lock.specs.declared.kept.Kept.{Ghosts as KeptGhosts}
use Rattle.turn_lock.specs.declared.pass.Pass.{Pass}
use Rattle.live_group.specs.declared.recorded.Recorded.{Recorded}
use Rattle.live_group.specs.declared.kept_journal.KeptJournal.{KeptJournal}
use Rattle.live_group.specs.declared.group.LiveGroup.{LiveGroup}
use Rattle.live_group.specs.SharedGroup.{shared, plan_shared, IsPassOf}
use Rattle.live_group.specs.Pass.{events_seen, places}
use Rattle.upd_lines.specs.declared.line.Line.{Ghosts as LineGhosts}
use Rattle.line_rules.specs.declared.line_state.LineState.{LineState}
use Rattle.member_threads.specs.Knows.{Knows}
use Rattle.member_threads.specs.Worked.{Worked, AreWorked}
use Rattle.member_threads.specs.declared.step.Step.{Step}
use Rattle.member_threads.specs.declared.step.Step.TheVariants.{Went, Nothing, Ended, Wanted}

-- whether memory was wanted
abbrev pub wants : Step → Bool
wants Went = false
wants Nothing = false
wants Ended = false
wants Wanted = true

-- where an event was made, this holds
abbrev pub IfWent : Step → Type 0 → Type 0
IfWent Went P = P
IfWent Nothing P = Unit {0}
IfWent Ended P = Unit {0}
IfWent Wanted P = Unit {0}

-- where none was made, this holds
abbrev pub UnlessWent : Step → Type 0 → Type 0
UnlessWent Went P = Unit {0}
UnlessWent Nothing P = P
UnlessWent Ended P = P
UnlessWent Wanted P = P

module _ {O : Type 0} {G : Ghosts O} (group : LiveGroup O G) {K : KeptGhosts (KeptJournal O G) Recorded} where
  -- The pass is one of the group. Since the group was shared its holder has made receipts on no links but these, and no call that
  -- was answered as full.
  pub record IsWorkersPass (mine : ℕ → Type 0) (pass : Pass (KeptJournal O G) Recorded K) : Type 0 where
    pub of : IsPassOf group pass
    pub knows : Knows (rules_of G) (plan_shared group) (events_of (shared group)) mine (events_seen pass) (places pass)

  -- the line of a link has come as far as the events of this pass took frames
  abbrev pub HasWorked : {L : Type 0} → LineGhosts L → Pass (KeptJournal O G) Recorded K → ℕ → ℕ → Bool → L → L → LineState → Type 0
  HasWorked GL pass from to wanted old new state = Worked GL (rules_of G) (plan_shared group) (events_of (shared group)) (events_seen pass) (places pass) from to wanted (Some old) (Some new) state

  -- What a chain of workers needs, one for each link from this number on, and so many more: a fresh pass with a part for each of them,
  -- and lines on which all that was put was got.
  pub record MayServe {L : Type 0} (GL : LineGhosts L) (low members more : ℕ) (pass : Pass (KeptJournal O G) Recorded K) (lines : List (Option L)) (states : List LineState) : Type 0 where
    pub of : IsPassOf group pass
    pub fresh : places pass ≡ []
    pub goes_on : IsPrefix (events_of (shared group)) (events_seen pass)
    pub plan : is_plan (plan_shared group) ≡ true
    pub members_are : members ≡ (plan_shared group).members
    pub lines_are : length lines ≡ members * members
    pub stated : length states ≡ length lines
    pub within : low ≤ length lines
    pub enough : length lines + more < parts pass + low
    pub even : (place : ℕ) → low ≤ place → IsEvenLine GL (slice_index_or lines place None)

  -- What it comes back with: the parts that it had, and the lines as far as its events took frames.
  pub record HaveServed {L : Type 0} (GL : LineGhosts L) (low had : ℕ) (pass : Pass (KeptJournal O G) Recorded K) (wanted : Bool) (old new : List (Option L)) (states : List LineState) : Type 0 where
    pub mine : IsWorkersPass (λ k. low ≤ k) pass
    pub all_parts : parts pass ≡ had
    pub worked : AreWorked GL (rules_of G) (plan_shared group) (events_of (shared group)) (events_seen pass) (places pass) low wanted old new states
