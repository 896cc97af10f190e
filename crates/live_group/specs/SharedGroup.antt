-- What contracts say of a shared group.
use Rattle.std.specs.Prelude.{length}
use Rattle.order_trait.specs.declared.ordering.Ordering.{Ghosts}
use Rattle.upd_base.specs.Plan.{Planned}
use Rattle.run_journal.specs.declared.journal.Journal.{Journal}
use Rattle.run_journal.specs.Journal.{plan_of}
use Rattle.turn_lock.specs.declared.kept.Kept.{Ghosts as KeptGhosts}
use Rattle.turn_lock.specs.declared.pass.Pass.{Pass}
use Rattle.turn_lock.specs.Pass.{seen, own, IsIdle}
use Rattle.turn_lock.specs.Places.{Ascends}
use Rattle.turn_lock.specs.TurnLock.{opening}
use Rattle.turn_lock.specs.TurnLock.{IsPassOf as IsLockPassOf}
use Rattle.live_group.specs.declared.recorded.Recorded.{Recorded}
use Rattle.live_group.specs.declared.kept_journal.KeptJournal.{KeptJournal}
use Rattle.live_group.specs.declared.group.LiveGroup.{LiveGroup}
use Rattle.live_group.specs.Recorded.{AreBehind, HasPlan}
use Rattle.live_group.specs.Pass.{events_seen, places}

module _ {O : Type 0} {G : Ghosts O} (group : LiveGroup O G) where
  -- the journal that was shared, as it was then
  abbrev pub shared : Journal O G
  shared = (opening group.lock).journal

  -- its plan
  abbrev pub plan_shared : Planned
  plan_shared = plan_of shared

  -- The pass is one of this group: it is of its lock, and in no turn. It has seen the plan and events behind it. The
  -- places of its own events rise, and are places of events that it has seen.
  pub record IsPassOf {K : KeptGhosts (KeptJournal O G) Recorded} (pass : Pass (KeptJournal O G) Recorded K) : Type 0 where
    pub lock : IsLockPassOf group.lock pass
    pub idle : IsIdle pass
    pub plan : HasPlan plan_shared (seen pass)
    pub behind : AreBehind (own pass)
    pub rise : Ascends 0 (length (events_seen pass)) (places pass)
