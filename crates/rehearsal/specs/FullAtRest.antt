-- When a call is answered as full.
use Rattle.std.specs.Prelude.{ℕ, ◌≡◌, [], ◌∷◌, ◌++◌}
use Rattle.upd_base.specs.Plan.{Planned}
use Rattle.upd_base.specs.declared.event.Event.{Event}
use Rattle.upd_base.specs.declared.event.Event.TheVariants.{Call as CallEvent}
use Rattle.upd_base.specs.declared.answer.Answer.TheVariants.{Full}
use Rattle.group_run.specs.Group.{Rules}
use Rattle.group_run.specs.Run.{Events, IsReceipt, IsRelease}

-- A group is at rest where nothing can be received or released.
pub record IsAtRest (rules : Rules) (plan : Planned) (past : Events) : Type 0 where
  pub receipts : (from to : ℕ) → IsReceipt rules plan past from to → ⊥
  pub releases : (at : ℕ) → IsRelease rules plan past at → ⊥

-- What is asked of an event that came after these: a call was answered as full only where the group was at rest.
abbrev pub FullOnlyAtRest : Rules → Planned → Events → Event → Type 0
FullOnlyAtRest rules plan past (CallEvent thread index member Full) = IsAtRest rules plan past
FullOnlyAtRest rules plan past event = Unit {0}

-- the same of each of these events, the newest first, that came after a start
abbrev pub FullAtRest : Rules → Planned → Events → Events → Type 0
FullAtRest rules plan start [] = Unit {0}
FullAtRest rules plan start (event ∷ newer) = FullOnlyAtRest rules plan (newer ++ start) event × FullAtRest rules plan start newer

-- A run goes on from a start, and among the events since then calls were answered as full only where the group was at
-- rest.
abbrev pub GoesOnFullAtRest : Rules → Planned → Events → Events → Type 0
GoesOnFullAtRest rules plan start past = (newer : Events) × (past ≡ newer ++ start) × FullAtRest rules plan start newer
