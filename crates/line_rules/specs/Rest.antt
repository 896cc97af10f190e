-- Where nothing goes on but on links whose lines are not used any more.
use Rattle.std.specs.Prelude.{ℕ, ◌≡◌, [], ◌∷◌, ◌++◌, None}
use Rattle.upd_base.specs.Plan.{Planned, planned}
use Rattle.upd_base.specs.declared.event.Event.{Event}
use Rattle.upd_base.specs.declared.event.Event.TheVariants.{Call as CallEvent}
use Rattle.upd_base.specs.declared.answer.Answer.TheVariants.{Full}
use Rattle.group_run.specs.Group.{Rules}
use Rattle.group_run.specs.Run.{Events, IsReceipt, IsRelease, calls_made}

-- No release is enabled, and a receipt only on a link that is left out.
pub record IsAtRestBut (left_out : ℕ → ℕ → Type 0) (rules : Rules) (plan : Planned) (past : Events) : Type 0 where
  pub receipts : (from to : ℕ) → IsReceipt rules plan past from to → left_out from to
  pub releases : (at : ℕ) → IsRelease rules plan past at → ⊥

-- Every planned call is made too.
pub record IsHeldUp (left_out : ℕ → ℕ → Type 0) (rules : Rules) (plan : Planned) (past : Events) : Type 0 where
  pub calls : (thread : ℕ) → planned plan thread (calls_made thread past) ≡ None
  pub rest : IsAtRestBut left_out rules plan past

-- What is asked of an event that came after these: a call was answered as full only where the group was at rest but for those
-- links.
abbrev pub FullOnlyAtRestBut : (ℕ → ℕ → Type 0) → Rules → Planned → Events → Event → Type 0
FullOnlyAtRestBut left_out rules plan past (CallEvent thread index member Full) = IsAtRestBut left_out rules plan past
FullOnlyAtRestBut left_out rules plan past event = Unit {0}

-- the same of each of these events, the newest first, that came after a start
abbrev pub FullAtRestBut : (ℕ → ℕ → Type 0) → Rules → Planned → Events → Events → Type 0
FullAtRestBut left_out rules plan start [] = Unit {0}
FullAtRestBut left_out rules plan start (event ∷ newer) = FullOnlyAtRestBut left_out rules plan (newer ++ start) event × FullAtRestBut left_out rules plan start newer

-- A run goes on from a start, and among the events since then calls were answered as full only where the group was at rest but
-- for links that are left out.
abbrev pub GoesOnFullAtRestBut : (ℕ → ℕ → Type 0) → Rules → Planned → Events → Events → Type 0
GoesOnFullAtRestBut left_out rules plan start past = (newer : Events) × (past ≡ newer ++ start) × FullAtRestBut left_out rules plan start newer
