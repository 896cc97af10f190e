-- What a worker knows of the places of its own events.
use Rattle.std.specs.Prelude.{ℕ, ◌≡◌, ◌+◌, ◌*◌, ◌≤◌, List, [], Some, slice_get, All}
use Rattle.upd_base.specs.Plan.{Planned}
use Rattle.upd_base.specs.declared.event.Event.{Event}
use Rattle.upd_base.specs.declared.event.Event.TheVariants.{Call as CallEvent}
use Rattle.upd_base.specs.declared.answer.Answer.TheVariants.{Full}
use Rattle.group_run.specs.Group.{Rules}
use Rattle.turn_lock.specs.Lists.{IsPrefix}
use Rattle.member_threads.specs.Brought.{brought, frame_at}

-- each of these places is such, whatever events come behind those that were seen
abbrev pub AllAre : List Event → List ℕ → (List Event → ℕ → Type 0) → Type 0
AllAre seen own P = (events : List Event) → IsPrefix seen events → All (P events) own

-- The event at a place is a receipt on no link but such as these, and is no call that was answered as full. The link from one member
-- to another has the number from*n + to.
pub record KeepsTo (rules : Rules) (plan : Planned) (mine : ℕ → Type 0) (events : List Event) (place : ℕ) : Type 0 where
  pub elsewhere : (from to : ℕ) → (mine (from * plan.members + to) → ⊥) → frame_at rules plan events from to place ≡ []
  pub not_full : (thread index member : ℕ) → slice_get events place ≡ Some (CallEvent thread index member Full) → ⊥

-- A worker began when these events were made. Since then it has made receipts on no links but these, and no call that was answered
-- as full.
pub record Knows (rules : Rules) (plan : Planned) (began : List Event) (mine : ℕ → Type 0) (seen : List Event) (own : List ℕ) : Type 0 where
  pub goes_on : IsPrefix began seen
  pub keeps : AllAre seen own (KeepsTo rules plan mine)

-- What was brought on a link stays, and no place that brings something there comes to the own ones.
pub record BringsNoMore (rules : Rules) (plan : Planned) (from to : ℕ) (seen : List Event) (own : List ℕ) (seen' : List Event) (own' : List ℕ) : Type 0 where
  pub goes_on : IsPrefix seen seen'
  pub same : (events : List Event) → IsPrefix seen' events → brought rules plan events own' from to ≡ brought rules plan events own from to
  pub older : (events : List Event) (low : ℕ) → IsPrefix seen' events → All (λ place. low ≤ place → frame_at rules plan events from to place ≡ []) own → All (λ place. low ≤ place → frame_at rules plan events from to place ≡ []) own'
