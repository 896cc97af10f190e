-- The planned calls that stand in a run.
use Rattle.std.specs.Prelude.{ℕ, Bool, false, true, ◌≡◌, ◌≤◌, ◌==◌, ◌&&◌, if◌then◌else◌, Some, List, [], ◌∷◌, ◌++◌, Contains, count_by}
use Rattle.upd_base.specs.Plan.{Planned, planned}
use Rattle.upd_base.specs.declared.answer.Answer.{Answer}
use Rattle.upd_base.specs.declared.call.Call.{Call as PlannedCall}
use Rattle.upd_base.specs.declared.call.Call.TheVariants as calls
use Rattle.upd_base.specs.declared.call.Step.{Step}
use Rattle.upd_base.specs.declared.event.Event.{Event}
use Rattle.upd_base.specs.declared.event.Event.TheVariants.{Call, Receive, Release}
use Rattle.group_run.specs.Part.{below}
use Rattle.group_run.specs.Run.{Events, calls_made}

-- the places of a thread's calls, in the order in which they were made
abbrev pub places_of : ℕ → Events → List ℕ
places_of thread [] = []
places_of thread (Call other index member given ∷ past) = if other == thread then places_of thread past ++ index ∷ [] else places_of thread past
places_of thread (Receive from to ∷ past) = places_of thread past
places_of thread (Release at ∷ past) = places_of thread past

-- the call at this place of a thread
abbrev pub is_call_at : ℕ → ℕ → Event → Bool
is_call_at thread index (Call other place member given) = (other == thread) && (place == index)
is_call_at thread index (Receive from to) = false
is_call_at thread index (Release at) = false

-- Each call of a run is a planned one, at its member; a thread's calls stand in their order; and none stands twice.
pub record MakesPlanned (plan : Planned) (past : Events) : Type 0 where
  pub of_plan : (thread index member : ℕ) (given : Answer) → Contains past (Call thread index member given) → (s : Step) × (planned plan thread index ≡ Some s) × (member ≡ s.at)
  pub in_order : (thread : ℕ) → places_of thread past ≡ below (calls_made thread past)
  pub once : (thread index : ℕ) → count_by (is_call_at thread index) past ≤ 1

-- Each planned call stands in the run once.
abbrev pub MakesEach : Planned → Events → Type 0
MakesEach plan past = (thread index : ℕ) (s : Step) → planned plan thread index ≡ Some s → count_by (is_call_at thread index) past ≡ 1

-- Plans ---------------------------------------------------------------------------------------------------------

-- no planned call is of this sort
abbrev pub HasNo : (PlannedCall → Bool) → Planned → Type 0
HasNo test plan = (thread index : ℕ) (s : Step) → planned plan thread index ≡ Some s → test s.call ≡ false

abbrev pub is_suspect : PlannedCall → Bool
is_suspect (calls.Send text) = false
is_suspect (calls.Change kind) = false
is_suspect (calls.Suspect who) = true
is_suspect (calls.Trust who) = false
is_suspect calls.Crash = false

abbrev pub is_crash : PlannedCall → Bool
is_crash (calls.Send text) = false
is_crash (calls.Change kind) = false
is_crash (calls.Suspect who) = false
is_crash (calls.Trust who) = false
is_crash calls.Crash = true
