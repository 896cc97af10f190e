-- What a schedule chooses from: the next call of each thread, but for one that would be answered as full; a receipt on
-- each link; a release at each member.
use Rattle.std.specs.Prelude.{ℕ, ◌<◌, Bool, ◌&&◌, not, nat_lt, if◌then◌else◌, Option, Some, None, is_some, List, [], ◌∷◌, ◌++◌, length, map}
use Rattle.std.specs.List.{flat_map}
use Rattle.upd_base.specs.Plan.{Planned, bound}
use Rattle.upd_base.specs.declared.call.Step.{Step as PlannedStep}
use Rattle.upd_base.specs.declared.event.Event.TheVariants.{Call as CallEvent, Receive as ReceiveEvent, Release as ReleaseEvent}
use Rattle.group_run.specs.Group.{Rules}
use Rattle.group_run.specs.Held.{first_ready}
use Rattle.group_run.specs.Part.{below}
use Rattle.group_run.specs.Answer.{answer}
use Rattle.group_run.specs.Run.{Events, calls_made, crashed_in, group, held_in, part, version_in}
use Rattle.group_world.specs.declared.moves.Move.{Move}
use Rattle.group_world.specs.declared.moves.Move.TheVariants.{Call, Receive, Release}
use Rattle.run_journal.specs.Causes.{next_call, answer_next, would_be_full, open_frame}

-- the journal has room for one event more
abbrev pub has_room : Planned → Events → Bool
has_room plan past = nat_lt (length past) (bound plan)

-- a choice that a plan has: its thread or members are those of the plan
abbrev pub IsChoice : Planned → Move → Type 0
IsChoice plan (Call thread) = thread < length plan.threads
IsChoice plan (Receive from to) = (from < plan.members) × (to < plan.members)
IsChoice plan (Release at) = at < plan.members

-- whether a choice is open
abbrev pub is_open : Rules → Planned → Events → Move → Bool
is_open rules plan past (Call thread) =
    is_some (next_call plan past thread) && not (would_be_full (answer_next rules plan past (next_call plan past thread)))
is_open rules plan past (Receive from to) = is_some (open_frame rules plan past from to)
is_open rules plan past (Release at) = not (crashed_in rules plan past at) && is_some (first_ready (version_in rules plan past at) (held_in rules plan past at))

-- the call that a thread makes next, with the answer that its member gives
abbrev pub called : Rules → Planned → Events → ℕ → Option PlannedStep → Events
called rules plan past thread None = past
called rules plan past thread (Some s) = CallEvent thread (calls_made thread past) s.at (answer (group rules plan) s.at (part rules plan past s.at) s.call) ∷ past

-- the events once a choice is made
abbrev pub made : Rules → Planned → Events → Move → Events
made rules plan past (Call thread) = called rules plan past thread (next_call plan past thread)
made rules plan past (Receive from to) = ReceiveEvent from to ∷ past
made rules plan past (Release at) = ReleaseEvent at ∷ past

-- the receipts on the links from a member, by receiver
abbrev pub receipts_from : ℕ → ℕ → List Move
receipts_from n from = map (λ to. Receive from to) (below n)

-- All choices in their order: calls by thread, receipts by (from, to), releases by member.
abbrev pub choices : Planned → List Move
choices plan = map (λ thread. Call thread) (below (length plan.threads)) ++ flat_map (receipts_from plan.members) (below plan.members) ++ map (λ at. Release at) (below plan.members)

-- the lowest of these threads that has a call
abbrev pub lowest_of : Planned → Events → List ℕ → Option ℕ
lowest_of plan past [] = None
lowest_of plan past (thread ∷ threads) = if is_some (next_call plan past thread) then Some thread else lowest_of plan past threads

abbrev pub waiting_thread : Planned → Events → Option ℕ
waiting_thread plan past = lowest_of plan past (below (length plan.threads))
