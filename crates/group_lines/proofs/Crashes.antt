-- A member that has crashed stays so.
use Rattle.std.proofs.Common.{ℕ, ◌≡◌, inl, inr, true, List, [], ◌∷◌, ◌++◌, length, refl, sym, subst, Option, Some, None}
use Rattle.fifo_net.specs.Net.{Input, Took, Step}
use Rattle.fifo_net.proofs.Links.{inputs_here, inputs_away}
use Rattle.order_trait.specs.Runs.{Order, Broadcast, Suspect as SuspectOrder, Trust as TrustOrder}
use Rattle.upd_base.specs.Plan.{Planned, planned}
use Rattle.upd_base.specs.declared.item.Item.{Item}
use Rattle.upd_base.specs.declared.item.Item.TheVariants.{Msg, Switch}
use Rattle.upd_base.specs.declared.frame.Frame.{Frame}
use Rattle.upd_base.specs.declared.call.Step.{Step as PlannedStep}
use Rattle.upd_base.specs.declared.event.Event.{Event}
use Rattle.upd_base.specs.declared.event.Event.TheVariants.{Call as CallEvent, Receive, Release}
use Rattle.group_run.specs.Group.{Rules, Group, Outer}
use Rattle.group_run.specs.Held.{without_ready}
use Rattle.group_run.specs.Part.{Part, version, with_accepted, with_suspects, with_held, without}
use Rattle.group_run.specs.Turn.{Turn, all_told, entered, first_orders, in_each, in_module, issued, opened, processed, still, stepped, told, turn_after, turn_of}
use Rattle.group_run.specs.Run.{Events, Moves, call_made, crashed_in, frame_taken, group, moves_in, next_frame, turn_at}
use Rattle.group_run.proofs.Lists.{same_or}
use Rattle.group_run.proofs.Turns.{entered_cases, told_keeps, turn_cases}

abbrev IsDown : Turn → Type 0
IsDown t = t.part.crashed ≡ true

orders_keep : (g : Group) (me : ℕ) (t : Turn) (os : List (ℕ × Order)) → IsDown t → IsDown (all_told g me t os)
orders_keep g me t os down = told_keeps g me IsDown (λ u o d. d) t os down

entered_keeps : (g : Group) (me : ℕ) (t : Turn) → IsDown t → IsDown (entered g me t)
entered_keeps g me t down = entered_cases g me t IsDown (λ e. down) (λ e. orders_keep g me (opened t) (in_module (length t.part.modules) (first_orders g me t.part)) down)

processed_keeps : (g : Group) (me : ℕ) (p : Part) (from : ℕ) (frame : Frame) → p.crashed ≡ true → IsDown (processed g me p from frame)
processed_keeps g me p from frame down = entered_keeps g me (stepped g me (still p) (record { version = frame.version; input = Took from frame.body })) down

issued_keeps : (g : Group) (me : ℕ) (p : Part) (item : Item) → p.crashed ≡ true → IsDown (issued g me p item)
issued_keeps g me p item down = orders_keep g me (still (with_accepted p item)) (in_module (version p) (Broadcast item ∷ [])) down

suspects_keep : (g : Group) (me : ℕ) (p : Part) (suspects : List ℕ) (order : Order) → p.crashed ≡ true → IsDown (told g me p suspects order)
suspects_keep g me p suspects order down = orders_keep g me (still (with_suspects p suspects)) (in_each p order) down

turn_keeps : (g : Group) (me : ℕ) (p : Part) (x : Input Outer Frame) → p.crashed ≡ true → IsDown (turn_after g me p x)
turn_keeps g me p x down = turn_cases g me p x IsDown (record {
  idle = down;
  sends = λ text number a. issued_keeps g me p (Msg me number text) down;
  changes = λ kind number a. issued_keeps g me p (Switch me number kind) down;
  suspects = λ who e a. suspects_keep g me p (who ∷ without who p.suspects) (SuspectOrder who) down;
  trusts = λ who a. suspects_keep g me p (without who p.suspects) (TrustOrder who) down;
  crashes = λ e a. refl;
  holds = λ from frame e a. down;
  takes = λ from frame e a. processed_keeps g me p from frame down;
  frees = λ h e a. processed_keeps g me (with_held p (without_ready (version p) p.held)) h.0 h.1 down;
})

step_keeps : (g : Group) (ms : Moves) (s : Step Outer Frame) (i : ℕ) → IsDown (turn_at g ms i) → IsDown (turn_at g (s ∷ ms) i)
step_keeps g ms s i down = elim (same_or s.at i) [
  | inl e ↦ subst (λ xs. IsDown (turn_of g i xs)) (sym (inputs_here i s ms e)) (turn_keeps g i (turn_at g ms i).part s.input down)
  | inr ne ↦ subst (λ xs. IsDown (turn_of g i xs)) (sym (inputs_away i s ms ne)) down
]

call_keeps : (g : Group) (ms : Moves) (at : ℕ) (o : Option PlannedStep) (i : ℕ) → IsDown (turn_at g ms i) → IsDown (turn_at g (call_made at o ms) i)
call_keeps g ms at None i down = down
call_keeps g ms at (Some s) i down = step_keeps g ms _ i down

frame_keeps : (g : Group) (ms : Moves) (from to : ℕ) (o : Option Frame) (i : ℕ) → IsDown (turn_at g ms i) → IsDown (turn_at g (frame_taken from to o ms) i)
frame_keeps g ms from to None i down = down
frame_keeps g ms from to (Some frame) i down = step_keeps g ms _ i down

event_keeps : (rules : Rules) (plan : Planned) (past : Events) (event : Event) (i : ℕ) → crashed_in rules plan past i ≡ true → crashed_in rules plan (event ∷ past) i ≡ true
event_keeps rules plan past (CallEvent thread index member given) i down = call_keeps (group rules plan) (moves_in rules plan past) member (planned plan thread index) i down
event_keeps rules plan past (Receive from to) i down = frame_keeps (group rules plan) (moves_in rules plan past) from to (next_frame rules plan past from to) i down
event_keeps rules plan past (Release at) i down = step_keeps (group rules plan) (moves_in rules plan past) _ i down

pub crash_stays : (rules : Rules) (plan : Planned) (past newer : Events) (i : ℕ) → crashed_in rules plan past i ≡ true → crashed_in rules plan (newer ++ past) i ≡ true
crash_stays rules plan past [] i down = down
crash_stays rules plan past (event ∷ newer) i down = event_keeps rules plan (newer ++ past) event i (crash_stays rules plan past newer i down)
