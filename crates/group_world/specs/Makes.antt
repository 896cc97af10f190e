-- What is known of a prepared move: the input that it gives to its member, and what the member makes of it.
use Rattle.std.specs.Prelude.{ℕ, ◌≡◌, ◌+◌, ◌<◌, ◌≤◌, Option, Some, List, ◌∷◌, All, length, slice_get}
use Rattle.fifo_net.specs.Net.{Input as NetInput}
use Rattle.order_trait.specs.declared.ordering.Ordering.{Ghosts}
use Rattle.upd_base.specs.Plan.{Planned, planned}
use Rattle.upd_base.specs.declared.answer.Answer.{Answer}
use Rattle.upd_base.specs.declared.call.Step.{Step}
use Rattle.upd_base.specs.declared.frame.Frame.{Frame}
use Rattle.upd_base.specs.declared.event.Event.{Event}
use Rattle.upd_base.specs.declared.event.Event.TheVariants.{Call as CallEvent, Receive as ReceiveEvent, Release as ReleaseEvent}
use Rattle.group_run.specs.Group.{Outer}
use Rattle.group_run.specs.Turn.{turn_of}
use Rattle.member_rules.specs.Kept.{Kept, group_of}
use Rattle.member_rules.specs.Stands.{Stands as MemberStands, part_of, Grows}
use Rattle.member_core.specs.declared.input.Input.{Input}
use Rattle.member_core.specs.declared.input.Input.TheVariants.{Call, Receive, Release}
use Rattle.member_core.specs.declared.prepared.Prepared.{Prepared}
use Rattle.member_core.specs.Input.{input_of, items_by, answer_to, MayHave}
use Rattle.member_core.specs.Prepared.{committed, answer_of, sent_of}
use Rattle.member_rules.specs.Steps.{SentFits}
use Rattle.group_world.specs.declared.moves.Move.{Move}
use Rattle.group_world.specs.declared.moves.Move.TheVariants.{Call as CallMove, Receive as ReceiveMove, Release as ReleaseMove}
use Rattle.group_world.specs.declared.prepared.PreparedMove.{PreparedMove}
use Rattle.group_world.specs.Seen.{Seen, frames_on, made_by}
use Rattle.group_world.specs.Prepared.{place_of}

-- what a member promises of an event that it prepared
pub record IsPrepared {O : Type 0} (G : Ghosts O) (k : Kept O) (x : Input) (p : Prepared O) : Type 0 where
  pub fits : All (λ s. SentFits k.members s) (sent_of p)
  pub answer : (past : List (NetInput Outer Frame)) → MemberStands G k past → answer_of p ≡ answer_to G k (part_of G k past) x
  pub sent : (past : List (NetInput Outer Frame)) → MemberStands G k past → Grows (group_of G k) k.me past (input_of x)
      → sent_of p ≡ (turn_of (group_of G k) k.me (input_of x ∷ past)).frames
  pub stands : (past : List (NetInput Outer Frame)) → MemberStands G k past → Grows (group_of G k) k.me past (input_of x)
      → MemberStands G (committed k p) (input_of x ∷ past)
  pub made : (committed k p).repl.made ≤ k.repl.made + items_by x
  pub versions : length k.modules ≡ k.repl.version + 1

-- a call: the planned step is the next of its thread, at its member, and the answer is the member's
pub record IsNextStep {O : Type 0} (plan : Planned) (s : Seen O) (thread index member : ℕ) (given : Answer) (answered : Option Answer) : Type 0 where
  pub step : Step
  pub planned_step : planned plan thread index ≡ Some step
  pub next : index ≡ made_by s thread
  pub at : step.at ≡ member
  pub answer : answered ≡ Some given

-- the event gives this input to its member
abbrev pub Gives : {O : Type 0} → Planned → Seen O → Option Answer → Event → Input → Type 0
Gives plan s answered (CallEvent thread index member given) (Call call) =
    (n : IsNextStep plan s thread index member given answered) × (n.step.call ≡ call)
Gives plan s answered (ReceiveEvent from to) (Receive f frame) = (f ≡ from) × (from < s.width) × (slice_get (frames_on s from to) 0 ≡ Some frame)
Gives plan s answered (ReleaseEvent at) Release = Unit {0}
Gives plan s answered event input = ⊥

-- A prepared move of a world: its event gives an input to its member, who may have it and has prepared it.
pub record Makes {O : Type 0} (G : Ghosts O) (plan : Planned) (s : Seen O) (p : PreparedMove O) : Type 0 where
  pub input : Input
  pub gives : Gives plan s (answer_of p.member) p.event input
  pub member : Kept O
  pub found : slice_get s.members (place_of p.event) ≡ Some member
  pub may : MayHave G member input
  pub prepared : IsPrepared G member input p.member

-- the input that a move gives, and to which member
abbrev pub IsInput : {O : Type 0} → Planned → Seen O → Move → ℕ → Input → Type 0
IsInput plan s (CallMove thread) at (Call call) = (step : Step) × (planned plan thread (made_by s thread) ≡ Some step) × (step.at ≡ at) × (step.call ≡ call)
IsInput plan s (ReceiveMove from to) at (Receive f frame) = (to ≡ at) × (f ≡ from) × (from < s.width) × (slice_get (frames_on s from to) 0 ≡ Some frame)
IsInput plan s (ReleaseMove m) at Release = m ≡ at
IsInput plan s choice at x = ⊥

-- the move makes this event at a member that answers so
abbrev pub IsEventOf : {O : Type 0} → Seen O → Move → ℕ → Option Answer → Event → Type 0
IsEventOf s (CallMove thread) at answered e = (given : Answer) × (answered ≡ Some given) × (e ≡ CallEvent thread (made_by s thread) at given)
IsEventOf s (ReceiveMove from to) at answered e = e ≡ ReceiveEvent from to
IsEventOf s (ReleaseMove m) at answered e = e ≡ ReleaseEvent m
