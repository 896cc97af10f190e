-- A member's log only grows.
use Rattle.std.proofs.Common.{ℕ, suc, ◌≡◌, ◌<◌, ◌≤◌, ◌-◌, inl, inr, true, List, [], ◌∷◌, ◌++◌, length, sym, ◌∙◌, ap, subst, arith, Option, Some, None}
use Rattle.fifo_net.specs.Net.{Input, Called, Took, Step, IsPrefix, inputs_of}
use Rattle.fifo_net.proofs.Links.{IsPrefix-self, IsPrefix-append, IsPrefix-trans, inputs_here, inputs_away}
use Rattle.order_trait.specs.Runs.{Order, Broadcast, Suspect as SuspectOrder, Trust as TrustOrder, Inputs}
use Rattle.upd_base.specs.Plan.{Planned, planned}
use Rattle.upd_base.specs.declared.item.Item.TheVariants.{Msg, Switch}
use Rattle.upd_base.specs.declared.frame.Frame.{Frame}
use Rattle.upd_base.specs.declared.kind.Kind.{Kind}
use Rattle.upd_base.specs.declared.call.Step.{Step as PlannedStep}
use Rattle.upd_base.specs.declared.event.Event.{Event}
use Rattle.upd_base.specs.declared.event.Event.TheVariants.{Call as CallEvent, Receive, Release}
use Rattle.group_run.specs.Group.{Rules, Group, Outer, Makes, Releases}
use Rattle.group_run.specs.Version.{next_kind, log_of, entries, segment_above, kind_at}
use Rattle.group_run.specs.Part.{Part, log, version, with_accepted, with_suspects, with_held, without}
use Rattle.group_run.specs.Held.{without_ready}
use Rattle.group_run.specs.Growing.{DeliverMore, IsGrowing}
use Rattle.group_run.specs.Turn.{Turn, ModuleStep, still, stepped, order_step, all_told, opened, processed, first_orders, in_module, in_each, turn_after, turn_of}
use Rattle.group_run.specs.Laws.{KeepsOrder}
use Rattle.group_run.specs.Run.{Events, Moves, group, moves_in, call_made, frame_taken, next_on, turn_at, log_in, IsGroupRun}
use Rattle.group_run.proofs.Lists.{same_or}
use Rattle.group_run.proofs.Modules.{length-given}
use Rattle.group_run.proofs.Turns.{turn_cases, entered_cases, told_keeps}
use Rattle.group_run.proofs.Inputs.{one_of}
use Rattle.group_run.proofs.Prefixes.{keeps_prefixes}
use Rattle.group_versions.proofs.Versions.{seg_at, delivered_at, inputs_at-older, log_grows}
use Rattle.group_projection.proofs.Kept.{Kept}
use Rattle.group_projection.proofs.Runs.{run_facts}
use Rattle.group_growth.specs.Laws.{LogsGrow, LogsGrowOn}
use Rattle.group_growth.proofs.Alike.{reads_alike}

-- Modules that deliver more, and maybe more modules above them: the log begins with what it was.
log_more : (g : Group) (i : ℕ) (ms ns : List Inputs) (a : ℕ) → length ms ≡ suc a → length ms ≤ length ns
    → ((u : ℕ) → suc u < length ms → (k : Kind) × (next_kind (seg_at g i u ms) ≡ Some k)) → DeliverMore g i ms ns → IsPrefix (log_of g i ms) (log_of g i ns)
log_more g i ms [] a len le ended more = absurd (omega arith)
log_more g i ms (n ∷ older) a len le ended more = elim (same_or (length ms) (suc (length older))) [
  | inl e ↦ log_grows g i ms (n ∷ older) a (record { same_length = sym e; ended = ended; prefix = more }) len
  | inr ne ↦
      let below : length ms ≤ length older = omega arith in
      let less : DeliverMore g i ms older = λ u lt.
      subst (λ ins. IsPrefix (delivered_at g i u ms ms) (g.rules.delivers (kind_at g i u ms) g.members i ins)) (inputs_at-older u n older (omega arith)) (more u lt) in
      IsPrefix-trans (log_of g i ms) (log_of g i older) (log_of g i (n ∷ older)) (log_more g i ms older a len below ended less)
      (IsPrefix-append (log_of g i older) (entries (length older) (segment_above g i older n)))
]

-- A turn takes no module away ---------------------------------------------------------------------------------------

abbrev HasMore : List Inputs → Turn → Type 0
HasMore ms t = length ms ≤ length t.part.modules

more_step : (g : Group) (me : ℕ) (ms : List Inputs) (t : Turn) (s : ModuleStep) → HasMore ms t → HasMore ms (stepped g me t s)
more_step g me ms t s h = let e = length-given s.version s.input t.part.modules in omega arith

more_told : (g : Group) (me : ℕ) (ms : List Inputs) (t : Turn) (os : List (ℕ × Order)) → HasMore ms t → HasMore ms (all_told g me t os)
more_told g me ms t os h = told_keeps g me (HasMore ms) (λ u o k. more_step g me ms u (order_step o) k) t os h

more_processed : (g : Group) (me : ℕ) (p : Part) (from : ℕ) (frame : Frame) → HasMore p.modules (processed g me p from frame)
more_processed g me p from frame =
    let s : ModuleStep = record { version = frame.version; input = Took from frame.body } in
    let t : Turn = stepped g me (still p) s in
    let one : HasMore p.modules t = more_step g me p.modules (still p) s (omega arith) in
    entered_cases g me t (HasMore p.modules) (λ e. one)
    (λ e. more_told g me p.modules (opened t) (in_module (length t.part.modules) (first_orders g me t.part)) (omega arith))

more_turn : (g : Group) (me : ℕ) (p : Part) (x : Input Outer Frame) → HasMore p.modules (turn_after g me p x)
more_turn g me p x = turn_cases g me p x (HasMore p.modules) (record {
  idle = omega arith;
  sends = λ text number e. more_told g me p.modules (still (with_accepted p (Msg me number text))) (in_module (version p) (Broadcast (Msg me number text) ∷ [])) (omega arith);
  changes = λ kind number e. more_told g me p.modules (still (with_accepted p (Switch me number kind))) (in_module (version p) (Broadcast (Switch me number kind) ∷ [])) (omega arith);
  suspects = λ who q e. more_told g me p.modules (still (with_suspects p (who ∷ without who p.suspects))) (in_each p (SuspectOrder who)) (omega arith);
  trusts = λ who e. more_told g me p.modules (still (with_suspects p (without who p.suspects))) (in_each p (TrustOrder who)) (omega arith);
  crashes = λ q e. omega arith;
  holds = λ from frame e h. omega arith;
  takes = λ from frame e h. more_processed g me p from frame;
  frees = λ h e f. more_processed g me (with_held p (without_ready (version p) p.held)) h.0 h.1;
})

-- Moves -------------------------------------------------------------------------------------------------------------

abbrev LogGrows : Group → ℕ → Moves → Moves → Type 0
LogGrows g i ms ns = IsPrefix (log g i (turn_at g ms i).part) (log g i (turn_at g ns i).part)

grows_input : (g : Group) (i : ℕ) (ms : Moves) (x : Input Outer Frame) → i < g.members → Kept g ms → IsGrowing g i (x ∷ inputs_of i ms)
    → IsPrefix (log g i (turn_of g i (inputs_of i ms)).part) (log g i (turn_of g i (x ∷ inputs_of i ms)).part)
grows_input g i ms x hi k grow =
    let one = one_of g i (inputs_of i ms) in
    let old : List Inputs = (turn_of g i (inputs_of i ms)).part.modules in
    log_more g i old (turn_of g i (x ∷ inputs_of i ms)).part.modules (length old - 1) (omega arith)
    (more_turn g i (turn_of g i (inputs_of i ms)).part x)
    (λ u h. k.sound.ended i u hi h)
    grow.0

grows_step : (g : Group) (i : ℕ) (s : Step Outer Frame) (ms : Moves) → i < g.members → Kept g ms → Kept g (s ∷ ms) → LogGrows g i ms (s ∷ ms)
grows_step g i s ms hi k l = elim (same_or s.at i) [
  | inl e ↦
      let is : inputs_of i (s ∷ ms) ≡ s.input ∷ inputs_of i ms = inputs_here i s ms e in
      let grow : IsGrowing g i (s.input ∷ inputs_of i ms) = subst (IsGrowing g i) is (l.growing i hi) in
      subst (λ ins. IsPrefix (log g i (turn_at g ms i).part) (log g i (turn_of g i ins).part)) (sym is) (grows_input g i ms s.input hi k grow)
  | inr ne ↦
      subst (λ ins. IsPrefix (log g i (turn_at g ms i).part) (log g i (turn_of g i ins).part)) (sym (inputs_away i s ms ne)) (IsPrefix-self (log g i (turn_at g ms i).part))
]

grows_call : (g : Group) (i member : ℕ) (o : Option PlannedStep) (ms : Moves) → i < g.members → Kept g ms → Kept g (call_made member o ms) → LogGrows g i ms (call_made member o ms)
grows_call g i member None ms hi k l = IsPrefix-self (log g i (turn_at g ms i).part)
grows_call g i member (Some s) ms hi k l = grows_step g i (record { at = member; input = Called (Makes s.call) }) ms hi k l

grows_frame : (g : Group) (i from to : ℕ) (o : Option Frame) (ms : Moves) → i < g.members → Kept g ms → Kept g (frame_taken from to o ms) → LogGrows g i ms (frame_taken from to o ms)
grows_frame g i from to None ms hi k l = IsPrefix-self (log g i (turn_at g ms i).part)
grows_frame g i from to (Some frame) ms hi k l = grows_step g i (record { at = to; input = Took from frame }) ms hi k l

-- Events ------------------------------------------------------------------------------------------------------------

grows_event : (rules : Rules) (plan : Planned) (e : Event) (past : Events) (i : ℕ) → i < plan.members → Kept (group rules plan) (moves_in rules plan past) → Kept (group rules plan) (moves_in rules plan (e ∷ past))
    → IsPrefix (log_in rules plan past i) (log_in rules plan (e ∷ past) i)
grows_event rules plan (CallEvent thread index member given) past i hi k l = grows_call (group rules plan) i member (planned plan thread index) (moves_in rules plan past) hi k l
grows_event rules plan (Receive from to) past i hi k l =
    grows_frame (group rules plan) i from to (next_on (group rules plan) (moves_in rules plan past) from to) (moves_in rules plan past) hi k l
grows_event rules plan (Release at) past i hi k l = grows_step (group rules plan) i (record { at = at; input = Called Releases }) (moves_in rules plan past) hi k l

grows_later : (rules : Rules) → KeepsOrder rules → (plan : Planned) → rules.serves plan.first ≡ true → (later past : Events) → IsGroupRun rules plan (later ++ past)
    → (i : ℕ) → i < plan.members → IsPrefix (log_in rules plan past i) (log_in rules plan (later ++ past) i)
grows_later rules k plan s [] past r i hi = IsPrefix-self (log_in rules plan past i)
grows_later rules k plan s (e ∷ later) past r i hi =
    let before : IsGroupRun rules plan (later ++ past) = keeps_prefixes rules plan (e ∷ []) (later ++ past) r in
    IsPrefix-trans (log_in rules plan past i) (log_in rules plan (later ++ past) i) (log_in rules plan (e ∷ (later ++ past)) i)
    (grows_later rules k plan s later past before i hi)
    (grows_event rules plan e (later ++ past) i hi (run_facts rules k plan s (later ++ past) before).kept (run_facts rules k plan s (e ∷ (later ++ past)) r).kept)

pub logs_grow : LogsGrow
logs_grow = λ rules k plan s later past r i hi. grows_later rules k plan s later past r i hi

-- From plan to plan: by the longer plan the earlier run has the same log.
pub logs_grow_on : LogsGrowOn
logs_grow_on = λ rules k old new on s later past r t i hi.
    let served : rules.serves new.first ≡ true = ap rules.serves on.first ∙ s in
    let m = on.members in
    let below : i < new.members = omega arith in
    subst (λ es. IsPrefix es (log_in rules new (later ++ past) i)) ((reads_alike rules old new past on r.enabled).logs i)
    (grows_later rules k new served later past t i below)
