-- A world of a plan stays one.
use Rattle.std.proofs.Common.{ℕ, suc, ◌≡◌, ◌<◌, ◌≤◌, ◌+◌, ◌==◌, ◌&&◌, true, false, inl, inr, List, [], ◌∷◌, length, set, drop, get_or, refl, sym, ◌∙◌, ap, subst, arith, if◌then◌else◌, Option}
use Rattle.std.specs.Prelude.{sum, All}
use Rattle.std.proofs.lemmas.Bool.{cases_lt}
use Rattle.std.proofs.lemmas.List.{get_or_past, length-set}
use Rattle.std.proofs.lemmas.List.Elements.{All-cons, All-nil, All-tail, All-head, All-drop, All-append}
use Rattle.fifo_net.specs.Net.{bodies_to}
use Rattle.order_trait.specs.declared.ordering.Ordering.{Ghosts}
use Rattle.upd_base.specs.declared.answer.Answer.{Answer}
use Rattle.upd_base.specs.declared.frame.Frame.{Frame}
use Rattle.upd_base.specs.declared.event.Event.{Event}
use Rattle.upd_base.specs.declared.event.Event.TheVariants.{Call as CallEvent, Receive as ReceiveEvent, Release as ReleaseEvent}
use Rattle.upd_base.specs.Plan.{Planned, steps_of}
use Rattle.group_run.proofs.Lists.{same_or, eqb_self, eqb_other}
use Rattle.member_rules.specs.Kept.{Kept}
use Rattle.member_core.specs.declared.change.Change.{Change}
use Rattle.member_core.specs.declared.change.Change.TheVariants.{Nothing, Stop, Hold, Tell, Advance}
use Rattle.member_core.specs.declared.input.Input.{Input}
use Rattle.member_core.specs.declared.input.Input.TheVariants.{Call, Receive, Release}
use Rattle.member_core.specs.Input.{items_by}
use Rattle.member_core.specs.Prepared.{committed, changed, answer_of, sent_of}
use Rattle.member_rules.specs.Steps.{SentFits}
use Rattle.group_world.specs.declared.prepared.PreparedMove.{PreparedMove}
use Rattle.group_world.specs.Seen.{Seen, frames_on, made_by, FrameFits, EachAt, IsSeated, IsWorldOf}
use Rattle.group_world.specs.Prepared.{place_of, left_on, added_on, made_after, IsAfter}
use Rattle.group_world.specs.Makes.{Gives, Makes}
use Rattle.group_world.proofs.Lists.{each_set, sum_grows, sum_above}
use Rattle.group_world.proofs.Inputs.{step_below, none_after, made_grows}

-- the counts after an event, of every thread
pub made_is : {O : Type 0} (plan : Planned) (s new : Seen O) (p : PreparedMove O) (answered : Option Answer) (x : Input) → Gives plan s answered p.event x → length s.made ≡ length plan.threads → IsAfter p s new
    → (thread : ℕ) → made_by new thread ≡ made_after p.event thread (made_by s thread)
made_is plan s new p answered x n many a thread = elim (cases_lt thread (length s.made)) [
  | inl lt ↦ a.made thread lt
  | inr ge ↦ get_or_past new.made thread 0 (let t = a.threads in omega arith) ∙ sym (none_after plan s answered p.event x n many thread ge)
]

sum_after : {O : Type 0} (plan : Planned) (s : Seen O) (new : List ℕ) (answered : Option Answer) (e : Event) (x : Input) → Gives plan s answered e x → length s.made ≡ length plan.threads → length new ≡ length s.made
    → ((thread : ℕ) → thread < length s.made → get_or new thread 0 ≡ made_after e thread (made_by s thread)) → sum s.made + items_by x ≤ sum new
sum_after plan s new answered (CallEvent t index member given) (Call call) n many same after =
    let lt : t < length s.made = let l = (step_below plan t index n.0.step n.0.planned_step).0 in omega arith in
    let one : get_or new t 0 ≡ suc (get_or s.made t 0) = after t lt ∙ rw (eqb_self t) refl in
    let l = sum_above s.made new t same (λ i h. let q = after i h in let m = made_grows (CallEvent t index member given) i (made_by s i) in omega (arith, q, m)) lt one in
    omega (arith, l)
sum_after plan s new answered (ReceiveEvent from to) (Receive f frame) n many same after =
    let l = sum_grows s.made new same (λ i h. let q : get_or new i 0 ≡ get_or s.made i 0 = after i h in omega (arith, q)) in omega (arith, l)
sum_after plan s new answered (ReleaseEvent at) Release n many same after =
    let l = sum_grows s.made new same (λ i h. let q : get_or new i 0 ≡ get_or s.made i 0 = after i h in omega (arith, q)) in omega (arith, l)
sum_after plan s new answered (CallEvent thread index member given) (Receive f frame) n many same after = absurd n
sum_after plan s new answered (CallEvent thread index member given) Release n many same after = absurd n
sum_after plan s new answered (ReceiveEvent from to) (Call call) n many same after = absurd n
sum_after plan s new answered (ReceiveEvent from to) Release n many same after = absurd n
sum_after plan s new answered (ReleaseEvent at) (Call call) n many same after = absurd n
sum_after plan s new answered (ReleaseEvent at) (Receive f frame) n many same after = absurd n

-- a thread makes no more calls than it has
planned_after : {O : Type 0} (plan : Planned) (s : Seen O) (answered : Option Answer) (e : Event) (x : Input) → Gives plan s answered e x
    → ((thread : ℕ) → made_by s thread ≤ length (steps_of plan thread)) → (thread : ℕ) → made_after e thread (made_by s thread) ≤ length (steps_of plan thread)
planned_after {O} plan s answered (CallEvent t index member given) (Call call) n within thread = elim (same_or t thread) [
  | inl q ↦
      let P : ℕ → Type 0 = λ k. made_after (CallEvent t index member given) k (made_by s k) ≤ length (steps_of plan k) in
      let l = (step_below plan t index n.0.step n.0.planned_step).1 in
      let m = n.0.next in
      subst P q (rw (eqb_self t) (omega arith))
  | inr ne ↦ rw (eqb_other t thread ne) (within thread)
]
planned_after plan s answered (ReceiveEvent from to) x n within thread = within thread
planned_after plan s answered (ReleaseEvent at) x n within thread = within thread
planned_after plan s answered (CallEvent thread index member given) (Receive f frame) n within t = absurd n
planned_after plan s answered (CallEvent thread index member given) Release n within t = absurd n

-- what is left on a link, and what is put on it, fits
left_fit : (P : Frame → Type 0) (e : Event) (from to : ℕ) (frames : List Frame) → All P frames → All P (left_on e from to frames)
left_fit P (CallEvent thread index member given) from to frames h = h
left_fit P (ReceiveEvent f t) from to frames h = elim ((f == from) && (t == to)) as (λ b. All P (if b then drop 1 frames else frames)) [ true ↦ All-drop P 1 frames h | false ↦ h ]
left_fit P (ReleaseEvent at) from to frames h = h

bodies_fit : (n to : ℕ) (sent : List (ℕ × Frame)) → All (λ s. SentFits n s) sent → All (FrameFits n) (bodies_to to sent)
bodies_fit n to [] h = All-nil (FrameFits n)
bodies_fit n to (s ∷ sent) h =
    let rest = bodies_fit n to sent (All-tail (λ s. SentFits n s) s sent h) in
    let here = All-head (λ s. SentFits n s) s sent h in
    elim (s.0 == to) as (λ b. All (FrameFits n) (if b then s.1 ∷ bodies_to to sent else bodies_to to sent)) [
      | true ↦ All-cons (FrameFits n) s.1 (bodies_to to sent) (here.1, here.2, here.3) rest
      | false ↦ rest
    ]

added_fit : (n at from to : ℕ) (sent : List (ℕ × Frame)) → All (λ s. SentFits n s) sent → All (FrameFits n) (if at == from then bodies_to to sent else [])
added_fit n at from to sent h = elim (at == from) as (λ b. All (FrameFits n) (if b then bodies_to to sent else [])) [ true ↦ bodies_fit n to sent h | false ↦ All-nil (FrameFits n) ]

-- a member that changes stays at its place
seat_kept : {O : Type 0} (plan : Planned) (i : ℕ) (k : Kept O) (c : Change O) → IsSeated plan i k → IsSeated plan i (changed k c)
seat_kept plan i k Nothing h = h
seat_kept plan i k Stop h = h
seat_kept plan i k (Hold from frame) h = h
seat_kept plan i k (Tell who on modules) h = h
seat_kept plan i k (Advance progress) h = h

pub world_after : {O : Type 0} (G : Ghosts O) (plan : Planned) (s new : Seen O) (p : PreparedMove O) → IsWorldOf G plan s → Makes G plan s p → IsAfter p s new → IsWorldOf G plan new
world_after {O} G plan s new p w m a =
    let at : ℕ = place_of p.event in
    let k : Kept O = m.member in
    let next : Kept O = committed k p.member in
    let now : new.members ≡ set s.members at next = a.members k m.found in
    let more = sum_after plan s new.made (answer_of p.member) p.event m.input m.gives w.threads a.threads a.made in
    record {
      of_plan = w.of_plan;
      first_served = w.first_served;
      served = w.served;
      many = ap length now ∙ length-set s.members at next ∙ w.many;
      seats = subst (EachAt (IsSeated plan)) (sym now) (each_set (IsSeated plan) (IsSeated plan) s.members at next k m.found (λ j y ne e h. h) w.seats (seat_kept plan at k p.member.change (w.seats at k m.found)));
      width = a.width ∙ w.width;
      fits = λ from to f t.
          let f2 : from < s.width = let q = w.width in omega arith in
          let t2 : to < s.width = let q = w.width in omega arith in
          let fit : All (λ x. SentFits plan.members x) (sent_of p.member) = subst (λ n. All (λ x. SentFits n x) (sent_of p.member)) (w.seats at k m.found).0 m.prepared.fits in
          subst (All (FrameFits plan.members)) (sym (a.links from to f2 t2))
          (All-append (FrameFits plan.members) (left_on p.event from to (frames_on s from to)) (added_on p from to)
          (left_fit (FrameFits plan.members) p.event from to (frames_on s from to) (w.fits from to f t))
          (added_fit plan.members at from to (sent_of p.member) fit));
      threads = a.threads ∙ w.threads;
      planned = λ thread. subst (λ n. n ≤ length (steps_of plan thread)) (sym (made_is plan s new p (answer_of p.member) m.input m.gives w.threads a thread)) (planned_after plan s (answer_of p.member) p.event m.input m.gives w.planned thread);
      items = subst (EachAt (λ i j. j.repl.made ≤ sum new.made)) (sym now)
          (each_set (λ i j. j.repl.made ≤ sum s.made) (λ i j. j.repl.made ≤ sum new.made) s.members at next k m.found (λ j y ne e h. omega (arith, h, more)) w.items
          (let h = w.items at k m.found in let g = m.prepared.made in omega (arith, h, g, more)));
    }
