-- What a world stands for, one event later.
use Rattle.std.proofs.Common.{ℕ, ◌≡◌, ◌<◌, ◌+◌, ◌==◌, List, [], ◌∷◌, ◌++◌, length, set, refl, sym, ◌∙◌, ap, subst, arith, Some, None, if◌then◌else◌, Option, append_assoc}
use Rattle.std.specs.Prelude.{IsSome}
use Rattle.std.proofs.lemmas.Option.{same_Some, slice_get_within}
use Rattle.fifo_net.specs.Net.{Input as NetInput, inputs_of, taken_on, sent_on, bodies_to}
use Rattle.fifo_net.proofs.Links.{inputs_here, inputs_away}
use Rattle.order_trait.specs.declared.ordering.Ordering.{Ghosts}
use Rattle.upd_base.specs.declared.answer.Answer.{Answer}
use Rattle.upd_base.specs.declared.frame.Frame.{Frame}
use Rattle.upd_base.specs.declared.event.Event.{Event}
use Rattle.upd_base.specs.declared.event.Event.TheVariants.{Call as CallEvent, Receive as ReceiveEvent, Release as ReleaseEvent}
use Rattle.upd_base.specs.Plan.{Planned}
use Rattle.upd_base.proofs.PlanFacts.{plan_opens}
use Rattle.group_run.specs.Group.{Group, Rules, Outer}
use Rattle.group_run.specs.Part.{Part, version}
use Rattle.group_run.specs.Answer.{answer}
use Rattle.group_run.specs.Turn.{turn_of, member_sends}
use Rattle.group_run.specs.Growing.{IsGrowing}
use Rattle.group_run.specs.Laws.{KeepsOrder, GrowsRuns}
use Rattle.group_run.specs.Run.{Events, Moves, group, moves_in, part, IsGroupRun, IsEnabled, IsCall}
use Rattle.member_rules.specs.Kept.{Kept, rules_of, group_of}
use Rattle.member_rules.specs.Stands.{Holds, Stands as MemberStands, part_of, Grows}
use Rattle.member_rules.proofs.Reading.{version_is}
use Rattle.member_core.specs.declared.input.Input.{Input}
use Rattle.member_core.specs.declared.input.Input.TheVariants.{Call, Receive, Release}
use Rattle.member_core.specs.Input.{input_of, answer_to, MayHave}
use Rattle.member_core.specs.Prepared.{committed, answer_of, sent_of}
use Rattle.group_world.specs.declared.prepared.PreparedMove.{PreparedMove}
use Rattle.group_world.specs.Seen.{Seen, frames_on, EachAt, IsSeated, IsWorldOf}
use Rattle.group_world.specs.Stands.{Stands, IsShort}
use Rattle.group_world.specs.Prepared.{place_of, left_on, added_on, made_after, IsAfter}
use Rattle.group_world.specs.Makes.{Gives, Makes}
use Rattle.group_world.proofs.Lists.{each_set}
use Rattle.group_world.proofs.Nets.{sent_step}
use Rattle.group_world.proofs.Inputs.{next_is, moved, left_is, calls_after}
use Rattle.group_world.proofs.Afterwards.{made_is}

-- A member at its place is one of the group ---------------------------------------------------------------------------

pub group_is : {O : Type 0} (G : Ghosts O) (plan : Planned) (i : ℕ) (k : Kept O) → IsSeated plan i k → group_of G k ≡ group (rules_of G) plan
group_is G plan i k h =
    ap (λ n. record { rules = rules_of G; members = n; first = k.first }) h.0 ∙ ap (λ f. record { rules = rules_of G; members = plan.members; first = f }) h.1

-- so a fact on a member's own group and place is one on the group and its place
pub at_seat : {O : Type 0} (G : Ghosts O) (plan : Planned) (i : ℕ) (k : Kept O) → IsSeated plan i k → (P : Group → ℕ → Type 0) → P (group_of G k) k.me → P (group (rules_of G) plan) i
at_seat G plan i k h P p = subst (λ j. P (group (rules_of G) plan) j) h.2 (subst (λ g. P g k.me) (group_is G plan i k h) p)

-- The event is enabled ------------------------------------------------------------------------------------------------

-- what a member answers in its group
abbrev pub answer_in : Group → ℕ → Part → Input → Option Answer
answer_in g i p (Call call) = Some (answer g i p call)
answer_in g i p (Receive from frame) = None
answer_in g i p Release = None

answer_same : {O : Type 0} (G : Ghosts O) (k : Kept O) (p : Part) (x : Input) → answer_to G k p x ≡ answer_in (group_of G k) k.me p x
answer_same G k p (Call call) = refl
answer_same G k p (Receive from frame) = refl
answer_same G k p Release = refl

-- what has to be known of the member
record Known {O : Type 0} (G : Ghosts O) (plan : Planned) (past : Events) (at : ℕ) (k : Kept O) (x : Input) (answered : Option Answer) : Type 0 where
  pub below : at < plan.members
  pub may : MayHave G k x
  pub holds : Holds G (group (rules_of G) plan) at k (part (rules_of G) plan past at)
  pub versions : length k.modules ≡ k.repl.version + 1
  pub answers : answered ≡ answer_in (group (rules_of G) plan) at (part (rules_of G) plan past at) x

pub is_there : {A : Type 0} (o : Option A) (a : A) → o ≡ Some a → IsSome o
is_there o a e = rw e refl

enabled_now : {O : Type 0} (G : Ghosts O) (plan : Planned) (s : Seen O) (past : Events) (e : Event) (x : Input) (k : Kept O) (answered : Option Answer) → Gives plan s answered e x → s.width ≡ plan.members → Stands G plan s past
    → Known G plan past (place_of e) k x answered → IsEnabled (rules_of G) plan past e
enabled_now G plan s past (CallEvent thread index member given) (Call call) k answered n w st known =
    let a : given ≡ answer (group (rules_of G) plan) member (part (rules_of G) plan past member) n.0.step.call =
    same_Some _ _ (sym n.0.answer ∙ known.answers) ∙ ap (λ c. answer (group (rules_of G) plan) member (part (rules_of G) plan past member) c) (sym n.1) in
    subst (λ o. IsCall (rules_of G) plan past thread index member given o) (sym n.0.planned_step)
    (record { next = n.0.next ∙ st.calls thread; at = sym n.0.at; answered = a })
enabled_now G plan s past (ReceiveEvent from to) (Receive f frame) k answered n w st known =
    let below : from < plan.members = let l = n.1 in omega arith in
    record {
      from_member = below;
      to_member = known.below;
      up = sym known.holds.crashed_is ∙ known.may.up;
      frame = is_there _ frame (next_is _ _ _ (st.links from to below known.below) ∙ n.2);
    }
enabled_now G plan s past (ReleaseEvent at) Release k answered n w st known =
    let v : version (part (rules_of G) plan past at) ≡ k.repl.version = version_is G (group (rules_of G) plan) at k (part (rules_of G) plan past at) known.holds known.versions in
    record {
      member = known.below;
      up = sym known.holds.crashed_is ∙ known.may.up;
      ready = rw (v, ← known.holds.held_is) known.may.ready;
    }
enabled_now G plan s past (CallEvent thread index member given) (Receive f frame) k answered n w st known = absurd n
enabled_now G plan s past (CallEvent thread index member given) Release k answered n w st known = absurd n
enabled_now G plan s past (ReceiveEvent from to) (Call call) k answered n w st known = absurd n
enabled_now G plan s past (ReceiveEvent from to) Release k answered n w st known = absurd n
enabled_now G plan s past (ReleaseEvent at) (Call call) k answered n w st known = absurd n
enabled_now G plan s past (ReleaseEvent at) (Receive f frame) k answered n w st known = absurd n

-- The longer list of events -------------------------------------------------------------------------------------------

-- what is known of it
pub record Later {O : Type 0} (G : Ghosts O) (plan : Planned) (s : Seen O) (past : Events) (p : PreparedMove O) (k : Kept O) (x : Input) : Type 0 where
  pub run : IsGroupRun (rules_of G) plan (p.event ∷ past)
  pub step : moves_in (rules_of G) plan (p.event ∷ past) ≡ record { at = place_of p.event; input = input_of x } ∷ moves_in (rules_of G) plan past
  pub sent : sent_of p.member ≡ (turn_of (group (rules_of G) plan) (place_of p.event) (input_of x ∷ inputs_of (place_of p.event) (moves_in (rules_of G) plan past))).frames
  pub stands : MemberStands G (committed k p.member) (input_of x ∷ inputs_of (place_of p.event) (moves_in (rules_of G) plan past))

pub later : {O : Type 0} (G : Ghosts O) (plan : Planned) (s : Seen O) (past : Events) (p : PreparedMove O) → GrowsRuns → KeepsOrder (rules_of G) → IsWorldOf G plan s → (m : Makes G plan s p) → Stands G plan s past → IsShort past
    → Later G plan s past p m.member m.input
later {O} G plan s past p grows keeps w m st short =
    let rules : Rules = rules_of G in
    let g : Group = group rules plan in
    let at : ℕ = place_of p.event in
    let k : Kept O = m.member in
    let x : NetInput Outer Frame = input_of m.input in
    let ms : Moves = moves_in rules plan past in
    let mine : List (NetInput Outer Frame) = inputs_of at ms in
    let seat : IsSeated plan at k = w.seats at k m.found in
    let below : at < plan.members = let l = slice_get_within s.members at k m.found in let q = w.many in omega arith in
    let own : MemberStands G k mine = st.members at k m.found in
    let holds : Holds G g at k (turn_of g at mine).part = at_seat G plan at k seat (λ h i. Holds G h i k (turn_of h i mine).part) own in
    let answers : answer_of p.member ≡ answer_in g at (turn_of g at mine).part m.input =
    at_seat G plan at k seat (λ h i. answer_of p.member ≡ answer_in h i (turn_of h i mine).part m.input) (m.prepared.answer mine own ∙ answer_same G k (part_of G k mine) m.input) in
    let known : Known G plan past at k m.input (answer_of p.member) = record { below = below; may = m.may; holds = holds; versions = m.prepared.versions; answers = answers } in
    let run : IsGroupRun rules plan (p.event ∷ past) = record {
      of_plan = plan_opens plan w.of_plan;
      short = short;
      enabled = (enabled_now G plan s past p.event m.input k (answer_of p.member) m.gives w.width st known, st.run.enabled);
    } in
    let step : moves_in rules plan (p.event ∷ past) ≡ record { at = at; input = x } ∷ ms =
    moved g plan s past (answer_of p.member) p.event m.input m.gives (λ from to is. st.links from to (sender_below p.event m.input m.gives from to is) (subst (λ e. place_of e < plan.members) is below)) in
    let all : IsGrowing g at (inputs_of at (moves_in rules plan (p.event ∷ past))) = grows rules keeps plan w.first_served (p.event ∷ past) run at below in
    let more : IsGrowing g at (x ∷ mine) = subst (IsGrowing g at) (ap (inputs_of at) step ∙ inputs_here at (record { at = at; input = x }) ms refl) all in
    record {
      run = run;
      step = step;
      sent = at_seat G plan at k seat (λ h i. Grows h i mine x → sent_of p.member ≡ (turn_of h i (x ∷ mine)).frames) (m.prepared.sent mine own) (more.0, more.1);
      stands = at_seat G plan at k seat (λ h i. Grows h i mine x → MemberStands G (committed k p.member) (x ∷ mine)) (m.prepared.stands mine own) (more.0, more.1);
    }
  where
    sender_below : (e : Event) (x : Input) → Gives plan s (answer_of p.member) e x → (from to : ℕ) → e ≡ ReceiveEvent from to → from < plan.members
    sender_below (ReceiveEvent f t) (Receive j frame) n from to is = let q : f ≡ from = cc in let l = n.1 in let v = w.width in omega arith
    sender_below (ReceiveEvent f t) (Call call) n from to is = absurd n
    sender_below (ReceiveEvent f t) Release n from to is = absurd n
    sender_below (CallEvent thread index member given) x n from to is = absurd (cc)
    sender_below (ReleaseEvent at) x n from to is = absurd (cc)

pub stands_after : {O : Type 0} (G : Ghosts O) (plan : Planned) (s new : Seen O) (past : Events) (p : PreparedMove O) → GrowsRuns → KeepsOrder (rules_of G) → IsWorldOf G plan s → Makes G plan s p → Stands G plan s past → IsShort past → IsAfter p s new
    → Stands G plan new (p.event ∷ past)
stands_after {O} G plan s new past p grows keeps w m st short a =
    let rules : Rules = rules_of G in
    let g : Group = group rules plan in
    let at : ℕ = place_of p.event in
    let k : Kept O = m.member in
    let next : Kept O = committed k p.member in
    let x : NetInput Outer Frame = input_of m.input in
    let ms : Moves = moves_in rules plan past in
    let mt : Moves = moves_in rules plan (p.event ∷ past) in
    let l : Later G plan s past p k m.input = later G plan s past p grows keeps w m st short in
    let now : new.members ≡ set s.members at next = a.members k m.found in
    let Q : ℕ → Kept O → Type 0 = λ i j. MemberStands G j (inputs_of i mt) in
    let here : Q at next = subst (MemberStands G next) (sym (ap (inputs_of at) l.step ∙ inputs_here at (record { at = at; input = x }) ms refl)) l.stands in
    record {
      run = l.run;
      members = subst (EachAt Q) (sym now) (each_set (λ i j. MemberStands G j (inputs_of i ms)) Q s.members at next k m.found
          (λ i j ne e h. subst (MemberStands G j) (sym (ap (inputs_of i) l.step ∙ inputs_away i (record { at = at; input = x }) ms (λ q. ne (sym q)))) h) st.members here);
      links = λ from to f t.
          let f2 : from < s.width = let q = w.width in omega arith in
          let t2 : to < s.width = let q = w.width in omega arith in
          let sent_now : sent_on (member_sends g) from to mt ≡ sent_on (member_sends g) from to ms ++ added_on p from to =
          ap (sent_on (member_sends g) from to) l.step ∙ sent_step (member_sends g) from to at x ms
          ∙ ap (λ fs. sent_on (member_sends g) from to ms ++ (if at == from then bodies_to to fs else [])) (sym l.sent) in
          let left : taken_on from to mt ++ left_on p.event from to (frames_on s from to) ≡ taken_on from to ms ++ frames_on s from to =
          ap (λ z. taken_on from to z ++ left_on p.event from to (frames_on s from to)) l.step ∙ left_is plan s ms (answer_of p.member) p.event m.input m.gives from to in
          sent_now ∙ ap (λ z. z ++ added_on p from to) (st.links from to f t ∙ sym left)
          ∙ append_assoc (taken_on from to mt) (left_on p.event from to (frames_on s from to)) (added_on p from to)
          ∙ ap (λ z. taken_on from to mt ++ z) (sym (a.links from to f2 t2));
      calls = λ thread. made_is plan s new p (answer_of p.member) m.input m.gives w.threads a thread ∙ ap (made_after p.event thread) (st.calls thread) ∙ sym (calls_after p.event past thread);
    }
