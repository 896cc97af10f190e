-- Planned sends are delivered.
use Rattle.std.proofs.Common.{ℕ, suc, ◌≡◌, ◌<◌, ◌++◌, ◌==◌, ◌&&◌, ◌∙◌, inl, inr, Bool, true, false, not, if◌then◌else◌, List, [], ◌∷◌, length, reverse, Option, Some, None, refl, sym, ap, subst, arith, append-nil}
use Rattle.std.specs.Prelude.{Contains, nat_le, slice_get}
use Rattle.std.proofs.lemmas.Bool.{cases_lt, eqb-true}
use Rattle.std.proofs.lemmas.List.Elements.{Contains-append_cases, Contains-append_left, Contains-append_right}
use Rattle.upd_base.specs.Item.{id_of, is_message}
use Rattle.upd_base.specs.Plan.{Planned, planned}
use Rattle.upd_base.proofs.PlanFacts.{open_facts, planned_member}
use Rattle.upd_base.specs.declared.answer.Answer.{Answer}
use Rattle.upd_base.specs.declared.answer.Answer.TheVariants.{Accepted, Crashed, Full}
use Rattle.upd_base.specs.declared.call.Call.TheVariants.{Send}
use Rattle.upd_base.specs.declared.call.Step.{Step}
use Rattle.upd_base.specs.declared.event.Event.{Event}
use Rattle.upd_base.specs.declared.event.Event.TheVariants.{Call, Receive, Release}
use Rattle.upd_base.specs.declared.item.Item.{Item}
use Rattle.upd_base.specs.declared.item.Item.TheVariants.{Msg, Switch}
use Rattle.upd_base.specs.declared.limits.TheConstants.{MAX_UNDELIVERED}
use Rattle.group_run.specs.Answer.{answer}
use Rattle.group_run.specs.Group.{Group, Rules}
use Rattle.group_run.specs.Laws.{FulfilsAll, KeepsOrder}
use Rattle.group_run.specs.Ordered.{accepted_at, accepted_by, accepted_in}
use Rattle.group_run.specs.Part.{Part, is_logged, log, undelivered}
use Rattle.group_run.specs.Run.{Events, IsCall, IsGroupRun, IsNextCall, calls_made, group, part}
use Rattle.group_run.specs.Settled.{IsFulfilled, IsQuiet}
use Rattle.group_run.proofs.Lists.{contains_filter, contains_reverse, only, tested}
use Rattle.group_members.specs.Accepted.{AcceptedAlike}
use Rattle.group_members.proofs.Accepted.{accepted_alike}
use Rattle.group_members.proofs.Quiet.{quiet_run}
use Rattle.group_versions.proofs.Logs.{not_logged}
use Rattle.group_fulfilment.proofs.Fulfilled.{fulfils_at_rest, fulfils_runs}
use Rattle.rehearsal.specs.FullAtRest.{FullAtRest, FullOnlyAtRest, IsAtRest}
use Rattle.planned_calls.specs.Sends.{QuietRunsDeliver}
use Rattle.planned_calls.proofs.Calls.{before_end}

-- A fulfilled group ---------------------------------------------------------------------------------------------

both : (a b : Bool) → (a && b) ≡ true → (a ≡ true) × (b ≡ true)
both true true h = (refl, refl)
both true false h = (refl, h)
both false b h = absurd (let q : false ≡ true = h in cc)

empty : {A : Type 0} (xs : List A) → ((x : A) → Contains xs x → ⊥) → xs ≡ []
empty [] h = refl
empty (x ∷ xs) h = absurd (h x (0, omega arith, refl))

-- an accepted message is absent from no log
never_absent : (rules : Rules) (plan : Planned) (past : Events) → IsFulfilled rules plan past → (me : ℕ) → me < plan.members → (y : Item) → Contains (accepted_in plan past) y
    → is_message y ≡ true → not (is_logged y (log (group rules plan) me (part rules plan past me))) ≡ true → ⊥
never_absent rules plan past full me lt (Msg origin number text) c m h =
    let l = full.delivered origin number text c me lt in
    not_logged (log (group rules plan) me (part rules plan past me)) (Msg origin number text) l.0 l.1 h (ap id_of l.2)
never_absent rules plan past full me lt (Switch origin number kind) c m h = let q : false ≡ true = m in cc

none_undelivered : (rules : Rules) (plan : Planned) (past : Events) → AcceptedAlike rules plan past → IsFulfilled rules plan past → (me : ℕ) → me < plan.members
    → undelivered (group rules plan) me (part rules plan past me) ≡ []
none_undelivered rules plan past alike full me lt =
    let g : Group = group rules plan in
    let p : Part = part rules plan past me in
    empty (undelivered g me p) (λ y c.
    let f = contains_filter (λ item. is_message item && not (is_logged item (log g me p))) (reverse p.accepted) y c in
    let t = both (is_message y) (not (is_logged y (log g me p))) f.1 in
    never_absent rules plan past full me lt y (alike.within me y (contains_reverse p.accepted y f.0)) t.0 t.1)

-- Answers -------------------------------------------------------------------------------------------------------

by_tests : (a b : Bool) (n : ℕ) → a ≡ false → b ≡ false → (if a then Crashed else (if b then Full else Accepted n)) ≡ Accepted n
by_tests a b n e f = rw (e, f) refl

by_full : (a b : Bool) (n : ℕ) → a ≡ false → b ≡ true → (if a then Crashed else (if b then Full else Accepted n)) ≡ Full
by_full a b n e f = rw (e, f) refl

-- a member that is up accepts a send, where it is full only with nothing undelivered
accepts : (g : Group) (me : ℕ) (p : Part) (text : List ℕ) → p.crashed ≡ false → (answer g me p (Send text) ≡ Full → undelivered g me p ≡ []) → answer g me p (Send text) ≡ Accepted (length p.accepted)
accepts g me p text up rest =
    let n : ℕ = length p.accepted in
    let full : Bool = nat_le MAX_UNDELIVERED (length (undelivered g me p)) in
    elim (tested full) [
      | inl e ↦
          let none = rest (by_full p.crashed full n up e) in
          absurd (let q : nat_le MAX_UNDELIVERED (length (undelivered g me p)) ≡ false = ap (λ xs. nat_le MAX_UNDELIVERED (length xs)) none in cc)
      | inr e ↦ by_tests p.crashed full n up e
    ]

accepts_in : (rules : Rules) → KeepsOrder rules → FulfilsAll rules → (plan : Planned) → rules.serves plan.first ≡ true → (past : Events) → IsGroupRun rules plan past → IsQuiet plan past
    → (me : ℕ) → me < plan.members → (text : List ℕ) → (answer (group rules plan) me (part rules plan past me) (Send text) ≡ Full → IsAtRest rules plan past)
    → answer (group rules plan) me (part rules plan past me) (Send text) ≡ Accepted (length (part rules plan past me).accepted)
accepts_in rules k fa plan s past run quiet me lt text rest =
    accepts (group rules plan) me (part rules plan past me) text (((quiet_run rules plan past run.enabled quiet).parts me).up refl)
    (λ e. let r = rest e in
    none_undelivered rules plan past (accepted_alike rules plan past (open_facts plan run.of_plan) run.enabled) (fulfils_at_rest rules k fa plan s past run r.receipts r.releases quiet) me lt)

-- Sends that were made ------------------------------------------------------------------------------------------

shorter : (rules : Rules) (plan : Planned) (e : Event) (past : Events) → IsGroupRun rules plan (e ∷ past) → IsGroupRun rules plan past
shorter rules plan e past run = record { of_plan = run.of_plan; short = (let lt = run.short in omega arith); enabled = run.enabled.1 }

still_quiet : (plan : Planned) (e : Event) (past : Events) → IsQuiet plan (e ∷ past) → IsQuiet plan past
still_quiet plan (Call thread index member given) past q = q.1
still_quiet plan (Receive from to) past q = q
still_quiet plan (Release at) past q = q

next_call : (rules : Rules) (plan : Planned) (past : Events) (thread index member : ℕ) (given : Answer) (o : Option Step) (s : Step) → IsCall rules plan past thread index member given o → o ≡ Some s
    → IsNextCall rules plan past thread index member given s
next_call rules plan past thread index member given None s h e = absurd h
next_call rules plan past thread index member given (Some x) s h e =
    let same : x ≡ s = cc in
    subst (λ y. IsNextCall rules plan past thread index member given y) same h

-- the newest call, a send, was accepted
newest_send : (rules : Rules) → KeepsOrder rules → FulfilsAll rules → (plan : Planned) → rules.serves plan.first ≡ true → (past : Events) (thread index member : ℕ) (given : Answer)
    → IsGroupRun rules plan (Call thread index member given ∷ past) → IsQuiet plan past → (given ≡ Full → IsAtRest rules plan past)
    → (s : Step) (text : List ℕ) → planned plan thread index ≡ Some s → s.call ≡ Send text → (number : ℕ) × (Call thread index member given ≡ Call thread index s.at (Accepted number))
newest_send rules k fa plan s past thread index member given run quiet rest st text e c =
    let next = next_call rules plan past thread index member given (planned plan thread index) st run.enabled.0 e in
    let lt : st.at < plan.members = planned_member plan (open_facts plan run.of_plan) thread index st e in
    let lm : member < plan.members = subst (λ m. m < plan.members) (sym next.at) lt in
    let is : given ≡ answer (group rules plan) member (part rules plan past member) (Send text) = next.answered ∙ ap (λ call. answer (group rules plan) member (part rules plan past member) call) c in
    let accepted = accepts_in rules k fa plan s past (shorter rules plan (Call thread index member given) past run) quiet member lm text (λ f. rest (is ∙ f)) in
    (length (part rules plan past member).accepted, ap (λ m. Call thread index m given) next.at ∙ ap (λ a. Call thread index st.at a) (is ∙ accepted))

next_place : (rules : Rules) (plan : Planned) (past : Events) (thread index member : ℕ) (given : Answer) (o : Option Step) → IsCall rules plan past thread index member given o → index ≡ calls_made thread past
next_place rules plan past thread index member given None h = absurd h
next_place rules plan past thread index member given (Some s) h = h.next

-- a call that was answered as full was made at rest
full_at_rest : (rules : Rules) (plan : Planned) (past : Events) (thread index member : ℕ) (given : Answer) → FullOnlyAtRest rules plan (past ++ []) (Call thread index member given) → given ≡ Full
    → IsAtRest rules plan past
full_at_rest rules plan past thread index member given h f =
    subst (λ es. IsAtRest rules plan es) (append-nil past) (subst (λ a. FullOnlyAtRest rules plan (past ++ []) (Call thread index member a)) f h)

behind : {A : Type 0} (x : A) (xs : List A) (y : A) → Contains xs y → Contains (x ∷ xs) y
behind x xs y c = Contains-append_right (x ∷ []) xs y c

made_send : (rules : Rules) → KeepsOrder rules → FulfilsAll rules → (plan : Planned) → rules.serves plan.first ≡ true → (past : Events) → IsGroupRun rules plan past → IsQuiet plan past → FullAtRest rules plan [] past
    → (thread index : ℕ) (s : Step) (text : List ℕ) → planned plan thread index ≡ Some s → s.call ≡ Send text → index < calls_made thread past
    → (number : ℕ) × Contains past (Call thread index s.at (Accepted number))
made_send rules k fa plan s [] run quiet full thread index st text e c lt = absurd (omega arith)
made_send rules k fa plan s (Call other place member given ∷ past) run quiet full thread index st text e c lt =
    let run' = shorter rules plan (Call other place member given) past run in
    let older : index < calls_made thread past → (number : ℕ) × Contains (Call other place member given ∷ past) (Call thread index st.at (Accepted number)) = λ l.
    let m = made_send rules k fa plan s past run' quiet.1 full.1 thread index st text e c l in
    (m.0, behind (Call other place member given) past (Call thread index st.at (Accepted m.0)) m.1) in
    elim (tested (other == thread)) [
      | inl b ↦
          let lt' : index < suc (calls_made thread past) = rw b at lt in
          elim (cases_lt index (calls_made thread past)) [
            | inl l ↦ older l
            | inr ge ↦
                let same : other ≡ thread = eqb-true other thread b in
                let at : place ≡ index = (next_place rules plan past other place member given (planned plan other place) run.enabled.0 ∙ ap (λ t. calls_made t past) same) ∙ (let i : calls_made thread past ≡ index = omega arith in i) in
                let here : planned plan other place ≡ Some st = ap (λ t. planned plan t place) same ∙ ap (planned plan thread) at ∙ e in
                let n = newest_send rules k fa plan s past other place member given run quiet.1 (full_at_rest rules plan past other place member given full.0) st text here c in
                (n.0, (0, omega arith, n.1 ∙ ap (λ t. Call t place st.at (Accepted n.0)) same ∙ ap (λ i. Call thread i st.at (Accepted n.0)) at))
          ]
      | inr b ↦ older (let l : index < calls_made thread past = rw b at lt in l)
    ]
made_send rules k fa plan s (Receive from to ∷ past) run quiet full thread index st text e c lt =
    let m = made_send rules k fa plan s past (shorter rules plan (Receive from to) past run) quiet full.1 thread index st text e c lt in
    (m.0, behind (Receive from to) past (Call thread index st.at (Accepted m.0)) m.1)
made_send rules k fa plan s (Release at ∷ past) run quiet full thread index st text e c lt =
    let m = made_send rules k fa plan s past (shorter rules plan (Release at) past run) quiet full.1 thread index st text e c lt in
    (m.0, behind (Release at) past (Call thread index st.at (Accepted m.0)) m.1)

-- What was accepted -----------------------------------------------------------------------------------------------

still_accepted : (plan : Planned) (e : Event) (past : Events) (y : Item) → Contains (accepted_in plan past) y → Contains (accepted_in plan (e ∷ past)) y
still_accepted plan (Call thread index member given) past y c = Contains-append_right (accepted_at member (planned plan thread index) given) (accepted_in plan past) y c
still_accepted plan (Receive from to) past y c = c
still_accepted plan (Release at) past y c = c

newest_accepted : (plan : Planned) (past : Events) (thread index : ℕ) (s : Step) (number : ℕ) (text : List ℕ) → planned plan thread index ≡ Some s → s.call ≡ Send text
    → Contains (accepted_in plan (Call thread index s.at (Accepted number) ∷ past)) (Msg s.at number text)
newest_accepted plan past thread index s number text e c =
    let is : accepted_at s.at (planned plan thread index) (Accepted number) ≡ Msg s.at number text ∷ [] =
    ap (λ o. accepted_at s.at o (Accepted number)) e ∙ ap (λ call. accepted_by s.at call (Accepted number)) c in
    Contains-append_left (accepted_at s.at (planned plan thread index) (Accepted number)) (accepted_in plan past) (Msg s.at number text)
    (subst (λ ys. Contains ys (Msg s.at number text)) (sym is) (0, omega arith, refl))

sent_accepted : (plan : Planned) (past : Events) (thread index : ℕ) (s : Step) (number : ℕ) (text : List ℕ) → planned plan thread index ≡ Some s → s.call ≡ Send text
    → Contains past (Call thread index s.at (Accepted number)) → Contains (accepted_in plan past) (Msg s.at number text)
sent_accepted plan [] thread index s number text e c h = absurd (let lt = h.1 in omega arith)
sent_accepted plan (x ∷ past) thread index s number text e c h = elim (Contains-append_cases (x ∷ []) past (Call thread index s.at (Accepted number)) h) [
  | inl p ↦
      let is : x ≡ Call thread index s.at (Accepted number) = only (λ y. x ≡ y) x (Call thread index s.at (Accepted number)) refl p in
      subst (λ y. Contains (accepted_in plan (y ∷ past)) (Msg s.at number text)) (sym is) (newest_accepted plan past thread index s number text e c)
  | inr q ↦ still_accepted plan x past (Msg s.at number text) (sent_accepted plan past thread index s number text e c q)
]

pub quiet_runs_deliver : QuietRunsDeliver
quiet_runs_deliver = λ rules k fa plan s past run full settled quiet thread index st text e c.
    let lt = before_end (slice_get plan.threads thread) index (calls_made thread past) st e (settled.calls thread) in
    let m = made_send rules k fa plan s past run quiet full thread index st text e c lt in
    let all = fulfils_runs rules k fa plan s past run settled quiet in
    (m.0, m.1, all.delivered st.at m.0 text (sent_accepted plan past thread index st m.0 text e c m.1))
