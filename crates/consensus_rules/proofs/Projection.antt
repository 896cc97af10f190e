use Rattle.std.proofs.Common.{ℕ, ◌≡◌, ◌<◌, inl, inr, eqb, true, false, cond, List, [], ◌∷◌, ◌++◌, Option, Some, None, refl, sym, ap, ◌∙◌, subst, append_assoc}
use Rattle.std.specs.List.{filter_map, cons_option}
use Rattle.std.proofs.lemmas.Bool.{cases_eq, cond_both}
use Rattle.std.proofs.lemmas.List.Elements.{filter_map-append}
use Rattle.fifo_net.specs.Net.{Input, Called, Took, taken, sent, inputs_of, taken_on, sent_on, IsPrefix, MayCome, IsRun}
use Rattle.fifo_net.proofs.Links.{inputs_here, inputs_away}
use Rattle.upd_base.specs.declared.body.Body.{Body}
use Rattle.upd_base.specs.declared.body.Body.TheVariants.{Ask, Ord, Req, Ack, Rb, Est, Prop, Reply, Next, Decide, Past}
use Rattle.order_trait.specs.Runs.{Order, Broadcast, Suspect, Trust, Inputs, Steps, StepsFit, InputFits}
use Rattle.instance_rules.specs.Say.{Items, Starts, Say, Estimates, Proposes, Replies, Moves_on, Decides, Turns}
use Rattle.instance_rules.specs.History.{decides, decided, or_else}
use Rattle.instance_rules.specs.Says.{says}
use Rattle.consensus_rules.specs.Delivered.{decide_in, decisions, decision}
use Rattle.consensus_rules.specs.Waiting.{next_batch}
use Rattle.instance_rules.specs.Bodies.{say_of}
use Rattle.consensus_rules.specs.Instances.{is_due, hears, start_of, adds, turns_of}
use Rattle.consensus_rules.specs.Consensus.{sends_by}
use Rattle.consensus_rules.specs.Projection.{at_step, rounds_of}
use Rattle.instance_rules.specs.Run.{Rounds, RoundsFit}
use Rattle.consensus_rules.proofs.Picks.{sent_turns, taken_turns}
use Rattle.instance_rules.proofs.Agree.{runs_agree}
use Rattle.consensus_rules.proofs.Delivered.{Consistent}

pub at_step_append : (m : ℕ) (ts us : Turns) (rest : Rounds) → at_step m (ts ++ us) rest ≡ at_step m ts (at_step m us rest)
at_step_append m [] us rest = refl
at_step_append m (t ∷ ts) us rest = ap (λ l. record { at = m; input = t } ∷ l) (at_step_append m ts us rest)

step_here : (m : ℕ) (ts : Turns) (rest : Rounds) → inputs_of m (at_step m ts rest) ≡ ts ++ inputs_of m rest
step_here m [] rest = refl
step_here m (t ∷ ts) rest =
    inputs_here m (record { at = m; input = t }) (at_step m ts rest) refl ∙ ap (λ l. t ∷ l) (step_here m ts rest)

step_away : (at m : ℕ) (ts : Turns) (rest : Rounds) → (at ≡ m → ⊥) → inputs_of m (at_step at ts rest) ≡ inputs_of m rest
step_away at m [] rest ne = refl
step_away at m (t ∷ ts) rest ne = inputs_away m (record { at = at; input = t }) (at_step at ts rest) ne ∙ step_away at m ts rest ne

pub inputs_rounds : (n k m : ℕ) (past : Steps) → inputs_of m (rounds_of n k past) ≡ turns_of n k (inputs_of m past)
inputs_rounds n k m [] = refl
inputs_rounds n k m (s ∷ past) =
    elim (cases_eq s.at m) [
      | inl e ↦
          let new : ℕ → Turns = λ z. adds n k s.input (inputs_of z past) (turns_of n k (inputs_of z past)) in
          subst (λ z. inputs_of z (at_step s.at (new s.at) (rounds_of n k past)) ≡ turns_of n k (inputs_of z (s ∷ past))) e
          (step_here s.at (new s.at) (rounds_of n k past)
          ∙ ap (λ l. new s.at ++ l) (inputs_rounds n k s.at past)
          ∙ sym (ap (turns_of n k) (inputs_here s.at s past refl)))
      | inr ne ↦
          step_away s.at m (adds n k s.input (inputs_of s.at past) (turns_of n k (inputs_of s.at past))) (rounds_of n k past) ne
          ∙ inputs_rounds n k m past
          ∙ sym (ap (turns_of n k) (inputs_away m s past ne))
    ]

pub taken_rounds : (n k j i : ℕ) (past : Steps) → taken_on j i (rounds_of n k past) ≡ filter_map (say_of k) (taken_on j i past)
taken_rounds n k j i past = ap (taken j) (inputs_rounds n k i past) ∙ sym (taken_turns n k j (inputs_of i past))

pub sent_rounds : (n k j i : ℕ) (past : Steps) → sent_on (says n) j i (rounds_of n k past) ≡ filter_map (say_of k) (sent_on (sends_by n) j i past)
sent_rounds n k j i past = ap (sent (says n) j i) (inputs_rounds n k j past) ∙ sym (sent_turns n j k i (inputs_of j past))

IsPrefix-filter_map : {X Y : Type 0} (h : X → Option Y) (xs ys : List X) → IsPrefix xs ys → IsPrefix (filter_map h xs) (filter_map h ys)
IsPrefix-filter_map h xs ys p = (filter_map h p.0, ap (filter_map h) p.1 ∙ filter_map-append h xs p.0)

may_say : (n k at from : ℕ) (body : Body) (say : Say) (past : Steps) → say_of k body ≡ Some say
    → IsPrefix (taken_on from at past ++ body ∷ []) (sent_on (sends_by n) from at past)
    → IsPrefix (taken_on from at (rounds_of n k past) ++ say ∷ []) (sent_on (says n) from at (rounds_of n k past))
may_say n k at from body say past e p =
    let q : IsPrefix (filter_map (say_of k) (taken_on from at past ++ body ∷ [])) (filter_map (say_of k) (sent_on (sends_by n) from at past)) =
    IsPrefix-filter_map (say_of k) (taken_on from at past ++ body ∷ []) (sent_on (sends_by n) from at past) p in
    let left : filter_map (say_of k) (taken_on from at past ++ body ∷ []) ≡ taken_on from at (rounds_of n k past) ++ say ∷ [] =
    filter_map-append (say_of k) (taken_on from at past) (body ∷ [])
    ∙ ap (λ o. filter_map (say_of k) (taken_on from at past) ++ cons_option o []) e
    ∙ ap (λ l. l ++ say ∷ []) (sym (taken_rounds n k from at past)) in
    subst (λ l. IsPrefix l (sent_on (says n) from at (rounds_of n k past))) left
    (subst (λ l. IsPrefix (filter_map (say_of k) (taken_on from at past ++ body ∷ [])) l) (sym (sent_rounds n k from at past)) q)

run_start : (n k at : ℕ) (inputs : Inputs) (turns : Turns) (rest : Rounds) → IsRun (says n) rest → IsRun (says n) (at_step at (start_of n k inputs turns) rest)
run_start n k at inputs turns rest run =
    cond_both (is_due n k inputs turns) (Called (Starts (next_batch inputs)) ∷ []) []
    (λ l. IsRun (says n) (at_step at l rest)) (λ t. (tt, run)) (λ t. run)

run_heard : (n k at from : ℕ) (body : Body) (past : Steps) (o : Option Say) → say_of k body ≡ o
    → IsPrefix (taken_on from at past ++ body ∷ []) (sent_on (sends_by n) from at past) → IsRun (says n) (rounds_of n k past)
    → IsRun (says n) (at_step at (hears from o) (rounds_of n k past))
run_heard n k at from body past None e may run = run
run_heard n k at from body past (Some say) e may run = (may_say n k at from body say past e may, run)

run_added : (n k at : ℕ) (x : Input Order Body) (past : Steps) → MayCome (sends_by n) past at x → IsRun (says n) (rounds_of n k past)
    → IsRun (says n) (at_step at (adds n k x (inputs_of at past) (turns_of n k (inputs_of at past))) (rounds_of n k past))
run_added n k at (Called (Broadcast item)) past may run = run
run_added n k at (Called (Suspect who)) past may run = (tt, run)
run_added n k at (Called (Trust who)) past may run = (tt, run)
run_added n k at (Took from body) past may run =
    let inputs : Inputs = inputs_of at past in
    let turns : Turns = hears from (say_of k body) ++ turns_of n k inputs in
    let start : Turns = start_of n k (Took from body ∷ inputs) turns in
    subst (IsRun (says n)) (sym (at_step_append at start (hears from (say_of k body)) (rounds_of n k past)))
    (run_start n k at (Took from body ∷ inputs) turns (at_step at (hears from (say_of k body)) (rounds_of n k past))
    (run_heard n k at from body past (say_of k body) refl may run))

-- It is a run of that instance.
pub run_rounds : (n k : ℕ) (past : Steps) → IsRun (sends_by n) past → IsRun (says n) (rounds_of n k past)
run_rounds n k [] run = tt
run_rounds n k (s ∷ past) run = run_added n k s.at s.input past run.0 (run_rounds n k past run.1)

fit_start : (n k at : ℕ) (inputs : Inputs) (turns : Turns) (rest : Rounds) → at < n → RoundsFit n rest → RoundsFit n (at_step at (start_of n k inputs turns) rest)
fit_start n k at inputs turns rest lt fit =
    cond_both (is_due n k inputs turns) (Called (Starts (next_batch inputs)) ∷ []) []
    (λ l. RoundsFit n (at_step at l rest)) (λ t. (lt, tt, fit)) (λ t. fit)

fit_heard : (n at from : ℕ) (o : Option Say) (rest : Rounds) → at < n → from < n → RoundsFit n rest → RoundsFit n (at_step at (hears from o) rest)
fit_heard n at from None rest lt from_fits fit = fit
fit_heard n at from (Some say) rest lt from_fits fit = (lt, from_fits, fit)

fit_added : (n k at : ℕ) (x : Input Order Body) (past : Steps) → at < n → InputFits n past at x → RoundsFit n (rounds_of n k past)
    → RoundsFit n (at_step at (adds n k x (inputs_of at past) (turns_of n k (inputs_of at past))) (rounds_of n k past))
fit_added n k at (Called (Broadcast item)) past lt fits fit = fit
fit_added n k at (Called (Suspect who)) past lt fits fit = (lt, fits, fit)
fit_added n k at (Called (Trust who)) past lt fits fit = (lt, fits, fit)
fit_added n k at (Took from body) past lt fits fit =
    let inputs : Inputs = inputs_of at past in
    let turns : Turns = hears from (say_of k body) ++ turns_of n k inputs in
    let start : Turns = start_of n k (Took from body ∷ inputs) turns in
    subst (RoundsFit n) (sym (at_step_append at start (hears from (say_of k body)) (rounds_of n k past)))
    (fit_start n k at (Took from body ∷ inputs) turns (at_step at (hears from (say_of k body)) (rounds_of n k past)) lt
    (fit_heard n at from (say_of k body) (rounds_of n k past) lt fits fit))

pub fit_rounds : (n k : ℕ) (past : Steps) → StepsFit n past → RoundsFit n (rounds_of n k past)
fit_rounds n k [] fit = tt
fit_rounds n k (s ∷ past) fit = fit_added n k s.at s.input past fit.0 fit.1 (fit_rounds n k past fit.2)

-- A decision of the kind is one of its instance.
pub decision_or : (k : ℕ) (ds es : List (ℕ × Items)) → decision k (ds ++ es) ≡ or_else (decision k ds) (decision k es)
decision_or k [] es = refl
decision_or k (d ∷ ds) es =
    elim (eqb d.0 k) as (λ b. cond b (Some d.1) (decision k (ds ++ es)) ≡ or_else (cond b (Some d.1) (decision k ds)) (decision k es)) [
      | true ↦ refl
      | false ↦ decision_or k ds es
    ]

abbrev pub decides_in : Option Say → Option Items
decides_in None = None
decides_in (Some say) = decides say

pub decide_said : (k : ℕ) (body : Body) → decision k (decide_in body) ≡ decides_in (say_of k body)
decide_said k (Ask item) = refl
decide_said k (Ord p item) = refl
decide_said k (Req stamp item) = refl
decide_said k (Ack stamp) = refl
decide_said k Past = refl
decide_said k (Rb item) = refl
decide_said k (Est instance round stamp batch) = cond_both (eqb instance k) (Some (Estimates round (record { stamp = stamp; batch = batch }))) None (λ o. None ≡ decides_in o) (λ t. refl) (λ t. refl)
decide_said k (Prop instance round batch) = cond_both (eqb instance k) (Some (Proposes round batch)) None (λ o. None ≡ decides_in o) (λ t. refl) (λ t. refl)
decide_said k (Reply instance round agree) = cond_both (eqb instance k) (Some (Replies round agree)) None (λ o. None ≡ decides_in o) (λ t. refl) (λ t. refl)
decide_said k (Next instance round) = cond_both (eqb instance k) (Some (Moves_on round)) None (λ o. None ≡ decides_in o) (λ t. refl) (λ t. refl)
decide_said k (Decide instance batch) =
    elim (eqb instance k) as (λ b. cond b (Some batch) None ≡ decides_in (cond b (Some (Decides batch)) None)) [ true ↦ refl | false ↦ refl ]

pub or_none : {A : Type 0} (o : Option A) → or_else o None ≡ o
or_none None = refl
or_none (Some x) = refl

pub decided_heard : (from : ℕ) (o : Option Say) (turns : Turns) → decided (hears from o ++ turns) ≡ or_else (decided turns) (decides_in o)
decided_heard from None turns = sym (or_none (decided turns))
decided_heard from (Some say) turns = refl

pub decided_start : (n k : ℕ) (inputs : Inputs) (base old : Turns) → decided (start_of n k inputs base ++ old) ≡ decided old
decided_start n k inputs base old =
    cond_both (is_due n k inputs base) (Called (Starts (next_batch inputs)) ∷ []) []
    (λ l. decided (l ++ old) ≡ decided old) (λ t. refl) (λ t. refl)

pub decision_turns : (n k : ℕ) (inputs : Inputs) → decision k (decisions inputs) ≡ decided (turns_of n k inputs)
decision_turns n k [] = refl
decision_turns n k (Called (Broadcast item) ∷ past) = decision_turns n k past
decision_turns n k (Called (Suspect who) ∷ past) = decision_turns n k past
decision_turns n k (Called (Trust who) ∷ past) = decision_turns n k past
decision_turns n k (Took from body ∷ past) =
    let turns : Turns = turns_of n k past in
    let start : Turns = start_of n k (Took from body ∷ past) (hears from (say_of k body) ++ turns) in
    decision_or k (decisions past) (decide_in body)
    ∙ ap (λ o. or_else o (decision k (decide_in body))) (decision_turns n k past)
    ∙ ap (λ o. or_else (decided turns) o) (decide_said k body)
    ∙ sym (decided_heard from (say_of k body) turns)
    ∙ sym (decided_start n k (Took from body ∷ past) (hears from (say_of k body) ++ turns) (hears from (say_of k body) ++ turns))
    ∙ ap decided (sym (append_assoc start (hears from (say_of k body)) turns))

pub decision_rounds : (n k i : ℕ) (past : Steps) (a : Items) → decision k (decisions (inputs_of i past)) ≡ Some a → decided (inputs_of i (rounds_of n k past)) ≡ Some a
decision_rounds n k i past a e = ap decided (inputs_rounds n k i past) ∙ sym (decision_turns n k (inputs_of i past)) ∙ e

-- No two members ever decide an instance differently.
pub members_consistent : (n : ℕ) (past : Steps) → IsRun (sends_by n) past → StepsFit n past → (i j : ℕ) → Consistent (decisions (inputs_of i past)) (decisions (inputs_of j past))
members_consistent n past run fit i j = record {
  same = λ k a b ea eb.
      runs_agree n (rounds_of n k past) (run_rounds n k past run) (fit_rounds n k past fit) i j a b (decision_rounds n k i past a ea) (decision_rounds n k j past b eb);
}
