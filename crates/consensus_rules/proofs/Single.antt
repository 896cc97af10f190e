use Rattle.std.proofs.Common.{ℕ, ◌+◌, ◌^◌, ◌≡◌, ◌<◌, ◌≤◌, inl, inr, eqb, not, List, [], ◌∷◌, ◌++◌, length, Option, Some, None, refl, sym, ap, ◌∙◌, subst, arith, append-nil, length-append}
use Rattle.std.specs.List.{filter}
use Rattle.std.proofs.lemmas.Bool.{cases_Bool, cond_both, cond-true, cond-false}
use Rattle.fifo_net.specs.Net.{Input, Called, Took, inputs_of}
use Rattle.upd_base.specs.declared.kind.Kind.TheVariants.{Consensus}
use Rattle.upd_base.specs.declared.body.Body.{Body}
use Rattle.upd_base.specs.declared.body.Body.TheVariants.{Ask, Ord, Req, Ack, Rb, Est, Prop, Reply, Next, Decide, Past}
use Rattle.order_trait.specs.Runs.{Order, Broadcast, Suspect, Trust, Inputs, Steps, IsModuleRun}
use Rattle.instance_rules.specs.Say.{Items, Starts, Say, Decides, Turns}
use Rattle.instance_rules.specs.History.{or_else}
use Rattle.instance_rules.specs.Place.{place}
use Rattle.consensus_rules.specs.Items.{knows, add_new, rb_item, received}
use Rattle.consensus_rules.specs.Delivered.{batches, items_of, decide_in, decisions, decision, next}
use Rattle.consensus_rules.specs.Waiting.{waiting, next_batch}
use Rattle.instance_rules.specs.Bodies.{say_of}
use Rattle.consensus_rules.specs.Instances.{last_instance, hears, is_due, start_of, adds, turns_of}
use Rattle.consensus_rules.specs.Consensus.{sends_by}
use Rattle.instance_rules.specs.Run.{Rounds, IsInstanceRun}
use Rattle.consensus_rules.specs.Projection.{at_step, rounds_of}
use Rattle.instance_rules.proofs.Votes.{none_is_some}
use Rattle.instance_rules.proofs.Said.{Later, place_later}
use Rattle.consensus_rules.proofs.Delivered.{next_undecided}
use Rattle.consensus_rules.proofs.Projection.{decision_or, run_rounds, fit_rounds}
use Rattle.consensus_rules.proofs.Begun.{Due, due, begun_next}

or_some : (o : Option Items) (b : Items) → or_else o (Some b) ≡ None → ⊥
or_some None b e = none_is_some b (sym e)
or_some (Some c) b e = none_is_some c (sym e)

-- a body of an instance that stays undecided decides nothing, and is no Rb
record Plain (body : Body) : Type 0 where
  no_decide : decide_in body ≡ []
  no_item : rb_item body ≡ []

plain : (k : ℕ) (ds : List (ℕ × Items)) (body : Body) (say : Say) → say_of k body ≡ Some say → decision k (ds ++ decide_in body) ≡ None → Plain body
plain k ds (Ask item) say e und = none_is_some say e
plain k ds (Ord p item) say e und = none_is_some say e
plain k ds (Req stamp item) say e und = none_is_some say e
plain k ds (Ack stamp) say e und = none_is_some say e
plain k ds Past say e und = none_is_some say e
plain k ds (Rb item) say e und = none_is_some say e
plain k ds (Est instance round stamp batch) say e und = record { no_decide = refl; no_item = refl }
plain k ds (Prop instance round batch) say e und = record { no_decide = refl; no_item = refl }
plain k ds (Reply instance round agree) say e und = record { no_decide = refl; no_item = refl }
plain k ds (Next instance round) say e und = record { no_decide = refl; no_item = refl }
plain k ds (Decide instance batch) say e und =
    elim (cases_Bool (eqb instance k)) [
      | inl t ↦
          let both : or_else (decision k ds) (Some batch) ≡ None =
          ap (λ o. or_else (decision k ds) o) (sym (cond-true (eqb instance k) (Some batch) None t)) ∙ sym (decision_or k ds ((instance, batch) ∷ [])) ∙ und in
          absurd (or_some (decision k ds) batch both)
      | inr f ↦ none_is_some say (sym (cond-false (eqb instance k) (Some (Decides batch)) None f) ∙ e)
    ]

-- A start never comes with a body of its instance.
no_start : (n k from : ℕ) (body : Body) (past : Inputs) (say : Say) → say_of k body ≡ Some say
    → length (start_of n k (Took from body ∷ past) (Took from say ∷ turns_of n k past)) ≡ 0
no_start n k from body past say e =
    let inputs : Inputs = Took from body ∷ past in
    let base : Turns = Took from say ∷ turns_of n k past in
    cond_both (is_due n k inputs base) (Called (Starts (next_batch inputs)) ∷ []) [] (λ l. length l ≡ 0)
    (λ t.
    let d : Due n k inputs base = due n k inputs base t in
    let und : decision k (decisions inputs) ≡ None = subst (λ j. decision j (decisions inputs) ≡ None) (sym d.number) (next_undecided inputs) in
    let p : Plain body = plain k (decisions past) body say e und in
    let same_decisions : decisions inputs ≡ decisions past = ap (λ l. decisions past ++ l) p.no_decide ∙ append-nil (decisions past) in
    let same_received : received inputs ≡ received past = ap (add_new (received past)) p.no_item in
    absurd (clash inputs base d same_decisions same_received))
    (λ t. refl)
  where
    clash : (inputs : Inputs) (base : Turns) → Due n k inputs (Took from say ∷ turns_of n k past) → decisions inputs ≡ decisions past → received inputs ≡ received past → ⊥
    clash inputs base d same_decisions same_received =
        let next_is : next past ≡ k = ap (λ ds. 1 + length (batches ds)) (sym same_decisions) ∙ sym d.number in
        let waits : length (waiting inputs) ≡ length (waiting past) =
        ap (λ ds. length (filter (λ x. not (knows (items_of (batches ds)) x)) (received inputs))) same_decisions
        ∙ ap (λ rs. length (filter (λ x. not (knows (items_of (batches (decisions past))) x)) rs)) same_received in
        let some : 0 < length (waiting inputs) = d.some in
        let begun_there : 1 ≤ (place n (turns_of n (next past) past)).round = begun_next n past (subst (λ j. j ≤ last_instance) (sym next_is) d.counts) (omega (arith, some, waits)) in
        let begun_here : 1 ≤ (place n (turns_of n k past)).round = subst (λ j. 1 ≤ (place n (turns_of n j past)).round) next_is begun_there in
        let l : Later (place n (turns_of n k past)) (place n (Took from say ∷ turns_of n k past)) = place_later n (Took from say) (turns_of n k past) in
        let a : (place n (turns_of n k past)).round ≤ (place n (Took from say ∷ turns_of n k past)).round = l.rises in
        let at_zero : (place n (Took from say ∷ turns_of n k past)).round ≡ 0 = d.apart in
        omega (arith, a, begun_here, at_zero)

start_one : (n k : ℕ) (inputs : Inputs) (turns : Turns) → length (start_of n k inputs turns) ≤ 1
start_one n k inputs turns =
    cond_both (is_due n k inputs turns) (Called (Starts (next_batch inputs)) ∷ []) [] (λ l. length l ≤ 1) (λ t. omega arith) (λ t. omega arith)

-- An input adds at most one turn to an instance, at every list of inputs.
pub adds_one : (n k : ℕ) (x : Input Order Body) (past : Inputs) → length (adds n k x past (turns_of n k past)) ≤ 1
adds_one n k (Called (Broadcast item)) past = omega arith
adds_one n k (Called (Suspect who)) past = omega arith
adds_one n k (Called (Trust who)) past = omega arith
adds_one n k (Took from body) past = by_say (say_of k body) refl
  where
    by_say : (o : Option Say) → say_of k body ≡ o → length (start_of n k (Took from body ∷ past) (hears from (say_of k body) ++ turns_of n k past) ++ hears from (say_of k body)) ≤ 1
    by_say None e =
        subst (λ o. length (start_of n k (Took from body ∷ past) (hears from o ++ turns_of n k past) ++ hears from o) ≤ 1) (sym e)
        (omega (arith, start_one n k (Took from body ∷ past) (turns_of n k past), length-append (start_of n k (Took from body ∷ past) (turns_of n k past)) []))
    by_say (Some say) e =
        subst (λ o. length (start_of n k (Took from body ∷ past) (hears from o ++ turns_of n k past) ++ hears from o) ≤ 1) (sym e)
        (omega (arith, no_start n k from body past say e, length-append (start_of n k (Took from body ∷ past) (Took from say ∷ turns_of n k past)) (Took from say ∷ [])))

step_length : (m : ℕ) (ts : Turns) (rest : Rounds) → length (at_step m ts rest) ≡ length ts + length rest
step_length m [] rest = omega arith
step_length m (t ∷ ts) rest = omega (arith, step_length m ts rest)

rounds_short : (n k : ℕ) (past : Steps) → length (rounds_of n k past) ≤ length past
rounds_short n k [] = omega arith
rounds_short n k (s ∷ past) =
    let new : Turns = adds n k s.input (inputs_of s.at past) (turns_of n k (inputs_of s.at past)) in
    omega (arith, step_length s.at new (rounds_of n k past), adds_one n k s.input (inputs_of s.at past), rounds_short n k past)

-- The projection of a module run on an instance is an instance run.
pub projects : (n k : ℕ) (past : Steps) → IsModuleRun sends_by Consensus n past → IsInstanceRun n (rounds_of n k past)
projects n k past run = record {
  some = run.some;
  few = run.few;
  short = (let a : length (rounds_of n k past) ≤ length past = rounds_short n k past in let b : length past < 2 ^ 40 = run.short in below (length (rounds_of n k past)) (length past) (2 ^ 40) a b);
  fit = fit_rounds n k past run.fit;
  fifo = run_rounds n k past run.fifo;
}
  where
    below : (a b c : ℕ) → a ≤ b → b < c → a < c
    below a b c h l = omega arith
