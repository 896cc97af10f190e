-- Where something waits, the next instance has begun.
use Rattle.std.proofs.Common.{ℕ, ◌≡◌, ◌<◌, ◌≤◌, inl, inr, eqb, ltb, leb, true, false, [], ◌∷◌, ◌++◌, length, None, refl, sym, ap, ◌∙◌, subst, arith, append_assoc, ◌&&◌, cond}
use Rattle.std.specs.Option.{is_some}
use Rattle.std.proofs.lemmas.Bool.{cases_eq, cond_both, cond-true, eqb-true, eq-eqb, ltb-true, lt-ltb, leb-true, le-leb, and_parts, and_from, both_ways}
use Rattle.fifo_net.specs.Net.{Called, Took}
use Rattle.order_trait.specs.Runs.{Broadcast, Suspect, Trust, Inputs}
use Rattle.instance_rules.specs.Say.{Items, Starts, Suspects, Trusts, Turns}
use Rattle.instance_rules.specs.History.{suspected, decided}
use Rattle.instance_rules.specs.Place.{moves, stay, enter, place}
use Rattle.instance_rules.specs.Bodies.{say_of}
use Rattle.instance_rules.proofs.Places.{EnterOk, enters}
use Rattle.instance_rules.proofs.Said.{Later, place_later}
use Rattle.consensus_rules.specs.Delivered.{next}
use Rattle.consensus_rules.specs.Waiting.{waiting, next_batch}
use Rattle.consensus_rules.specs.Instances.{last_instance, hears, is_due, start_of, turns_of}
use Rattle.consensus_rules.proofs.Delivered.{next_undecided}
use Rattle.consensus_rules.proofs.Projection.{decided_start, decision_turns}
use Rattle.instance_rules.specs.declared.place.Place.{Place}

-- what it is that an instance is due
pub record Due (n k : ℕ) (inputs : Inputs) (turns : Turns) : Type 0 where
  pub number : k ≡ next inputs
  pub counts : k ≤ last_instance
  pub some : 0 < length (waiting inputs)
  pub apart : (place n turns).round ≡ 0

pub due : (n k : ℕ) (inputs : Inputs) (turns : Turns) → is_due n k inputs turns ≡ true → Due n k inputs turns
due n k inputs turns e =
    let a : (eqb k (next inputs) ≡ true) × ((leb k last_instance && (ltb 0 (length (waiting inputs)) && eqb (place n turns).round 0)) ≡ true) =
    and_parts (eqb k (next inputs)) (leb k last_instance && (ltb 0 (length (waiting inputs)) && eqb (place n turns).round 0)) e in
    let b : (leb k last_instance ≡ true) × ((ltb 0 (length (waiting inputs)) && eqb (place n turns).round 0) ≡ true) =
    and_parts (leb k last_instance) (ltb 0 (length (waiting inputs)) && eqb (place n turns).round 0) a.1 in
    let c : (ltb 0 (length (waiting inputs)) ≡ true) × (eqb (place n turns).round 0 ≡ true) = and_parts (ltb 0 (length (waiting inputs))) (eqb (place n turns).round 0) b.1 in
    record {
      number = eqb-true k (next inputs) a.0;
      counts = leb-true k last_instance b.0;
      some = ltb-true 0 (length (waiting inputs)) c.0;
      apart = eqb-true (place n turns).round 0 c.1;
    }

pub due_from : (n k : ℕ) (inputs : Inputs) (turns : Turns) → Due n k inputs turns → is_due n k inputs turns ≡ true
due_from n k inputs turns d =
    and_from (eqb k (next inputs)) (leb k last_instance && (ltb 0 (length (waiting inputs)) && eqb (place n turns).round 0)) (eq-eqb k (next inputs) d.number)
    (and_from (leb k last_instance) (ltb 0 (length (waiting inputs)) && eqb (place n turns).round 0) (le-leb k last_instance d.counts)
    (and_from (ltb 0 (length (waiting inputs))) (eqb (place n turns).round 0) (lt-ltb 0 (length (waiting inputs)) d.some) (eq-eqb (place n turns).round 0 d.apart)))

-- who starts has a round
start_round : (n : ℕ) (base : Turns) (b : Items) → decided base ≡ None → (place n base).round ≡ 0 → 1 ≤ (place n (Called (Starts b) ∷ base)).round
start_round n base b und zero_is =
    let there : Place = record { round = 0; held = record { stamp = 0; batch = b }; replied = false } in
    let at : place n (Called (Starts b) ∷ base) ≡ (enter n (suspected base) n 1 there).place =
    ap (λ o. cond (is_some o) (place n base) (moves n base (Called (Starts b)) (place n base)).place) und
    ∙ ap (λ m. m.place) (cond-true (eqb (place n base).round 0) (enter n (suspected base) n 1 there) (stay (place n base)) (eq-eqb (place n base).round 0 zero_is)) in
    let ok : EnterOk there 1 (enter n (suspected base) n 1 there) = enters n (suspected base) n 1 there (omega arith) in
    subst (λ p. 1 ≤ p.round) (sym at) ok.from

pub begun_next : (n : ℕ) (inputs : Inputs) → next inputs ≤ last_instance → 1 ≤ length (waiting inputs) → 1 ≤ (place n (turns_of n (next inputs) inputs)).round
begun_next n [] counts h = absurd (omega (arith, h))
begun_next n (Called (Broadcast item) ∷ past) counts h = begun_next n past counts h
begun_next n (Called (Suspect who) ∷ past) counts h =
    let l : Later (place n (turns_of n (next past) past)) (place n (Called (Suspects who) ∷ turns_of n (next past) past)) = place_later n (Called (Suspects who)) (turns_of n (next past) past) in
    let a : (place n (turns_of n (next past) past)).round ≤ (place n (Called (Suspects who) ∷ turns_of n (next past) past)).round = l.rises in
    omega (arith, a, begun_next n past counts h)
begun_next n (Called (Trust who) ∷ past) counts h =
    let l : Later (place n (turns_of n (next past) past)) (place n (Called (Trusts who) ∷ turns_of n (next past) past)) = place_later n (Called (Trusts who)) (turns_of n (next past) past) in
    let a : (place n (turns_of n (next past) past)).round ≤ (place n (Called (Trusts who) ∷ turns_of n (next past) past)).round = l.rises in
    omega (arith, a, begun_next n past counts h)
begun_next n (Took from body ∷ past) counts h =
    let inputs : Inputs = Took from body ∷ past in
    let k : ℕ = next inputs in
    let base : Turns = hears from (say_of k body) ++ turns_of n k past in
    let start : Turns = start_of n k inputs base in
    let regroup : (start ++ hears from (say_of k body)) ++ turns_of n k past ≡ start ++ base = append_assoc start (hears from (say_of k body)) (turns_of n k past) in
    let undecided : decided base ≡ None =
    sym (decided_start n k inputs base base) ∙ ap decided (sym regroup) ∙ sym (decision_turns n k inputs) ∙ next_undecided inputs in
    subst (λ l. 1 ≤ (place n l).round) (sym regroup)
    (cond_both (is_due n k inputs base) (Called (Starts (next_batch inputs)) ∷ []) []
    (λ l. 1 ≤ (place n (l ++ base)).round)
    (λ t. start_round n base (next_batch inputs) undecided (due n k inputs base t).apart)
    (λ f. elim (cases_eq (place n base).round 0) [
      | inl at_zero ↦ absurd (both_ways (is_due n k inputs base) f (due_from n k inputs base (record { number = refl; counts = counts; some = omega (arith, h); apart = at_zero })))
      | inr ne ↦ omega (arith, ne)
    ]))
