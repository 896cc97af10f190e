use Rattle.std.proofs.Common.{ℕ, zero, suc, ◌+◌, ◌≡◌, ◌≤◌, inl, inr, eqb, ltb, Bool, true, cond, not, ◌&&◌, ◌∷◌, refl, sym, ap, ◌∙◌, subst, arith}
use Rattle.ct_consensus.specs.Ballots.{kept_of}
use Rattle.std.proofs.lemmas.Bool.{cases_Bool, cond_both, cond-true, cond-false, ltb-false, and_parts}
use Rattle.fifo_net.specs.Net.{Called}
use Rattle.instance_rules.specs.declared.place.Place.{Place}
use Rattle.instance_rules.specs.Say.{Act, Suspects, Trusts, Turns, coordinator, last_round}
use Rattle.instance_rules.specs.History.{suspected}
use Rattle.instance_rules.specs.Place.{Move, stay, after, give, refuse, enter, go_on, place}
use Rattle.ct_consensus.specs.declared.running.Running.{Running}
use Rattle.ct_consensus.specs.declared.state.State.{State}
use Rattle.ct_consensus.specs.declared.state.State.TheVariants.{Undecided, Decided}
use Rattle.ct_consensus.specs.Stance.{Settled}
use Rattle.ct_consensus.specs.Stands.{IsRunning, IsState}
use Rattle.ct_consensus.proofs.Inputs.{place_step, same_kept}
use Rattle.ct_consensus.proofs.Rounds.{suspicion_stays, positive_is}
use Rattle.ct_consensus.proofs.Decided.{decided_stays}

-- a call that leaves the place, where the member is settled
unmoved : (n me : ℕ) (running : Running) (act : Act) (past : Turns) → IsRunning n me running past → place n (Called act ∷ past) ≡ place n past
    → Settled n (suspected (Called act ∷ past)) (place n past) → IsRunning n me running (Called act ∷ past)
unmoved n me running act past old same settled = record {
  undecided = old.undecided;
  place = old.place ∙ sym same;
  settled = subst (Settled n (suspected (Called act ∷ past))) (sym same) settled;
  low = subst (λ p. p.round ≤ last_round) (sym same) old.low;
  led = old.led;
  ballots = λ r mine. same_kept n r (Called act) past (kept_of running.ballots r) refl refl (old.ballots r mine);
}

-- after a trust
pub trusting : (n me who : ℕ) (state : State) (past : Turns) → IsState n me state past → IsState n me state (Called (Trusts who) ∷ past)
trusting n me who (Undecided running) past old =
    unmoved n me running (Trusts who) past old (place_step n (Called (Trusts who)) past old.undecided)
    (λ some new. old.settled some (and_parts (not (eqb who (coordinator n (place n past).round))) (suspected past (coordinator n (place n past).round)) new).1)
trusting n me who (Decided decision) past old = decided_stays n me decision (Called (Trusts who)) past old

-- entering a round comes to no earlier one
enter_rises : (n : ℕ) (suspects : ℕ → Bool) (more round : ℕ) (p : Place) → round ≤ (enter n suspects more round p).place.round
enter_rises n suspects zero round p = omega arith
enter_rises n suspects (suc more) round p =
    cond_both (suspects (coordinator n round))
    (after (give n round p).says (after (refuse n (give n round p).place).says (cond (ltb round last_round) (enter n suspects more (round + 1) p) (stay (refuse n (give n round p).place).place))))
    (give n round p)
    (λ m. round ≤ m.place.round)
    (λ t. cond_both (ltb round last_round) (enter n suspects more (round + 1) p) (stay (refuse n (give n round p).place).place) (λ m. round ≤ m.place.round)
    (λ on. let l : round + 1 ≤ (enter n suspects more (round + 1) p).place.round = enter_rises n suspects more (round + 1) p in omega (arith, l))
    (λ end. omega arith))
    (λ f. omega arith)

-- Who refuses and goes on and is where it was, had replied in the last round.
went_nowhere : (n : ℕ) (suspects : ℕ → Bool) (p : Place) → p.round ≤ last_round → (go_on n suspects (refuse n p).place).place ≡ p → (p.round ≡ last_round) × (p.replied ≡ true)
went_nowhere n suspects p low same =
    elim (cases_Bool (ltb p.round last_round)) [
      | inl t ↦
          let there : go_on n suspects (refuse n p).place ≡ enter n suspects n (p.round + 1) (refuse n p).place =
          cond-true (ltb p.round last_round) (enter n suspects n (p.round + 1) (refuse n p).place) (stay (refuse n p).place) t in
          let rises : p.round + 1 ≤ (enter n suspects n (p.round + 1) (refuse n p).place).place.round = enter_rises n suspects n (p.round + 1) (refuse n p).place in
          let back : (enter n suspects n (p.round + 1) (refuse n p).place).place.round ≡ p.round = ap (λ m. m.place.round) (sym there) ∙ ap (λ q. q.round) same in
          absurd (omega (arith, rises, back))
      | inr f ↦
          let there : go_on n suspects (refuse n p).place ≡ stay (refuse n p).place =
          cond-false (ltb p.round last_round) (enter n suspects n (p.round + 1) (refuse n p).place) (stay (refuse n p).place) f in
          let last : last_round ≤ p.round = ltb-false p.round last_round f in
          (omega (arith, last, low), ap (λ q. q.replied) (sym same) ∙ ap (λ m. m.place.replied) there)
    ]

-- after a suspicion that moves the member nowhere
pub suspecting : (n me who : ℕ) (state : State) (past : Turns) → place n (Called (Suspects who) ∷ past) ≡ place n past → IsState n me state past
    → IsState n me state (Called (Suspects who) ∷ past)
suspecting n me who (Undecided running) past same old =
    let p : Place = place n past in
    let now : ℕ → Bool = suspected (Called (Suspects who) ∷ past) in
    let act : Move = after (refuse n p).says (go_on n now (refuse n p).place) in
    unmoved n me running (Suspects who) past old same (λ some new. elim (cases_Bool (not (suspected past who) && (ltb 0 p.round && eqb who (coordinator n p.round)))) [
      | inl t ↦ went_nowhere n now p old.low
          (ap (λ m. m.place) (sym (cond-true (not (suspected past who) && (ltb 0 p.round && eqb who (coordinator n p.round))) act (stay p) t))
          ∙ sym (place_step n (Called (Suspects who)) past old.undecided) ∙ same)
      | inr f ↦ old.settled some (suspicion_stays past who (coordinator n p.round) (ltb 0 p.round) f (positive_is p.round some) new)
    ])
suspecting n me who (Decided decision) past same old = decided_stays n me decision (Called (Suspects who)) past old
