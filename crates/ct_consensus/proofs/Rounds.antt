use Rattle.std.proofs.Common.{ℕ, zero, suc, ◌+◌, ◌≡◌, ◌<◌, ◌≤◌, inl, inr, eqb, ltb, Bool, true, false, cond, not, ◌&&◌, ◌∷◌, refl, sym, ap, ◌∙◌, subst, arith}
use Rattle.std.proofs.lemmas.Bool.{cases_Bool, cond_both, cond-true, cond-false, eqb-true, ltb-true, ltb-false, and_parts, or_cases}
use Rattle.fifo_net.specs.Net.{Input, Called, Took}
use Rattle.instance_rules.specs.declared.place.Place.{Place}
use Rattle.instance_rules.specs.Say.{Act, Starts, Suspects, Trusts, Say, Estimates, Proposes, Replies, Moves_on, Decides, Turns, coordinator, last_round}
use Rattle.instance_rules.specs.History.{suspected}
use Rattle.instance_rules.specs.Place.{Move, stay, after, give, refuse, enter, go_on, accept, awaits, moves}
use Rattle.ct_consensus.specs.Stance.{Settled}
use Rattle.ct_consensus.proofs.Settled.{enter_settled, go_on_settled, go_on_replied, accept_settled}

-- no round is past the last
enter_low : (n : ℕ) (suspects : ℕ → Bool) (more round : ℕ) (p : Place) → round ≤ last_round → (enter n suspects more round p).place.round ≤ last_round
enter_low n suspects zero round p low = low
enter_low n suspects (suc more) round p low =
    cond_both (suspects (coordinator n round))
    (after (give n round p).says (after (refuse n (give n round p).place).says (cond (ltb round last_round) (enter n suspects more (round + 1) p) (stay (refuse n (give n round p).place).place))))
    (give n round p)
    (λ m. m.place.round ≤ last_round)
    (λ t. cond_both (ltb round last_round) (enter n suspects more (round + 1) p) (stay (refuse n (give n round p).place).place) (λ m. m.place.round ≤ last_round)
    (λ on. let l : round < last_round = ltb-true round last_round on in enter_low n suspects more (round + 1) p (omega (arith, l)))
    (λ end. low))
    (λ f. low)

go_on_low : (n : ℕ) (suspects : ℕ → Bool) (p : Place) → p.round ≤ last_round → (go_on n suspects p).place.round ≤ last_round
go_on_low n suspects p low =
    cond_both (ltb p.round last_round) (enter n suspects n (p.round + 1) p) (stay p) (λ m. m.place.round ≤ last_round)
    (λ t. let l : p.round < last_round = ltb-true p.round last_round t in enter_low n suspects n (p.round + 1) p (omega (arith, l)))
    (λ f. low)

-- an input that a u64 can hold
abbrev pub IsLow : Input Act Say → Type 0
IsLow (Called act) = Unit {0}
IsLow (Took from (Estimates round held)) = Unit {0}
IsLow (Took from (Proposes round batch)) = round ≤ last_round
IsLow (Took from (Replies round agree)) = Unit {0}
IsLow (Took from (Moves_on round)) = Unit {0}
IsLow (Took from (Decides batch)) = Unit {0}

pub moves_low : (n : ℕ) (past : Turns) (x : Input Act Say) (p : Place) → p.round ≤ last_round → IsLow x → (moves n past x p).place.round ≤ last_round
moves_low n past (Called (Starts batch)) p low is =
    let from : Place = record { round = 0; held = record { stamp = 0; batch = batch }; replied = false } in
    cond_both (eqb p.round 0) (enter n (suspected past) n 1 from) (stay p) (λ m. m.place.round ≤ last_round) (λ t. enter_low n (suspected past) n 1 from (omega arith)) (λ f. low)
moves_low n past (Called (Suspects who)) p low is =
    cond_both (not (suspected past who) && (ltb 0 p.round && eqb who (coordinator n p.round)))
    (after (refuse n p).says (go_on n (suspected (Called (Suspects who) ∷ past)) (refuse n p).place)) (stay p) (λ m. m.place.round ≤ last_round)
    (λ t. go_on_low n (suspected (Called (Suspects who) ∷ past)) (refuse n p).place low) (λ f. low)
moves_low n past (Called (Trusts who)) p low is = low
moves_low n past (Took from (Estimates round held)) p low is = low
moves_low n past (Took from (Proposes round batch)) p low is =
    let there : Place = record { round = round; held = record { stamp = round; batch = batch }; replied = true } in
    cond_both (eqb from (coordinator n round) && awaits p round) (accept n (suspected past) round batch) (stay p) (λ m. m.place.round ≤ last_round)
    (λ t. cond_both (suspected past (coordinator n round)) (go_on n (suspected past) there) (stay there) (λ m. m.place.round ≤ last_round) (λ s. go_on_low n (suspected past) there is) (λ s. is))
    (λ f. low)
moves_low n past (Took from (Replies round agree)) p low is = low
moves_low n past (Took from (Moves_on round)) p low is =
    cond_both (eqb from (coordinator n round) && (ltb 0 round && eqb p.round round)) (go_on n (suspected past) p) (stay p) (λ m. m.place.round ≤ last_round) (λ t. go_on_low n (suspected past) p low) (λ f. low)
moves_low n past (Took from (Decides batch)) p low is = low

true_false : {C : Type 0} → true ≡ false → C
true_false e = absurd cc

-- A suspicion of another, or one that was there, leaves whether the coordinator is suspected.
pub suspicion_stays : (past : Turns) (who c : ℕ) (some : Bool) → (not (suspected past who) && (some && eqb who c)) ≡ false → some ≡ true
    → suspected (Called (Suspects who) ∷ past) c ≡ true → suspected past c ≡ true
suspicion_stays past who c some quiet is_some new =
    elim (or_cases (eqb who c) (suspected past c) new) [
      | inl same ↦
          let e : who ≡ c = eqb-true who c same in
          elim (cases_Bool (suspected past who)) [
            | inl was ↦ subst (λ w. suspected past w ≡ true) e was
            | inr was_not ↦ true_false (sym (ap (λ b. not b && (some && eqb who c)) was_not ∙ ap (λ b. b && eqb who c) is_some ∙ same) ∙ quiet)
          ]
      | inr old ↦ old
    ]

-- Wherever a member moves, it is settled there.
pub moves_settled : (n me : ℕ) (past : Turns) (x : Input Act Say) (p : Place) → me < n → suspected (x ∷ past) me ≡ false → p.round ≤ last_round → IsLow x
    → Settled n (suspected past) p → Settled n (suspected (x ∷ past)) (moves n past x p).place
moves_settled n me past (Called (Starts batch)) p fits not_me low is old =
    let from : Place = record { round = 0; held = record { stamp = 0; batch = batch }; replied = false } in
    cond_both (eqb p.round 0) (enter n (suspected past) n 1 from) (stay p) (λ m. Settled n (suspected past) m.place)
    (λ t. enter_settled n me (suspected past) 1 from fits not_me (omega arith) (omega arith)) (λ f. old)
moves_settled n me past (Called (Suspects who)) p fits not_me low is old =
    cond_both (not (suspected past who) && (ltb 0 p.round && eqb who (coordinator n p.round)))
    (after (refuse n p).says (go_on n (suspected (Called (Suspects who) ∷ past)) (refuse n p).place)) (stay p)
    (λ m. Settled n (suspected (Called (Suspects who) ∷ past)) m.place)
    (λ t. go_on_replied n me (suspected (Called (Suspects who) ∷ past)) (refuse n p).place fits not_me low refl)
    (λ f some new. old some (suspicion_stays past who (coordinator n p.round) (ltb 0 p.round) f (lt_is p.round some) new))
  where
    lt_is : (k : ℕ) → 0 < k → ltb 0 k ≡ true
    lt_is k some = elim (cases_Bool (ltb 0 k)) [ inl t ↦ t | inr f ↦ (let l : k ≤ 0 = ltb-false 0 k f in absurd (omega (arith, l, some))) ]
moves_settled n me past (Called (Trusts who)) p fits not_me low is old =
    λ some new. old some (and_parts (not (eqb who (coordinator n p.round))) (suspected past (coordinator n p.round)) new).1
moves_settled n me past (Took from (Estimates round held)) p fits not_me low is old = old
moves_settled n me past (Took from (Proposes round batch)) p fits not_me low is old =
    cond_both (eqb from (coordinator n round) && awaits p round) (accept n (suspected past) round batch) (stay p) (λ m. Settled n (suspected past) m.place)
    (λ t. accept_settled n me (suspected past) round batch fits not_me is) (λ f. old)
moves_settled n me past (Took from (Replies round agree)) p fits not_me low is old = old
moves_settled n me past (Took from (Moves_on round)) p fits not_me low is old =
    cond_both (eqb from (coordinator n round) && (ltb 0 round && eqb p.round round)) (go_on n (suspected past) p) (stay p) (λ m. Settled n (suspected past) m.place)
    (λ t. go_on_settled n me (suspected past) p fits not_me low (λ at. old)) (λ f. old)
moves_settled n me past (Took from (Decides batch)) p fits not_me low is old = old

-- who has refused in the last round stays there, and says nothing
stays_last : (n : ℕ) (suspects : ℕ → Bool) (p : Place) → p.round ≡ last_round → p.replied ≡ true → after (refuse n p).says (go_on n suspects (refuse n p).place) ≡ stay p
stays_last n suspects p at replied =
    let there : Place = record { round = last_round; held = p.held; replied = true } in
    let same : there ≡ p = (λ i. record { round = sym at i; held = p.held; replied = sym replied i }) in
    let alone : after (refuse n there).says (go_on n suspects (refuse n there).place) ≡ stay there = refl in
    subst (λ q. after (refuse n q).says (go_on n suspects (refuse n q).place) ≡ stay q) same alone

pub positive_is : (k : ℕ) → 0 < k → ltb 0 k ≡ true
positive_is k some = elim (cases_Bool (ltb 0 k)) [ inl t ↦ t | inr f ↦ (let l : k ≤ 0 = ltb-false 0 k f in absurd (omega (arith, l, some))) ]

-- A member whose coordinator is suspected after one more suspicion refuses and goes on: the suspicion is of that
-- coordinator, or it makes no difference.
pub suspicion_moves : (n : ℕ) (past : Turns) (who : ℕ) (p : Place) → Settled n (suspected past) p → 0 < p.round
    → suspected (Called (Suspects who) ∷ past) (coordinator n p.round) ≡ true
    → moves n past (Called (Suspects who)) p ≡ after (refuse n p).says (go_on n (suspected (Called (Suspects who) ∷ past)) (refuse n p).place)
suspicion_moves n past who p settled some new =
    let act : Move = after (refuse n p).says (go_on n (suspected (Called (Suspects who) ∷ past)) (refuse n p).place) in
    elim (cases_Bool (not (suspected past who) && (ltb 0 p.round && eqb who (coordinator n p.round)))) [
      | inl t ↦ cond-true (not (suspected past who) && (ltb 0 p.round && eqb who (coordinator n p.round))) act (stay p) t
      | inr f ↦
          let was : suspected past (coordinator n p.round) ≡ true = suspicion_stays past who (coordinator n p.round) (ltb 0 p.round) f (positive_is p.round some) new in
          let at : (p.round ≡ last_round) × (p.replied ≡ true) = settled some was in
          cond-false (not (suspected past who) && (ltb 0 p.round && eqb who (coordinator n p.round))) act (stay p) f
          ∙ sym (stays_last n (suspected (Called (Suspects who) ∷ past)) p at.0 at.1)
    ]
