use Rattle.std.proofs.Common.{ℕ, zero, suc, ◌+◌, ◌-◌, ◌*◌, ◌/◌, ◌%◌, ◌≡◌, ◌<◌, ◌≤◌, inl, inr, ltb, Bool, true, false, cond, refl, sym, ap, ◌∙◌, subst, arith}
use Rattle.std.proofs.lemmas.Bool.{cases_lt, cond_both, ltb-true, ltb-false}
use Rattle.std.proofs.lemmas.Nat.{mod-mul-add}
use Rattle.std.proofs.Math.Nat.{mod-add-div', mod-lt}
use Rattle.instance_rules.specs.declared.place.Place.{Place}
use Rattle.instance_rules.specs.Say.{Items, coordinator, last_round}
use Rattle.instance_rules.specs.Place.{stay, after, give, refuse, enter, go_on, accept}
use Rattle.ct_consensus.specs.Stance.{Settled}

-- Within n rounds each member coordinates one.
comes_round : (n me round : ℕ) → me < n → 1 ≤ round → (i : ℕ) × (i < n) × (coordinator n (round + i) ≡ me)
comes_round n me round fits some =
    let m : ℕ = (round - 1) % n in
    let q : ℕ = (round - 1) / n in
    let below : m < n = mod-lt (round - 1) (omega (arith, fits)) in
    let parts : m + q * n ≡ round - 1 = mod-add-div' (round - 1) n in
    elim (cases_lt me m) [
      | inl before ↦
          let i : ℕ = me + n - m in
          let is : (round + (me + n - m)) - 1 ≡ (q + 1) * n + me =
          (let more : (q + 1) * n ≡ q * n + n = omega arith in omega (arith, more, parts, before, below, some)) in
          (me + n - m, omega (arith, before, below), ap (λ k. k % n) is ∙ mod-mul-add (q + 1) n me fits)
      | inr from ↦
          let is : (round + (me - m)) - 1 ≡ q * n + me = omega (arith, parts, from, some) in
          (me - m, omega (arith, fits), ap (λ k. k % n) is ∙ mod-mul-add q n me fits)
    ]

gives_settled : (n : ℕ) (suspects : ℕ → Bool) (round : ℕ) (p : Place) → suspects (coordinator n round) ≡ false → Settled n suspects (give n round p).place
gives_settled n suspects round p clear = λ some is. absurd (true_false (sym is ∙ clear))
  where
    true_false : true ≡ false → ⊥
    true_false e = cc

-- A member that enters rounds comes to one whose coordinator it does not suspect, or to the last.
enters_settled : (n : ℕ) (suspects : ℕ → Bool) (more round : ℕ) (p : Place) (i : ℕ) → i < more → suspects (coordinator n (round + i)) ≡ false → 1 ≤ round → round ≤ last_round
    → Settled n suspects (enter n suspects more round p).place
enters_settled n suspects zero round p i lt clear some last = absurd (omega (arith, lt))
enters_settled n suspects (suc more) round p zero lt clear some last =
    let here : suspects (coordinator n round) ≡ false = subst (λ r. suspects (coordinator n r) ≡ false) (omega arith) clear in
    cond_both (suspects (coordinator n round))
    (after (give n round p).says (after (refuse n (give n round p).place).says (cond (ltb round last_round) (enter n suspects more (round + 1) p) (stay (refuse n (give n round p).place).place))))
    (give n round p)
    (λ m. Settled n suspects m.place)
    (λ t. absurd (true_false (sym t ∙ here)))
    (λ f. gives_settled n suspects round p here)
  where
    true_false : true ≡ false → ⊥
    true_false e = cc
enters_settled n suspects (suc more) round p (suc i) lt clear some last =
    let next : suspects (coordinator n ((round + 1) + i)) ≡ false = subst (λ r. suspects (coordinator n r) ≡ false) (omega arith) clear in
    cond_both (suspects (coordinator n round))
    (after (give n round p).says (after (refuse n (give n round p).place).says (cond (ltb round last_round) (enter n suspects more (round + 1) p) (stay (refuse n (give n round p).place).place))))
    (give n round p)
    (λ m. Settled n suspects m.place)
    (λ t. cond_both (ltb round last_round) (enter n suspects more (round + 1) p) (stay (refuse n (give n round p).place).place) (λ m. Settled n suspects m.place)
    (λ on. let l : round < last_round = ltb-true round last_round on in
    enters_settled n suspects more (round + 1) p i (omega (arith, lt)) next (omega arith) (omega (arith, l)))
    (λ end. λ in_round is. (let l : last_round ≤ round = ltb-false round last_round end in omega (arith, l, last), refl)))
    (λ f. gives_settled n suspects round p f)

pub enter_settled : (n me : ℕ) (suspects : ℕ → Bool) (round : ℕ) (p : Place) → me < n → suspects me ≡ false → 1 ≤ round → round ≤ last_round
    → Settled n suspects (enter n suspects n round p).place
enter_settled n me suspects round p fits not_me some last =
    let turn : (i : ℕ) × (i < n) × (coordinator n (round + i) ≡ me) = comes_round n me round fits some in
    enters_settled n suspects n round p turn.0 turn.1 (ap suspects turn.2 ∙ not_me) some last

pub go_on_settled : (n me : ℕ) (suspects : ℕ → Bool) (p : Place) → me < n → suspects me ≡ false → p.round ≤ last_round → (p.round ≡ last_round → Settled n suspects p)
    → Settled n suspects (go_on n suspects p).place
go_on_settled n me suspects p fits not_me last at_last =
    cond_both (ltb p.round last_round) (enter n suspects n (p.round + 1) p) (stay p) (λ m. Settled n suspects m.place)
    (λ t. let l : p.round < last_round = ltb-true p.round last_round t in enter_settled n me suspects (p.round + 1) p fits not_me (omega arith) (omega (arith, l)))
    (λ f. let l : last_round ≤ p.round = ltb-false p.round last_round f in at_last (omega (arith, l, last)))

-- one that has replied may stay in the last round
pub go_on_replied : (n me : ℕ) (suspects : ℕ → Bool) (p : Place) → me < n → suspects me ≡ false → p.round ≤ last_round → p.replied ≡ true
    → Settled n suspects (go_on n suspects p).place
go_on_replied n me suspects p fits not_me last replied = go_on_settled n me suspects p fits not_me last (λ at some is. (at, replied))

pub accept_settled : (n me : ℕ) (suspects : ℕ → Bool) (round : ℕ) (batch : Items) → me < n → suspects me ≡ false → round ≤ last_round
    → Settled n suspects (accept n suspects round batch).place
accept_settled n me suspects round batch fits not_me last =
    let there : Place = record { round = round; held = record { stamp = round; batch = batch }; replied = true } in
    cond_both (suspects (coordinator n round)) (go_on n suspects there) (stay there) (λ m. Settled n suspects m.place)
    (λ t. go_on_replied n me suspects there fits not_me last refl)
    (λ f some is. absurd (true_false (sym is ∙ f)))
  where
    true_false : true ≡ false → ⊥
    true_false e = cc
