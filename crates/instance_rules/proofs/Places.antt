use Rattle.std.proofs.Common.{ℕ, zero, suc, ◌+◌, ◌≡◌, ◌<◌, ◌≤◌, ◌⊎◌, inl, inr, eqb, ltb, Bool, true, false, cond, not, List, [], ◌∷◌, ◌++◌, refl, sym, ap, ◌∙◌, subst, arith, ◌||◌, ◌&&◌}
use Rattle.std.specs.List.{Contains, All}
use Rattle.std.specs.Option.{is_some}
use Rattle.std.proofs.lemmas.Bool.{cond_both, eqb-true, ltb-true, and_parts, or_cases}
use Rattle.std.proofs.lemmas.List.Elements.{Contains-append_left, Contains-append_right, Contains-push, All-nil, All-cons, All-append, All-weaker}
use Rattle.fifo_net.specs.Net.{Input, Called, Took, taken}
use Rattle.instance_rules.specs.Say.{Items, Estimate, Act, Starts, Suspects, Trusts, Say, Estimates, Proposes, Replies, Moves_on, Decides, Turns, coordinator, last_round}
use Rattle.instance_rules.specs.History.{suspected, decided}
use Rattle.instance_rules.specs.Place.{Place, Move, stay, after, give, refuse, enter, go_on, accept, awaits, moves, place}
use Rattle.instance_rules.proofs.Votes.{was_taken, just_taken}

-- the batches that a member was started with
abbrev pub starts_at : Input Act Say → List Items
starts_at (Called (Starts batch)) = batch ∷ []
starts_at (Called (Suspects who)) = []
starts_at (Called (Trusts who)) = []
starts_at (Took from say) = []

abbrev pub started : Turns → List Items
started [] = []
started (x ∷ past) = starts_at x ++ started past

-- An estimate is one that the member was started with, or it was proposed to it in the round of its stamp.
abbrev pub Origin : ℕ → Turns → Estimate → Type 0
Origin n turns held =
    ((held.stamp ≡ 0) × Contains (started turns) held.batch)
    ⊎ ((1 ≤ held.stamp) × Contains (taken (coordinator n held.stamp) turns) (Proposes held.stamp held.batch))

pub Origin_more : (n : ℕ) (x : Input Act Say) (past : Turns) (held : Estimate) → Origin n past held → Origin n (x ∷ past) held
Origin_more n x past held (inl a) = inl (a.0, later x past held.batch a.1)
  where
    later : (x : Input Act Say) (past : Turns) (b : Items) → Contains (started past) b → Contains (started (x ∷ past)) b
    later (Called (Starts batch)) past b h = Contains-append_right (batch ∷ []) (started past) b h
    later (Called (Suspects who)) past b h = h
    later (Called (Trusts who)) past b h = h
    later (Took from say) past b h = h
Origin_more n x past held (inr b) = inr (b.0, was_taken (coordinator n held.stamp) x past (Proposes held.stamp held.batch) b.1)

-- what may be said between two places
abbrev pub SayOk : Place → Place → Say → Type 0
SayOk p q (Estimates round held) = (held ≡ q.held) × (round ≤ q.round) × (q.held.stamp < round)
SayOk p q (Proposes round batch) = ⊥
SayOk p q (Replies round true) = (p.round ≤ round) × (round ≤ q.held.stamp)
SayOk p q (Replies round false) = Unit {0}
SayOk p q (Moves_on round) = ⊥
SayOk p q (Decides batch) = ⊥

pub record MoveOk (p : Place) (m : Move) : Type 0 where
  pub rises : p.round ≤ m.place.round
  pub older : p.held.stamp ≤ m.place.held.stamp
  pub behind : m.place.held.stamp ≤ m.place.round
  pub says : All (λ y. SayOk p m.place y.1) m.says

-- without a yes
abbrev pub EnterSay : Place → Place → Say → Type 0
EnterSay p q (Estimates round held) = (held ≡ p.held) × (round ≤ q.round) × (p.held.stamp < round)
EnterSay p q (Proposes round batch) = ⊥
EnterSay p q (Replies round true) = ⊥
EnterSay p q (Replies round false) = Unit {0}
EnterSay p q (Moves_on round) = ⊥
EnterSay p q (Decides batch) = ⊥

pub record EnterOk (p : Place) (round : ℕ) (m : Move) : Type 0 where
  pub held_is : m.place.held ≡ p.held
  pub from : round ≤ m.place.round
  pub says : All (λ y. EnterSay p m.place y.1) m.says

enter_weaker : (p q : Place) (y : ℕ × Say) → EnterSay p q y.1 → EnterSay p q y.1
enter_weaker p q y h = h

gives : (n round : ℕ) (p : Place) → p.held.stamp < round → EnterOk p round (give n round p)
gives n round p lt = record {
  held_is = refl;
  from = omega arith;
  says = All-cons (λ y. EnterSay p (give n round p).place y.1) (coordinator n round, Estimates round p.held) [] (refl, omega arith, lt) (All-nil (λ y. EnterSay p (give n round p).place y.1));
}

first_two : (n round : ℕ) (p : Place) (m : Move) → p.held.stamp < round → EnterOk p round m
    → EnterOk p round (after ((coordinator n round, Estimates round p.held) ∷ []) (after ((coordinator n round, Replies round false) ∷ []) m))
first_two n round p m lt ok = record {
  held_is = ok.held_is;
  from = ok.from;
  says = All-cons (λ y. EnterSay p m.place y.1) (coordinator n round, Estimates round p.held) ((coordinator n round, Replies round false) ∷ m.says) (refl, ok.from, lt)
      (All-cons (λ y. EnterSay p m.place y.1) (coordinator n round, Replies round false) m.says tt ok.says);
}

pub enters : (n : ℕ) (suspects : ℕ → Bool) (more round : ℕ) (p : Place) → p.held.stamp < round → EnterOk p round (enter n suspects more round p)
enters n suspects zero round p lt = gives n round p lt
enters n suspects (suc more) round p lt =
    let on : EnterOk p round (enter n suspects more (round + 1) p) =
    (let next : EnterOk p (round + 1) (enter n suspects more (round + 1) p) = enters n suspects more (round + 1) p (omega arith) in
    record { held_is = next.held_is; from = (let l : round + 1 ≤ (enter n suspects more (round + 1) p).place.round = next.from in omega arith); says = next.says }) in
    let stays : EnterOk p round (stay (refuse n (give n round p).place).place) =
    record { held_is = refl; from = omega arith; says = All-nil (λ y. EnterSay p (refuse n (give n round p).place).place y.1) } in
    cond_both (suspects (coordinator n round))
    (after (give n round p).says (after (refuse n (give n round p).place).says (cond (ltb round last_round) (enter n suspects more (round + 1) p) (stay (refuse n (give n round p).place).place))))
    (give n round p)
    (EnterOk p round)
    (λ t. first_two n round p (cond (ltb round last_round) (enter n suspects more (round + 1) p) (stay (refuse n (give n round p).place).place)) lt
    (cond_both (ltb round last_round) (enter n suspects more (round + 1) p) (stay (refuse n (give n round p).place).place) (EnterOk p round) (λ e. on) (λ e. stays)))
    (λ t. gives n round p lt)

stays_ok : (p : Place) → p.held.stamp ≤ p.round → MoveOk p (stay p)
stays_ok p le = record { rises = omega arith; older = omega arith; behind = le; says = All-nil (λ y. SayOk p p y.1) }

-- a say on entering is one that may be said
as_say : (p q : Place) → q.held ≡ p.held → (y : Say) → EnterSay p q y → SayOk p q y
as_say p q e (Estimates round held) h = (h.0 ∙ sym e, h.1, subst (λ k. k.stamp < round) (sym e) h.2)
as_say p q e (Proposes round batch) h = h
as_say p q e (Replies round true) h = absurd h
as_say p q e (Replies round false) h = tt
as_say p q e (Moves_on round) h = h
as_say p q e (Decides batch) h = h

entered_ok : (p : Place) (round : ℕ) (m : Move) → p.held.stamp < round → p.round ≤ round → EnterOk p round m → MoveOk p m
entered_ok p round m lt le ok =
    let same : m.place.held.stamp ≡ p.held.stamp = ap (λ h. h.stamp) ok.held_is in
    let from : round ≤ m.place.round = ok.from in
    record {
      rises = omega arith;
      older = omega arith;
      behind = omega arith;
      says = All-weaker (λ y. EnterSay p m.place y.1) (λ y. SayOk p m.place y.1) (λ y h. as_say p m.place ok.held_is y.1 h) m.says ok.says;
    }

-- To go on is to enter a later round or to stay.
pub record GoOk (p : Place) (m : Move) : Type 0 where
  pub held_is : m.place.held ≡ p.held
  pub from : p.round ≤ m.place.round
  pub says : All (λ y. EnterSay p m.place y.1) m.says

goes_on : (n : ℕ) (suspects : ℕ → Bool) (p : Place) → p.held.stamp ≤ p.round → GoOk p (go_on n suspects p)
goes_on n suspects p le =
    cond_both (ltb p.round last_round) (enter n suspects n (p.round + 1) p) (stay p) (GoOk p)
    (λ t. let ok : EnterOk p (p.round + 1) (enter n suspects n (p.round + 1) p) = enters n suspects n (p.round + 1) p (omega arith) in
    record { held_is = ok.held_is; from = (let l : p.round + 1 ≤ (enter n suspects n (p.round + 1) p).place.round = ok.from in omega arith); says = ok.says })
    (λ t. record { held_is = refl; from = omega arith; says = All-nil (λ y. EnterSay p p y.1) })

go_ok : (p : Place) (m : Move) → p.held.stamp ≤ p.round → GoOk p m → MoveOk p m
go_ok p m le ok =
    let same : m.place.held.stamp ≡ p.held.stamp = ap (λ h. h.stamp) ok.held_is in
    let from : p.round ≤ m.place.round = ok.from in
    record {
      rises = from;
      older = omega arith;
      behind = omega arith;
      says = All-weaker (λ y. EnterSay p m.place y.1) (λ y. SayOk p m.place y.1) (λ y h. as_say p m.place ok.held_is y.1 h) m.says ok.says;
    }

-- the place after a refusal differs in that alone
refused : (n : ℕ) (p : Place) (m : Move) → p.held.stamp ≤ p.round → GoOk (refuse n p).place m → MoveOk p (after (refuse n p).says m)
refused n p m le ok =
    let plain : MoveOk (refuse n p).place m = go_ok (refuse n p).place m le ok in
    let old : All (λ y. SayOk p m.place y.1) m.says = plain.says in
    let one : All (λ y. SayOk p m.place y.1) (refuse n p).says =
    cond_both p.replied [] ((coordinator n p.round, Replies p.round false) ∷ []) (All (λ y. SayOk p m.place y.1))
    (λ t. All-nil (λ y. SayOk p m.place y.1))
    (λ t. All-cons (λ y. SayOk p m.place y.1) (coordinator n p.round, Replies p.round false) [] tt (All-nil (λ y. SayOk p m.place y.1))) in
    record { rises = plain.rises; older = plain.older; behind = plain.behind; says = All-append (λ y. SayOk p m.place y.1) (refuse n p).says m.says one old }

accepts_ok : (n : ℕ) (suspects : ℕ → Bool) (round : ℕ) (batch : Items) (p : Place) → p.held.stamp ≤ p.round → p.round ≤ round → MoveOk p (accept n suspects round batch)
accepts_ok n suspects round batch p le late =
    let there : Place = record { round = round; held = record { stamp = round; batch = batch }; replied = true } in
    let rest : MoveOk there (cond (suspects (coordinator n round)) (go_on n suspects there) (stay there)) =
    cond_both (suspects (coordinator n round)) (go_on n suspects there) (stay there) (MoveOk there)
    (λ t. go_ok there (go_on n suspects there) (omega arith) (goes_on n suspects there (omega arith)))
    (λ t. stays_ok there (omega arith)) in
    yes_first n round p there (cond (suspects (coordinator n round)) (go_on n suspects there) (stay there)) late (omega arith) refl refl rest
  where
    more_says : (p there q : Place) → p.round ≤ there.round → (y : Say) → SayOk there q y → SayOk p q y
    more_says p there q le (Estimates round held) h = h
    more_says p there q le (Proposes round batch) h = h
    more_says p there q le (Replies round true) h = let l : there.round ≤ round = h.0 in (omega arith, h.1)
    more_says p there q le (Replies round false) h = tt
    more_says p there q le (Moves_on round) h = h
    more_says p there q le (Decides batch) h = h

    yes_first : (n round : ℕ) (p there : Place) (m : Move) → p.round ≤ round → p.held.stamp ≤ round → there.round ≡ round → there.held.stamp ≡ round → MoveOk there m
        → MoveOk p (after ((coordinator n round, Replies round true) ∷ []) m)
    yes_first n round p there m late low is stamp_is ok =
        let a : there.round ≤ m.place.round = ok.rises in
        let b : there.held.stamp ≤ m.place.held.stamp = ok.older in
        record {
          rises = omega arith;
          older = omega arith;
          behind = ok.behind;
          says = All-cons (λ y. SayOk p m.place y.1) (coordinator n round, Replies round true) m.says (late, omega arith)
              (All-weaker (λ y. SayOk there m.place y.1) (λ y. SayOk p m.place y.1) (λ y h. more_says p there m.place (omega arith) y.1 h) m.says ok.says);
        }

awaits_late : (p : Place) (round : ℕ) → awaits p round ≡ true → (1 ≤ round) × (p.round ≤ round)
awaits_late p round e =
    let h : (ltb 0 round ≡ true) × ((ltb p.round round || (eqb p.round round && not p.replied)) ≡ true) = and_parts (ltb 0 round) (ltb p.round round || (eqb p.round round && not p.replied)) e in
    let some : 0 < round = ltb-true 0 round h.0 in
    elim (or_cases (ltb p.round round) (eqb p.round round && not p.replied) h.1) [
      | inl lt ↦ let l : p.round < round = ltb-true p.round round lt in (omega arith, omega arith)
      | inr at ↦
          let s : (eqb p.round round ≡ true) × (not p.replied ≡ true) = and_parts (eqb p.round round) (not p.replied) at in
          let l : p.round ≡ round = eqb-true p.round round s.0 in
          (omega arith, omega arith)
    ]

pub moves_ok : (n : ℕ) (past : Turns) (x : Input Act Say) (p : Place) → p.held.stamp ≤ p.round → MoveOk p (moves n past x p)
moves_ok n past (Called (Starts batch)) p le =
    let there : Place = record { round = 0; held = record { stamp = 0; batch = batch }; replied = false } in
    cond_both (eqb p.round 0) (enter n (suspected past) n 1 there) (stay p) (MoveOk p)
    (λ t. let zero_is : p.round ≡ 0 = eqb-true p.round 0 t in
    let ok : MoveOk there (enter n (suspected past) n 1 there) = entered_ok there 1 (enter n (suspected past) n 1 there) (omega arith) (omega arith) (enters n (suspected past) n 1 there (omega arith)) in
    from_start p there (enter n (suspected past) n 1 there) zero_is le refl ok)
    (λ t. stays_ok p le)
  where
    from_start : (p there : Place) (m : Move) → p.round ≡ 0 → p.held.stamp ≤ p.round → there.round ≡ 0 → MoveOk there m → MoveOk p m
    from_start p there m at_zero le at_zero_too ok =
        record {
          rises = omega arith;
          older = omega arith;
          behind = ok.behind;
          says = All-weaker (λ y. SayOk there m.place y.1) (λ y. SayOk p m.place y.1) (λ y h. same p there m.place (omega arith) y.1 h) m.says ok.says;
        }
      where
        same : (p there q : Place) → p.round ≤ there.round → (y : Say) → SayOk there q y → SayOk p q y
        same p there q le (Estimates round held) h = h
        same p there q le (Proposes round batch) h = h
        same p there q le (Replies round true) h = let l : there.round ≤ round = h.0 in (omega arith, h.1)
        same p there q le (Replies round false) h = tt
        same p there q le (Moves_on round) h = h
        same p there q le (Decides batch) h = h
moves_ok n past (Called (Suspects who)) p le =
    cond_both (not (suspected past who) && (ltb 0 p.round && eqb who (coordinator n p.round)))
    (after (refuse n p).says (go_on n (suspected (Called (Suspects who) ∷ past)) (refuse n p).place)) (stay p) (MoveOk p)
    (λ t. refused n p (go_on n (suspected (Called (Suspects who) ∷ past)) (refuse n p).place) le (goes_on n (suspected (Called (Suspects who) ∷ past)) (refuse n p).place le))
    (λ t. stays_ok p le)
moves_ok n past (Called (Trusts who)) p le = stays_ok p le
moves_ok n past (Took from (Estimates round held)) p le = stays_ok p le
moves_ok n past (Took from (Proposes round batch)) p le =
    cond_both (eqb from (coordinator n round) && awaits p round) (accept n (suspected past) round batch) (stay p) (MoveOk p)
    (λ t. let w : (eqb from (coordinator n round) ≡ true) × (awaits p round ≡ true) = and_parts (eqb from (coordinator n round)) (awaits p round) t in
    let l : (1 ≤ round) × (p.round ≤ round) = awaits_late p round w.1 in
    accepts_ok n (suspected past) round batch p le l.1)
    (λ t. stays_ok p le)
moves_ok n past (Took from (Replies round agree)) p le = stays_ok p le
moves_ok n past (Took from (Moves_on round)) p le =
    cond_both (eqb from (coordinator n round) && (ltb 0 round && eqb p.round round)) (go_on n (suspected past) p) (stay p) (MoveOk p)
    (λ t. go_ok p (go_on n (suspected past) p) le (goes_on n (suspected past) p le))
    (λ t. stays_ok p le)
moves_ok n past (Took from (Decides batch)) p le = stays_ok p le

accept_held : (n : ℕ) (suspects : ℕ → Bool) (round : ℕ) (batch : Items) → (accept n suspects round batch).place.held ≡ record { stamp = round; batch = batch }
accept_held n suspects round batch =
    let there : Place = record { round = round; held = record { stamp = round; batch = batch }; replied = true } in
    cond_both (suspects (coordinator n round)) (go_on n suspects there) (stay there) (λ m. m.place.held ≡ there.held)
    (λ t. (goes_on n suspects there (omega arith)).held_is)
    (λ t. refl)

-- where a member comes to, its estimate has an origin
pub moves_origin : (n : ℕ) (past : Turns) (x : Input Act Say) (p : Place) → p.held.stamp ≤ p.round → (1 ≤ p.round → Origin n past p.held)
    → 1 ≤ (moves n past x p).place.round → Origin n (x ∷ past) (moves n past x p).place.held
moves_origin n past (Called (Starts batch)) p le old =
    let there : Place = record { round = 0; held = record { stamp = 0; batch = batch }; replied = false } in
    cond_both (eqb p.round 0) (enter n (suspected past) n 1 there) (stay p) (λ m. 1 ≤ m.place.round → Origin n (Called (Starts batch) ∷ past) m.place.held)
    (λ t in_round. let ok : EnterOk there 1 (enter n (suspected past) n 1 there) = enters n (suspected past) n 1 there (omega arith) in
    subst (Origin n (Called (Starts batch) ∷ past)) (sym ok.held_is) (inl (refl, Contains-append_left (batch ∷ []) (started past) batch (Contains-push [] batch))))
    (λ t in_round. Origin_more n (Called (Starts batch)) past p.held (old in_round))
moves_origin n past (Called (Suspects who)) p le old =
    cond_both (not (suspected past who) && (ltb 0 p.round && eqb who (coordinator n p.round)))
    (after (refuse n p).says (go_on n (suspected (Called (Suspects who) ∷ past)) (refuse n p).place)) (stay p)
    (λ m. 1 ≤ m.place.round → Origin n (Called (Suspects who) ∷ past) m.place.held)
    (λ t in_round.
    let w : (not (suspected past who) ≡ true) × ((ltb 0 p.round && eqb who (coordinator n p.round)) ≡ true) = and_parts (not (suspected past who)) (ltb 0 p.round && eqb who (coordinator n p.round)) t in
    let v : (ltb 0 p.round ≡ true) × (eqb who (coordinator n p.round) ≡ true) = and_parts (ltb 0 p.round) (eqb who (coordinator n p.round)) w.1 in
    let some : 0 < p.round = ltb-true 0 p.round v.0 in
    subst (Origin n (Called (Suspects who) ∷ past)) (sym (goes_on n (suspected (Called (Suspects who) ∷ past)) (refuse n p).place le).held_is)
    (Origin_more n (Called (Suspects who)) past p.held (old (omega arith))))
    (λ t in_round. Origin_more n (Called (Suspects who)) past p.held (old in_round))
moves_origin n past (Called (Trusts who)) p le old = λ r. Origin_more n (Called (Trusts who)) past p.held (old r)
moves_origin n past (Took from (Estimates round held)) p le old = λ r. Origin_more n (Took from (Estimates round held)) past p.held (old r)
moves_origin n past (Took from (Proposes round batch)) p le old =
    cond_both (eqb from (coordinator n round) && awaits p round) (accept n (suspected past) round batch) (stay p)
    (λ m. 1 ≤ m.place.round → Origin n (Took from (Proposes round batch) ∷ past) m.place.held)
    (λ t in_round.
    let w : (eqb from (coordinator n round) ≡ true) × (awaits p round ≡ true) = and_parts (eqb from (coordinator n round)) (awaits p round) t in
    let l : (1 ≤ round) × (p.round ≤ round) = awaits_late p round w.1 in
    subst (Origin n (Took from (Proposes round batch) ∷ past)) (sym (accept_held n (suspected past) round batch))
    (inr (l.0, just_taken from (coordinator n round) (Proposes round batch) past (eqb-true from (coordinator n round) w.0))))
    (λ t in_round. Origin_more n (Took from (Proposes round batch)) past p.held (old in_round))
moves_origin n past (Took from (Replies round agree)) p le old = λ r. Origin_more n (Took from (Replies round agree)) past p.held (old r)
moves_origin n past (Took from (Moves_on round)) p le old =
    cond_both (eqb from (coordinator n round) && (ltb 0 round && eqb p.round round)) (go_on n (suspected past) p) (stay p)
    (λ m. 1 ≤ m.place.round → Origin n (Took from (Moves_on round) ∷ past) m.place.held)
    (λ t in_round.
    let w : (eqb from (coordinator n round) ≡ true) × ((ltb 0 round && eqb p.round round) ≡ true) = and_parts (eqb from (coordinator n round)) (ltb 0 round && eqb p.round round) t in
    let v : (ltb 0 round ≡ true) × (eqb p.round round ≡ true) = and_parts (ltb 0 round) (eqb p.round round) w.1 in
    let some : 0 < round = ltb-true 0 round v.0 in
    let same : p.round ≡ round = eqb-true p.round round v.1 in
    subst (Origin n (Took from (Moves_on round) ∷ past)) (sym (goes_on n (suspected past) p le).held_is)
    (Origin_more n (Took from (Moves_on round)) past p.held (old (omega arith))))
    (λ t in_round. Origin_more n (Took from (Moves_on round)) past p.held (old in_round))
moves_origin n past (Took from (Decides batch)) p le old = λ r. Origin_more n (Took from (Decides batch)) past p.held (old r)

-- the place after any inputs
pub record PlaceOk (n : ℕ) (turns : Turns) : Type 0 where
  pub behind : (place n turns).held.stamp ≤ (place n turns).round
  pub origin : 1 ≤ (place n turns).round → Origin n turns (place n turns).held

pub place_ok : (n : ℕ) (turns : Turns) → PlaceOk n turns
place_ok n [] = record { behind = omega arith; origin = λ r. absurd (omega arith) }
place_ok n (x ∷ past) =
    let old : PlaceOk n past = place_ok n past in
    record {
      behind = cond_both (is_some (decided past)) (place n past) (moves n past x (place n past)).place (λ q. q.held.stamp ≤ q.round)
          (λ t. old.behind)
          (λ t. (moves_ok n past x (place n past) old.behind).behind);
      origin = cond_both (is_some (decided past)) (place n past) (moves n past x (place n past)).place (λ q. 1 ≤ q.round → Origin n (x ∷ past) q.held)
          (λ t r. Origin_more n x past (place n past).held (old.origin r))
          (λ t r. moves_origin n past x (place n past) old.behind old.origin r);
    }
