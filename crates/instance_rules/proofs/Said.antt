use Rattle.std.proofs.Common.{ℕ, zero, suc, ◌≡◌, ◌<◌, ◌≤◌, ◌⊎◌, inl, inr, eqb, ltb, Bool, true, false, cond, List, [], ◌∷◌, ◌++◌, Option, Some, None, refl, sym, ap, ◌∙◌, subst, arith}
use Rattle.std.specs.List.{Contains, All}
use Rattle.std.specs.Option.{is_some}
use Rattle.std.proofs.lemmas.Bool.{cases_Bool, cond_both, eqb-true, cond-true, and_parts}
use Rattle.std.proofs.lemmas.List.Elements.{Contains-append_left, Contains-append_right, Contains-append_cases, Contains-push, All-nil, All-cons, All-append, All-weaker, All-contains}
use Rattle.fifo_net.specs.Net.{Input, Called, Took, taken, sent, bodies_to}
use Rattle.instance_rules.specs.Say.{Items, Estimate, Act, Say, Estimates, Proposes, Replies, Moves_on, Decides, Turns, coordinator}
use Rattle.instance_rules.specs.History.{decides, decided, or_else}
use Rattle.instance_rules.specs.Ballot.{proposal, verdict}
use Rattle.instance_rules.specs.Place.{Place, Move, moves, place}
use Rattle.instance_rules.specs.Says.{to_each, coordinates, made, propose, conclude, leads, has_led, passes_on, answers, says}
use Rattle.instance_rules.proofs.Votes.{one, none, Some-is, was_taken, just_taken, proposal_stays}
use Rattle.instance_rules.proofs.Places.{Origin, Origin_more, SayOk, MoveOk, moves_ok, place_ok}

-- all that a member has said, and to whom, oldest first
abbrev pub said : ℕ → ℕ → Turns → List (ℕ × Say)
said n me [] = []
said n me (x ∷ past) = said n me past ++ says n me (x ∷ past)

pub bodies_among : {B : Type 0} (to : ℕ) (ps : List (ℕ × B)) (y : B) → Contains (bodies_to to ps) y → Contains ps (to, y)
bodies_among to [] y h = none y h
bodies_among to (p ∷ ps) y h =
    cond_both (eqb p.0 to) (p.1 ∷ bodies_to to ps) (bodies_to to ps) (λ l. Contains l y → Contains (p ∷ ps) (to, y))
    (λ t g. elim (Contains-append_cases (p.1 ∷ []) (bodies_to to ps) y g) [
      | inl here ↦
          let same : p ≡ (to, y) = (λ i. (eqb-true p.0 to t i, one p.1 y here i)) in
          subst (λ z. Contains (p ∷ ps) z) same (Contains-append_left (p ∷ []) ps p (Contains-push [] p))
      | inr there ↦ Contains-append_right (p ∷ []) ps (to, y) (bodies_among to ps y there)
    ])
    (λ t g. Contains-append_right (p ∷ []) ps (to, y) (bodies_among to ps y g))
    h

-- what was sent was said
pub sent_said : (n me to : ℕ) (turns : Turns) (y : Say) → Contains (sent (says n) me to turns) y → Contains (said n me turns) (to, y)
sent_said n me to [] y h = none y h
sent_said n me to (x ∷ past) y h =
    elim (Contains-append_cases (sent (says n) me to past) (bodies_to to (says n me (x ∷ past))) y h) [
      | inl old ↦ Contains-append_left (said n me past) (says n me (x ∷ past)) (to, y) (sent_said n me to past y old)
      | inr new ↦ Contains-append_right (said n me past) (says n me (x ∷ past)) (to, y) (bodies_among to (says n me (x ∷ past)) y new)
    ]

-- What may be said at one input.
abbrev pub Led : ℕ → ℕ → Turns → Items → Type 0
Led n me turns batch = (r : ℕ) × (me ≡ coordinator n r) × (proposal n r turns ≡ Some batch) × (verdict n r turns ≡ Some true)

abbrev pub NewSay : ℕ → ℕ → Turns → Input Act Say → Say → Type 0
NewSay n me past x (Estimates round held) = SayOk (place n past) (place n (x ∷ past)) (Estimates round held)
NewSay n me past x (Proposes round batch) = (me ≡ coordinator n round) × (proposal n round (x ∷ past) ≡ Some batch)
NewSay n me past x (Replies round agree) = SayOk (place n past) (place n (x ∷ past)) (Replies round agree)
NewSay n me past x (Moves_on round) = Unit {0}
NewSay n me past x (Decides batch) = ((from : ℕ) × (x ≡ Took from (Decides batch))) ⊎ Led n me (x ∷ past) batch

to_each_is : (P : ℕ × Say → Type 0) (n : ℕ) (y : Say) → ((to : ℕ) → P (to, y)) → All P (to_each n y)
to_each_is P zero y h = All-nil P
to_each_is P (suc n) y h = All-append P (to_each n y) ((n, y) ∷ []) (to_each_is P n y h) (All-cons P (n, y) [] (h n) (All-nil P))

made_is : {A : Type 0} (before now : Option A) (x : A) → made before now ≡ Some x → now ≡ Some x
made_is (Some y) now x e = absurd cc
made_is None now x e = e

proposes_new : (n me : ℕ) (past : Turns) (x : Input Act Say) (round : ℕ) (o : Option Items) → me ≡ coordinator n round → ((b : Items) → o ≡ Some b → proposal n round (x ∷ past) ≡ Some b)
    → All (λ p. NewSay n me past x p.1) (propose n round o)
proposes_new n me past x round None at h = All-nil (λ p. NewSay n me past x p.1)
proposes_new n me past x round (Some b) at h = to_each_is (λ p. NewSay n me past x p.1) n (Proposes round b) (λ to. (at, h b refl))

concludes_new : (n me : ℕ) (past : Turns) (x : Input Act Say) (round : ℕ) (v : Option Bool) (o : Option Items) → me ≡ coordinator n round
    → ((a : Bool) → v ≡ Some a → verdict n round (x ∷ past) ≡ Some a) → ((b : Items) → o ≡ Some b → proposal n round (x ∷ past) ≡ Some b)
    → All (λ p. NewSay n me past x p.1) (conclude n round v o)
concludes_new n me past x round None o at hv ho = All-nil (λ p. NewSay n me past x p.1)
concludes_new n me past x round (Some true) None at hv ho = All-nil (λ p. NewSay n me past x p.1)
concludes_new n me past x round (Some false) None at hv ho = All-nil (λ p. NewSay n me past x p.1)
concludes_new n me past x round (Some true) (Some b) at hv ho =
    to_each_is (λ p. NewSay n me past x p.1) n (Decides b) (λ to. inr (round, at, ho b refl, hv true refl))
concludes_new n me past x round (Some false) (Some b) at hv ho = to_each_is (λ p. NewSay n me past x p.1) n (Moves_on round) (λ to. tt)

coordinates_is : (n me round : ℕ) → coordinates n me round ≡ true → me ≡ coordinator n round
coordinates_is n me round t = eqb-true me (coordinator n round) (and_parts (ltb 0 round) (eqb me (coordinator n round)) t).1

leads_new : (n me : ℕ) (past : Turns) (from : ℕ) (say : Say) → All (λ p. NewSay n me past (Took from say) p.1) (leads n me past from say)
leads_new n me past from (Estimates round held) =
    let x : Input Act Say = Took from (Estimates round held) in
    cond_both (coordinates n me round) (propose n round (made (proposal n round past) (proposal n round (x ∷ past)))) [] (All (λ p. NewSay n me past x p.1))
    (λ t. proposes_new n me past x round (made (proposal n round past) (proposal n round (x ∷ past))) (coordinates_is n me round t)
    (λ b e. made_is (proposal n round past) (proposal n round (x ∷ past)) b e))
    (λ t. All-nil (λ p. NewSay n me past x p.1))
leads_new n me past from (Proposes round batch) = All-nil (λ p. NewSay n me past (Took from (Proposes round batch)) p.1)
leads_new n me past from (Replies round agree) =
    let x : Input Act Say = Took from (Replies round agree) in
    cond_both (coordinates n me round) (conclude n round (made (verdict n round past) (verdict n round (x ∷ past))) (proposal n round past)) [] (All (λ p. NewSay n me past x p.1))
    (λ t. concludes_new n me past x round (made (verdict n round past) (verdict n round (x ∷ past))) (proposal n round past) (coordinates_is n me round t)
    (λ a e. made_is (verdict n round past) (verdict n round (x ∷ past)) a e)
    (λ b e. proposal_stays n round x past b e))
    (λ t. All-nil (λ p. NewSay n me past x p.1))
leads_new n me past from (Moves_on round) = All-nil (λ p. NewSay n me past (Took from (Moves_on round)) p.1)
leads_new n me past from (Decides batch) = All-nil (λ p. NewSay n me past (Took from (Decides batch)) p.1)

passes_new : (n me : ℕ) (past : Turns) (from : ℕ) (say : Say) → All (λ p. NewSay n me past (Took from say) p.1) (passes_on n me past say)
passes_new n me past from (Estimates round held) = All-nil (λ p. NewSay n me past (Took from (Estimates round held)) p.1)
passes_new n me past from (Proposes round batch) = All-nil (λ p. NewSay n me past (Took from (Proposes round batch)) p.1)
passes_new n me past from (Replies round agree) = All-nil (λ p. NewSay n me past (Took from (Replies round agree)) p.1)
passes_new n me past from (Moves_on round) = All-nil (λ p. NewSay n me past (Took from (Moves_on round)) p.1)
passes_new n me past from (Decides batch) =
    cond_both (has_led n me past) [] (to_each n (Decides batch)) (All (λ p. NewSay n me past (Took from (Decides batch)) p.1))
    (λ t. All-nil (λ p. NewSay n me past (Took from (Decides batch)) p.1))
    (λ t. to_each_is (λ p. NewSay n me past (Took from (Decides batch)) p.1) n (Decides batch) (λ to. inl (from, refl)))

answers_new : (n me : ℕ) (past : Turns) (x : Input Act Say) → All (λ p. NewSay n me past x p.1) (answers n me past x)
answers_new n me past (Called act) = All-nil (λ p. NewSay n me past (Called act) p.1)
answers_new n me past (Took from say) =
    All-append (λ p. NewSay n me past (Took from say) p.1) (leads n me past from say) (passes_on n me past say) (leads_new n me past from say) (passes_new n me past from say)

as_new : (n me : ℕ) (past : Turns) (x : Input Act Say) (q : Place) → place n (x ∷ past) ≡ q → (y : Say) → SayOk (place n past) q y → NewSay n me past x y
as_new n me past x q e (Estimates round held) h = subst (λ k. SayOk (place n past) k (Estimates round held)) (sym e) h
as_new n me past x q e (Proposes round batch) h = absurd h
as_new n me past x q e (Replies round agree) h = subst (λ k. SayOk (place n past) k (Replies round agree)) (sym e) h
as_new n me past x q e (Moves_on round) h = tt
as_new n me past x q e (Decides batch) h = absurd h

pub new_says : (n me : ℕ) (x : Input Act Say) (past : Turns) → All (λ p. NewSay n me past x p.1) (says n me (x ∷ past))
new_says n me x past =
    let m : Move = moves n past x (place n past) in
    let ok : MoveOk (place n past) m = moves_ok n past x (place n past) (place_ok n past).behind in
    let P : ℕ × Say → Type 0 = (λ p. NewSay n me past x p.1) in
    elim (cases_Bool (is_some (decided past))) [
      | inl t ↦ subst (All P) (sym (cond-true (is_some (decided past)) [] (m.says ++ answers n me past x) t)) (All-nil P)
      | inr f ↦
          let at : place n (x ∷ past) ≡ m.place = ap (λ b. cond b (place n past) m.place) f in
          let list : says n me (x ∷ past) ≡ m.says ++ answers n me past x = ap (λ b. cond b [] (m.says ++ answers n me past x)) f in
          subst (All P) (sym list)
          (All-append P m.says (answers n me past x)
          (All-weaker (λ p. SayOk (place n past) m.place p.1) P (λ p h. as_new n me past x m.place at p.1 h) m.says ok.says)
          (answers_new n me past x))
    ]

-- a place only moves on
pub record Later (p q : Place) : Type 0 where
  pub rises : p.round ≤ q.round
  pub older : p.held.stamp ≤ q.held.stamp

pub place_later : (n : ℕ) (x : Input Act Say) (past : Turns) → Later (place n past) (place n (x ∷ past))
place_later n x past =
    cond_both (is_some (decided past)) (place n past) (moves n past x (place n past)).place (Later (place n past))
    (λ t. record { rises = omega arith; older = omega arith })
    (λ t. let ok : MoveOk (place n past) (moves n past x (place n past)) = moves_ok n past x (place n past) (place_ok n past).behind in
    record { rises = ok.rises; older = ok.older })

-- What is known of a member by what it has said.
abbrev pub Known : ℕ → ℕ → Turns → Say → Type 0
Known n me turns (Estimates round held) = (round ≤ (place n turns).round) × (held.stamp < round) × Origin n turns held
Known n me turns (Proposes round batch) = (me ≡ coordinator n round) × (proposal n round turns ≡ Some batch)
Known n me turns (Replies round true) = round ≤ (place n turns).held.stamp
Known n me turns (Replies round false) = Unit {0}
Known n me turns (Moves_on round) = Unit {0}
Known n me turns (Decides batch) = Unit {0}

still_known : (n me : ℕ) (x : Input Act Say) (past : Turns) (y : Say) → Known n me past y → Known n me (x ∷ past) y
still_known n me x past (Estimates round held) h =
    let l : Later (place n past) (place n (x ∷ past)) = place_later n x past in
    let a : (place n past).round ≤ (place n (x ∷ past)).round = l.rises in
    let b : round ≤ (place n past).round = h.0 in
    (omega (arith, a, b), h.1, Origin_more n x past held h.2)
still_known n me x past (Proposes round batch) h = (h.0, proposal_stays n round x past batch h.1)
still_known n me x past (Replies round true) h =
    let l : Later (place n past) (place n (x ∷ past)) = place_later n x past in
    let a : (place n past).held.stamp ≤ (place n (x ∷ past)).held.stamp = l.older in
    let b : round ≤ (place n past).held.stamp = h in
    omega (arith, a, b)
still_known n me x past (Replies round false) h = tt
still_known n me x past (Moves_on round) h = tt
still_known n me x past (Decides batch) h = tt

newly_known : (n me : ℕ) (x : Input Act Say) (past : Turns) (y : Say) → NewSay n me past x y → Known n me (x ∷ past) y
newly_known n me x past (Estimates round held) h =
    let e : held ≡ (place n (x ∷ past)).held = h.0 in
    let a : round ≤ (place n (x ∷ past)).round = h.1 in
    let b : (place n (x ∷ past)).held.stamp < round = h.2 in
    let origin : Origin n (x ∷ past) (place n (x ∷ past)).held = (place_ok n (x ∷ past)).origin (omega (arith, a, b)) in
    (a, subst (λ k. k.stamp < round) (sym e) b, subst (Origin n (x ∷ past)) (sym e) origin)
newly_known n me x past (Proposes round batch) h = h
newly_known n me x past (Replies round true) h = h.1
newly_known n me x past (Replies round false) h = tt
newly_known n me x past (Moves_on round) h = tt
newly_known n me x past (Decides batch) h = tt

all_known : (n me : ℕ) (turns : Turns) → All (λ p. Known n me turns p.1) (said n me turns)
all_known n me [] = All-nil (λ p. Known n me [] p.1)
all_known n me (x ∷ past) =
    All-append (λ p. Known n me (x ∷ past) p.1) (said n me past) (says n me (x ∷ past))
    (All-weaker (λ p. Known n me past p.1) (λ p. Known n me (x ∷ past) p.1) (λ p h. still_known n me x past p.1 h) (said n me past) (all_known n me past))
    (All-weaker (λ p. NewSay n me past x p.1) (λ p. Known n me (x ∷ past) p.1) (λ p h. newly_known n me x past p.1 h) (says n me (x ∷ past)) (new_says n me x past))

pub known : (n me : ℕ) (turns : Turns) (to : ℕ) (y : Say) → Contains (said n me turns) (to, y) → Known n me turns y
known n me turns to y h = All-contains (λ p. Known n me turns p.1) (said n me turns) (to, y) (all_known n me turns) h

-- What a member gives for a round after one to which it said yes has a stamp of at least that round.
pub yes_binds : (n me : ℕ) (turns : Turns) (to₁ to₂ r round : ℕ) (held : Estimate)
    → Contains (said n me turns) (to₁, Replies r true) → Contains (said n me turns) (to₂, Estimates round held) → r < round → r ≤ held.stamp
yes_binds n me [] to₁ to₂ r round held a b lt = none (to₁, Replies r true) a
yes_binds n me (x ∷ past) to₁ to₂ r round held a b lt =
    let new : All (λ p. NewSay n me past x p.1) (says n me (x ∷ past)) = new_says n me x past in
    elim (Contains-append_cases (said n me past) (says n me (x ∷ past)) (to₁, Replies r true) a) [
      | inl old_yes ↦ elim (Contains-append_cases (said n me past) (says n me (x ∷ past)) (to₂, Estimates round held) b) [
        | inl old ↦ yes_binds n me past to₁ to₂ r round held old_yes old lt
        | inr now ↦
            let k : r ≤ (place n past).held.stamp = known n me past to₁ (Replies r true) old_yes in
            let l : (place n past).held.stamp ≤ (place n (x ∷ past)).held.stamp = (place_later n x past).older in
            let s : NewSay n me past x (Estimates round held) = All-contains (λ p. NewSay n me past x p.1) (says n me (x ∷ past)) (to₂, Estimates round held) new now in
            let e : held.stamp ≡ (place n (x ∷ past)).held.stamp = ap (λ h. h.stamp) s.0 in
            omega (arith, k, l, e)
      ]
      | inr new_yes ↦
          let y : NewSay n me past x (Replies r true) = All-contains (λ p. NewSay n me past x p.1) (says n me (x ∷ past)) (to₁, Replies r true) new new_yes in
          elim (Contains-append_cases (said n me past) (says n me (x ∷ past)) (to₂, Estimates round held) b) [
            | inl old ↦
                let k : Known n me past (Estimates round held) = known n me past to₂ (Estimates round held) old in
                let k0 : round ≤ (place n past).round = k.0 in
                let y0 : (place n past).round ≤ r = y.0 in
                absurd (omega (arith, k0, y0, lt))
            | inr now ↦
                let s : NewSay n me past x (Estimates round held) = All-contains (λ p. NewSay n me past x p.1) (says n me (x ∷ past)) (to₂, Estimates round held) new now in
                let e : held.stamp ≡ (place n (x ∷ past)).held.stamp = ap (λ h. h.stamp) s.0 in
                let y1 : r ≤ (place n (x ∷ past)).held.stamp = y.1 in
                omega (arith, e, y1)
          ]
    ]

-- a decision was taken as a Decide
pub decided_taken : (turns : Turns) (batch : Items) → decided turns ≡ Some batch → (j : ℕ) × Contains (taken j turns) (Decides batch)
decided_taken [] batch e = absurd cc
decided_taken (Called act ∷ past) batch e = decided_taken past batch e
decided_taken (Took from say ∷ past) batch e = by_first (decided past) refl (λ same. decided_taken past batch same)
  where
    says_it : (say : Say) (batch : Items) → decides say ≡ Some batch → say ≡ Decides batch
    says_it (Estimates round held) batch e = absurd cc
    says_it (Proposes round b) batch e = absurd cc
    says_it (Replies round agree) batch e = absurd cc
    says_it (Moves_on round) batch e = absurd cc
    says_it (Decides b) batch e = ap (λ z. Decides z) (Some-is b batch e)

    by_first : (o : Option Items) → decided past ≡ o → (decided past ≡ Some batch → (j : ℕ) × Contains (taken j past) (Decides batch)) → (j : ℕ) × Contains (taken j (Took from say ∷ past)) (Decides batch)
    by_first (Some b) before before_that =
        let same : decided past ≡ Some batch = before ∙ sym (ap (λ z. or_else z (decides say)) before) ∙ e in
        let old : (j : ℕ) × Contains (taken j past) (Decides batch) = before_that same in
        (old.0, was_taken old.0 (Took from say) past (Decides batch) old.1)
    by_first None before before_that =
        let now : decides say ≡ Some batch = sym (ap (λ z. or_else z (decides say)) before) ∙ e in
        (from, subst (λ z. Contains (taken from (Took from say ∷ past)) z) (says_it say batch now) (just_taken from from say past refl))
