use Rattle.std.proofs.Common.{ℕ, zero, suc, ◌+◌, ◌*◌, ◌≡◌, ◌<◌, ◌≤◌, ◌⊎◌, inl, inr, eqb, ltb, Bool, true, false, cond, not, [], ◌∷◌, ◌++◌, length, Option, Some, None, refl, sym, ap, ◌∙◌, subst, arith, append-nil, ◌||◌, ◌&&◌, length-append}
use Rattle.std.specs.List.{list_any}
use Rattle.std.specs.Option.{is_some}
use Rattle.std.proofs.lemmas.Bool.{cases_Bool, cond_both, cond-true, eq-eqb, or_cases, and_parts, both_ways, ltb-true, not-true, true≢false, or_right, or_left, false_from_ne_true}
use Rattle.std.proofs.lemmas.List.Folds.{list_any-append}
use Rattle.fifo_net.specs.Net.{Input, Called, Took}
use Rattle.instance_rules.specs.Say.{Items, Act, Starts, Suspects, Trusts, Say, Estimates, Proposes, Replies, Moves_on, Decides, Turns, coordinator}
use Rattle.instance_rules.specs.History.{suspected, decides, decided, or_else}
use Rattle.instance_rules.specs.Says.{to_each, coordinates, made, propose, conclude, leads, has_led, answers, says}
use Rattle.instance_rules.specs.Ballot.{proposal, verdict}
use Rattle.instance_rules.specs.Place.{Move, stay, enter, accept, awaits, moves, place}
use Rattle.instance_rules.proofs.Votes.{none_is_some, weigh, cases_option, proposal_stays, verdict_stays}
use Rattle.instance_rules.proofs.Said.{said}
use Rattle.consensus_fulfilment.proofs.Calm.{Good, good_rest, unsuspected, enter_calm, accept_calm, never_no}
use Rattle.consensus_fulfilment.proofs.Fulfil.{no_decide_proposed}
use Rattle.instance_rules.specs.declared.estimate.Estimate.{Estimate}
use Rattle.instance_rules.specs.declared.place.Place.{Place}

length-to_each : (n : ℕ) (say : Say) → length (to_each n say) ≡ n
length-to_each zero say = refl
length-to_each (suc n) say = omega (arith, length-append (to_each n say) ((n, say) ∷ []), length-to_each n say)

-- How far a member has come, as the number of what it may have sent.
abbrev pub stage : Place → ℕ
stage p = cond (eqb p.round 0) 0 (cond p.replied 2 1)

abbrev pub proposals : ℕ → ℕ → Turns → ℕ
proposals n me turns = cond (eqb me (coordinator n 1)) (weigh (is_some (proposal n 1 turns)) * n) 0

abbrev pub told_all : ℕ → ℕ → Turns → ℕ
told_all n me turns = weigh (has_led n me turns || is_some (decided turns)) * n

stage_two : (p : Place) → stage p ≤ 2
stage_two p = cond_both (eqb p.round 0) 0 (cond p.replied 2 1) (λ k. k ≤ 2) (λ t. omega arith) (λ f. cond_both p.replied 2 1 (λ k. k ≤ 2) (λ t. omega arith) (λ t. omega arith))

stage_zero : (p : Place) → eqb p.round 0 ≡ true → stage p ≡ 0
stage_zero p t = cond-true (eqb p.round 0) 0 (cond p.replied 2 1) t

stage_one : (p : Place) → p.replied ≡ false → stage p ≤ 1
stage_one p f = cond_both (eqb p.round 0) 0 (cond p.replied 2 1) (λ k. k ≤ 1) (λ t. omega arith) (λ t. cond_both p.replied 2 1 (λ k. k ≤ 1) (λ u. absurd (both_ways p.replied f u)) (λ u. omega arith))

-- a member's own part
record Pays (p : Place) (m : Move) : Type 0 where
  paid : stage p + length m.says ≤ stage m.place

pays_stay : (p : Place) → Pays p (stay p)
pays_stay p = record { paid = omega arith }

awaits_one : (p : Place) → awaits p 1 ≡ true → stage p ≤ 1
awaits_one p e =
    let h : (ltb 0 1 ≡ true) × ((ltb p.round 1 || (eqb p.round 1 && not p.replied)) ≡ true) = and_parts (ltb 0 1) (ltb p.round 1 || (eqb p.round 1 && not p.replied)) e in
    elim (or_cases (ltb p.round 1) (eqb p.round 1 && not p.replied) h.1) [
      | inl lt ↦ let l : p.round < 1 = ltb-true p.round 1 lt in let z : stage p ≡ 0 = stage_zero p (eq-eqb p.round 0 (omega arith)) in omega (arith, z)
      | inr at ↦
          let s : (eqb p.round 1 ≡ true) × (not p.replied ≡ true) = and_parts (eqb p.round 1) (not p.replied) at in
          stage_one p (not-true p.replied s.1)
    ]

pays : (n : ℕ) (past : Turns) (x : Input Act Say) (p : Place) → Good (x ∷ past) → Pays p (moves n past x p)
pays n past (Called (Starts batch)) p g =
    let there : Place = record { round = 0; held = record { stamp = 0; batch = batch }; replied = false } in
    cond_both (eqb p.round 0) (enter n (suspected past) n 1 there) (stay p) (Pays p)
    (λ t. subst (Pays p) (sym (enter_calm n (suspected past) n 1 there (unsuspected past g))) (record { paid = omega (arith, stage_zero p t) }))
    (λ t. pays_stay p)
pays n past (Called (Suspects who)) p g = absurd g
pays n past (Called (Trusts who)) p g = pays_stay p
pays n past (Took from (Estimates round held)) p g = pays_stay p
pays n past (Took from (Proposes round batch)) p g =
    cond_both (eqb from (coordinator n round) && awaits p round) (accept n (suspected past) round batch) (stay p) (Pays p)
    (λ t. let w : (eqb from (coordinator n round) ≡ true) × (awaits p round ≡ true) = and_parts (eqb from (coordinator n round)) (awaits p round) t in
    let one_left : stage p ≤ 1 = awaits_one p (subst (λ r. awaits p r ≡ true) g.0 w.1) in
    subst (λ r. Pays p (accept n (suspected past) r batch)) (sym g.0)
    (subst (Pays p) (sym (accept_calm n (suspected past) 1 batch (unsuspected past g.1))) (record { paid = omega (arith, one_left) })))
    (λ t. pays_stay p)
pays n past (Took from (Replies round agree)) p g = pays_stay p
pays n past (Took from (Moves_on round)) p g = absurd g.0
pays n past (Took from (Decides batch)) p g = pays_stay p

-- proposals and decisions only come
weigh_le : (a b : Bool) (n : ℕ) → (a ≡ true → b ≡ true) → weigh a * n ≤ weigh b * n
weigh_le true true n h = omega arith
weigh_le true false n h = absurd (true≢false (sym (h refl)))
weigh_le false true n h = omega arith
weigh_le false false n h = omega arith

some_stays : (n : ℕ) (x : Input Act Say) (past : Turns) → is_some (proposal n 1 past) ≡ true → is_some (proposal n 1 (x ∷ past)) ≡ true
some_stays n x past e =
    elim (cases_option (proposal n 1 past)) [
      | inl nothing ↦ absurd (both_ways (is_some (proposal n 1 past)) (ap is_some nothing) e)
      | inr q ↦ ap is_some (proposal_stays n 1 x past q.0 q.1)
    ]

proposals_grow : (n me : ℕ) (x : Input Act Say) (past : Turns) → proposals n me past ≤ proposals n me (x ∷ past)
proposals_grow n me x past =
    elim (eqb me (coordinator n 1)) as (λ b. cond b (weigh (is_some (proposal n 1 past)) * n) 0 ≤ cond b (weigh (is_some (proposal n 1 (x ∷ past))) * n) 0) [
      | true ↦ weigh_le (is_some (proposal n 1 past)) (is_some (proposal n 1 (x ∷ past))) n (some_stays n x past)
      | false ↦ omega arith
    ]

led_or_decided : (n me : ℕ) (x : Input Act Say) (past : Turns) → (has_led n me past || is_some (decided past)) ≡ true → (has_led n me (x ∷ past) || is_some (decided (x ∷ past))) ≡ true
led_or_decided n me (Called act) past e = e
led_or_decided n me (Took from say) past e =
    elim (or_cases (has_led n me past) (is_some (decided past)) e) [
      | inl t ↦ ap (λ b. (b || list_any (λ p. is_some (decides p.1)) (leads n me past from say)) || is_some (or_else (decided past) (decides say))) t
      | inr t ↦ or_right (has_led n me (Took from say ∷ past)) (is_some (or_else (decided past) (decides say))) (still (decided past) t)
    ]
  where
    still : (o : Option Items) → is_some o ≡ true → is_some (or_else o (decides say)) ≡ true
    still None e = absurd cc
    still (Some b) e = refl

told_grow : (n me : ℕ) (x : Input Act Say) (past : Turns) → told_all n me past ≤ told_all n me (x ∷ past)
told_grow n me x past = weigh_le (has_led n me past || is_some (decided past)) (has_led n me (x ∷ past) || is_some (decided (x ∷ past))) n (led_or_decided n me x past)

-- who has led has a verdict
verdict_led : (n me : ℕ) (turns : Turns) → Good turns → has_led n me turns ≡ true → (v : Bool) × (verdict n 1 turns ≡ Some v)
verdict_led n me [] g e = absurd cc
verdict_led n me (Called act ∷ past) g e =
    let old : (v : Bool) × (verdict n 1 past ≡ Some v) = verdict_led n me past (good_rest (Called act) past g) e in (old.0, verdict_stays n 1 (Called act) past old.0 old.1)
verdict_led n me (Took from say ∷ past) g e =
    elim (or_cases (has_led n me past) (list_any (λ p. is_some (decides p.1)) (leads n me past from say)) e) [
      | inl t ↦ let old : (v : Bool) × (verdict n 1 past ≡ Some v) = verdict_led n me past g.1 t in (old.0, verdict_stays n 1 (Took from say) past old.0 old.1)
      | inr t ↦ now say g t
    ]
  where
    concl : (round : ℕ) (v : Option Bool) (o : Option Items) → list_any (λ p. is_some (decides p.1)) (conclude n round v o) ≡ true → (b : Bool) × (v ≡ Some b)
    concl round None o e = absurd cc
    concl round (Some b) o e = (b, refl)

    made_after : {A : Type 0} (before after : Option A) (v : A) → made before after ≡ Some v → after ≡ Some v
    made_after (Some y) after v e = absurd cc
    made_after None after v e = e

    now : (say : Say) → Good (Took from say ∷ past) → list_any (λ p. is_some (decides p.1)) (leads n me past from say) ≡ true → (v : Bool) × (verdict n 1 (Took from say ∷ past) ≡ Some v)
    now (Estimates round held) g =
        let o : Option Items = made (proposal n round past) (proposal n round (Took from (Estimates round held) ∷ past)) in
        cond_both (coordinates n me round) (propose n round o) [] (λ l. list_any (λ p. is_some (decides p.1)) l ≡ true → (v : Bool) × (verdict n 1 (Took from (Estimates round held) ∷ past) ≡ Some v))
        (λ t e. absurd (both_ways (list_any (λ p. is_some (decides p.1)) (propose n round o)) (no_decide_proposed n round o) e))
        (λ t e. absurd cc)
    now (Proposes round b) g = λ e. absurd cc
    now (Replies round agree) g =
        let v : Option Bool = made (verdict n round past) (verdict n round (Took from (Replies round agree) ∷ past)) in
        cond_both (coordinates n me round) (conclude n round v (proposal n round past)) [] (λ l. list_any (λ p. is_some (decides p.1)) l ≡ true → (w : Bool) × (verdict n 1 (Took from (Replies round agree) ∷ past) ≡ Some w))
        (λ t e. let w : (b : Bool) × (v ≡ Some b) = concl round v (proposal n round past) e in
        (w.0, subst (λ r. verdict n r (Took from (Replies round agree) ∷ past) ≡ Some w.0) g.0.0 (made_after (verdict n round past) (verdict n round (Took from (Replies round agree) ∷ past)) w.0 w.1)))
        (λ t e. absurd cc)
    now (Moves_on round) g = λ e. absurd cc
    now (Decides b) g = λ e. absurd cc

-- what is led and passed on at one input
record Covers (n me : ℕ) (past : Turns) (x : Input Act Say) : Type 0 where
  covered : proposals n me past + told_all n me past + length (answers n me past x) ≤ proposals n me (x ∷ past) + told_all n me (x ∷ past)

nothing_led : (n me : ℕ) (past : Turns) (x : Input Act Say) → length (answers n me past x) ≡ 0 → Covers n me past x
nothing_led n me past x e = record { covered = omega (arith, e, proposals_grow n me x past, told_grow n me x past) }

proposed_length : (n round : ℕ) (o : Option Items) → length (propose n round o) ≡ weigh (is_some o) * n
proposed_length n round None = omega arith
proposed_length n round (Some b) = length-to_each n (Proposes round b) ∙ omega arith

made_weighs : {A : Type 0} (before now : Option A) (n : ℕ) → ((x : A) → before ≡ Some x → is_some now ≡ true) → weigh (is_some before) * n + weigh (is_some (made before now)) * n ≤ weigh (is_some now) * n
made_weighs (Some x) now n h = let e : weigh (is_some now) ≡ 1 = ap weigh (h x refl) in subst (λ k. 1 * n + 0 * n ≤ k * n) (sym e) (omega arith)
made_weighs None now n h = omega arith

covers_estimate : (n me : ℕ) (past : Turns) (from round : ℕ) (held : Estimate) → round ≡ 1 → Covers n me past (Took from (Estimates round held))
covers_estimate n me past from round held is =
    let x : Input Act Say = Took from (Estimates round held) in
    let o : Option Items = made (proposal n round past) (proposal n round (x ∷ past)) in
    let led : length (leads n me past from (Estimates round held)) ≡ cond (coordinates n me round) (weigh (is_some o) * n) 0 =
    (elim (coordinates n me round) as (λ b. length (cond b (propose n round o) []) ≡ cond b (weigh (is_some o) * n) 0) [ true ↦ proposed_length n round o | false ↦ refl ]) in
    let at_one : cond (coordinates n me round) (weigh (is_some o) * n) 0 ≡ cond (eqb me (coordinator n 1)) (weigh (is_some (made (proposal n 1 past) (proposal n 1 (x ∷ past)))) * n) 0 =
    ap (λ r. cond (coordinates n me r) (weigh (is_some (made (proposal n r past) (proposal n r (x ∷ past)))) * n) 0) is in
    let grows : cond (eqb me (coordinator n 1)) (weigh (is_some (proposal n 1 past)) * n) 0 + cond (eqb me (coordinator n 1)) (weigh (is_some (made (proposal n 1 past) (proposal n 1 (x ∷ past)))) * n) 0
    ≤ cond (eqb me (coordinator n 1)) (weigh (is_some (proposal n 1 (x ∷ past))) * n) 0 =
    (elim (eqb me (coordinator n 1)) as (λ b. cond b (weigh (is_some (proposal n 1 past)) * n) 0 + cond b (weigh (is_some (made (proposal n 1 past) (proposal n 1 (x ∷ past)))) * n) 0 ≤ cond b (weigh (is_some (proposal n 1 (x ∷ past))) * n) 0) [
      | true ↦ made_weighs (proposal n 1 past) (proposal n 1 (x ∷ past)) n (λ b e. ap is_some (proposal_stays n 1 x past b e))
      | false ↦ omega arith
    ]) in
    let all : length (answers n me past x) ≡ length (leads n me past from (Estimates round held)) + 0 = length-append (leads n me past from (Estimates round held)) [] in
    record { covered = omega (arith, led, at_one, grows, all, told_grow n me x past) }

told_none : (n me : ℕ) (past : Turns) → has_led n me past ≡ false → decided past ≡ None → told_all n me past ≡ 0
told_none n me past f und = ap (λ b. weigh (b || is_some (decided past)) * n) f ∙ ap (λ o. weigh (is_some o) * n) und ∙ omega arith

reply_cases : (n round : ℕ) (v : Option Bool) (o : Option Items) → (v ≡ Some false → ⊥) → (conclude n round v o ≡ []) ⊎ ((b : Items) × (v ≡ Some true) × (conclude n round v o ≡ to_each n (Decides b)))
reply_cases n round None o h = inl refl
reply_cases n round (Some true) None h = inl refl
reply_cases n round (Some false) None h = absurd (h refl)
reply_cases n round (Some true) (Some b) h = inr (b, refl, refl)
reply_cases n round (Some false) (Some b) h = absurd (h refl)

any_decide : (n : ℕ) (b : Items) → 1 ≤ n → list_any (λ p. is_some (decides p.1)) (to_each n (Decides b)) ≡ true
any_decide zero b h = absurd (omega arith)
any_decide (suc n) b h =
    list_any-append (λ p. is_some (decides p.1)) (to_each n (Decides b)) ((n, Decides b) ∷ [])
    ∙ or_right (list_any (λ p. is_some (decides p.1)) (to_each n (Decides b))) true refl

new_none : {A : Type 0} (before now : Option A) (x : A) → made before now ≡ Some x → before ≡ None
new_none (Some y) now x e = absurd cc
new_none None now x e = refl

new_now : {A : Type 0} (before now : Option A) (x : A) → made before now ≡ Some x → now ≡ Some x
new_now (Some y) now x e = absurd cc
new_now None now x e = e

full_weight : (b : Bool) (n : ℕ) → (1 ≤ n → b ≡ true) → n ≤ weigh b * n
full_weight true n h = omega arith
full_weight false zero h = omega arith
full_weight false (suc n) h = absurd (true≢false (sym (h (omega arith))))

covers_reply : (n me : ℕ) (past : Turns) (from round : ℕ) (agree : Bool) → Good (Took from (Replies round agree) ∷ past) → decided past ≡ None → Covers n me past (Took from (Replies round agree))
covers_reply n me past from round agree g und =
    let x : Input Act Say = Took from (Replies round agree) in
    let v : Option Bool = made (verdict n round past) (verdict n round (x ∷ past)) in
    elim (cases_Bool (coordinates n me round)) [
      | inl t ↦
          let led : leads n me past from (Replies round agree) ≡ conclude n round v (proposal n round past) = cond-true (coordinates n me round) (conclude n round v (proposal n round past)) [] t in
          elim (reply_cases n round v (proposal n round past) (λ e. never_no n round (x ∷ past) g (new_now (verdict n round past) (verdict n round (x ∷ past)) false e))) [
            | inl nothing ↦ nothing_led n me past x (ap (λ l. length (l ++ [])) (led ∙ nothing))
            | inr d ↦
                let list : answers n me past x ≡ to_each n (Decides d.0) = append-nil (leads n me past from (Replies round agree)) ∙ led ∙ d.2 in
                let long : length (answers n me past x) ≡ n = ap length list ∙ length-to_each n (Decides d.0) in
                let no_verdict : verdict n 1 past ≡ None = subst (λ r. verdict n r past ≡ None) g.0.0 (new_none (verdict n round past) (verdict n round (x ∷ past)) true d.1) in
                let not_led : has_led n me past ≡ false = false_from_ne_true (has_led n me past)
                (λ e. let w : (b : Bool) × (verdict n 1 past ≡ Some b) = verdict_led n me past g.1 e in none_is_some w.0 (sym no_verdict ∙ w.1)) in
                let before : told_all n me past ≡ 0 = told_none n me past not_led und in
                let now : n ≤ told_all n me (x ∷ past) =
                full_weight (has_led n me (x ∷ past) || is_some (decided (x ∷ past))) n
                (λ some. or_left (has_led n me (x ∷ past)) (is_some (decided (x ∷ past)))
                (or_right (has_led n me past) (list_any (λ p. is_some (decides p.1)) (leads n me past from (Replies round agree)))
                (ap (list_any (λ p. is_some (decides p.1))) (led ∙ d.2) ∙ any_decide n d.0 some))) in
                record { covered = omega (arith, long, before, now, proposals_grow n me x past) }
          ]
      | inr f ↦ nothing_led n me past x (ap (λ b. length (cond b (conclude n round v (proposal n round past)) [] ++ [])) f)
    ]

covers_decide : (n me : ℕ) (past : Turns) (from : ℕ) (b : Items) → decided past ≡ None → Covers n me past (Took from (Decides b))
covers_decide n me past from b und =
    let x : Input Act Say = Took from (Decides b) in
    elim (cases_Bool (has_led n me past)) [
      | inl t ↦ nothing_led n me past x (ap (λ c. length (cond c [] (to_each n (Decides b)))) t)
      | inr f ↦
          let long : length (answers n me past x) ≡ n = ap (λ c. length (cond c [] (to_each n (Decides b)))) f ∙ length-to_each n (Decides b) in
          let before : told_all n me past ≡ 0 = told_none n me past f und in
          let now : n ≤ told_all n me (x ∷ past) =
          full_weight (has_led n me (x ∷ past) || is_some (decided (x ∷ past))) n
          (λ some. or_right (has_led n me (x ∷ past)) (is_some (decided (x ∷ past))) (ap (λ o. is_some (or_else o (Some b))) und)) in
          record { covered = omega (arith, long, before, now, proposals_grow n me x past) }
    ]

covers : (n me : ℕ) (past : Turns) (x : Input Act Say) → Good (x ∷ past) → decided past ≡ None → Covers n me past x
covers n me past (Called act) g und = nothing_led n me past (Called act) refl
covers n me past (Took from (Estimates round held)) g und = covers_estimate n me past from round held g.0
covers n me past (Took from (Proposes round b)) g und = nothing_led n me past (Took from (Proposes round b)) refl
covers n me past (Took from (Replies round agree)) g und = covers_reply n me past from round agree g und
covers n me past (Took from (Moves_on round)) g und = absurd g.0
covers n me past (Took from (Decides b)) g und = covers_decide n me past from b und

-- Without suspicion a member says so much in an instance.
account : (n me : ℕ) (turns : Turns) → Good turns → length (said n me turns) ≤ stage (place n turns) + proposals n me turns + told_all n me turns
account n me [] g = omega arith
account n me (x ∷ past) g =
    let old : length (said n me past) ≤ stage (place n past) + proposals n me past + told_all n me past = account n me past (good_rest x past g) in
    let both : length (said n me past ++ says n me (x ∷ past)) ≡ length (said n me past) + length (says n me (x ∷ past)) = length-append (said n me past) (says n me (x ∷ past)) in
    let m : Move = moves n past x (place n past) in
    elim (cases_option (decided past)) [
      | inr d ↦
          let quiet : length (says n me (x ∷ past)) ≡ 0 = ap (λ o. length (cond (is_some o) [] (m.says ++ answers n me past x))) d.1 in
          let at : stage (place n (x ∷ past)) ≡ stage (place n past) = ap (λ o. stage (cond (is_some o) (place n past) m.place)) d.1 in
          omega (arith, old, both, quiet, at, proposals_grow n me x past, told_grow n me x past)
      | inl und ↦
          let list : length (says n me (x ∷ past)) ≡ length m.says + length (answers n me past x) =
          ap (λ o. length (cond (is_some o) [] (m.says ++ answers n me past x))) und ∙ length-append m.says (answers n me past x) in
          let at : stage (place n (x ∷ past)) ≡ stage m.place = ap (λ o. stage (cond (is_some o) (place n past) m.place)) und in
          let pay : stage (place n past) + length m.says ≤ stage m.place = (pays n past x (place n past) g).paid in
          let cover : proposals n me past + told_all n me past + length (answers n me past x) ≤ proposals n me (x ∷ past) + told_all n me (x ∷ past) = (covers n me past x g und).covered in
          omega (arith, old, both, list, at, pay, cover)
    ]

pub said_bound : (n me : ℕ) (turns : Turns) → Good turns → length (said n me turns) ≤ 2 + n + cond (eqb me (coordinator n 1)) n 0
said_bound n me turns g =
    let a : length (said n me turns) ≤ stage (place n turns) + proposals n me turns + told_all n me turns = account n me turns g in
    let b : stage (place n turns) ≤ 2 = stage_two (place n turns) in
    let c : proposals n me turns ≤ cond (eqb me (coordinator n 1)) n 0 =
    (elim (eqb me (coordinator n 1)) as (λ b. cond b (weigh (is_some (proposal n 1 turns)) * n) 0 ≤ cond b n 0) [ true ↦ weigh_most (is_some (proposal n 1 turns)) n | false ↦ omega arith ]) in
    let d : told_all n me turns ≤ n = weigh_most (has_led n me turns || is_some (decided turns)) n in
    omega (arith, a, b, c, d)
  where
    weigh_most : (b : Bool) (n : ℕ) → weigh b * n ≤ n
    weigh_most true n = omega arith
    weigh_most false n = omega arith
