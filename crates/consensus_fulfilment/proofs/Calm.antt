use Rattle.std.proofs.Common.{ℕ, zero, suc, ◌≡◌, ◌⊎◌, inl, inr, eqb, leb, Bool, true, false, cond, not, List, [], ◌∷◌, ◌++◌, length, take, Option, Some, None, refl, sym, ap, ◌∙◌, subst, append_assoc, ◌&&◌}
use Rattle.std.specs.List.{Contains, All, list_all}
use Rattle.std.specs.Option.{is_some}
use Rattle.std.proofs.lemmas.Bool.{cases_Bool, cond_both, cond-false, and_right}
use Rattle.std.proofs.lemmas.List.Elements.{Contains-append_left, Contains-append_right, Contains-append_cases, Contains-push, All-nil, All-cons, All-append, All-contains}
use Rattle.fifo_net.specs.Net.{Input, Called, Took, taken, inputs_of, taken_on, sent_on, MayCome, IsRun}
use Rattle.fifo_net.proofs.Links.{inputs_step}
use Rattle.fifo_net.proofs.Lists.{Contains-prefix}
use Rattle.instance_rules.specs.Say.{Items, Act, Starts, Suspects, Trusts, Say, Estimates, Proposes, Replies, Moves_on, Decides, Turns, coordinator, majority}
use Rattle.instance_rules.specs.History.{suspected, decided}
use Rattle.instance_rules.specs.Ballot.{firsts, reply_for, proposal, all_yes, verdict}
use Rattle.instance_rules.specs.Says.{to_each, coordinates, made, propose, conclude, leads, has_led, passes_on, answers, says}
use Rattle.instance_rules.specs.Place.{Move, stay, after, give, enter, go_on, accept, awaits, moves, place}
use Rattle.instance_rules.specs.Run.{Rounds}
use Rattle.instance_rules.proofs.Votes.{one, none, Some-is, firsts_found, reply_said, take_begins}
use Rattle.instance_rules.proofs.Said.{said, sent_said}
use Rattle.instance_rules.specs.declared.estimate.Estimate.{Estimate}
use Rattle.instance_rules.specs.declared.place.Place.{Place}

-- Without suspicion there is one round, and in it all say yes.
abbrev pub GoodSay : Say → Type 0
GoodSay (Estimates round held) = round ≡ 1
GoodSay (Proposes round batch) = round ≡ 1
GoodSay (Replies round agree) = (round ≡ 1) × (agree ≡ true)
GoodSay (Moves_on round) = ⊥
GoodSay (Decides batch) = Unit {0}

abbrev pub Good : Turns → Type 0
Good [] = Unit {0}
Good (Called (Starts batch) ∷ past) = Good past
Good (Called (Suspects who) ∷ past) = ⊥
Good (Called (Trusts who) ∷ past) = Good past
Good (Took from say ∷ past) = GoodSay say × Good past

pub good_rest : (x : Input Act Say) (past : Turns) → Good (x ∷ past) → Good past
good_rest (Called (Starts batch)) past g = g
good_rest (Called (Suspects who)) past g = absurd g
good_rest (Called (Trusts who)) past g = g
good_rest (Took from say) past g = g.1

pub unsuspected : (turns : Turns) → Good turns → (w : ℕ) → suspected turns w ≡ false
unsuspected [] g w = refl
unsuspected (Called (Starts batch) ∷ past) g w = unsuspected past g w
unsuspected (Called (Suspects who) ∷ past) g w = absurd g
unsuspected (Called (Trusts who) ∷ past) g w = and_right (not (eqb who w)) (suspected past w) (unsuspected past g w)
unsuspected (Took from say ∷ past) g w = unsuspected past g.1 w

good_taken : (turns : Turns) → Good turns → (j : ℕ) (y : Say) → Contains (taken j turns) y → GoodSay y
good_taken [] g j y h = none y h
good_taken (Called (Starts batch) ∷ past) g j y h = good_taken past g j y h
good_taken (Called (Suspects who) ∷ past) g j y h = absurd g
good_taken (Called (Trusts who) ∷ past) g j y h = good_taken past g j y h
good_taken (Took from say ∷ past) g j y h =
    cond_both (eqb from j) (taken j past ++ say ∷ []) (taken j past) (λ l. Contains l y → GoodSay y)
    (λ t k. elim (Contains-append_cases (taken j past) (say ∷ []) y k) [ inl old ↦ good_taken past g.1 j y old | inr new ↦ subst GoodSay (one say y new) g.0 ])
    (λ t k. good_taken past g.1 j y k)
    h

pub enter_calm : (n : ℕ) (suspects : ℕ → Bool) (more round : ℕ) (p : Place) → ((w : ℕ) → suspects w ≡ false) → enter n suspects more round p ≡ give n round p
enter_calm n suspects zero round p calm = refl
enter_calm n suspects (suc more) round p calm = cond-false (suspects (coordinator n round)) _ (give n round p) (calm (coordinator n round))

-- where a member stands
pub record Idle (p : Place) : Type 0 where
  pub round_is : p.round ≡ 0
  pub not_yet : p.replied ≡ false

pub record Gave (n me : ℕ) (all : List (ℕ × Say)) (p : Place) : Type 0 where
  pub round_is : p.round ≡ 1
  pub not_yet : p.replied ≡ false
  pub held : Estimate
  pub was_said : Contains all (coordinator n 1, Estimates 1 held)

pub record Agreed (n me : ℕ) (all : List (ℕ × Say)) (p : Place) : Type 0 where
  pub round_is : p.round ≡ 1
  pub replied_is : p.replied ≡ true
  pub was_said : Contains all (coordinator n 1, Replies 1 true)

abbrev pub Stands : ℕ → ℕ → List (ℕ × Say) → Place → Type 0
Stands n me all p = Idle p ⊎ (Gave n me all p ⊎ Agreed n me all p)

stands_more : (n me : ℕ) (all new : List (ℕ × Say)) (p : Place) → Stands n me all p → Stands n me (all ++ new) p
stands_more n me all new p (inl idle) = inl idle
stands_more n me all new p (inr (inl g)) = inr (inl (record { round_is = g.round_is; not_yet = g.not_yet; held = g.held; was_said = Contains-append_left all new (coordinator n 1, Estimates 1 g.held) g.was_said }))
stands_more n me all new p (inr (inr g)) = inr (inr (record { round_is = g.round_is; replied_is = g.replied_is; was_said = Contains-append_left all new (coordinator n 1, Replies 1 true) g.was_said }))

-- a move keeps that, and says good things
record Kept (n me : ℕ) (all : List (ℕ × Say)) (m : Move) : Type 0 where
  stands : Stands n me (all ++ m.says) m.place
  good : All (λ p. GoodSay p.1) m.says

kept_stay : (n me : ℕ) (all : List (ℕ × Say)) (p : Place) → Stands n me all p → Kept n me all (stay p)
kept_stay n me all p s = record { stands = stands_more n me all [] p s; good = All-nil (λ q. GoodSay q.1) }

kept_give : (n me : ℕ) (all : List (ℕ × Say)) (p : Place) → Kept n me all (give n 1 p)
kept_give n me all p = record {
  stands = inr (inl (record { round_is = refl; not_yet = refl; held = p.held; was_said = Contains-push all (coordinator n 1, Estimates 1 p.held) }));
  good = All-cons (λ q. GoodSay q.1) (coordinator n 1, Estimates 1 p.held) [] refl (All-nil (λ q. GoodSay q.1));
}

pub accept_calm : (n : ℕ) (suspects : ℕ → Bool) (round : ℕ) (batch : Items) → ((w : ℕ) → suspects w ≡ false)
    → accept n suspects round batch ≡ record { place = record { round = round; held = record { stamp = round; batch = batch }; replied = true }; says = (coordinator n round, Replies round true) ∷ [] }
accept_calm n suspects round batch calm =
    let there : Place = record { round = round; held = record { stamp = round; batch = batch }; replied = true } in
    ap (λ m. after ((coordinator n round, Replies round true) ∷ []) m) (cond-false (suspects (coordinator n round)) (go_on n suspects there) (stay there) (calm (coordinator n round)))

kept_accept : (n me : ℕ) (all : List (ℕ × Say)) (suspects : ℕ → Bool) (batch : Items) → ((w : ℕ) → suspects w ≡ false) → Kept n me all (accept n suspects 1 batch)
kept_accept n me all suspects batch calm =
    subst (Kept n me all) (sym (accept_calm n suspects 1 batch calm))
    (record {
      stands = inr (inr (record { round_is = refl; replied_is = refl; was_said = Contains-push all (coordinator n 1, Replies 1 true) }));
      good = All-cons (λ q. GoodSay q.1) (coordinator n 1, Replies 1 true) [] (refl, refl) (All-nil (λ q. GoodSay q.1));
    })

kept : (n me : ℕ) (all : List (ℕ × Say)) (past : Turns) (x : Input Act Say) (p : Place) → Good (x ∷ past) → Stands n me all p → Kept n me all (moves n past x p)
kept n me all past (Called (Starts batch)) p g s =
    let there : Place = record { round = 0; held = record { stamp = 0; batch = batch }; replied = false } in
    cond_both (eqb p.round 0) (enter n (suspected past) n 1 there) (stay p) (Kept n me all)
    (λ t. subst (Kept n me all) (sym (enter_calm n (suspected past) n 1 there (unsuspected past g))) (kept_give n me all there))
    (λ t. kept_stay n me all p s)
kept n me all past (Called (Suspects who)) p g s = absurd g
kept n me all past (Called (Trusts who)) p g s = kept_stay n me all p s
kept n me all past (Took from (Estimates round held)) p g s = kept_stay n me all p s
kept n me all past (Took from (Proposes round batch)) p g s =
    cond_both (eqb from (coordinator n round) && awaits p round) (accept n (suspected past) round batch) (stay p) (Kept n me all)
    (λ t. subst (λ r. Kept n me all (accept n (suspected past) r batch)) (sym g.0) (kept_accept n me all (suspected past) batch (unsuspected past g.1)))
    (λ t. kept_stay n me all p s)
kept n me all past (Took from (Replies round agree)) p g s = kept_stay n me all p s
kept n me all past (Took from (Moves_on round)) p g s = absurd g.0
kept n me all past (Took from (Decides batch)) p g s = kept_stay n me all p s

-- no verdict is a no
pub never_no : (n round : ℕ) (turns : Turns) → Good turns → verdict n round turns ≡ Some false → ⊥
never_no n round turns g e = by_votes (leb (majority n) (length (firsts (reply_for round) turns))) e
  where
    all_good : (v : ℕ × Bool) → Contains (firsts (reply_for round) turns) v → v.1 ≡ true
    all_good v h =
        let s : (say : Say) × Contains (taken v.0 turns) say × (reply_for round say ≡ Some v.1) = firsts_found (reply_for round) turns v h in
        let is : s.0 ≡ Replies round v.1 = reply_said round s.0 v.1 s.2 in
        let ok : GoodSay (Replies round v.1) = subst GoodSay is (good_taken turns g v.0 s.0 s.1) in
        ok.1

    list_good : (vs : List (ℕ × Bool)) → ((v : ℕ × Bool) → Contains vs v → v.1 ≡ true) → list_all (λ v. v.1) vs ≡ true
    list_good [] h = refl
    list_good (v ∷ vs) h = ap (λ b. b && list_all (λ w. w.1) vs) (h v (Contains-append_left (v ∷ []) vs v (Contains-push [] v))) ∙ list_good vs (λ w k. h w (Contains-append_right (v ∷ []) vs w k))

    by_votes : (b : Bool) → all_yes (cond b (Some (take (majority n) (firsts (reply_for round) turns))) None) ≡ Some false → ⊥
    by_votes true h =
        let yes_all : list_all (λ v. v.1) (take (majority n) (firsts (reply_for round) turns)) ≡ true =
        list_good (take (majority n) (firsts (reply_for round) turns))
        (λ v k. all_good v (Contains-prefix (take (majority n) (firsts (reply_for round) turns)) (firsts (reply_for round) turns) v (take_begins (majority n) (firsts (reply_for round) turns)) k)) in
        let no_all : list_all (λ v. v.1) (take (majority n) (firsts (reply_for round) turns)) ≡ false = Some-is (list_all (λ v. v.1) (take (majority n) (firsts (reply_for round) turns))) false h in
        absurd cc
    by_votes false h = absurd cc

good_each : (n : ℕ) (y : Say) → GoodSay y → All (λ p. GoodSay p.1) (to_each n y)
good_each zero y h = All-nil (λ p. GoodSay p.1)
good_each (suc n) y h = All-append (λ p. GoodSay p.1) (to_each n y) ((n, y) ∷ []) (good_each n y h) (All-cons (λ p. GoodSay p.1) (n, y) [] h (All-nil (λ p. GoodSay p.1)))

good_propose : (n round : ℕ) (o : Option Items) → round ≡ 1 → All (λ p. GoodSay p.1) (propose n round o)
good_propose n round None e = All-nil (λ p. GoodSay p.1)
good_propose n round (Some batch) e = good_each n (Proposes round batch) e

good_conclude : (n round : ℕ) (v : Option Bool) (o : Option Items) → (v ≡ Some false → ⊥) → All (λ p. GoodSay p.1) (conclude n round v o)
good_conclude n round None o h = All-nil (λ p. GoodSay p.1)
good_conclude n round (Some true) None h = All-nil (λ p. GoodSay p.1)
good_conclude n round (Some false) None h = All-nil (λ p. GoodSay p.1)
good_conclude n round (Some true) (Some batch) h = good_each n (Decides batch) tt
good_conclude n round (Some false) (Some batch) h = absurd (h refl)

made_now : {A : Type 0} (before now : Option A) (x : A) → made before now ≡ Some x → now ≡ Some x
made_now (Some y) now x e = absurd cc
made_now None now x e = e

good_answers : (n me : ℕ) (past : Turns) (x : Input Act Say) → Good (x ∷ past) → All (λ p. GoodSay p.1) (answers n me past x)
good_answers n me past (Called act) g = All-nil (λ p. GoodSay p.1)
good_answers n me past (Took from say) g = All-append (λ p. GoodSay p.1) (leads n me past from say) (passes_on n me past say) (led say g) (passed say)
  where
    passed : (say : Say) → All (λ p. GoodSay p.1) (passes_on n me past say)
    passed (Estimates round held) = All-nil (λ p. GoodSay p.1)
    passed (Proposes round batch) = All-nil (λ p. GoodSay p.1)
    passed (Replies round agree) = All-nil (λ p. GoodSay p.1)
    passed (Moves_on round) = All-nil (λ p. GoodSay p.1)
    passed (Decides batch) = cond_both (has_led n me past) [] (to_each n (Decides batch)) (All (λ p. GoodSay p.1)) (λ t. All-nil (λ p. GoodSay p.1)) (λ t. good_each n (Decides batch) tt)

    led : (say : Say) → Good (Took from say ∷ past) → All (λ p. GoodSay p.1) (leads n me past from say)
    led (Estimates round held) g =
        cond_both (coordinates n me round) (propose n round (made (proposal n round past) (proposal n round (Took from (Estimates round held) ∷ past)))) [] (All (λ p. GoodSay p.1))
        (λ t. good_propose n round (made (proposal n round past) (proposal n round (Took from (Estimates round held) ∷ past))) g.0)
        (λ t. All-nil (λ p. GoodSay p.1))
    led (Proposes round batch) g = All-nil (λ p. GoodSay p.1)
    led (Replies round agree) g =
        cond_both (coordinates n me round) (conclude n round (made (verdict n round past) (verdict n round (Took from (Replies round agree) ∷ past))) (proposal n round past)) [] (All (λ p. GoodSay p.1))
        (λ t. good_conclude n round (made (verdict n round past) (verdict n round (Took from (Replies round agree) ∷ past))) (proposal n round past)
        (λ e. never_no n round (Took from (Replies round agree) ∷ past) g (made_now (verdict n round past) (verdict n round (Took from (Replies round agree) ∷ past)) false e)))
        (λ t. All-nil (λ p. GoodSay p.1))
    led (Moves_on round) g = All-nil (λ p. GoodSay p.1)
    led (Decides batch) g = All-nil (λ p. GoodSay p.1)

-- what a member has said, and where it stands
pub record Calm (n me : ℕ) (turns : Turns) : Type 0 where
  pub stands : Stands n me (said n me turns) (place n turns)
  pub good : All (λ p. GoodSay p.1) (said n me turns)

pub calm : (n me : ℕ) (turns : Turns) → Good turns → Calm n me turns
calm n me [] g = record { stands = inl (record { round_is = refl; not_yet = refl }); good = All-nil (λ p. GoodSay p.1) }
calm n me (x ∷ past) g =
    let old : Calm n me past = calm n me past (good_rest x past g) in
    let m : Move = moves n past x (place n past) in
    let k : Kept n me (said n me past) m = kept n me (said n me past) past x (place n past) g old.stands in
    elim (cases_Bool (is_some (decided past))) [
      | inl t ↦
          let at : place n (x ∷ past) ≡ place n past = ap (λ b. cond b (place n past) m.place) t in
          let list : says n me (x ∷ past) ≡ [] = ap (λ b. cond b [] (m.says ++ answers n me past x)) t in
          record {
            stands = subst (λ l. Stands n me (said n me past ++ l) (place n (x ∷ past))) (sym list) (stands_more n me (said n me past) [] (place n (x ∷ past)) (subst (Stands n me (said n me past)) (sym at) old.stands));
            good = subst (λ l. All (λ p. GoodSay p.1) (said n me past ++ l)) (sym list) (All-append (λ p. GoodSay p.1) (said n me past) [] old.good (All-nil (λ p. GoodSay p.1)));
          }
      | inr f ↦
          let at : place n (x ∷ past) ≡ m.place = ap (λ b. cond b (place n past) m.place) f in
          let list : says n me (x ∷ past) ≡ m.says ++ answers n me past x = ap (λ b. cond b [] (m.says ++ answers n me past x)) f in
          record {
            stands = subst (λ l. Stands n me (said n me past ++ l) (place n (x ∷ past))) (sym list)
                (subst (λ l. Stands n me l (place n (x ∷ past))) (append_assoc (said n me past) m.says (answers n me past x))
                (stands_more n me (said n me past ++ m.says) (answers n me past x) (place n (x ∷ past)) (subst (Stands n me (said n me past ++ m.says)) (sym at) k.stands)));
            good = subst (λ l. All (λ p. GoodSay p.1) (said n me past ++ l)) (sym list)
                (All-append (λ p. GoodSay p.1) (said n me past) (m.says ++ answers n me past x) old.good
                (All-append (λ p. GoodSay p.1) m.says (answers n me past x) k.good (good_answers n me past x g)));
          }
    ]

-- in a run without suspicion every member's inputs are good
abbrev pub NoSuspect : Input Act Say → Type 0
NoSuspect (Called (Starts batch)) = Unit {0}
NoSuspect (Called (Suspects who)) = ⊥
NoSuspect (Called (Trusts who)) = Unit {0}
NoSuspect (Took from say) = Unit {0}

abbrev pub IsCalm : Rounds → Type 0
IsCalm [] = Unit {0}
IsCalm (s ∷ past) = NoSuspect s.input × IsCalm past

good_more : (n : ℕ) (past : Rounds) (at : ℕ) (x : Input Act Say) (turns : Turns) → NoSuspect x → MayCome (says n) past at x
    → ((from : ℕ) (y : Say) → Contains (sent_on (says n) from at past) y → GoodSay y) → Good turns → Good (x ∷ turns)
good_more n past at (Called (Starts batch)) turns c may h g = g
good_more n past at (Called (Suspects who)) turns c may h g = absurd c
good_more n past at (Called (Trusts who)) turns c may h g = g
good_more n past at (Took from say) turns c may h g =
    (h from say (Contains-prefix (taken_on from at past ++ say ∷ []) (sent_on (says n) from at past) say may (Contains-push (taken_on from at past) say)), g)

pub good_run : (n : ℕ) (past : Rounds) → IsRun (says n) past → IsCalm past → (m : ℕ) → Good (inputs_of m past)
good_run n [] run c m = tt
good_run n (s ∷ past) run c m =
    inputs_step Good m s past
    (λ e. good_more n past s.at s.input (inputs_of m past) c.0 run.0
    (λ from y h. All-contains (λ p. GoodSay p.1) (said n from (inputs_of from past)) (s.at, y) (calm n from (inputs_of from past) (good_run n past run.1 c.1 from)).good
    (sent_said n from s.at (inputs_of from past) y h))
    (good_run n past run.1 c.1 m))
    (good_run n past run.1 c.1 m)
