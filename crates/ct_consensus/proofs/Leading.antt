use Rattle.std.proofs.Common.{ℕ, zero, suc, ◌≡◌, ◌≤◌, inl, inr, eqb, Bool, true, false, cond, ◌||◌, List, [], ◌∷◌, ◌++◌, Option, Some, None, refl, sym, ap, ◌∙◌, subst, arith, append-nil}
use Rattle.std.specs.Option.{is_some, IfSome}
use Rattle.ct_consensus.specs.Ballots.{kept_of}
use Rattle.std.specs.List.{list_any}
use Rattle.std.proofs.lemmas.Bool.{cases_eq, cond-true, cond-false, eq-eqb, ne_eqb}
use Rattle.std.proofs.lemmas.List.{map-append}
use Rattle.fifo_net.specs.Net.{Input, Took}
use Rattle.order_trait.specs.Outbox.{to_all}
use Rattle.instance_rules.specs.declared.estimate.Estimate.{Estimate}
use Rattle.instance_rules.specs.declared.place.Place.{Place}
use Rattle.instance_rules.specs.Say.{Items, Act, Say, Estimates, Proposes, Replies, Moves_on, Decides, Turns, last_round}
use Rattle.instance_rules.specs.History.{suspected, decided, decides, or_else}
use Rattle.instance_rules.specs.Ballot.{vote, firsts, estimate_for, reply_for, quorum, best_of, all_yes, proposal, verdict}
use Rattle.instance_rules.specs.Place.{stay, moves, place}
use Rattle.instance_rules.specs.Says.{to_each, made, propose, conclude, coordinates, leads, passes_on, says}
use Rattle.instance_rules.specs.Bodies.{in_instance, body_of}
use Rattle.ct_consensus.specs.declared.ballot.Ballot.{Ballot}
use Rattle.ct_consensus.specs.declared.running.Running.{Running}
use Rattle.ct_consensus.specs.Ballot.{IsCounted, IsTallied, ClosesWith, IsKept, concludes}
use Rattle.ct_consensus.specs.Stance.{Settled, standing}
use Rattle.ct_consensus.specs.Stands.{IsRunning}
use Rattle.ct_consensus.proofs.Inputs.{place_step, says_step, same_votes, same_kept}

-- the same to each, as it is written
pub to_each_written : (n k : ℕ) (say : Say) → in_instance k (to_each n say) ≡ to_all n (body_of k say)
to_each_written zero k say = refl
to_each_written (suc n) k say =
    map-append (λ p. (p.0, body_of k p.1)) (to_each n say) ((n, say) ∷ []) ∙ ap (λ l. l ++ (n, body_of k say) ∷ []) (to_each_written n k say)

abbrev pub is_decide : ℕ × Say → Bool
is_decide p = is_some (decides p.1)

any_append : (xs ys : List (ℕ × Say)) → list_any is_decide (xs ++ ys) ≡ (list_any is_decide xs || list_any is_decide ys)
any_append [] ys = refl
any_append (x ∷ xs) ys = elim (is_decide x) as (λ b. (b || list_any is_decide (xs ++ ys)) ≡ ((b || list_any is_decide xs) || list_any is_decide ys)) [
  | true ↦ refl
  | false ↦ any_append xs ys
]

or_right : (b : Bool) → (b || true) ≡ true
or_right true = refl
or_right false = refl

-- to all went a decision, or none
pub each_decides : (n : ℕ) (say : Say) → 1 ≤ n → is_some (decides say) ≡ true → list_any is_decide (to_each n say) ≡ true
each_decides zero say some e = absurd (omega (arith, some))
each_decides (suc n) say some e =
    any_append (to_each n say) ((n, say) ∷ []) ∙ ap (λ b. list_any is_decide (to_each n say) || (b || false)) e ∙ or_right (list_any is_decide (to_each n say))

pub none_decides : (n : ℕ) (say : Say) → is_some (decides say) ≡ false → list_any is_decide (to_each n say) ≡ false
none_decides zero say e = refl
none_decides (suc n) say e =
    any_append (to_each n say) ((n, say) ∷ []) ∙ ap (λ b. list_any is_decide (to_each n say) || (b || false)) e ∙ ap (λ b. b || false) (none_decides n say e)

pub propose_quiet : (n round : ℕ) (o : Option Items) → list_any is_decide (propose n round o) ≡ false
propose_quiet n round None = refl
propose_quiet n round (Some batch) = none_decides n (Proposes round batch) refl

pub conclude_decides : (n round : ℕ) (v : Option Bool) (o : Option Items) → 1 ≤ n → list_any is_decide (conclude n round v o) ≡ concludes v o
conclude_decides n round None o some = refl
conclude_decides n round (Some true) None some = refl
conclude_decides n round (Some false) None some = refl
conclude_decides n round (Some true) (Some batch) some = each_decides n (Decides batch) some refl
conclude_decides n round (Some false) (Some batch) some = none_decides n (Moves_on round) refl

-- a vote in its round, and in another
estimate_here : (round : ℕ) (held : Estimate) → estimate_for round (Estimates round held) ≡ Some held
estimate_here round held = cond-true (eqb round round) (Some held) None (eq-eqb round round refl)

reply_here : (round : ℕ) (agree : Bool) → reply_for round (Replies round agree) ≡ Some agree
reply_here round agree = cond-true (eqb round round) (Some agree) None (eq-eqb round round refl)

pub estimate_elsewhere : (r round : ℕ) (held : Estimate) → (r ≡ round → ⊥) → estimate_for r (Estimates round held) ≡ None
estimate_elsewhere r round held ne = cond-false (eqb round r) (Some held) None (ne_eqb round r (λ e. ne (sym e)))

pub reply_elsewhere : (r round : ℕ) (agree : Bool) → (r ≡ round → ⊥) → reply_for r (Replies round agree) ≡ None
reply_elsewhere r round agree ne = cond-false (eqb round r) (Some agree) None (ne_eqb round r (λ e. ne (sym e)))

-- What the coordinator of a round says at a vote, by the votes before.
abbrev pub estimates : ℕ → Turns → List (ℕ × Estimate)
estimates round past = firsts (estimate_for round) past

abbrev pub replies : ℕ → Turns → List (ℕ × Bool)
replies round past = firsts (reply_for round) past

pub leads_estimate : (n me from round : ℕ) (held : Estimate) (past : Turns) → coordinates n me round ≡ true
    → leads n me past from (Estimates round held)
    ≡ propose n round (made (best_of (quorum n (estimates round past))) (best_of (quorum n (estimates round past ++ vote (estimates round past) from (Some held)))))
leads_estimate n me from round held past mine =
    ap (λ b. cond b (propose n round (made (proposal n round past) (proposal n round (Took from (Estimates round held) ∷ past)))) []) mine
    ∙ ap (λ o. propose n round (made (proposal n round past) (best_of (quorum n (estimates round past ++ vote (estimates round past) from o))))) (estimate_here round held)

pub leads_reply : (n me from round : ℕ) (agree : Bool) (past : Turns) → coordinates n me round ≡ true
    → leads n me past from (Replies round agree)
    ≡ conclude n round (made (all_yes (quorum n (replies round past))) (all_yes (quorum n (replies round past ++ vote (replies round past) from (Some agree))))) (proposal n round past)
leads_reply n me from round agree past mine =
    ap (λ b. cond b (conclude n round (made (verdict n round past) (verdict n round (Took from (Replies round agree) ∷ past))) (proposal n round past)) []) mine
    ∙ ap (λ o. conclude n round (made (verdict n round past) (all_yes (quorum n (replies round past ++ vote (replies round past) from o)))) (proposal n round past)) (reply_here round agree)

-- a member that does not coordinate the round says nothing
pub leads_estimate_not : (n me from round : ℕ) (held : Estimate) (past : Turns) → coordinates n me round ≡ false → leads n me past from (Estimates round held) ≡ []
leads_estimate_not n me from round held past other =
    ap (λ b. cond b (propose n round (made (proposal n round past) (proposal n round (Took from (Estimates round held) ∷ past)))) []) other

pub leads_reply_not : (n me from round : ℕ) (agree : Bool) (past : Turns) → coordinates n me round ≡ false → leads n me past from (Replies round agree) ≡ []
leads_reply_not n me from round agree past other =
    ap (λ b. cond b (conclude n round (made (verdict n round past) (verdict n round (Took from (Replies round agree) ∷ past))) (proposal n round past)) []) other

-- what is kept of the round after a vote
pub estimate_kept : (n from round : ℕ) (held : Estimate) (past : Turns) (old new : Ballot) → IsKept n round past (Some old)
    → (IsCounted n (estimates round past) old.proposal → IsCounted n (estimates round past ++ vote (estimates round past) from (Some held)) new.proposal)
    → new.replies ≡ old.replies → ClosesWith new.replies new.proposal → IsKept n round (Took from (Estimates round held) ∷ past) (Some new)
estimate_kept n from round held past old new kept counts same closes = (
  subst (λ o. IsCounted n (estimates round past ++ vote (estimates round past) from o) new.proposal) (sym (estimate_here round held)) (counts kept.0),
  subst (λ v. IsTallied n v new.replies) (sym (append-nil (replies round past))) (subst (IsTallied n (replies round past)) (sym same) kept.1),
  closes,
)

pub reply_kept : (n from round : ℕ) (agree : Bool) (past : Turns) (old new : Ballot) → IsKept n round past (Some old)
    → (IsTallied n (replies round past) old.replies → IsTallied n (replies round past ++ vote (replies round past) from (Some agree)) new.replies)
    → (IsCounted n (estimates round past) old.proposal → IsCounted n (estimates round past) new.proposal)
    → ClosesWith new.replies new.proposal → IsKept n round (Took from (Replies round agree) ∷ past) (Some new)
reply_kept n from round agree past old new kept tallies counts closes = (
  subst (λ v. IsCounted n v new.proposal) (sym (append-nil (estimates round past))) (counts kept.0),
  subst (λ o. IsTallied n (replies round past ++ vote (replies round past) from o) new.replies) (sym (reply_here round agree)) (tallies kept.1),
  closes,
)

-- A vote changes what is kept of its round, and nothing else.
pub voted : (n me : ℕ) (running after : Running) (from round : ℕ) (say : Say) (past : Turns)
    → decides say ≡ None → ((p : Place) → moves n past (Took from say) p ≡ stay p)
    → ((r : ℕ) → (r ≡ round → ⊥) → estimate_for r say ≡ None) → ((r : ℕ) → (r ≡ round → ⊥) → reply_for r say ≡ None)
    → IsRunning n me running past → after.place ≡ running.place → after.led ≡ (running.led || list_any is_decide (leads n me past from say))
    → (coordinates n me round ≡ true → IsKept n round past (kept_of running.ballots round) → IsKept n round (Took from say ∷ past) (kept_of after.ballots round))
    → ((r : ℕ) → (r ≡ round → ⊥) → kept_of after.ballots r ≡ kept_of running.ballots r)
    → IsRunning n me after (Took from say ∷ past)
voted n me running after from round say past no_decision stays no_estimate no_reply old at led here others =
    let x : Input Act Say = Took from say in
    let same : place n (x ∷ past) ≡ place n past = place_step n x past old.undecided ∙ ap (λ m. m.place) (stays (place n past)) in
    record {
      undecided = ap (λ o. or_else o (decides say)) old.undecided ∙ no_decision;
      place = ap standing at ∙ old.place ∙ sym same;
      settled = subst (Settled n (suspected past)) (sym same) old.settled;
      low = subst (λ p. p.round ≤ last_round) (sym same) old.low;
      led = led ∙ ap (λ b. b || list_any is_decide (leads n me past from say)) old.led;
      ballots = λ r mine. elim (cases_eq r round) [
        | inl e ↦ subst (λ k. IsKept n k (x ∷ past) (kept_of after.ballots k)) (sym e)
            (here (subst (λ k. coordinates n me k ≡ true) e mine) (subst (λ k. IsKept n k past (kept_of running.ballots k)) e (old.ballots r mine)))
        | inr ne ↦ subst (IsKept n r (x ∷ past)) (sym (others r ne))
            (same_kept n r x past (kept_of running.ballots r) (same_votes (estimate_for r) from say past (no_estimate r ne)) (same_votes (reply_for r) from say past (no_reply r ne)) (old.ballots r mine))
      ];
    }

-- what a member says at a vote it says as coordinator
pub says_lead : (n me from : ℕ) (say : Say) (past : Turns) → decided past ≡ None → ((p : Place) → moves n past (Took from say) p ≡ stay p) → passes_on n me past say ≡ []
    → says n me (Took from say ∷ past) ≡ leads n me past from say
says_lead n me from say past e stays quiet =
    says_step n me (Took from say) past e
    ∙ ap (λ m. m.says ++ (leads n me past from say ++ passes_on n me past say)) (stays (place n past))
    ∙ ap (λ l. leads n me past from say ++ l) quiet ∙ append-nil (leads n me past from say)

-- a body of the instance says what it says
pub said_is : (k instance : ℕ) (x y : Say) → instance ≡ k → cond (eqb instance k) (Some x) None ≡ Some y → x ≡ y
said_is k instance x y e h =
    let same : Some x ≡ Some y = sym (cond-true (eqb instance k) (Some x) None (eq-eqb instance k e)) ∙ h in
    cc

-- Without a verdict the batch does not matter.
pub conclude_same : (n round : ℕ) (v w : Option Bool) (p q : Option Items) → v ≡ w → ((a : Bool) → v ≡ Some a → p ≡ q)
    → (conclude n round v p ≡ conclude n round w q) × (concludes v p ≡ concludes w q)
conclude_same n round None w p q e h = (ap (λ v. conclude n round v q) e, ap (λ v. concludes v q) e)
conclude_same n round (Some a) w p q e h =
    let same : p ≡ q = h a refl in
    (ap (conclude n round (Some a)) same ∙ ap (λ v. conclude n round v q) e, ap (concludes (Some a)) same ∙ ap (λ v. concludes v q) e)

pub if_some_at : {A : Type 0} (P : A → Type 0) (o : Option A) (a : A) → IfSome o P → o ≡ Some a → P a
if_some_at P o a h e = subst (λ q. IfSome q P) e h
