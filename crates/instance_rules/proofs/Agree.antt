use Rattle.std.proofs.Common.{ℕ, zero, suc, ◌≡◌, ◌<◌, ◌≤◌, inl, inr, eqb, Bool, true, cond, List, [], ◌∷◌, ◌++◌, Some, refl, sym, ap, ◌∙◌, subst, arith}
use Rattle.std.specs.List.{Contains, count_by}
use Rattle.std.proofs.lemmas.Bool.{cases_order, cond_both, eqb-true}
use Rattle.std.proofs.lemmas.List.Elements.{Contains-append_left, Contains-append_right, Contains-append_cases, Contains-push, All-contains}
use Rattle.fifo_net.specs.Net.{Input, Called, Took, Step, taken, inputs_of, taken_on, sent_on, IsPrefix, MayCome, IsRun}
use Rattle.fifo_net.proofs.Links.{inputs_step, inputs_here, taken_on-begins}
use Rattle.fifo_net.proofs.Lists.{Contains-prefix, sum_by-prefix}
use Rattle.instance_rules.specs.Say.{Items, Estimate, Act, Starts, Suspects, Trusts, Say, Estimates, Proposes, Replies, Decides, Turns, coordinator}
use Rattle.instance_rules.specs.History.{decided}
use Rattle.instance_rules.specs.Ballot.{is_from, firsts, estimate_for, reply_for, proposal, verdict}
use Rattle.instance_rules.specs.Says.{says}
use Rattle.instance_rules.specs.Run.{Rounds, TurnFits, RoundsFit, batch_at, started_in, InstanceAgrees, InstanceIsValid}
use Rattle.instance_rules.proofs.Votes.{none, Some-is, proposal_stays, verdict_stays, firsts_found, firsts_once, quorums_meet, Backed, Approved, backed, approved, estimate_said, reply_said}
use Rattle.instance_rules.proofs.Places.{started, starts_at, Origin}
use Rattle.instance_rules.proofs.Said.{said, sent_said, Led, NewSay, new_says, Known, known, yes_binds, decided_taken}

-- what was taken from a member it had said
pub heard_said : (n : ℕ) (past : Rounds) → IsRun (says n) past → (j i : ℕ) (y : Say) → Contains (taken j (inputs_of i past)) y → Contains (said n j (inputs_of j past)) (i, y)
heard_said n past run j i y h =
    sent_said n j i (inputs_of j past) y (Contains-prefix (taken_on j i past) (sent_on (says n) j i past) y (taken_on-begins (says n) past run j i) h)

from_below : (n at : ℕ) (x : Input Act Say) (turns : Turns) (j : ℕ) (y : Say) → TurnFits n at x → (Contains (taken j turns) y → j < n) → Contains (taken j (x ∷ turns)) y → j < n
from_below n at (Called act) turns j y fit old h = old h
from_below n at (Took from say) turns j y fit old h =
    cond_both (eqb from j) (taken j turns ++ say ∷ []) (taken j turns) (λ l. Contains l y → j < n)
    (λ t g. subst (λ k. k < n) (eqb-true from j t) fit)
    (λ t g. old g)
    h

pub senders_below : (n : ℕ) (past : Rounds) → RoundsFit n past → (j i : ℕ) (y : Say) → Contains (taken j (inputs_of i past)) y → j < n
senders_below n [] fit j i y = λ h. none y h
senders_below n (s ∷ past) fit j i y =
    inputs_step (λ l. Contains (taken j l) y → j < n) i s past
    (λ e. from_below n s.at s.input (inputs_of i past) j y fit.1 (senders_below n past fit.2 j i y))
    (senders_below n past fit.2 j i y)

-- the inputs of the coordinator of a round
abbrev pub lead : ℕ → Rounds → ℕ → Turns
lead n past r = inputs_of (coordinator n r) past

vote_said : (n : ℕ) (past : Rounds) → IsRun (says n) past → RoundsFit n past → (r : ℕ) (votes : List (ℕ × Estimate)) → IsPrefix votes (firsts (estimate_for r) (lead n past r))
    → (v : ℕ × Estimate) → Contains votes v → (v.0 < n) × Contains (said n v.0 (inputs_of v.0 past)) (coordinator n r, Estimates r v.1)
vote_said n past run fit r votes p v h =
    let s : (say : Say) × Contains (taken v.0 (lead n past r)) say × (estimate_for r say ≡ Some v.1) =
    firsts_found (estimate_for r) (lead n past r) v (Contains-prefix votes (firsts (estimate_for r) (lead n past r)) v p h) in
    let is : s.0 ≡ Estimates r v.1 = estimate_said r s.0 v.1 s.2 in (
      senders_below n past fit v.0 (coordinator n r) s.0 s.1,
      subst (λ y. Contains (said n v.0 (inputs_of v.0 past)) (coordinator n r, y)) is (heard_said n past run v.0 (coordinator n r) s.0 s.1),
    )

answer_said : (n : ℕ) (past : Rounds) → IsRun (says n) past → RoundsFit n past → (r : ℕ) (votes : List (ℕ × Bool)) → IsPrefix votes (firsts (reply_for r) (lead n past r))
    → (v : ℕ × Bool) → Contains votes v → (v.0 < n) × Contains (said n v.0 (inputs_of v.0 past)) (coordinator n r, Replies r v.1)
answer_said n past run fit r votes p v h =
    let s : (say : Say) × Contains (taken v.0 (lead n past r)) say × (reply_for r say ≡ Some v.1) =
    firsts_found (reply_for r) (lead n past r) v (Contains-prefix votes (firsts (reply_for r) (lead n past r)) v p h) in
    let is : s.0 ≡ Replies r v.1 = reply_said r s.0 v.1 s.2 in (
      senders_below n past fit v.0 (coordinator n r) s.0 s.1,
      subst (λ y. Contains (said n v.0 (inputs_of v.0 past)) (coordinator n r, y)) is (heard_said n past run v.0 (coordinator n r) s.0 s.1),
    )

-- the estimate behind a proposal is of an earlier round
record Behind (n : ℕ) (past : Rounds) (r : ℕ) (b : Items) : Type 0 where
  back : Backed n r (lead n past r) b
  earlier : back.chosen.1.stamp < r
  origin : Origin n (inputs_of back.chosen.0 past) back.chosen.1

behind : (n : ℕ) (past : Rounds) → IsRun (says n) past → RoundsFit n past → (r : ℕ) (b : Items) → proposal n r (lead n past r) ≡ Some b → Behind n past r b
behind n past run fit r b e =
    let k : Backed n r (lead n past r) b = backed n r (lead n past r) b e in
    let s : (k.chosen.0 < n) × Contains (said n k.chosen.0 (inputs_of k.chosen.0 past)) (coordinator n r, Estimates r k.chosen.1) =
    vote_said n past run fit r k.votes k.begins k.chosen k.among in
    let w : Known n k.chosen.0 (inputs_of k.chosen.0 past) (Estimates r k.chosen.1) =
    known n k.chosen.0 (inputs_of k.chosen.0 past) (coordinator n r) (Estimates r k.chosen.1) s.1 in
    record { back = k; earlier = w.1; origin = w.2 }

-- what was proposed to a member its coordinator has to propose
pub proposed_by : (n : ℕ) (past : Rounds) → IsRun (says n) past → (i r : ℕ) (b : Items) → Contains (taken (coordinator n r) (inputs_of i past)) (Proposes r b)
    → proposal n r (lead n past r) ≡ Some b
proposed_by n past run i r b h =
    (known n (coordinator n r) (lead n past r) i (Proposes r b) (heard_said n past run (coordinator n r) i (Proposes r b) h)).1

-- A round whose coordinator has a majority that said yes to its proposal.
pub record Chosen (n : ℕ) (past : Rounds) (r : ℕ) (b : Items) : Type 0 where
  pub proposed : proposal n r (lead n past r) ≡ Some b
  pub agreed : verdict n r (lead n past r) ≡ Some true

-- the estimate behind a later proposal has a stamp of at least that round
binds : (n : ℕ) (past : Rounds) → IsRun (says n) past → RoundsFit n past → (r : ℕ) → verdict n r (lead n past r) ≡ Some true
    → (round : ℕ) (b : Items) → r < round → (k : Backed n round (lead n past round) b) → r ≤ k.chosen.1.stamp
binds n past run fit r e round b lt k =
    let y : Approved n r (lead n past r) = approved n r (lead n past r) e in
    let meet : (m : ℕ) × ((held : Estimate) × Contains k.votes (m, held)) × ((agree : Bool) × Contains y.votes (m, agree)) =
    quorums_meet n k.votes y.votes
    (λ m. let le : count_by (is_from m) k.votes ≤ count_by (is_from m) (firsts (estimate_for round) (lead n past round)) = sum_by-prefix (λ v. cond (is_from m v) 1 0) k.votes (firsts (estimate_for round) (lead n past round)) k.begins in
    let once : count_by (is_from m) (firsts (estimate_for round) (lead n past round)) ≤ 1 = firsts_once (estimate_for round) m (lead n past round) in
    omega (arith, le, once))
    (λ m. let le : count_by (is_from m) y.votes ≤ count_by (is_from m) (firsts (reply_for r) (lead n past r)) = sum_by-prefix (λ v. cond (is_from m v) 1 0) y.votes (firsts (reply_for r) (lead n past r)) y.begins in
    let once : count_by (is_from m) (firsts (reply_for r) (lead n past r)) ≤ 1 = firsts_once (reply_for r) m (lead n past r) in
    omega (arith, le, once))
    (λ v h. (vote_said n past run fit round k.votes k.begins v h).0)
    (λ v h. (answer_said n past run fit r y.votes y.begins v h).0)
    k.enough y.enough in
    let m : ℕ = meet.0 in
    let held : Estimate = meet.1.0 in
    let yes_is : meet.2.0 ≡ true = y.agreed (m, meet.2.0) meet.2.1 in
    let gave : Contains (said n m (inputs_of m past)) (coordinator n round, Estimates round held) = (vote_said n past run fit round k.votes k.begins (m, held) meet.1.1).1 in
    let said_yes : Contains (said n m (inputs_of m past)) (coordinator n r, Replies r true) =
    subst (λ z. Contains (said n m (inputs_of m past)) (coordinator n r, Replies r z)) yes_is (answer_said n past run fit r y.votes y.begins (m, meet.2.0) meet.2.1).1 in
    let low : r ≤ held.stamp = yes_binds n m (inputs_of m past) (coordinator n r) (coordinator n round) r round held said_yes gave lt in
    let top : held.stamp ≤ k.chosen.1.stamp = k.top (m, held) meet.1.1 in
    omega (arith, low, top)

-- The central induction: once a majority said yes in a round, each proposal of a later round has that batch.
pub one_batch : (n : ℕ) (past : Rounds) → IsRun (says n) past → RoundsFit n past → (r : ℕ) (v : Items) → Chosen n past r v
    → (k round : ℕ) → round < k → r < round → (b : Items) → proposal n round (lead n past round) ≡ Some b → b ≡ v
one_batch n past run fit r v c zero round below lt b e = absurd (omega arith)
one_batch n past run fit r v c (suc k) round below lt b e =
    let some : Behind n past r v = behind n past run fit r v c.proposed in
    let some_round : some.back.chosen.1.stamp < r = some.earlier in
    let w : Behind n past round b = behind n past run fit round b e in
    let held : Estimate = w.back.chosen.1 in
    let early : held.stamp < round = w.earlier in
    let low : r ≤ held.stamp = binds n past run fit r c.agreed round b lt w.back in
    let batch_is : held.batch ≡ b = w.back.batch_is in
    elim w.origin [
      | inl own ↦ let at_zero : held.stamp ≡ 0 = own.0 in absurd (omega (arith, at_zero, low, some_round))
      | inr came ↦
          let proposed : proposal n held.stamp (lead n past held.stamp) ≡ Some held.batch = proposed_by n past run w.back.chosen.0 held.stamp held.batch came.1 in
          elim (cases_order r held.stamp) [
            | inl same ↦
                let there : proposal n held.stamp (lead n past held.stamp) ≡ Some v = subst (λ z. proposal n z (lead n past z) ≡ Some v) same c.proposed in
                sym batch_is ∙ Some-is held.batch v (sym proposed ∙ there)
            | inr (inl later) ↦ sym batch_is ∙ one_batch n past run fit r v c k held.stamp (omega (arith, early, below)) later held.batch proposed
            | inr (inr before) ↦ absurd (omega (arith, before, low))
          ]
    ]

-- what a member was started with, a step of the run started
starts_among : (past : Rounds) (m : ℕ) (b : Items) → Contains (started (inputs_of m past)) b → Contains (started_in past) b
starts_among [] m b = λ h. h
starts_among (s ∷ past) m b =
    inputs_step (λ l. Contains (started l) b → Contains (started_in (s ∷ past)) b) m s past
    (λ e h. elim (Contains-append_cases (starts_at s.input) (started (inputs_of m past)) b h) [
      | inl now ↦ Contains-append_left (batch_at s.input) (started_in past) b (at s.input now)
      | inr old ↦ Contains-append_right (batch_at s.input) (started_in past) b (starts_among past m b old)
    ])
    (λ h. Contains-append_right (batch_at s.input) (started_in past) b (starts_among past m b h))
  where
    at : (x : Input Act Say) → Contains (starts_at x) b → Contains (batch_at x) b
    at (Called (Starts batch)) h = h
    at (Called (Suspects who)) h = h
    at (Called (Trusts who)) h = h
    at (Took from say) h = h

-- each proposal is of a batch that a member started with
pub proposal_valid : (n : ℕ) (past : Rounds) → IsRun (says n) past → RoundsFit n past → (k round : ℕ) → round < k → (b : Items)
    → proposal n round (lead n past round) ≡ Some b → Contains (started_in past) b
proposal_valid n past run fit zero round below b e = absurd (omega arith)
proposal_valid n past run fit (suc k) round below b e =
    let w : Behind n past round b = behind n past run fit round b e in
    let held : Estimate = w.back.chosen.1 in
    let early : held.stamp < round = w.earlier in
    subst (Contains (started_in past)) w.back.batch_is (elim w.origin [
      | inl own ↦ starts_among past w.back.chosen.0 held.batch own.1
      | inr came ↦ proposal_valid n past run fit k held.stamp (omega (arith, early, below)) held.batch (proposed_by n past run w.back.chosen.0 held.stamp held.batch came.1)
    ])

-- what is chosen stays
chosen_stays : (n : ℕ) (s : Step Act Say) (past : Rounds) (r : ℕ) (b : Items) → Chosen n past r b → Chosen n (s ∷ past) r b
chosen_stays n s past r b c = record {
  proposed = inputs_step (λ l. proposal n r l ≡ Some b) (coordinator n r) s past (λ e. proposal_stays n r s.input (lead n past r) b c.proposed) c.proposed;
  agreed = inputs_step (λ l. verdict n r l ≡ Some true) (coordinator n r) s past (λ e. verdict_stays n r s.input (lead n past r) true c.agreed) c.agreed;
}

led_chosen : (n : ℕ) (s : Step Act Say) (past : Rounds) (b : Items) → Led n s.at (s.input ∷ inputs_of s.at past) b → (r : ℕ) × Chosen n (s ∷ past) r b
led_chosen n s past b led =
    let here : lead n (s ∷ past) led.0 ≡ s.input ∷ inputs_of s.at past =
    ap (λ m. inputs_of m (s ∷ past)) (sym led.1) ∙ inputs_here s.at s past refl in (
      led.0,
      record {
        proposed = subst (λ l. proposal n led.0 l ≡ Some b) (sym here) led.2;
        agreed = subst (λ l. verdict n led.0 l ≡ Some true) (sym here) led.3;
      },
    )

-- Each Decide that was said has a round in which it was chosen.
pub decide_chosen : (n : ℕ) (past : Rounds) → IsRun (says n) past → (j to : ℕ) (b : Items) → Contains (said n j (inputs_of j past)) (to, Decides b) → (r : ℕ) × Chosen n past r b
decide_chosen n [] run j to b = λ h. none (to, Decides b) h
decide_chosen n (s ∷ past) run j to b =
    inputs_step (λ l. Contains (said n j l) (to, Decides b) → (r : ℕ) × Chosen n (s ∷ past) r b) j s past
    (λ e h. elim (Contains-append_cases (said n j (inputs_of j past)) (says n j (s.input ∷ inputs_of j past)) (to, Decides b) h) [
      | inl old ↦ let c : (r : ℕ) × Chosen n past r b = decide_chosen n past run.1 j to b old in (c.0, chosen_stays n s past c.0 b c.1)
      | inr now ↦
          let new : NewSay n j (inputs_of j past) s.input (Decides b) =
          All-contains (λ p. NewSay n j (inputs_of j past) s.input p.1) (says n j (s.input ∷ inputs_of j past)) (to, Decides b) (new_says n j s.input (inputs_of j past)) now in
          elim new [
            | inl passed ↦
                let may : MayCome (says n) past s.at (Took passed.0 (Decides b)) = subst (MayCome (says n) past s.at) passed.1 run.0 in
                let was : Contains (sent_on (says n) passed.0 s.at past) (Decides b) =
                Contains-prefix (taken_on passed.0 s.at past ++ Decides b ∷ []) (sent_on (says n) passed.0 s.at past) (Decides b) may (Contains-push (taken_on passed.0 s.at past) (Decides b)) in
                let c : (r : ℕ) × Chosen n past r b = decide_chosen n past run.1 passed.0 s.at b (sent_said n passed.0 s.at (inputs_of passed.0 past) (Decides b) was) in
                (c.0, chosen_stays n s past c.0 b c.1)
            | inr led ↦ led_chosen n s past b (subst (λ m. Led n m (s.input ∷ inputs_of m past) b) (sym e) led)
          ]
    ])
    (λ h. let c : (r : ℕ) × Chosen n past r b = decide_chosen n past run.1 j to b h in (c.0, chosen_stays n s past c.0 b c.1))

decision_chosen : (n : ℕ) (past : Rounds) → IsRun (says n) past → (i : ℕ) (a : Items) → decided (inputs_of i past) ≡ Some a → (r : ℕ) × Chosen n past r a
decision_chosen n past run i a e =
    let t : (j : ℕ) × Contains (taken j (inputs_of i past)) (Decides a) = decided_taken (inputs_of i past) a e in
    decide_chosen n past run t.0 i a (heard_said n past run t.0 i (Decides a) t.1)

pub runs_agree : (n : ℕ) (past : Rounds) → IsRun (says n) past → RoundsFit n past → (i j : ℕ) (a b : Items)
    → decided (inputs_of i past) ≡ Some a → decided (inputs_of j past) ≡ Some b → a ≡ b
runs_agree n past run fit i j a b ea eb =
    let ca : (r : ℕ) × Chosen n past r a = decision_chosen n past run i a ea in
    let cb : (r : ℕ) × Chosen n past r b = decision_chosen n past run j b eb in
    elim (cases_order ca.0 cb.0) [
      | inl same ↦
          let there : proposal n cb.0 (lead n past cb.0) ≡ Some a = subst (λ z. proposal n z (lead n past z) ≡ Some a) same ca.1.proposed in
          Some-is a b (sym there ∙ cb.1.proposed)
      | inr (inl later) ↦ sym (one_batch n past run fit ca.0 a ca.1 (suc cb.0) cb.0 (omega arith) later b cb.1.proposed)
      | inr (inr before) ↦ one_batch n past run fit cb.0 b cb.1 (suc ca.0) ca.0 (omega arith) before a ca.1.proposed
    ]

pub runs_valid : (n : ℕ) (past : Rounds) → IsRun (says n) past → RoundsFit n past → (i : ℕ) (a : Items)
    → decided (inputs_of i past) ≡ Some a → Contains (started_in past) a
runs_valid n past run fit i a e =
    let c : (r : ℕ) × Chosen n past r a = decision_chosen n past run i a e in
    proposal_valid n past run fit (suc c.0) c.0 (omega arith) a c.1.proposed

pub agrees : InstanceAgrees
agrees n past run i j i_fits j_fits a b ea eb = runs_agree n past run.fifo run.fit i j a b ea eb

pub is_valid : InstanceIsValid
is_valid n past run i i_fits a e = runs_valid n past run.fifo run.fit i a e
