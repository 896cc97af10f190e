use Rattle.std.proofs.Common.{ℕ, suc, ◌≡◌, ◌+◌, ◌-◌, ◌^◌, ◌<◌, ◌≤◌, inl, inr, eqb, Bool, true, false, cond, List, [], ◌∷◌, ◌++◌, length, refl, sym, ap, ◌∙◌, subst, append-nil, arith, max}
use Rattle.std.specs.List.{flat_map}
use Rattle.std.proofs.lemmas.Bool.{cond_both, cond-false, ne_eqb, cases_lt}
use Rattle.std.proofs.lemmas.List.Concat.{flat_map-append}
use Rattle.fifo_net.specs.Net.{Input, Called, Took, Step, inputs_of, taken, sent, bodies_to, taken_on, sent_on, IsPrefix, MayCome, IsRun}
use Rattle.fifo_net.proofs.Links.{inputs_step, inputs_here, taken_on-begins, taken_here, IsPrefix-append}
use Rattle.upd_base.specs.declared.kind.Kind.TheVariants.{Lamport}
use Rattle.upd_base.specs.declared.item.Item.{Item}
use Rattle.upd_base.specs.declared.body.Body.{Body}
use Rattle.upd_base.specs.declared.body.Body.TheVariants.{Req, Ack}
use Rattle.order_trait.specs.Runs.{Order, Broadcast, Suspect, Trust, Inputs, Steps, IsModuleRun, StepsFit, Agree, KeepsAgreement}
use Rattle.order_trait.proofs.Runs.{shorter}
use Rattle.order_trait.proofs.Sends.{bodies_to_all, senders_fit}
use Rattle.lamport_rules.proofs.Sorted.{StampsBelow, items_up_to}
use Rattle.lamport_rules.specs.Lamport.{top, clock, clock_at, stamp_of, greatest, heard, least_below, acks, sends_by, delivers_by}
use Rattle.lamport_rules.proofs.Stamps.{each_below, req_at, Above, greatest-append, greatest-prefix, above-split, above-push, above-none, least_below-le, least_below-grows, each_below-same, each_below-prefix}

-- the clock never reached the greatest number
abbrev pub Unsaturated : Inputs → Type 0
Unsaturated [] = Unit {0}
Unsaturated (x ∷ past) = (clock (x ∷ past) < 2 ^ 64 - 1) × Unsaturated past

-- what was sent on a link: its stamps ascend, up to the clock
pub record Ascends (link : List Body) (c : ℕ) : Type 0 where
  pub above : Above 0 link
  pub below : greatest 0 link ≤ c

ascends-same : (link : List Body) (c d : ℕ) → Ascends link c → c ≤ d → Ascends (link ++ []) d
ascends-same link c d a le = subst (λ l. Ascends l d) (sym (append-nil link)) (record { above = a.above; below = omega (arith, a.below) })

ascends-push : (link : List Body) (c : ℕ) (b : Body) → Ascends link c → c < stamp_of b → Ascends (link ++ b ∷ []) (stamp_of b)
ascends-push link c b a lt =
    let le : greatest 0 link ≤ c = a.below in
    let e : greatest 0 (link ++ b ∷ []) ≡ max (greatest 0 link) (stamp_of b) = greatest-append 0 link (b ∷ []) in
    record { above = above-push 0 link b a.above (omega arith); below = omega (arith, e) }

clock-grows : (x : Input Order Body) (past : Inputs) → clock (x ∷ past) < 2 ^ 64 - 1 → clock past ≤ clock (x ∷ past)
clock-grows (Called (Broadcast item)) past low = omega arith
clock-grows (Called (Suspect who)) past low = omega arith
clock-grows (Called (Trust who)) past low = omega arith
clock-grows (Took from (Req stamp item)) past low = omega arith
clock-grows (Took from body) past low = omega arith

-- an Ack has a stamp above the clock before
abbrev AckIsNew : ℕ → ℕ → Body → Type 0
AckIsNew c d (Req stamp item) = c < d
AckIsNew c d body = Unit {0}

ack_new : (c : ℕ) (body : Body) → clock_at c body < 2 ^ 64 - 1 → AckIsNew c (clock_at c body) body
ack_new c (Req stamp item) low = omega arith
ack_new c body low = tt

ack_ascends : (n m : ℕ) (link : List Body) (c d : ℕ) (own : Bool) (body : Body) → m < n → Ascends link c → c ≤ d → AckIsNew c d body → Ascends (link ++ bodies_to m (cond own [] (acks n d body))) d
ack_ascends n m link c d true body lt a le new = ascends-same link c d a le
ack_ascends n m link c d false (Req stamp item) lt a le new =
    subst (λ l. Ascends (link ++ l) d) (sym (bodies_to_all n m (Ack d) lt)) (ascends-push link c (Ack d) a new)
ack_ascends n m link c d false body lt a le new = ascends-same link c d a le

sent-ascends : (n j m : ℕ) (inputs : Inputs) → m < n → Unsaturated inputs → Ascends (sent (sends_by n) j m inputs) (clock inputs)
sent-ascends n j m [] lt low = record { above = tt; below = omega arith }
sent-ascends n j m (Called (Broadcast item) ∷ past) lt low =
    let c : ℕ = clock (Called (Broadcast item) ∷ past) in
    let old : Ascends (sent (sends_by n) j m past) (clock past) = sent-ascends n j m past lt low.1 in
    let small : top (clock past + 1) < 2 ^ 64 - 1 = low.0 in
    subst (λ l. Ascends (sent (sends_by n) j m past ++ l) c) (sym (bodies_to_all n m (Req c item) lt))
    (ascends-push (sent (sends_by n) j m past) (clock past) (Req c item) old (omega arith))
sent-ascends n j m (Called (Suspect who) ∷ past) lt low = ascends-same (sent (sends_by n) j m past) (clock past) (clock past) (sent-ascends n j m past lt low.1) (omega arith)
sent-ascends n j m (Called (Trust who) ∷ past) lt low = ascends-same (sent (sends_by n) j m past) (clock past) (clock past) (sent-ascends n j m past lt low.1) (omega arith)
sent-ascends n j m (Took from body ∷ past) lt low =
    ack_ascends n m (sent (sends_by n) j m past) (clock past) (clock (Took from body ∷ past)) (eqb from j) body lt (sent-ascends n j m past lt low.1)
    (clock-grows (Took from body) past low.0) (ack_new (clock past) body low.0)

-- the items that a member broadcast with this stamp
abbrev pub own_at : ℕ → ℕ → Input Order Body → List Item
own_at t c (Called (Broadcast item)) = cond (eqb (top (c + 1)) t) (item ∷ []) []
own_at t c (Called (Suspect who)) = []
own_at t c (Called (Trust who)) = []
own_at t c (Took from body) = []

abbrev pub own : ℕ → Inputs → List Item
own t [] = []
own t (x ∷ past) = own t past ++ own_at t (clock past) x

no_req : (t n m c : ℕ) (b : Bool) (body : Body) → m < n → flat_map (req_at t) (bodies_to m (cond b [] (acks n c body))) ≡ []
no_req t n m c true body lt = refl
no_req t n m c false (Req stamp item) lt = ap (flat_map (req_at t)) (bodies_to_all n m (Ack c) lt)
no_req t n m c false body lt = refl

reqs_sent : (n j m t : ℕ) (x : Input Order Body) (past : Inputs) → m < n → flat_map (req_at t) (bodies_to m (sends_by n j (x ∷ past))) ≡ own_at t (clock past) x
reqs_sent n j m t (Called (Broadcast item)) past lt =
    ap (flat_map (req_at t)) (bodies_to_all n m (Req (top (clock past + 1)) item) lt) ∙ append-nil (req_at t (Req (top (clock past + 1)) item))
reqs_sent n j m t (Called (Suspect who)) past lt = refl
reqs_sent n j m t (Called (Trust who)) past lt = refl
reqs_sent n j m t (Took from body) past lt = no_req t n m (clock (Took from body ∷ past)) (eqb from j) body lt

-- each member gets the same Reqs
pub sent-own : (n j m t : ℕ) (inputs : Inputs) → m < n → flat_map (req_at t) (sent (sends_by n) j m inputs) ≡ own t inputs
sent-own n j m t [] lt = refl
sent-own n j m t (x ∷ past) lt =
    flat_map-append (req_at t) (sent (sends_by n) j m past) (bodies_to m (sends_by n j (x ∷ past)))
    ∙ ap (λ l. flat_map (req_at t) (sent (sends_by n) j m past) ++ l) (reqs_sent n j m t x past lt)
    ∙ ap (λ l. l ++ own_at t (clock past) x) (sent-own n j m t past lt)

-- no clock is ahead of the number of steps
abbrev ClockFits : ℕ → Inputs → Type 0
ClockFits k inputs = Unsaturated inputs × (clock inputs ≤ k)

clock_step : (n k m : ℕ) (past : Steps) (x : Input Order Body) → k + 1 < 2 ^ 64 - 1
    → ((j : ℕ) → Ascends (sent_on (sends_by n) j m past) k) → MayCome (sends_by n) past m x → clock (inputs_of m past) ≤ k → clock (x ∷ inputs_of m past) ≤ k + 1
clock_step n k m past (Called (Broadcast item)) small links may le = omega arith
clock_step n k m past (Called (Suspect who)) small links may le = omega arith
clock_step n k m past (Called (Trust who)) small links may le = omega arith
clock_step n k m past (Took from (Req stamp item)) small links may le =
    let link : greatest 0 (sent_on (sends_by n) from m past) ≤ k = (links from).below in
    let begins : greatest 0 (taken_on from m past ++ Req stamp item ∷ []) ≤ greatest 0 (sent_on (sends_by n) from m past) =
    greatest-prefix 0 (taken_on from m past ++ Req stamp item ∷ []) (sent_on (sends_by n) from m past) may in
    let last : greatest 0 (taken_on from m past ++ Req stamp item ∷ []) ≡ max (greatest 0 (taken_on from m past)) stamp = greatest-append 0 (taken_on from m past) (Req stamp item ∷ []) in
    omega (arith, link, begins, last)
clock_step n k m past (Took from body) small links may le = omega arith

pub clocks_fit : (n : ℕ) (past : Steps) → StepsFit n past → length past < 2 ^ 64 - 1 → IsRun (sends_by n) past → (m : ℕ) → ClockFits (length past) (inputs_of m past)
clocks_fit n [] fit small run m = (tt, omega arith)
clocks_fit n (s ∷ past) fit small run m =
    let short : length past < 2 ^ 64 - 1 = omega arith in
    let old : (j : ℕ) → ClockFits (length past) (inputs_of j past) = clocks_fit n past fit.2 short run.1 in
    let here : clock (s.input ∷ inputs_of s.at past) ≤ length past + 1 =
    clock_step n (length past) s.at past s.input (omega arith)
    (λ j. let a : Ascends (sent_on (sends_by n) j s.at past) (clock (inputs_of j past)) = sent-ascends n j s.at (inputs_of j past) fit.0 (old j).0 in
    let le : clock (inputs_of j past) ≤ length past = (old j).1 in
    record { above = a.above; below = omega (arith, a.below, le) })
    run.0 (old s.at).1 in
    inputs_step (ClockFits (length (s ∷ past))) m s past
    (λ e. subst (λ k. ClockFits (length (s ∷ past)) (s.input ∷ inputs_of k past)) e ((omega arith, (old s.at).0), omega arith))
    (let le : clock (inputs_of m past) ≤ length past = (old m).1 in ((old m).0, omega arith))

-- what was sent on a link in a run: its stamps ascend, up to the sender's clock
link-ascends : (n : ℕ) (past : Steps) → IsModuleRun sends_by Lamport n past → (j m : ℕ) → m < n → Ascends (sent_on (sends_by n) j m past) (clock (inputs_of j past))
link-ascends n past run j m lt =
    let short : length past < 2 ^ 64 - 1 = let h : length past < 2 ^ 40 = run.short in omega arith in
    sent-ascends n j m (inputs_of j past) lt (clocks_fit n past run.fit short run.fifo j).0

-- a member has every Req with a stamp that it has heard from the sender
pub taken-own : (n : ℕ) (past : Steps) → IsModuleRun sends_by Lamport n past → (j m t : ℕ) → m < n → t ≤ heard (inputs_of m past) j
    → flat_map (req_at t) (taken_on j m past) ≡ own t (inputs_of j past)
taken-own n past run j m t lt le =
    let p : IsPrefix (taken_on j m past) (sent_on (sends_by n) j m past) = taken_on-begins (sends_by n) past run.fifo j m in
    let above : Above 0 (taken_on j m past ++ p.0) = subst (Above 0) p.1 (link-ascends n past run j m lt).above in
    let none : flat_map (req_at t) p.0 ≡ [] = above-none t (greatest 0 (taken_on j m past)) p.0 (above-split 0 (taken_on j m past) p.0 above) le in
    sym (append-nil (flat_map (req_at t) (taken_on j m past)))
    ∙ ap (λ l. flat_map (req_at t) (taken_on j m past) ++ l) (sym none)
    ∙ sym (flat_map-append (req_at t) (taken_on j m past) p.0)
    ∙ ap (flat_map (req_at t)) (sym p.1)
    ∙ sent-own n j m t (inputs_of j past) lt

-- every item that was broadcast with a stamp up to k, by stamp and member
abbrev pub all_to : ℕ → ℕ → Steps → List Item
all_to n k past = each_below (suc k) (λ t. each_below n (λ j. own t (inputs_of j past)))

heard_step : (j : ℕ) (x : Input Order Body) (past : Inputs) → heard past j ≤ heard (x ∷ past) j
heard_step j (Called order) past = omega arith
heard_step j (Took k body) past =
    cond_both (eqb k j) (taken j past ++ body ∷ []) (taken j past) (λ l. greatest 0 (taken j past) ≤ greatest 0 l)
    (λ e. greatest-prefix 0 (taken j past) (taken j past ++ body ∷ []) (IsPrefix-append (taken j past) (body ∷ [])))
    (λ e. omega arith)

stamps_below : (bound : ℕ) (inputs : Inputs) → ((j : ℕ) → heard inputs j < bound) → StampsBelow bound inputs
stamps_below bound [] h = tt
stamps_below bound (Called order ∷ past) h = stamps_below bound past h
stamps_below bound (Took k body ∷ past) h =
    let last : heard (Took k body ∷ past) k ≡ max (heard past k) (stamp_of body) = ap (greatest 0) (taken_here k k body past refl) ∙ greatest-append 0 (taken k past) (body ∷ []) in
    let low : heard (Took k body ∷ past) k < bound = h k in
    (omega arith, stamps_below bound past (λ j. let le : heard past j ≤ heard (Took k body ∷ past) j = heard_step j (Took k body) past in let lt : heard (Took k body ∷ past) j < bound = h j in omega arith))

-- a member has heard no more from another than its clock
pub heard-clock : (n : ℕ) (past : Steps) → IsModuleRun sends_by Lamport n past → (j m : ℕ) → m < n → heard (inputs_of m past) j ≤ clock (inputs_of j past)
heard-clock n past run j m lt =
    let link : Ascends (sent_on (sends_by n) j m past) (clock (inputs_of j past)) = link-ascends n past run j m lt in
    let le : heard (inputs_of m past) j ≤ greatest 0 (sent_on (sends_by n) j m past) =
    greatest-prefix 0 (taken_on j m past) (sent_on (sends_by n) j m past) (taken_on-begins (sends_by n) past run.fifo j m) in
    omega (arith, link.below)

-- what a member has delivered is all that was broadcast up to the least stamp that it has heard
pub delivered_is : (n : ℕ) (past : Steps) → IsModuleRun sends_by Lamport n past → (m : ℕ) → m < n
    → delivers_by n m (inputs_of m past) ≡ all_to n (least_below n (heard (inputs_of m past))) past
delivered_is n past run m lt =
    let limit : ℕ = least_below n (heard (inputs_of m past)) in
    let short : length past < 2 ^ 64 - 1 = let h : length past < 2 ^ 40 = run.short in omega arith in
    let low : (j : ℕ) → heard (inputs_of m past) j < 2 ^ 64 = λ j.
    let a : heard (inputs_of m past) j ≤ clock (inputs_of j past) = heard-clock n past run j m lt in
    let b : clock (inputs_of j past) ≤ length past = (clocks_fit n past run.fit short run.fifo j).1 in
    omega arith in
    let at_most : limit < 2 ^ 64 = let h : limit ≤ heard (inputs_of m past) m = least_below-le n (heard (inputs_of m past)) m lt in let g : heard (inputs_of m past) m < 2 ^ 64 = low m in omega arith in
    items_up_to n (2 ^ 64) limit (inputs_of m past) (senders_fit n past m run.fit) (stamps_below (2 ^ 64) (inputs_of m past) low) at_most
    ∙ each_below-same (suc limit) (λ t. each_below n (λ j. flat_map (req_at t) (taken_on j m past))) (λ t. each_below n (λ j. own t (inputs_of j past)))
    (λ t below. each_below-same n (λ j. flat_map (req_at t) (taken_on j m past)) (λ j. own t (inputs_of j past))
    (λ j within.
    let le : limit ≤ heard (inputs_of m past) j = least_below-le n (heard (inputs_of m past)) j within in
    taken-own n past run j m t lt (omega arith)))

agree : (n : ℕ) (past : Steps) → IsModuleRun sends_by Lamport n past → (i j : ℕ) → i < n → j < n → Agree (delivers_by n i (inputs_of i past)) (delivers_by n j (inputs_of j past))
agree n past run i j li lj =
    let a : ℕ = least_below n (heard (inputs_of i past)) in
    let b : ℕ = least_below n (heard (inputs_of j past)) in
    let rows : ℕ → List Item = λ t. each_below n (λ j. own t (inputs_of j past)) in
    subst (λ l. Agree l (delivers_by n j (inputs_of j past))) (sym (delivered_is n past run i li))
    (subst (λ l. Agree (all_to n a past) l) (sym (delivered_is n past run j lj))
    (elim (cases_lt a b) [
      | inl lt ↦ inl (each_below-prefix (suc a) (suc b) rows (omega arith))
      | inr ge ↦ inr (each_below-prefix (suc b) (suc a) rows (omega arith))
    ]))

own_at-new : (t : ℕ) (x : Input Order Body) (past : Inputs) → t ≤ clock past → clock (x ∷ past) < 2 ^ 64 - 1 → own_at t (clock past) x ≡ []
own_at-new t (Called (Broadcast item)) past le low = cond-false (eqb (top (clock past + 1)) t) (item ∷ []) [] (ne_eqb (top (clock past + 1)) t (λ e. omega arith))
own_at-new t (Called (Suspect who)) past le low = refl
own_at-new t (Called (Trust who)) past le low = refl
own_at-new t (Took from body) past le low = refl

-- a step adds nothing at the stamps up to the sender's clock
own-kept : (t j : ℕ) (s : Step Order Body) (past : Steps) → t ≤ clock (inputs_of j past) → Unsaturated (inputs_of j (s ∷ past)) → own t (inputs_of j (s ∷ past)) ≡ own t (inputs_of j past)
own-kept t j s past le low =
    inputs_step (λ l. own t l ≡ own t (inputs_of j past)) j s past
    (λ e. ap (λ l. own t (inputs_of j past) ++ l) (own_at-new t s.input (inputs_of j past) le (subst Unsaturated (inputs_here j s past e) low).0) ∙ append-nil (own t (inputs_of j past)))
    refl

heard-grows : (i j : ℕ) (s : Step Order Body) (past : Steps) → heard (inputs_of i past) j ≤ heard (inputs_of i (s ∷ past)) j
heard-grows i j s past =
    inputs_step (λ l. heard (inputs_of i past) j ≤ heard l j) i s past (λ e. heard_step j s.input (inputs_of i past)) (omega arith)

grows : (n : ℕ) (s : Step Order Body) (past : Steps) → IsModuleRun sends_by Lamport n (s ∷ past) → (i : ℕ) → i < n
    → IsPrefix (delivers_by n i (inputs_of i past)) (delivers_by n i (inputs_of i (s ∷ past)))
grows n s past run i li =
    let old : IsModuleRun sends_by Lamport n past = shorter sends_by Lamport n s past run in
    let a : ℕ = least_below n (heard (inputs_of i past)) in
    let b : ℕ = least_below n (heard (inputs_of i (s ∷ past))) in
    let le : a ≤ b = least_below-grows n (heard (inputs_of i past)) (heard (inputs_of i (s ∷ past))) (λ j. heard-grows i j s past) in
    let short : length (s ∷ past) < 2 ^ 64 - 1 = let h : length (s ∷ past) < 2 ^ 40 = run.short in omega arith in
    let same : all_to n a (s ∷ past) ≡ all_to n a past =
    each_below-same (suc a) (λ t. each_below n (λ j. own t (inputs_of j (s ∷ past)))) (λ t. each_below n (λ j. own t (inputs_of j past)))
    (λ t below. each_below-same n (λ j. own t (inputs_of j (s ∷ past))) (λ j. own t (inputs_of j past))
    (λ j within.
    let x : a ≤ heard (inputs_of i past) j = least_below-le n (heard (inputs_of i past)) j within in
    let y : heard (inputs_of i past) j ≤ clock (inputs_of j past) = heard-clock n past old j i li in
    own-kept t j s past (omega arith) (clocks_fit n (s ∷ past) run.fit short run.fifo j).0)) in
    subst (λ l. IsPrefix l (delivers_by n i (inputs_of i (s ∷ past)))) (sym (delivered_is n past old i li))
    (subst (λ l. IsPrefix (all_to n a past) l) (sym (delivered_is n (s ∷ past) run i li))
    (subst (λ l. IsPrefix l (all_to n b (s ∷ past))) same
    (each_below-prefix (suc a) (suc b) (λ t. each_below n (λ j. own t (inputs_of j (s ∷ past)))) (omega arith))))

pub agreement : KeepsAgreement sends_by delivers_by Lamport
agreement = record { agree = agree; grows = grows; takes = λ n m order inputs. refl }
