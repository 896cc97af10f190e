use Rattle.std.proofs.Common.{ℕ, zero, suc, ◌≡◌, ◌+◌, ◌*◌, ◌-◌, ◌^◌, ◌<◌, ◌≤◌, inl, inr, eqb, Bool, true, false, cond, List, [], ◌∷◌, ◌++◌, length, refl, sym, ap, ◌∙◌, subst, arith, max, length-append}
use Rattle.std.specs.List.{flat_map, Contains, sum_by}
use Rattle.std.proofs.lemmas.Bool.{cond_both, cond-true, cond-false, cases_eq, eq-eqb, ne_eqb, eqb-true, false≢true}
use Rattle.std.proofs.lemmas.List.Concat.{flat_map-append}
use Rattle.std.proofs.lemmas.List.Elements.{Contains-append_left, Contains-append_right, Contains-append_cases}
use Rattle.std.proofs.lemmas.List.Sums.{sum_by-append, sum_by-cons}
use Rattle.std.proofs.Math.Nat.{mul-le-mul_left}
use Rattle.fifo_net.specs.Net.{Input, Called, Took, inputs_of, taken, sent, bodies_to, taken_on, sent_on, IsPrefix}
use Rattle.fifo_net.proofs.Links.{inputs_here, inputs_away, taken_on-begins, taken_here, taken_away, IsPrefix-append}
use Rattle.fifo_net.proofs.Lists.{flat_map_push, IsPrefix-flat_map}
use Rattle.upd_base.specs.Item.{has_id}
use Rattle.upd_base.specs.declared.kind.Kind.{Kind}
use Rattle.upd_base.specs.declared.kind.Kind.TheVariants.{Sequencer, Lamport, Consensus}
use Rattle.upd_base.specs.declared.item.Item.{Item}
use Rattle.upd_base.specs.declared.body.Body.{Body}
use Rattle.upd_base.specs.declared.body.Body.TheVariants.{Req, Ack}
use Rattle.order_trait.specs.Runs.{Order, Broadcast, Suspect, Trust, Inputs, Steps, IsModuleRun, StepsFit, broadcast_at, broadcast_in, sent_in, KeepsAgreement, KeepsIntegrity, KeepsFulfilment, KeepsBound, NeverSaysPast}
use Rattle.order_trait.proofs.Sends.{NeverIn, never-to_all, bodies_to_all, length-to_all, SendersFit, senders_fit}
use Rattle.order_trait.proofs.Sums.{sum_below, sum_below-none, sum_below-same, sum_below-le, sum_below-more}
use Rattle.order_trait.proofs.Broadcasts.{broadcasts, broadcasts_among, broadcast_by_one, sum_by_members, broadcast_once}
use Rattle.lamport_rules.specs.Lamport.{top, clock, stamp_of, greatest, heard, least_below, acks, sends_by, delivers_by, is_lamport, sends_of, delivers_of}
use Rattle.lamport_rules.proofs.Stamps.{each_below, req_at, greatest-append, greatest-le, greatest-prefix}
use Rattle.lamport_rules.proofs.Clocks.{own, own_at, all_to, delivered_is, sent-own, clocks_fit, heard-clock, Unsaturated, agreement}

abbrev IsRunOf : ℕ → Steps → Type 0
IsRunOf n past = IsModuleRun sends_by Lamport n past

each_below-at : {A : Type 0} (n : ℕ) (f : ℕ → List A) (x : A) → Contains (each_below n f) x → (j : ℕ) × Contains (f j) x
each_below-at zero f x h = absurd (omega (arith, h.1))
each_below-at (suc n) f x h =
    elim (Contains-append_cases (each_below n f) (f n) x h) [ inl a ↦ each_below-at n f x a | inr b ↦ (n, b) ]

each_below-has : {A : Type 0} (n : ℕ) (f : ℕ → List A) (x : A) (j : ℕ) → j < n → Contains (f j) x → Contains (each_below n f) x
each_below-has zero f x j lt h = absurd (omega arith)
each_below-has (suc n) f x j lt h =
    elim (cases_eq n j) [
      | inl e ↦ Contains-append_right (each_below n f) (f n) x (subst (λ k. Contains (f k) x) (sym e) h)
      | inr ne ↦ Contains-append_left (each_below n f) (f n) x (each_below-has n f x j (omega arith) h)
    ]

own_at-among : (t c : ℕ) (input : Input Order Body) (x : Item) → Contains (own_at t c input) x → Contains (broadcast_at input) x
own_at-among t c (Called (Broadcast item)) x =
    cond_both (eqb (top (c + 1)) t) (item ∷ []) [] (λ l. Contains l x → Contains (item ∷ []) x) (λ e h. h) (λ e h. absurd (omega (arith, h.1)))
own_at-among t c (Called (Suspect who)) x = λ h. h
own_at-among t c (Called (Trust who)) x = λ h. h
own_at-among t c (Took from body) x = λ h. h

own-among : (t : ℕ) (inputs : Inputs) (x : Item) → Contains (own t inputs) x → Contains (broadcasts inputs) x
own-among t [] x h = h
own-among t (i ∷ past) x h =
    elim (Contains-append_cases (own t past) (own_at t (clock past) i) x h) [
      | inl a ↦ Contains-append_left (broadcasts past) (broadcast_at i) x (own-among t past x a)
      | inr b ↦ Contains-append_right (broadcasts past) (broadcast_at i) x (own_at-among t (clock past) i x b)
    ]

delivered_broadcast : (n : ℕ) (past : Steps) (limit : ℕ) (x : Item) → Contains (all_to n limit past) x → Contains (broadcast_in past) x
delivered_broadcast n past limit x h =
    let row : (t : ℕ) × Contains (each_below n (λ j. own t (inputs_of j past))) x = each_below-at (suc limit) (λ t. each_below n (λ j. own t (inputs_of j past))) x h in
    let cell : (j : ℕ) × Contains (own row.0 (inputs_of j past)) x = each_below-at n (λ j. own row.0 (inputs_of j past)) x row.1 in
    broadcasts_among past cell.0 x (own-among row.0 (inputs_of cell.0 past) x cell.1)

sum_each : (f : Item → ℕ) (n : ℕ) (g : ℕ → List Item) → sum_by f (each_below n g) ≡ sum_below n (λ j. sum_by f (g j))
sum_each f zero g = refl
sum_each f (suc n) g = omega (arith, sum_by-append f (each_below n g) (g n), sum_each f n g)

sum_below-both : (n : ℕ) (f g : ℕ → ℕ) → sum_below n (λ j. f j + g j) ≡ sum_below n f + sum_below n g
sum_below-both zero f g = omega arith
sum_below-both (suc n) f g = omega (arith, sum_below-both n f g)

sum_below-swap : (k n : ℕ) (h : ℕ → ℕ → ℕ) → sum_below k (λ t. sum_below n (λ j. h t j)) ≡ sum_below n (λ j. sum_below k (λ t. h t j))
sum_below-swap zero n h = sym (sum_below-none n)
sum_below-swap (suc k) n h =
    ap (λ a. a + sum_below n (λ j. h k j)) (sum_below-swap k n h) ∙ sym (sum_below-both n (λ j. sum_below k (λ t. h t j)) (λ j. h k j))

-- one stamp has the item
sum_at-past : (k u d : ℕ) → k ≤ u → sum_below k (λ t. cond (eqb u t) d 0) ≡ 0
sum_at-past zero u d le = refl
sum_at-past (suc k) u d le =
    let here : cond (eqb u k) d 0 ≡ 0 = cond-false (eqb u k) d 0 (ne_eqb u k (λ e. omega arith)) in
    let below : sum_below k (λ t. cond (eqb u t) d 0) ≡ 0 = sum_at-past k u d (omega arith) in
    omega (arith, here, below)

sum_at : (k u d : ℕ) → sum_below k (λ t. cond (eqb u t) d 0) ≤ d
sum_at zero u d = omega arith
sum_at (suc k) u d =
    elim (cases_eq u k) [
      | inl e ↦
          let here : cond (eqb u k) d 0 ≡ d = cond-true (eqb u k) d 0 (eq-eqb u k e) in
          let below : sum_below k (λ t. cond (eqb u t) d 0) ≡ 0 = sum_at-past k u d (omega arith) in
          omega (arith, here, below)
      | inr ne ↦
          let here : cond (eqb u k) d 0 ≡ 0 = cond-false (eqb u k) d 0 (ne_eqb u k ne) in
          let below : sum_below k (λ t. cond (eqb u t) d 0) ≤ d = sum_at k u d in
          omega (arith, here, below)
    ]

own_at-sum : (f : Item → ℕ) (k c : ℕ) (i : Input Order Body) → sum_below k (λ t. sum_by f (own_at t c i)) ≤ sum_by f (broadcast_at i)
own_at-sum f k c (Called (Broadcast item)) =
    let same : sum_below k (λ t. sum_by f (own_at t c (Called (Broadcast item)))) ≡ sum_below k (λ t. cond (eqb (top (c + 1)) t) (f item) 0) =
    sum_below-same k (λ t. sum_by f (own_at t c (Called (Broadcast item)))) (λ t. cond (eqb (top (c + 1)) t) (f item) 0)
    (λ t lt. elim (eqb (top (c + 1)) t) as (λ b. sum_by f (cond b (item ∷ []) []) ≡ cond b (f item) 0) [ true ↦ omega (arith, sum_by-cons f item []) | false ↦ refl ]) in
    let one : sum_by f (item ∷ []) ≡ f item + sum_by f [] = sum_by-cons f item [] in
    omega (arith, same, one, sum_at k (top (c + 1)) (f item))
own_at-sum f k c (Called (Suspect who)) = omega (arith, sum_below-none k)
own_at-sum f k c (Called (Trust who)) = omega (arith, sum_below-none k)
own_at-sum f k c (Took from body) = omega (arith, sum_below-none k)

own-sum : (f : Item → ℕ) (k : ℕ) (inputs : Inputs) → sum_below k (λ t. sum_by f (own t inputs)) ≤ sum_by f (broadcasts inputs)
own-sum f k [] = omega (arith, sum_below-none k)
own-sum f k (i ∷ past) =
    let parts : sum_below k (λ t. sum_by f (own t (i ∷ past))) ≡ sum_below k (λ t. sum_by f (own t past)) + sum_below k (λ t. sum_by f (own_at t (clock past) i)) =
    sum_below-same k (λ t. sum_by f (own t (i ∷ past))) (λ t. sum_by f (own t past) + sum_by f (own_at t (clock past) i)) (λ t lt. sum_by-append f (own t past) (own_at t (clock past) i))
    ∙ sum_below-both k (λ t. sum_by f (own t past)) (λ t. sum_by f (own_at t (clock past) i)) in
    let whole : sum_by f (broadcasts past ++ broadcast_at i) ≡ sum_by f (broadcasts past) + sum_by f (broadcast_at i) = sum_by-append f (broadcasts past) (broadcast_at i) in
    omega (arith, parts, whole, own-sum f k past, own_at-sum f k (clock past) i)

all_to-sum : (f : Item → ℕ) (n : ℕ) (past : Steps) → IsRunOf n past → (limit : ℕ) → sum_by f (all_to n limit past) ≤ sum_by f (broadcast_in past)
all_to-sum f n past run limit =
    let h : ℕ → ℕ → ℕ = λ t j. sum_by f (own t (inputs_of j past)) in
    let a : sum_by f (all_to n limit past) ≡ sum_below (suc limit) (λ t. sum_below n (λ j. h t j)) =
    sum_each f (suc limit) (λ t. each_below n (λ j. own t (inputs_of j past)))
    ∙ sum_below-same (suc limit) (λ t. sum_by f (each_below n (λ j. own t (inputs_of j past)))) (λ t. sum_below n (λ j. h t j)) (λ t lt. sum_each f n (λ j. own t (inputs_of j past))) in
    let b : sum_below (suc limit) (λ t. sum_below n (λ j. h t j)) ≡ sum_below n (λ j. sum_below (suc limit) (λ t. h t j)) = sum_below-swap (suc limit) n h in
    let c : sum_below n (λ j. sum_below (suc limit) (λ t. h t j)) ≤ sum_below n (λ j. sum_by f (broadcasts (inputs_of j past))) =
    sum_below-le n (λ j. sum_below (suc limit) (λ t. h t j)) (λ j. sum_by f (broadcasts (inputs_of j past))) (λ j lt. own-sum f (suc limit) (inputs_of j past)) in
    let d : sum_below n (λ j. sum_by f (broadcasts (inputs_of j past))) ≡ sum_by f (broadcast_in past) = sum_by_members f n past run.fit in
    omega (arith, a, b, c, d)

pub integrity : KeepsIntegrity sends_by delivers_by Lamport
integrity = record {
  broadcast = λ n past run i li x h.
      delivered_broadcast n past (least_below n (heard (inputs_of i past))) x (subst (λ l. Contains l x) (delivered_is n past run i li) h);
  once = λ n past run i li id.
      let f : Item → ℕ = λ x. cond (has_id id x) 1 0 in
      let a : sum_by f (delivers_by n i (inputs_of i past)) ≡ sum_by f (all_to n (least_below n (heard (inputs_of i past))) past) = ap (sum_by f) (delivered_is n past run i li) in
      let c : sum_by f (broadcast_in past) ≤ 1 = broadcast_once n past run.fit id in
      omega (arith, a, all_to-sum f n past run (least_below n (heard (inputs_of i past))), c);
}

stamped_at : (c : ℕ) (i : Input Order Body) (x : Item) → Contains (broadcast_at i) x → (t : ℕ) × Contains (own_at t c i) x
stamped_at c (Called (Broadcast item)) x h =
    (top (c + 1), subst (λ l. Contains l x) (sym (cond-true (eqb (top (c + 1)) (top (c + 1))) (item ∷ []) [] (eq-eqb (top (c + 1)) (top (c + 1)) refl))) h)
stamped_at c (Called (Suspect who)) x h = absurd (omega (arith, h.1))
stamped_at c (Called (Trust who)) x h = absurd (omega (arith, h.1))
stamped_at c (Took from body) x h = absurd (omega (arith, h.1))

-- an item that was broadcast has a stamp
stamped : (inputs : Inputs) (x : Item) → Contains (broadcasts inputs) x → (t : ℕ) × Contains (own t inputs) x
stamped [] x h = absurd (omega (arith, h.1))
stamped (i ∷ past) x h =
    elim (Contains-append_cases (broadcasts past) (broadcast_at i) x h) [
      | inl a ↦
          let old : (t : ℕ) × Contains (own t past) x = stamped past x a in
          (old.0, Contains-append_left (own old.0 past) (own_at old.0 (clock past) i) x old.1)
      | inr b ↦
          let new : (t : ℕ) × Contains (own_at t (clock past) i) x = stamped_at (clock past) i x b in
          (new.0, Contains-append_right (own new.0 past) (own_at new.0 (clock past) i) x new.1)
    ]

req_stamp : (t : ℕ) (b : Body) (x : Item) → Contains (req_at t b) x → t ≤ stamp_of b
req_stamp t (Req stamp item) x =
    cond_both (eqb stamp t) (item ∷ []) [] (λ l. Contains l x → t ≤ stamp) (λ e h. let same : stamp ≡ t = eqb-true stamp t e in omega arith) (λ e h. absurd (omega (arith, h.1)))
req_stamp t body x = λ h. absurd (omega (arith, h.1))

-- a Req with a stamp among bodies: the greatest is no less
req_below : (t low : ℕ) (bodies : List Body) (x : Item) → Contains (flat_map (req_at t) bodies) x → t ≤ greatest low bodies
req_below t low [] x h = absurd (omega (arith, h.1))
req_below t low (b ∷ bs) x h =
    elim (Contains-append_cases (req_at t b) (flat_map (req_at t) bs) x h) [
      | inl a ↦
          let at : t ≤ stamp_of b = req_stamp t b x a in
          omega (arith, greatest-le (max low (stamp_of b)) bs)
      | inr rest ↦ req_below t (max low (stamp_of b)) bs x rest
    ]

greatest-wider : (a b : ℕ) (bodies : List Body) → a ≤ b → greatest a bodies ≤ greatest b bodies
greatest-wider a b [] le = le
greatest-wider a b (x ∷ xs) le = greatest-wider (max a (stamp_of x)) (max b (stamp_of x)) xs (omega arith)

least_is_above : (n : ℕ) (f : ℕ → ℕ) (t : ℕ) → t ≤ 2 ^ 64 - 1 → ((j : ℕ) → j < n → t ≤ f j) → t ≤ least_below n f
least_is_above zero f t small h = small
least_is_above (suc n) f t small h =
    let here : t ≤ f n = h n (omega arith) in
    let below : t ≤ least_below n f = least_is_above n f t small (λ j lt. h j (omega arith)) in
    omega (arith, here, below)

ack_stamp : (n k m i t : ℕ) (body : Body) (past : Inputs) (x : Item) → m < n → (i ≡ k → ⊥) → clock (Took i body ∷ past) < 2 ^ 64 - 1 → Contains (req_at t body) x
    → t ≤ greatest 0 (bodies_to m (sends_by n k (Took i body ∷ past)))
ack_stamp n k m i t (Req stamp item) past x lm ne low h =
    let le : t ≤ stamp = req_stamp t (Req stamp item) x h in
    let c : ℕ = top (max (clock past) stamp + 1) in
    let out : bodies_to m (sends_by n k (Took i (Req stamp item) ∷ past)) ≡ Ack c ∷ [] =
    ap (bodies_to m) (cond-false (eqb i k) [] (acks n c (Req stamp item)) (ne_eqb i k ne)) ∙ bodies_to_all n m (Ack c) lm in
    let e : greatest 0 (bodies_to m (sends_by n k (Took i (Req stamp item) ∷ past))) ≡ max 0 c = ap (greatest 0) out in
    omega (arith, e)
ack_stamp n k m i t body past x lm ne low h = absurd (omega (arith, h.1))

-- a member that took a Req from another has sent an Ack with a greater stamp
acked : (n k m j t : ℕ) (inputs : Inputs) (x : Item) → m < n → (j ≡ k → ⊥) → Unsaturated inputs → Contains (flat_map (req_at t) (taken j inputs)) x
    → t ≤ greatest 0 (sent (sends_by n) k m inputs)
acked n k m j t [] x lm ne low h = absurd (omega (arith, h.1))
acked n k m j t (Called order ∷ past) x lm ne low h =
    let old : t ≤ greatest 0 (sent (sends_by n) k m past) = acked n k m j t past x lm ne low.1 h in
    let more : greatest 0 (sent (sends_by n) k m past) ≤ greatest 0 (sent (sends_by n) k m (Called order ∷ past)) =
    greatest-prefix 0 (sent (sends_by n) k m past) (sent (sends_by n) k m (Called order ∷ past)) (IsPrefix-append (sent (sends_by n) k m past) (bodies_to m (sends_by n k (Called order ∷ past)))) in
    omega (arith, old, more)
acked n k m j t (Took i body ∷ past) x lm ne low h =
    let out : List Body = bodies_to m (sends_by n k (Took i body ∷ past)) in
    let more : greatest 0 (sent (sends_by n) k m past) ≤ greatest 0 (sent (sends_by n) k m past ++ out) =
    greatest-prefix 0 (sent (sends_by n) k m past) (sent (sends_by n) k m past ++ out) (IsPrefix-append (sent (sends_by n) k m past) out) in
    let old : Contains (flat_map (req_at t) (taken j past)) x → t ≤ greatest 0 (sent (sends_by n) k m past ++ out) =
    λ a. let le : t ≤ greatest 0 (sent (sends_by n) k m past) = acked n k m j t past x lm ne low.1 a in omega (arith, le, more) in
    cond_both (eqb i j) (taken j past ++ body ∷ []) (taken j past) (λ l. Contains (flat_map (req_at t) l) x → t ≤ greatest 0 (sent (sends_by n) k m past ++ out))
    (λ e c. elim (Contains-append_cases (flat_map (req_at t) (taken j past)) (req_at t body) x (subst (λ l. Contains l x) (flat_map_push (req_at t) (taken j past) body) c)) [
      | inl a ↦ old a
      | inr b ↦
          let new : t ≤ greatest 0 out = ack_stamp n k m i t body past x lm (λ same. ne (sym (eqb-true i j e) ∙ same)) low.0 b in
          let parts : greatest 0 (sent (sends_by n) k m past ++ out) ≡ greatest (greatest 0 (sent (sends_by n) k m past)) out = greatest-append 0 (sent (sends_by n) k m past) out in
          let wider : greatest 0 out ≤ greatest (greatest 0 (sent (sends_by n) k m past)) out = greatest-wider 0 (greatest 0 (sent (sends_by n) k m past)) out (omega arith) in
          omega (arith, new, parts, wider)
    ])
    (λ e. old)
    h

pub fulfilment : KeepsFulfilment sends_by delivers_by Lamport
fulfilment n past run quiet drained i li x h =
    let short : length past < 2 ^ 64 - 1 = let s : length past < 2 ^ 40 = run.short in omega arith in
    let one : (j : ℕ) × (j < n) × Contains (broadcasts (inputs_of j past)) x = broadcast_by_one n past run.fit x h in
    let j : ℕ = one.0 in
    let own_it : (t : ℕ) × Contains (own t (inputs_of j past)) x = stamped (inputs_of j past) x one.2 in
    let t : ℕ = own_it.0 in
    let link : (m : ℕ) → m < n → Contains (flat_map (req_at t) (sent_on (sends_by n) j m past)) x =
    λ m lt. subst (λ l. Contains l x) (sym (sent-own n j m t (inputs_of j past) lt)) own_it.1 in
    let heard_it : (k : ℕ) → k < n → t ≤ heard (inputs_of i past) k = λ k lk.
    let came : heard (inputs_of i past) k ≡ greatest 0 (sent_on (sends_by n) k i past) = ap (greatest 0) (sym (drained k i lk li)) in
    elim (cases_eq j k) [
      | inl e ↦
          let le : t ≤ greatest 0 (sent_on (sends_by n) j i past) = req_below t 0 (sent_on (sends_by n) j i past) x (link i li) in
          let le' : t ≤ greatest 0 (sent_on (sends_by n) k i past) = subst (λ a. t ≤ greatest 0 (sent_on (sends_by n) a i past)) e le in
          omega (arith, came, le')
      | inr ne ↦
          let took : Contains (flat_map (req_at t) (taken_on j k past)) x = subst (λ l. Contains (flat_map (req_at t) l) x) (drained j k one.1 lk) (link k lk) in
          let le : t ≤ greatest 0 (sent_on (sends_by n) k i past) = acked n k i j t (inputs_of k past) x li ne (clocks_fit n past run.fit short run.fifo k).0 took in
          omega (arith, came, le)
    ] in
    let limit : ℕ = least_below n (heard (inputs_of i past)) in
    let small : t ≤ 2 ^ 64 - 1 =
    let a : t ≤ heard (inputs_of i past) j = heard_it j one.1 in
    let b : heard (inputs_of i past) j ≤ clock (inputs_of j past) = heard-clock n past run j i li in
    let c : clock (inputs_of j past) ≤ length past = (clocks_fit n past run.fit short run.fifo j).1 in
    omega arith in
    let le : t ≤ limit = least_is_above n (heard (inputs_of i past)) t small heard_it in
    subst (λ l. Contains l x) (sym (delivered_is n past run i li))
    (each_below-has (suc limit) (λ u. each_below n (λ a. own u (inputs_of a past))) x t (omega arith)
    (each_below-has n (λ a. own t (inputs_of a past)) x j one.1 own_it.1))

-- the item of any Req
abbrev req_item : Body → List Item
req_item (Req stamp item) = item ∷ []
req_item body = []

-- how many Reqs were taken
abbrev reqs : Inputs → ℕ
reqs [] = 0
reqs (Called order ∷ past) = reqs past
reqs (Took from body ∷ past) = reqs past + length (req_item body)

reqs_by_members : (n : ℕ) (inputs : Inputs) → SendersFit n inputs → sum_below n (λ j. length (flat_map req_item (taken j inputs))) ≡ reqs inputs
reqs_by_members n [] fit = sum_below-none n
reqs_by_members n (Called order ∷ past) fit = reqs_by_members n past fit
reqs_by_members n (Took k body ∷ past) fit =
    let now : ℕ → ℕ = λ j. length (flat_map req_item (taken j (Took k body ∷ past))) in
    let before : ℕ → ℕ = λ j. length (flat_map req_item (taken j past)) in
    let here : now k ≡ before k + length (req_item body) =
    ap (λ l. length (flat_map req_item l)) (taken_here k k body past refl) ∙ ap length (flat_map_push req_item (taken k past) body)
    ∙ length-append (flat_map req_item (taken k past)) (req_item body) in
    let away : (j : ℕ) → (k ≡ j → ⊥) → now j ≡ before j = λ j ne. ap (λ l. length (flat_map req_item l)) (taken_away j k body past ne) in
    let more : sum_below n now ≡ sum_below n before + length (req_item body) = sum_below-more n k (length (req_item body)) before now fit.0 here away in
    omega (arith, more, reqs_by_members n past fit.1)

no_reqs : (n m c : ℕ) (b : Bool) (body : Body) → m < n → flat_map req_item (bodies_to m (cond b [] (acks n c body))) ≡ []
no_reqs n m c true body lt = refl
no_reqs n m c false (Req stamp item) lt = ap (flat_map req_item) (bodies_to_all n m (Ack c) lt)
no_reqs n m c false body lt = refl

reqs_at : (n j m : ℕ) (i : Input Order Body) (past : Inputs) → m < n → flat_map req_item (bodies_to m (sends_by n j (i ∷ past))) ≡ broadcast_at i
reqs_at n j m (Called (Broadcast item)) past lt = ap (flat_map req_item) (bodies_to_all n m (Req (top (clock past + 1)) item) lt)
reqs_at n j m (Called (Suspect who)) past lt = refl
reqs_at n j m (Called (Trust who)) past lt = refl
reqs_at n j m (Took from body) past lt = no_reqs n m (clock (Took from body ∷ past)) (eqb from j) body lt

sent-reqs : (n j m : ℕ) (inputs : Inputs) → m < n → flat_map req_item (sent (sends_by n) j m inputs) ≡ broadcasts inputs
sent-reqs n j m [] lt = refl
sent-reqs n j m (i ∷ past) lt =
    flat_map-append req_item (sent (sends_by n) j m past) (bodies_to m (sends_by n j (i ∷ past)))
    ∙ ap (λ l. flat_map req_item (sent (sends_by n) j m past) ++ l) (reqs_at n j m i past lt)
    ∙ ap (λ l. l ++ broadcast_at i) (sent-reqs n j m past lt)

length_is_sum : (xs : List Item) → sum_by (λ _. 1) xs ≡ length xs
length_is_sum [] = refl
length_is_sum (x ∷ xs) = omega (arith, sum_by-cons (λ (_ : Item). 1) x xs, length_is_sum xs)

prefix-length : {A : Type 0} (xs ys : List A) → IsPrefix xs ys → length xs ≤ length ys
prefix-length xs ys p = omega (arith, ap length p.1, length-append xs p.0)

-- no member took more Reqs than items were broadcast
reqs_le : (n : ℕ) (past : Steps) → IsRunOf n past → (m : ℕ) → m < n → reqs (inputs_of m past) ≤ length (broadcast_in past)
reqs_le n past run m lt =
    let took : ℕ → ℕ = λ j. length (flat_map req_item (taken j (inputs_of m past))) in
    let made : ℕ → ℕ = λ j. sum_by (λ _. 1) (broadcasts (inputs_of j past)) in
    let a : sum_below n took ≡ reqs (inputs_of m past) = reqs_by_members n (inputs_of m past) (senders_fit n past m run.fit) in
    let b : sum_below n took ≤ sum_below n made =
    sum_below-le n took made
    (λ j within.
    let p : length (flat_map req_item (taken_on j m past)) ≤ length (flat_map req_item (sent_on (sends_by n) j m past)) =
    prefix-length (flat_map req_item (taken_on j m past)) (flat_map req_item (sent_on (sends_by n) j m past))
    (IsPrefix-flat_map req_item (taken_on j m past) (sent_on (sends_by n) j m past) (taken_on-begins (sends_by n) past run.fifo j m)) in
    let q : length (flat_map req_item (sent_on (sends_by n) j m past)) ≡ length (broadcasts (inputs_of j past)) = ap length (sent-reqs n j m (inputs_of j past) lt) in
    omega (arith, p, q, length_is_sum (broadcasts (inputs_of j past)))) in
    let c : sum_below n made ≡ sum_by (λ _. 1) (broadcast_in past) = sum_by_members (λ _. 1) n past run.fit in
    omega (arith, a, b, c, length_is_sum (broadcast_in past))

ack_count : (n c k : ℕ) (own : Bool) (body : Body) → length (cond own [] (acks n c body)) + n * k ≤ n * 0 + n * (k + length (req_item body))
ack_count n c k true body = omega arith
ack_count n c k false (Req stamp item) = omega (arith, length-to_all n (Ack c))
ack_count n c k false body = omega arith

reqs_grow : (i : Input Order Body) (past : Inputs) → reqs past ≤ reqs (i ∷ past)
reqs_grow (Called order) past = omega arith
reqs_grow (Took from body) past = omega arith

sends_count : (n at : ℕ) (i : Input Order Body) (inputs : Inputs)
    → length (sends_by n at (i ∷ inputs)) + n * reqs inputs ≤ n * length (broadcast_at i) + n * reqs (i ∷ inputs)
sends_count n at (Called (Broadcast item)) inputs = omega (arith, length-to_all n (Req (top (clock inputs + 1)) item))
sends_count n at (Called (Suspect who)) inputs = omega arith
sends_count n at (Called (Trust who)) inputs = omega arith
sends_count n at (Took from body) inputs = ack_count n (clock (Took from body ∷ inputs)) (reqs inputs) (eqb from at) body

sent_is : (n : ℕ) (past : Steps) → StepsFit n past → sent_in (sends_by n) past ≤ n * length (broadcast_in past) + n * sum_below n (λ m. reqs (inputs_of m past))
sent_is n [] fit = omega arith
sent_is n (s ∷ past) fit =
    let now : ℕ → ℕ = λ m. reqs (inputs_of m (s ∷ past)) in
    let before : ℕ → ℕ = λ m. reqs (inputs_of m past) in
    let grown : ℕ = reqs (s.input ∷ inputs_of s.at past) - reqs (inputs_of s.at past) in
    let up : reqs (inputs_of s.at past) ≤ reqs (s.input ∷ inputs_of s.at past) = reqs_grow s.input (inputs_of s.at past) in
    let here : now s.at ≡ before s.at + grown = let e : now s.at ≡ reqs (s.input ∷ inputs_of s.at past) = ap reqs (inputs_here s.at s past refl) in omega arith in
    let away : (j : ℕ) → (s.at ≡ j → ⊥) → now j ≡ before j = λ j ne. ap reqs (inputs_away j s past ne) in
    let more : sum_below n now ≡ sum_below n before + grown = sum_below-more n s.at grown before now fit.0 here away in
    let step : length (sends_by n s.at (s.input ∷ inputs_of s.at past)) + n * reqs (inputs_of s.at past) ≤ n * length (broadcast_at s.input) + n * reqs (s.input ∷ inputs_of s.at past) =
    sends_count n s.at s.input (inputs_of s.at past) in
    let whole : reqs (s.input ∷ inputs_of s.at past) ≡ reqs (inputs_of s.at past) + grown = omega arith in
    let wide : n * reqs (s.input ∷ inputs_of s.at past) ≡ n * (reqs (inputs_of s.at past) + grown) = ap (λ k. n * k) whole in
    let sums : n * sum_below n now ≡ n * (sum_below n before + grown) = ap (λ k. n * k) more in
    let parts : n * length (broadcast_at s.input ++ broadcast_in past) ≡ n * (length (broadcast_at s.input) + length (broadcast_in past)) = ap (λ k. n * k) (length-append (broadcast_at s.input) (broadcast_in past)) in
    let old : sent_in (sends_by n) past ≤ n * length (broadcast_in past) + n * sum_below n before = sent_is n past fit.2 in
    omega (arith, step, wide, sums, parts, old)

sum_at_most : (n : ℕ) (f : ℕ → ℕ) (d : ℕ) → ((j : ℕ) → j < n → f j ≤ d) → sum_below n f ≤ n * d
sum_at_most zero f d h = omega arith
sum_at_most (suc n) f d h =
    let here : f n ≤ d = h n (omega arith) in
    let below : sum_below n f ≤ n * d = sum_at_most n f d (λ j lt. h j (omega arith)) in
    omega (arith, here, below)

pub bound : KeepsBound sends_by Lamport
bound n past run quiet =
    let b : ℕ = length (broadcast_in past) in
    let total : ℕ = sum_below n (λ m. reqs (inputs_of m past)) in
    let few : total ≤ n * b = sum_at_most n (λ m. reqs (inputs_of m past)) b (λ m lt. reqs_le n past run m lt) in
    let wide : n * total ≤ n * (n * b) = mul-le-mul_left n few in
    omega (arith, sent_is n past run.fit, wide)

never_acks : (n c : ℕ) (body : Body) → NeverIn (acks n c body)
never_acks n c (Req stamp item) = never-to_all n (Ack c) refl
never_acks n c body = refl

pub never_past : NeverSaysPast sends_by
never_past n m [] = refl
never_past n m (Called (Broadcast item) ∷ past) = never-to_all n (Req (clock (Called (Broadcast item) ∷ past)) item) refl
never_past n m (Called (Suspect who) ∷ past) = refl
never_past n m (Called (Trust who) ∷ past) = refl
never_past n m (Took from body ∷ past) = elim (eqb from m) as (λ b. NeverIn (cond b [] (acks n (clock (Took from body ∷ past)) body))) [
  | true ↦ refl
  | false ↦ never_acks n (clock (Took from body ∷ past)) body
]

pub agreement_of : (kind : Kind) → is_lamport kind ≡ true → KeepsAgreement (sends_of kind) (delivers_of kind) kind
agreement_of (Sequencer s) e = absurd (false≢true e)
agreement_of Lamport e = agreement
agreement_of Consensus e = absurd (false≢true e)

pub integrity_of : (kind : Kind) → is_lamport kind ≡ true → KeepsIntegrity (sends_of kind) (delivers_of kind) kind
integrity_of (Sequencer s) e = absurd (false≢true e)
integrity_of Lamport e = integrity
integrity_of Consensus e = absurd (false≢true e)

pub fulfilment_of : (kind : Kind) → is_lamport kind ≡ true → KeepsFulfilment (sends_of kind) (delivers_of kind) kind
fulfilment_of (Sequencer s) e = absurd (false≢true e)
fulfilment_of Lamport e = fulfilment
fulfilment_of Consensus e = absurd (false≢true e)

pub bound_of : (kind : Kind) → is_lamport kind ≡ true → KeepsBound (sends_of kind) kind
bound_of (Sequencer s) e = absurd (false≢true e)
bound_of Lamport e = bound
bound_of Consensus e = absurd (false≢true e)

pub never_past_of : (kind : Kind) → is_lamport kind ≡ true → NeverSaysPast (sends_of kind)
never_past_of (Sequencer s) e = absurd (false≢true e)
never_past_of Lamport e = never_past
never_past_of Consensus e = absurd (false≢true e)
