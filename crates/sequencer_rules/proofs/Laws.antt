use Rattle.std.proofs.Common.{ℕ, ◌≡◌, ◌+◌, ◌*◌, ◌<◌, ◌≤◌, inl, inr, eqb, true, false, cond, List, [], ◌∷◌, ◌++◌, length, refl, sym, ap, subst, arith, length-append}
use Rattle.std.specs.List.{flat_map, Contains, sum_by}
use Rattle.upd_base.proofs.Fits.{sequencer_below}
use Rattle.std.proofs.lemmas.Bool.{cond-true, cond-false, cases_eq, eq-eqb, ne_eqb, false≢true}
use Rattle.std.proofs.lemmas.List.Sums.{sum_by-cons}
use Rattle.std.proofs.Math.Nat.{mul-le-mul_left}
use Rattle.fifo_net.specs.Net.{Input, Called, Took, Step, inputs_of, taken, taken_on, sent_on, IsPrefix}
use Rattle.fifo_net.proofs.Links.{inputs_step, inputs_here, inputs_away, taken_on-begins, prefixes_agree, IsPrefix-self}
use Rattle.fifo_net.proofs.Lists.{IsPrefix-flat_map, Contains-prefix, sum_by-prefix}
use Rattle.upd_base.specs.Item.{has_id}
use Rattle.upd_base.specs.declared.kind.Kind.{Kind}
use Rattle.upd_base.specs.declared.kind.Kind.TheVariants.{Sequencer, Lamport, Consensus}
use Rattle.upd_base.specs.declared.item.Item.{Item}
use Rattle.upd_base.specs.declared.body.Body.{Body}
use Rattle.upd_base.specs.declared.body.Body.TheVariants.{Ask, Ord}
use Rattle.order_trait.specs.Runs.{Order, Broadcast, Suspect, Trust, Inputs, Steps, IsModuleRun, broadcast_in, broadcast_at, sent_in, KeepsAgreement, KeepsIntegrity, KeepsFulfilment, KeepsBound, NeverSaysPast}
use Rattle.order_trait.proofs.Sends.{NeverIn, never-to_all, length-to_all, senders_fit}
use Rattle.order_trait.proofs.Sums.{sum_below, sum_below-le}
use Rattle.order_trait.proofs.Broadcasts.{broadcasts, broadcasts_among, broadcast_by_one, sum_by_members, broadcast_once}
use Rattle.sequencer_rules.specs.Sequencer.{is_sequencer, ask_item, ord_item, asked, passes_on, place_of, sends_by, sends_of, delivers_by, delivers_of}
use Rattle.sequencer_rules.proofs.Asked.{delivers-grow, sent-ords, sent-asks, asked_by_one, asked_among, asked_by_members}

abbrev IsRunOf : ℕ → ℕ → Steps → Type 0
IsRunOf s n past = IsModuleRun (sends_by s) (Sequencer s) n past

-- what was delivered anywhere begins what the sequencer was asked
delivered_begins : (s n : ℕ) (past : Steps) → IsRunOf s n past → (i : ℕ) → i < n
    → IsPrefix (delivers_by s (inputs_of i past)) (asked (inputs_of s past))
delivered_begins s n past run i lt =
    subst (λ l. IsPrefix (delivers_by s (inputs_of i past)) l) (sent-ords s n i (inputs_of s past) lt)
    (IsPrefix-flat_map ord_item (taken_on s i past) (sent_on (sends_by s n) s i past) (taken_on-begins (sends_by s n) past run.fifo s i))

-- what a member asked and the sequencer took begins what the member broadcast
asked_begins : (s n : ℕ) (past : Steps) → IsRunOf s n past → (j : ℕ)
    → IsPrefix (flat_map ask_item (taken_on j s past)) (broadcasts (inputs_of j past))
asked_begins s n past run j =
    subst (λ l. IsPrefix (flat_map ask_item (taken_on j s past)) l) (sent-asks s n j (inputs_of j past) (sequencer_below n s run.kind_fits))
    (IsPrefix-flat_map ask_item (taken_on j s past) (sent_on (sends_by s n) j s past) (taken_on-begins (sends_by s n) past run.fifo j s))

pub agreement : (s : ℕ) → KeepsAgreement (sends_by s) (λ n me inputs. delivers_by s inputs) (Sequencer s)
agreement s = record {
  agree = λ n past run i j li lj.
      prefixes_agree (delivers_by s (inputs_of i past)) (delivers_by s (inputs_of j past)) (asked (inputs_of s past))
      (delivered_begins s n past run i li) (delivered_begins s n past run j lj);
  grows = λ n st past run i li.
      inputs_step (λ l. IsPrefix (delivers_by s (inputs_of i past)) (delivers_by s l)) i st past
      (λ e. delivers-grow s st.input (inputs_of i past))
      (IsPrefix-self (delivers_by s (inputs_of i past)));
  takes = λ n m order inputs. refl;
}

asked_broadcast : (s n : ℕ) (past : Steps) → IsRunOf s n past → (x : Item) → Contains (asked (inputs_of s past)) x → Contains (broadcast_in past) x
asked_broadcast s n past run x h =
    let one : (j : ℕ) × Contains (flat_map ask_item (taken_on j s past)) x = asked_by_one (inputs_of s past) x h in
    broadcasts_among past one.0 x (Contains-prefix (flat_map ask_item (taken_on one.0 s past)) (broadcasts (inputs_of one.0 past)) x (asked_begins s n past run one.0) one.1)

-- no more was asked than was broadcast
asked_le : (s n : ℕ) (past : Steps) → IsRunOf s n past → (f : Item → ℕ) → sum_by f (asked (inputs_of s past)) ≤ sum_by f (broadcast_in past)
asked_le s n past run f =
    let took : ℕ → ℕ = λ j. sum_by f (flat_map ask_item (taken j (inputs_of s past))) in
    let broadcast : ℕ → ℕ = λ j. sum_by f (broadcasts (inputs_of j past)) in
    let a : sum_below n took ≡ sum_by f (asked (inputs_of s past)) = asked_by_members f n (inputs_of s past) (senders_fit n past s run.fit) in
    let b : sum_below n took ≤ sum_below n broadcast =
    sum_below-le n took broadcast (λ j lt. sum_by-prefix f (flat_map ask_item (taken_on j s past)) (broadcasts (inputs_of j past)) (asked_begins s n past run j)) in
    let c : sum_below n broadcast ≡ sum_by f (broadcast_in past) = sum_by_members f n past run.fit in
    omega (arith, a, b, c)

pub integrity : (s : ℕ) → KeepsIntegrity (sends_by s) (λ n me inputs. delivers_by s inputs) (Sequencer s)
integrity s = record {
  broadcast = λ n past run i li x h.
      asked_broadcast s n past run x (Contains-prefix (delivers_by s (inputs_of i past)) (asked (inputs_of s past)) x (delivered_begins s n past run i li) h);
  once = λ n past run i li id.
      let f : Item → ℕ = λ x. cond (has_id id x) 1 0 in
      let a : sum_by f (delivers_by s (inputs_of i past)) ≤ sum_by f (asked (inputs_of s past)) =
      sum_by-prefix f (delivers_by s (inputs_of i past)) (asked (inputs_of s past)) (delivered_begins s n past run i li) in
      let b : sum_by f (asked (inputs_of s past)) ≤ sum_by f (broadcast_in past) = asked_le s n past run f in
      let c : sum_by f (broadcast_in past) ≤ 1 = broadcast_once n past run.fit id in
      omega (arith, a, b, c);
}

pub fulfilment : (s : ℕ) → KeepsFulfilment (sends_by s) (λ n me inputs. delivers_by s inputs) (Sequencer s)
fulfilment s n past run quiet drained i li x h =
    let one : (j : ℕ) × (j < n) × Contains (broadcasts (inputs_of j past)) x = broadcast_by_one n past run.fit x h in
    let sent_it : Contains (flat_map ask_item (sent_on (sends_by s n) one.0 s past)) x =
    subst (λ l. Contains l x) (sym (sent-asks s n one.0 (inputs_of one.0 past) (sequencer_below n s run.kind_fits))) one.2 in
    let took_it : Contains (flat_map ask_item (taken_on one.0 s past)) x =
    subst (λ l. Contains (flat_map ask_item l) x) (drained one.0 s one.1 (sequencer_below n s run.kind_fits)) sent_it in
    let asked_it : Contains (asked (inputs_of s past)) x = asked_among (inputs_of s past) one.0 x took_it in
    let ordered : Contains (flat_map ord_item (sent_on (sends_by s n) s i past)) x =
    subst (λ l. Contains l x) (sym (sent-ords s n i (inputs_of s past) li)) asked_it in
    subst (λ l. Contains (flat_map ord_item l) x) (drained s i (sequencer_below n s run.kind_fits) li) ordered

-- a broadcast sends one body, and an Ask that the sequencer takes sends n
length-passes_on : (n j : ℕ) (body : Body) → length (passes_on n j body) ≡ n * length (ask_item body)
length-passes_on n j (Ask item) = omega (arith, length-to_all n (Ord (place_of j) item))
length-passes_on n j body = omega arith

sent_here : (s n : ℕ) (x : Input Order Body) (inputs : Inputs)
    → length (sends_by s n s (x ∷ inputs)) + n * length (asked inputs) ≡ length (broadcast_at x) + n * length (asked (x ∷ inputs))
sent_here s n (Called (Broadcast item)) inputs = refl
sent_here s n (Called (Suspect who)) inputs = refl
sent_here s n (Called (Trust who)) inputs = refl
sent_here s n (Took from body) inputs =
    let out : List (ℕ × Body) = passes_on n (length (asked inputs) + 1) body in
    let a : length out ≡ n * length (ask_item body) = length-passes_on n (length (asked inputs) + 1) body in
    let b : n * length (asked inputs ++ ask_item body) ≡ n * (length (asked inputs) + length (ask_item body)) = ap (λ k. n * k) (length-append (asked inputs) (ask_item body)) in
    let c : length (cond (eqb s s) out []) ≡ length out = ap length (cond-true (eqb s s) out [] (eq-eqb s s refl)) in
    omega (arith, a, b, c)

sent_away : (s n at : ℕ) → (at ≡ s → ⊥) → (x : Input Order Body) (inputs : Inputs) → length (sends_by s n at (x ∷ inputs)) ≡ length (broadcast_at x)
sent_away s n at ne (Called (Broadcast item)) inputs = refl
sent_away s n at ne (Called (Suspect who)) inputs = refl
sent_away s n at ne (Called (Trust who)) inputs = refl
sent_away s n at ne (Took from body) inputs = ap length (cond-false (eqb at s) (passes_on n (length (asked inputs) + 1) body) [] (ne_eqb at s ne))

sent_at : (s n : ℕ) (st : Step Order Body) (past : Steps)
    → length (sends_by s n st.at (st.input ∷ inputs_of st.at past)) + n * length (asked (inputs_of s past))
    ≡ length (broadcast_at st.input) + n * length (asked (inputs_of s (st ∷ past)))
sent_at s n st past =
    elim (cases_eq st.at s) [
      | inl e ↦
          subst (λ k. length (sends_by s n k (st.input ∷ inputs_of k past)) + n * length (asked (inputs_of s past)) ≡ length (broadcast_at st.input) + n * length (asked (inputs_of s (st ∷ past)))) (sym e)
          (subst (λ l. length (sends_by s n s (st.input ∷ inputs_of s past)) + n * length (asked (inputs_of s past)) ≡ length (broadcast_at st.input) + n * length (asked l)) (sym (inputs_here s st past e))
          (sent_here s n st.input (inputs_of s past)))
      | inr ne ↦
          subst (λ l. length (sends_by s n st.at (st.input ∷ inputs_of st.at past)) + n * length (asked (inputs_of s past)) ≡ length (broadcast_at st.input) + n * length (asked l)) (sym (inputs_away s st past ne))
          (ap (λ k. k + n * length (asked (inputs_of s past))) (sent_away s n st.at ne st.input (inputs_of st.at past)))
    ]

sent_is : (s n : ℕ) (past : Steps) → sent_in (sends_by s n) past ≡ length (broadcast_in past) + n * length (asked (inputs_of s past))
sent_is s n [] = omega arith
sent_is s n (st ∷ past) =
    let old : sent_in (sends_by s n) past ≡ length (broadcast_in past) + n * length (asked (inputs_of s past)) = sent_is s n past in
    let parts : length (broadcast_at st.input ++ broadcast_in past) ≡ length (broadcast_at st.input) + length (broadcast_in past) = length-append (broadcast_at st.input) (broadcast_in past) in
    let step : length (sends_by s n st.at (st.input ∷ inputs_of st.at past)) + n * length (asked (inputs_of s past))
    ≡ length (broadcast_at st.input) + n * length (asked (inputs_of s (st ∷ past))) = sent_at s n st past in
    omega (arith, old, parts, step)

length_is_sum : (xs : List Item) → sum_by (λ _. 1) xs ≡ length xs
length_is_sum [] = refl
length_is_sum (x ∷ xs) = omega (arith, sum_by-cons (λ (_ : Item). 1) x xs, length_is_sum xs)

pub bound : (s : ℕ) → KeepsBound (sends_by s) (Sequencer s)
bound s n past run quiet =
    let b : ℕ = length (broadcast_in past) in
    let a : ℕ = length (asked (inputs_of s past)) in
    let fewer : a ≤ b =
    let le : sum_by (λ _. 1) (asked (inputs_of s past)) ≤ sum_by (λ _. 1) (broadcast_in past) = asked_le s n past run (λ _. 1) in
    omega (arith, le, length_is_sum (asked (inputs_of s past)), length_is_sum (broadcast_in past)) in
    omega (arith, sent_is s n past, mul-le-mul_left n fewer, mul-le-mul_left b run.some)

-- what the sequencer passes on says of no version that it is past
never_passed : (n j : ℕ) (body : Body) → NeverIn (passes_on n j body)
never_passed n j (Ask item) = never-to_all n (Ord (place_of j) item) refl
never_passed n j body = refl

pub never_past : (s : ℕ) → NeverSaysPast (sends_by s)
never_past s n m [] = refl
never_past s n m (Called (Broadcast item) ∷ past) = refl
never_past s n m (Called (Suspect who) ∷ past) = refl
never_past s n m (Called (Trust who) ∷ past) = refl
never_past s n m (Took from body ∷ past) = elim (eqb m s) as (λ b. NeverIn (cond b (passes_on n (length (asked past) + 1) body) [])) [
  | true ↦ never_passed n (length (asked past) + 1) body
  | false ↦ refl
]

-- the laws at any kind that is served
pub agreement_of : (kind : Kind) → is_sequencer kind ≡ true → KeepsAgreement (sends_of kind) (delivers_of kind) kind
agreement_of (Sequencer s) e = agreement s
agreement_of Lamport e = absurd (false≢true e)
agreement_of Consensus e = absurd (false≢true e)

pub integrity_of : (kind : Kind) → is_sequencer kind ≡ true → KeepsIntegrity (sends_of kind) (delivers_of kind) kind
integrity_of (Sequencer s) e = integrity s
integrity_of Lamport e = absurd (false≢true e)
integrity_of Consensus e = absurd (false≢true e)

pub fulfilment_of : (kind : Kind) → is_sequencer kind ≡ true → KeepsFulfilment (sends_of kind) (delivers_of kind) kind
fulfilment_of (Sequencer s) e = fulfilment s
fulfilment_of Lamport e = absurd (false≢true e)
fulfilment_of Consensus e = absurd (false≢true e)

pub bound_of : (kind : Kind) → is_sequencer kind ≡ true → KeepsBound (sends_of kind) kind
bound_of (Sequencer s) e = bound s
bound_of Lamport e = absurd (false≢true e)
bound_of Consensus e = absurd (false≢true e)

pub never_past_of : (kind : Kind) → is_sequencer kind ≡ true → NeverSaysPast (sends_of kind)
never_past_of (Sequencer s) e = never_past s
never_past_of Lamport e = absurd (false≢true e)
never_past_of Consensus e = absurd (false≢true e)
