use Rattle.std.proofs.Common.{ℕ, ◌≡◌, ◌+◌, ◌<◌, inl, inr, eqb, Bool, true, false, cond, List, [], ◌∷◌, ◌++◌, length, refl, sym, ap, ◌∙◌, subst, append-nil, arith}
use Rattle.std.specs.List.{flat_map, Contains, sum_by}
use Rattle.std.proofs.lemmas.Bool.{cond_both, cond-true, eq-eqb}
use Rattle.std.proofs.lemmas.List.{append_cancel_left}
use Rattle.std.proofs.lemmas.List.Concat.{flat_map-append}
use Rattle.std.proofs.lemmas.List.Elements.{Contains-append_left, Contains-append_right, Contains-append_cases}
use Rattle.std.proofs.lemmas.List.Sums.{sum_by-append}
use Rattle.fifo_net.specs.Net.{Input, Called, Took, taken, sent, bodies_to, IsPrefix}
use Rattle.fifo_net.proofs.Links.{taken_here, taken_away, IsPrefix-self}
use Rattle.fifo_net.proofs.Lists.{flat_map_push}
use Rattle.upd_base.specs.declared.item.Item.{Item}
use Rattle.upd_base.specs.declared.body.Body.{Body}
use Rattle.upd_base.specs.declared.body.Body.TheVariants.{Ask, Ord}
use Rattle.order_trait.specs.Runs.{Order, Broadcast, Suspect, Trust, Inputs, broadcast_at}
use Rattle.order_trait.proofs.Sends.{bodies_to_all, SendersFit}
use Rattle.order_trait.proofs.Sums.{sum_below, sum_below-none, sum_below-more}
use Rattle.order_trait.proofs.Broadcasts.{broadcasts}
use Rattle.sequencer_rules.specs.Sequencer.{ask_item, ord_item, asked, passes_on, place_of, sends_by, delivers_by}

-- what a body that is taken adds to what was delivered
pub delivers_took : (s from : ℕ) (body : Body) (past : Inputs)
    → delivers_by s (Took from body ∷ past) ≡ delivers_by s past ++ cond (eqb from s) (ord_item body) []
delivers_took s from body past =
    elim (eqb from s) as (λ b. flat_map ord_item (cond b (taken s past ++ body ∷ []) (taken s past)) ≡ flat_map ord_item (taken s past) ++ cond b (ord_item body) []) [
      | true ↦ flat_map_push ord_item (taken s past) body
      | false ↦ sym (append-nil (flat_map ord_item (taken s past)))
    ]

pub took_more : (s from : ℕ) (body : Body) (past : Inputs) (more : List Item) → delivers_by s (Took from body ∷ past) ≡ delivers_by s past ++ more
    → more ≡ cond (eqb from s) (ord_item body) []
took_more s from body past more e = append_cancel_left (delivers_by s past) more (cond (eqb from s) (ord_item body) []) (sym e ∙ delivers_took s from body past)

same_cond : (b : Bool) → ◌≡◌ {A = List Item} (cond b [] []) []
same_cond b = elim b as (λ b. ◌≡◌ {A = List Item} (cond b [] []) []) [ true ↦ refl | false ↦ refl ]

-- nothing is delivered at a body that is no Ord
pub took_none : (s from : ℕ) (body : Body) (past : Inputs) (more delivered : List Item) → ord_item body ≡ [] → delivers_by s (Took from body ∷ past) ≡ delivers_by s past ++ more
    → delivered ≡ delivered ++ more
took_none s from body past more delivered none e =
    sym (append-nil delivered) ∙ ap (λ l. delivered ++ l) (sym (took_more s from body past more e ∙ ap (λ l. cond (eqb from s) l []) none ∙ same_cond (eqb from s)))

-- a body that is neither an Ask nor an Ord
pub record IsOther (body : Body) : Type 0 where
  pub asks : ask_item body ≡ []
  pub orders : ord_item body ≡ []
  pub passes : (n j : ℕ) → passes_on n j body ≡ []

pub other : (body : Body) → ((item : Item) → body ≡ Ask item → ⊥) → ((place : ℕ) (item : Item) → body ≡ Ord place item → ⊥) → IsOther body
other (Ask item) a o = absurd (a item refl)
other (Ord place item) a o = absurd (o place item refl)
other body a o = record { asks = refl; orders = refl; passes = λ n j. refl }

pub delivers-grow : (s : ℕ) (x : Input Order Body) (past : Inputs) → IsPrefix (delivers_by s past) (delivers_by s (x ∷ past))
delivers-grow s (Called order) past = IsPrefix-self (delivers_by s past)
delivers-grow s (Took from body) past = (cond (eqb from s) (ord_item body) [], delivers_took s from body past)

-- The sequencer sends the items of the Asks that it took, in that order, to each member.
passed_on : (n m j : ℕ) (body : Body) → m < n → flat_map ord_item (bodies_to m (passes_on n j body)) ≡ ask_item body
passed_on n m j (Ask item) lt = ap (flat_map ord_item) (bodies_to_all n m (Ord (place_of j) item) lt)
passed_on n m j body lt = refl

no_ord : (s m : ℕ) (item : Item) → flat_map ord_item (bodies_to m ((s, Ask item) ∷ [])) ≡ []
no_ord s m item = elim (eqb s m) as (λ b. flat_map ord_item (cond b (Ask item ∷ []) []) ≡ []) [ true ↦ refl | false ↦ refl ]

pub sent-ords : (s n m : ℕ) (inputs : Inputs) → m < n → flat_map ord_item (sent (sends_by s n) s m inputs) ≡ asked inputs
sent-ords s n m [] lt = refl
sent-ords s n m (Called (Broadcast item) ∷ past) lt =
    flat_map-append ord_item (sent (sends_by s n) s m past) (bodies_to m ((s, Ask item) ∷ []))
    ∙ ap (λ l. flat_map ord_item (sent (sends_by s n) s m past) ++ l) (no_ord s m item)
    ∙ append-nil (flat_map ord_item (sent (sends_by s n) s m past)) ∙ sent-ords s n m past lt
sent-ords s n m (Called (Suspect who) ∷ past) lt = ap (flat_map ord_item) (append-nil (sent (sends_by s n) s m past)) ∙ sent-ords s n m past lt
sent-ords s n m (Called (Trust who) ∷ past) lt = ap (flat_map ord_item) (append-nil (sent (sends_by s n) s m past)) ∙ sent-ords s n m past lt
sent-ords s n m (Took from body ∷ past) lt =
    let out : List (ℕ × Body) = passes_on n (length (asked past) + 1) body in
    flat_map-append ord_item (sent (sends_by s n) s m past) (bodies_to m (cond (eqb s s) out []))
    ∙ ap (λ l. flat_map ord_item (sent (sends_by s n) s m past) ++ l)
    (ap (λ l. flat_map ord_item (bodies_to m l)) (cond-true (eqb s s) out [] (eq-eqb s s refl)) ∙ passed_on n m (length (asked past) + 1) body lt)
    ∙ ap (λ l. l ++ ask_item body) (sent-ords s n m past lt)

-- A member asks the sequencer for each item that it broadcasts, in that order.
no_ask : (n m j : ℕ) (b : Bool) (body : Body) → m < n → flat_map ask_item (bodies_to m (cond b (passes_on n j body) [])) ≡ []
no_ask n m j false body lt = refl
no_ask n m j true (Ask item) lt = ap (flat_map ask_item) (bodies_to_all n m (Ord (place_of j) item) lt)
no_ask n m j true body lt = refl

asks_at : (s n j : ℕ) (x : Input Order Body) (past : Inputs) → s < n → flat_map ask_item (bodies_to s (sends_by s n j (x ∷ past))) ≡ broadcast_at x
asks_at s n j (Called (Broadcast item)) past lt = ap (flat_map ask_item) (cond-true (eqb s s) (Ask item ∷ []) [] (eq-eqb s s refl))
asks_at s n j (Called (Suspect who)) past lt = refl
asks_at s n j (Called (Trust who)) past lt = refl
asks_at s n j (Took from body) past lt = no_ask n s (length (asked past) + 1) (eqb j s) body lt

pub sent-asks : (s n j : ℕ) (inputs : Inputs) → s < n → flat_map ask_item (sent (sends_by s n) j s inputs) ≡ broadcasts inputs
sent-asks s n j [] lt = refl
sent-asks s n j (x ∷ past) lt =
    flat_map-append ask_item (sent (sends_by s n) j s past) (bodies_to s (sends_by s n j (x ∷ past)))
    ∙ ap (λ l. flat_map ask_item (sent (sends_by s n) j s past) ++ l) (asks_at s n j x past lt)
    ∙ ap (λ l. l ++ broadcast_at x) (sent-asks s n j past lt)

-- What was asked is what was asked by each member, in some order.
pub asked_by_one : (inputs : Inputs) (x : Item) → Contains (asked inputs) x → (j : ℕ) × Contains (flat_map ask_item (taken j inputs)) x
asked_by_one [] x h = absurd (omega (arith, h.1))
asked_by_one (Called order ∷ past) x h = asked_by_one past x h
asked_by_one (Took k body ∷ past) x h =
    elim (Contains-append_cases (asked past) (ask_item body) x h) [
      | inl a ↦
          let old : (j : ℕ) × Contains (flat_map ask_item (taken j past)) x = asked_by_one past x a in (
            old.0,
            cond_both (eqb k old.0) (taken old.0 past ++ body ∷ []) (taken old.0 past) (λ l. Contains (flat_map ask_item l) x)
                (λ e. subst (λ l. Contains l x) (sym (flat_map_push ask_item (taken old.0 past) body)) (Contains-append_left (flat_map ask_item (taken old.0 past)) (ask_item body) x old.1))
                (λ e. old.1),
          )
      | inr b ↦ (
        k,
        subst (λ l. Contains l x) (sym (ap (flat_map ask_item) (taken_here k k body past refl) ∙ flat_map_push ask_item (taken k past) body))
            (Contains-append_right (flat_map ask_item (taken k past)) (ask_item body) x b),
      )
    ]

pub asked_among : (inputs : Inputs) (j : ℕ) (x : Item) → Contains (flat_map ask_item (taken j inputs)) x → Contains (asked inputs) x
asked_among [] j x = λ h. h
asked_among (Called order ∷ past) j x = asked_among past j x
asked_among (Took k body ∷ past) j x =
    let left : Contains (flat_map ask_item (taken j past)) x → Contains (asked past ++ ask_item body) x =
    λ h. Contains-append_left (asked past) (ask_item body) x (asked_among past j x h) in
    cond_both (eqb k j) (taken j past ++ body ∷ []) (taken j past) (λ l. Contains (flat_map ask_item l) x → Contains (asked past ++ ask_item body) x)
    (λ e h. elim (Contains-append_cases (flat_map ask_item (taken j past)) (ask_item body) x (subst (λ l. Contains l x) (flat_map_push ask_item (taken j past) body) h)) [
      | inl a ↦ left a
      | inr b ↦ Contains-append_right (asked past) (ask_item body) x b
    ])
    (λ e. left)

pub asked_by_members : (f : Item → ℕ) (n : ℕ) (inputs : Inputs) → SendersFit n inputs
    → sum_below n (λ j. sum_by f (flat_map ask_item (taken j inputs))) ≡ sum_by f (asked inputs)
asked_by_members f n [] fit = sum_below-none n
asked_by_members f n (Called order ∷ past) fit = asked_by_members f n past fit
asked_by_members f n (Took k body ∷ past) fit =
    let now : ℕ → ℕ = λ j. sum_by f (flat_map ask_item (taken j (Took k body ∷ past))) in
    let before : ℕ → ℕ = λ j. sum_by f (flat_map ask_item (taken j past)) in
    let here : now k ≡ before k + sum_by f (ask_item body) =
    ap (λ l. sum_by f (flat_map ask_item l)) (taken_here k k body past refl) ∙ ap (sum_by f) (flat_map_push ask_item (taken k past) body)
    ∙ sum_by-append f (flat_map ask_item (taken k past)) (ask_item body) in
    let away : (j : ℕ) → (k ≡ j → ⊥) → now j ≡ before j = λ j ne. ap (λ l. sum_by f (flat_map ask_item l)) (taken_away j k body past ne) in
    let more : sum_below n now ≡ sum_below n before + sum_by f (ask_item body) = sum_below-more n k (sum_by f (ask_item body)) before now fit.0 here away in
    let old : sum_below n before ≡ sum_by f (asked past) = asked_by_members f n past fit.1 in
    let parts : sum_by f (asked past ++ ask_item body) ≡ sum_by f (asked past) + sum_by f (ask_item body) = sum_by-append f (asked past) (ask_item body) in
    omega (arith, more, old, parts)
