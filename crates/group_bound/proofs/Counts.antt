-- Counting: items with different ids among others, calls of a plan, and sums over members and versions.
use Rattle.std.proofs.Common.{ℕ, zero, suc, ◌≡◌, ◌<◌, ◌≤◌, ◌+◌, ◌⊎◌, inl, inr, Bool, true, cond, ◌==◌, List, [], ◌∷◌, length, take, refl, sym, ◌∙◌, ap, subst, arith, Option, Some, None}
use Rattle.std.specs.Prelude.{Contains, slice_get, if◌then◌else◌}
use Rattle.std.specs.List.{sum_by, count_by}
use Rattle.std.proofs.lemmas.List.Sums.{sum_by-cons}
use Rattle.order_trait.proofs.Sums.{sum_below, sum_below-more, sum_below-le}
use Rattle.upd_base.specs.Item.{id_of, has_id, origin_of, number_of}
use Rattle.upd_base.specs.Plan.{Planned, planned, step_in}
use Rattle.upd_base.specs.declared.item.Item.{Item}
use Rattle.upd_base.specs.declared.call.Step.{Step as PlannedStep}
use Rattle.upd_base.specs.declared.event.Event.TheVariants.{Call as CallEvent, Receive, Release}
use Rattle.group_run.specs.Run.{Events, calls_made}
use Rattle.group_run.proofs.Lists.{eqb_self, eqb_other}

-- Different items among others --------------------------------------------------------------------------------------

abbrev one_if : (Item → Bool) → Item → ℕ
one_if test x = cond (test x) 1 0

-- these without one of them
record Without (ys : List Item) (x : Item) : Type 0 where
  rest : List Item
  count : (test : Item → Bool) → count_by test ys ≡ one_if test x + count_by test rest
  others : (y : Item) → Contains ys y → (y ≡ x) ⊎ Contains rest y

without_one : (ys : List Item) (x : Item) → Contains ys x → Without ys x
without_one [] x c = absurd (let l = c.1 in omega arith)
without_one (y ∷ ys) x (zero, lt, q) =
    let is : y ≡ x = q in
    record {
      rest = ys;
      count = λ test. subst (λ z. count_by test (y ∷ ys) ≡ one_if test z + count_by test ys) is (sum_by-cons (one_if test) y ys);
      others = λ z c. split z c is;
    }
  where
    split : (z : Item) → Contains (y ∷ ys) z → y ≡ x → (z ≡ x) ⊎ Contains ys z
    split z (zero, lc, qc) is = let e : y ≡ z = qc in inl (sym e ∙ is)
    split z (suc k, lc, qc) is = inr (k, omega arith, qc)
without_one (y ∷ ys) x (suc k, lt, q) =
    let w = without_one ys x (k, omega arith, q) in
    record {
      rest = y ∷ w.rest;
      count = λ test.
          let f : Item → ℕ = one_if test in
          let a : sum_by f (y ∷ ys) ≡ f y + sum_by f ys = sum_by-cons f y ys in
          let b : sum_by f (y ∷ w.rest) ≡ f y + sum_by f w.rest = sum_by-cons f y w.rest in
          let c : sum_by f ys ≡ f x + sum_by f w.rest = w.count test in
          omega (arith, a, b, c);
      others = λ z c. split w.rest z c w.others;
    }
  where
    split : (rest : List Item) (z : Item) → Contains (y ∷ ys) z → ((v : Item) → Contains ys v → (v ≡ x) ⊎ Contains rest v) → (z ≡ x) ⊎ Contains (y ∷ rest) z
    split rest z (zero, lc, qc) h = inr (zero, omega arith, qc)
    split rest z (suc j, lc, qc) h = elim (h z (j, omega arith, qc)) [
      | inl e ↦ inl e
      | inr d ↦ inr (suc d.0, (let l = d.1 in omega arith), d.2)
    ]

own_id : (x : Item) → has_id (id_of x) x ≡ true
own_id x = rw (eqb_self (origin_of x), eqb_self (number_of x)) refl

counted : (test : Item → Bool) (xs : List Item) (x : Item) → Contains xs x → test x ≡ true → 1 ≤ count_by test xs
counted test [] x c e = absurd (let l = c.1 in omega arith)
counted test (y ∷ ys) x (zero, lt, q) e =
    let f : Item → ℕ = one_if test in
    let is : y ≡ x = q in
    let one : f y ≡ 1 = ap f is ∙ ap (λ b. cond b 1 0) e in
    let a : sum_by f (y ∷ ys) ≡ f y + sum_by f ys = sum_by-cons f y ys in
    omega (arith, a, one)
counted test (y ∷ ys) x (suc k, lt, q) e =
    let f : Item → ℕ = one_if test in
    let a : sum_by f (y ∷ ys) ≡ f y + sum_by f ys = sum_by-cons f y ys in
    let r : 1 ≤ sum_by f ys = counted test ys x (k, omega arith, q) e in
    omega (arith, a, r)

-- items of different ids that stand among others are not more than they
pub fewer : (test : Item → Bool) (xs ys : List Item) → ((id : ℕ × ℕ) → count_by (has_id id) xs ≤ 1) → ((x : Item) → Contains xs x → Contains ys x) → count_by test xs ≤ count_by test ys
fewer test [] ys once among = omega arith
fewer test (x ∷ xs) ys once among =
    let w = without_one ys x (among x (0, omega arith, refl)) in
    let f : Item → ℕ = one_if test in
    let parts : sum_by f (x ∷ xs) ≡ f x + sum_by f xs = sum_by-cons f x xs in
    let all : count_by test ys ≡ f x + count_by test w.rest = w.count test in
    let ids : (id : ℕ × ℕ) → count_by (has_id id) (x ∷ xs) ≡ one_if (has_id id) x + count_by (has_id id) xs = λ id. sum_by-cons (one_if (has_id id)) x xs in
    let less : (id : ℕ × ℕ) → count_by (has_id id) xs ≤ 1 = λ id. omega (arith, ids id, once id) in
    let inside : (y : Item) → Contains xs y → Contains w.rest y = λ y c. elim (w.others y (among y (suc c.0, (let l = c.1 in omega arith), c.2))) [
      | inl e ↦
          let one : one_if (has_id (id_of x)) x ≡ 1 = ap (λ b. cond b 1 0) (own_id x) in
          let more : 1 ≤ count_by (has_id (id_of x)) xs = counted (has_id (id_of x)) xs y c (subst (λ z. has_id (id_of x) z ≡ true) (sym e) (own_id x)) in
          absurd (omega (arith, ids (id_of x), once (id_of x), one, more))
      | inr d ↦ d
    ] in
    let r : count_by test xs ≤ count_by test w.rest = fewer test xs w.rest less inside in
    omega (arith, parts, all, r)

-- Calls of a plan ---------------------------------------------------------------------------------------------------

-- a weight of a planned step that may not be there, and of all calls that were made
abbrev pub weigh : (PlannedStep → ℕ) → Option PlannedStep → ℕ
weigh w None = 0
weigh w (Some s) = w s

abbrev pub made : (PlannedStep → ℕ) → Planned → Events → ℕ
made w plan [] = 0
made w plan (CallEvent thread index member given ∷ past) = weigh w (planned plan thread index) + made w plan past
made w plan (Receive from to ∷ past) = made w plan past
made w plan (Release at ∷ past) = made w plan past

-- the thread of a number, and none where it isn't there
abbrev thread_at : List (List PlannedStep) → ℕ → List PlannedStep
thread_at [] t = []
thread_at (x ∷ xs) zero = x
thread_at (x ∷ xs) (suc t) = thread_at xs t

planned-thread : (ts : List (List PlannedStep)) (t i : ℕ) → step_in (slice_get ts t) i ≡ slice_get (thread_at ts t) i
planned-thread [] t i = refl
planned-thread (x ∷ xs) zero i = refl
planned-thread (x ∷ xs) (suc t) i = planned-thread xs t i

take_none : (i : ℕ) → take {A = PlannedStep} i [] ≡ []
take_none zero = refl
take_none (suc i) = refl

-- the first steps of a thread weigh one step more
take_more : (w : PlannedStep → ℕ) (xs : List PlannedStep) (i : ℕ) → sum_by w (take (suc i) xs) ≡ sum_by w (take i xs) + weigh w (slice_get xs i)
take_more w [] i = let a : sum_by w (take i []) ≡ 0 = ap (sum_by w) (take_none i) in omega (arith, a)
take_more w (x ∷ xs) zero =
    let a : sum_by w (x ∷ take 0 xs) ≡ w x + sum_by w (take 0 xs) = sum_by-cons w x (take 0 xs) in
    let b : sum_by w (take 0 xs) ≡ 0 = refl in
    let c : sum_by w (take 0 (x ∷ xs)) ≡ 0 = refl in
    omega (arith, a, b, c)
take_more w (x ∷ xs) (suc i) =
    let a : sum_by w (x ∷ take (suc i) xs) ≡ w x + sum_by w (take (suc i) xs) = sum_by-cons w x (take (suc i) xs) in
    let b : sum_by w (x ∷ take i xs) ≡ w x + sum_by w (take i xs) = sum_by-cons w x (take i xs) in
    omega (arith, a, b, take_more w xs i)

take_le : (w : PlannedStep → ℕ) (xs : List PlannedStep) (i : ℕ) → sum_by w (take i xs) ≤ sum_by w xs
take_le w [] i = let a : sum_by w (take i []) ≡ 0 = ap (sum_by w) (take_none i) in omega (arith, a)
take_le w (x ∷ xs) zero = let a : sum_by w (take 0 (x ∷ xs)) ≡ 0 = refl in omega (arith, a)
take_le w (x ∷ xs) (suc i) =
    let a : sum_by w (x ∷ take i xs) ≡ w x + sum_by w (take i xs) = sum_by-cons w x (take i xs) in
    omega (arith, a, sum_by-cons w x xs, take_le w xs i)

sum_head : (n : ℕ) (f : ℕ → ℕ) → sum_below (suc n) f ≡ f 0 + sum_below n (λ t. f (suc t))
sum_head zero f = omega arith
sum_head (suc n) f = let r = sum_head n f in omega arith

sum_threads : (w : PlannedStep → ℕ) (ts : List (List PlannedStep)) → sum_below (length ts) (λ t. sum_by w (thread_at ts t)) ≡ sum_by (λ steps. sum_by w steps) ts
sum_threads w [] = refl
sum_threads w (x ∷ xs) =
    let a = sum_head (length xs) (λ t. sum_by w (thread_at (x ∷ xs) t)) in
    let b : sum_by (λ steps. sum_by w steps) (x ∷ xs) ≡ sum_by w x + sum_by (λ steps. sum_by w steps) xs = sum_by-cons (λ steps. sum_by w steps) x xs in
    omega (arith, a, b, sum_threads w xs)

-- each call is the next of its thread
abbrev pub InTurn : Planned → Events → Type 0
InTurn plan [] = Unit {0}
InTurn plan (CallEvent thread index member given ∷ past) = (index ≡ calls_made thread past) × ((s : PlannedStep) × (planned plan thread index ≡ Some s)) × InTurn plan past
InTurn plan (Receive from to ∷ past) = InTurn plan past
InTurn plan (Release at ∷ past) = InTurn plan past

thread_below : (ts : List (List PlannedStep)) (t i : ℕ) (s : PlannedStep) → step_in (slice_get ts t) i ≡ Some s → t < length ts
thread_below [] t i s e = absurd (let q : None ≡ Some s = e in cc)
thread_below (x ∷ xs) zero i s e = omega arith
thread_below (x ∷ xs) (suc t) i s e = let r = thread_below xs t i s e in omega arith

made_is : (w : PlannedStep → ℕ) (plan : Planned) (past : Events) → InTurn plan past → made w plan past ≡ sum_below (length plan.threads) (λ t. sum_by w (take (calls_made t past) (thread_at plan.threads t)))
made_is w plan [] h = sym (none (length plan.threads))
  where
    none : (n : ℕ) → sum_below n (λ t. sum_by w (take 0 (thread_at plan.threads t))) ≡ 0
    none zero = refl
    none (suc n) = let r = none n in let z : sum_by w (take 0 (thread_at plan.threads n)) ≡ 0 = refl in omega arith
made_is w plan (CallEvent thread index member given ∷ past) h =
    let f : ℕ → ℕ = λ t. sum_by w (take (calls_made t past) (thread_at plan.threads t)) in
    let now : ℕ → ℕ = λ t. sum_by w (take (if thread == t then suc (calls_made t past) else calls_made t past) (thread_at plan.threads t)) in
    let lt = thread_below plan.threads thread index h.1.0 h.1.1 in
    let steps : List PlannedStep = thread_at plan.threads thread in
    let place : slice_get steps (calls_made thread past) ≡ planned plan thread index = ap (λ i. slice_get steps i) (sym h.0) ∙ sym (planned-thread plan.threads thread index) in
    let first : now thread ≡ sum_by w (take (suc (calls_made thread past)) steps) = ap (λ b. sum_by w (take (if b then suc (calls_made thread past) else calls_made thread past) steps)) (eqb_self thread) in
    let second : sum_by w (take (suc (calls_made thread past)) steps) ≡ f thread + weigh w (slice_get steps (calls_made thread past)) = take_more w steps (calls_made thread past) in
    let third : f thread + weigh w (slice_get steps (calls_made thread past)) ≡ f thread + weigh w (planned plan thread index) = ap (λ o. f thread + weigh w o) place in
    let here : now thread ≡ f thread + weigh w (planned plan thread index) = first ∙ second ∙ third in
    let away : (t : ℕ) → (thread ≡ t → ⊥) → now t ≡ f t = λ t ne.
    ap (λ b. sum_by w (take (if b then suc (calls_made t past) else calls_made t past) (thread_at plan.threads t))) (eqb_other thread t ne) in
    let more = sum_below-more (length plan.threads) thread (weigh w (planned plan thread index)) f now lt here away in
    omega (arith, more, made_is w plan past h.2)
made_is w plan (Receive from to ∷ past) h = made_is w plan past h
made_is w plan (Release at ∷ past) h = made_is w plan past h

-- all calls that were made weigh at most what the plan's steps do
pub made_le : (w : PlannedStep → ℕ) (plan : Planned) (past : Events) → InTurn plan past → made w plan past ≤ sum_by (λ steps. sum_by w steps) plan.threads
made_le w plan past h =
    let a = sum_below-le (length plan.threads) (λ t. sum_by w (take (calls_made t past) (thread_at plan.threads t))) (λ t. sum_by w (thread_at plan.threads t))
    (λ t l. take_le w (thread_at plan.threads t) (calls_made t past)) in
    omega (arith, made_is w plan past h, a, sum_threads w plan.threads)
