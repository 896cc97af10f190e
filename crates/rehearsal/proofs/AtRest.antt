-- Where no choice is open, a group is at rest; where no thread has a call either, the run is settled.
use Rattle.std.proofs.Common.{ℕ, zero, suc, ◌≡◌, ◌<◌, ◌≤◌, ◌==◌, inl, inr, true, false, List, [], ◌∷◌, ◌++◌, length, map, refl, sym, ◌∙◌, ap, arith, Option, Some, None}
use Rattle.std.specs.Prelude.{IsSome, is_some, slice_get, Contains}
use Rattle.std.specs.List.{flat_map}
use Rattle.std.proofs.lemmas.Bool.{cases_lt, eqb-true, eq-eqb}
use Rattle.std.proofs.lemmas.List.Elements.{Contains-append_cases, Contains-append_left, Contains-append_right}
use Rattle.upd_base.specs.Plan.{Planned, planned, step_in}
use Rattle.group_run.specs.Group.{Rules}
use Rattle.group_run.specs.Held.{first_ready}
use Rattle.group_run.specs.Part.{below}
use Rattle.group_run.specs.Run.{Events, calls_made, held_in, next_frame, version_in}
use Rattle.group_run.specs.Settled.{IsSettled}
use Rattle.group_run.proofs.Lists.{tested, nothing, only}
use Rattle.group_world.specs.declared.moves.Move.{Move}
use Rattle.group_world.specs.declared.moves.Move.TheVariants.{Call, Receive, Release}
use Rattle.run_journal.specs.Causes.{next_call, open_frame}
use Rattle.rehearsal.specs.Choices.{choices, is_open, lowest_of, receipts_from, waiting_thread}
use Rattle.rehearsal.specs.FullAtRest.{IsAtRest}

-- What the list of choices holds -------------------------------------------------------------------------------

below_contains : (n i : ℕ) → i < n → Contains (below n) i
below_contains zero i lt = absurd (omega arith)
below_contains (suc n) i lt = elim (tested (i == n)) [
  | inl e ↦ let is : i ≡ n = eqb-true i n e in Contains-append_right (below n) (n ∷ []) i (0, omega arith, sym is)
  | inr e ↦ Contains-append_left (below n) (n ∷ []) i (below_contains n i (let ne : (i ≡ n → ⊥) = λ p. let q = eq-eqb i n p in cc in omega arith))
]

map_contains : (f : ℕ → Move) (xs : List ℕ) (i : ℕ) → Contains xs i → Contains (map f xs) (f i)
map_contains f [] i h = absurd (nothing i h)
map_contains f (x ∷ xs) i h = elim (Contains-append_cases (x ∷ []) xs i h) [
  | inl p ↦ only (λ y. Contains (map f (x ∷ xs)) (f y)) x i (0, omega arith, refl) p
  | inr q ↦ Contains-append_right (f x ∷ []) (map f xs) (f i) (map_contains f xs i q)
]

flat_contains : (f : ℕ → List Move) (xs : List ℕ) (i : ℕ) (c : Move) → Contains xs i → Contains (f i) c → Contains (flat_map f xs) c
flat_contains f [] i c h k = absurd (nothing i h)
flat_contains f (x ∷ xs) i c h k = elim (Contains-append_cases (x ∷ []) xs i h) [
  | inl p ↦ Contains-append_left (f x) (flat_map f xs) c (only (λ y. Contains (f y) c → Contains (f x) c) x i (λ z. z) p k)
  | inr q ↦ Contains-append_right (f x) (flat_map f xs) c (flat_contains f xs i c q k)
]

receipt_there : (plan : Planned) (from to : ℕ) → from < plan.members → to < plan.members → Contains (choices plan) (Receive from to)
receipt_there plan from to f t =
    let calls = map (λ thread. Call thread) (below (length plan.threads)) in
    let receipts = flat_map (receipts_from plan.members) (below plan.members) in
    let releases = map (λ at. Release at) (below plan.members) in
    Contains-append_left (calls ++ receipts) releases (Receive from to)
    (Contains-append_right calls receipts (Receive from to)
    (flat_contains (receipts_from plan.members) (below plan.members) from (Receive from to) (below_contains plan.members from f)
    (map_contains (λ to. Receive from to) (below plan.members) to (below_contains plan.members to t))))

release_there : (plan : Planned) (at : ℕ) → at < plan.members → Contains (choices plan) (Release at)
release_there plan at lt =
    let calls = map (λ thread. Call thread) (below (length plan.threads)) in
    let receipts = flat_map (receipts_from plan.members) (below plan.members) in
    Contains-append_right (calls ++ receipts) (map (λ at. Release at) (below plan.members)) (Release at)
    (map_contains (λ at. Release at) (below plan.members) at (below_contains plan.members at lt))

-- No call is left ----------------------------------------------------------------------------------------------

none_of : {A : Type 0} (o : Option A) → is_some o ≡ false → o ≡ None
none_of None e = refl
none_of (Some x) e = absurd (let p : true ≡ false = e in cc)

lowest_all : (plan : Planned) (past : Events) (xs : List ℕ) → lowest_of plan past xs ≡ None → (t : ℕ) → Contains xs t → is_some (next_call plan past t) ≡ false
lowest_all plan past [] none t h = absurd (nothing t h)
lowest_all plan past (x ∷ xs) none t h = elim (tested (is_some (next_call plan past x))) [
  | inl e ↦ absurd (let n : Some x ≡ None = rw e at none in cc)
  | inr e ↦ elim (Contains-append_cases (x ∷ []) xs t h) [
    | inl p ↦ only (λ y. is_some (next_call plan past y) ≡ false) x t e p
    | inr q ↦ lowest_all plan past xs (let n : lowest_of plan past xs ≡ None = rw e at none in n) t q
  ]
]

beyond : {A : Type 0} (xs : List A) (i : ℕ) → length xs ≤ i → slice_get xs i ≡ None
beyond [] i le = refl
beyond (x ∷ xs) zero le = absurd (omega arith)
beyond (x ∷ xs) (suc i) le = beyond xs i (omega arith)

no_call : (plan : Planned) (past : Events) → waiting_thread plan past ≡ None → (t : ℕ) → planned plan t (calls_made t past) ≡ None
no_call plan past none t = elim (cases_lt t (length plan.threads)) [
  | inl lt ↦ none_of (next_call plan past t) (lowest_all plan past (below (length plan.threads)) none t (below_contains (length plan.threads) t lt))
  | inr ge ↦ ap (λ o. step_in o (calls_made t past)) (beyond plan.threads t ge)
]

-- A group at rest ----------------------------------------------------------------------------------------------

is_there : {A : Type 0} (o : Option A) → IsSome o → is_some o ≡ true
is_there o h = h

pub at_rest : (rules : Rules) (plan : Planned) (past : Events) → ((c : Move) → Contains (choices plan) c → is_open rules plan past c ≡ false) → IsAtRest rules plan past
at_rest rules plan past closed = record {
  receipts = λ from to r.
      let shut : is_some (open_frame rules plan past from to) ≡ false = closed (Receive from to) (receipt_there plan from to r.from_member r.to_member) in
      let same : open_frame rules plan past from to ≡ next_frame rules plan past from to = rw r.up refl in
      let there : is_some (open_frame rules plan past from to) ≡ true = ap is_some same ∙ is_there (next_frame rules plan past from to) r.frame in
      cc;
  releases = λ at r.
      let shut : is_open rules plan past (Release at) ≡ false = closed (Release at) (release_there plan at r.member) in
      let there : is_open rules plan past (Release at) ≡ true = rw (r.up, is_there (first_ready (version_in rules plan past at) (held_in rules plan past at)) r.ready) refl in
      cc;
}

pub settled_of : (rules : Rules) (plan : Planned) (past : Events) → waiting_thread plan past ≡ None → ((c : Move) → Contains (choices plan) c → is_open rules plan past c ≡ false) → IsSettled rules plan past
settled_of rules plan past none closed =
    let rest = at_rest rules plan past closed in
    record { calls = no_call plan past none; receipts = rest.receipts; releases = rest.releases }
