-- The listed choices are those of the plan.
use Rattle.std.proofs.Common.{ℕ, ◌≡◌, inl, inr, List, [], ◌∷◌, ◌++◌, length, map, refl, sym, subst, arith, All, get_or}
use Rattle.std.specs.List.{flat_map}
use Rattle.std.specs.Prelude.{Contains}
use Rattle.std.proofs.lemmas.List.Elements.{Contains-append_cases, Contains-append_right}
use Rattle.std.proofs.lemmas.List.{get_or_default}
use Rattle.upd_base.specs.Plan.{Planned}
use Rattle.group_run.specs.Part.{below}
use Rattle.group_run.proofs.Inputs.{contains_below}
use Rattle.group_run.proofs.Lists.{nothing, only}
use Rattle.group_world.specs.declared.moves.Move.{Move}
use Rattle.group_world.specs.declared.moves.Move.TheVariants.{Call, Receive, Release}
use Rattle.rehearsal.specs.Choices.{IsChoice, choices, receipts_from}

mapped : (P : Move → Type 0) (f : ℕ → Move) (xs : List ℕ) → ((i : ℕ) → Contains xs i → P (f i)) → (c : Move) → Contains (map f xs) c → P c
mapped P f [] h c k = absurd (nothing c k)
mapped P f (x ∷ xs) h c k = elim (Contains-append_cases (f x ∷ []) (map f xs) c k) [
  | inl p ↦ only P (f x) c (h x (0, omega arith, refl)) p
  | inr q ↦ mapped P f xs (λ i m. h i (Contains-append_right (x ∷ []) xs i m)) c q
]

flattened : (P : Move → Type 0) (f : ℕ → List Move) (xs : List ℕ) → ((i : ℕ) → Contains xs i → (c : Move) → Contains (f i) c → P c) → (c : Move) → Contains (flat_map f xs) c → P c
flattened P f [] h c k = absurd (nothing c k)
flattened P f (x ∷ xs) h c k = elim (Contains-append_cases (f x) (flat_map f xs) c k) [
  | inl p ↦ h x (0, omega arith, refl) c p
  | inr q ↦ flattened P f xs (λ i m. h i (Contains-append_right (x ∷ []) xs i m)) c q
]

pub each_fits : (plan : Planned) (c : Move) → Contains (choices plan) c → IsChoice plan c
each_fits plan c h =
    let calls = map (λ thread. Call thread) (below (length plan.threads)) in
    let receipts = flat_map (receipts_from plan.members) (below plan.members) in
    let releases = map (λ at. Release at) (below plan.members) in
    elim (Contains-append_cases (calls ++ receipts) releases c h) [
      | inl p ↦ elim (Contains-append_cases calls receipts c p) [
        | inl q ↦ mapped (IsChoice plan) (λ thread. Call thread) (below (length plan.threads)) (λ i m. contains_below (length plan.threads) i m) c q
        | inr r ↦ flattened (IsChoice plan) (receipts_from plan.members) (below plan.members)
            (λ from f d k. mapped (IsChoice plan) (λ to. Receive from to) (below plan.members) (λ to t. (contains_below plan.members from f, contains_below plan.members to t)) d k) c r
      ]
      | inr s ↦ mapped (IsChoice plan) (λ at. Release at) (below plan.members) (λ i m. contains_below plan.members i m) c s
    ]

contained : (P : Move → Type 0) (xs : List Move) → ((c : Move) → Contains xs c → P c) → All P xs
contained P xs h = λ k d lt. h (get_or xs k d) (k, lt, get_or_default xs k (get_or xs k d) d lt)

pub all_fit : (plan : Planned) (xs : List Move) → xs ≡ choices plan → All (IsChoice plan) xs
all_fit plan xs is = subst (All (IsChoice plan)) (sym is) (contained (IsChoice plan) (choices plan) (each_fits plan))
