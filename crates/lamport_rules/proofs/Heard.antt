-- What a body adds to what was heard and to the requests.
use Rattle.std.proofs.Common.{ℕ, ◌≡◌, eqb, true, false, cond, [], ◌∷◌, ◌++◌, refl, arith, max}
use Rattle.fifo_net.specs.Net.{Called, Took, taken}
use Rattle.upd_base.specs.declared.body.Body.{Body}
use Rattle.upd_base.specs.declared.body.Body.TheVariants.{Req}
use Rattle.order_trait.specs.Runs.{Inputs}
use Rattle.request_queue.proofs.Limits.{Ascends, ascends_insert}
use Rattle.lamport_rules.specs.Lamport.{requests, stamp_of, greatest, heard}
use Rattle.lamport_rules.proofs.Stamps.{greatest-append}

-- what a body adds to what was heard
pub heard_took : (from j : ℕ) (body : Body) (past : Inputs) → heard (Took from body ∷ past) j ≡ cond (eqb from j) (max (heard past j) (stamp_of body)) (heard past j)
heard_took from j body past =
    elim (eqb from j) as (λ b. greatest 0 (cond b (taken j past ++ body ∷ []) (taken j past)) ≡ cond b (max (greatest 0 (taken j past)) (stamp_of body)) (greatest 0 (taken j past))) [
      | true ↦ greatest-append 0 (taken j past) (body ∷ [])
      | false ↦ refl
    ]

-- the stamps of the requests don't descend
pub requests_ascend : (inputs : Inputs) → Ascends 0 (requests inputs)
requests_ascend [] = tt
requests_ascend (Called order ∷ past) = requests_ascend past
requests_ascend (Took k (Req u item) ∷ past) = ascends_insert 0 (record { stamp = u; from = k; item = item }) (requests past) (requests_ascend past) (omega arith)
requests_ascend (Took k body ∷ past) = requests_ascend past
