-- No module of this kind says that a version is past.
use Rattle.std.proofs.Common.{ℕ, ◌≡◌, true, false, List, [], ◌∷◌, ◌++◌, refl}
use Rattle.std.specs.Prelude.{if◌then◌else◌, ◌||◌}
use Rattle.std.specs.List.{flat_map}
use Rattle.fifo_net.specs.Net.{Called, Took}
use Rattle.upd_base.specs.Body.{is_past}
use Rattle.upd_base.specs.declared.body.Body.{Body}
use Rattle.upd_base.specs.declared.body.Body.TheVariants.{Rb}
use Rattle.order_trait.specs.Runs.{Broadcast, Suspect, Trust, Inputs, NeverSaysPast}
use Rattle.order_trait.specs.Outbox.{to_all}
use Rattle.order_trait.proofs.Sends.{NeverIn, never-append, never-to_all, never-flat_map}
use Rattle.instance_rules.specs.Say.{Say, Turns, Estimates, Proposes, Replies, Moves_on, Decides}
use Rattle.instance_rules.specs.Bodies.{say_of, body_of, in_instance}
use Rattle.consensus_rules.specs.Items.{knows, received, begun}
use Rattle.consensus_rules.specs.Delivered.{next}
use Rattle.consensus_rules.specs.Instances.{hears, start_of, turns_of, number_in, numbers, adds}
use Rattle.consensus_rules.specs.Consensus.{passes_rb, says_on, hears_one, starts_up, suspects_one, sends_by}

-- what is said in an instance is of that instance
never_body : (k : ℕ) (say : Say) → is_past (body_of k say) ≡ false
never_body k (Estimates round held) = refl
never_body k (Proposes round batch) = refl
never_body k (Replies round agree) = refl
never_body k (Moves_on round) = refl
never_body k (Decides batch) = refl

never_said : (k : ℕ) (says : List (ℕ × Say)) → NeverIn (in_instance k says)
never_said k [] = refl
never_said k (s ∷ says) = rw (never_body k s.1) (never_said k says)

never_rb : (n : ℕ) (past : Inputs) (body : Body) → NeverIn (passes_rb n past body)
never_rb n past (Rb item) = elim (knows (received past) item || knows (begun past) item) as (λ b. NeverIn (if b then [] else to_all n (Rb item))) [
  | true ↦ refl
  | false ↦ never-to_all n (Rb item) refl
]
never_rb n past body = refl

pub never_past : NeverSaysPast sends_by
never_past n m [] = refl
never_past n m (Called (Broadcast item) ∷ past) = never-to_all n (Rb item) refl
never_past n m (Called (Suspect who) ∷ past) =
    never-flat_map (suspects_one n m (Called (Suspect who)) past) (numbers past) (λ k. never_said k (says_on n m (adds n k (Called (Suspect who)) past (turns_of n k past)) (turns_of n k past)))
never_past n m (Called (Trust who) ∷ past) = refl
never_past n m (Took from body ∷ past) =
    let k : ℕ = next (Took from body ∷ past) in
    let turns : Turns = hears from (say_of k body) ++ turns_of n k past in
    let heard : List (ℕ × Body) = flat_map (hears_one n m from body past) (number_in body) in
    let started : List (ℕ × Body) = starts_up n m k (Took from body ∷ past) turns in
    never-append (passes_rb n past body) (heard ++ started) (never_rb n past body)
    (never-append heard started
    (never-flat_map (hears_one n m from body past) (number_in body) (λ j. never_said j (says_on n m (hears from (say_of j body)) (turns_of n j past))))
    (never_said k (says_on n m (start_of n k (Took from body ∷ past) turns) turns)))
