-- What a member sends in one instance at the newest of its inputs.
use Rattle.std.specs.Prelude.{ℕ, zero, suc, Bool, true, false, ◌==◌, if◌then◌else◌, ◌||◌, ◌&&◌, nat_lt, List, [], ◌∷◌, ◌++◌, Option, Some, None, is_some}
use Rattle.std.specs.List.{list_any}
use Rattle.fifo_net.specs.Net.{Input, Called, Took, Sends}
use Rattle.instance_rules.specs.Say.{Items, Act, Say, Estimates, Proposes, Replies, Moves_on, Decides, Turns, coordinator}
use Rattle.instance_rules.specs.History.{decides, decided}
use Rattle.instance_rules.specs.Ballot.{proposal, verdict}
use Rattle.instance_rules.specs.Place.{moves, place}

-- the same to each of the members below n, in ascending order
abbrev pub to_each : ℕ → Say → List (ℕ × Say)
to_each zero say = []
to_each (suc n) say = to_each n say ++ (n, say) ∷ []

-- what there is now and was not before
abbrev pub made : {A : Type 0} → Option A → Option A → Option A
made (Some x) now = None
made None now = now

-- whether a member coordinates a round
abbrev pub coordinates : ℕ → ℕ → ℕ → Bool
coordinates n me round = nat_lt 0 round && (me == coordinator n round)

-- a coordinator sends its proposal at the estimate that makes a majority
abbrev pub propose : ℕ → ℕ → Option Items → List (ℕ × Say)
propose n round None = []
propose n round (Some batch) = to_each n (Proposes round batch)

-- and the decision, or that the round is over, at the reply that makes a majority, where it has proposed
abbrev pub conclude : ℕ → ℕ → Option Bool → Option Items → List (ℕ × Say)
conclude n round None proposed = []
conclude n round (Some agree) None = []
conclude n round (Some true) (Some batch) = to_each n (Decides batch)
conclude n round (Some false) (Some batch) = to_each n (Moves_on round)

-- what a member sends as the coordinator of a round where it takes this after these inputs
abbrev pub leads : ℕ → ℕ → Turns → ℕ → Say → List (ℕ × Say)
leads n me past from (Estimates round held) =
    if coordinates n me round then propose n round (made (proposal n round past) (proposal n round (Took from (Estimates round held) ∷ past))) else []
leads n me past from (Proposes round batch) = []
leads n me past from (Replies round agree) =
    if coordinates n me round then conclude n round (made (verdict n round past) (verdict n round (Took from (Replies round agree) ∷ past))) (proposal n round past) else []
leads n me past from (Moves_on round) = []
leads n me past from (Decides batch) = []

-- whether a member has started the broadcast of a decision itself
abbrev pub has_led : ℕ → ℕ → Turns → Bool
has_led n me [] = false
has_led n me (Called act ∷ past) = has_led n me past
has_led n me (Took from say ∷ past) = has_led n me past || list_any (λ p. is_some (decides p.1)) (leads n me past from say)

-- the first Decide is sent on by a member that has started none
abbrev pub passes_on : ℕ → ℕ → Turns → Say → List (ℕ × Say)
passes_on n me past (Estimates round held) = []
passes_on n me past (Proposes round batch) = []
passes_on n me past (Replies round agree) = []
passes_on n me past (Moves_on round) = []
passes_on n me past (Decides batch) = if has_led n me past then [] else to_each n (Decides batch)

-- what it sends where it takes something, besides what its own move makes it send
abbrev pub answers : ℕ → ℕ → Turns → Input Act Say → List (ℕ × Say)
answers n me past (Called act) = []
answers n me past (Took from say) = leads n me past from say ++ passes_on n me past say

-- Once it has decided it sends nothing, also as coordinator.
abbrev pub says : ℕ → Sends Act Say
says n me [] = []
says n me (x ∷ past) = if is_some (decided past) then [] else (moves n past x (place n past)).says ++ answers n me past x
