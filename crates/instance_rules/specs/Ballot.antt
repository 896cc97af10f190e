-- What the coordinator of a round counts: the first estimate and the first reply of each member.
use Rattle.std.specs.Prelude.{ℕ, Bool, ◌==◌, if◌then◌else◌, ◌||◌, ◌&&◌, nat_lt, nat_le, List, [], ◌∷◌, ◌++◌, length, take, Option, Some, None}
use Rattle.std.specs.List.{list_all, list_any}
use Rattle.fifo_net.specs.Net.{Called, Took}
use Rattle.instance_rules.specs.Say.{Items, Estimate, Say, Estimates, Proposes, Replies, Moves_on, Decides, Turns, majority}

-- Of each member the first that f finds in what was taken from it, in the order taken.
abbrev pub is_from : {A : Type 0} → ℕ → ℕ × A → Bool
is_from m v = v.0 == m

abbrev pub vote : {A : Type 0} → List (ℕ × A) → ℕ → Option A → List (ℕ × A)
vote votes from None = []
vote votes from (Some x) = if list_any (is_from from) votes then [] else (from, x) ∷ []

abbrev pub firsts : {A : Type 0} → (Say → Option A) → Turns → List (ℕ × A)
firsts f [] = []
firsts f (Called act ∷ past) = firsts f past
firsts f (Took from say ∷ past) = firsts f past ++ vote (firsts f past) from (f say)

-- the estimates and the replies of a round
abbrev pub estimate_for : ℕ → Say → Option Estimate
estimate_for r (Estimates round held) = if round == r then Some held else None
estimate_for r (Proposes round batch) = None
estimate_for r (Replies round agree) = None
estimate_for r (Moves_on round) = None
estimate_for r (Decides batch) = None

abbrev pub reply_for : ℕ → Say → Option Bool
reply_for r (Estimates round held) = None
reply_for r (Proposes round batch) = None
reply_for r (Replies round agree) = if round == r then Some agree else None
reply_for r (Moves_on round) = None
reply_for r (Decides batch) = None

-- the first that make a majority, once there are so many
abbrev pub quorum : {A : Type 0} → ℕ → List (ℕ × A) → Option (List (ℕ × A))
quorum n votes = if nat_le (majority n) (length votes) then Some (take (majority n) votes) else None

-- v has the greater stamp, or the same and the lower member
abbrev pub outranks : ℕ × Estimate → ℕ × Estimate → Bool
outranks v w = nat_lt w.1.stamp v.1.stamp || ((v.1.stamp == w.1.stamp) && nat_lt v.0 w.0)

abbrev pub best : ℕ × Estimate → List (ℕ × Estimate) → ℕ × Estimate
best v [] = v
best v (w ∷ ws) = best (if outranks w v then w else v) ws

abbrev pub best_of : Option (List (ℕ × Estimate)) → Option Items
best_of None = None
best_of (Some []) = None
best_of (Some (v ∷ vs)) = Some (best v vs).1.batch

-- what the coordinator of a round has to propose: the best of the first majority of estimates
abbrev pub proposal : ℕ → ℕ → Turns → Option Items
proposal n round turns = best_of (quorum n (firsts (estimate_for round) turns))

-- whether all of the first majority of replies say yes
abbrev pub all_yes : Option (List (ℕ × Bool)) → Option Bool
all_yes None = None
all_yes (Some votes) = Some (list_all (λ v. v.1) votes)

abbrev pub verdict : ℕ → ℕ → Turns → Option Bool
verdict n round turns = all_yes (quorum n (firsts (reply_for round) turns))
