-- What a member has been told: whom it suspects, and what was decided.
use Rattle.std.specs.Prelude.{ℕ, Bool, false, ◌==◌, ◌||◌, ◌&&◌, not, [], ◌∷◌, Option, Some, None}
use Rattle.fifo_net.specs.Net.{Called, Took}
use Rattle.instance_rules.specs.Say.{Items, Starts, Suspects, Trusts, Say, Estimates, Proposes, Replies, Moves_on, Decides, Turns}

-- whether the member suspects w
abbrev pub suspected : Turns → ℕ → Bool
suspected [] w = false
suspected (Called (Starts batch) ∷ past) w = suspected past w
suspected (Called (Suspects who) ∷ past) w = (who == w) || suspected past w
suspected (Called (Trusts who) ∷ past) w = not (who == w) && suspected past w
suspected (Took from say ∷ past) w = suspected past w

-- the batch of the first Decide that was taken
abbrev pub decides : Say → Option Items
decides (Estimates round held) = None
decides (Proposes round batch) = None
decides (Replies round agree) = None
decides (Moves_on round) = None
decides (Decides batch) = Some batch

abbrev pub or_else : {A : Type 0} → Option A → Option A → Option A
or_else (Some x) y = Some x
or_else None y = y

abbrev pub decided : Turns → Option Items
decided [] = None
decided (Called act ∷ past) = decided past
decided (Took from say ∷ past) = or_else (decided past) (decides say)
