-- The instances of a member: what its inputs are to each of them.
use Rattle.std.specs.Prelude.{ℕ, Bool, ◌==◌, ◌-◌, ◌^◌, if◌then◌else◌, ◌&&◌, nat_lt, nat_le, List, [], ◌∷◌, ◌++◌, length, Option, Some, None}
use Rattle.fifo_net.specs.Net.{Input, Called, Took}
use Rattle.upd_base.specs.declared.body.Body.{Body}
use Rattle.upd_base.specs.declared.body.Body.TheVariants.{Est, Prop, Reply, Next, Decide}
use Rattle.order_trait.specs.Runs.{Order, Broadcast, Suspect, Trust, Inputs}
use Rattle.instance_rules.specs.Say.{Starts, Suspects, Trusts, Say, Turns}
use Rattle.instance_rules.specs.Place.{place}
use Rattle.instance_rules.specs.Bodies.{say_of}
use Rattle.consensus_rules.specs.Delivered.{next}
use Rattle.consensus_rules.specs.Waiting.{waiting, next_batch}

-- the last instance: its number is a u64
abbrev pub last_instance : ℕ
last_instance = 2 ^ 64 - 1

-- what a body is to an instance
abbrev pub hears : ℕ → Option Say → Turns
hears from None = []
hears from (Some say) = Took from say ∷ []

-- A member is to start the instance that it delivers next, where it takes no part in it yet and something waits.
abbrev pub is_due : ℕ → ℕ → Inputs → Turns → Bool
is_due n k inputs turns = (k == next inputs) && (nat_le k last_instance && (nat_lt 0 (length (waiting inputs)) && ((place n turns).round == 0)))

abbrev pub start_of : ℕ → ℕ → Inputs → Turns → Turns
start_of n k inputs turns = if is_due n k inputs turns then Called (Starts (next_batch inputs)) ∷ [] else []

-- What a new input of a member adds to its inputs in instance k: suspicions go to each instance, a body to the one
-- that it names, and after a body the member starts the instance that is due.
abbrev pub adds : ℕ → ℕ → Input Order Body → Inputs → Turns → Turns
adds n k (Called (Broadcast item)) past turns = []
adds n k (Called (Suspect who)) past turns = Called (Suspects who) ∷ []
adds n k (Called (Trust who)) past turns = Called (Trusts who) ∷ []
adds n k (Took from body) past turns = start_of n k (Took from body ∷ past) (hears from (say_of k body) ++ turns) ++ hears from (say_of k body)

-- the inputs of instance k at a member with these inputs
abbrev pub turns_of : ℕ → ℕ → Inputs → Turns
turns_of n k [] = []
turns_of n k (x ∷ past) = adds n k x past (turns_of n k past) ++ turns_of n k past

-- the instance that a body names
abbrev pub number_in : Body → List ℕ
number_in (Est instance round stamp batch) = instance ∷ []
number_in (Prop instance round batch) = instance ∷ []
number_in (Reply instance round agree) = instance ∷ []
number_in (Next instance round) = instance ∷ []
number_in (Decide instance batch) = instance ∷ []
number_in body = []

abbrev pub add_number : ℕ → List ℕ → List ℕ
add_number k [] = k ∷ []
add_number k (j ∷ js) = if nat_lt j k then j ∷ add_number k js else (if j == k then j ∷ js else k ∷ j ∷ js)

abbrev pub add_numbers : List ℕ → List ℕ → List ℕ
add_numbers [] js = js
add_numbers (k ∷ ks) js = add_number k (add_numbers ks js)

-- the numbers of the instances that a member has heard of or come to, ascending
abbrev pub numbers : Inputs → List ℕ
numbers [] = []
numbers (Called order ∷ past) = numbers past
numbers (Took from body ∷ past) = add_number (next (Took from body ∷ past)) (add_numbers (number_in body) (numbers past))

-- of an instance there was nothing but suspicions
abbrev pub Quiet : Turns → Type 0
Quiet [] = Unit {0}
Quiet (Called (Starts batch) ∷ past) = ⊥
Quiet (Called (Suspects who) ∷ past) = Quiet past
Quiet (Called (Trusts who) ∷ past) = Quiet past
Quiet (Took from say ∷ past) = ⊥
