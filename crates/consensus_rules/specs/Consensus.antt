-- Ordering by consensus (Chandra and Toueg, 1996, in outline): items are diffused by reliable broadcast, instances of
-- consensus decide batches of them one after the other, and what is decided is delivered in the order of the instances.
use Rattle.std.specs.Prelude.{ℕ, Bool, true, false, if◌then◌else◌, ◌||◌, List, [], ◌∷◌, ◌++◌}
use Rattle.std.specs.List.{flat_map}
use Rattle.fifo_net.specs.Net.{Input, Called, Took}
use Rattle.upd_base.specs.declared.kind.Kind.{Kind}
use Rattle.upd_base.specs.declared.kind.Kind.TheVariants.{Sequencer, Lamport, Consensus}
use Rattle.upd_base.specs.declared.body.Body.{Body}
use Rattle.upd_base.specs.declared.body.Body.TheVariants.{Rb}
use Rattle.order_trait.specs.Runs.{Order, Broadcast, Suspect, Trust, Inputs, KindSends, KindDelivers}
use Rattle.order_trait.specs.Outbox.{to_all}
use Rattle.instance_rules.specs.Say.{Say, Turns}
use Rattle.instance_rules.specs.Says.{says}
use Rattle.instance_rules.specs.Bodies.{say_of, in_instance}
use Rattle.consensus_rules.specs.Items.{knows, received, begun}
use Rattle.consensus_rules.specs.Delivered.{delivers_by, next}
use Rattle.consensus_rules.specs.Instances.{hears, start_of, turns_of, number_in, numbers, adds}

abbrev pub is_consensus : Kind → Bool
is_consensus (Sequencer s) = false
is_consensus Lamport = false
is_consensus Consensus = true

-- what a member sends on where it takes a body: an Rb at its first, unless it has begun it itself
abbrev pub passes_rb : ℕ → Inputs → Body → List (ℕ × Body)
passes_rb n past (Rb item) = if knows (received past) item || knows (begun past) item then [] else to_all n (Rb item)
passes_rb n past body = []

-- what a member says in an instance at inputs that are added to others, the newest first
abbrev pub says_on : ℕ → ℕ → Turns → Turns → List (ℕ × Say)
says_on n me [] turns = []
says_on n me (t ∷ ts) turns = says_on n me ts turns ++ says n me (t ∷ (ts ++ turns))

-- what it says in instance k where it takes a body that names it
abbrev pub hears_one : ℕ → ℕ → ℕ → Body → Inputs → ℕ → List (ℕ × Body)
hears_one n me from body past k = in_instance k (says_on n me (hears from (say_of k body)) (turns_of n k past))

-- where it starts the instance that is due after these inputs; turns are those of that instance before the start
abbrev pub starts_up : ℕ → ℕ → ℕ → Inputs → Turns → List (ℕ × Body)
starts_up n me k inputs turns = in_instance k (says_on n me (start_of n k inputs turns) turns)

-- and where it suspects one more
abbrev pub suspects_one : ℕ → ℕ → Input Order Body → Inputs → ℕ → List (ℕ × Body)
suspects_one n me x past k = in_instance k (says_on n me (adds n k x past (turns_of n k past)) (turns_of n k past))

-- A broadcast sends an Rb to all. A body is passed on, then it is answered in its instance, then the instance that is
-- due is started. A suspicion goes through the instances in ascending order. Trust sends nothing.
abbrev pub sends_by : ℕ → ℕ → Inputs → List (ℕ × Body)
sends_by n me [] = []
sends_by n me (Called (Broadcast item) ∷ past) = to_all n (Rb item)
sends_by n me (Called (Suspect who) ∷ past) = flat_map (suspects_one n me (Called (Suspect who)) past) (numbers past)
sends_by n me (Called (Trust who) ∷ past) = []
sends_by n me (Took from body ∷ past) =
    passes_rb n past body
    ++ (flat_map (hears_one n me from body past) (number_in body)
    ++ starts_up n me (next (Took from body ∷ past)) (Took from body ∷ past)
    (hears from (say_of (next (Took from body ∷ past)) body) ++ turns_of n (next (Took from body ∷ past)) past))

-- the two functions of each kind that is served
abbrev pub sends_of : Kind → KindSends
sends_of (Sequencer s) = λ n me inputs. []
sends_of Lamport = λ n me inputs. []
sends_of Consensus = sends_by

abbrev pub delivers_of : Kind → KindDelivers
delivers_of (Sequencer s) = λ n me inputs. []
delivers_of Lamport = λ n me inputs. []
delivers_of Consensus = delivers_by
