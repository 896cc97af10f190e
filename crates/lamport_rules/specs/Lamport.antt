-- Timestamps (Lamport, 1978): each member has a clock; an item goes to all with its sender's clock, and is
-- delivered in the order of these stamps once a member has heard as much from every member.
use Rattle.std.specs.Prelude.{ℕ, zero, suc, Bool, true, false, ◌==◌, ◌+◌, ◌-◌, ◌^◌, min, max, if◌then◌else◌, nat_le, List, [], ◌∷◌, map}
use Rattle.std.specs.List.{filter}
use Rattle.fifo_net.specs.Net.{Called, Took, taken}
use Rattle.upd_base.specs.declared.kind.Kind.{Kind}
use Rattle.upd_base.specs.declared.kind.Kind.TheVariants.{Sequencer, Lamport, Consensus}
use Rattle.upd_base.specs.declared.item.Item.{Item}
use Rattle.upd_base.specs.declared.body.Body.{Body}
use Rattle.upd_base.specs.declared.body.Body.TheVariants.{Req, Ack}
use Rattle.request_queue.specs.declared.request.Request.{Request}
use Rattle.request_queue.specs.Request.{insert}
use Rattle.order_trait.specs.Runs.{Broadcast, Suspect, Trust, Inputs, KindSends, KindDelivers}
use Rattle.order_trait.specs.Outbox.{to_all}

abbrev pub is_lamport : Kind → Bool
is_lamport (Sequencer s) = false
is_lamport Lamport = true
is_lamport Consensus = false

-- a clock is a u64, which stays at the greatest
abbrev pub top : ℕ → ℕ
top k = min k (2 ^ 64 - 1)

-- the clock c after a body was taken: past the stamp of a Req, else as it was
abbrev pub clock_at : ℕ → Body → ℕ
clock_at c (Req stamp item) = top (max c stamp + 1)
clock_at c body = c

-- the clock: 0 at first, and one more at a broadcast
abbrev pub clock : Inputs → ℕ
clock [] = 0
clock (Called (Broadcast item) ∷ past) = top (clock past + 1)
clock (Called (Suspect who) ∷ past) = clock past
clock (Called (Trust who) ∷ past) = clock past
clock (Took from body ∷ past) = clock_at (clock past) body

-- the stamp of a Req or an Ack
abbrev pub stamp_of : Body → ℕ
stamp_of (Req stamp item) = stamp
stamp_of (Ack stamp) = stamp
stamp_of body = 0

-- the greatest of low and the stamps of these bodies
abbrev pub greatest : ℕ → List Body → ℕ
greatest low [] = low
greatest low (body ∷ bodies) = greatest (max low (stamp_of body)) bodies

-- heard: the greatest stamp that was taken from a member, or 0
abbrev pub heard : Inputs → ℕ → ℕ
heard inputs j = greatest 0 (taken j inputs)

-- the least of f at the members below n
abbrev pub least_below : ℕ → (ℕ → ℕ) → ℕ
least_below zero f = 2 ^ 64 - 1
least_below (suc n) f = min (least_below n f) (f n)

-- the stamp up to which every member was heard
abbrev pub heard_by_all : ℕ → Inputs → ℕ
heard_by_all n inputs = least_below n (heard inputs)

-- what a member answers to a body, with its clock after that
abbrev pub acks : ℕ → ℕ → Body → List (ℕ × Body)
acks n c (Req stamp item) = to_all n (Ack c)
acks n c body = []

-- A broadcast sends a Req with the clock to all, and a Req that is taken from another member an Ack with the
-- clock to all: the clock after that input. Nothing else sends.
abbrev pub sends_by : ℕ → ℕ → Inputs → List (ℕ × Body)
sends_by n me [] = []
sends_by n me (Called (Broadcast item) ∷ past) = to_all n (Req (clock (Called (Broadcast item) ∷ past)) item)
sends_by n me (Called (Suspect who) ∷ past) = []
sends_by n me (Called (Trust who) ∷ past) = []
sends_by n me (Took from body ∷ past) = if from == me then [] else acks n (clock (Took from body ∷ past)) body

-- a body from a member among the requests, sorted by stamp and sender
abbrev pub insert_req : ℕ → Body → List Request → List Request
insert_req from (Req stamp item) sorted = insert (record { stamp = stamp; from = from; item = item }) sorted
insert_req from body sorted = sorted

-- the taken Reqs, sorted by stamp and sender, of one stamp and sender as they were taken
abbrev pub requests : Inputs → List Request
requests [] = []
requests (Called order ∷ past) = requests past
requests (Took from body ∷ past) = insert_req from body (requests past)

-- Delivered: the items of the taken Reqs whose stamp is at most what every member was heard to, in that order.
abbrev pub delivers_by : ℕ → ℕ → Inputs → List Item
delivers_by n me inputs = map (λ w. w.item) (filter (λ w. nat_le w.stamp (heard_by_all n inputs)) (requests inputs))

-- the two functions of each kind that is served
abbrev pub sends_of : Kind → KindSends
sends_of (Sequencer s) = λ n me inputs. []
sends_of Lamport = sends_by
sends_of Consensus = λ n me inputs. []

abbrev pub delivers_of : Kind → KindDelivers
delivers_of (Sequencer s) = λ n me inputs. []
delivers_of Lamport = delivers_by
delivers_of Consensus = λ n me inputs. []
