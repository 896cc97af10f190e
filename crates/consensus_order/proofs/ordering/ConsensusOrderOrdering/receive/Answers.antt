use Rattle.std.proofs.Common.{ℕ, ◌≡◌, ◌∷◌, ◌++◌, ◌∙◌, subst}
use Rattle.std.specs.List.{flat_map}
use Rattle.std.proofs.lemmas.Result.{on_ok_weaker}
use Rattle.fifo_net.specs.Net.{Took}
use Rattle.upd_base.specs.declared.body.Body.{Body}
use Rattle.order_trait.specs.Outbox.{Grows, SendFits}
use Rattle.order_trait.specs.Runs.{Inputs, Seat}
use Rattle.consensus_rules.specs.Delivered.{next}
use Rattle.consensus_rules.specs.Instances.{number_in}
use Rattle.consensus_rules.specs.Consensus.{hears_one, passes_rb, starts_up}
use Rattle.instance_table.proofs.Told.{grows_more}
use Rattle.consensus_order.specs.ConsensusOrder.{heard_by, seat_of}
use Rattle.consensus_order.proofs.Calls.{sends_all}
use Rattle.consensus_order.proofs.ordering.ConsensusOrderOrdering.receive.Goals as goal

pub returns-clause-fits : goal.returns-clause-fits
returns-clause-fits c =
    let same : seat_of c.deliver.new.self ≡ seat_of c.args.self.now = c.deliver.ensures.seat ∙ c.take.ensures.seat in
    on_ok_weaker c.start_next.result
    (λ grows.
    grows_more (SendFits (seat_of c.args.self.now).members) c.args.out.now c.take.new.out c.start_next.new.out c.in_ok-take.ensures.fits_out
    (subst (λ s. Grows (SendFits s.members) c.take.new.out c.start_next.new.out) same grows))
    c.start_next.ensures.fits_out

pub returns-clause-stands : goal.returns-clause-stands
returns-clause-stands c =
    on_ok_weaker c.start_next.result
    (λ stands past s. stands c.args.from c.args.body.now past (c.in_ok-deliver.ensures.stands c.args.from c.args.body.now past (c.in_ok-take.ensures.stands past s)))
    c.start_next.ensures.stands

pub returns-clause-sent : goal.returns-clause-sent
returns-clause-sent c =
    let same : seat_of c.deliver.new.self ≡ seat_of c.args.self.now = c.deliver.ensures.seat ∙ c.take.ensures.seat in
    let seat : Seat = seat_of c.args.self.now in
    let from : ℕ = c.args.from in
    let body : Body = c.args.body.now in
    on_ok_weaker c.start_next.result
    (λ sent past s.
    let inputs : Inputs = Took from body ∷ past in
    sends_all c.args.out.now c.take.new.out c.start_next.new.out (passes_rb seat.members past body) (flat_map (hears_one seat.members seat.me from body past) (number_in body))
    (starts_up seat.members seat.me (next inputs) inputs (heard_by seat.members from body past (next inputs)))
    (c.in_ok-take.ensures.sent past s)
    (subst (λ t. c.start_next.new.out ≡ c.take.new.out ++ starts_up t.members t.me (next inputs) inputs (heard_by t.members from body past (next inputs))) same
    (sent from body past (c.in_ok-deliver.ensures.stands from body past (c.in_ok-take.ensures.stands past s)))))
    c.start_next.ensures.sent

pub returns-clause-delivered : goal.returns-clause-delivered
returns-clause-delivered c =
    on_ok_weaker c.start_next.result
    (λ stands past s more grown. c.in_ok-deliver.ensures.delivered c.args.from c.args.body.now past more (c.in_ok-take.ensures.stands past s) grown)
    c.start_next.ensures.stands
