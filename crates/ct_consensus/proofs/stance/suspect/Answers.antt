use Rattle.std.proofs.Common.{◌≡◌, ◌<◌, ◌∷◌, true, sym, ap, ◌∙◌, subst, rules}
use Rattle.fifo_net.specs.Net.{Called}
use Rattle.instance_rules.specs.Say.{Suspects, coordinator}
use Rattle.instance_rules.specs.History.{suspected}
use Rattle.instance_rules.specs.Place.{after, refuse, go_on, moves}
use Rattle.ct_consensus.specs.Moves.{Sends}
use Rattle.ct_consensus.specs.Stance.{Settled, standing}
use Rattle.ct_consensus.proofs.Rounds.{suspicion_moves}
use Rattle.ct_consensus.proofs.Steps.{sends_then}
use Rattle.ct_consensus.proofs.stance.suspect.Goals as goal

pub returns-in_ok-go_on-in-Some-clause-sent : goal.returns-in_ok-go_on-in-Some-clause-sent
returns-in_ok-go_on-in-Some-clause-sent c = λ past who row settled.
    let n = c.args.seat.now.members in
    let k = c.args.seat.now.number in
    let p = c.in-Some.place in
    let now = suspected (Called (Suspects who) ∷ past) in
    let here : standing c.args.stance.now ≡ p = ap standing c.in-Some.is in
    let told : c.is_suspected.result ≡ true = search rules in
    let is : now (coordinator n p.round) ≡ true = sym (c.is_suspected.ensures now row) ∙ told in
    let some : 0 < p.round = search rules in
    let move : moves n past (Called (Suspects who)) p ≡ after (refuse n p).says (go_on n now (refuse n p).place) =
    suspicion_moves n past who p (subst (Settled n (suspected past)) here settled) some is in
    let rest : Sends n k c.refuse.new.out c.go_on.new.out (go_on n now (refuse n p).place).says =
    subst (λ q. Sends n k c.refuse.new.out c.go_on.new.out (go_on n now q).says) c.refuse.ensures.place (c.in_ok-go_on-in-Some.ensures.sent now row) in
    subst (λ m. Sends n k c.args.out.now c.go_on.new.out m.says) (sym (ap (moves n past (Called (Suspects who))) here ∙ move))
    (sends_then n k _ _ _ _ _ c.in_ok-refuse-in-Some.ensures.sent rest)
