use Rattle.std.proofs.Common.{◌<◌, ◌∷◌, refl, sym, subst, arith}
use Rattle.fifo_net.specs.Net.{Called}
use Rattle.instance_rules.specs.Say.{Suspects}
use Rattle.instance_rules.specs.History.{suspected}
use Rattle.ct_consensus.specs.Moves.{Sends}
use Rattle.ct_consensus.specs.Stance.{Settled}
use Rattle.ct_consensus.proofs.Inputs.{called, says_called, not_suspected}
use Rattle.ct_consensus.proofs.running.Running.suspect.Goals as goal

pub returns-clause-stands : goal.returns-clause-stands
returns-clause-stands c = λ past who row old.
    let fits : c.args.seat.now.me < c.args.seat.now.members = c.args.seat.now.seated in
    called c.args.seat.now.members c.args.seat.now.me c.args.self.now _ (Suspects who) past fits
    (not_suspected c.args.suspected.now (suspected (Called (Suspects who) ∷ past)) c.args.seat.now.me (omega (arith, fits, c.args.seat.now.few)) c.requires.not_me row)
    old (c.in_ok-suspect.ensures.place past who row (subst (Settled c.args.seat.now.members (suspected past)) (sym old.place) old.settled)) refl refl

pub returns-clause-sent : goal.returns-clause-sent
returns-clause-sent c = λ past who row old.
    subst (Sends c.args.seat.now.members c.args.seat.now.number c.args.out.now c.suspect.new.out)
    (says_called c.args.seat.now.members c.args.seat.now.me c.args.self.now (Suspects who) past old)
    (c.in_ok-suspect.ensures.sent past who row (subst (Settled c.args.seat.now.members (suspected past)) (sym old.place) old.settled))
