use Rattle.std.proofs.Common.{◌<◌, refl, arith}
use Rattle.instance_rules.specs.Say.{Moves_on}
use Rattle.instance_rules.specs.History.{suspected}
use Rattle.ct_consensus.proofs.Inputs.{took, not_suspected}
use Rattle.ct_consensus.proofs.running.Running.take_next.Goals as goal

pub returns-clause-stands : goal.returns-clause-stands
returns-clause-stands c = λ past row old.
    let fits : c.args.seat.now.me < c.args.seat.now.members = c.args.seat.now.seated in
    took c.args.seat.now.members c.args.seat.now.me c.args.self.now _ c.args.from (Moves_on c.args.round) past fits
    (not_suspected c.args.suspected.now (suspected past) c.args.seat.now.me (omega (arith, fits, c.args.seat.now.few)) c.requires.not_me row)
    tt refl refl (λ r. refl) (λ r. refl) old (c.in_ok-take_next.ensures.place past row) refl refl
