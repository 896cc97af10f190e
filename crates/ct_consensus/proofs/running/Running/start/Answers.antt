use Rattle.std.proofs.Common.{◌<◌, refl, arith}
use Rattle.instance_rules.specs.Say.{Starts}
use Rattle.instance_rules.specs.History.{suspected}
use Rattle.ct_consensus.proofs.Inputs.{called, not_suspected}
use Rattle.ct_consensus.proofs.running.Running.start.Goals as goal

pub returns-clause-stands : goal.returns-clause-stands
returns-clause-stands c = λ past row old.
    let fits : c.args.seat.now.me < c.args.seat.now.members = c.args.seat.now.seated in
    called c.args.seat.now.members c.args.seat.now.me c.args.self.now _ (Starts c.args.batch) past fits
    (not_suspected c.args.suspected.now (suspected past) c.args.seat.now.me (omega (arith, fits, c.args.seat.now.few)) c.requires.not_me row)
    old (c.in_ok-start.ensures.place past row) refl refl
