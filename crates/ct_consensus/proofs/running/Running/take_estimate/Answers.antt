use Rattle.std.proofs.Common.{◌≡◌, ◌||◌, true, false, refl, sym, ap, ◌∙◌, subst, rules}
use Rattle.instance_rules.specs.Say.{Estimates}
use Rattle.instance_rules.specs.Says.{leads, propose}
use Rattle.ct_consensus.specs.Moves.{Sends}
use Rattle.ct_consensus.proofs.Inputs.{or_false}
use Rattle.ct_consensus.proofs.Leading.{voted, leads_estimate, says_lead, propose_quiet, estimate_elsewhere, is_decide}
use Rattle.std.specs.List.{list_any}
use Rattle.instance_rules.specs.Says.{coordinates}
use Rattle.ct_consensus.proofs.running.Running.take_estimate.Goals as goal

pub returns-clause-stands : goal.returns-clause-stands
returns-clause-stands c = λ past old.
    let n = c.args.seat.now.members in
    let me = c.args.seat.now.me in
    let told : c.coordinates.result ≡ true = search rules in
    let mine : coordinates n me c.args.round ≡ true = sym c.coordinates.ensures ∙ told in
    let quiet : list_any is_decide (leads n me past c.args.from (Estimates c.args.round c.args.held)) ≡ false =
    ap (list_any is_decide) (leads_estimate n me c.args.from c.args.round c.args.held past mine) ∙ propose_quiet n c.args.round _ in
    voted n me c.args.self.now _ c.args.from c.args.round (Estimates c.args.round c.args.held) past refl (λ p. refl)
    (λ r ne. estimate_elsewhere r c.args.round c.args.held ne) (λ r ne. refl) old refl
    (sym (ap (λ b. c.args.self.now.led || b) quiet ∙ or_false c.args.self.now.led))
    (λ m kept. c.in_ok-proposed.ensures.kept past kept) c.in_ok-proposed.ensures.others

pub returns-clause-sent : goal.returns-clause-sent
returns-clause-sent c = λ past old.
    let n = c.args.seat.now.members in
    let me = c.args.seat.now.me in
    let told : c.coordinates.result ≡ true = search rules in
    let mine : coordinates n me c.args.round ≡ true = sym c.coordinates.ensures ∙ told in
    subst (Sends n c.args.seat.now.number c.args.out.now c.propose.new.out)
    (sym (says_lead n me c.args.from (Estimates c.args.round c.args.held) past old.undecided (λ p. refl) refl
    ∙ leads_estimate n me c.args.from c.args.round c.args.held past mine
    ∙ ap (propose n c.args.round) (sym (c.in_ok-proposed.ensures.made past (old.ballots c.args.round mine)))))
    c.in_ok-propose.ensures.sent
