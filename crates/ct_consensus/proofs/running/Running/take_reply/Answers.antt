use Rattle.std.proofs.Common.{◌≡◌, ◌||◌, true, refl, sym, ap, ◌∙◌, subst, rules}
use Rattle.instance_rules.specs.Say.{Replies}
use Rattle.instance_rules.specs.Ballot.{proposal}
use Rattle.instance_rules.specs.Says.{leads}
use Rattle.ct_consensus.specs.Ballot.{concludes}
use Rattle.ct_consensus.specs.Moves.{Sends}
use Rattle.ct_consensus.proofs.Leading.{voted, leads_reply, says_lead, conclude_decides, conclude_same, reply_elsewhere, is_decide}
use Rattle.std.specs.List.{list_any}
use Rattle.instance_rules.specs.Says.{coordinates}
use Rattle.ct_consensus.proofs.running.Running.take_reply.Goals as goal

pub returns-clause-stands : goal.returns-clause-stands
returns-clause-stands c = λ past old.
    let n = c.args.seat.now.members in
    let me = c.args.seat.now.me in
    let told : c.coordinates.result ≡ true = search rules in
    let mine : coordinates n me c.args.round ≡ true = sym c.coordinates.ensures ∙ told in
    let both = conclude_same n c.args.round c.in_ok-verdict.verdict _ c.in_ok-verdict.proposed (proposal n c.args.round past)
    (c.in_ok-verdict.ensures.verdict past (old.ballots c.args.round mine)) (λ a is. c.in_ok-verdict.ensures.batch past a is (old.ballots c.args.round mine)) in
    let decides : list_any is_decide (leads n me past c.args.from (Replies c.args.round c.args.agree)) ≡ concludes c.in_ok-verdict.verdict c.in_ok-verdict.proposed =
    ap (list_any is_decide) (leads_reply n me c.args.from c.args.round c.args.agree past mine)
    ∙ conclude_decides n c.args.round _ (proposal n c.args.round past) c.args.seat.now.some ∙ sym both.1 in
    voted n me c.args.self.now _ c.args.from c.args.round (Replies c.args.round c.args.agree) past refl (λ p. refl)
    (λ r ne. refl) (λ r ne. reply_elsewhere r c.args.round c.args.agree ne) old refl
    (c.leads_on-self.ensures ∙ ap (λ b. c.args.self.now.led || b) (sym decides))
    (λ m kept. c.in_ok-verdict.ensures.kept past kept) c.in_ok-verdict.ensures.others

pub returns-clause-sent : goal.returns-clause-sent
returns-clause-sent c = λ past old.
    let n = c.args.seat.now.members in
    let me = c.args.seat.now.me in
    let told : c.coordinates.result ≡ true = search rules in
    let mine : coordinates n me c.args.round ≡ true = sym c.coordinates.ensures ∙ told in
    let both = conclude_same n c.args.round c.in_ok-verdict.verdict _ c.in_ok-verdict.proposed (proposal n c.args.round past)
    (c.in_ok-verdict.ensures.verdict past (old.ballots c.args.round mine)) (λ a is. c.in_ok-verdict.ensures.batch past a is (old.ballots c.args.round mine)) in
    subst (Sends n c.args.seat.now.number c.args.out.now c.conclude.new.out)
    (sym (says_lead n me c.args.from (Replies c.args.round c.args.agree) past old.undecided (λ p. refl) refl
    ∙ leads_reply n me c.args.from c.args.round c.args.agree past mine ∙ sym both.0))
    c.in_ok-conclude.ensures.sent
