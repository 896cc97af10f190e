use Rattle.std.proofs.Common.{◌++◌, sym, ap, ◌∙◌, subst, arith}
use Rattle.std.specs.List.{All}
use Rattle.order_trait.specs.Outbox.{SendFits, to_all}
use Rattle.order_trait.proofs.Sends.{to_all-fits}
use Rattle.ct_consensus.proofs.Leading.{to_each_written}
use Rattle.ct_consensus.proofs.running.send_all.Goals as goal

pub returns-clause-sent : goal.returns-clause-sent
returns-clause-sent c = λ say e.
    let n = c.args.seat.now.members in
    let k = c.args.seat.now.number in
    record {
      says_are = c.in_ok-push_all.ensures.ok ∙ ap (λ b. c.args.out.now ++ to_all n b) e ∙ ap (λ l. c.args.out.now ++ l) (sym (to_each_written n k say));
      fit = subst (All (SendFits n)) (sym (to_each_written n k say))
          (subst (λ b. All (SendFits n) (to_all n b)) e (to_all-fits n n c.args.body.now (omega arith) c.requires.fits c.requires.counts));
    }
