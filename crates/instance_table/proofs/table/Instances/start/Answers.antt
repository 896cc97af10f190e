use Rattle.std.proofs.Common.{ℕ, ◌∷◌, Some, ap, sym, ◌∙◌, subst}
use Rattle.fifo_net.specs.Net.{Called}
use Rattle.instance_rules.specs.Say.{Starts}
use Rattle.instance_rules.specs.History as history
use Rattle.ct_consensus.specs.Moves.{IsRow}
use Rattle.ct_consensus.specs.Instance as instance
use Rattle.instance_table.specs.Table.{IsKept}
use Rattle.instance_table.proofs.Kept.{one_changed, row_of}
use Rattle.instance_table.proofs.table.Instances.start.Goals as goal

pub returns-clause-stands : goal.returns-clause-stands
returns-clause-stands c = λ turns new suspects und is others s.
    let k : ℕ = c.args.number in
    let row : IsRow c.take_out.new.self.suspected (history.suspected (turns k)) = row_of c.args.self.now.suspected c.take_out.new.self.suspected suspects (turns k) c.take_out.ensures.suspected (s.told k) s.row in
    let before : instance.StandsFor c.in_ok-instance.instance (turns k) = c.in_ok-instance.ensures.stands (turns k) und (s.kept k) in
    let after : instance.StandsFor c.start.new.self (Called (Starts c.args.batch) ∷ turns k) = c.in_ok-start.ensures.stands (turns k) row before in
    one_changed c.args.self.now c.put_back.new.self turns new suspects k (c.put_back.ensures.suspected ∙ c.take_out.ensures.suspected) others
    (λ j ne. c.in_ok-put_back.ensures.others j ne ∙ c.take_out.ensures.others j ne)
    (λ w. ap (λ l. history.suspected l w) is)
    (subst (IsKept (new k)) (sym c.in_ok-put_back.ensures.here) (subst (λ l. IsKept l (Some c.start.new.self)) (sym is) (und, after))) s
