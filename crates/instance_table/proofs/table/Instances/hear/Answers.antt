use Rattle.std.proofs.Common.{ℕ, ◌≡◌, ◌∷◌, Some, ap, sym, ◌∙◌, subst}
use Rattle.fifo_net.specs.Net.{Took}
use Rattle.instance_rules.specs.Bodies.{say_of}
use Rattle.instance_rules.specs.History as history
use Rattle.ct_consensus.specs.Moves.{IsRow}
use Rattle.ct_consensus.specs.Instance as instance
use Rattle.instance_table.specs.Table.{IsKept}
use Rattle.instance_table.proofs.Kept.{one_changed, row_of, undecided_before}
use Rattle.instance_table.proofs.table.Instances.hear.Goals as goal

pub returns-clause-stands : goal.returns-clause-stands
returns-clause-stands c = λ turns new suspects say says still is others s.
    let k : ℕ = c.args.number in
    let row : IsRow c.take_out.new.self.suspected (history.suspected (turns k)) = row_of c.args.self.now.suspected c.take_out.new.self.suspected suspects (turns k) c.take_out.ensures.suspected (s.told k) s.row in
    let before : instance.StandsFor c.in_ok-instance.instance (turns k) = c.in_ok-instance.ensures.stands (turns k) (undecided_before (Took c.args.from say) (turns k) still) (s.kept k) in
    let after : instance.StandsFor c.receive.new.self (Took c.args.from say ∷ turns k) = c.in_ok-receive.ensures.stands say (turns k) (subst (λ z. say_of z c.args.body.now ≡ Some say) (sym c.in_ok-instance.ensures.seat.number) says) row before in
    one_changed c.args.self.now c.put_back.new.self turns new suspects k (c.put_back.ensures.suspected ∙ c.take_out.ensures.suspected) others
    (λ j ne. c.in_ok-put_back.ensures.others j ne ∙ c.take_out.ensures.others j ne)
    (λ w. ap (λ l. history.suspected l w) is)
    (subst (IsKept (new k)) (sym c.in_ok-put_back.ensures.here) (subst (λ l. IsKept l (Some c.receive.new.self)) (sym is) (still, after))) s
