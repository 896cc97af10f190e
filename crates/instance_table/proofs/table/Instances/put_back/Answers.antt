use Rattle.std.proofs.Common.{sym, subst}
use Rattle.instance_table.specs.Seated.{AreSeated}
use Rattle.instance_table.proofs.Kept.{all_with, either_way}
use Rattle.instance_table.proofs.table.Instances.put_back.Goals as goal

pub invariant_of-self-clause-seats : goal.invariant_of-self-clause-seats
invariant_of-self-clause-seats c =
    either_way c.put.result c.put.ensures.ok c.put.ensures.err
    (λ is. subst (AreSeated c.args.self.now.members c.args.self.now.me) (sym is)
    (all_with c.args.self.now.members c.args.self.now.me c.args.number c.args.instance c.args.self.now.running.entries c.requires c.args.self.now.seats))
    (λ same. subst (AreSeated c.args.self.now.members c.args.self.now.me) (sym same) c.args.self.now.seats)
