use Rattle.std.proofs.Common.{◌≡◌, [], None, sym, subst}
use Rattle.std.specs.Ordering.{nat_cmp}
use Rattle.std.specs.BTreeMap.{get, is_at}
use Rattle.std.proofs.lemmas.Result.{IfOk-weaker}
use Rattle.instance_rules.specs.Say.{Turns}
use Rattle.instance_rules.specs.History as history
use Rattle.ct_consensus.specs.Instance as instance
use Rattle.instance_table.specs.Seated.{AreSeated, IsSeated}
use Rattle.instance_table.specs.Table.{IsKept}
use Rattle.instance_table.proofs.Kept.{all_but, seated_at, open_stands}
use Rattle.instance_table.proofs.table.Instances.take_out.Goals as goal

pub invariant_of-self-clause-seats : goal.invariant_of-self-clause-seats
invariant_of-self-clause-seats c =
    subst (AreSeated c.args.self.now.members c.args.self.now.me) (sym c.remove.ensures.entries)
    (all_but (IsSeated c.args.self.now.members c.args.self.now.me) (is_at (nat_cmp c.args.number)) c.args.self.now.running.entries c.args.self.now.seats)

pub returns-in-Some-clause-seat : goal.returns-in-Some-clause-seat
returns-in-Some-clause-seat c =
    seated_at c.args.self.now.members c.args.self.now.me c.args.self.now.running c.args.number c.in-Some.instance (sym c.in-Some.ensures.value) c.args.self.now.seats

pub returns-in-None-clause-stands : goal.returns-in-None-clause-stands
returns-in-None-clause-stands c =
    IfOk-weaker c.new.result (λ i. instance.StandsFor i []) (λ i. (turns : Turns) → history.decided turns ≡ None → IsKept turns (get nat_cmp c.args.self.now.running c.args.number) → instance.StandsFor i turns)
    (λ i fresh turns und kept. open_stands i turns und (subst (IsKept turns) (sym c.in-None.ensures.value) kept) fresh) c.new.ensures.stands
