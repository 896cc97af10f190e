use Rattle.std.proofs.Common.{◌≡◌, None, Some, ap, sym, ◌∙◌, subst}
use Rattle.std.specs.Ordering.{nat_cmp}
use Rattle.std.specs.BTreeMap.{get}
use Rattle.instance_rules.specs.Place.{place}
use Rattle.instance_table.specs.Table.{IsKept}
use Rattle.instance_table.proofs.Kept.{seated_at, quiet_round}
use Rattle.instance_table.proofs.table.Instances.round.Goals as goal

pub returns-in-Some : goal.returns-in-Some
returns-in-Some c = λ turns suspects s fresh.
    let is : get nat_cmp c.args.self.now.running c.args.number ≡ Some c.in-Some.instance.now = sym c.in-Some.ensures.value in
    let kept : IsKept (turns c.args.number) (Some c.in-Some.instance.now) = subst (IsKept (turns c.args.number)) is (s.kept c.args.number) in
    c.round.ensures (turns c.args.number) kept.1
    ∙ ap (λ n. (place n (turns c.args.number)).round) (seated_at c.args.self.now.members c.args.self.now.me c.args.self.now.running c.args.number c.in-Some.instance.now is c.args.self.now.seats).members

pub returns-in-None : goal.returns-in-None
returns-in-None c = λ turns suspects s fresh.
    let is : get nat_cmp c.args.self.now.running c.args.number ≡ None = sym c.in-None.ensures.value in
    sym (quiet_round c.args.self.now.members (turns c.args.number) fresh (subst (IsKept (turns c.args.number)) is (s.kept c.args.number)))
