use Rattle.member_rules.specs.Kept.{group_of}
use Rattle.member_rules.specs.Stands.{part_of}
use Rattle.member_rules.proofs.Inputs.{may_make}
use Rattle.member_core.specs.Member.{kept_by}
use Rattle.member_core.specs.Input.{input_of}
use Rattle.member_core.proofs.Outcomes.{stands_made}
use Rattle.member_core.proofs.member.Member.prepare.Goals as goal

pub returns-clause-sent : goal.returns-clause-sent
returns-clause-sent g c = λ past h grows.
    let G = g.O.Ordering in
    let k = kept_by c.args.self.now in
    let x = input_of c.args.input.now in
    (c.in_ok-prepared.ensures.turn (part_of G k past) h (may_make (group_of G k) k.me past x h.in_order.some grows)).frames

pub returns-clause-stands : goal.returns-clause-stands
returns-clause-stands g c = λ past h grows.
    let G = g.O.Ordering in
    let k = kept_by c.args.self.now in
    let x = input_of c.args.input.now in
    stands_made G k c.in_ok-prepared.prepared past x
    (c.in_ok-prepared.ensures.turn (part_of G k past) h (may_make (group_of G k) k.me past x h.in_order.some grows))
