use Rattle.std.proofs.Common.{◌≡◌, arith}
use Rattle.member_rules.proofs.Came.{came_acts}
use Rattle.member_core.proofs.acts.replaced.Goals as goal

pub returns-clause-came : goal.returns-clause-came
returns-clause-came g c =
    let here : c.args.version ≡ c.args.repl.now.version = let a = c.requires.version in let b = c.if-version.false in let e = c.version.ensures.value in omega arith in
    came_acts g.O.Ordering.is_served c.args.repl.now c.in_ok-copied.copied c.delivered.new.self c.args.version c.args.delivered.items c.in_ok-served.served.items c.in_ok-acts.acts.items
    c.new-entries.result.items c.sort_acts.new.log.items c.in_ok-next.next c.new-again.result.items c.sort_acts.new.again.items
    here c.in_ok-copied.ensures c.in_ok-served.ensures c.in_ok-acts.ensures.present c.in_ok-acts.ensures.after c.new-entries.ensures.items c.new-again.ensures.items
    c.in_ok-next.ensures.log c.in_ok-next.ensures.again c.in_ok-next.ensures.bound
