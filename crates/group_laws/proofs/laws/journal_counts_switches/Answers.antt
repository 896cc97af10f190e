use Rattle.order_trait.specs.Here.{like_self}
use Rattle.group_run.specs.Laws.{KeepsOrder}
use Rattle.member_rules.specs.Kept.{rules_of}
use Rattle.run_journal.specs.Journal.{plan_of, past_of}
use Rattle.group_laws.proofs.laws.journal_counts_switches.Goals as goal

pub returns-clause-kinds : goal.returns-clause-kinds
returns-clause-kinds g c =
    let L = g.met.O.Ordering g.world.𝓛 g.world.𝓜 g.world.𝓡 (like_self _ _) in
    let keeps : KeepsOrder (rules_of g.O.Ordering) = record { agreement = L.agreement; integrity = L.integrity } in
    let p = c.plan.ensures in
    λ i fits. c.versions_count_switches.ensures.kinds (rules_of g.O.Ordering) keeps (plan_of c.args.journal.now) p.first_served (past_of c.args.journal.now) p.run i fits
