use Rattle.std.proofs.Common.{sym, map, ℕ, Vec, Global}
use Rattle.member_rules.specs.Kept.{rules_of}
use Rattle.group_world.specs.Seen.{seen_by}
use Rattle.run_journal.specs.Journal.{plan_of, past_of}
use Rattle.run_journal.proofs.Reading.{may_receive}
use Rattle.run_journal.proofs.Recorded.{stands_after, few_after, asked_after, receipt_kept}
use Rattle.run_journal.proofs.journal.Journal.receive.Goals as goal

pub advance-requires-clause-enabled : goal.advance-requires-clause-enabled
advance-requires-clause-enabled g c = λ κs lives.
    let j = c.args.self.now in
    may_receive g.O.Ordering (plan_of j) (seen_by j.world) (past_of j) c.args.from c.args.to c.in-Some.sent.now j.of_plan j.stands c.requires.from_fits c.requires.to_fits (sym c.in-Some.ensures.value)

pub invariant_of-self : goal.invariant_of-self
invariant_of-self g c =
    let j = c.args.self.now in
    let a = c.advance in
    let room = c.is_spent.ensures.room c.if-is_spent.false in
    record {
      limit_is = j.limit_is;
      few = few_after (plan_of j) j.events.items a.new.events.items a.result _ room a.ensures.events a.ensures.err;
      of_plan = a.ensures.of_plan;
      stands = stands_after g.O.Ordering (plan_of j) (seen_by j.world) (seen_by a.new.world) j.events.items a.new.events.items a.result j.of_plan room a.ensures.stands a.ensures.events a.ensures.err j.stands;
      asked_are = asked_after (rules_of g.O.Ordering) (plan_of j) j.events.items a.new.events.items (map (λ (v : Vec ℕ Global). v.items) j.asked.items) a.result _ (receipt_kept (rules_of g.O.Ordering) (plan_of j) (past_of j) c.args.from c.args.to (map (λ (v : Vec ℕ Global). v.items) j.asked.items) a.result a.ensures.event) a.ensures.events a.ensures.err j.asked_are;
    }
