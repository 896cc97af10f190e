use Rattle.std.proofs.Common.{ℕ, Vec, Global, ◌≡◌, ◌∙◌, sym, ap, map, reverse, arith}
use Rattle.std.proofs.Math.Nat.{ℕ_set}
use Rattle.std.proofs.lemmas.List.{length-map}
use Rattle.group_run.specs.Part.{version}
use Rattle.member_rules.specs.Kept.{rules_of}
use Rattle.member_core.specs.Member.{kept_by}
use Rattle.group_world.specs.Seen.{seen_by}
use Rattle.run_journal.specs.Asked.{listed}
use Rattle.run_journal.specs.Journal.{plan_of, past_of}
use Rattle.run_journal.proofs.Lists.{newest_first}
use Rattle.run_journal.proofs.Reading.{read, may_call, caller_fits}
use Rattle.run_journal.proofs.Recorded.{the_call, call_made_so, call_answered, stands_more, few_more, asked_more}
use Rattle.run_journal.proofs.journal.Journal.call.Goals as goal

pub member-requires-after_bounds : goal.member-requires-after_bounds
member-requires-after_bounds g c = λ κs.
    let j = c.args.self.now in
    let fits = caller_fits (plan_of j) (past_of j) c.args.thread c.in-Some.step.now j.of_plan.of_plan (sym c.in-Some.ensures) in
    omega (arith, fits, j.of_plan.many)

pub make_room-requires : goal.make_room-requires
make_room-requires g c =
    let j = c.args.self.now in
    let fits = caller_fits (plan_of j) (past_of j) c.args.thread c.in-Some.step.now j.of_plan.of_plan (sym c.in-Some.ensures) in
    omega (arith, fits, j.asked_are.members, length-map j.asked.items (λ (v : Vec ℕ Global). v.items))

pub advance-requires-clause-enabled : goal.advance-requires-clause-enabled
advance-requires-clause-enabled g c = λ κs lives.
    let j = c.args.self.now in
    may_call g.O.Ordering (plan_of j) (seen_by j.world) (past_of j) c.args.thread c.in-Some.step.now j.stands (sym c.in-Some.ensures)

pub invariant_of-self-2 : goal.invariant_of-self-2
invariant_of-self-2 g c =
    let j = c.args.self.now in
    let a = c.advance in
    let e = c.in_ok-event in
    let room = c.is_spent.ensures.room c.if-is_spent.false in
    let made = the_call g.O.Ordering (plan_of j) (seen_by j.world) (seen_by c.advance.new.world) (past_of j) c.args.thread c.in-Some.step.now c.answer_of-answer.result e.event j.of_plan room (sym c.in-Some.ensures) e.ensures.event e.ensures.stands c.answer_of-answer.ensures j.stands in
    let items = λ (v : Vec ℕ Global). v.items in
    let fits = caller_fits (plan_of j) (past_of j) c.args.thread c.in-Some.step.now j.of_plan.of_plan (sym c.in-Some.ensures) in
    let before = read g.O.Ordering (plan_of j) (seen_by j.world) (past_of j) c.in-Some.step.now.at (kept_by c.member.result.now) c.version-version.result (λ g me p. version p) ℕ_set j.of_plan j.stands c.member.ensures.value c.version-version.ensures.part in
    let lists : map items c.note.new.lists.items ≡ listed c.answer_of-answer.result c.in-Some.step.now.at c.version-version.result (map items j.asked.items) =
    c.note.ensures ∙ ap (λ xs. listed c.answer_of-answer.result c.in-Some.step.now.at c.version-version.result xs) c.make_room.ensures.same in
    record {
      limit_is = j.limit_is;
      few = few_more (plan_of j) j.events.items a.new.events.items e.event room e.ensures.events;
      of_plan = a.ensures.of_plan;
      stands = stands_more g.O.Ordering (plan_of j) (seen_by j.world) (seen_by a.new.world) j.events.items a.new.events.items e.event j.of_plan room e.ensures.stands e.ensures.events j.stands;
      asked_are = asked_more (rules_of g.O.Ordering) (plan_of j) j.events.items a.new.events.items e.event c.args.thread c.version-version.result c.in-Some.step.now c.answer_of-answer.result (map items j.asked.items) (map items c.note.new.lists.items)
          made e.ensures.events fits before lists j.asked_are;
    }

pub returns-clause-made : goal.returns-clause-made
returns-clause-made g c =
    let j = c.args.self.now in
    let e = c.in_ok-event in
    let room = c.is_spent.ensures.room c.if-is_spent.false in
    let made = the_call g.O.Ordering (plan_of j) (seen_by j.world) (seen_by c.advance.new.world) (past_of j) c.args.thread c.in-Some.step.now c.answer_of-answer.result e.event j.of_plan room (sym c.in-Some.ensures) e.ensures.event e.ensures.stands c.answer_of-answer.ensures j.stands in
    call_made_so (rules_of g.O.Ordering) (plan_of j) (past_of j) (reverse c.advance.new.events.items) c.args.thread c.in-Some.step.now c.answer_of-answer.result e.event made (newest_first j.events.items c.advance.new.events.items e.event e.ensures.events)

pub returns-clause-answer : goal.returns-clause-answer
returns-clause-answer g c =
    let j = c.args.self.now in
    let e = c.in_ok-event in
    let room = c.is_spent.ensures.room c.if-is_spent.false in
    let made = the_call g.O.Ordering (plan_of j) (seen_by j.world) (seen_by c.advance.new.world) (past_of j) c.args.thread c.in-Some.step.now c.answer_of-answer.result e.event j.of_plan room (sym c.in-Some.ensures) e.ensures.event e.ensures.stands c.answer_of-answer.ensures j.stands in
    call_answered (rules_of g.O.Ordering) (plan_of j) (past_of j) c.args.thread c.in-Some.step.now c.answer_of-answer.result e.event made
