use Rattle.std.proofs.lemmas.Result.{IfOk-weaker}
use Rattle.order_trait.specs.Here.{like_self}
use Rattle.group_run.specs.Laws.{KeepsOrder}
use Rattle.member_core.specs.Prepared.{answer_of}
use Rattle.member_rules.specs.Kept.{rules_of}
use Rattle.group_world.specs.Seen.{seen_by}
use Rattle.group_world.proofs.Afterwards.{world_after}
use Rattle.group_world.proofs.Standing.{stands_after}
use Rattle.group_world.proofs.Making.{call_given, made_all, move_is, ready_all}
use Rattle.group_world.proofs.world.World.prepare.Goals as goal

pub prepare_event-requires-clause-call : goal.prepare_event-requires-clause-call
prepare_event-requires-clause-call g c κs live =
    call_given c.args.plan.now (seen_by c.args.self.now) c.args.choice c.in_ok-visit.visit.at c.in_ok-visit.visit.input c.in_ok-visit.ensures.input

pub returns-clause-event : goal.returns-clause-event
returns-clause-event g c =
    IfOk-weaker c.prepare_event.result _ _ (λ p is. move_is (seen_by c.args.self.now) c.args.choice c.in_ok-visit.visit.at (answer_of p.member) p.event is) c.prepare_event.ensures.event

pub returns-clause-ready : goal.returns-clause-ready
returns-clause-ready g c =
    let v = c.in_ok-visit.ensures in
    let e = c.prepare_event.ensures in
    let s = seen_by c.args.self.now in
    ready_all g.O.Ordering c.args.plan.now c.prepare_event.new.self s c.args.choice c.in_ok-visit.visit.at c.in_ok-visit.visit.input c.prepare_event.result e.kept c.requires.of_plan v.input e.event e.ready
    (made_all g.O.Ordering c.args.plan.now s c.args.choice c.in_ok-visit.visit.at c.in_ok-visit.visit.input c.prepare_event.result v.input v.at_fits v.may e.event e.prepared)

pub returns-clause-of_plan : goal.returns-clause-of_plan
returns-clause-of_plan g c =
    let v = c.in_ok-visit.ensures in
    let e = c.prepare_event.ensures in
    let s = seen_by c.args.self.now in
    IfOk-weaker c.prepare_event.result _ _ (λ p m new a. world_after g.O.Ordering c.args.plan.now s new p c.requires.of_plan m a)
    (made_all g.O.Ordering c.args.plan.now s c.args.choice c.in_ok-visit.visit.at c.in_ok-visit.visit.input c.prepare_event.result v.input v.at_fits v.may e.event e.prepared)

pub returns-clause-stands : goal.returns-clause-stands
returns-clause-stands g c =
    let L = g.met.O.Ordering g.world.𝓛 g.world.𝓜 g.world.𝓡 (like_self _ _) in
    let keeps : KeepsOrder (rules_of g.O.Ordering) = record { agreement = L.agreement; integrity = L.integrity } in
    let v = c.in_ok-visit.ensures in
    let e = c.prepare_event.ensures in
    let s = seen_by c.args.self.now in
    IfOk-weaker c.prepare_event.result _ _ (λ p m past new st short a. stands_after g.O.Ordering c.args.plan.now s new past p c.inputs_are_growing.ensures keeps c.requires.of_plan m st short a)
    (made_all g.O.Ordering c.args.plan.now s c.args.choice c.in_ok-visit.visit.at c.in_ok-visit.visit.input c.prepare_event.result v.input v.at_fits v.may e.event e.prepared)
