use Rattle.std.proofs.Common.{false, true, refl, inl, inr, subst}
use Rattle.turn_lock.proofs.Lists.{IsPrefix-self}
use Rattle.live_group.specs.Pass.{past_before}
use Rattle.member_threads.specs.Worker.{HasWorked, wants}
use Rattle.member_threads.proofs.Steps.{was_unmade}
use Rattle.member_threads.proofs.Working.{few_left, worked_aside, worked_more_at, worked_refused_at}
use Rattle.member_threads.proofs.serving.bring_over.Goals as goal

pub returns-in_default : goal.returns-in_default
returns-in_default g c = record { pass = c.requires.pass; parts = refl; seen = IsPrefix-self _; worked = λ start k. k }

pub bring-requires-clause-few : goal.bring-requires-clause-few
bring-requires-clause-few g c = λ _ _. few_left _ _ c.args.from c.args.to _ g.L.Line _ _ false _ _ _ _ c.requires.plan c.in-Serving.is c.requires.worked.1

pub returns-in-Ok-None-clause-worked : goal.returns-in-Ok-None-clause-worked
returns-in-Ok-None-clause-worked g c = λ start k.
    let e = c.in-Ok-None.ensures in
    worked_aside _ _ c.args.from c.args.to _ g.L.Line _ _ _ false false c.args.frame.now start _ _ _ c.requires.pass.knows.goes_on c.requires.pass.of.rise c.requires.next (rw c.in-Ok-None.field-0-is at e.part) e.later (inl (rw c.in-Ok-None.field-0-is at e.set_aside))
    (subst (λ z. HasWorked c.args.group.now g.L.Line c.args.pass.now c.args.from c.args.to false start c.args.served.now.line z) c.in-Serving.is k)

pub returns-clause-worked : goal.returns-clause-worked
returns-clause-worked g c = λ start k.
    let e = c.in-Err.ensures in
    worked_aside _ _ c.args.from c.args.to _ g.L.Line _ _ _ false true c.args.frame.now start _ _ _ c.requires.pass.knows.goes_on c.requires.pass.of.rise c.requires.next e.err e.later (inr (e.stopped, refl))
    (subst (λ z. HasWorked c.args.group.now g.L.Line c.args.pass.now c.args.from c.args.to false start c.args.served.now.line z) c.in-Serving.is k)

pub returns-in-Went-clause-worked : goal.returns-in-Went-clause-worked
returns-in-Went-clause-worked g c = λ start k.
    let b = c.in-Ok-Some.ensures in
    let e = c.in-Went.ensures in
    worked_more_at _ _ c.args.from c.args.to _ g.L.Line _ _ _ _ (past_before c.take_frame.new.pass) _ false false c.args.frame.now _ start _ _ _ _ c.in-Serving.is e.made.goes_on e.made.made e.made.place (rw c.in-Ok-Some.field-0-is at b.same) e.same e.room (rw c.in-Ok-Some.field-0-is at b.whole) b.later (rw c.in-Ok-Some.field-0-is at b.counted) k

pub returns-in-Ok-Some : goal.returns-in-Ok-Some
returns-in-Ok-Some g c =
    let b = c.in-Ok-Some.ensures in
    let e = c.take_frame.ensures in
    let other = c.in_default-take_frame.not-Went in
    let why = was_unmade _ c.take_frame.result other e.refused in
    let same = rw c.in-Ok-Some.field-0-is at b.same in
    let whole = rw c.in-Ok-Some.field-0-is at b.whole in
    let counted = rw c.in-Ok-Some.field-0-is at b.counted in record {
      pass = e.pass;
      parts = e.parts;
      seen = e.seen;
      worked = λ start k.
          worked_refused_at _ _ c.args.from c.args.to _ g.L.Line _ _ _ _ _ false (wants c.take_frame.result) c.args.frame.now _ why.0 start _ _ _ _ c.in-Serving.is c.requires.pass.knows.goes_on c.requires.pass.of.rise c.requires.next e.seen
          (was_unmade _ c.take_frame.result other e.unmade) same whole b.later counted why.1 why.2 k;
    }
