use Rattle.std.proofs.Common.{◌≡◌, ◌∙◌, sym, ap, subst, Some, rules, true}
use Rattle.std.specs.Prelude.{slice_get}
use Rattle.std.proofs.lemmas.Option.{slice_get_within}
use Rattle.member_core.specs.Input.{MayCall}
use Rattle.group_world.specs.Seen.{seen_by, frames_on}
use Rattle.group_world.specs.Moves.{can_receive, is_enabled, is_ready}
use Rattle.group_world.proofs.Asked.{may_call, step_below_members, received, may_take, ready_found}
use Rattle.group_world.proofs.world.World.visit_for.Goals as goal

pub returns-in_ok-copy-in-Call-clause-at_fits : goal.returns-in_ok-copy-in-Call-clause-at_fits
returns-in_ok-copy-in-Call-clause-at_fits g c =
    step_below_members g.O.Ordering c.args.plan.now (seen_by c.args.self.now) _ _ c.step-step.result.now c.requires.of_plan c.step-step.ensures

pub returns-in_ok-copy-in-Call-clause-may : goal.returns-in_ok-copy-in-Call-clause-may
returns-in_ok-copy-in-Call-clause-may g c k e =
    subst (MayCall g.O.Ordering k) (sym c.in_ok-copy-in-Call.ensures) (may_call g.O.Ordering c.args.plan.now (seen_by c.args.self.now) _ _ c.step-step.result.now.at c.step-step.result.now k c.requires.of_plan c.step-step.ensures e)

pub returns-in_ok-frame-in-Receive-clause-at_fits : goal.returns-in_ok-frame-in-Receive-clause-at_fits
returns-in_ok-frame-in-Receive-clause-at_fits g c =
    let s = seen_by c.args.self.now in
    let can : can_receive s c.in-Receive.from c.in-Receive.to ≡ true = sym (ap (is_enabled c.args.plan.now s) c.in-Receive.is) ∙ c.requires.enabled in
    let r = received s c.in-Receive.from c.in-Receive.to can in
    slice_get_within s.members c.in-Receive.to r.member r.found

pub returns-in_ok-frame-in-Receive-clause-may : goal.returns-in_ok-frame-in-Receive-clause-may
returns-in_ok-frame-in-Receive-clause-may g c k e =
    let s = seen_by c.args.self.now in
    let can : can_receive s c.in-Receive.from c.in-Receive.to ≡ true = sym (ap (is_enabled c.args.plan.now s) c.in-Receive.is) ∙ c.requires.enabled in
    let u = c.unwrap.ensures in
    let next : slice_get (frames_on s c.in-Receive.from c.in-Receive.to) 0 ≡ Some c.in_ok-frame-in-Receive.frame = search rules in
    may_take g.O.Ordering c.args.plan.now s c.in-Receive.from c.in-Receive.to c.in_ok-frame-in-Receive.frame k c.requires.of_plan can next e

pub returns-in-Release-clause-at_fits : goal.returns-in-Release-clause-at_fits
returns-in-Release-clause-at_fits g c =
    let s = seen_by c.args.self.now in
    let can : is_ready (slice_get s.members c.in-Release.at) ≡ true = sym (ap (is_enabled c.args.plan.now s) c.in-Release.is) ∙ c.requires.enabled in
    let r = ready_found (slice_get s.members c.in-Release.at) can in
    slice_get_within s.members c.in-Release.at r.0 r.1
