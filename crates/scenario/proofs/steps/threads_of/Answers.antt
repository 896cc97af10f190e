use Rattle.std.proofs.Common.{length, ◌∙◌, map}
use Rattle.std.proofs.lemmas.List.{map_push}
use Rattle.upd_base.specs.Plan.{changes_in}
use Rattle.std.proofs.lemmas.Result.{err_from_is_err_and}
use Rattle.scenario.specs.Reading.{thread}
use Rattle.scenario.proofs.Loops.{loop_goes_on, loop_ends, loop_is_done}
use Rattle.scenario.proofs.Counts.{all_more, sums_more, count_more}
use Rattle.scenario.proofs.steps.threads_of.Goals as goal

pub returns-in_err-thread-clause-given : goal.returns-in_err-thread-clause-given
returns-in_err-thread-clause-given c =
    let p = err_from_is_err_and c.from_residual-in_err-thread.result c.from_residual-in_err-thread.ensures.1 in
    rw (p.1, p.2) (loop_ends (thread c.args.members) (map (λ t. t.items) c.loop-i.found.items) c.loop-i.so_far c.args.path.now c.deref.result.now c.args.list.now c.loop-i.i c.index-list-i.result _ _
    c.loop-i-test.true c.index-list-i.is (c.deref.ensures.value ∙ c.in_ok-own.ensures) c.in_err-thread.ensures.given c.loop-i.invariant.0)

pub loop-i-preserved : goal.loop-i-preserved
loop-i-preserved c = (
  rw (c.in_ok-push.ensures.items, map_push) (loop_goes_on (thread c.args.members) (map (λ t. t.items) c.loop-i.found.items) c.loop-i.so_far c.args.path.now c.deref.result.now c.args.list.now c.loop-i.i c.index-list-i.result _ _ _
      c.loop-i-test.true c.index-list-i.is (c.deref.ensures.value ∙ c.in_ok-own.ensures) c.in_ok-thread.ensures.given c.loop-i.invariant.0),
  c.in_ok-thread.ensures.few,
  c.in_ok-thread.ensures.most,
  all_more _ _ _ _ c.in_ok-push.ensures.items c.loop-i.invariant.3 c.in_ok-thread.ensures.fits,
  sums_more (λ t. length t.items) _ _ _ _ _ c.in_ok-push.ensures.items c.loop-i.invariant.4 c.in_ok-thread.ensures.steps,
  sums_more (λ t. changes_in t.items) _ _ _ _ _ c.in_ok-push.ensures.items c.loop-i.invariant.5 c.in_ok-thread.ensures.changes,
  count_more _ _ _ _ c.in_ok-push.ensures.items c.loop-i.invariant.6,
)

pub returns-clause-given : goal.returns-clause-given
returns-clause-given c = loop_is_done (thread c.args.members) (map (λ t. t.items) c.loop-i.found.items) c.loop-i.so_far c.args.path.now c.args.list.now c.loop-i.i _ c.loop-i-test.false c.loop-i.invariant.0
