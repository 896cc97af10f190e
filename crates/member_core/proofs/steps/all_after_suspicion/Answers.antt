use Rattle.std.proofs.Common.{arith, if◌then◌else◌, refl, length, subst, ◌≡◌, ◌<◌, Some}
use Rattle.std.specs.Prelude.{slice_get}
use Rattle.std.proofs.lemmas.Option.{slice_get_read}
use Rattle.fifo_net.specs.Net.{Called}
use Rattle.order_trait.specs.Outbox.{Grows}
use Rattle.order_trait.specs.Runs.{Suspect, Trust}
use Rattle.member_rules.specs.Steps.{SentFits}
use Rattle.member_rules.proofs.Inputs.{grows_then}
use Rattle.member_rules.proofs.Modules.{all_at}
use Rattle.member_core.proofs.Told.{more_next, more_sent}
use Rattle.member_core.proofs.steps.all_after_suspicion.Goals as goal

pub loop-module-preserved : goal.loop-module-preserved
loop-module-preserved g c =
    let lt : c.loop-module.module-index < length c.args.modules.now = omega arith in
    let at : slice_get c.args.modules.now c.loop-module.module-index ≡ Some c.module-item.result =
    slice_get_read c.args.modules.now (length c.args.modules.now) c.loop-module.module-index c.module-item.result refl lt c.module-item.is in
    record {
      version = omega arith;
      next = rw c.in_ok-push.ensures.items (more_next g.O.Ordering (Called (if c.args.on then Suspect c.args.who else Trust c.args.who)) c.args.modules.now c.loop-module.all.items
          c.loop-module.module-index c.module-item.result c.in_ok-after_suspicion.field-0 lt c.module-item.is c.loop-module.invariant.next
          c.in_ok-after_suspicion.ensures.seat c.in_ok-after_suspicion.ensures.stands);
      fits = λ n members. grows_then (SentFits n) c.args.sent.now.items c.loop-module.sent.items c.after_suspicion.new.sent.items (c.loop-module.invariant.fits n members)
          (subst (λ k. Grows (SentFits k) c.loop-module.sent.items c.after_suspicion.new.sent.items)
          (all_at (λ m. (g.O.Ordering.seat m).members ≡ n) c.args.modules.now c.loop-module.module-index c.module-item.result members at) c.in_ok-after_suspicion.ensures.fits);
      sent = λ inputs h. more_sent g.O.Ordering (Called (if c.args.on then Suspect c.args.who else Trust c.args.who)) c.args.modules.now
          c.loop-module.module-index c.module-item.result inputs c.loop-module.sent.items c.after_suspicion.new.sent.items _ lt c.module-item.is (c.loop-module.invariant.sent inputs h)
          (rw c.loop-module.invariant.version at (c.in_ok-after_suspicion.ensures.sent (inputs c.loop-module.module-index) (h c.loop-module.module-index c.module-item.result at)));
    }
