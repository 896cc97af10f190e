use Rattle.std.proofs.Common.{arith, map}
use Rattle.std.proofs.lemmas.Grind.{common_steps}
use Rattle.upd_base.specs.Plan.{plan_of}
use Rattle.upd_base.proofs.PlanFacts.{plan_facts}
use Rattle.upd_base.proofs.Maps.{in_maps, counts, Counts, InMaps}
use Rattle.upd_base.proofs.plan.Plan.bound.Goals as goal

pub bound_of-requires-clause-members : goal.bound_of-requires-clause-members
bound_of-requires-clause-members c = let p = c.self.inside in (plan_facts (plan_of p.members p.first (map (λ t. t.items) p.threads.items)) c.self.invariant).few

pub bound_of-requires-clause-calls : goal.bound_of-requires-clause-calls
bound_of-requires-clause-calls c =
    let k : Counts c.as_slice-threads.result.now =
    rw c.as_slice-threads.ensures.value (counts c.self.inside.members c.self.inside.first c.self.inside.threads.items c.self.invariant) in
    grind (arith, common_steps, k.calls, c.as_slice-threads.ensures.value, c.total_steps.ensures)

pub bound_of-requires-clause-broadcasts : goal.bound_of-requires-clause-broadcasts
bound_of-requires-clause-broadcasts c =
    let k : Counts c.as_slice-threads.result.now =
    rw c.as_slice-threads.ensures.value (counts c.self.inside.members c.self.inside.first c.self.inside.threads.items c.self.invariant) in
    grind (arith, common_steps, k.calls, k.changes, k.broadcasts, c.as_slice-threads.ensures.value, c.total_steps.ensures, c.total_sends.ensures, c.total_changes-changes.ensures)

pub bound_of-requires-clause-changes : goal.bound_of-requires-clause-changes
bound_of-requires-clause-changes c =
    let k : Counts c.as_slice-threads.result.now =
    rw c.as_slice-threads.ensures.value (counts c.self.inside.members c.self.inside.first c.self.inside.threads.items c.self.invariant) in
    grind (arith, common_steps, k.changes, c.as_slice-threads.ensures.value, c.total_changes-changes.ensures)

pub returns : goal.returns
returns c =
    let k : Counts c.as_slice-threads.result.now =
    rw c.as_slice-threads.ensures.value (counts c.self.inside.members c.self.inside.first c.self.inside.threads.items c.self.invariant) in
    let m : InMaps c.self.inside.members c.as_slice-threads.result.now =
    rw c.as_slice-threads.ensures.value (in_maps c.self.inside.members c.self.inside.threads.items) in
    rw (← c.self.view_is, ← c.as_slice-threads.ensures.value) (grind (
      arith,
      common_steps,
      m.steps,
      m.sends,
      m.changes,
      k.calls,
      k.changes,
      k.broadcasts,
      c.as_slice-threads.ensures.value,
      c.total_steps.ensures,
      c.total_sends.ensures,
      c.total_changes-changes.ensures,
      c.bound_of.ensures,
    ))
