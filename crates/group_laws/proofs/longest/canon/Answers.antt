use Rattle.std.proofs.Common.{ℕ, ◌≡◌, ◌<◌, ◌≤◌, ◌∙◌, ap, subst, sym, refl, arith, length}
use Rattle.member_rules.specs.Kept.{rules_of}
use Rattle.group_run.specs.Run.{log_in}
use Rattle.upd_base.proofs.PlanFacts.{open_facts}
use Rattle.run_journal.specs.Journal.{plan_of, past_of}
use Rattle.group_laws.specs.Canon.{longest_below}
use Rattle.group_laws.proofs.Leading.{leads_all, log_begins}
use Rattle.group_laws.proofs.longest.canon.Goals as goal

pub loop-i-init : goal.loop-i-init
loop-i-init g c = record { lead = refl; fits = (open_facts (plan_of c.args.journal.now) c.plan.ensures.run.of_plan).some }

pub returns-clause-value : goal.returns-clause-value
returns-clause-value g c =
    let j = c.args.journal.now in
    let r = rules_of g.O.Ordering in
    let n : c.loop-i.i ≡ (plan_of j).members = (let m = c.members-members.ensures in let e = ap (λ p. p.members) c.plan.ensures.value in let f = c.loop-i-test.false in let a = c.loop-i.auto.i-end in omega arith) in
    let lead : c.loop-i.lead ≡ longest_below r (plan_of j) (past_of j) (plan_of j).members = c.loop-i.invariant.lead ∙ ap (longest_below r (plan_of j) (past_of j)) n in
    lead

pub returns-clause-longest : goal.returns-clause-longest
returns-clause-longest g c =
    let j = c.args.journal.now in
    let r = rules_of g.O.Ordering in
    let n : c.loop-i.i ≡ (plan_of j).members = (let m = c.members-members.ensures in let e = ap (λ p. p.members) c.plan.ensures.value in let f = c.loop-i-test.false in let a = c.loop-i.auto.i-end in omega arith) in
    let lead : c.loop-i.lead ≡ longest_below r (plan_of j) (past_of j) (plan_of j).members = c.loop-i.invariant.lead ∙ ap (longest_below r (plan_of j) (past_of j)) n in
    λ i lt. subst (λ k. length (log_in r (plan_of j) (past_of j) i) ≤ length (log_in r (plan_of j) (past_of j) k)) (sym lead) ((leads_all r (plan_of j) (past_of j) (plan_of j).members).longest i lt)

pub returns-clause-lowest : goal.returns-clause-lowest
returns-clause-lowest g c =
    let j = c.args.journal.now in
    let r = rules_of g.O.Ordering in
    let n : c.loop-i.i ≡ (plan_of j).members = (let m = c.members-members.ensures in let e = ap (λ p. p.members) c.plan.ensures.value in let f = c.loop-i-test.false in let a = c.loop-i.auto.i-end in omega arith) in
    let lead : c.loop-i.lead ≡ longest_below r (plan_of j) (past_of j) (plan_of j).members = c.loop-i.invariant.lead ∙ ap (longest_below r (plan_of j) (past_of j)) n in
    subst (λ k. (i : ℕ) → i < k → length (log_in r (plan_of j) (past_of j) i) < length (log_in r (plan_of j) (past_of j) k)) (sym lead) ((leads_all r (plan_of j) (past_of j) (plan_of j).members).lowest)

pub returns-clause-begins : goal.returns-clause-begins
returns-clause-begins g c =
    let j = c.args.journal.now in
    let r = rules_of g.O.Ordering in
    let n : c.loop-i.i ≡ (plan_of j).members = (let m = c.members-members.ensures in let e = ap (λ p. p.members) c.plan.ensures.value in let f = c.loop-i-test.false in let a = c.loop-i.auto.i-end in omega arith) in
    let lead : c.loop-i.lead ≡ longest_below r (plan_of j) (past_of j) (plan_of j).members = c.loop-i.invariant.lead ∙ ap (longest_below r (plan_of j) (past_of j)) n in
    λ i lt. log_begins r (plan_of j) (past_of j) c.journal_is_ordered.ensures i c.loop-i.lead lt c.loop-i.invariant.fits
    (subst (λ k. length (log_in r (plan_of j) (past_of j) i) ≤ length (log_in r (plan_of j) (past_of j) k)) (sym lead) ((leads_all r (plan_of j) (past_of j) (plan_of j).members).longest i lt))
