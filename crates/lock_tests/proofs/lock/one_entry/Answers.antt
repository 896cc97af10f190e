use Rattle.std.proofs.Common.{refl, ap, ◌∙◌}
use Rattle.turn_lock.specs.Pass.{seen}
use Rattle.turn_lock.proofs.Turns.{one_entry}
use Rattle.lock_tests.proofs.lock.one_entry.Goals as goal

pub returns-then-added-clause-list : goal.returns-then-added-clause-list
returns-then-added-clause-list g c =
    let made = c.in-Ok.ensures in
    let split = c.split-second.ensures in
    (one_entry _ _ _ _ _ _ _ _ _ 7 (ap (λ v. v.items) made.opening ∙ c.new.ensures.items) split.own.1 (split.own.0 ∙ made.own) (c.if-added.ensures.added refl) c.join.ensures.prefixes.1 c.close-list.ensures.seen c.join.ensures.own c.close-list.ensures.own).0

pub returns-then-added-clause-seen : goal.returns-then-added-clause-seen
returns-then-added-clause-seen g c =
    let made = c.in-Ok.ensures in
    let split = c.split-second.ensures in
    ap (λ p. seen p) c.of-knows.ensures
    ∙ (one_entry _ _ _ _ _ _ _ _ _ 7 (ap (λ v. v.items) made.opening ∙ c.new.ensures.items) split.own.1 (split.own.0 ∙ made.own) (c.if-added.ensures.added refl) c.join.ensures.prefixes.1 c.close-list.ensures.seen c.join.ensures.own c.close-list.ensures.own).1
