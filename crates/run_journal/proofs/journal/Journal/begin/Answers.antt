use Rattle.std.proofs.Common.{ℕ, Vec, Global, List, ◌≡◌, sym, ap, subst, reverse, map, [], length, arith}
use Rattle.upd_base.specs.declared.event.Event.{Event}
use Rattle.member_rules.specs.Kept.{rules_of}
use Rattle.group_world.specs.Seen.{seen_by}
use Rattle.group_world.specs.Stands.{Stands}
use Rattle.run_journal.specs.Asked.{AreAsked, empty_lists}
use Rattle.run_journal.proofs.Accepting.{none_asked}
use Rattle.run_journal.proofs.journal.Journal.begin.Goals as goal

pub invariant_of-result : goal.invariant_of-result
invariant_of-result g c =
    let none : c.new.result.items ≡ [] = c.new.ensures.items in
    let w = c.in_ok-world.world in
    let lists = c.in_ok-asked.ensures in
    record {
      limit_is = c.bound-limit.ensures;
      few = let l = ap length none in omega arith;
      of_plan = c.in_ok-world.ensures.of_plan;
      stands = ∣ subst (λ (xs : List Event). Stands g.O.Ordering c.args.plan (seen_by w) (reverse xs)) (sym none) c.in_ok-world.ensures.stands ∣₁;
      asked_are =
          subst (λ (xs : List Event). AreAsked (rules_of g.O.Ordering) c.args.plan (reverse xs) (map (λ (v : Vec ℕ Global). v.items) c.in_ok-asked.asked.items)) (sym none)
          (subst (λ (zs : List (List ℕ)). AreAsked (rules_of g.O.Ordering) c.args.plan [] zs) (sym lists) (subst (λ (n : ℕ). AreAsked (rules_of g.O.Ordering) c.args.plan [] (empty_lists n)) (sym c.members.ensures) (none_asked (rules_of g.O.Ordering) c.args.plan)));
    }
