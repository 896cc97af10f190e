-- The journal of a group that was closed, and the lines, as its workers left them.
use Rattle.std.proofs.Common.{◌≡◌, ◌∙◌, ◌≤◌, ◌*◌, Bool, false, List, ℕ, length, sym, ap, subst, Option}
use Rattle.order_trait.specs.declared.ordering.Ordering.{Ghosts as OrderGhosts}
use Rattle.upd_base.specs.Plan.{bound}
use Rattle.member_rules.specs.Kept.{rules_of}
use Rattle.run_journal.specs.Journal.{plan_of, past_of, events_of}
use Rattle.run_journal.specs.declared.journal.Journal.{Journal}
use Rattle.turn_lock.specs.Lists.{IsPrefix}
use Rattle.turn_lock.specs.Places.{new_places}
use Rattle.turn_lock.specs.declared.kept.Kept.{Ghosts as KeptGhosts}
use Rattle.turn_lock.specs.declared.pass.Pass.{Pass}
use Rattle.live_group.specs.declared.recorded.Recorded.{Recorded}
use Rattle.live_group.specs.declared.kept_journal.KeptJournal.{KeptJournal}
use Rattle.live_group.specs.declared.group.LiveGroup.{LiveGroup}
use Rattle.live_group.specs.SharedGroup.{shared, plan_shared}
use Rattle.live_group.specs.Pass.{events_seen, places}
use Rattle.upd_lines.specs.declared.line.Line.{Ghosts}
use Rattle.line_rules.specs.Received.{GoesOn}
use Rattle.line_rules.specs.Lines.{AreOnTheWay, AreReady}
use Rattle.line_rules.specs.Rest.{GoesOnFullAtRestBut}
use Rattle.line_rules.specs.declared.line_state.LineState.{LineState}
use Rattle.member_threads.specs.Worker.{HaveServed}
use Rattle.member_threads.proofs.Closing.{are_ready, full_of, on_the_way, run_goes_on}

module _ {O : Type 0} {G : OrderGhosts O} (group : LiveGroup O G) {K : KeptGhosts (KeptJournal O G) Recorded} (journal closed : Journal O G) (pass : Pass (KeptJournal O G) Recorded K) (is : shared group ≡ journal) (plan : plan_of closed ≡ plan_shared group) (seen : IsPrefix (events_seen pass) (events_of closed))
    (opening : IsPrefix (events_of (shared group)) (events_of closed)) (own : places pass ≡ new_places (events_of (shared group)) (events_of closed)) {L : Type 0} (GL : Ghosts L) (had : ℕ) (wanted : Bool) (old new : List (Option L)) (states : List LineState)
    (served : HaveServed group GL 0 had pass wanted old new states) (lines : length old ≡ (plan_of journal).members * (plan_of journal).members) where
  many : length old ≡ (plan_shared group).members * (plan_shared group).members
  many = lines ∙ ap (λ j. (plan_of j).members * (plan_of j).members) (sym is)

  pub one_plan : plan_of closed ≡ plan_of journal
  one_plan = plan ∙ ap plan_of is

  pub left_on : GoesOn (past_of journal) (past_of closed)
  left_on = subst (λ j. GoesOn (past_of j) (past_of closed)) is (run_goes_on (rules_of G) (plan_shared group) (events_of (shared group)) (events_seen pass) (events_of closed) (places pass) opening seen own GL wanted old new states served.worked many)

  pub left_way : AreOnTheWay GL (rules_of G) (plan_of closed) (past_of journal) (past_of closed) old new states
  left_way =
      subst (λ p. AreOnTheWay GL (rules_of G) p (past_of journal) (past_of closed) old new states) (sym plan)
      (subst (λ j. AreOnTheWay GL (rules_of G) (plan_shared group) (past_of j) (past_of closed) old new states) is
      (on_the_way (rules_of G) (plan_shared group) (events_of (shared group)) (events_seen pass) (events_of closed) (places pass) opening seen own GL wanted old new states served.worked many))

  pub left_full : GoesOnFullAtRestBut (λ _ _. ⊥) (rules_of G) (plan_of closed) (past_of journal) (past_of closed)
  left_full =
      subst (λ p. GoesOnFullAtRestBut (λ _ _. ⊥) (rules_of G) p (past_of journal) (past_of closed)) (sym plan)
      (subst (λ j. GoesOnFullAtRestBut (λ _ _. ⊥) (rules_of G) (plan_shared group) (past_of j) (past_of closed)) is
      (full_of (rules_of G) (plan_shared group) (events_of (shared group)) (events_seen pass) (events_of closed) (places pass) opening seen own served.mine.knows (λ _ _. ⊥)))

  pub left_ready : length (past_of closed) ≤ bound (plan_of closed) → wanted ≡ false → AreReady GL (rules_of G) (plan_of closed) (past_of closed) new states
  left_ready few none_wanted =
      subst (λ p. AreReady GL (rules_of G) p (past_of closed) new states) (sym plan)
      (are_ready (rules_of G) (plan_shared group) (events_of (shared group)) (events_seen pass) (events_of closed) (places pass) opening seen own GL wanted old new states served.worked many (subst (λ p. length (past_of closed) ≤ bound p) plan few) none_wanted)
