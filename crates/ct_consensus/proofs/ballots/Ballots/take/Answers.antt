use Rattle.std.proofs.Common.{◌≡◌, None, Some, sym, ◌∙◌, subst}
use Rattle.std.specs.Ordering.{nat_cmp}
use Rattle.std.specs.BTreeMap.{get}
use Rattle.std.proofs.lemmas.Bool.{cond-false}
use Rattle.number_runs.specs.Runs.{holds}
use Rattle.ct_consensus.specs.Ballot.{IsCounted, IsTallied, IsKept, over}
use Rattle.ct_consensus.specs.Ballots.{kept_of, turn_of}
use Rattle.ct_consensus.proofs.ballots.Ballots.take.Goals as goal

pub returns-in-None-clause-kept : goal.returns-in-None-clause-kept
returns-in-None-clause-kept c = λ n past kept.
    let none : kept_of c.args.self.now c.args.round ≡ None =
    cond-false (holds c.args.self.now.over (turn_of c.args.self.now.members c.args.round)) (Some over) (get nat_cmp c.args.self.now.rounds c.args.round) (sym c.is_over.ensures ∙ c.if-is_over.false)
    ∙ sym c.remove.ensures.value ∙ c.in-None.is in
    let empty : IsKept n c.args.round past None = subst (IsKept n c.args.round past) none kept in (
      subst (λ v. IsCounted n v c.new.result.proposal) (sym empty.0) (c.new.ensures.counted n),
      subst (λ v. IsTallied n v c.new.result.replies) (sym empty.1) (c.new.ensures.tallied n),
      c.new.ensures.closes,
    )

pub returns-in-None-clause-fits : goal.returns-in-None-clause-fits
returns-in-None-clause-fits c = λ n fits. c.new.ensures.fits n
