use Rattle.std.proofs.Common.{ℕ, Option, Some, None}
use Rattle.std.specs.Ordering.{nat_cmp}
use Rattle.std.specs.Cmp.{nat_cmp_total}
use Rattle.std.specs.Map.Iter.{deref_pair}
use Rattle.std.specs.BTreeMap.{get, is_at}
use Rattle.std.proofs.lemmas.Map.Iter.{rest_more, rest_all}
use Rattle.instance_rules.specs.Say.{Turns}
use Rattle.ct_consensus.specs.Ballot.{IsKept}
use Rattle.ct_consensus.specs.Fit.{MayFit}
use Rattle.ct_consensus.specs.declared.ballot.Ballot.{Ballot}
use Rattle.map_copies.specs.Copies.{MayCopy}
use Rattle.map_copies.proofs.Copies.{one_more, all_copied, found}
use Rattle.ct_consensus.proofs.open_rounds.copy_of.Invariants.{IsCopy}
use Rattle.ct_consensus.proofs.open_rounds.copy_of.Goals as goal

pub loop-round-preserved : goal.loop-round-preserved
loop-round-preserved c =
    one_more nat_cmp nat_cmp_total IsCopy c.args.rounds.now.entries c.loop-round.round-iterator c.next.new.self c.loop-round.copies.entries c.put_in.new.rounds.entries
    c.in-Some.round.now c.in-Some.ballot.now c.in_ok-copy.field-0 c.iter-round-items.ensures.ordered
    (rest_more deref_pair c.loop-round.round-iterator c.next.new.self c.next.result (c.in-Some.round, c.in-Some.ballot) c.in-Some.is c.next.ensures.steps)
    (c.in_ok-copy.ensures.kept, c.in_ok-copy.ensures.fits) c.in_ok-put_in.ensures.entries c.loop-round.invariant

-- what is kept of one round
one_kept : (n r : ℕ) (past : Turns) (a b : Option Ballot) → MayCopy IsCopy a b → IsKept n r past a → IsKept n r past b
one_kept n r past None None m k = k
one_kept n r past None (Some b) m k = absurd m
one_kept n r past (Some a) None m k = absurd m
one_kept n r past (Some a) (Some b) m k = m.0 n r past k

one_fits : (n : ℕ) (a b : Option Ballot) → MayCopy IsCopy a b → MayFit n a → MayFit n b
one_fits n None None m k = k
one_fits n None (Some b) m k = absurd m
one_fits n (Some a) None m k = absurd m
one_fits n (Some a) (Some b) m k = m.1 n k

pub returns-clause-kept : goal.returns-clause-kept
returns-clause-kept c = λ n r past.
    one_kept n r past (get nat_cmp c.args.rounds.now r) (get nat_cmp c.loop-round.copies r)
    (found IsCopy (is_at (nat_cmp r)) c.args.rounds.now.entries c.loop-round.copies.entries
    (all_copied IsCopy c.args.rounds.now.entries c.loop-round.round-iterator c.loop-round.copies.entries
    (rest_all deref_pair c.loop-round.round-iterator c.next.new.self c.next.result c.in-None.is c.next.ensures.steps) c.loop-round.invariant))

pub returns-clause-fits : goal.returns-clause-fits
returns-clause-fits c = λ n r fits.
    one_fits n (get nat_cmp c.args.rounds.now r) (get nat_cmp c.loop-round.copies r)
    (found IsCopy (is_at (nat_cmp r)) c.args.rounds.now.entries c.loop-round.copies.entries
    (all_copied IsCopy c.args.rounds.now.entries c.loop-round.round-iterator c.loop-round.copies.entries
    (rest_all deref_pair c.loop-round.round-iterator c.next.new.self c.next.result c.in-None.is c.next.ensures.steps) c.loop-round.invariant))
    fits
