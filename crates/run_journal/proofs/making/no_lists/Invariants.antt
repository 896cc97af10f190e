use Rattle.std.proofs.Common.{◌≡◌, map}
use Rattle.run_journal.specs.Asked.{empty_lists}
use Rattle.run_journal.proofs.making.no_lists.Given as goal

abbrev pub invariant-loop-i : goal.invariant-loop-i
invariant-loop-i l = map (λ v. v.items) l.lists.items ≡ empty_lists l._i
