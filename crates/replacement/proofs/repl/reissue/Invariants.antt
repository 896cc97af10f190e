use Rattle.std.proofs.Common.{◌≡◌, ◌++◌, take, map}
use Rattle.replacement.specs.declared.act.Act.TheVariants.{Reissue}
use Rattle.replacement.proofs.repl.reissue.Given as goal

abbrev pub invariant-loop-item : goal.invariant-loop-item
invariant-loop-item l = l.acts.items ≡ l.fn.acts.items ++ map (λ item. Reissue item) (take l.item-index l.messages)
