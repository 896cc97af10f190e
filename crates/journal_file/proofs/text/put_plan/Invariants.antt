use Rattle.std.proofs.Common.{◌≡◌, ◌++◌, take}
use Rattle.std.specs.List.{flat_map}
use Rattle.std.specs.Prelude.{All}
use Rattle.journal_file.specs.Grammar.{TextFits}
use Rattle.journal_file.specs.Text.{text_of, thread_lines}
use Rattle.journal_file.proofs.text.put_plan.Given as goal

abbrev pub invariant-loop-thread : goal.invariant-loop-thread
invariant-loop-thread l = (l.out.items ≡ l.initial.out.items ++ flat_map (λ steps. text_of (thread_lines steps)) (take l.thread l.plan.threads))
    × All (All (λ s. TextFits s.call)) (take l.thread l.plan.threads)
