use Rattle.std.proofs.Common.{◌≡◌, ◌++◌, take}
use Rattle.std.specs.List.{flat_map}
use Rattle.std.specs.Prelude.{All}
use Rattle.journal_file.specs.Grammar.{TextFits}
use Rattle.upd_base.specs.Plan.{steps_of}
use Rattle.journal_file.specs.Text.{ended, step_line}
use Rattle.journal_file.proofs.text.put_thread.Given as goal

abbrev pub invariant-loop-index : goal.invariant-loop-index
invariant-loop-index l = (l.out.items ≡ l.initial.out.items ++ flat_map (λ s. ended (step_line s)) (take l.index (steps_of l.plan l.thread)))
    × All (λ s. TextFits s.call) (take l.index (steps_of l.plan l.thread))
