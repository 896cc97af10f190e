use Rattle.line_fakes.specs.Seen.{pair}
use Rattle.line_fakes.proofs.Steps.{zero_anywhere}
use Rattle.line_fakes.proofs.mem_lines.MemLines.new.Goals as goal

pub returns-clause-none : goal.returns-clause-none
returns-clause-none c = λ i j. zero_anywhere 49 (pair i j)

pub returns-clause-faultless : goal.returns-clause-faultless
returns-clause-faultless c = λ i j. zero_anywhere 49 (pair i j)
