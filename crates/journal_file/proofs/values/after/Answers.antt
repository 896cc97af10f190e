use Rattle.std.proofs.Common.{◌∙◌, ◌++◌, ap, sym}
use Rattle.journal_file.proofs.Fronts.{stripped, strips}
use Rattle.journal_file.proofs.values.after.Goals as goal

pub returns-clause-some : goal.returns-clause-some
returns-clause-some c = rw (← c.as_bytes.ensures.value) (stripped c.args.line.now c.as_bytes.result.now c.strip_prefix.result c.strip_prefix.ensures.cases)

pub returns-clause-exact : goal.returns-clause-exact
returns-clause-exact c rest e = strips c.args.line.now c.as_bytes.result.now c.strip_prefix.result c.strip_prefix.ensures.cases rest (e ∙ ap (λ l. l ++ rest) (sym c.as_bytes.ensures.value))
