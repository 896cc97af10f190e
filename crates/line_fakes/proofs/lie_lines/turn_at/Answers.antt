use Rattle.std.proofs.Common.{ℕ, set, ap, ◌∙◌}
use Rattle.line_fakes.proofs.Steps.{set_turned}
use Rattle.line_fakes.proofs.lie_lines.turn_at.Goals as goal

pub returns : goal.returns
returns c = ap (λ (b : ℕ). set c.args.bytes.now c.args.at b) c.turned.ensures ∙ set_turned c.args.at c.args.bytes.now c.requires
