use Rattle.std.proofs.Common.{◌≡◌, ℕ, List, length, sym, ap, ◌∙◌, arith}
use Rattle.line_fakes.specs.Bytes.{lied}
use Rattle.line_fakes.proofs.Steps.{puts, written_back, length-lied}
use Rattle.line_fakes.proofs.lie_lines.LieLineLine.put.Goals as goal

pub returns-in-Ok-clause-bytes : goal.returns-in-Ok-clause-bytes
returns-in-Ok-clause-bytes c =
    let s = c.args.self.now in
    let made = c.extend_from_slice.new.self.items in
    let borrowed = c.as_mut_slice.ensures in
    let place : c.len-place.result ≡ length s.given.items = c.len-place.ensures ∙ s.given.ok.0 in
    let lie : c.lie_behind.new.given ≡ lied s.lie (length s.given.items) made = c.lie_behind.ensures ∙ ap (λ (n : ℕ). lied s.lie n c.as_mut_slice.result.now) place ∙ ap (lied s.lie (length s.given.items)) borrowed.value in
    let same : length c.lie_behind.new.given ≡ length made = ap length lie ∙ length-lied s.lie (length s.given.items) made in
    let back = written_back c.lie_behind.new.given made c.extend_from_slice.new.self.len same (sym borrowed.len ∙ ap length borrowed.value) in
    puts s.lie s.given.items c.args.piece.now made _ s.got s.in_range c.in-Ok.ensures.items (back ∙ lie)
