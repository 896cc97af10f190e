use Rattle.std.proofs.Common.{◌≡◌, ℕ, List, Result, Ok, Err, IfOk, subst, sym, arith}
use Rattle.upd_base.specs.declared.frame.Frame.{Frame}
use Rattle.upd_frame.specs.declared.fault.FrameFault.{FrameFault}
use Rattle.upd_frame.specs.Spelling.{Spells}
use Rattle.upd_frame.specs.Reader.{Gives}
use Rattle.upd_frame.specs.Reading.{reading}
use Rattle.upd_frame.proofs.Fields.{IsBytes}
use Rattle.upd_frame.proofs.Bodies.{read_is_spelt, spelt_is_read}
use Rattle.upd_frame.proofs.reading.decode.Goals as goal

is_found : (bytes : List ℕ) (r : Result Frame FrameFault) → IsBytes bytes → Gives (λ x. x) r (reading bytes) → IfOk r (λ f. Spells bytes f)
is_found bytes (Ok f) fits given = read_is_spelt bytes f fits given
is_found bytes (Err d) fits given = tt

pub returns-clause-found : goal.returns-clause-found
returns-clause-found c = is_found c.args.bytes.now c.read.result (λ i. omega (arith, c.type_inv.bytes i)) c.read.ensures

pub returns-clause-only : goal.returns-clause-only
returns-clause-only c = λ f spelt. subst (λ r. Gives (λ x. x) c.read.result r) (spelt_is_read c.args.bytes.now f spelt) c.read.ensures
