use Rattle.std.proofs.Common.{arith}
use Rattle.std.proofs.KnownBytes.{Consumes-trans}
use Rattle.std.proofs.lemmas.Grind.{common_steps}
use Rattle.upd_io.proofs.reading.read_all.Goals as goal

pub returns-then-is_err-clause-taken : goal.returns-then-is_err-clause-taken
returns-then-is_err-clause-taken g c =
    let read = c.in_ok-count.ensures.bytes in
    (_, Consumes-trans _ _ _ _ _ c.loop-chunk.invariant.consumed read.bytes.0, grind (arith, common_steps, read.bound))
