use Rattle.std.proofs.Common.{refl, []}
use Rattle.member_threads.proofs.Opening.{start_back}
use Rattle.member_threads.proofs.running.untouched.Goals as goal

pub returns-clause-lines : goal.returns-clause-lines
returns-clause-lines g c = start_back g.L.Line _ _ _ _ c.requires.places c.requires.even

pub returns-clause-full : goal.returns-clause-full
returns-clause-full g c = ([], refl, tt)
