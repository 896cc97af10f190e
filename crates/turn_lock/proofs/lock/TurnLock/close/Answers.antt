use Rattle.turn_lock.proofs.Moves.{ends_some, ends_none}
use Rattle.turn_lock.proofs.lock.TurnLock.close.Goals as goal

pub unreachable-requires : goal.unreachable-requires
unreachable-requires g c = ends_none g.T.Kept.list _ _ _ _ _ _ c.requires.parts c.requires.idle c.close_with-closed.ensures.values.2 c.take-value.ensures.value c.in-None.is

pub returns-clause-seen : goal.returns-clause-seen
returns-clause-seen g c = (ends_some g.T.Kept.list _ _ _ _ _ _ c.in-Some.value c.requires.parts c.requires.idle c.close_with-closed.ensures.values.2 c.take-value.ensures.value c.in-Some.is).0

pub returns-clause-opening : goal.returns-clause-opening
returns-clause-opening g c = (ends_some g.T.Kept.list _ _ _ _ _ _ c.in-Some.value c.requires.parts c.requires.idle c.close_with-closed.ensures.values.2 c.take-value.ensures.value c.in-Some.is).1

pub returns-clause-own : goal.returns-clause-own
returns-clause-own g c = (ends_some g.T.Kept.list _ _ _ _ _ _ c.in-Some.value c.requires.parts c.requires.idle c.close_with-closed.ensures.values.2 c.take-value.ensures.value c.in-Some.is).2
