use Rattle.std.proofs.Common.{rules}
use Rattle.turn_lock.proofs.Moves.{splits}
use Rattle.turn_lock.proofs.lock.TurnLock.split.Goals as goal

pub split_seat-seat-requires : goal.split_seat-seat-requires
split_seat-seat-requires g c = (search rules, search rules, splits _ _ _ _ c.requires.idle c.requires.parts)
