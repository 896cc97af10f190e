use Rattle.std.proofs.Common.{rules}
use Rattle.turn_lock.proofs.Passes.{places_after, grows_after}
use Rattle.turn_lock.proofs.lock.TurnLock.finish.Goals as goal

pub invariant_of-pass : goal.invariant_of-pass
invariant_of-pass g c = record {
  settled = search rules;
  places = places_after c.args.pass.now.seat.me.0 _ _ c.give_back.ensures.view c.requires.turning c.requires.adds c.args.pass.now.places c.args.pass.now.grows;
  grows = grows_after c.args.pass.now.seat.me.0 _ _ _ c.give_back.ensures.view;
}
