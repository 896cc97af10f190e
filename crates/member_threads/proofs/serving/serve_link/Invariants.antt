use Rattle.std.proofs.Common.{◌≡◌, ◌+◌, ◌*◌, ◌<◌, false}
use Rattle.turn_lock.specs.Lists.{IsPrefix}
use Rattle.turn_lock.specs.Pass.{parts}
use Rattle.live_group.specs.SharedGroup.{plan_shared}
use Rattle.live_group.specs.Pass.{events_seen}
use Rattle.member_threads.specs.Worker.{IsWorkersPass, HasWorked}
use Rattle.member_threads.proofs.serving.serve_link.Given as goal

abbrev pub invariant-loop : goal.invariant-loop
invariant-loop g l = record {
  pass : IsWorkersPass l.group (λ k. k ≡ l.from * (plan_shared l.group).members + l.to) l.pass;
  parts : parts l.pass ≡ parts l.fn.pass;
  seen : IsPrefix (events_seen l.fn.pass) (events_seen l.pass);
  idle : l.idle < 200;
  worked : HasWorked l.group g.L.Line l.pass l.from l.to false l.fn.line l.served.line l.served.state;
}
