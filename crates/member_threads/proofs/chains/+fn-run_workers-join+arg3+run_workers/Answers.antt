use Rattle.std.proofs.Common.{◌≤◌, ◌<◌, ◌+◌, ◌-◌, rules, refl, sym, subst, arith, length}
use Rattle.turn_lock.specs.Lists.{IsPrefix}
use Rattle.turn_lock.specs.Pass.{parts}
use Rattle.live_group.specs.SharedGroup.{shared, plan_shared}
use Rattle.live_group.specs.Pass.{events_seen}
use Rattle.run_journal.specs.Journal.{events_of}
use Rattle.member_rules.specs.Kept.{rules_of}
use Rattle.member_threads.specs.Knows.{Knows}
use Rattle.member_threads.proofs.Knowing.{knows_joined, knows_wider}
use Rattle.member_threads.proofs.Chaining.{fresh_pass, may_split, worked_others}
use Rattle.member_threads.proofs.chains.+fn-run_workers-join+arg3+run_workers.Goals as goal

pub serve_links-requires-after_bounds : goal.serve_links-requires-after_bounds
serve_links-requires-after_bounds g t c = λ κs lives.
    let m = c.requires.workers in
    may_split c.args.group.now g.L.Line c.args.members 0 _ 0 c.args.pass c.args.pass _ _ m m.of refl refl (omega arith)

pub join-theirs-requires-after_bounds : goal.join-theirs-requires-after_bounds
join-theirs-requires-after_bounds g t c =
    let m = c.requires.workers in
    let s = c.split-other.ensures in
    let group = c.args.group.now in
    let began : IsPrefix (events_of (shared group)) (events_seen c.split-other.result) = subst (λ z. IsPrefix (events_of (shared group)) z) (sym s.seen.1) m.goes_on in
    let w = fresh_pass group (λ _. ⊥) c.split-other.result s.of.1 s.own.1 began in
    let below : c.args.number < length (plan_shared group).threads = omega (arith, c.if-number-threads.false, c.requires.threads) in
    let e = m.enough in
    let enough : parts c.args.pass + (c.args.threads - (c.args.number + 1)) ≤ parts c.split-other.new.pass + (c.args.threads - c.args.number) = omega (arith, s.parts.0, c.if-number-threads.false) in
    let r = may_split group g.L.Line c.args.members 0 _ (c.args.threads - (c.args.number + 1)) c.args.pass c.split-other.new.pass _ _ m s.of.0 s.seen.0 s.own.0 enough in
    search (rules, w, below, r, c.requires.threads)

pub returns : goal.returns
returns g t c =
    let j = c.join.ensures in
    let one = c.join-theirs.ensures.first in
    let rest = c.join-theirs.ensures.second in
    let s = c.split-other.ensures in
    let e = c.requires.workers.enough in
    let group = c.args.group.now in record {
      mine = record {
        of = j.of;
        knows = subst (λ z. Knows (rules_of g.O.Ordering) (plan_shared group) (events_of (shared group)) (λ k. 0 ≤ k) (events_seen c.join.new.pass) z) (sym j.own)
            (knows_joined _ _ _ (λ k. 0 ≤ k) _ _ _ _ _ j.prefixes.0 j.prefixes.1 rest.mine.knows (knows_wider _ _ _ (λ _. ⊥) (λ k. 0 ≤ k) _ _ (λ k none_there. absurd none_there) one.0.knows));
      };
      all_parts = omega (arith, j.parts, rest.all_parts, one.1, s.parts.0, s.parts.1, e);
      worked = worked_others g.L.Line _ _ _ 0 _ (λ _. ⊥) _ _ _ _ _ _ _ _ _ _ _ j.own rest.mine.of.rise j.prefixes.0 j.prefixes.1 (λ k le none_there. none_there) c.either-wanted.ensures.one one.0.knows rest.worked;
    }
