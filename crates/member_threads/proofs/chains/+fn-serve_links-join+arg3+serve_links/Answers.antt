use Rattle.std.proofs.Common.{◌≡◌, ◌≤◌, ◌<◌, ◌+◌, ◌*◌, ◌∙◌, None, Some, true, rules, refl, sym, ap, subst, arith, length}
use Rattle.turn_lock.specs.Lists.{IsPrefix}
use Rattle.turn_lock.specs.Pass.{parts}
use Rattle.upd_base.proofs.PlanFacts.{plan_facts}
use Rattle.line_rules.specs.declared.line_state.LineState.TheVariants.{Missing}
use Rattle.live_group.specs.SharedGroup.{shared, plan_shared}
use Rattle.live_group.specs.Pass.{events_seen}
use Rattle.run_journal.specs.Journal.{events_of}
use Rattle.member_threads.proofs.Knowing.{knows_wider}
use Rattle.member_threads.proofs.Chaining.{even_at, fresh_pass, knows_both, may_go_on, worked_joined, worked_missing, worked_none, worked_others, worked_put}
use Rattle.member_threads.proofs.chains.+fn-serve_links-join+arg3+serve_links.Goals as goal

pub returns-then-place-len : goal.returns-then-place-len
returns-then-place-len g t c =
    let r = c.requires in
    let w = fresh_pass c.args.group.now (λ k. c.args.place ≤ k) c.args.pass r.of r.fresh r.goes_on in
    record { mine = w; all_parts = refl; worked = worked_none g.L.Line _ _ _ _ _ c.args.place _ _ _ (r.lines_are ∙ ap (λ m. m * m) r.members_are) r.stated (omega (arith, c.if-place-len.true, c.len.ensures)) }

pub returns-in_default : goal.returns-in_default
returns-in_default g t c =
    let s = c.serve_links-pass.ensures in
    let within : c.args.place < length c.args.left.lines.items = omega (arith, c.if-place-len.false, c.len.ensures) in
    let p = c.put_back.ensures in
    let none_there : _ ≡ None = sym c.take_line.ensures.line ∙ c.in_default.is in
    record {
      mine = record { of = s.mine.of; knows = knows_wider _ _ _ (λ k. c.args.place + 1 ≤ k) (λ k. c.args.place ≤ k) _ _ (λ k le. omega arith) s.mine.knows };
      all_parts = s.all_parts;
      worked = worked_put g.L.Line _ _ _ _ _ c.args.place (c.args.place + 1) _ _ _ _ _ _ _ _ None None Missing refl within none_there c.take_line.ensures.lines p.lines p.states (λ w. p.wanted ∙ w) s.worked
          (λ from to f t at. worked_missing g.L.Line _ _ _ _ _ c.args.place (c.args.place + 1) from to _ refl at s.mine.knows);
    }

pub link_at-from-requires-clause-few : goal.link_at-from-requires-clause-few
link_at-from-requires-clause-few g t c = let f = (plan_facts _ c.requires.plan).few in let m = c.requires.members_are in omega arith

pub join-theirs-requires-after_bounds : goal.join-theirs-requires-after_bounds
join-theirs-requires-after_bounds g t c =
    let r = c.requires in
    let within : c.args.place < length c.args.left.lines.items = omega (arith, c.if-place-len.false, c.len.ensures) in
    let s = c.split-other.ensures in
    let l = c.link_at-from.ensures in
    let group = c.args.group.now in
    let from = c.link_at-from.result.0 in
    let to = c.link_at-from.result.1 in
    let n = (plan_shared group).members in
    let began : IsPrefix (events_of (shared group)) (events_seen c.split-other.result) = subst (λ z. IsPrefix (events_of (shared group)) z) (sym s.seen.1) r.goes_on in
    let w = fresh_pass group (λ k. k ≡ from * n + to) c.split-other.result s.of.1 s.own.1 began in
    let f : from < n = omega (arith, l.from_member, r.members_are) in
    let t' : to < n = omega (arith, l.to_member, r.members_are) in
    let e = even_at g.L.Line c.args.left.lines.items c.args.place c.take_line.result c.in-Some.line c.take_line.ensures.line c.in-Some.is (r.even c.args.place (omega arith)) in
    let some_parts : parts c.args.pass ≤ parts c.split-other.new.pass + 1 = omega (arith, s.parts.0) in
    let m = may_go_on group g.L.Line c.args.members c.args.place (c.args.place + 1) 0 c.args.pass c.split-other.new.pass _ _ _ _ refl within r s.of.0 s.seen.0 s.own.0 some_parts c.take_line.ensures.lines c.take_line.ensures.states in
    search (rules, w, s.own.1, f, t', r.plan, e, m)

pub returns : goal.returns
returns g t c =
    let r = c.requires in
    let within : c.args.place < length c.args.left.lines.items = omega (arith, c.if-place-len.false, c.len.ensures) in
    let j = c.join.ensures in
    let one = c.join-theirs.ensures.first in
    let rest = c.join-theirs.ensures.second in
    let p = c.put_back-2.ensures in
    let s = c.split-other.ensures in
    let l = c.link_at-from.ensures in
    let i = c.link_at-from.result.0 in
    let k = c.link_at-from.result.1 in
    let place = c.args.place in
    let next = c.args.place + 1 in
    let n = (plan_shared c.args.group.now).members in
    let at : place ≡ i * n + k = sym (sym (ap (λ m. i * m + k) r.members_are) ∙ l.there) in
    let below : k < n = omega (arith, l.to_member, r.members_are) in
    let theirs = knows_wider _ _ _ (λ x. x ≡ i * n + k) (λ x. x ≡ place) _ _ (λ x e. e ∙ sym at) one.0.knows in
    let w1 : c.join-theirs.result.1.1.wanted ≡ true → c.either.result ≡ true = λ w. c.either.ensures.one (p.wanted ∙ w) in
    let w2 : c.join-theirs.result.0.2 ≡ true → c.either.result ≡ true = c.either.ensures.other in
    let found : _ ≡ Some c.in-Some.line = sym c.take_line.ensures.line ∙ c.in-Some.is in record {
      mine = record { of = j.of; knows = knows_both g.L.Line _ _ _ place next (λ x. x ≡ place) _ _ _ _ _ _ j.own j.prefixes.0 j.prefixes.1 refl (λ x e. omega arith) rest.mine.knows theirs };
      all_parts = omega (arith, j.parts, rest.all_parts, one.1, s.parts.0, s.parts.1, r.enough, within);
      worked = worked_put g.L.Line _ _ _ _ _ place next _ _ _ _ _ _ _ _ (Some c.in-Some.line) _ _ refl within found c.take_line.ensures.lines p.lines p.states (λ w. w)
          (worked_others g.L.Line _ _ _ next _ (λ x. x ≡ place) _ _ _ _ _ _ _ _ _ _ _ j.own rest.mine.of.rise j.prefixes.0 j.prefixes.1 (λ x le e. absurd (omega arith)) w1 theirs rest.worked)
          (λ from to f t at'. worked_joined g.L.Line _ _ _ place next from to i k _ _ _ _ _ _ _ _ _ _ _ at at' below t j.own j.prefixes.0 j.prefixes.1 refl w2 rest.mine.knows one.2);
    }
