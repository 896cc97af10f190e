use Rattle.std.proofs.Common.{◌∙◌}
use Rattle.std.proofs.Math.Bool.{Bool-set}
use Rattle.member_rules.specs.Kept.{rules_of}
use Rattle.member_core.specs.Input.{would_fill}
use Rattle.member_core.specs.Member.{kept_by}
use Rattle.group_run.specs.Run.{group, part}
use Rattle.group_world.specs.Seen.{seen_by}
use Rattle.run_journal.specs.Journal.{plan_of, past_of}
use Rattle.run_journal.proofs.Reading.{read, full_of}
use Rattle.run_journal.proofs.journal.Journal.fills.Goals as goal

pub returns-in-Send : goal.returns-in-Send
returns-in-Send g c =
    let j = c.args.self.now in
    let s = c.args.step.now in
    let rules = rules_of g.O.Ordering in
    let full = read g.O.Ordering (plan_of j) (seen_by j.world) (past_of j) s.at (kept_by c.member-member.result.now) c.would_fill.result would_fill Bool-set j.of_plan j.stands c.member-member.ensures.value c.would_fill.ensures.part in
    full_of (group rules (plan_of j)) s.at (part rules (plan_of j) (past_of j) s.at) s.call _ c.would_fill.result c.in-Send.is full
