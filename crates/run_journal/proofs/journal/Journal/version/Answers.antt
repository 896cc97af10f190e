use Rattle.std.proofs.Math.Nat.{ℕ_set}
use Rattle.group_run.specs.Part.{version}
use Rattle.member_core.specs.Member.{kept_by}
use Rattle.group_world.specs.Seen.{seen_by}
use Rattle.run_journal.specs.Journal.{plan_of, past_of}
use Rattle.run_journal.proofs.Reading.{read}
use Rattle.run_journal.proofs.journal.Journal.version.Goals as goal

pub returns : goal.returns
returns g c =
    let j = c.args.self.now in
    read g.O.Ordering (plan_of j) (seen_by j.world) (past_of j) c.args.m (kept_by c.member.result.now) c.version.result (λ g me p. version p) ℕ_set j.of_plan j.stands c.member.ensures.value c.version.ensures.part
