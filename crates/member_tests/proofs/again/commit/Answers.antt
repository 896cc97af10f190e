use Rattle.std.proofs.Common.{◌∙◌, ap}
use Rattle.member_core.specs.Member.{kept_by}
use Rattle.member_core.proofs.Outcomes.{group_kept}
use Rattle.member_tests.proofs.again.commit.Goals as goal

pub returns : goal.returns
returns g c = ap (λ k. k.members) c.commit.ensures.kept ∙ ap (λ h. h.members) (group_kept g.O.Ordering (kept_by c.args.one.now) c.args.prepared.change)
