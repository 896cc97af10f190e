use Rattle.instance_rules.specs.Ballot.{firsts, estimate_for, reply_for}
use Rattle.ct_consensus.proofs.Closing.{closes_with}
use Rattle.ct_consensus.proofs.ballot.Ballot.copy.Goals as goal

pub returns-clause-kept : goal.returns-clause-kept
returns-clause-kept c = λ n r past kept. (
  c.in_ok-copy.ensures.counted n (firsts (estimate_for r) past) kept.0,
  c.in_ok-copy_replies.ensures.tallied n (firsts (reply_for r) past) kept.1,
  closes_with c.args.self.now.replies c.in_ok-copy_replies.field-0 c.in_ok-copy.field-0 c.in_ok-copy_replies.ensures.none (c.in_ok-copy.ensures.closes c.args.self.now.replies kept.2),
)
