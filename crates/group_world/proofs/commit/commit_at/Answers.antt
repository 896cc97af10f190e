use Rattle.std.proofs.Common.{◌<◌, length, arith}
use Rattle.std.proofs.lemmas.Option.{slice_get_within}
use Rattle.member_core.specs.Member.{kept_by}
use Rattle.member_core.specs.Prepared.{committed}
use Rattle.group_world.proofs.Lists.{written}
use Rattle.group_world.proofs.commit.commit_at.Goals as goal

pub returns-clause-members : goal.returns-clause-members
returns-clause-members g c k e =
    let at = c.get.ensures.value in
    let below : c.get.result < length c.args.members.now.items = let h = slice_get_within c.args.members.now.items c.args.at c.requires.0 c.requires.1 in omega (arith, at, h) in
    written (λ m. kept_by m) (λ j. committed j c.args.prepared) c.args.members.now.items c.get.result c.args.at c.index_mut-member.result.now c.commit-sent.new.self k at below c.index_mut-member.ensures.value e c.commit-sent.ensures.kept
