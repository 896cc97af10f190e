use Rattle.std.proofs.Common.{rules, ◌≡◌, ◌==◌, ◌∙◌}
use Rattle.std.specs.Prelude.{count_by}
use Rattle.group_world.proofs.Sends.{count_to}
use Rattle.group_world.proofs.ready.frames_to.Goals as goal

pub returns : goal.returns
returns c =
    let e : c.count.result ≡ count_by (λ s. s.0 == c.args.to) c.args.sent.now = search rules in
    e ∙ count_to c.args.to c.args.sent.now
