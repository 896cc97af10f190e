use Rattle.std.proofs.Common.{◌≡◌, ◌-◌, List, ℕ, length, take, drop, ap, ◌∙◌, arith}
use Rattle.std.proofs.lemmas.List.{length-drop, take_at}
use Rattle.std.proofs.lemmas.List.Edits.{paste_all}
use Rattle.frame_feed.proofs.feed.drop_front.Goals as goal

pub returns : goal.returns
returns c =
    let old = c.args.bytes.now in
    let left = drop c.args.count old.items in
    let len : c.len.result ≡ length old.items = c.len.ensures ∙ old.ok.0 in
    c.truncate.ensures.items
    ∙ ap (take (c.len.result - c.args.count)) (c.copy_within.ensures.items ∙ paste_all old.items 0 left (old.len - c.args.count) (omega (arith, length-drop c.args.count old.items, old.ok.0)))
    ∙ take_at left _ (c.len.result - c.args.count) (omega (arith, length-drop c.args.count old.items))
