use Rattle.std.proofs.Common.{◌≡◌, ◌<◌, ◌∷◌, ◌++◌, Some, length, refl, sym, ◌∙◌, ap, arith, add-one}
use Rattle.std.specs.Prelude.{slice_get}
use Rattle.std.proofs.lemmas.Option.{slice_get_read}
use Rattle.fifo_net.specs.Net.{Called}
use Rattle.order_trait.specs.Here.{like_self}
use Rattle.order_trait.specs.Runs.{Broadcast, at_seat}
use Rattle.group_run.specs.Version.{inputs_at}
use Rattle.group_run.specs.Part.{version}
use Rattle.group_run.specs.Turn.{framed}
use Rattle.member_rules.specs.Kept.{group_of}
use Rattle.member_rules.proofs.Basics.{calm_of, version_is}
use Rattle.member_rules.proofs.Turns.{holds_issued, frames_issued}
use Rattle.member_core.specs.Member.{kept_by}
use Rattle.member_core.proofs.Outcomes.{member_of}
use Rattle.member_core.proofs.Processing.{seat_at}
use Rattle.member_core.proofs.member.Member.accept.Goals as goal

pub returns-clause-turn : goal.returns-clause-turn
returns-clause-turn g c = λ part h waiting.
    let G = g.O.Ordering in
    let k = kept_by c.args.self.now in
    let is = member_of c.args.self.now in
    let L = g.met.O.Ordering g.world.𝓛 g.world.𝓜 g.world.𝓡 (like_self _ _) in
    let calm = calm_of G k is L.agreement L.integrity in
    let v = c.version-version.result in
    let m = c.index-module.result.now in
    let lt : v < length k.modules = let e = is.versions in let f = c.version-version.ensures.value in omega arith in
    let at : slice_get k.modules v ≡ Some m = slice_get_read k.modules (length k.modules) v m refl lt c.index-module.ensures in
    let here : version part ≡ v = version_is G k (group_of G k) k.me part is h ∙ sym c.version-version.ensures.value in
    let s = seat_at G k v m is at in
    record {
      holds = holds_issued G (group_of G k) k.me v c.args.item.now k m c.in_ok-next.next c.args.repl c.new.result.items part h calm is.first_served here c.new.ensures.items at
          (c.in_ok-next.ensures.seat, c.in_ok-next.ensures.stands) c.requires.kind (c.requires.made ∙ add-one k.repl.made) waiting;
      frames = c.in_ok-next.ensures.sent (inputs_at v part.modules) (h.modules_are.stand v m at)
          ∙ ap (λ fs. fs ++ framed v (at_seat G.sends (G.seat m) (Called (Broadcast c.args.item.now) ∷ inputs_at v part.modules))) c.new-sent.ensures.items
          ∙ frames_issued G (group_of G k) k.me v c.args.item.now k.modules m part h.modules_are here at s.0 s.1 refl;
    }
