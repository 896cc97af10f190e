use Rattle.std.proofs.Common.{◌≡◌, ◌∙◌, Some, sym, ap, subst}
use Rattle.std.specs.Prelude.{option_copied}
use Rattle.group_run.specs.Part.{version}
use Rattle.group_run.specs.Held.{first_ready}
use Rattle.group_run.specs.Turn.{Turn}
use Rattle.member_rules.specs.Kept.{group_of, HeldFits}
use Rattle.member_rules.proofs.Frames.{all_first, ready_is, ready_reached, released_is}
use Rattle.member_core.specs.Member.{kept_by}
use Rattle.member_core.specs.Foretold.{MakesTurn}
use Rattle.member_core.proofs.Outcomes.{member_of, if_ok_map}
use Rattle.member_core.proofs.member.Member.on_release.Goals as goal

pub process-requires-clause-version : goal.process-requires-clause-version
process-requires-clause-version g c = λ κs live.
    let k = kept_by c.args.self.now in
    let ready : first_ready k.repl.version k.held ≡ Some c.in-Some.first.now = ap (λ w. first_ready w k.held) (sym c.version.ensures.value) ∙ sym c.first.ensures ∙ ap option_copied c.in-Some.is in
    ready_reached k.repl.version k.held c.in-Some.first.now ready

pub process-requires-clause-from_fits : goal.process-requires-clause-from_fits
process-requires-clause-from_fits g c = λ κs live.
    let k = kept_by c.args.self.now in
    let ready : first_ready k.repl.version k.held ≡ Some c.in-Some.first.now = ap (λ w. first_ready w k.held) (sym c.version.ensures.value) ∙ sym c.first.ensures ∙ ap option_copied c.in-Some.is in
    (all_first (HeldFits k.members) k.repl.version k.held c.in-Some.first.now c.args.self.now.held_fit ready).0

pub process-requires-clause-frame_fits : goal.process-requires-clause-frame_fits
process-requires-clause-frame_fits g c = λ κs live.
    let k = kept_by c.args.self.now in
    let ready : first_ready k.repl.version k.held ≡ Some c.in-Some.first.now = ap (λ w. first_ready w k.held) (sym c.version.ensures.value) ∙ sym c.first.ensures ∙ ap option_copied c.in-Some.is in
    (all_first (HeldFits k.members) k.repl.version k.held c.in-Some.first.now c.args.self.now.held_fit ready).1

pub process-requires-clause-frame_counts : goal.process-requires-clause-frame_counts
process-requires-clause-frame_counts g c = λ κs live.
    let k = kept_by c.args.self.now in
    let ready : first_ready k.repl.version k.held ≡ Some c.in-Some.first.now = ap (λ w. first_ready w k.held) (sym c.version.ensures.value) ∙ sym c.first.ensures ∙ ap option_copied c.in-Some.is in
    (all_first (HeldFits k.members) k.repl.version k.held c.in-Some.first.now c.args.self.now.held_fit ready).2

pub returns-in-Some-clause-turn : goal.returns-in-Some-clause-turn
returns-in-Some-clause-turn g c =
    let G = g.O.Ordering in
    let k = kept_by c.args.self.now in
    let m = member_of c.args.self.now in
    let first = c.in-Some.first.now in
    let ready : first_ready k.repl.version k.held ≡ Some first = ap (λ w. first_ready w k.held) (sym c.version.ensures.value) ∙ sym c.first.ensures ∙ ap option_copied c.in-Some.is in
    if_ok_map _ _ c.process.result
    (λ p turn part h may.
    let f : first_ready (version part) part.held ≡ Some first = ready_is G (group_of G k) k.me k part m h ∙ ready in
    subst (λ (t : Turn). MakesTurn G k p t) (sym (released_is (group_of G k) k.me part first f)) (turn part h (may first f)))
    c.process.ensures.turn
