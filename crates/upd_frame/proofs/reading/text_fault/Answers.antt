use Rattle.std.proofs.Common.{◌≡◌, List, Err, take, ap, sym, ◌∙◌}
use Rattle.std.proofs.lemmas.List.{take_min, take_rest}
use Rattle.upd_frame.specs.Reader.{place}
use Rattle.upd_frame.specs.declared.fault.FrameFault.{FrameFault}
use Rattle.upd_frame.specs.declared.fault.FrameFault.TheVariants.{BadText}
use Rattle.upd_frame.proofs.Text.{seen_bad, seen_short}
use Rattle.upd_frame.proofs.reading.text_fault.Goals as goal

pub returns-in-Some : goal.returns-in-Some
returns-in-Some c =
    let left = c.args.left.now in
    let seen : take c.min.result left ≡ take c.args.size left = rw c.min.ensures (take_min c.args.size left) in
    let at = c.place.ensures ∙ ap (place c.args.all) (take_rest left c.in-Some.at) in
    seen_bad c.args.size c.args.all c.in-Some.at left (take c.min.result left) seen c.in-Some.ensures.some c.in-Some.ensures.found c.in-Some.ensures.before
    ∙ ap (λ p. Err (BadText p)) (sym at)

pub returns-in-None : goal.returns-in-None
returns-in-None c =
    let left = c.args.left.now in
    let seen : take c.min.result left ≡ take c.args.size left = rw c.min.ensures (take_min c.args.size left) in
    seen_short c.args.size c.args.all left (take c.min.result left) seen c.requires c.in-None.ensures.none
