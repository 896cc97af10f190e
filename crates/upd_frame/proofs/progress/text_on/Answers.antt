use Rattle.std.proofs.Common.{◌≡◌, ◌≢◌, ◌-◌, ◌<◌, ℕ, List, [], ◌++◌, true, false, Err, length, get_or, take, drop, min, arith, subst, sym, ap, ◌∙◌}
use Rattle.std.proofs.lemmas.List.{nil_from_length, length-take, get_or-take, take-append-drop, take_rest}
use Rattle.upd_base.specs.Text.{is_printable}
use Rattle.upd_frame.specs.declared.fault.FrameFault.TheVariants.{Short, BadText}
use Rattle.upd_frame.specs.declared.progress.Stage.TheVariants.{Within}
use Rattle.upd_frame.specs.Reader.{place}
use Rattle.upd_frame.specs.Progress.{to_come}
use Rattle.upd_frame.proofs.Onward.{texts_pass, text_fails, text_ends}
use Rattle.upd_frame.proofs.progress.text_on.Goals as goal

pub returns-then-there-eq0 : goal.returns-then-there-eq0
returns-then-there-eq0 c =
    let none : c.args.left.now.now ≡ [] = nil_from_length c.args.left.now.now (omega arith) in
    subst (λ (l : List ℕ). to_come (Within c.args.size c.args.count c.args.before) c.args.all l ≡ Err Short) (sym none) (text_ends c.args.size c.args.count c.args.before c.args.all c.requires)

pub returns-in-Some : goal.returns-in-Some
returns-in-Some c =
    let left = c.args.left.now.now in
    let seen = c.split_at.result.0.now in
    let is : seen ≡ take c.min-there.result left = c.split_at.ensures.front in
    let long : length seen ≡ min c.min-there.result (length left) = ap length is ∙ length-take c.min-there.result left in
    let at : (k : ℕ) → k < length seen → get_or seen k 0 ≡ get_or left k 0 = λ k lt. ap (λ (xs : List ℕ). get_or xs k 0) is ∙ get_or-take c.min-there.result left k 0 (omega arith) in
    let i = c.in-Some.at in
    let here : i < length seen = c.in-Some.ensures.some in
    text_fails c.args.size c.args.count c.args.before c.args.all i left (omega arith) (omega arith) (λ k lt. rw (← at k (omega arith)) (c.in-Some.ensures.before k lt)) (rw (← at i here) c.in-Some.ensures.found)
    ∙ ap (λ (p : ℕ). Err (BadText p)) (sym (c.place.ensures ∙ ap (place c.args.all) (take_rest left i)))

pub returns : goal.returns
returns c =
    let left = c.args.left.now.now in
    let seen = c.split_at.result.0.now in
    let is : seen ≡ take c.min-there.result left = c.split_at.ensures.front in
    let long : length seen ≡ min c.min-there.result (length left) = ap length is ∙ length-take c.min-there.result left in
    let parts : left ≡ seen ++ c.split_at.result.1.now = sym (take-append-drop c.min-there.result left) ∙ ap (λ (l : List ℕ). l ++ drop c.min-there.result left) (sym is) ∙ ap (λ (l : List ℕ). seen ++ l) (sym c.split_at.ensures.back) in
    (texts_pass c.args.size c.args.count c.args.before left seen c.split_at.result.1.now parts c.in_default.ensures.none (omega arith), omega arith)
