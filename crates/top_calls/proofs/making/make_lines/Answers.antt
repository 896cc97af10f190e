use Rattle.std.proofs.Common.{◌≡◌, ◌*◌, ◌/◌, ◌%◌, ◌∙◌, ◌++◌, ◌∷◌, [], length, ap, sym, subst, arith}
use Rattle.std.proofs.lemmas.List.{length-append}
use Rattle.top_calls.specs.Made.{IsMade}
use Rattle.top_calls.proofs.MadeLines.{MadeSoFar, all_made, one_more}
use Rattle.top_calls.proofs.making.make_lines.Goals as goal

pub returns-clause-made : goal.returns-clause-made
returns-clause-made g c =
    let n = c.args.n in
    let whole : c.loop-place.place ≡ n * n = (let t = c.loop-place-test.false in let e = c.loop-place.auto.place-end in omega (arith, t, e)) in
    all_made g.M.Line.Line n (g.M.LineMaker.faults c.args.maker.now) (g.M.LineMaker.faults c.loop-place.maker) c.loop-place.lines.items c.loop-place.invariant.so_far (c.loop-place.invariant.many ∙ whole)

pub loop-place-preserved : goal.loop-place-preserved
loop-place-preserved g c =
    let G = g.M.Line.Line in
    let n = c.args.n in
    let before = g.M.LineMaker.faults c.args.maker.now in
    let mid = g.M.LineMaker.faults c.loop-place.maker in
    let now = g.M.LineMaker.faults c.line_at.new.maker in
    let old = c.loop-place.lines.items in
    let line = c.in_ok-line_at.field-0 in
    let i = c.loop-place.invariant in
    let pushed : c.push.new.self.items ≡ old ++ line ∷ [] = c.in_ok-push.ensures.items in
    let made : IsMade G (mid (length old / n) (length old % n)) (now (length old / n) (length old % n)) line = subst (λ k. IsMade G (mid (k / n) (k % n)) (now (k / n) (k % n)) line) (sym i.many) c.in_ok-line_at.ensures.made in
    record {
      many = ap length pushed ∙ (let e = length-append old (line ∷ []) in let m = i.many in omega (arith, e, m));
      so_far = subst (λ ls. MadeSoFar G n before now ls) (sym pushed) (one_more G n before mid now old line i.so_far c.in_ok-line_at.ensures.later made);
    }
