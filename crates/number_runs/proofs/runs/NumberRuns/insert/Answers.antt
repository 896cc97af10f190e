use Rattle.std.proofs.Common.{◌≡◌, ◌<◌, ◌≤◌, Some, length, sym, ap, ◌∙◌, subst, ◌||◌}
use Rattle.std.specs.Prelude.{slice_get}
use Rattle.std.specs.List.{All}
use Rattle.number_runs.specs.Runs.{holds, is_pair}
use Rattle.number_runs.specs.declared.runs.Run.{Run}
use Rattle.number_runs.proofs.Longer.{run_at, all_ordered, holds_one_more}
use Rattle.number_runs.proofs.runs.NumberRuns.insert.Goals as goal

pub invariant_of-self : goal.invariant_of-self
invariant_of-self c =
    let within : c.in-Some.at < length c.self.inside.runs.items = subst (λ l. c.in-Some.at < length l) c.as_slice.ensures.value c.in-Some.ensures.within in
    let run : (run : Run) × (slice_get c.self.inside.runs.items c.in-Some.at ≡ Some run) = run_at c.self.inside.runs.items c.in-Some.at within in
    let ends = c.in-Some.ensures.ends run.0 (ap (λ l. slice_get l c.in-Some.at) c.as_slice.ensures.value ∙ run.1) in
    subst (λ l. All (λ r. r.first ≤ r.last) l) (sym (c.lengthen.ensures run.0 run.1)) (all_ordered c.self.inside.runs.items c.in-Some.at run.0 c.args.number run.1 ends.1 c.self.invariant)

pub returns-in-Some-clause-holds : goal.returns-in-Some-clause-holds
returns-in-Some-clause-holds c = λ q.
    let within : c.in-Some.at < length c.self.inside.runs.items = subst (λ l. c.in-Some.at < length l) c.as_slice.ensures.value c.in-Some.ensures.within in
    let run : (run : Run) × (slice_get c.self.inside.runs.items c.in-Some.at ≡ Some run) = run_at c.self.inside.runs.items c.in-Some.at within in
    let ends = c.in-Some.ensures.ends run.0 (ap (λ l. slice_get l c.in-Some.at) c.as_slice.ensures.value ∙ run.1) in
    ap (λ l. holds l q) (c.lengthen.ensures run.0 run.1)
    ∙ holds_one_more c.self.inside.runs.items c.in-Some.at run.0 c.args.row c.args.number q run.1 c.self.invariant ends.0 ends.1
    ∙ ap (λ l. is_pair (c.args.row, c.args.number) q || holds l q) c.self.view_is
