use Rattle.std.proofs.Common.{◌≡◌, ◌≤◌, drop, map, true, length}
use Rattle.std.specs.List.{list_all, sum_by}
use Rattle.upd_base.specs.Plan.{step_fits, changes_in}
use Rattle.serde_json.specs.View.{items_view}
use Rattle.scenario.specs.Reading.{thread, each}
use Rattle.scenario.proofs.Loops.{with_front}
use Rattle.scenario.proofs.steps.threads_of.Given as goal

abbrev pub invariant-loop-i : goal.invariant-loop-i
invariant-loop-i l =
    (with_front (map (λ t. t.items) l.found.items) (each (thread l.members) l.so_far l.path l.i (items_view (drop l.i l.list))) ≡ each (thread l.members) l.initial.so_far l.path 0 (items_view l.list))
    × (l.so_far.changes ≤ 32) × (l.so_far.steps ≤ 1000)
    × (list_all (λ t. list_all (step_fits l.members) t.items) l.found.items ≡ true)
    × (l.so_far.steps ≡ sum_by (λ t. length t.items) l.found.items)
    × (l.so_far.changes ≡ sum_by (λ t. changes_in t.items) l.found.items)
    × (length l.found.items ≡ l.i)
