use Rattle.std.proofs.Common.{◌≡◌, ◌+◌, ◌≤◌, drop, true, length}
use Rattle.std.specs.List.{list_all}
use Rattle.upd_base.specs.Plan.{step_fits, changes_in}
use Rattle.serde_json.specs.View.{items_view}
use Rattle.scenario.specs.Reading.{step, each}
use Rattle.scenario.proofs.Loops.{with_front}
use Rattle.scenario.proofs.steps.steps_of.Given as goal

abbrev pub invariant-loop-i : goal.invariant-loop-i
invariant-loop-i l =
    (with_front l.found.items (each (step l.members) l.so_far l.path l.i (items_view (drop l.i l.list))) ≡ each (step l.members) l.initial.so_far l.path 0 (items_view l.list))
    × (l.so_far.changes ≤ 32) × (l.so_far.steps ≤ 1000)
    × (list_all (step_fits l.members) l.found.items ≡ true)
    × (l.so_far.steps ≡ l.initial.so_far.steps + length l.found.items)
    × (l.so_far.changes ≡ l.initial.so_far.changes + changes_in l.found.items)
