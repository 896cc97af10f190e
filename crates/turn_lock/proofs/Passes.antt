-- What the type of a pass keeps, after a turn.
use Rattle.std.proofs.Common.{◌≡◌, ◌≤◌, List, [], length, refl, sym, subst, arith}
use Rattle.turn_lock.specs.declared.view.View.{View}
use Rattle.turn_lock.specs.declared.stage.Stage.{Stage}
use Rattle.turn_lock.specs.declared.stage.Stage.TheVariants.{Idle, Waits, Turns, Joined}
use Rattle.turn_lock.specs.Lists.{AddsAtMostOne}
use Rattle.turn_lock.specs.Places.{Ascends}
use Rattle.turn_lock.specs.Stage.{IsInTurn, noted_at}
use Rattle.turn_lock.specs.View.{known, known_by, after_turn}
use Rattle.turn_lock.specs.Steps.{Holds}
use Rattle.turn_lock.proofs.Sums.{Ascends-new_places}

known_by-turning : {E : Type 0} (seen : List E) (stage : Stage E) → IsInTurn stage → known_by seen stage ≡ noted_at stage
known_by-turning seen Idle turning = absurd turning
known_by-turning seen (Waits t) turning = absurd turning
known_by-turning seen (Turns t noted) turning = refl
known_by-turning seen (Joined a b) turning = absurd turning

module _ {T E : Type 0} where
  pub places_after : (v : View E) (given : List E) (after : Holds T E) → after ≡ (after_turn v (noted_at v.stage) given, []) → IsInTurn v.stage → AddsAtMostOne (noted_at v.stage) given
      → Ascends 0 (length v.seen) v.own → length v.seen ≤ length (known v) → Ascends 0 (length after.0.seen) after.0.own
  places_after v given after is turning adds places grows =
      let le : length v.seen ≤ length (noted_at v.stage) = subst (λ (l : List E). length v.seen ≤ length l) (known_by-turning v.seen v.stage turning) grows in
      subst (λ (m : Holds T E). Ascends 0 (length m.0.seen) m.0.own) (sym is) (Ascends-new_places v.own (length v.seen) (noted_at v.stage) given le places adds)

  pub grows_after : (v : View E) (noted given : List E) (after : Holds T E) → after ≡ (after_turn v noted given, []) → length after.0.seen ≤ length (known after.0)
  grows_after v noted given after is = subst (λ (m : Holds T E). length m.0.seen ≤ length (known m.0)) (sym is) (omega arith)
