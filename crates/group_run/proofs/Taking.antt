-- What growing inputs say where a module takes a body: the list that it has delivered by definition gets some more behind it.
use Rattle.std.proofs.Common.{ℕ, ◌≡◌, ◌≢◌, ◌<◌, false, List, [], ◌∷◌, ◌++◌, length, refl, ◌∙◌, ap, subst, arith, Some}
use Rattle.std.specs.Prelude.{if◌then◌else◌}
use Rattle.fifo_net.specs.Net.{Input, Called, Took, IsPrefix}
use Rattle.order_trait.specs.Runs.{Order, Inputs}
use Rattle.upd_base.specs.declared.frame.Frame.{Frame}
use Rattle.group_run.specs.Group.{Group, Outer, Releases}
use Rattle.group_run.specs.Part.{Part, version, with_held}
use Rattle.group_run.specs.Turn.{Turn, still, stepped, order_step, all_told, in_module, opened, processed, released, first_orders, turn_of}
use Rattle.group_run.specs.Version.{kind_at, inputs_at}
use Rattle.group_run.specs.Held.{is_early, first_ready, without_ready}
use Rattle.group_run.specs.Growing.{DeliverMore, IsGrowing, TakesMore}
use Rattle.group_run.proofs.Modules.{length-given, inputs_at-bound, inputs_at-given_same, inputs_at-given_other}
use Rattle.group_run.proofs.Turns.{entered_cases, early_false, ready-le, newest-below}
use Rattle.group_run.proofs.Inputs.{one_of}

-- orders to one module leave the others' inputs
told_other : (g : Group) (me v w : ℕ) (t : Turn) (orders : List Order) → v ≢ w → inputs_at v (all_told g me t (in_module w orders)).part.modules ≡ inputs_at v t.part.modules
told_other g me v w t [] ne = refl
told_other g me v w t (o ∷ orders) ne =
    told_other g me v w (stepped g me t (order_step (w, o))) orders ne ∙ inputs_at-given_other w v (Called o) t.part.modules ne

processed_inputs : (g : Group) (me : ℕ) (p : Part) (from : ℕ) (frame : Frame) → frame.version < length p.modules →
    inputs_at frame.version (processed g me p from frame).part.modules ≡ Took from frame.body ∷ inputs_at frame.version p.modules
processed_inputs g me p from frame lt =
    let v : ℕ = frame.version in
    let t : Turn = stepped g me (still p) (record { version = v; input = Took from frame.body }) in
    let now : inputs_at v t.part.modules ≡ Took from frame.body ∷ inputs_at v p.modules = inputs_at-given_same v (Took from frame.body) p.modules lt in
    let len = length-given v (Took from frame.body) p.modules in
    entered_cases g me t (λ u. inputs_at v u.part.modules ≡ Took from frame.body ∷ inputs_at v p.modules) (λ e. now)
    (λ e. told_other g me v (length t.part.modules) (opened t) (first_orders g me t.part) (λ q. omega arith) ∙ inputs_at-bound v t.part.modules ∙ now)

more_of : (g : Group) (me : ℕ) (p : Part) (from : ℕ) (frame : Frame) (ns : List Inputs) → frame.version < length p.modules → ns ≡ (processed g me p from frame).part.modules → DeliverMore g me p.modules ns → TakesMore g me p from frame
more_of g me p from frame ns lt e d =
    let v : ℕ = frame.version in
    let kind = kind_at g me v p.modules in
    subst (λ xs. IsPrefix (g.rules.delivers kind g.members me (inputs_at v p.modules)) (g.rules.delivers kind g.members me xs))
    (ap (inputs_at v) e ∙ processed_inputs g me p from frame lt) (d v lt)

-- at a receipt that is processed
pub took_more : (g : Group) (me : ℕ) (xs : List (Input Outer Frame)) (from : ℕ) (frame : Frame) → is_early (turn_of g me xs).part from frame ≡ false →
    IsGrowing g me (Took from frame ∷ xs) → TakesMore g me (turn_of g me xs).part from frame
took_more g me xs from frame e grow =
    let p : Part = (turn_of g me xs).part in
    let le = (early_false p from frame e).0 in
    let lt = newest-below p.modules (one_of g me xs) in
    more_of g me p from frame (turn_of g me (Took from frame ∷ xs)).part.modules (omega arith)
    (ap (λ b. (if b then still (with_held p (p.held ++ (from, frame) ∷ [])) else processed g me p from frame).part.modules) e) grow.0

-- and at a release
pub freed_more : (g : Group) (me : ℕ) (xs : List (Input Outer Frame)) (h : ℕ × Frame) → first_ready (version (turn_of g me xs).part) (turn_of g me xs).part.held ≡ Some h →
    IsGrowing g me (Called Releases ∷ xs) → TakesMore g me (turn_of g me xs).part h.0 h.1
freed_more g me xs h e grow =
    let p : Part = (turn_of g me xs).part in
    let q : Part = with_held p (without_ready (version p) p.held) in
    let le = ready-le (version p) p.held h e in
    let lt = newest-below p.modules (one_of g me xs) in
    more_of g me q h.0 h.1 (turn_of g me (Called Releases ∷ xs)).part.modules (omega arith) (ap (λ o. (released g me p o).part.modules) e) grow.0
