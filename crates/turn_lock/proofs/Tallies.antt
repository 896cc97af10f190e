-- What holds of all views, after one of them changes, or one is added, or two become one.
use Rattle.std.proofs.Common.{◌≡◌, ◌≢◌, ℕ, ◌+◌, ◌<◌, ◌≤◌, leb, ltb, Bool, true, false, ◌&&◌, cond, List, [], ◌∷◌, ◌++◌, length, set, refl, sym, ap, ◌∙◌, subst, ⊎_elim, arith}
use Rattle.std.proofs.lemmas.List.Sums.{sum_by_push}
use mathlib.Core.Option.{some}
use lib.ListN.{get_elem?}
use Rattle.atomic_table.proofs.Lists.{at_set, at_snoc, set_else}
use Rattle.turn_lock.specs.declared.view.View.{View}
use Rattle.turn_lock.specs.declared.stage.Stage.{Stage}
use Rattle.turn_lock.specs.declared.stage.Stage.TheVariants.{Idle}
use Rattle.turn_lock.specs.Places.{times, within, Ascends}
use Rattle.turn_lock.specs.Stage.{HasTicket, ticket_count}
use Rattle.turn_lock.specs.View.{less_one_part, one_part_of, both_views, spent_view}
use Rattle.turn_lock.specs.Rule.{Fits, Tallies}
use Rattle.turn_lock.proofs.Lists.{IsPrefix-longer, IsPrefix-nil, length-longer}
use Rattle.turn_lock.proofs.Sums.{sum_by-set_at, sum_by-two, times-merged, Ascends-wide, Ascends-merged}

within_one : (low high p : ℕ) → within low high p ≤ 1
within_one low high p = by (leb low p && ltb p high)
  where
    by : (b : Bool) → cond {A = ℕ} b 1 0 ≤ 1
    by true = omega arith
    by false = omega arith

module _ {E : Type 0} where
  abbrev Apart : List (View E) → Type 0
  Apart views = (i j t : ℕ) (v w : View E) → get_elem? views i ≡ some v → get_elem? views j ≡ some w → HasTicket v.stage t → HasTicket w.stage t → i ≡ j

  abbrev pub Each : (View E → Type 0) → List (View E) → Type 0
  Each F views = (i : ℕ) (v : View E) → get_elem? views i ≡ some v → F v

  -- no view but the i-th has a ticket of the stage
  abbrev Free : ℕ → List (View E) → Stage E → Type 0
  Free i views st = (t j : ℕ) (u : View E) → j ≢ i → get_elem? views j ≡ some u → HasTicket st t → HasTicket u.stage t → ⊥

  pub each_set : (F : View E → Type 0) (views : List (View E)) (i : ℕ) (w : View E) → ((j : ℕ) (u : View E) → j ≢ i → get_elem? views j ≡ some u → F u) → F w → Each F (set views i w)
  each_set F views i w others mine j u at = ⊎_elim (λ (t : (j ≡ i) × (w ≡ u)). subst F t.1 mine) (λ (t : (j ≢ i) × (get_elem? views j ≡ some u)). others j u t.0 t.1) (at_set views i j w u at)

  pub each_snoc : (F : View E → Type 0) (views : List (View E)) (w : View E) → Each F views → F w → Each F (views ++ w ∷ [])
  each_snoc F views w old mine j u at = ⊎_elim (old j u) (λ (e : w ≡ u). subst F e mine) (at_snoc views w u j at)

  apart_set : (views : List (View E)) (i : ℕ) (w : View E) → Apart views → Free i views w.stage → Apart (set views i w)
  apart_set views i w apart free a b t v u at to hv hu =
      ⊎_elim
      (λ (x : (a ≡ i) × (w ≡ v)). ⊎_elim
      (λ (y : (b ≡ i) × (w ≡ u)). x.0 ∙ sym y.0)
      (λ (y : (b ≢ i) × (get_elem? views b ≡ some u)). absurd (free t b u y.0 y.1 (subst (λ (z : View E). HasTicket z.stage t) (sym x.1) hv) hu))
      (at_set views i b w u to))
      (λ (x : (a ≢ i) × (get_elem? views a ≡ some v)). ⊎_elim
      (λ (y : (b ≡ i) × (w ≡ u)). absurd (free t a v x.0 x.1 (subst (λ (z : View E). HasTicket z.stage t) (sym y.1) hu) hv))
      (λ (y : (b ≢ i) × (get_elem? views b ≡ some u)). apart a b t v u x.1 y.1 hv hu)
      (at_set views i b w u to))
      (at_set views i a w v at)

  apart_snoc : (views : List (View E)) (w : View E) → Apart views → w.stage ≡ Idle → Apart (views ++ w ∷ [])
  apart_snoc views w apart idle a b t v u at to hv hu =
      ⊎_elim
      (λ (x : get_elem? views a ≡ some v). ⊎_elim
      (λ (y : get_elem? views b ≡ some u). apart a b t v u x y hv hu)
      (λ (y : w ≡ u). absurd (subst (λ (z : Stage E). HasTicket z t) (ap (λ (z : View E). z.stage) (sym y) ∙ idle) hu))
      (at_snoc views w u b to))
      (λ (x : w ≡ v). absurd (subst (λ (z : Stage E). HasTicket z t) (ap (λ (z : View E). z.stage) (sym x) ∙ idle) hv))
      (at_snoc views w v a at)

  -- a stage that the view had, or none, leaves the others free
  free_same : (views : List (View E)) (i : ℕ) (v w : View E) → Apart views → get_elem? views i ≡ some v → w.stage ≡ v.stage → Free i views w.stage
  free_same views i v w apart at same t j u ne to hw hu = ne (apart j i t u v to at hu (subst (λ (z : Stage E). HasTicket z t) same hw))

  pub free_idle : (views : List (View E)) (i : ℕ) (w : View E) → w.stage ≡ Idle → Free i views w.stage
  free_idle views i w idle t j u ne to hw hu = subst (λ (z : Stage E). HasTicket z t) idle hw

  ticket_count-idle : (st : Stage E) → st ≡ Idle → ticket_count st ≡ 0
  ticket_count-idle st e = ap ticket_count e

  -- one view changes, with its parts kept
  pub changed : (first served drawn served' drawn' : ℕ) (c c' : List E) (views : List (View E)) (i : ℕ) (v w : View E)
      → Tallies first served drawn c views → get_elem? views i ≡ some v
      → ticket_count w.stage + served' + drawn ≡ ticket_count v.stage + served + drawn'
      → Free i views w.stage
      → ((j : ℕ) (u : View E) → j ≢ i → get_elem? views j ≡ some u → Fits served drawn c u → Fits served' drawn' c' u)
      → Fits served' drawn' c' w
      → ((p : ℕ) → times p w.own + within first (length c) p ≡ times p v.own + within first (length c') p)
      → w.parts ≡ v.parts
      → Tallies first served' drawn' c' (set views i w)
  changed first served drawn served' drawn' c c' views i v w h at tick free others mine places same = record {
    tickets = let s = sum_by-set_at (λ (u : View E). ticket_count u.stage) views i v w at in let t = h.tickets in omega arith;
    apart = apart_set views i w h.apart free;
    each = each_set (Fits served' drawn' c') views i w (λ j u ne to. others j u ne to (h.each j u to)) mine;
    owners = λ p. let s = sum_by-set_at (λ (u : View E). times p u.own) views i v w at in let t = h.owners p in let q = places p in omega arith;
    parts = let s = sum_by-set_at (λ (u : View E). u.parts) views i v w at in let t = h.parts in omega arith;
  }

  -- a view in no turn gives a part to a new one
  pub divided : (first served drawn : ℕ) (c : List E) (views : List (View E)) (i : ℕ) (v : View E)
      → Tallies first served drawn c views → get_elem? views i ≡ some v → 2 ≤ v.parts → Tallies first served drawn c (set views i (less_one_part v) ++ one_part_of v ∷ [])
  divided first served drawn c views i v h at two =
      let mine = h.each i v at in
      let k = less_one_part v in
      let n = one_part_of v in
      let vs = set views i k in record {
        tickets = let s = sum_by-set_at (λ (u : View E). ticket_count u.stage) views i v k at in let r = sum_by_push (λ (u : View E). ticket_count u.stage) vs n in let t = h.tickets in omega arith;
        apart = apart_snoc vs n (apart_set views i k h.apart (free_same views i v k h.apart at refl)) refl;
        each = each_snoc (Fits served drawn c) vs n (each_set (Fits served drawn c) views i k (λ j u ne to. h.each j u to) record { stage = mine.stage; seen = mine.seen; own = mine.own; spent = λ z. absurd (omega arith) })
            record { stage = tt; seen = mine.seen; own = tt; spent = λ z. absurd (omega arith) };
        owners = λ p. let s = sum_by-set_at (λ (u : View E). times p u.own) views i v k at in let r = sum_by_push (λ (u : View E). times p u.own) vs n in let t = h.owners p in omega arith;
        parts = let s = sum_by-set_at (λ (u : View E). u.parts) views i v k at in let r = sum_by_push (λ (u : View E). u.parts) vs n in let t = h.parts in omega arith;
      }

  -- a view takes in another, both in no turn
  pub united : (first served drawn : ℕ) (c : List E) (views : List (View E)) (i j : ℕ) (v w : View E)
      → Tallies first served drawn c views → get_elem? views i ≡ some v → j ≢ i → get_elem? views j ≡ some w → 0 < v.parts → v.stage ≡ Idle → w.stage ≡ Idle
      → Tallies first served drawn c (set (set views i (both_views v w)) j spent_view)
  united first served drawn c views i j v w h at ne to alive vi wi =
      let mine = h.each i v at in
      let theirs = h.each j w to in
      let b = both_views v w in
      let n = spent_view {E = E} in
      let vs = set views i b in
      let to' : get_elem? vs j ≡ some w = set_else views i j b ne ∙ to in
      let lv = length-longer v.seen w.seen in
      let few : (p : ℕ) → times p v.own + times p w.own ≤ 1 = λ p. let t = sum_by-two (λ (u : View E). times p u.own) views i j v w at to (λ e. ne (sym e)) in let o = h.owners p in let x = within_one first (length c) p in omega arith in
      let own : Ascends 0 (length b.seen) b.own = Ascends-merged 0 (length b.seen) v.own w.own (Ascends-wide 0 0 (length v.seen) (length b.seen) v.own (omega arith) lv.0 mine.own) (Ascends-wide 0 0 (length w.seen) (length b.seen) w.own (omega arith) lv.1 theirs.own) few in
      record {
        tickets = let s = sum_by-set_at (λ (u : View E). ticket_count u.stage) views i v b at in let r = sum_by-set_at (λ (u : View E). ticket_count u.stage) vs j w n to' in let t = h.tickets in let z = ticket_count-idle w.stage wi in let z' = ticket_count-idle v.stage vi in omega arith;
        apart = apart_set vs j n (apart_set views i b h.apart (λ t j u _ _ has _. has)) (free_idle vs j n refl);
        each = each_set (Fits served drawn c) vs j n
            (λ k u _ e. each_set (Fits served drawn c) views i b (λ k' u' _ e'. h.each k' u' e') record { stage = (mine.seen, theirs.seen); seen = IsPrefix-longer v.seen w.seen c mine.seen theirs.seen; own = own; spent = λ z. absurd (omega arith) } k u e)
            record { stage = tt; seen = IsPrefix-nil c; own = tt; spent = λ _. (refl, refl) };
        owners = λ p. let s = sum_by-set_at (λ (u : View E). times p u.own) views i v b at in let r = sum_by-set_at (λ (u : View E). times p u.own) vs j w n to' in let t = h.owners p in let m = times-merged p v.own w.own in omega arith;
        parts = let s = sum_by-set_at (λ (u : View E). u.parts) views i v b at in let r = sum_by-set_at (λ (u : View E). u.parts) vs j w n to' in let t = h.parts in omega arith;
      }
