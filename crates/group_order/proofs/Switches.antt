-- A log has one switch for each version that its member has left, and the next version has its kind.
use Rattle.std.proofs.Common.{ℕ, zero, suc, ◌≡◌, ◌<◌, ◌+◌, Bool, true, false, cond, List, [], ◌∷◌, ◌++◌, length, refl, sym, ◌∙◌, ap, arith, Some}
use Rattle.std.specs.Prelude.{not, is_some, unwrap_or}
use Rattle.std.specs.List.{sum_by, count_by}
use Rattle.std.proofs.lemmas.List.Sums.{sum_by-cons, sum_by-append}
use Rattle.fifo_net.specs.Net.{inputs_of}
use Rattle.order_trait.specs.Runs.{Inputs}
use Rattle.upd_base.specs.Item.{is_message}
use Rattle.upd_base.specs.declared.kind.Kind.{Kind}
use Rattle.upd_base.specs.declared.item.Item.{Item}
use Rattle.upd_base.specs.declared.item.Item.TheVariants.{Msg, Switch}
use Rattle.upd_base.specs.declared.entry.Entry.{Entry}
use Rattle.group_run.specs.Group.{Group}
use Rattle.group_run.specs.Version.{ends, segment, next_kind, entries, newest, kind_at}
use Rattle.group_run.specs.Run.{Moves, group, moves_in, turn_at}
use Rattle.group_run.specs.Laws.{CountsVersions, SwitchesKinds}
use Rattle.group_versions.proofs.Versions.{seg_at, delivered_at, log_below, log_of-below, has_ended-at, kind_at-zero, kind_at-suc}
use Rattle.group_run.proofs.Inputs.{one_of}
use Rattle.group_projection.proofs.Kept.{newest-length}
use Rattle.group_order.proofs.Ordered.{count_entries}
use Rattle.group_projection.proofs.Runs.{run_facts}

abbrev pub is_switch : Item → Bool
is_switch x = not (is_message x)

abbrev weight : Item → ℕ
weight x = cond (is_switch x) 1 0

-- a segment has a switch where it has ended, and no other
segment_switches : (g : Group) (v : ℕ) (xs : List Item) → count_by is_switch (segment g v xs) ≡ cond (is_some (next_kind (segment g v xs))) 1 0
segment_switches g v [] = refl
segment_switches g v (Msg o n t ∷ xs) =
    let a : sum_by weight (Msg o n t ∷ segment g v xs) ≡ 0 + sum_by weight (segment g v xs) = sum_by-cons weight (Msg o n t) (segment g v xs) in
    let r : sum_by weight (segment g v xs) ≡ cond (is_some (next_kind (segment g v xs))) 1 0 = segment_switches g v xs in
    omega (arith, a, r)
segment_switches g v (Switch o n k ∷ xs) = by_end (ends g v k) (segment_switches g v xs)
  where
    by_end : (b : Bool) → count_by is_switch (segment g v xs) ≡ cond (is_some (next_kind (segment g v xs))) 1 0 →
        count_by is_switch (cond b (Switch o n k ∷ []) (segment g v xs)) ≡ cond (is_some (next_kind (cond b (Switch o n k ∷ []) (segment g v xs)))) 1 0
    by_end true ih = refl
    by_end false ih = ih

-- the switches of the log below a version
log_switches : (g : Group) (i : ℕ) (ms : List Inputs) (v : ℕ) → ((u : ℕ) → u < v → (k : Kind) × (next_kind (seg_at g i u ms) ≡ Some k)) → count_by (λ e. is_switch e.item) (log_below g i ms v) ≡ v
log_switches g i ms zero h = refl
log_switches g i ms (suc v) h =
    let f : Entry → ℕ = λ e. weight e.item in
    let a : sum_by f (log_below g i ms v ++ entries v (seg_at g i v ms)) ≡ sum_by f (log_below g i ms v) + sum_by f (entries v (seg_at g i v ms)) = sum_by-append f (log_below g i ms v) (entries v (seg_at g i v ms)) in
    let e = h v (omega arith) in
    let b : sum_by f (entries v (seg_at g i v ms)) ≡ 1 = count_entries is_switch v (seg_at g i v ms) ∙ segment_switches g v (delivered_at g i v ms ms) ∙ ap (λ o. cond (is_some o) 1 0) e.1 in
    let r : sum_by f (log_below g i ms v) ≡ v = log_switches g i ms v (λ u l. h u (omega arith)) in
    omega (arith, a, b, r)

pub counts_versions : CountsVersions
counts_versions = λ rules k plan s past r i hi.
    let f = run_facts rules k plan s past r in
    let g : Group = group rules plan in
    let ms : Moves = moves_in rules plan past in
    let im : List Inputs = (turn_at g ms i).part.modules in
    let v : ℕ = newest im in
    let len : suc v ≡ length im = newest-length im (one_of g i (inputs_of i ms)) in
    let h : Entry → ℕ = λ e. weight e.item in
    let a : sum_by h (log_below g i im v ++ entries v (seg_at g i v im)) ≡ sum_by h (log_below g i im v) + sum_by h (entries v (seg_at g i v im)) = sum_by-append h (log_below g i im v) (entries v (seg_at g i v im)) in
    let below : sum_by h (log_below g i im v) ≡ v = log_switches g i im v (λ u l. f.kept.sound.ended i u hi (omega arith)) in
    let last : sum_by h (entries v (seg_at g i v im)) ≡ 0 =
    count_entries is_switch v (seg_at g i v im) ∙ segment_switches g v (delivered_at g i v im im) ∙ ap (λ b. cond b 1 0) (sym (has_ended-at g i v im (sym len)) ∙ f.kept.unended i hi) in
    let whole : sum_by h (log_below g i im (suc v)) ≡ v = omega (arith, a, below, last) in
    ap (λ es. sum_by h es) (log_of-below g i im) ∙ ap (λ n. sum_by h (log_below g i im n)) (sym len) ∙ whole

pub switches_kinds : SwitchesKinds
switches_kinds = λ rules k plan s past r i hi.
    let w = (run_facts rules k plan s past r).kept.sound in
    let g : Group = group rules plan in
    let im : List Inputs = (turn_at g (moves_in rules plan past) i).part.modules in
    let len : suc (newest im) ≡ length im = newest-length im (one_of g i (inputs_of i (moves_in rules plan past))) in
    record {
      first = kind_at-zero g i im (omega arith);
      next = λ v hv.
          let lt : suc v < length im = omega arith in
          let e = w.ended i v hi lt in
          (e.0, e.1, kind_at-suc g i v im lt ∙ ap (λ o. unwrap_or o (kind_at g i v im)) e.1);
    }
