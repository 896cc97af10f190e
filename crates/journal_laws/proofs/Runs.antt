-- At most one event is the first that can't be made.
use Rattle.std.proofs.Common.{ℕ, zero, suc, ◌≡◌, ◌∙◌, ◌-◌, ◌<◌, ◌≤◌, inl, inr, List, [], ◌∷◌, sym, ap, subst, arith, get_or, length, reverse, take}
use Rattle.std.proofs.Common.{take-suc, take_all}
use Rattle.std.proofs.lemmas.Bool.{cases_order}
use Rattle.std.proofs.lemmas.List.{reverse-append}
use Rattle.std.proofs.lemmas.Option.{slice_get-get_or}
use Rattle.upd_base.specs.Plan.{Planned}
use Rattle.upd_base.specs.declared.event.Event.{Event}
use Rattle.upd_base.specs.declared.event.Event.TheVariants.{Release}
use Rattle.group_run.specs.Group.{Rules}
use Rattle.group_run.specs.Run.{AreEnabled, Events, IsEnabled, IsGroupRun}
use Rattle.journal_file.specs.Reading.{IsFirstWrong}

-- the first events of a list and one more, the newest first
newest : (es : List Event) (k : ℕ) (d : Event) → k < length es → reverse (take (suc k) es) ≡ get_or es k d ∷ reverse (take k es)
newest es k d l = ap reverse (take-suc es k d l) ∙ reverse-append (take k es) (get_or es k d ∷ [])

-- each of the first events of a run could come at its place
enabled_at : (rules : Rules) (plan : Planned) (es : List Event) (k i : ℕ) (d : Event) → i < k → k ≤ length es → AreEnabled rules plan (reverse (take k es)) → IsEnabled rules plan (reverse (take i es)) (get_or es i d)
enabled_at rules plan es zero i d l le h = absurd (omega (arith, l))
enabled_at rules plan es (suc k) i d l le h =
    let parts : AreEnabled rules plan (get_or es k d ∷ reverse (take k es)) = subst (AreEnabled rules plan) (newest es k d (omega (arith, le))) h in
    elim (cases_order i k) [
      | inl same ↦ subst (λ (j : ℕ). IsEnabled rules plan (reverse (take j es)) (get_or es j d)) (sym same) parts.0
      | inr (inl below) ↦ enabled_at rules plan es k i d below (omega (arith, le)) parts.1
      | inr (inr above) ↦ absurd (omega (arith, above, l))
    ]

-- so none of them is wrong there
not_wrong : (rules : Rules) (plan : Planned) (es : List Event) (k place : ℕ) → place ≤ k → k ≤ length es → AreEnabled rules plan (reverse (take k es)) → IsFirstWrong rules plan es place → ⊥
not_wrong rules plan es k place l le h w =
    let first = w.counts in
    let e : Event = get_or es (place - 1) (Release 0) in
    w.wrong e (slice_get-get_or es (place - 1) (Release 0) (omega (arith, first, l, le))) (enabled_at rules plan es k (place - 1) (Release 0) (omega (arith, first, l)) le h)

pub none_wrong : (rules : Rules) (plan : Planned) (es : List Event) (place : ℕ) → IsGroupRun rules plan (reverse es) → IsFirstWrong rules plan es place → ⊥
none_wrong rules plan es place run w =
    not_wrong rules plan es (length es) place w.within (omega arith)
    (subst (λ (xs : Events). AreEnabled rules plan (reverse xs)) (sym (take_all (length es) es (omega arith))) run.enabled) w

-- the earlier one is made before the later one
earlier : (rules : Rules) (plan : Planned) (es : List Event) (m n : ℕ) → m < n → IsFirstWrong rules plan es m → IsFirstWrong rules plan es n → ⊥
earlier rules plan es m n l v w = let h = w.within in not_wrong rules plan es (n - 1) m (omega (arith, l)) (omega (arith, h)) w.before.enabled v

pub one_wrong : (rules : Rules) (plan : Planned) (es : List Event) (m n : ℕ) → IsFirstWrong rules plan es m → IsFirstWrong rules plan es n → m ≡ n
one_wrong rules plan es m n v w = elim (cases_order m n) [
  | inl same ↦ same
  | inr (inl below) ↦ absurd (earlier rules plan es m n below v w)
  | inr (inr above) ↦ absurd (earlier rules plan es n m above w v)
]
