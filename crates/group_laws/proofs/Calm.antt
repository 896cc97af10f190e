-- A run is quiet where none of its events is loud.
use Rattle.std.proofs.Common.{ℕ, ◌≡◌, ◌<◌, ◌+◌, true, false, List, [], ◌∷◌, ◌++◌, length, reverse, take, drop, refl, sym, ◌∙◌, ap, subst, Some, zero, suc, None, add-one}
use Rattle.std.specs.Prelude.{slice_get}
use Rattle.std.proofs.lemmas.List.{reverse-append}
use Rattle.upd_base.specs.Plan.{Planned}
use Rattle.upd_base.specs.declared.event.Event.{Event}
use Rattle.upd_base.specs.declared.event.Event.TheVariants.{Call, Receive, Release}
use Rattle.group_run.specs.Run.{Events}
use Rattle.group_run.specs.Settled.{IsQuiet}
use Rattle.group_laws.specs.Loud.{is_loud_event}

pub quiet_more : (plan : Planned) (e : Event) (past : Events) → is_loud_event plan e ≡ false → IsQuiet plan past → IsQuiet plan (e ∷ past)
quiet_more plan (Call thread index member given) past calm q = (calm, q)
quiet_more plan (Receive from to) past calm q = q
quiet_more plan (Release at) past calm q = q

pub quiet_newest : (plan : Planned) (e : Event) (past : Events) → IsQuiet plan (e ∷ past) → (is_loud_event plan e ≡ false) × IsQuiet plan past
quiet_newest plan (Call thread index member given) past q = q
quiet_newest plan (Receive from to) past q = (refl, q)
quiet_newest plan (Release at) past q = (refl, q)

pub quiet_before : (plan : Planned) (later past : Events) → IsQuiet plan (later ++ past) → IsQuiet plan past
quiet_before plan [] past q = q
quiet_before plan (e ∷ later) past q = quiet_before plan later past (quiet_newest plan e (later ++ past) q).1

-- the event at a place stands between those before it and those behind it
taken_next : (es : List Event) (i : ℕ) (e : Event) → slice_get es i ≡ Some e → take (suc i) es ≡ take i es ++ e ∷ []
taken_next [] i e at = absurd (let p : None ≡ Some e = at in cc)
taken_next (x ∷ es) zero e at = (let p : Some x ≡ Some e = at in cc)
taken_next (x ∷ es) (suc i) e at = ap (λ ys. x ∷ ys) (taken_next es i e at)

splits_at : (es : List Event) (i : ℕ) (e : Event) → slice_get es i ≡ Some e → es ≡ (take i es ++ e ∷ []) ++ drop (suc i) es
splits_at [] i e at = absurd (let p : None ≡ Some e = at in cc)
splits_at (x ∷ es) zero e at = (let p : Some x ≡ Some e = at in cc)
splits_at (x ∷ es) (suc i) e at = ap (λ ys. x ∷ ys) (splits_at es i e at)

turned : (es : List Event) (e : Event) → reverse (es ++ e ∷ []) ≡ e ∷ reverse es
turned es e = reverse-append es (e ∷ [])

pub quiet_next : (plan : Planned) (es : List Event) (i : ℕ) (e : Event) → slice_get es i ≡ Some e → is_loud_event plan e ≡ false → IsQuiet plan (reverse (take i es)) → IsQuiet plan (reverse (take (i + 1) es))
quiet_next plan es i e at calm q =
    subst (IsQuiet plan) (sym (ap (λ k. reverse (take k es)) (add-one i) ∙ ap reverse (taken_next es i e at) ∙ turned (take i es) e)) (quiet_more plan e (reverse (take i es)) calm q)

-- a loud event disturbs the run
pub loud_there : (plan : Planned) (es : List Event) (i : ℕ) (e : Event) → slice_get es i ≡ Some e → is_loud_event plan e ≡ true → IsQuiet plan (reverse es) → ⊥
loud_there plan es i e at loud q =
    let whole : reverse es ≡ reverse (drop (suc i) es) ++ e ∷ reverse (take i es) =
    ap reverse (splits_at es i e at) ∙ reverse-append (take i es ++ e ∷ []) (drop (suc i) es) ∙ ap (λ ys. reverse (drop (suc i) es) ++ ys) (turned (take i es) e) in
    let here = quiet_newest plan e (reverse (take i es)) (quiet_before plan (reverse (drop (suc i) es)) (e ∷ reverse (take i es)) (subst (IsQuiet plan) whole q)) in
    (let c = here.0 in let t : true ≡ false = sym loud ∙ c in cc)
