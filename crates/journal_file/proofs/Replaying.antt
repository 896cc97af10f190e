-- The first event of a text that can't be made.
use Rattle.std.proofs.Common.{ℕ, ◌≡◌, ◌∙◌, ◌<◌, ◌≤◌, ◌+◌, ◌-◌, List, sym, ap, refl, subst, arith, Bool, false, get_or, length, map, reverse, take, IfNone, Option, None, Some}
use Rattle.std.specs.Prelude.{option_map, slice_get}
use Rattle.std.proofs.lemmas.List.{length-map, reverse-reverse, take_all, take-map}
use Rattle.std.proofs.lemmas.Option.{slice_get-get_or, slice_get-map}
use Rattle.upd_base.specs.Plan.{Planned}
use Rattle.upd_base.specs.declared.event.Event.{Event}
use Rattle.group_run.specs.Group.{Rules}
use Rattle.group_run.specs.Run.{Events, IsEnabled, IsGroupRun}
use Rattle.journal_file.specs.Reading.{IsFirstWrong}
use Rattle.journal_file.specs.Tried.{IsTried}
use Rattle.journal_file.specs.Written.{event_written}
use Rattle.journal_file.specs.declared.lines.Written.{Written}

pub first_wrong : (rules : Rules) (plan now : Planned) (es : List Event) (i : ℕ) (w : Event) (past : Events) → i < length es → slice_get es i ≡ Some w → now ≡ plan → past ≡ reverse (take i es)
    → IsGroupRun rules now past → (IsEnabled rules now past w → ⊥) → IsFirstWrong rules plan es (i + 1)
first_wrong rules plan now es i w past l at p q run wrong =
    let back : i ≡ i + 1 - 1 = omega arith in
    let gone : past ≡ reverse (take (i + 1 - 1) es) = q ∙ ap (λ n. reverse (take n es)) back in
    record {
      counts = omega arith;
      within = omega (arith, l);
      before = subst (λ (x : Planned). IsGroupRun rules x (reverse (take (i + 1 - 1) es))) p (subst (λ (x : Events). IsGroupRun rules now x) gone run);
      wrong = λ e is enabled.
          let there : slice_get es i ≡ slice_get es (i + 1 - 1) = ap (slice_get es) back in
          let same : Some w ≡ Some e = sym at ∙ there ∙ is in
          let event : w ≡ e = cc in
          wrong (subst (λ (x : Event). IsEnabled rules now past x) (sym event)
          (subst (λ (x : Events). IsEnabled rules now x e) (sym gone) (subst (λ (x : Planned). IsEnabled rules x (reverse (take (i + 1 - 1) es)) e) (sym p) enabled)));
    }

-- all events were made
pub all_made : {A : Type 0} (f : A → Event) (xs : List A) (i : ℕ) (items : List Event) → reverse items ≡ reverse (map f (take i xs)) → length xs ≤ i → items ≡ map f xs
all_made f xs i items e l = sym (reverse-reverse items) ∙ ap reverse e ∙ reverse-reverse (map f (take i xs)) ∙ ap (map f) (take_all i xs l)

-- the event at this place was tried, and not made
pub not_made : (rules : Rules) (plan now : Planned) (ws : List Written) (i : ℕ) (d : Written) (past new : Events) (b : Bool) → i < length ws → now ≡ plan → past ≡ reverse (map event_written (take i ws))
    → IsGroupRun rules now past → IsTried rules now past new (event_written (get_or ws i d)) b → b ≡ false → IsFirstWrong rules plan (map event_written ws) (i + 1)
not_made rules plan now ws i d past new b l p q run tried is_false =
    first_wrong rules plan now (map event_written ws) i (event_written (get_or ws i d)) past
    (let n = length-map ws event_written in omega (arith, n, l))
    (slice_get-map event_written ws i ∙ ap (option_map event_written) (slice_get-get_or ws i d l))
    p (q ∙ ap reverse (sym (take-map event_written i ws))) run (rw is_false at tried)

-- a number that no member has
pub no_member : (o : Option ℕ) (members number : ℕ) → members ≤ 7 → IfNone o (7 ≤ number) → IfNone o (members ≤ number)
no_member (Some m) members number l h = tt
no_member None members number l h = omega (arith, l, h)
