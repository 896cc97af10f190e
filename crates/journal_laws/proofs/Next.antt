-- Where a line is what is wanted, one thing is wanted then.
use Rattle.std.proofs.Common.{ℕ, ◌≡◌, ◌∙◌, ◌^◌, ◌<◌, ◌≤◌, ◌++◌, [], ◌∷◌, sym, ap, arith, true}
use Rattle.std.specs.Prelude.{codes}
use Rattle.upd_base.specs.Kind.{KindFits, kind_text}
use Rattle.upd_base.specs.Plan.{Planned, bound, is_plan, plan_of}
use Rattle.upd_base.specs.declared.kind.Kind.{Kind}
use Rattle.upd_base.specs.declared.limits.TheConstants.{MAX_CALLS}
use Rattle.run_journal.proofs.Bounds.{bound-le}
use Rattle.journal_file.specs.Text.{Line, events_line, first_line, members_line, thread_line, threads_line}
use Rattle.journal_file.specs.Grammar.{Wanted, Follows, calls_with, event_or_end, step_or_thread, thread_or_events}
use Rattle.journal_file.specs.Grammar.Wanted.{WantsHeading, WantsMembers, WantsFirst, WantsThreads, WantsThread, WantsStep, WantsEvents, WantsEvent, WantsEnd, WantsNothing}
use Rattle.journal_file.specs.Within.{IsWithin}
use Rattle.journal_laws.proofs.Spellings.{behind, counted, kind_below, same_event, same_kind, same_step}

members_same : (m n : ℕ) → m < 2 ^ 64 → n < 2 ^ 64 → members_line m ≡ members_line n → m ≡ n
unfolding members_line
members_same m n p q e = counted (codes "members ") m n p q e

first_same : (n : ℕ) (k l : Kind) → n ≤ 7 → KindFits n k → KindFits n l → first_line k ≡ first_line l → k ≡ l
unfolding first_line
first_same n k l few f g e = same_kind k l (kind_below n k few f) (kind_below n l few g) (behind (codes "first ") (kind_text k) (kind_text l) e)

threads_same : (m n : ℕ) → m < 2 ^ 64 → n < 2 ^ 64 → threads_line m ≡ threads_line n → m ≡ n
unfolding threads_line
threads_same m n p q e = counted (codes "threads ") m n p q e

thread_same : (m n : ℕ) → m < 2 ^ 64 → n < 2 ^ 64 → thread_line m ≡ thread_line n → m ≡ n
unfolding thread_line
thread_same m n p q e = counted (codes "thread ") m n p q e

events_same : (m n : ℕ) → m < 2 ^ 64 → n < 2 ^ 64 → events_line m ≡ events_line n → m ≡ n
unfolding events_line
events_same m n p q e = counted (codes "events ") m n p q e

pub few_calls : (plan : Planned) (count : ℕ) → calls_with plan count ≤ MAX_CALLS → count < 2 ^ 64
few_calls plan count l = omega (arith, l)

pub few_events : (plan : Planned) (count : ℕ) → is_plan plan ≡ true → count ≤ bound plan → count < 2 ^ 64
few_events plan count is l = let b = bound-le plan is in omega (arith, b, l)

pub follows_one : (w : Wanted) (line : Line) (next other : Wanted) → IsWithin w → Follows w line next → Follows w line other → next ≡ other
follows_one WantsHeading line next other h f g = f.1 ∙ sym g.1
follows_one WantsMembers line next other h f g =
    f.4 ∙ ap WantsFirst (members_same f.0 g.0 (let l = f.2 in omega (arith, l)) (let l = g.2 in omega (arith, l)) (sym f.3 ∙ g.3)) ∙ sym g.4
follows_one (WantsFirst n) line next other h f g =
    f.3 ∙ ap (WantsThreads n) (first_same n f.0 g.0 (let l = h.1 in omega (arith, l)) f.1 g.1 (sym f.2 ∙ g.2)) ∙ sym g.3
follows_one (WantsThreads n kind) line next other h f g =
    f.4 ∙ ap (thread_or_events (plan_of n kind [])) (threads_same f.0 g.0 (let l = f.2 in omega (arith, l)) (let l = g.2 in omega (arith, l)) (sym f.3 ∙ g.3)) ∙ sym g.4
follows_one (WantsThread plan left) line next other h f g =
    f.3 ∙ ap (λ n. step_or_thread plan [] n left) (thread_same f.0 g.0 (few_calls plan f.0 f.1) (few_calls plan g.0 g.1) (sym f.2 ∙ g.2)) ∙ sym g.3
follows_one (WantsStep plan steps left threads) line next other h f g =
    f.3
    ∙ ap (λ s. step_or_thread plan (steps ++ s ∷ []) left threads) (same_step plan.members f.0 g.0 (let l = h.0.few in omega (arith, l)) f.1.fits g.1.fits (sym f.2 ∙ g.2))
    ∙ sym g.3
follows_one (WantsEvents plan) line next other h f g =
    f.3 ∙ ap (event_or_end plan []) (events_same f.0 g.0 (few_events plan f.0 h f.1) (few_events plan g.0 h g.1) (sym f.2 ∙ g.2)) ∙ sym g.3
follows_one (WantsEvent plan es left) line next other h f g =
    f.3 ∙ ap (λ e. event_or_end plan (es ++ e ∷ []) left) (same_event f.0 g.0 f.1 g.1 (sym f.2 ∙ g.2)) ∙ sym g.3
follows_one (WantsEnd plan es) line next other h f g = f.1 ∙ sym g.1
follows_one (WantsNothing plan es) line next other h f g = absurd f
