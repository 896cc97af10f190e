-- The events of the seeded schedule.
use Rattle.std.proofs.Common.{ℕ, zero, suc, ◌≡◌, ◌<◌, ◌≤◌, ◌+◌, ◌%◌, ◌==◌, inl, inr, true, false, List, [], ◌∷◌, length, refl, sym, ◌∙◌, ap, subst, arith, Option, Some, None, filter}
use Rattle.std.specs.Prelude.{slice_get, slice_index_or, Contains, Result, Ok, Err, OnOk}
use Rattle.std.proofs.lemmas.Bool.{eqb-true}
use Rattle.std.proofs.lemmas.Option.{slice_get-get_or}
use Rattle.std.proofs.lemmas.List.Elements.{Contains-append_right}
use Rattle.std.proofs.Math.Nat.{mod-lt}
use Rattle.rand_pcg.specs.Lcg.{Lcg}
use Rattle.rand_pcg.specs.Pcg.{pcg32}
use Rattle.upd_base.specs.Plan.{Planned, bound}
use Rattle.upd_base.specs.declared.no_memory.NoMemory.{NoMemory}
use Rattle.group_run.specs.Group.{Rules}
use Rattle.group_run.specs.Run.{Events}
use Rattle.group_run.specs.Settled.{IsSettled}
use Rattle.group_run.proofs.Lists.{tested, eqb_self, filter_contains, contains_filter, nothing}
use Rattle.group_world.specs.declared.moves.Move.{Move}
use Rattle.rehearsal.specs.Choices.{IsChoice, choices, has_room, is_open, made}
use Rattle.rehearsal.specs.Rounds.{forced_call, visited}
use Rattle.rehearsal.specs.Seeded.{Drawn, drawn, draws, open_choices}
use Rattle.rehearsal.specs.Ends.{IsOnTheWay}
use Rattle.rehearsal.proofs.Visits.{made_way, one_made, visited_open, way_length, way_self, way_trans}
use Rattle.rehearsal.proofs.AllChoices.{each_fits}
use Rattle.rehearsal.proofs.AtRest.{settled_of}
use Rattle.rehearsal.proofs.TurnLaws.{forced_call_way, forced_same, none_left}

-- What a draw is --------------------------------------------------------------------------------------------------

-- the place that a word chooses is in the list
index_there : (m : Move) (ms : List Move) (w : ℕ) → slice_get (m ∷ ms) (w % length (m ∷ ms)) ≡ Some (slice_index_or (m ∷ ms) (w % length (m ∷ ms)) m)
index_there m ms w = slice_get-get_or (m ∷ ms) (w % length (m ∷ ms)) m (mod-lt w (omega arith))

contains_got : (xs : List Move) (i : ℕ) (c : Move) → slice_get xs i ≡ Some c → Contains xs c
contains_got [] i c h = absurd (let p : None ≡ Some c = h in cc)
contains_got (x ∷ xs) zero c h = (0, omega arith, (let p : Some x ≡ Some c = h in cc))
contains_got (x ∷ xs) (suc i) c h = Contains-append_right (x ∷ []) xs c (contains_got xs i c h)

open_of : (rules : Rules) (plan : Planned) (past : Events) (i : ℕ) (c : Move) → slice_get (open_choices rules plan past) i ≡ Some c → is_open rules plan past c ≡ true
open_of rules plan past i c h = (contains_filter (is_open rules plan past) (choices plan) c (contains_got (open_choices rules plan past) i c h)).1

pub drawn_full : (rules : Rules) (plan : Planned) (past : Events) (words : Lcg) → has_room plan past ≡ false → drawn rules plan past words ≡ record { past = past; words = words }
drawn_full rules plan past words full = rw full refl

pub drawn_none : (rules : Rules) (plan : Planned) (past : Events) (words : Lcg) → has_room plan past ≡ true → length (open_choices rules plan past) ≡ 0
    → drawn rules plan past words ≡ record { past = forced_call rules plan past; words = words }
drawn_none rules plan past words room none = cases (open_choices rules plan past) refl none
  where
    cases : (ms : List Move) → open_choices rules plan past ≡ ms → length ms ≡ 0 → drawn rules plan past words ≡ record { past = forced_call rules plan past; words = words }
    cases [] is none = rw (room, is) refl
    cases (m ∷ ms) is none = absurd (omega arith)

pub drawn_some : (rules : Rules) (plan : Planned) (past : Events) (words : Lcg) (c : Move) → has_room plan past ≡ true
    → slice_get (open_choices rules plan past) ((pcg32 words).0 % length (open_choices rules plan past)) ≡ Some c
    → drawn rules plan past words ≡ record { past = visited rules plan past c; words = (pcg32 words).1 }
drawn_some rules plan past words c room at = cases (open_choices rules plan past) refl
  where
    same : visited rules plan past c ≡ made rules plan past c
    same = visited_open rules plan past c room (open_of rules plan past _ c at)

    cases : (ms : List Move) → open_choices rules plan past ≡ ms → drawn rules plan past words ≡ record { past = visited rules plan past c; words = (pcg32 words).1 }
    cases [] is = absurd (let p : None ≡ Some c = rw is at at in cc)
    cases (m ∷ ms) is =
        let w = (pcg32 words).0 in
        let got : slice_get (m ∷ ms) (w % length (m ∷ ms)) ≡ Some c = rw is at at in
        let chose : slice_index_or (m ∷ ms) (w % length (m ∷ ms)) m ≡ c = (let i = index_there m ms w in cc) in
        let step : drawn rules plan past words ≡ record { past = made rules plan past (slice_index_or (m ∷ ms) (w % length (m ∷ ms)) m); words = (pcg32 words).1 } = rw (room, is) refl in
        step ∙ ap (λ past2. record { past = past2; words = (pcg32 words).1 }) (ap (made rules plan past) chose ∙ sym same)

-- what was found by a word among listed choices, where these are the plan's
pub found_at : (rules : Rules) (plan : Planned) (past : Events) (words next : Lcg) (all : List Move) (word count : ℕ) (o : Option Move) → all ≡ choices plan → (word, next) ≡ pcg32 words
    → count ≡ length (filter (is_open rules plan past) all) → o ≡ slice_get (filter (is_open rules plan past) all) (word % count)
    → slice_get (open_choices rules plan past) ((pcg32 words).0 % length (open_choices rules plan past)) ≡ o
found_at rules plan past words next all word count o is drew counted found =
    sym (found ∙ ap (λ n. slice_get (filter (is_open rules plan past) all) (word % n)) counted
    ∙ ap (λ cs. slice_get (filter (is_open rules plan past) cs) (word % length (filter (is_open rules plan past) cs))) is
    ∙ ap (λ (p : ℕ × Lcg). slice_get (open_choices rules plan past) (p.0 % length (open_choices rules plan past))) drew)

pub choice_fits : (rules : Rules) (plan : Planned) (past : Events) (i : ℕ) (c : Move) → slice_get (open_choices rules plan past) i ≡ Some c → IsChoice plan c
choice_fits rules plan past i c h = each_fits plan c (contains_filter (is_open rules plan past) (choices plan) c (contains_got (open_choices rules plan past) i c h)).0

pub ok_visited : (rules : Rules) (plan : Planned) (old past : Events) (words : Lcg) (c : Move) (r : Result (Unit {0}) NoMemory) → has_room plan old ≡ true
    → slice_get (open_choices rules plan old) ((pcg32 words).0 % length (open_choices rules plan old)) ≡ Some c
    → OnOk r (past ≡ visited rules plan old c) → OnOk r (past ≡ (drawn rules plan old words).past)
ok_visited rules plan old past words c (Ok x) room at h = h ∙ ap (λ (d : Drawn). d.past) (sym (drawn_some rules plan old words c room at))
ok_visited rules plan old past words c (Err e) room at h = tt

-- a place is there where the list isn't empty
pub never_none : (ms : List Move) (w : ℕ) → (length ms ≡ 0 → ⊥) → slice_get ms (w % length ms) ≡ None → ⊥
never_none [] w some h = some refl
never_none (m ∷ ms) w some h = let i = index_there m ms w in cc

-- by the cases of a draw: no room; nothing open; a choice that is open
pub record DrawCases (rules : Rules) (plan : Planned) (past : Events) (words : Lcg) (P : Events → Type 0) : Type 0 where
  pub full : has_room plan past ≡ false → P past
  pub forced : has_room plan past ≡ true → ((c : Move) → Contains (choices plan) c → is_open rules plan past c ≡ false) → P (forced_call rules plan past)
  pub chose : (c : Move) → is_open rules plan past c ≡ true → P (made rules plan past c)

pub draw_cases : (rules : Rules) (plan : Planned) (past : Events) (words : Lcg) (P : Events → Type 0) → DrawCases rules plan past words P → P (drawn rules plan past words).past
draw_cases rules plan past words P d = elim (tested (has_room plan past)) [
  | inr e ↦ subst P (sym (ap (λ x. x.past) (drawn_full rules plan past words e))) (d.full e)
  | inl e ↦ cases e (open_choices rules plan past) refl
]
  where
    none_open : open_choices rules plan past ≡ [] → (c : Move) → Contains (choices plan) c → is_open rules plan past c ≡ false
    none_open is c h = elim (tested (is_open rules plan past c)) [
      | inl e ↦ absurd (nothing c (subst (λ ms. Contains ms c) is (filter_contains (is_open rules plan past) (choices plan) c h e)))
      | inr e ↦ e
    ]

    cases : has_room plan past ≡ true → (ms : List Move) → open_choices rules plan past ≡ ms → P (drawn rules plan past words).past
    cases room [] is = subst P (sym (ap (λ x. x.past) (drawn_none rules plan past words room (ap length is)))) (d.forced room (none_open is))
    cases room (m ∷ ms) is =
        let w = (pcg32 words).0 in
        let c = slice_index_or (m ∷ ms) (w % length (m ∷ ms)) m in
        let at : slice_get (open_choices rules plan past) (w % length (open_choices rules plan past)) ≡ Some c = rw is (index_there m ms w) in
        let ready = open_of rules plan past _ c at in
        subst P (sym (ap (λ x. x.past) (drawn_some rules plan past words c room at) ∙ visited_open rules plan past c room ready)) (d.chose c ready)

pub draw_way : (rules : Rules) (plan : Planned) (past : Events) (words : Lcg) → IsOnTheWay past (drawn rules plan past words).past
draw_way rules plan past words = draw_cases rules plan past words (IsOnTheWay past) (record {
  full = λ e. way_self past;
  forced = λ room closed. forced_call_way rules plan past;
  chose = λ c ready. made_way rules plan past c;
})

pub draw_longer : (rules : Rules) (plan : Planned) (past : Events) (words : Lcg) → length past ≤ length (drawn rules plan past words).past
draw_longer rules plan past words = way_length past (drawn rules plan past words).past (draw_way rules plan past words)

pub drawn_is : (d : Drawn) (past : Events) (words : Lcg) → past ≡ d.past → words ≡ d.words → d ≡ record { past = past; words = words }
drawn_is d past words p w = ap (λ x. record { past = x; words = d.words }) (sym p) ∙ ap (λ x. record { past = past; words = x }) (sym w)

pub draw_same : (rules : Rules) (plan : Planned) (past : Events) (words : Lcg) → length (drawn rules plan past words).past ≤ length past → (drawn rules plan past words).past ≡ past
draw_same rules plan past words = draw_cases rules plan past words (λ p. length p ≤ length past → p ≡ past) (record {
  full = λ e le. refl;
  forced = λ room closed le. forced_same rules plan past le;
  chose = λ c ready le. absurd (let one = one_made rules plan past c ready in omega arith);
})

pub draw_settled : (rules : Rules) (plan : Planned) (past : Events) (words : Lcg) → has_room plan past ≡ true → (drawn rules plan past words).past ≡ past → IsSettled rules plan past
draw_settled rules plan past words room = draw_cases rules plan past words (λ p. p ≡ past → IsSettled rules plan past) (record {
  full = λ e same. absurd (let t : true ≡ false = sym room ∙ e in cc);
  forced = λ r closed same. settled_of rules plan past (none_left rules plan past room (let e = ap length same in omega arith)) closed;
  chose = λ c ready same. absurd (let one = one_made rules plan past c ready in let e = ap length same in omega arith);
})

-- Several draws ------------------------------------------------------------------------------------------------------

pub draws_way : (rules : Rules) (plan : Planned) (more : ℕ) (past : Events) (words : Lcg) → IsOnTheWay past (draws rules plan more past words)
draws_way rules plan zero past words = way_self past
draws_way rules plan (suc more) past words = elim (tested (length (drawn rules plan past words).past == length past)) [
  | inl e ↦ rw e (way_self past)
  | inr e ↦ rw e (way_trans past (drawn rules plan past words).past _ (draw_way rules plan past words) (draws_way rules plan more (drawn rules plan past words).past (drawn rules plan past words).words))
]

-- the schedule ends where a draw adds no event
pub draws_end : (rules : Rules) (plan : Planned) (more : ℕ) (past : Events) (words : Lcg) → length (drawn rules plan past words).past ≤ length past → draws rules plan more past words ≡ past
draws_end rules plan zero past words le = refl
draws_end rules plan (suc more) past words le =
    let e : (length (drawn rules plan past words).past == length past) ≡ true = ap (λ p. length p == length past) (draw_same rules plan past words le) ∙ eqb_self (length past) in
    rw e refl

-- and else goes on with one draw less
pub draws_more : (rules : Rules) (plan : Planned) (more : ℕ) (past : Events) (words : Lcg) → length past < length (drawn rules plan past words).past
    → draws rules plan (suc more) past words ≡ draws rules plan more (drawn rules plan past words).past (drawn rules plan past words).words
draws_more rules plan more past words lt = elim (tested (length (drawn rules plan past words).past == length past)) [
  | inl e ↦ absurd (let is = eqb-true (length (drawn rules plan past words).past) (length past) e in omega arith)
  | inr e ↦ rw e refl
]

-- the draws that are left, once one added an event
pub rest_drawn : (rules : Rules) (plan : Planned) (past whole : Events) (words : Lcg) (next : Drawn) → drawn rules plan past words ≡ next → length past < length next.past → length next.past ≤ bound plan
    → (more : ℕ) × (bound plan ≤ length past + more) × (draws rules plan more past words ≡ whole)
    → (more : ℕ) × (bound plan ≤ length next.past + more) × (draws rules plan more next.past next.words ≡ whole)
rest_drawn rules plan past whole words next is lt few (zero, le, at) = absurd (omega arith)
rest_drawn rules plan past whole words next is lt few (suc more, le, at) =
    subst (λ (d : Drawn). (m : ℕ) × (bound plan ≤ length d.past + m) × (draws rules plan m d.past d.words ≡ whole)) is
    (more, (let e = ap (λ (d : Drawn). length d.past) is in omega arith), sym (draws_more rules plan more past words (let e = ap (λ (d : Drawn). length d.past) is in omega arith)) ∙ at)
