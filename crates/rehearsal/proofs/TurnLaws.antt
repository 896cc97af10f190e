-- The turns of the round-robin schedule.
use Rattle.std.proofs.Common.{ℕ, zero, suc, ◌≡◌, ◌<◌, ◌≤◌, ◌+◌, ◌==◌, inl, inr, true, false, List, [], ◌∷◌, length, refl, sym, ◌∙◌, ap, subst, arith, Option, Some, None}
use Rattle.std.specs.Prelude.{is_some, Result, Ok, Err, OnOk, OnErr}
use Rattle.upd_base.specs.declared.no_memory.NoMemory.{NoMemory}
use Rattle.std.proofs.lemmas.Bool.{eqb-true, cases_lt}
use Rattle.upd_base.specs.Plan.{Planned, bound}
use Rattle.group_run.specs.Group.{Rules}
use Rattle.group_run.specs.Run.{Events}
use Rattle.group_run.specs.Settled.{IsSettled}
use Rattle.group_run.proofs.Lists.{tested, eqb_self}
use Rattle.group_world.specs.declared.moves.Move.{Move}
use Rattle.group_world.specs.declared.moves.Move.TheVariants.{Call}
use Rattle.run_journal.specs.Causes.{next_call}
use Rattle.rehearsal.specs.Choices.{called, choices, has_room, lowest_of, made, waiting_thread}
use Rattle.rehearsal.specs.Rounds.{all_visited, forced, forced_call, round, turn, turns}
use Rattle.rehearsal.specs.Ends.{IsOnTheWay}
use Rattle.rehearsal.proofs.Visits.{all_closed, all_same, all_way, full_of, made_way, one_called, visited_full, way_length, way_self, way_trans}
use Rattle.rehearsal.proofs.AtRest.{settled_of}

-- The call that is left -----------------------------------------------------------------------------------------

forced_way : (rules : Rules) (plan : Planned) (past : Events) (o : Option ℕ) → IsOnTheWay past (forced rules plan past o)
forced_way rules plan past None = way_self past
forced_way rules plan past (Some thread) = elim (tested (has_room plan past)) [ inl e ↦ rw e (made_way rules plan past (Call thread)) | inr e ↦ rw e (way_self past) ]

pub forced_call_way : (rules : Rules) (plan : Planned) (past : Events) → IsOnTheWay past (forced_call rules plan past)
forced_call_way rules plan past = forced_way rules plan past (waiting_thread plan past)

lowest_some : (plan : Planned) (past : Events) (xs : List ℕ) (t : ℕ) → lowest_of plan past xs ≡ Some t → is_some (next_call plan past t) ≡ true
lowest_some plan past [] t h = absurd (let p : None ≡ Some t = h in cc)
lowest_some plan past (x ∷ xs) t h = elim (tested (is_some (next_call plan past x))) [
  | inl e ↦ let is : x ≡ t = (let p : Some x ≡ Some t = rw e at h in cc) in subst (λ y. is_some (next_call plan past y) ≡ true) is e
  | inr e ↦ lowest_some plan past xs t (let p : lowest_of plan past xs ≡ Some t = rw e at h in p)
]

forced_one : (rules : Rules) (plan : Planned) (past : Events) (t : ℕ) → has_room plan past ≡ true → waiting_thread plan past ≡ Some t → length (forced_call rules plan past) ≡ suc (length past)
forced_one rules plan past t room some =
    let one : length (called rules plan past t (next_call plan past t)) ≡ suc (length past) = one_called rules plan past t (next_call plan past t) (lowest_some plan past _ t some) in
    rw (some, room) one

-- where it adds no event, there is none left or no room for it
pub forced_same : (rules : Rules) (plan : Planned) (past : Events) → length (forced_call rules plan past) ≤ length past → forced_call rules plan past ≡ past
forced_same rules plan past le = cases (waiting_thread plan past) refl
  where
    cases : (o : Option ℕ) → waiting_thread plan past ≡ o → forced_call rules plan past ≡ past
    cases None is = rw is refl
    cases (Some t) is = elim (tested (has_room plan past)) [
      | inl e ↦ absurd (let one = forced_one rules plan past t e is in omega arith)
      | inr e ↦ rw (is, e) refl
    ]

pub none_left : (rules : Rules) (plan : Planned) (past : Events) → has_room plan past ≡ true → length (forced_call rules plan past) ≤ length past → waiting_thread plan past ≡ None
none_left rules plan past room le = cases (waiting_thread plan past) refl
  where
    cases : (o : Option ℕ) → waiting_thread plan past ≡ o → waiting_thread plan past ≡ None
    cases None is = is
    cases (Some t) is = absurd (let one = forced_one rules plan past t room is in omega arith)

-- Turns -----------------------------------------------------------------------------------------------------------

pub turn_round : (rules : Rules) (plan : Planned) (past : Events) → length past < length (round rules plan past) → turn rules plan past ≡ round rules plan past
turn_round rules plan past more = elim (tested (length (round rules plan past) == length past)) [
  | inl e ↦ absurd (let is = eqb-true (length (round rules plan past)) (length past) e in omega arith)
  | inr e ↦ rw e refl
]

pub turn_forced : (rules : Rules) (plan : Planned) (past : Events) → length (round rules plan past) ≤ length past → turn rules plan past ≡ forced_call rules plan past
turn_forced rules plan past le =
    let same : round rules plan past ≡ past = all_same rules plan past (choices plan) le in
    let e : (length (round rules plan past) == length past) ≡ true = ap (λ p. length p == length past) same ∙ eqb_self (length past) in
    rw e refl

pub turn_way : (rules : Rules) (plan : Planned) (past : Events) → IsOnTheWay past (turn rules plan past)
turn_way rules plan past = elim (tested (length (round rules plan past) == length past)) [
  | inl e ↦ rw e (forced_way rules plan past (waiting_thread plan past))
  | inr e ↦ rw e (all_way rules plan past (choices plan))
]

pub turn_longer : (rules : Rules) (plan : Planned) (past : Events) → length past ≤ length (turn rules plan past)
turn_longer rules plan past = way_length past (turn rules plan past) (turn_way rules plan past)

-- what a turn is where it adds no event
round_le : (rules : Rules) (plan : Planned) (past : Events) → length (turn rules plan past) ≤ length past → length (round rules plan past) ≤ length past
round_le rules plan past le = elim (cases_lt (length past) (length (round rules plan past))) [
  | inl lt ↦ absurd (let e = ap length (turn_round rules plan past lt) in omega arith)
  | inr ge ↦ ge
]

forced_le : (rules : Rules) (plan : Planned) (past : Events) → length (turn rules plan past) ≤ length past → length (forced_call rules plan past) ≤ length past
forced_le rules plan past le = let e = ap length (turn_forced rules plan past (round_le rules plan past le)) in omega arith

pub turn_same : (rules : Rules) (plan : Planned) (past : Events) → length (turn rules plan past) ≤ length past → turn rules plan past ≡ past
turn_same rules plan past le = turn_forced rules plan past (round_le rules plan past le) ∙ forced_same rules plan past (forced_le rules plan past le)

-- a turn that adds no event, where there is room: the run is settled
pub turn_settled : (rules : Rules) (plan : Planned) (past : Events) → has_room plan past ≡ true → turn rules plan past ≡ past → IsSettled rules plan past
turn_settled rules plan past room same =
    let le : length (turn rules plan past) ≤ length past = let e = ap length same in omega arith in
    settled_of rules plan past (none_left rules plan past room (forced_le rules plan past le)) (all_closed rules plan past (choices plan) room (round_le rules plan past le))

all_full : (rules : Rules) (plan : Planned) (past : Events) (cs : List Move) → has_room plan past ≡ false → all_visited rules plan past cs ≡ past
all_full rules plan past [] full = refl
all_full rules plan past (c ∷ cs) full = ap (λ p. all_visited rules plan p cs) (visited_full rules plan past c full) ∙ all_full rules plan past cs full

-- without room a turn adds none
forced_none : (rules : Rules) (plan : Planned) (past : Events) (o : Option ℕ) → has_room plan past ≡ false → forced rules plan past o ≡ past
forced_none rules plan past None full = refl
forced_none rules plan past (Some t) full = rw full refl

pub turn_full : (rules : Rules) (plan : Planned) (past : Events) → has_room plan past ≡ false → turn rules plan past ≡ past
turn_full rules plan past full =
    turn_forced rules plan past (let e = ap length (all_full rules plan past (choices plan) full) in omega arith) ∙ forced_none rules plan past (waiting_thread plan past) full

pub round_within : (rules : Rules) (plan : Planned) (past : Events) → IsOnTheWay (round rules plan past) (turn rules plan past)
round_within rules plan past = elim (cases_lt (length past) (length (round rules plan past))) [
  | inl lt ↦ rw (turn_round rules plan past lt) (way_self (round rules plan past))
  | inr ge ↦ rw (turn_forced rules plan past ge, all_same rules plan past (choices plan) ge) (forced_way rules plan past (waiting_thread plan past))
]

-- a round that added no event left the events as they were, so the turn is the call that is left
pub ok_forced : (rules : Rules) (plan other : Planned) (old new past : Events) (r : Result (Unit {0}) NoMemory) → other ≡ plan → new ≡ round rules plan old → length new ≤ length old
    → OnOk r (past ≡ forced_call rules other new) → OnOk r (past ≡ turn rules plan old)
ok_forced rules plan other old new past (Err e) same made le h = tt
ok_forced rules plan other old new past (Ok x) same made le h =
    let few : length (round rules plan old) ≤ length old = let e = ap length made in omega arith in
    let kept : new ≡ old = made ∙ all_same rules plan old (choices plan) few in
    h ∙ ap (λ q. forced_call rules q new) same ∙ ap (forced_call rules plan) kept ∙ sym (turn_forced rules plan old few)

pub err_forced : (rules : Rules) (plan : Planned) (old new past : Events) (r : Result (Unit {0}) NoMemory) → new ≡ round rules plan old
    → OnErr r (past ≡ new) → OnErr r (IsOnTheWay past (turn rules plan old))
err_forced rules plan old new past (Ok x) made h = tt
err_forced rules plan old new past (Err e) made h = subst (λ p. IsOnTheWay p (turn rules plan old)) (sym (h ∙ made)) (round_within rules plan old)

-- Several turns ------------------------------------------------------------------------------------------------------

pub turns_way : (rules : Rules) (plan : Planned) (more : ℕ) (past : Events) → IsOnTheWay past (turns rules plan more past)
turns_way rules plan zero past = way_self past
turns_way rules plan (suc more) past = elim (tested (length (turn rules plan past) == length past)) [
  | inl e ↦ rw e (way_self past)
  | inr e ↦ rw e (way_trans past (turn rules plan past) _ (turn_way rules plan past) (turns_way rules plan more (turn rules plan past)))
]

-- the schedule ends where a turn adds no event
pub turns_end : (rules : Rules) (plan : Planned) (more : ℕ) (past : Events) → length (turn rules plan past) ≤ length past → turns rules plan more past ≡ past
turns_end rules plan zero past le = refl
turns_end rules plan (suc more) past le =
    let e : (length (turn rules plan past) == length past) ≡ true = ap (λ p. length p == length past) (turn_same rules plan past le) ∙ eqb_self (length past) in
    rw e refl

-- and else goes on with one turn less
pub turns_more : (rules : Rules) (plan : Planned) (more : ℕ) (past : Events) → length past < length (turn rules plan past) → turns rules plan (suc more) past ≡ turns rules plan more (turn rules plan past)
turns_more rules plan more past lt = elim (tested (length (turn rules plan past) == length past)) [
  | inl e ↦ absurd (let is = eqb-true (length (turn rules plan past)) (length past) e in omega arith)
  | inr e ↦ rw e refl
]

-- So many turns are left as there is room for events: a turn is on the way of the rest.
pub turn_within : (rules : Rules) (plan : Planned) (more : ℕ) (past : Events) → bound plan ≤ length past + more → IsOnTheWay (turn rules plan past) (turns rules plan more past)
turn_within rules plan zero past le = rw (turn_full rules plan past (full_of plan past (omega arith))) (way_self past)
turn_within rules plan (suc more) past le = elim (cases_lt (length past) (length (turn rules plan past))) [
  | inl lt ↦ rw (turns_more rules plan more past lt) (turns_way rules plan more (turn rules plan past))
  | inr ge ↦ rw (turns_end rules plan (suc more) past ge, turn_same rules plan past ge) (way_self past)
]

-- one turn less is left once a turn added an event
pub rest_after : (rules : Rules) (plan : Planned) (past whole : Events) → length past < length (turn rules plan past) → length (turn rules plan past) ≤ bound plan
    → (more : ℕ) × (bound plan ≤ length past + more) × (turns rules plan more past ≡ whole)
    → (more : ℕ) × (bound plan ≤ length (turn rules plan past) + more) × (turns rules plan more (turn rules plan past) ≡ whole)
rest_after rules plan past whole lt few (zero, le, is) = absurd (omega arith)
rest_after rules plan past whole lt few (suc more, le, is) = (more, omega arith, sym (turns_more rules plan more past lt) ∙ is)
