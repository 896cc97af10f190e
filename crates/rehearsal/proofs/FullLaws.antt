-- The schedules make a call that is answered as full only where the group is at rest.
use Rattle.std.proofs.Common.{ℕ, zero, suc, ◌≡◌, ◌==◌, inl, inr, true, false, not, List, [], ◌∷◌, ◌++◌, length, refl, sym, ◌∙◌, ap, subst, Option, Some, None, append_assoc}
use Rattle.std.specs.Prelude.{is_some, ◌&&◌}
use Rattle.std.proofs.lemmas.Bool.{cases_lt}
use Rattle.std.proofs.lemmas.List.{append_cancel_right}
use Rattle.rand_pcg.specs.Lcg.{Lcg}
use Rattle.upd_base.specs.Plan.{Planned, bound}
use Rattle.upd_base.specs.declared.answer.Answer.{Answer}
use Rattle.upd_base.specs.declared.answer.Answer.TheVariants.{Accepted, Done, Full, Crashed, VersionLimit, BadKind, BadMember}
use Rattle.upd_base.specs.declared.call.Step.{Step as PlannedStep}
use Rattle.upd_base.specs.declared.event.Event.TheVariants.{Call as CallEvent}
use Rattle.group_run.specs.Answer.{answer}
use Rattle.group_run.specs.Group.{Rules}
use Rattle.group_run.specs.Run.{Events, calls_made, group, part}
use Rattle.group_run.proofs.Lists.{tested}
use Rattle.group_world.specs.declared.moves.Move.{Move}
use Rattle.group_world.specs.declared.moves.Move.TheVariants.{Call, Receive, Release}
use Rattle.run_journal.specs.Causes.{answer_next, next_call, would_be_full}
use Rattle.rehearsal.specs.declared.rehearsed.RehearsalEnd.{RehearsalEnd}
use Rattle.rehearsal.specs.declared.rehearsed.RehearsalEnd.TheVariants as ends
use Rattle.rehearsal.specs.Choices.{called, choices, has_room, is_open, made, waiting_thread}
use Rattle.rehearsal.specs.Ends.{EndsAt, IsOnTheWay}
use Rattle.rehearsal.specs.FullAtRest.{FullAtRest, FullOnlyAtRest, GoesOnFullAtRest, IsAtRest}
use Rattle.rehearsal.specs.Rounds.{all_visited, forced, round, round_robin, turn, turns, visited}
use Rattle.rehearsal.specs.Seeded.{drawn, draws, seeded}
use Rattle.rehearsal.proofs.AtRest.{at_rest}
use Rattle.rehearsal.proofs.DrawLaws.{draw_cases}
use Rattle.rehearsal.proofs.TurnLaws.{turn_forced, turn_round}
use Rattle.rehearsal.proofs.Visits.{all_closed, visited_closed, visited_full, visited_open}

-- Going on ---------------------------------------------------------------------------------------------------------

pub goes_self : (rules : Rules) (plan : Planned) (past : Events) → GoesOnFullAtRest rules plan past past
goes_self rules plan past = ([], refl, tt)

-- what was made from a start and then from there
both : (rules : Rules) (plan : Planned) (start newer later : Events) → FullAtRest rules plan (newer ++ start) later → FullAtRest rules plan start newer → FullAtRest rules plan start (later ++ newer)
both rules plan start newer [] l n = n
both rules plan start newer (e ∷ later) l n =
    (subst (λ past. FullOnlyAtRest rules plan past e) (sym (append_assoc later newer start)) l.0, both rules plan start newer later l.1 n)

pub goes_trans : (rules : Rules) (plan : Planned) (a b c : Events) → GoesOnFullAtRest rules plan a b → GoesOnFullAtRest rules plan b c → GoesOnFullAtRest rules plan a c
goes_trans rules plan a b c (newer, is, n) (later, at, l) =
    (later ++ newer, at ∙ ap (λ xs. later ++ xs) is ∙ sym (append_assoc later newer a), both rules plan a newer later (subst (λ past. FullAtRest rules plan past later) is l) n)

-- the earlier of several events
earlier : (rules : Rules) (plan : Planned) (start newer later : Events) → FullAtRest rules plan start (later ++ newer) → FullAtRest rules plan start newer
earlier rules plan start newer [] h = h
earlier rules plan start newer (e ∷ later) h = earlier rules plan start newer later h.1

-- so it holds of each part of the way
on_the_way : (rules : Rules) (plan : Planned) (start past whole : Events) → IsOnTheWay start past → IsOnTheWay past whole → GoesOnFullAtRest rules plan start whole → GoesOnFullAtRest rules plan start past
on_the_way rules plan start past whole (newer, is) (later, at) (all, sum, h) =
    let same : all ≡ later ++ newer = append_cancel_right all (later ++ newer) start (sym sum ∙ at ∙ ap (λ xs. later ++ xs) is ∙ sym (append_assoc later newer start)) in
    (newer, is, earlier rules plan start newer later (subst (FullAtRest rules plan start) same h))

pub full_of_end : (rules : Rules) (plan : Planned) (start past whole : Events) (end : RehearsalEnd) → EndsAt rules plan end past whole → IsOnTheWay start past
    → GoesOnFullAtRest rules plan start whole → GoesOnFullAtRest rules plan start past
full_of_end rules plan start past whole ends.Settled (is, settled) way h = subst (GoesOnFullAtRest rules plan start) (sym is) h
full_of_end rules plan start past whole ends.Spent (is, most, left) way h = subst (GoesOnFullAtRest rules plan start) (sym is) h
full_of_end rules plan start past whole ends.NoMemory after way h = on_the_way rules plan start past whole way after h

-- A choice that is made --------------------------------------------------------------------------------------------

not_full : (rules : Rules) (plan : Planned) (past : Events) (thread index member : ℕ) (a : Answer) → would_be_full (Some a) ≡ false → FullOnlyAtRest rules plan past (CallEvent thread index member a)
not_full rules plan past thread index member Full h = absurd (let t : true ≡ false = h in cc)
not_full rules plan past thread index member (Accepted n) h = tt
not_full rules plan past thread index member Done h = tt
not_full rules plan past thread index member Crashed h = tt
not_full rules plan past thread index member VersionLimit h = tt
not_full rules plan past thread index member BadKind h = tt
not_full rules plan past thread index member BadMember h = tt

-- a call that would not be answered as full
open_call : (rules : Rules) (plan : Planned) (past : Events) (thread : ℕ) (o : Option PlannedStep) → (is_some o && not (would_be_full (answer_next rules plan past o))) ≡ true
    → GoesOnFullAtRest rules plan past (called rules plan past thread o)
open_call rules plan past thread None h = goes_self rules plan past
open_call rules plan past thread (Some s) h =
    let given = answer (group rules plan) s.at (part rules plan past s.at) s.call in
    let small : would_be_full (Some given) ≡ false = elim (tested (would_be_full (Some given))) [
      | inl e ↦ absurd (let t : false ≡ true = rw e at h in cc)
      | inr e ↦ e
    ] in
    (CallEvent thread (calls_made thread past) s.at given ∷ [], refl, (not_full rules plan past thread (calls_made thread past) s.at given small, tt))

pub goes_open : (rules : Rules) (plan : Planned) (past : Events) (c : Move) → is_open rules plan past c ≡ true → GoesOnFullAtRest rules plan past (made rules plan past c)
goes_open rules plan past (Call thread) h = open_call rules plan past thread (next_call plan past thread) h
goes_open rules plan past (Receive from to) h = (_ ∷ [], refl, (tt, tt))
goes_open rules plan past (Release at) h = (_ ∷ [], refl, (tt, tt))

-- any call, where the group is at rest
rest_event : (rules : Rules) (plan : Planned) (past : Events) (thread index member : ℕ) (a : Answer) → IsAtRest rules plan past → FullOnlyAtRest rules plan past (CallEvent thread index member a)
rest_event rules plan past thread index member Full rest = rest
rest_event rules plan past thread index member (Accepted n) rest = tt
rest_event rules plan past thread index member Done rest = tt
rest_event rules plan past thread index member Crashed rest = tt
rest_event rules plan past thread index member VersionLimit rest = tt
rest_event rules plan past thread index member BadKind rest = tt
rest_event rules plan past thread index member BadMember rest = tt

rest_call : (rules : Rules) (plan : Planned) (past : Events) (thread : ℕ) (o : Option PlannedStep) → IsAtRest rules plan past → GoesOnFullAtRest rules plan past (called rules plan past thread o)
rest_call rules plan past thread None rest = goes_self rules plan past
rest_call rules plan past thread (Some s) rest =
    let given = answer (group rules plan) s.at (part rules plan past s.at) s.call in
    (CallEvent thread (calls_made thread past) s.at given ∷ [], refl, (rest_event rules plan past thread (calls_made thread past) s.at given rest, tt))

goes_forced : (rules : Rules) (plan : Planned) (past : Events) (o : Option ℕ) → (has_room plan past ≡ true → IsAtRest rules plan past) → GoesOnFullAtRest rules plan past (forced rules plan past o)
goes_forced rules plan past None rest = goes_self rules plan past
goes_forced rules plan past (Some thread) rest = elim (tested (has_room plan past)) [
  | inl e ↦ rw e (rest_call rules plan past thread (next_call plan past thread) (rest e))
  | inr e ↦ rw e (goes_self rules plan past)
]

-- The round-robin schedule -----------------------------------------------------------------------------------------

goes_visited : (rules : Rules) (plan : Planned) (past : Events) (c : Move) → GoesOnFullAtRest rules plan past (visited rules plan past c)
goes_visited rules plan past c = elim (tested (is_open rules plan past c)) [
  | inr e ↦ rw (visited_closed rules plan past c e) (goes_self rules plan past)
  | inl e ↦ elim (tested (has_room plan past)) [
    | inl room ↦ rw (visited_open rules plan past c room e) (goes_open rules plan past c e)
    | inr full ↦ rw (visited_full rules plan past c full) (goes_self rules plan past)
  ]
]

goes_all : (rules : Rules) (plan : Planned) (past : Events) (cs : List Move) → GoesOnFullAtRest rules plan past (all_visited rules plan past cs)
goes_all rules plan past [] = goes_self rules plan past
goes_all rules plan past (c ∷ cs) =
    let v = visited rules plan past c in
    goes_trans rules plan past v (all_visited rules plan v cs) (goes_visited rules plan past c) (goes_all rules plan v cs)

goes_turn : (rules : Rules) (plan : Planned) (past : Events) → GoesOnFullAtRest rules plan past (turn rules plan past)
goes_turn rules plan past = elim (cases_lt (length past) (length (round rules plan past))) [
  | inl lt ↦ rw (turn_round rules plan past lt) (goes_all rules plan past (choices plan))
  | inr ge ↦ rw (turn_forced rules plan past ge) (goes_forced rules plan past (waiting_thread plan past) (λ room. at_rest rules plan past (all_closed rules plan past (choices plan) room ge)))
]

goes_turns : (rules : Rules) (plan : Planned) (more : ℕ) (past : Events) → GoesOnFullAtRest rules plan past (turns rules plan more past)
goes_turns rules plan zero past = goes_self rules plan past
goes_turns rules plan (suc more) past = elim (tested (length (turn rules plan past) == length past)) [
  | inl e ↦ rw e (goes_self rules plan past)
  | inr e ↦ rw e (goes_trans rules plan past (turn rules plan past) _ (goes_turn rules plan past) (goes_turns rules plan more (turn rules plan past)))
]

pub goes_round_robin : (rules : Rules) (plan : Planned) (past : Events) → GoesOnFullAtRest rules plan past (round_robin rules plan past)
goes_round_robin rules plan past = goes_turns rules plan (bound plan) past

-- The seeded schedule ----------------------------------------------------------------------------------------------

goes_drawn : (rules : Rules) (plan : Planned) (past : Events) (words : Lcg) → GoesOnFullAtRest rules plan past (drawn rules plan past words).past
goes_drawn rules plan past words = draw_cases rules plan past words (GoesOnFullAtRest rules plan past) (record {
  full = λ e. goes_self rules plan past;
  forced = λ room closed. goes_forced rules plan past (waiting_thread plan past) (λ r. at_rest rules plan past closed);
  chose = λ c ready. goes_open rules plan past c ready;
})

goes_draws : (rules : Rules) (plan : Planned) (more : ℕ) (past : Events) (words : Lcg) → GoesOnFullAtRest rules plan past (draws rules plan more past words)
goes_draws rules plan zero past words = goes_self rules plan past
goes_draws rules plan (suc more) past words = elim (tested (length (drawn rules plan past words).past == length past)) [
  | inl e ↦ rw e (goes_self rules plan past)
  | inr e ↦ rw e (goes_trans rules plan past (drawn rules plan past words).past _ (goes_drawn rules plan past words) (goes_draws rules plan more (drawn rules plan past words).past (drawn rules plan past words).words))
]

pub goes_seeded : (rules : Rules) (plan : Planned) (past : Events) (words : Lcg) → GoesOnFullAtRest rules plan past (seeded rules plan past words)
goes_seeded rules plan past words = goes_draws rules plan (bound plan) past words
