-- What a visit makes, and when nothing is left.
use Rattle.std.proofs.Common.{ℕ, suc, ◌≡◌, ◌<◌, ◌≤◌, ◌+◌, inl, inr, true, false, not, List, [], ◌∷◌, ◌++◌, length, refl, sym, ◌∙◌, ap, subst, arith, Option, Some, None, append_assoc, length-append, drop, drop-cons, add-one, get_or}
use Rattle.std.specs.Prelude.{Result, Ok, Err, OnErr, OnOk, is_some, ◌&&◌, Contains}
use Rattle.upd_base.specs.Plan.{Planned, bound}
use Rattle.upd_base.specs.declared.call.Step.{Step as PlannedStep}
use Rattle.group_run.specs.Group.{Rules}
use Rattle.group_run.specs.Run.{Events}
use Rattle.std.proofs.lemmas.List.Elements.{Contains-append_cases}
use Rattle.group_run.proofs.Lists.{tested, nothing, only}
use Rattle.group_world.specs.declared.moves.Move.{Move}
use Rattle.group_world.specs.declared.moves.Move.TheVariants.{Call, Receive, Release}
use Rattle.run_journal.specs.Causes.{next_call, answer_next, would_be_full}
use Rattle.rehearsal.specs.Choices.{has_room, is_open, called, made}
use Rattle.rehearsal.specs.Rounds.{visited, all_visited}
use Rattle.rehearsal.specs.Ends.{IsOnTheWay}

-- a fact holds on an error, where it holds
pub on_err : {A E : Type 0} {P : Type 0} (r : Result A E) → P → OnErr r P
on_err (Ok x) p = tt
on_err (Err e) p = p

pub ok_map : {A E : Type 0} {P Q : Type 0} (r : Result A E) → (P → Q) → OnOk r P → OnOk r Q
ok_map (Ok x) f p = f p
ok_map (Err e) f p = tt

pub err_map : {A E : Type 0} {P Q : Type 0} (r : Result A E) → (P → Q) → OnErr r P → OnErr r Q
err_map (Ok x) f p = tt
err_map (Err e) f p = f p

pub room_of : (plan : Planned) (past : Events) → length past < bound plan → has_room plan past ≡ true
room_of plan past lt = grind arith

pub no_room : (plan : Planned) (past : Events) → length past ≡ bound plan → has_room plan past ≡ false
no_room plan past e = grind arith

pub full_of : (plan : Planned) (past : Events) → bound plan ≤ length past → has_room plan past ≡ false
full_of plan past le = grind arith

pub visited_open : (rules : Rules) (plan : Planned) (past : Events) (c : Move) → has_room plan past ≡ true → is_open rules plan past c ≡ true → visited rules plan past c ≡ made rules plan past c
visited_open rules plan past c room open_now = rw (room, open_now) refl

pub visited_closed : (rules : Rules) (plan : Planned) (past : Events) (c : Move) → is_open rules plan past c ≡ false → visited rules plan past c ≡ past
visited_closed rules plan past c closed = elim (tested (has_room plan past)) [ inl e ↦ rw (e, closed) refl | inr e ↦ rw e refl ]

pub visited_full : (rules : Rules) (plan : Planned) (past : Events) (c : Move) → has_room plan past ≡ false → visited rules plan past c ≡ past
visited_full rules plan past c full = rw full refl

-- a made choice is one event more
pub one_called : (rules : Rules) (plan : Planned) (past : Events) (thread : ℕ) (o : Option PlannedStep) → is_some o ≡ true → length (called rules plan past thread o) ≡ suc (length past)
one_called rules plan past thread None some = absurd (let e : false ≡ true = some in cc)
one_called rules plan past thread (Some s) some = refl

pub one_made : (rules : Rules) (plan : Planned) (past : Events) (c : Move) → is_open rules plan past c ≡ true → length (made rules plan past c) ≡ suc (length past)
one_made rules plan past (Call thread) h =
    one_called rules plan past thread (next_call plan past thread)
    (elim (tested (is_some (next_call plan past thread))) [ inl e ↦ e | inr e ↦ absurd (let b : false && not (would_be_full (answer_next rules plan past (next_call plan past thread))) ≡ true = rw e at h in cc) ])
one_made rules plan past (Receive from to) h = refl
one_made rules plan past (Release at) h = refl

pub way_self : (past : Events) → IsOnTheWay past past
way_self past = ([], refl)

pub way_trans : (a b c : Events) → IsOnTheWay a b → IsOnTheWay b c → IsOnTheWay a c
way_trans a b c (xs, p) (ys, q) = (ys ++ xs, q ∙ ap (λ zs. ys ++ zs) p ∙ sym (append_assoc ys xs a))

-- what was made is on the way, or at an error nothing was
pub either_way : {E : Type 0} (old new made : Events) (r : Result (Unit {0}) E) → IsOnTheWay old made → OnOk r (new ≡ made) → OnErr r (new ≡ old) → IsOnTheWay old new
either_way old new made (Ok x) way ok err = subst (IsOnTheWay old) (sym ok) way
either_way old new made (Err e) way ok err = subst (IsOnTheWay old) (sym err) (way_self old)

called_way : (rules : Rules) (plan : Planned) (past : Events) (thread : ℕ) (o : Option PlannedStep) → IsOnTheWay past (called rules plan past thread o)
called_way rules plan past thread None = way_self past
called_way rules plan past thread (Some s) = (_ ∷ [], refl)

pub made_way : (rules : Rules) (plan : Planned) (past : Events) (c : Move) → IsOnTheWay past (made rules plan past c)
made_way rules plan past (Call thread) = called_way rules plan past thread (next_call plan past thread)
made_way rules plan past (Receive from to) = (_ ∷ [], refl)
made_way rules plan past (Release at) = (_ ∷ [], refl)

pub visited_way : (rules : Rules) (plan : Planned) (past : Events) (c : Move) → IsOnTheWay past (visited rules plan past c)
visited_way rules plan past c = elim (tested (has_room plan past && is_open rules plan past c)) [
  | inl e ↦ rw e (made_way rules plan past c)
  | inr e ↦ rw e (way_self past)
]

pub all_way : (rules : Rules) (plan : Planned) (past : Events) (cs : List Move) → IsOnTheWay past (all_visited rules plan past cs)
all_way rules plan past [] = way_self past
all_way rules plan past (c ∷ cs) = way_trans past (visited rules plan past c) (all_visited rules plan (visited rules plan past c) cs) (visited_way rules plan past c) (all_way rules plan (visited rules plan past c) cs)

-- what is left to be visited, once the next choice was
pub visited_next : (rules : Rules) (plan other : Planned) (past new whole : Events) (cs : List Move) (i : ℕ) (c : Move) → i < length cs → c ≡ get_or cs i c → other ≡ plan
    → new ≡ visited rules other past c → all_visited rules plan past (drop i cs) ≡ whole → all_visited rules plan new (drop (i + 1) cs) ≡ whole
visited_next rules plan other past new whole cs i c lt is same made rest =
    let front : drop i cs ≡ c ∷ drop (i + 1) cs = rw (add-one) (drop-cons cs i c lt ∙ ap (λ x. x ∷ drop (suc i) cs) (sym is)) in
    ap (λ p. all_visited rules plan p (drop (i + 1) cs)) (made ∙ ap (λ q. visited rules q past c) same)
    ∙ sym (ap (all_visited rules plan past) front) ∙ rest

-- Nothing is left -----------------------------------------------------------------------------------------

pub way_length : (a b : Events) → IsOnTheWay a b → length a ≤ length b
way_length a b (more, is) = let l = length-append more a in let e = ap length is in omega arith

-- a visit that made nothing, where there is room, found the choice closed
closed_of : (rules : Rules) (plan : Planned) (past : Events) (c : Move) → has_room plan past ≡ true → length (visited rules plan past c) ≤ length past → is_open rules plan past c ≡ false
closed_of rules plan past c room le = elim (tested (is_open rules plan past c)) [
  | inr e ↦ e
  | inl e ↦ absurd (let one = one_made rules plan past c e in let v = ap length (visited_open rules plan past c room e) in omega arith)
]

-- so it left the events as they were
pub visited_same : (rules : Rules) (plan : Planned) (past : Events) (c : Move) → length (visited rules plan past c) ≤ length past → visited rules plan past c ≡ past
visited_same rules plan past c le = elim (tested (has_room plan past)) [
  | inr e ↦ visited_full rules plan past c e
  | inl e ↦ visited_closed rules plan past c (closed_of rules plan past c e le)
]

pub all_same : (rules : Rules) (plan : Planned) (past : Events) (cs : List Move) → length (all_visited rules plan past cs) ≤ length past → all_visited rules plan past cs ≡ past
all_same rules plan past [] le = refl
all_same rules plan past (c ∷ cs) le =
    let v = visited rules plan past c in
    let w = way_length v (all_visited rules plan v cs) (all_way rules plan v cs) in
    let same : v ≡ past = visited_same rules plan past c (omega arith) in
    ap (λ p. all_visited rules plan p cs) same ∙ all_same rules plan past cs (subst (λ p. length (all_visited rules plan p cs) ≤ length past) same le)

-- a round that made nothing, where there is room, found all choices closed
pub all_closed : (rules : Rules) (plan : Planned) (past : Events) (cs : List Move) → has_room plan past ≡ true → length (all_visited rules plan past cs) ≤ length past
    → (c : Move) → Contains cs c → is_open rules plan past c ≡ false
all_closed rules plan past [] room le c h = absurd (nothing c h)
all_closed rules plan past (d ∷ cs) room le c h =
    let v = visited rules plan past d in
    let w = way_length v (all_visited rules plan v cs) (all_way rules plan v cs) in
    let same : v ≡ past = visited_same rules plan past d (omega arith) in
    elim (Contains-append_cases (d ∷ []) cs c h) [
      | inl p ↦ only (λ x. is_open rules plan past x ≡ false) d c (closed_of rules plan past d room (omega arith)) p
      | inr q ↦ all_closed rules plan past cs room (subst (λ p. length (all_visited rules plan p cs) ≤ length past) same le) c q
    ]
