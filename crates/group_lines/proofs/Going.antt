-- How lines go on while no frame is received, and one step after another.
use Rattle.std.proofs.Common.{ℕ, ◌≡◌, ◌+◌, ◌*◌, ◌<◌, ◌≤◌, inl, inr, List, [], ◌∷◌, ◌++◌, length, refl, sym, ◌∙◌, ap, subst, arith, Option, append_assoc, length-append, below_more}
use Rattle.upd_base.specs.Plan.{Planned, bound}
use Rattle.upd_base.specs.declared.answer.Answer.TheVariants.{Accepted, Done, Full, Crashed, VersionLimit, BadKind, BadMember}
use Rattle.upd_base.specs.declared.event.Event.{Event}
use Rattle.upd_base.specs.declared.event.Event.TheVariants.{Call as CallEvent, Receive, Release}
use Rattle.group_run.specs.Group.{Rules}
use Rattle.group_run.specs.Run.{Events}
use Rattle.upd_lines.specs.declared.line.Line.{Ghosts}
use Rattle.line_rules.specs.Received.{GoesOn}
use Rattle.line_rules.specs.LineState.{IsSetAside}
use Rattle.line_rules.specs.Lines.{AreOnTheWay, line_at, state_at}
use Rattle.line_rules.specs.Rest.{FullAtRestBut, FullOnlyAtRestBut, GoesOnFullAtRestBut, IsAtRestBut}
use Rattle.line_rules.specs.declared.line_state.LineState.{LineState}
use Rattle.line_rules.proofs.Receiving.{came_elsewhere}
use Rattle.group_lines.specs.Visits.{AllSuch, IsIdle, IsLeftOut, IsNoReceipt, IsNotFull, MadeMany, MadeOne, StaysAside, Went}

-- Going on -----------------------------------------------------------------------------------------------------

pub goes_trans : (a b c : Events) → GoesOn a b → GoesOn b c → GoesOn a c
goes_trans a b c (xs, p) (ys, q) = (ys ++ xs, q ∙ ap (λ zs. ys ++ zs) p ∙ sym (append_assoc ys xs a))

pub goes_full : (left_out : ℕ → ℕ → Type 0) (rules : Rules) (plan : Planned) (a b : Events) → GoesOnFullAtRestBut left_out rules plan a b → GoesOn a b
goes_full left_out rules plan a b (newer, is, full) = (newer, is)

-- Full calls, where more links are left out --------------------------------------------------------------------

abbrev pub Widens : (ℕ → ℕ → Type 0) → (ℕ → ℕ → Type 0) → Planned → Type 0
Widens few many plan = (from to : ℕ) → from < plan.members → to < plan.members → few from to → many from to

pub rest_wider : (few many : ℕ → ℕ → Type 0) (rules : Rules) (plan : Planned) (past : Events) → Widens few many plan → IsAtRestBut few rules plan past → IsAtRestBut many rules plan past
rest_wider few many rules plan past wider rest = record {
  receipts = λ from to r. wider from to r.from_member r.to_member (rest.receipts from to r);
  releases = rest.releases;
}

event_wider : (few many : ℕ → ℕ → Type 0) (rules : Rules) (plan : Planned) (past : Events) (event : Event) → Widens few many plan → FullOnlyAtRestBut few rules plan past event → FullOnlyAtRestBut many rules plan past event
event_wider few many rules plan past (CallEvent thread index member Full) wider rest = rest_wider few many rules plan past wider rest
event_wider few many rules plan past (CallEvent thread index member (Accepted n)) wider rest = tt
event_wider few many rules plan past (CallEvent thread index member Done) wider rest = tt
event_wider few many rules plan past (CallEvent thread index member Crashed) wider rest = tt
event_wider few many rules plan past (CallEvent thread index member VersionLimit) wider rest = tt
event_wider few many rules plan past (CallEvent thread index member BadKind) wider rest = tt
event_wider few many rules plan past (CallEvent thread index member BadMember) wider rest = tt
event_wider few many rules plan past (Receive from to) wider rest = tt
event_wider few many rules plan past (Release at) wider rest = tt

all_wider : (few many : ℕ → ℕ → Type 0) (rules : Rules) (plan : Planned) (start newer : Events) → Widens few many plan → FullAtRestBut few rules plan start newer → FullAtRestBut many rules plan start newer
all_wider few many rules plan start [] wider full = tt
all_wider few many rules plan start (event ∷ newer) wider full = (event_wider few many rules plan (newer ++ start) event wider full.0, all_wider few many rules plan start newer wider full.1)

pub full_wider : (few many : ℕ → ℕ → Type 0) (rules : Rules) (plan : Planned) (a b : Events) → Widens few many plan → GoesOnFullAtRestBut few rules plan a b → GoesOnFullAtRestBut many rules plan a b
full_wider few many rules plan a b wider (newer, is, full) = (newer, is, all_wider few many rules plan a newer wider full)

both : (left_out : ℕ → ℕ → Type 0) (rules : Rules) (plan : Planned) (start newer later : Events) → FullAtRestBut left_out rules plan (newer ++ start) later → FullAtRestBut left_out rules plan start newer → FullAtRestBut left_out rules plan start (later ++ newer)
both left_out rules plan start newer [] l n = n
both left_out rules plan start newer (e ∷ later) l n =
    (subst (λ past. FullOnlyAtRestBut left_out rules plan past e) (sym (append_assoc later newer start)) l.0, both left_out rules plan start newer later l.1 n)

pub full_trans : (left_out : ℕ → ℕ → Type 0) (rules : Rules) (plan : Planned) (a b c : Events) → GoesOnFullAtRestBut left_out rules plan a b → GoesOnFullAtRestBut left_out rules plan b c → GoesOnFullAtRestBut left_out rules plan a c
full_trans left_out rules plan a b c (newer, is, n) (later, at, l) =
    (later ++ newer, at ∙ ap (λ xs. later ++ xs) is ∙ sym (append_assoc later newer a), both left_out rules plan a newer later (subst (λ past. FullAtRestBut left_out rules plan past later) is l) n)

-- Steps one after another ----------------------------------------------------------------------------------------

aside_widens : (plan : Planned) (old new : List LineState) → StaysAside old new → Widens (IsLeftOut plan old) (IsLeftOut plan new) plan
aside_widens plan old new aside from to f t h = subst IsSetAside (sym (aside (from * plan.members + to) h)) h

pub aside_trans : (a b c : List LineState) → StaysAside a b → StaysAside b c → StaysAside a c
aside_trans a b c ab bc = λ place h. bc place (subst IsSetAside (sym (ab place h)) h) ∙ ab place h

pub went_self : {L : Type 0} (G : Ghosts L) (rules : Rules) (plan : Planned) (past : Events) (lines : List (Option L)) (states : List LineState) → Went G rules plan past past lines lines states states
went_self G rules plan past lines states = record {
  aside = λ place h. refl;
  way = λ start first on way. way;
  full = ([], refl, tt);
}

pub went_trans : {L : Type 0} (G : Ghosts L) (rules : Rules) (plan : Planned) (p q r : Events) (xs ys zs : List (Option L)) (ss ts us : List LineState)
    → Went G rules plan p q xs ys ss ts → Went G rules plan q r ys zs ts us → Went G rules plan p r xs zs ss us
went_trans G rules plan p q r xs ys zs ss ts us a b = record {
  aside = aside_trans ss ts us a.aside b.aside;
  way = λ start first on way. b.way start first (goes_trans start p q on (goes_full (IsLeftOut plan ts) rules plan p q a.full)) (a.way start first on way);
  full = full_trans (IsLeftOut plan us) rules plan p q r (full_wider (IsLeftOut plan ts) (IsLeftOut plan us) rules plan p q (aside_widens plan ts us b.aside) a.full) b.full;
}

-- Calls and releases -----------------------------------------------------------------------------------------------

elsewhere : (event : Event) (from to : ℕ) → IsNoReceipt event → event ≡ Receive from to → ⊥
elsewhere event from to apart is = subst IsNoReceipt is apart

way_event : {L : Type 0} (G : Ghosts L) (rules : Rules) (plan : Planned) (start past : Events) (event : Event) (first lines : List (Option L)) (states : List LineState) → IsNoReceipt event → GoesOn start past
    → AreOnTheWay G rules plan start past first lines states → AreOnTheWay G rules plan start (event ∷ past) first lines states
way_event G rules plan start past event first lines states apart on way = record {
  places = way.places;
  same = way.same;
  stated = way.stated;
  each = λ from to f t. came_elsewhere G rules plan start past event from to (line_at plan.members first from to) (line_at plan.members lines from to) (state_at plan.members states from to)
      (elsewhere event from to apart) on (way.each from to f t);
}

not_full_no_receipt : (event : Event) → IsNotFull event → IsNoReceipt event
not_full_no_receipt (CallEvent thread index member given) h = tt
not_full_no_receipt (Receive from to) h = h
not_full_no_receipt (Release at) h = tt

not_full : (left_out : ℕ → ℕ → Type 0) (rules : Rules) (plan : Planned) (past : Events) (event : Event) → IsNotFull event → FullOnlyAtRestBut left_out rules plan past event
not_full left_out rules plan past (CallEvent thread index member Full) h = absurd h
not_full left_out rules plan past (CallEvent thread index member (Accepted n)) h = tt
not_full left_out rules plan past (CallEvent thread index member Done) h = tt
not_full left_out rules plan past (CallEvent thread index member Crashed) h = tt
not_full left_out rules plan past (CallEvent thread index member VersionLimit) h = tt
not_full left_out rules plan past (CallEvent thread index member BadKind) h = tt
not_full left_out rules plan past (CallEvent thread index member BadMember) h = tt
not_full left_out rules plan past (Receive from to) h = tt
not_full left_out rules plan past (Release at) h = tt

way_all : {L : Type 0} (G : Ghosts L) (rules : Rules) (plan : Planned) (start old newer : Events) (first lines : List (Option L)) (states : List LineState) → AllSuch newer IsNotFull → GoesOn start old
    → AreOnTheWay G rules plan start old first lines states → AreOnTheWay G rules plan start (newer ++ old) first lines states
way_all G rules plan start old [] first lines states such on way = way
way_all G rules plan start old (event ∷ newer) first lines states such on way =
    way_event G rules plan start (newer ++ old) event first lines states (not_full_no_receipt event such.0) (goes_trans start old (newer ++ old) on (newer, refl))
    (way_all G rules plan start old newer first lines states such.1 on way)

full_all : (left_out : ℕ → ℕ → Type 0) (rules : Rules) (plan : Planned) (old newer : Events) → AllSuch newer IsNotFull → FullAtRestBut left_out rules plan old newer
full_all left_out rules plan old [] such = tt
full_all left_out rules plan old (event ∷ newer) such = (not_full left_out rules plan (newer ++ old) event such.0, full_all left_out rules plan old newer such.1)

pub went_many : {L : Type 0} (G : Ghosts L) (rules : Rules) (plan : Planned) (old new : Events) (lines : List (Option L)) (states : List LineState) → MadeMany plan old new IsNotFull → Went G rules plan old new lines lines states states
went_many G rules plan old new lines states (newer, is, room, such) = record {
  aside = λ place h. refl;
  way = λ start first on way. subst (λ past. AreOnTheWay G rules plan start past first lines states) (sym is) (way_all G rules plan start old newer first lines states such on way);
  full = (newer, is, full_all (IsLeftOut plan states) rules plan old newer such);
}

at_rest : (left_out : ℕ → ℕ → Type 0) (rules : Rules) (plan : Planned) (past : Events) (event : Event) → IsAtRestBut left_out rules plan past → FullOnlyAtRestBut left_out rules plan past event
at_rest left_out rules plan past (CallEvent thread index member Full) rest = rest
at_rest left_out rules plan past (CallEvent thread index member (Accepted n)) rest = tt
at_rest left_out rules plan past (CallEvent thread index member Done) rest = tt
at_rest left_out rules plan past (CallEvent thread index member Crashed) rest = tt
at_rest left_out rules plan past (CallEvent thread index member VersionLimit) rest = tt
at_rest left_out rules plan past (CallEvent thread index member BadKind) rest = tt
at_rest left_out rules plan past (CallEvent thread index member BadMember) rest = tt
at_rest left_out rules plan past (Receive from to) rest = tt
at_rest left_out rules plan past (Release at) rest = tt

-- any call or release, where the group is at rest but for links that are left out
pub went_forced : {L : Type 0} (G : Ghosts L) (rules : Rules) (plan : Planned) (old new : Events) (lines : List (Option L)) (states : List LineState)
    → (length old < bound plan → IsAtRestBut (IsLeftOut plan states) rules plan old) → MadeOne plan old new IsNoReceipt → Went G rules plan old new lines lines states states
went_forced G rules plan old new lines states rest (inl e) = subst (λ past. Went G rules plan old past lines lines states states) (sym e) (went_self G rules plan old lines states)
went_forced G rules plan old new lines states rest (inr (event, is, room, apart)) = record {
  aside = λ place h. refl;
  way = λ start first on way. subst (λ past. AreOnTheWay G rules plan start past first lines states) (sym is) (way_event G rules plan start old event first lines states apart on way);
  full = (event ∷ [], is, (at_rest (IsLeftOut plan states) rules plan old event (rest room), tt));
}

pub many_then : (plan : Planned) (a b c : Events) (P : Event → Type 0) → MadeMany plan a b P → MadeOne plan b c P → MadeMany plan a c P
many_then plan a b c P many (inl e) = subst (λ past. MadeMany plan a past P) (sym e) many
many_then plan a b c P (newer, is, first, such) (inr (event, at, room, here)) =
    (event ∷ newer, at ∙ ap (λ past. event ∷ past) is, (λ lt. let l = ap length is in let m = length-append newer a in omega arith), (here, such))

-- Nothing was made -------------------------------------------------------------------------------------------------

none_newer : (newer past : Events) → length (newer ++ past) ≤ length past → newer ≡ []
none_newer [] past le = refl
none_newer (event ∷ newer) past le = absurd (let m = length-append newer past in omega arith)

-- as many events are the same events
pub same_length : (a b : Events) → GoesOn a b → length b ≤ length a → b ≡ a
same_length a b (newer, is) le = is ∙ ap (λ xs. xs ++ a) (none_newer newer a (let l = ap length is in omega arith))

pub goes_length : (a b : Events) → GoesOn a b → length a ≤ length b
goes_length a b (newer, is) = let l = ap length is in let m = length-append newer a in omega arith

-- nothing was made on the way, where nothing was made in all
pub between : (a b c : Events) → GoesOn a b → GoesOn b c → c ≡ a → (b ≡ a) × (c ≡ b)
between a b c ab bc same =
    let l = ap length same in
    let one = goes_length a b ab in
    let two = goes_length b c bc in
    (same_length a b ab (omega arith), same_length b c bc (omega arith))

-- so what was left by each visit is left by all
pub left_more : (plan : Planned) (a b c : Events) (P : Events → ℕ → Type 0) (i : ℕ) → GoesOn a b → GoesOn b c
    → (IsIdle plan a b → (k : ℕ) → k < i → P a k) → (IsIdle plan b c → P b i) → IsIdle plan a c → (k : ℕ) → k < i + 1 → P a k
left_more plan a b c P i ab bc before here (room, same) =
    let m = between a b c ab bc same in
    below_more (P a) i (before (room, m.0)) (subst (λ past. P past i) m.0 (here (subst (λ past. length past < bound plan) (sym m.0) room, m.1)))

pub many_goes : (plan : Planned) (a b : Events) (P : Event → Type 0) → MadeMany plan a b P → GoesOn a b
many_goes plan a b P (newer, is, room, such) = (newer, is)

pub one_goes : (plan : Planned) (a b : Events) (P : Event → Type 0) → MadeOne plan a b P → GoesOn a b
one_goes plan a b P (inl e) = ([], e)
one_goes plan a b P (inr (event, is, room, such)) = (event ∷ [], is)
