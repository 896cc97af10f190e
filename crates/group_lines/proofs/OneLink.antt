-- How a visit to one link takes the lines of a group along.
use Rattle.std.proofs.Common.{ℕ, zero, suc, ◌≡◌, ◌+◌, ◌*◌, ◌<◌, ◌≤◌, ◌≢◌, ◌⊎◌, inl, inr, true, false, Bool, cond, List, [], ◌∷◌, ◌++◌, length, refl, sym, ◌∙◌, ap, subst, arith, Option, Some, None, get_or, set, length-set, get_or-set_same, get_or-set_other}
use Rattle.std.specs.Prelude.{Result, Ok, Err, OnOk}
use Rattle.std.proofs.Math.Nat.{mul-le-mul_left}
use Rattle.std.proofs.lemmas.Bool.{cases_lt}
use Rattle.upd_base.specs.Plan.{Planned, bound}
use Rattle.upd_base.specs.declared.event.Event.TheVariants.{Receive}
use Rattle.upd_base.specs.declared.frame.Frame.{Frame}
use Rattle.group_run.specs.Group.{Rules}
use Rattle.group_run.specs.Run.{Events, IsReceipt, next_frame}
use Rattle.group_run.proofs.Lists.{same_or}
use Rattle.run_journal.specs.Causes.{open_frame}
use Rattle.upd_lines.specs.Line.{Told}
use Rattle.upd_lines.specs.declared.line.Line.{Ghosts}
use Rattle.line_rules.specs.Received.{GoesOn, bytes_of, listed, received_since}
use Rattle.line_rules.specs.LineState.{HasCome, IsAt, IsServing, IsSetAside}
use Rattle.line_rules.specs.Lines.{AreOnTheWay, AreReady, IsReadyAt, line_at}
use Rattle.line_rules.specs.Rest.{FullOnlyAtRestBut, GoesOnFullAtRestBut}
use Rattle.line_rules.specs.declared.line_state.LineState.{LineState}
use Rattle.line_rules.specs.declared.line_state.LineState.TheVariants.{Missing, Serving, Stopped}
use Rattle.line_rules.proofs.Receiving.{at_more, came_elsewhere, received_there}
use Rattle.group_lines.specs.Visits.{IsLeftOut, IsLinkLeft, LinkStands, LinkWent, MadeOne, StaysAside, Went}
use Rattle.group_lines.proofs.Giving.{whole_part}
use Rattle.group_lines.proofs.Ready.{Later, ready_at_more}

-- The places of links ----------------------------------------------------------------------------------------------

row_below : (n from to i j : ℕ) → to < n → from < i → from * n + to < i * n + j
row_below n from to i j lt less = let h : from + 1 ≤ i = omega arith in let m = mul-le-mul_left n h in omega arith

pub same_link : (n from to i j place : ℕ) → LinkStands n from to place → LinkStands n i j place → (i ≡ from) × (j ≡ to)
same_link n from to i j place a b =
    let e = a.there in
    let f = b.there in
    elim (cases_lt from i) [
      | inl lt ↦ absurd (let r = row_below n from to i j a.to_member lt in omega arith)
      | inr ge ↦ elim (cases_lt i from) [
        | inl lt ↦ absurd (let r = row_below n i j from to b.to_member lt in omega arith)
        | inr le ↦ let same : i ≡ from = omega arith in (same, (let p = ap (λ k. k * n) same in omega arith))
      ]
    ]

pub place_within : (n from to : ℕ) → from < n → to < n → from * n + to < n * n
place_within n from to f t = let h : from + 1 ≤ n = omega arith in let m = mul-le-mul_left n h in omega arith

pub stands : (n from to : ℕ) → from < n → to < n → LinkStands n from to (from * n + to)
stands n from to f t = record { from_member = f; to_member = t; there = refl }

-- One link ---------------------------------------------------------------------------------------------------------

opened : (down : Bool) (o : Option Frame) (frame : Frame) → cond down None o ≡ Some frame → (down ≡ false) × (o ≡ Some frame)
opened true o frame e = absurd (let q : None ≡ Some frame = e in cc)
opened false o frame e = (refl, e)

pub next_of : (rules : Rules) (plan : Planned) (past : Events) (from to : ℕ) (frame : Frame) → open_frame rules plan past from to ≡ Some frame → next_frame rules plan past from to ≡ Some frame
next_of rules plan past from to frame e = (opened _ (next_frame rules plan past from to) frame e).1

pub receipt_open : (rules : Rules) (plan : Planned) (past : Events) (from to : ℕ) → IsReceipt rules plan past from to → open_frame rules plan past from to ≡ next_frame rules plan past from to
receipt_open rules plan past from to r = rw r.up refl

way_part : {L : Type 0} (G : Ghosts L) (frames : List Frame) (frame : Frame) (first : Option L) (line new : L) (count : ℕ) (state : LineState)
    → ((old : Told) (before : ℕ) (frames : List Frame) → before ≤ G.faults line → IsServing frames old (G.told line) count → IsAt frames (frame ∷ []) old (G.told new) before (G.faults new) state)
    → G.faults line ≤ G.faults new → HasCome G frames (frame ∷ []) first (Some line) (Serving count) → HasCome G frames (frame ∷ []) first (Some new) state
way_part G frames frame None line new count state part later come = absurd come
way_part G frames frame (Some first) line new count state part later (serving, le) =
    (part (G.told first) (G.faults first) frames le serving, omega arith)

-- a frame that did not come whole: the line is set aside, or stopped
pub went_part : {L : Type 0} (G : Ghosts L) (rules : Rules) (plan : Planned) (past : Events) (from to : ℕ) (frame : Frame) (line new : L) (count : ℕ) (state new_state : LineState)
    → state ≡ Serving count → open_frame rules plan past from to ≡ Some frame
    → ((old : Told) (before : ℕ) (frames : List Frame) → before ≤ G.faults line → IsServing frames old (G.told line) count → IsAt frames (frame ∷ []) old (G.told new) before (G.faults new) new_state)
    → G.faults line ≤ G.faults new → LinkWent G rules plan past past from to (Some line) (Some new) state new_state
went_part G rules plan past from to frame line new count state new_state serves next part later = record {
  made = inl refl;
  aside = λ h. absurd (subst IsSetAside serves h);
  way = λ start first on come.
      let frames : List Frame = received_since rules plan start past from to in
      let is : listed (next_frame rules plan past from to) ≡ frame ∷ [] = ap listed (next_of rules plan past from to frame next) in
      subst (λ fs. HasCome G frames fs first (Some new) new_state) (sym is)
      (way_part G frames frame first line new count new_state part later
      (subst (λ fs. HasCome G frames fs first (Some line) (Serving count)) is (subst (HasCome G frames (listed (next_frame rules plan past from to)) first (Some line)) serves come)));
}

way_whole : {L : Type 0} (G : Ghosts L) (frames next other : List Frame) (frame : Frame) (first : Option L) (line new : L) (count : ℕ) (state : LineState)
    → ((old : Told) (before : ℕ) (frames : List Frame) → IsServing frames old (G.told line) count → IsAt (frames ++ frame ∷ []) [] old (G.told new) before (G.faults new) state)
    → G.faults line ≤ G.faults new → HasCome G frames next first (Some line) (Serving count) → HasCome G (frames ++ frame ∷ []) other first (Some new) state
way_whole G frames next other frame None line new count state whole later come = absurd come
way_whole G frames next other frame (Some first) line new count state whole later (serving, le) =
    (at_more (frames ++ frame ∷ []) [] other (G.told first) (G.told new) (G.faults first) (G.faults new) state (bytes_of other, refl) (whole (G.told first) (G.faults first) frames serving), omega arith)

-- a frame that came whole, and was received
pub went_received : {L : Type 0} (G : Ghosts L) (rules : Rules) (plan : Planned) (past new_past : Events) (from to : ℕ) (frame : Frame) (line new : L) (count : ℕ) (state new_state : LineState)
    → state ≡ Serving count → open_frame rules plan past from to ≡ Some frame → length past < bound plan → new_past ≡ Receive from to ∷ past
    → ((old : Told) (before : ℕ) (frames : List Frame) → IsServing frames old (G.told line) count → IsAt (frames ++ frame ∷ []) [] old (G.told new) before (G.faults new) new_state)
    → G.faults line ≤ G.faults new → LinkWent G rules plan past new_past from to (Some line) (Some new) state new_state
went_received G rules plan past new_past from to frame line new count state new_state serves next room is whole later = record {
  made = inr (Receive from to, is, room, refl);
  aside = λ h. absurd (subst IsSetAside serves h);
  way = λ start first on come.
      let frames : List Frame = received_since rules plan start past from to in
      let after : Events = Receive from to ∷ past in
      subst (λ p. HasCome G (received_since rules plan start p from to) (listed (next_frame rules plan p from to)) first (Some new) new_state) (sym is)
      (subst (λ fs. HasCome G fs (listed (next_frame rules plan after from to)) first (Some new) new_state) (sym (received_there rules plan start past from to frame on (next_of rules plan past from to frame next)))
      (way_whole G frames (listed (next_frame rules plan past from to)) (listed (next_frame rules plan after from to)) frame first line new count new_state whole later
      (subst (HasCome G frames (listed (next_frame rules plan past from to)) first (Some line)) serves come)));
}

-- a frame that came whole, and was not received
pub stopped_whole : (frames : List Frame) (frame : Frame) (old new : Told) (before now count : ℕ) (state : LineState) → state ≡ Serving count
    → IsAt (frames ++ frame ∷ []) [] old new before now state → IsAt frames (frame ∷ []) old new before now Stopped
stopped_whole frames frame old new before now count state serves at = whole_part frames frame old new count (subst (IsAt (frames ++ frame ∷ []) [] old new before now) serves at)

-- All links --------------------------------------------------------------------------------------------------------

other_link : (n from to i j place : ℕ) → LinkStands n from to place → i < n → j < n → (i * n + j ≢ place) ⊎ ((i ≡ from) × (j ≡ to))
other_link n from to i j place s f t = elim (same_or (i * n + j) place) [
  | inl e ↦ inr (same_link n from to i j place s (record { from_member = f; to_member = t; there = e }))
  | inr ne ↦ inl ne
]

way_away : {L : Type 0} (G : Ghosts L) (rules : Rules) (plan : Planned) (start old new : Events) (from to i j : ℕ) (first line : Option L) (state : LineState) → ((from ≡ i) → (to ≡ j) → ⊥)
    → MadeOne plan old new (λ event. event ≡ Receive from to) → GoesOn start old
    → HasCome G (received_since rules plan start old i j) (listed (next_frame rules plan old i j)) first line state
    → HasCome G (received_since rules plan start new i j) (listed (next_frame rules plan new i j)) first line state
way_away G rules plan start old new from to i j first line state away (inl e) on come =
    subst (λ p. HasCome G (received_since rules plan start p i j) (listed (next_frame rules plan p i j)) first line state) (sym e) come
way_away G rules plan start old new from to i j first line state away (inr (event, is, room, such)) on come =
    subst (λ p. HasCome G (received_since rules plan start p i j) (listed (next_frame rules plan p i j)) first line state) (sym is)
    (came_elsewhere G rules plan start old event i j first line state (λ e. let q : Receive from to ≡ Receive i j = sym such ∙ e in away (let p : from ≡ i = cc in p) (let p : to ≡ j = cc in p)) on come)

full_one : (left_out : ℕ → ℕ → Type 0) (rules : Rules) (plan : Planned) (old new : Events) (from to : ℕ) → MadeOne plan old new (λ event. event ≡ Receive from to) → GoesOnFullAtRestBut left_out rules plan old new
full_one left_out rules plan old new from to (inl e) = ([], e, tt)
full_one left_out rules plan old new from to (inr (event, is, room, such)) =
    (event ∷ [], is, (subst (FullOnlyAtRestBut left_out rules plan old) (sym such) tt, tt))

set_aside : (states : List LineState) (place : ℕ) (new : LineState) → place < length states → (IsSetAside (get_or states place Missing) → new ≡ get_or states place Missing) → StaysAside states (set states place new)
set_aside states place new lt stays = λ k h. elim (same_or k place) [
  | inl e ↦ subst (λ p. IsSetAside (get_or states p Missing) → get_or (set states place new) p Missing ≡ get_or states p Missing) (sym e)
      (λ at. get_or-set_same states place new Missing lt ∙ stays at) h
  | inr ne ↦ get_or-set_other states place k new Missing ne
]

pub get_any : {A : Type 0} (xs : List A) (i : ℕ) (d e : A) → i < length xs → get_or xs i d ≡ get_or xs i e
get_any [] i d e lt = absurd (omega arith)
get_any (x ∷ xs) zero d e lt = refl
get_any (x ∷ xs) (suc i) d e lt = get_any xs i d e (omega arith)

-- The link at a place goes on, and the others stay.
pub went_link : {L : Type 0} (G : Ghosts L) (rules : Rules) (plan : Planned) (old new : Events) (lines : List (Option L)) (states : List LineState) (from to place : ℕ)
    (line new_line : Option L) (state new_state : LineState)
    → LinkStands plan.members from to place → place < length lines → length states ≡ length lines
    → line ≡ get_or lines place None → state ≡ get_or states place Missing
    → LinkWent G rules plan old new from to line new_line state new_state
    → Went G rules plan old new lines (set lines place new_line) states (set states place new_state)
went_link {L} G rules plan old new lines states from to place line new_line state new_state s lt stated is at went = record {
  aside = set_aside states place new_state (omega arith) (λ h. went.aside (subst IsSetAside (sym at) h) ∙ at);
  way = λ start first on way. record {
    places = way.places;
    same = length-set lines place new_line ∙ way.same;
    stated = length-set states place new_state ∙ way.stated;
    each = λ i j f t. elim (other_link plan.members from to i j place s f t) [
      | inl ne ↦ away start first on way i j f t ne
      | inr e ↦ subst (λ k. Came start first k j) (sym e.0) (subst (λ k. Came start first from k) (sym e.1) (here start first on way))
    ];
  };
  full = full_one (IsLeftOut plan (set states place new_state)) rules plan old new from to went.made;
}
  where
    Came : Events → List (Option L) → ℕ → ℕ → Type 0
    Came start first i j = HasCome G (received_since rules plan start new i j) (listed (next_frame rules plan new i j)) (line_at plan.members first i j)
        (get_or (set lines place new_line) (i * plan.members + j) None) (get_or (set states place new_state) (i * plan.members + j) Missing)

    here : (start : Events) (first : List (Option L)) → GoesOn start old → AreOnTheWay G rules plan start old first lines states → Came start first from to
    here start first on way =
        let k : ℕ = from * plan.members + to in
        let one : get_or lines k None ≡ line = ap (λ p. get_or lines p None) s.there ∙ sym is in
        let two : get_or states k Missing ≡ state = ap (λ p. get_or states p Missing) s.there ∙ sym at in
        let three : get_or (set lines place new_line) k None ≡ new_line = ap (λ p. get_or (set lines place new_line) p None) s.there ∙ get_or-set_same lines place new_line None lt in
        let four : get_or (set states place new_state) k Missing ≡ new_state = ap (λ p. get_or (set states place new_state) p Missing) s.there ∙ get_or-set_same states place new_state Missing (omega arith) in
        let Old : Option L → LineState → Type 0 = λ l t. HasCome G (received_since rules plan start old from to) (listed (next_frame rules plan old from to)) (line_at plan.members first from to) l t in
        let New : Option L → LineState → Type 0 = λ l t. HasCome G (received_since rules plan start new from to) (listed (next_frame rules plan new from to)) (line_at plan.members first from to) l t in
        let before : Old line state = subst (Old line) two (subst (λ l. Old l (get_or states k Missing)) one (way.each from to s.from_member s.to_member)) in
        subst (New (get_or (set lines place new_line) k None)) (sym four) (subst (λ l. New l new_state) (sym three) (went.way start (line_at plan.members first from to) on before))

    away : (start : Events) (first : List (Option L)) → GoesOn start old → AreOnTheWay G rules plan start old first lines states → (i j : ℕ) → i < plan.members → j < plan.members → i * plan.members + j ≢ place → Came start first i j
    away start first on way i j f t ne =
        let k : ℕ = i * plan.members + j in
        let one : get_or (set lines place new_line) k None ≡ get_or lines k None = get_or-set_other lines place k new_line None ne in
        let two : get_or (set states place new_state) k Missing ≡ get_or states k Missing = get_or-set_other states place k new_state Missing ne in
        let New : Option L → LineState → Type 0 = λ l t. HasCome G (received_since rules plan start new i j) (listed (next_frame rules plan new i j)) (line_at plan.members first i j) l t in
        subst (New (get_or (set lines place new_line) k None)) (sym two) (subst (λ l. New l (get_or states k Missing)) (sym one)
        (way_away G rules plan start old new from to i j (line_at plan.members first i j) (get_or lines k None) (get_or states k Missing)
        (λ p q. ne (let e = s.there in let a = ap (λ m. m * plan.members) p in omega arith)) went.made on (way.each i j f t)))

-- The lines are ready after that, where the one at the place is.
pub ready_link : {L : Type 0} (G : Ghosts L) (rules : Rules) (plan : Planned) (old new : Events) (lines : List (Option L)) (states : List LineState) (from to place : ℕ) (new_line : Option L) (new_state : LineState)
    → LinkStands plan.members from to place → place < length lines → AreReady G rules plan old lines states → Later plan old new → IsReadyAt G rules plan new to new_line new_state
    → AreReady G rules plan new (set lines place new_line) (set states place new_state)
ready_link {L} G rules plan old new lines states from to place new_line new_state s lt ready later r = record {
  places = length-set lines place new_line ∙ ready.places;
  stated = length-set states place new_state ∙ ready.stated ∙ sym (length-set lines place new_line);
  each = λ i j f t. elim (other_link plan.members from to i j place s f t) [
    | inl ne ↦ away i j f t ne
    | inr e ↦ subst (λ k. Ready k j) (sym e.0) (subst (λ k. Ready from k) (sym e.1) here)
  ];
}
  where
    Ready : ℕ → ℕ → Type 0
    Ready i j = IsReadyAt G rules plan new j (get_or (set lines place new_line) (i * plan.members + j) None) (get_or (set states place new_state) (i * plan.members + j) Missing)

    here : Ready from to
    here =
        let k : ℕ = from * plan.members + to in
        let n = ready.stated in
        let three : get_or (set lines place new_line) k None ≡ new_line = ap (λ p. get_or (set lines place new_line) p None) s.there ∙ get_or-set_same lines place new_line None lt in
        let four : get_or (set states place new_state) k Missing ≡ new_state = ap (λ p. get_or (set states place new_state) p Missing) s.there ∙ get_or-set_same states place new_state Missing (omega arith) in
        subst (IsReadyAt G rules plan new to (get_or (set lines place new_line) k None)) (sym four) (subst (λ l. IsReadyAt G rules plan new to l new_state) (sym three) r)

    away : (i j : ℕ) → i < plan.members → j < plan.members → i * plan.members + j ≢ place → Ready i j
    away i j f t ne =
        let k : ℕ = i * plan.members + j in
        let one : get_or (set lines place new_line) k None ≡ get_or lines k None = get_or-set_other lines place k new_line None ne in
        let two : get_or (set states place new_state) k Missing ≡ get_or states k Missing = get_or-set_other states place k new_state Missing ne in
        subst (IsReadyAt G rules plan new j (get_or (set lines place new_line) k None)) (sym two) (subst (λ l. IsReadyAt G rules plan new j l (get_or states k Missing)) (sym one)
        (ready_at_more G rules plan old new j (get_or lines k None) (get_or states k Missing) later (ready.each i j f t)))

-- A link that was left by its visit.
pub left_link : (rules : Rules) (plan : Planned) (past : Events) (states : List LineState) (from to i j place : ℕ) (new_state : LineState)
    → LinkStands plan.members from to place → LinkStands plan.members i j place → place < length states → (IsReceipt rules plan past from to → IsSetAside new_state)
    → IsLinkLeft rules plan past (set states place new_state) i j
left_link rules plan past states from to i j place new_state s t lt left r =
    let e = same_link plan.members from to i j place s t in
    let here : IsReceipt rules plan past from to = subst (λ k. IsReceipt rules plan past k to) e.0 (subst (IsReceipt rules plan past i) e.1 r) in
    subst IsSetAside (sym (ap (λ p. get_or (set states place new_state) p Missing) t.there ∙ get_or-set_same states place new_state Missing lt)) (left here)

pub ok_map : {A E : Type 0} {P Q : Type 0} (r : Result A E) → (P → Q) → OnOk r P → OnOk r Q
ok_map (Ok x) f p = f p
ok_map (Err e) f p = tt
