-- What a run over lines promises, from how its threads ended it.
use Rattle.std.proofs.Common.{ℕ, ◌≡◌, ◌∙◌, inl, inr, ◌+◌, ◌<◌, true, false, List, [], ◌∷◌, ◌++◌, length, append-nil, Option, Some, None, IfSome, IfNone, IsSome, refl, sym, ap, subst, arith}
use Rattle.upd_base.specs.Edge.{Rose}
use Rattle.upd_base.specs.Plan.{Planned}
use Rattle.upd_base.specs.declared.event.Event.{Event}
use Rattle.upd_base.specs.declared.event.Event.TheVariants.{Call, Receive, Release}
use Rattle.upd_base.specs.declared.answer.Answer.TheVariants as answers
use Rattle.upd_lines.specs.Line.{Told}
use Rattle.upd_lines.specs.declared.line.Line.{Ghosts}
use Rattle.group_run.specs.Group.{Rules}
use Rattle.group_run.specs.Run.{Events, crashed_in}
use Rattle.group_run.specs.Settled.{IsSettled}
use Rattle.group_members.proofs.Quiet.{quiet_run}
use Rattle.rehearsal.specs.FullAtRest.{FullAtRest, FullOnlyAtRest}
use Rattle.line_rules.specs.Ends.{EndsRun, IsDownEnd, IsLyingEnd, ToldLie}
use Rattle.line_rules.specs.Received.{carried, next_bytes}
use Rattle.line_rules.specs.Lines.{CameBack, ComeBack, HasCarried, IsAside, IsAsideLine, IsDownLine, IsLying, line_at}
use Rattle.line_rules.specs.Rest.{FullAtRestBut, FullOnlyAtRestBut, GoesOnFullAtRestBut}
use Rattle.line_rules.specs.declared.line_state.Lie.{Lie}
use Rattle.line_rules.specs.declared.run_end.RunEnd.{RunEnd}
use Rattle.planned_calls.specs.Calls.{HasNo, is_crash, is_suspect}
use Rattle.planned_calls.specs.Sends.{DeliversSends}
use Rattle.top_calls.specs.Causes.{WroteRunOf}
use Rattle.top_calls.specs.Live.{AreBack, AreSteady, IsBack, IsComplete, IsFaithful, IsLiveRun, IsRunStatus, IsSteady, WhyDown, WroteOver, told_end}
use Rattle.top_calls.specs.Made.{AreMade, IsMade}
use Rattle.program_texts.specs.Rules.{the_rules}
use Rattle.top_calls.specs.Recorded.{CameTo}
use Rattle.top_calls.specs.Rehearsal.{KeepsLaws}
use Rattle.program_words.specs.declared.words.Form.{Form}
use Rattle.program_texts.specs.declared.run_end.End.{End}
use Rattle.program_texts.specs.declared.run_end.End.TheVariants as ends
use Rattle.program_texts.specs.declared.status.Status.{Status}
use Rattle.program_texts.specs.declared.status.Status.TheVariants as statuses

-- Calls that were answered as full --------------------------------------------------------------------------------

full_only : (left_out : ℕ → ℕ → Type 0) (rules : Rules) (plan : Planned) (past : Events) (event : Event) → ((from to : ℕ) → from < plan.members → to < plan.members → left_out from to → ⊥)
    → FullOnlyAtRestBut left_out rules plan past event → FullOnlyAtRest rules plan past event
full_only left_out rules plan past (Call thread index member answers.Full) none at = record {
  receipts = λ from to r. none from to r.from_member r.to_member (at.receipts from to r);
  releases = at.releases;
}
full_only left_out rules plan past (Call thread index member (answers.Accepted number)) none at = tt
full_only left_out rules plan past (Call thread index member answers.Done) none at = tt
full_only left_out rules plan past (Call thread index member answers.Crashed) none at = tt
full_only left_out rules plan past (Call thread index member answers.VersionLimit) none at = tt
full_only left_out rules plan past (Call thread index member answers.BadKind) none at = tt
full_only left_out rules plan past (Call thread index member answers.BadMember) none at = tt
full_only left_out rules plan past (Receive from to) none at = tt
full_only left_out rules plan past (Release at) none rest = tt

full_each : (left_out : ℕ → ℕ → Type 0) (rules : Rules) (plan : Planned) (newer : Events) → ((from to : ℕ) → from < plan.members → to < plan.members → left_out from to → ⊥)
    → FullAtRestBut left_out rules plan [] newer → FullAtRest rules plan [] newer
full_each left_out rules plan [] none at = tt
full_each left_out rules plan (event ∷ newer) none at = (full_only left_out rules plan (newer ++ []) event none at.0, full_each left_out rules plan newer none at.1)

-- where no link is left out
full_everywhere : (left_out : ℕ → ℕ → Type 0) (rules : Rules) (plan : Planned) (past : Events) → ((from to : ℕ) → from < plan.members → to < plan.members → left_out from to → ⊥)
    → GoesOnFullAtRestBut left_out rules plan [] past → FullAtRest rules plan [] past
full_everywhere left_out rules plan past none g = subst (FullAtRest rules plan []) (sym (g.1 ∙ append-nil g.0)) (full_each left_out rules plan g.0 none g.2)

-- Lines that are aside ----------------------------------------------------------------------------------------------

-- a line that gave no more than the bytes of the frames received does not lie
no_lie : (rules : Rules) (plan : Planned) (start past : Events) (from to : ℕ) (old new : Told) → HasCarried rules plan start past from to old new → IsSettled rules plan past
    → crashed_in rules plan past to ≡ false → IsLying (carried rules plan start past from to) (next_bytes rules plan past from to) old new → ⊥
no_lie rules plan start past from to old new has settled up lying =
    let all : List ℕ = carried rules plan start past from to in
    let same : all ++ has.part ≡ all = ap (λ p. all ++ p) (has.settled settled up) ∙ append-nil all in
    let count : new.got ≡ old.got + length all = has.count ∙ ap (λ bs. old.got + length bs) same in
    let more = lying.more in
    omega (arith, count, more)

module _ {L : Type 0} (G : Ghosts L) where
  -- a line that was made and did not fail is aside only where it lies
  not_aside : (plan : Planned) (past : Events) (from to before now : ℕ) (old new : Option L) → IsMade G before now old → CameBack G the_rules plan [] past from to old new
      → (Rose before now → ⊥) → IsSteady G new → IsSettled the_rules plan past → crashed_in the_rules plan past to ≡ false
      → IsAsideLine G (carried the_rules plan [] past from to) (next_bytes the_rules plan past from to) old new → ⊥
  not_aside plan past from to before now None new made back makes steady settled up aside = makes made
  not_aside plan past from to before now (Some old) None made back makes steady settled up aside = aside
  not_aside plan past from to before now (Some old) (Some new) made back makes steady settled up (inl rose) = steady (subst (λ k. Rose k (G.faults new)) made.1 rose)
  not_aside plan past from to before now (Some old) (Some new) made back makes steady settled up (inr lying) =
      no_lie the_rules plan [] past from to (G.told old) (G.told new) back.0 settled up lying

  not_down : (before now : ℕ) (old new : Option L) → IsMade G before now old → (Rose before now → ⊥) → IsSteady G new → IsDownLine G old new → ⊥
  not_down before now None new made makes steady down = makes made
  not_down before now (Some old) None made makes steady down = down
  not_down before now (Some old) (Some new) made makes steady rose = steady (subst (λ k. Rose k (G.faults new)) made.1 rose)

  is_back : (plan : Planned) (past : Events) (from to before now : ℕ) (old new : Option L) → IsMade G before now old → CameBack G the_rules plan [] past from to old new → IsBack G plan past from to before now new
  is_back plan past from to before now None None made back = made
  is_back plan past from to before now None (Some line) made back = absurd back
  is_back plan past from to before now (Some old) None made back = absurd back
  is_back plan past from to before now (Some old) (Some new) made back = (G.told old, made.0, back.0)

  are_back : (plan : Planned) (past : Events) (before now : ℕ → ℕ → ℕ) (made lines : List (Option L)) → AreMade G plan.members before now made → ComeBack G the_rules plan [] past made lines
      → AreBack G before now plan past lines
  are_back plan past before now made lines are back = record {
    places = back.places ∙ are.places;
    each = λ from to lf lt.
        is_back plan past from to (before from to) (now from to) (line_at plan.members made from to) (line_at plan.members lines from to) (are.each from to lf lt) (back.each from to lf lt);
  }

  why_down : (plan : Planned) (past : Events) (from to before now : ℕ) (old new : Option L) → IsMade G before now old → CameBack G the_rules plan [] past from to old new → IsDownLine G old new
      → WhyDown G before now new
  why_down plan past from to before now None None made back down = made
  why_down plan past from to before now None (Some line) made back down = absurd back
  why_down plan past from to before now (Some old) None made back down = absurd back
  why_down plan past from to before now (Some old) (Some new) made back down = subst (λ k. Rose k (G.faults new)) made.1 down

  not_faithful : (carried next : List ℕ) (old new : Option L) (lie : Lie) → ToldLie G carried next old new lie → IsFaithful G new → ⊥
  not_faithful carried next None new lie told faithful = told
  not_faithful carried next (Some old) None lie told faithful = told
  not_faithful carried next (Some old) (Some new) lie told faithful = absurd (let both : true ≡ false = sym faithful ∙ told.not_faithful in cc)

  delivered : (plan : Planned) (past : Events) (before now : ℕ → ℕ → ℕ) (made lines : List (Option L)) → KeepsLaws plan past → AreMade G plan.members before now made
      → ComeBack G the_rules plan [] past made lines → GoesOnFullAtRestBut (IsAside G the_rules plan [] past made lines) the_rules plan [] past → IsSettled the_rules plan past
      → HasNo is_suspect plan → HasNo is_crash plan → AreSteady G plan.members before now lines → DeliversSends the_rules plan past
  delivered plan past before now made lines laws are back full settled without up steady =
      let quiet = laws.quiet without up in
      let ups : (i : ℕ) → crashed_in the_rules plan past i ≡ false = λ i. ((quiet_run the_rules plan past laws.run.enabled quiet).parts i).up refl in
      laws.delivers
      (full_everywhere (IsAside G the_rules plan [] past made lines) the_rules plan past
      (λ from to lf lt aside. let s = steady from to lf lt in
      not_aside plan past from to (before from to) (now from to) (line_at plan.members made from to) (line_at plan.members lines from to) (are.each from to lf lt) (back.each from to lf lt) s.0 s.1 settled (ups to) aside)
      full) settled quiet

  -- Statuses --------------------------------------------------------------------------------------------------------

  module _ (form : Form) (plan : Planned) (past : Events) (made lines : List (Option L)) (old new : Option (List ℕ)) where
    abbrev Wrote : Status → Type 0
    Wrote status = WroteOver G status form plan past made lines old new

    settled_at : (status : Status) → Wrote status → status ≡ statuses.Done → IsSettled the_rules plan past
    settled_at status w e = let at : Wrote statuses.Done = subst Wrote e w in at.0

    spent_at : (status : Status) → Wrote status → status ≡ statuses.TurnsSpent → CameTo ends.Spent plan past
    spent_at status w e = let at : Wrote statuses.TurnsSpent = subst Wrote e w in at.0

    down_at : (status : Status) → Wrote status → (from to : ℕ) → status ≡ statuses.LineDown from to → IsDownEnd G the_rules plan [] past made lines from to
    down_at status w from to e = let at : Wrote (statuses.LineDown from to) = subst Wrote e w in at.0

    lied_at : (status : Status) → Wrote status → (from to at put got : ℕ) → status ≡ statuses.LineLied from to at put got
        → IsLyingEnd G the_rules plan [] past made lines from to (record { at = at; put = put; got = got })
    lied_at status w from to at put got e = let is : Wrote (statuses.LineLied from to at put got) = subst Wrote e w in is.0

    live_is : (status : Status) (before now : ℕ → ℕ → ℕ) → KeepsLaws plan past → AreMade G plan.members before now made → ComeBack G the_rules plan [] past made lines
        → GoesOnFullAtRestBut (IsAside G the_rules plan [] past made lines) the_rules plan [] past → Wrote status → IsLiveRun G before now status form plan past lines old new
    live_is status before now laws are back full w = record {
      made = made;
      are_made = are;
      run = record {
        laws = laws;
        come_back = back;
        full = full;
        settled = λ e. settled_at status w e;
        each = λ e. laws.each (settled_at status w e);
        delivered = λ e. delivered plan past before now made lines laws are back full (settled_at status w e);
        spent = λ e. spent_at status w e;
        suspected = λ e t. (let s = spent_at status w e in s.1 (laws.bounded t s.0));
        down = down_at status w;
        lied = lied_at status w;
      };
      back = are_back plan past before now made lines are back;
      why_down = λ from to e. (let d = down_at status w from to e in
          why_down plan past from to (before from to) (now from to) (line_at plan.members made from to) (line_at plan.members lines from to) (are.each from to d.from_member d.to_member)
          (back.each from to d.from_member d.to_member) d.is_down);
      wrote = w;
    }

  -- what was written of the end that the threads told
  over : (Came Other : End → Type 0) → ((end : End) → Came end → Other end) → (status : Status) (form : Form) (plan : Planned) (past : Events) (old new : Option (List ℕ))
      → WroteRunOf Came status form plan past old new → WroteRunOf Other status form plan past old new
  over Came Other f statuses.Done form plan past old new w = (f ends.Settled w.0, w.1)
  over Came Other f statuses.TurnsSpent form plan past old new w = (f ends.Spent w.0, w.1)
  over Came Other f (statuses.LineLied from to at put got) form plan past old new w = (f (ends.Lied from to at put got) w.0, w.1)
  over Came Other f (statuses.LineDown from to) form plan past old new w = (f (ends.Down from to) w.0, w.1)
  over Came Other f statuses.SinkFailed form plan past old new w = (w.0, f w.0 w.1, w.2)
  over Came Other f statuses.NoMemory form plan past old new (inl keeps) = inl keeps
  over Came Other f statuses.NoMemory form plan past old new (inr w) = inr (w.0, f w.0 w.1, w.2)
  over Came Other f statuses.Words form plan past old new w = absurd w
  over Came Other f statuses.SourceFailed form plan past old new w = absurd w
  over Came Other f (statuses.Scenario fault) form plan past old new w = absurd w
  over Came Other f (statuses.NotARun place) form plan past old new w = absurd w
  over Came Other f (statuses.JournalRefused fault) form plan past old new w = absurd w

  pub live_run : (status : Status) (form : Form) (plan : Planned) (past : Events) (made lines : List (Option L)) (end : RunEnd) (old new : Option (List ℕ)) → KeepsLaws plan past
      → ComeBack G the_rules plan [] past made lines → GoesOnFullAtRestBut (IsAside G the_rules plan [] past made lines) the_rules plan [] past
      → EndsRun G the_rules plan [] past made lines end → WroteRunOf (λ other. told_end other ≡ end) status form plan past old new
      → (before now : ℕ → ℕ → ℕ) → AreMade G plan.members before now made → IsLiveRun G before now status form plan past lines old new
  live_run status form plan past made lines end old new laws back full ended w before now are =
      let wrote : WroteOver G status form plan past made lines old new = over (λ other. told_end other ≡ end) (λ other. EndsRun G the_rules plan [] past made lines (told_end other))
      (λ other e. subst (EndsRun G the_rules plan [] past made lines) (sym e) ended) status form plan past old new w in
      live_is form plan past made lines old new status before now laws are back full wrote

  -- a run with no suspicion and no fault
  pub complete : (status : Status) (form : Form) (plan : Planned) (past : Events) (lines : List (Option L)) (old new : Option (List ℕ)) (before now : ℕ → ℕ → ℕ) (Rises : Type 0)
      → IsLiveRun G before now status form plan past lines old new → IsRunStatus status → (status ≡ statuses.SinkFailed → Rises) → HasNo is_suspect plan → (Rises → ⊥)
      → AreSteady G plan.members before now lines → IsComplete G status plan.members lines
  complete statuses.Done form plan past lines old new before now Rises live is rose without holds steady = (λ faithful. inl refl, inl (inl refl))
  complete statuses.NoMemory form plan past lines old new before now Rises live is rose without holds steady = (λ faithful. inr refl, inl (inr refl))
  complete statuses.SinkFailed form plan past lines old new before now Rises live is rose without holds steady = absurd (holds (rose refl))
  complete statuses.TurnsSpent form plan past lines old new before now Rises live is rose without holds steady = absurd (live.run.suspected refl (live.run.laws.trusting without))
  complete (statuses.LineDown from to) form plan past lines old new before now Rises live is rose without holds steady =
      let d = live.run.down from to refl in
      let s = steady from to d.from_member d.to_member in
      absurd (not_down (before from to) (now from to) (line_at plan.members live.made from to) (line_at plan.members lines from to) (live.are_made.each from to d.from_member d.to_member) s.0 s.1 d.is_down)
  complete (statuses.LineLied from to at put got) form plan past lines old new before now Rises live is rose without holds steady =
      let d = live.run.lied from to at put got refl in (
        λ faithful. absurd (not_faithful (carried the_rules plan [] past from to) (next_bytes the_rules plan past from to) (line_at plan.members live.made from to) (line_at plan.members lines from to) (record { at = at; put = put; got = got }) d.told
            (faithful from to d.from_member d.to_member)),
        inr (from, to, at, put, got, refl),
      )
  complete statuses.Words form plan past lines old new before now Rises live is rose without holds steady = absurd is
  complete statuses.SourceFailed form plan past lines old new before now Rises live is rose without holds steady = absurd is
  complete (statuses.Scenario fault) form plan past lines old new before now Rises live is rose without holds steady = absurd is
  complete (statuses.NotARun place) form plan past lines old new before now Rises live is rose without holds steady = absurd is
  complete (statuses.JournalRefused fault) form plan past lines old new before now Rises live is rose without holds steady = absurd is

  -- the same where the call began with another name for the plan, and for the opening
  pub live_run_of : (status : Status) (form : Form) (plan plan' : Planned) (start past : Events) (made lines lines' : List (Option L)) (end : RunEnd) (old new : Option (List ℕ)) → plan' ≡ plan → start ≡ []
      → lines' ≡ lines → KeepsLaws plan' past → ComeBack G the_rules plan start past made lines → GoesOnFullAtRestBut (IsAside G the_rules plan start past made lines) the_rules plan start past
      → EndsRun G the_rules plan start past made lines end → WroteRunOf (λ other. told_end other ≡ end) status form plan' past old new
      → (before now : ℕ → ℕ → ℕ) → AreMade G plan.members before now made → IsLiveRun G before now status form plan' past lines' old new
  live_run_of status form plan plan' start past made lines lines' end old new same none back_as laws back full ended w before now are =
      subst (λ p. IsLiveRun G before now status form p past lines' old new) (sym same)
      (subst (λ ls. IsLiveRun G before now status form plan past ls old new) (sym back_as)
      (live_run status form plan past made lines end old new (subst (λ p. KeepsLaws p past) same laws) (subst (λ s. ComeBack G the_rules plan s past made lines) none back)
      (subst (λ s. GoesOnFullAtRestBut (IsAside G the_rules plan s past made lines) the_rules plan s past) none full)
      (subst (λ s. EndsRun G the_rules plan s past made lines end) none ended)
      (subst (λ p. WroteRunOf (λ other. told_end other ≡ end) status form p past old new) same w) before now are))

  pub complete_of : {J : Type 0} (P : J → Planned) (Q : J → Events) (o : Option J) (plan : Planned) (status : Status) (form : Form) (lines : List (Option L)) (old new : Option (List ℕ)) (before now : ℕ → ℕ → ℕ)
      (Rises : Type 0) → IfNone o (status ≡ statuses.NoMemory) → IfSome o (λ j. P j ≡ plan) → IfSome o (λ j. IsLiveRun G before now status form (P j) (Q j) lines old new) → IsRunStatus status
      → (status ≡ statuses.SinkFailed → Rises) → HasNo is_suspect plan → (Rises → ⊥) → AreSteady G plan.members before now lines → IsComplete G status plan.members lines
  complete_of P Q None plan status form lines old new before now Rises memory same live is rose without holds steady = (λ faithful. inr memory, inl (inr memory))
  complete_of P Q (Some j) plan status form lines old new before now Rises memory same live is rose without holds steady =
      complete status form plan (Q j) lines old new before now Rises (subst (λ p. IsLiveRun G before now status form p (Q j) lines old new) same live) is rose without holds steady

pub some_then : {A : Type 0} (P Q : A → Type 0) (o : Option A) → ((a : A) → P a → Q a) → IfSome o P → IfSome o Q
some_then P Q None f p = tt
some_then P Q (Some a) f p = f a p

pub not_none : {A : Type 0} (P : Type 0) (o : Option A) → IsSome o → IfNone o P
not_none P None some = absurd (let q : false ≡ true = some in cc)
not_none P (Some a) some = tt
