-- What the journal of a rehearsal promises, and what its status says of its end.
use Rattle.std.proofs.Common.{ℕ, ◌≡◌, ◌∙◌, inl, inr, List, [], Option, Result, Ok, Err, OnOk, OnErr, append-nil, refl, sym, subst}
use Rattle.std.specs.Io.KnownBytes.{Appends}
use Rattle.upd_base.specs.Plan.{Planned}
use Rattle.upd_base.specs.declared.edge.EdgeFault.{EdgeFault}
use Rattle.upd_base.specs.declared.edge.EdgeFault.TheVariants as faults
use Rattle.upd_io.specs.Whole.{AppendsLess}
use Rattle.group_run.specs.Run.{Events}
use Rattle.rehearsal.specs.Ends.{EndsAt}
use Rattle.rehearsal.specs.FullAtRest.{FullAtRest, GoesOnFullAtRest}
use Rattle.rehearsal.specs.declared.rehearsed.RehearsalEnd.{RehearsalEnd}
use Rattle.rehearsal.specs.declared.rehearsed.RehearsalEnd.TheVariants as ends
use Rattle.top_calls.specs.Causes.{CameBy, IsAfter, IsAt, IsWriting, OrMemory, WroteRunOf, status_of}
use Rattle.program_texts.specs.Rules.{the_rules}
use Rattle.top_calls.specs.Recorded.{CameTo, scheduled}
use Rattle.top_calls.specs.Rehearsal.{FollowsSchedule, IsRehearsalOf, KeepsLaws}
use Rattle.program_texts.specs.Texts.{run_text}
use Rattle.program_words.specs.declared.words.Form.{Form}
use Rattle.program_texts.specs.declared.run_end.End.{End}
use Rattle.program_texts.specs.declared.run_end.End.TheVariants.{Settled, Spent, Lied, Down}
use Rattle.program_texts.specs.declared.status.Status.{Status}
use Rattle.program_texts.specs.declared.status.Status.TheVariants as statuses

-- Statuses ------------------------------------------------------------------------------------------------------

pub follows : (end : RehearsalEnd) (status : Status) (plan : Planned) (past whole : Events) → IsAfter end status → EndsAt the_rules plan end past whole → FollowsSchedule status plan past whole
follows ends.Settled status plan past whole (inl e) at = subst (λ s. FollowsSchedule s plan past whole) (sym e) at
follows ends.Settled status plan past whole (inr (inl e)) at = subst (λ s. FollowsSchedule s plan past whole) (sym e) (inl at)
follows ends.Settled status plan past whole (inr (inr e)) at = subst (λ s. FollowsSchedule s plan past whole) (sym e) ([], sym at.0)
follows ends.Spent status plan past whole (inl e) at = subst (λ s. FollowsSchedule s plan past whole) (sym e) at
follows ends.Spent status plan past whole (inr (inl e)) at = subst (λ s. FollowsSchedule s plan past whole) (sym e) (inr at)
follows ends.Spent status plan past whole (inr (inr e)) at = subst (λ s. FollowsSchedule s plan past whole) (sym e) ([], sym at.0)
follows ends.NoMemory status plan past whole e at = subst (λ s. FollowsSchedule s plan past whole) (sym e) at

pub came_by : (end : RehearsalEnd) (plan : Planned) (past whole : Events) → EndsAt the_rules plan end past whole → CameBy end plan past
came_by ends.Settled plan past whole at = at.1
came_by ends.Spent plan past whole at = (at.1, at.2)
came_by ends.NoMemory plan past whole at = tt

pub is_writing : (end : RehearsalEnd) (status : Status) → IsAfter end status → IsWriting status
is_writing ends.Settled status (inl e) = inl e
is_writing ends.Settled status (inr (inl e)) = inr (inl e)
is_writing ends.Settled status (inr (inr e)) = inr (inr (inr e))
is_writing ends.Spent status (inl e) = inr (inr (inl e))
is_writing ends.Spent status (inr (inl e)) = inr (inl e)
is_writing ends.Spent status (inr (inr e)) = inr (inr (inr e))
is_writing ends.NoMemory status e = inr (inr (inr e))

pub at_end : (end : End) (r : Result (Unit {0}) EdgeFault) → IsAt end (status_of end r)
at_end end (Ok x) = inl refl
at_end end (Err faults.Failed) = inr (inl refl)
at_end end (Err faults.NoMemory) = inr (inr refl)

-- Texts ---------------------------------------------------------------------------------------------------------

pub wrote : (form : Form) (plan : Planned) (past : Events) (end : End) (text : List ℕ) (r : Result (Unit {0}) EdgeFault) (old new : Option (List ℕ)) → text ≡ run_text form plan past end
    → OnOk r (Appends old new text) → OnErr r (AppendsLess old new text) → WroteRunOf (λ other. other ≡ end) (status_of end r) form plan past old new
wrote form plan past Settled text (Ok x) old new is whole less = (refl, subst (λ t. Appends old new t) is whole)
wrote form plan past Spent text (Ok x) old new is whole less = (refl, subst (λ t. Appends old new t) is whole)
wrote form plan past (Lied from to at put got) text (Ok x) old new is whole less = (refl, subst (λ t. Appends old new t) is whole)
wrote form plan past (Down from to) text (Ok x) old new is whole less = (refl, subst (λ t. Appends old new t) is whole)
wrote form plan past end text (Err faults.Failed) old new is whole less = (end, refl, subst (λ t. AppendsLess old new t) is less)
wrote form plan past end text (Err faults.NoMemory) old new is whole less = inr (end, refl, subst (λ t. AppendsLess old new t) is less)

-- what was written of the end that the run came to
pub wrote_of : (Came : End → Type 0) (end : End) (status : Status) (form : Form) (plan : Planned) (past : Events) (old new : Option (List ℕ)) → Came end
    → WroteRunOf (λ other. other ≡ end) status form plan past old new → WroteRunOf Came status form plan past old new
wrote_of Came end statuses.Done form plan past old new came w = (subst Came (sym w.0) came, w.1)
wrote_of Came end statuses.TurnsSpent form plan past old new came w = (subst Came (sym w.0) came, w.1)
wrote_of Came end (statuses.LineLied from to at put got) form plan past old new came w = (subst Came (sym w.0) came, w.1)
wrote_of Came end (statuses.LineDown from to) form plan past old new came w = (subst Came (sym w.0) came, w.1)
wrote_of Came end statuses.SinkFailed form plan past old new came w = (w.0, subst Came (sym w.1) came, w.2)
wrote_of Came end statuses.NoMemory form plan past old new came (inl keeps) = inl keeps
wrote_of Came end statuses.NoMemory form plan past old new came (inr w) = inr (w.0, subst Came (sym w.1) came, w.2)
wrote_of Came end statuses.Words form plan past old new came w = absurd w
wrote_of Came end statuses.SourceFailed form plan past old new came w = absurd w
wrote_of Came end (statuses.Scenario fault) form plan past old new came w = absurd w
wrote_of Came end (statuses.NotARun place) form plan past old new came w = absurd w
wrote_of Came end (statuses.JournalRefused fault) form plan past old new came w = absurd w

-- Rehearsals ----------------------------------------------------------------------------------------------------

spent_of : (status : Status) (plan : Planned) (past whole : Events) → FollowsSchedule status plan past whole → status ≡ statuses.TurnsSpent → CameTo Spent plan past
spent_of status plan past whole f e =
    let at : EndsAt the_rules plan ends.Spent past whole = subst (λ s. FollowsSchedule s plan past whole) e f in
    (at.1, at.2)

settled_of : (status : Status) (plan : Planned) (past whole : Events) → FollowsSchedule status plan past whole → status ≡ statuses.Done → CameTo Settled plan past
settled_of status plan past whole f e =
    let at : EndsAt the_rules plan ends.Settled past whole = subst (λ s. FollowsSchedule s plan past whole) e f in
    at.1

-- a start with no events
full_of : (plan : Planned) (past : Events) → GoesOnFullAtRest the_rules plan [] past → FullAtRest the_rules plan [] past
full_of plan past g = subst (FullAtRest the_rules plan []) (sym (g.1 ∙ append-nil g.0)) g.2

pub rehearsal_is : (seed : Option ℕ) (end : RehearsalEnd) (status : Status) (plan : Planned) (past : Events) → KeepsLaws plan past → GoesOnFullAtRest the_rules plan [] past
    → EndsAt the_rules plan end past (scheduled seed plan) → IsAfter end status → IsRehearsalOf seed status plan past
rehearsal_is seed end status plan past laws full at after =
    let f = follows end status plan past (scheduled seed plan) after at in
    let settled = settled_of status plan past (scheduled seed plan) f in
    let spent = spent_of status plan past (scheduled seed plan) f in
    record {
      laws = laws;
      schedule = f;
      settled = settled;
      each = λ e. laws.each (settled e);
      delivered = λ e without up. laws.delivers (full_of plan past full) (settled e) (laws.quiet without up);
      spent = spent;
      suspected = λ e t. let s = spent e in s.1 (laws.bounded t s.0);
    }

-- A run whose turns are not spent ends with status 0, where the sink does not fail and memory suffices.
pub complete : (status : Status) (Rises : Type 0) → IsWriting status → (status ≡ statuses.SinkFailed → Rises) → (status ≡ statuses.TurnsSpent → ⊥)
    → (Rises → ⊥) → OrMemory status statuses.Done
complete status Rises (inl e) rose few holds = inl e
complete status Rises (inr (inl e)) rose few holds = absurd (holds (rose e))
complete status Rises (inr (inr (inl e))) rose few holds = absurd (few e)
complete status Rises (inr (inr (inr e))) rose few holds = inr e
