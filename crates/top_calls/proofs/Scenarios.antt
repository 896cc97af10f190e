-- From what was read of the source to what is promised of all its bytes.
use Rattle.std.proofs.Common.{ℕ, ◌≡◌, ◌∙◌, ◌⊎◌, inl, inr, List, Option, Some, None, IfSome, Result, Ok, Err, sym, subst}
use Rattle.upd_base.specs.Edge.{Rose}
use Rattle.upd_base.specs.Plan.{Planned}
use Rattle.scenario.specs.Reading.{reading}
use Rattle.scenario.specs.declared.fault.ScenarioFault.{ScenarioFault}
use Rattle.planned_calls.specs.Calls.{HasNo, is_suspect}
use Rattle.top_calls.specs.Causes.{IsWriting, OrMemory, PlanFrom, ScenarioCause}
use Rattle.top_calls.specs.Live.{IsOfLive, IsRunStatus}
use Rattle.program_texts.specs.declared.status.Status.{Status}
use Rattle.program_texts.specs.declared.status.Status.TheVariants as statuses

-- one reading gives one plan
same_plan : {r : Result Planned ScenarioFault} {p q : Planned} → r ≡ Ok p → r ≡ Ok q → p ≡ q
same_plan e f = cc

-- a plan was read
pub plan_complete : (old : Option (List ℕ)) (p : Planned) (status : Status) (Source Sink : Type 0) → IfSome old (λ all. reading all ≡ Ok p)
    → (HasNo is_suspect p → (Sink → ⊥) → OrMemory status statuses.Done)
    → IfSome old (λ all. (q : Planned) → reading all ≡ Ok q → HasNo is_suspect q → (Source → ⊥) → (Sink → ⊥) → OrMemory status statuses.Done)
plan_complete None p status Source Sink read ends = tt
plan_complete (Some all) p status Source Sink read ends = λ q e without steady holds. ends (subst (HasNo is_suspect) (sym (same_plan read e)) without) holds

pub plan_written : (old : Option (List ℕ)) (status : Status) → IsWriting status → IfSome old (λ all. (q : Planned) → reading all ≡ Ok q → IsWriting status ⊎ (status ≡ statuses.SourceFailed))
plan_written None status writing = tt
plan_written (Some all) status writing = λ q e. inl writing

-- none was
pub none_refused : (given status : Status) (before now : ℕ) (old new : Option (List ℕ)) → PlanFrom (Err given) before now old new → OrMemory status given
    → IfSome old (λ all. (f : ScenarioFault) → reading all ≡ Err f → OrMemory status (statuses.Scenario f) ⊎ (status ≡ statuses.SourceFailed))
none_refused given status before now None new from or = tt
none_refused statuses.SourceFailed status before now (Some all) new from (inl e) = λ f r. inr e
none_refused statuses.SourceFailed status before now (Some all) new from (inr e) = λ f r. inl (inr e)
none_refused (statuses.Scenario fault) status before now (Some all) new from or = λ f e.
    let same : Err fault ≡ Err f = sym from.1 ∙ e in
    let is : fault ≡ f = cc in
    inl (subst (λ x. OrMemory status (statuses.Scenario x)) is or)
none_refused statuses.NoMemory status before now (Some all) new from (inl e) = λ f r. inl (inr e)
none_refused statuses.NoMemory status before now (Some all) new from (inr e) = λ f r. inl (inr e)
none_refused statuses.Words status before now (Some all) new from or = absurd from
none_refused statuses.Done status before now (Some all) new from or = absurd from
none_refused statuses.SinkFailed status before now (Some all) new from or = absurd from
none_refused statuses.TurnsSpent status before now (Some all) new from or = absurd from
none_refused (statuses.LineDown f t) status before now (Some all) new from or = absurd from
none_refused (statuses.LineLied f t at put got) status before now (Some all) new from or = absurd from
none_refused (statuses.NotARun place) status before now (Some all) new from or = absurd from
none_refused (statuses.JournalRefused fault) status before now (Some all) new from or = absurd from

pub none_complete : (given status : Status) (before now : ℕ) (old new : Option (List ℕ)) (Sink : Type 0) → PlanFrom (Err given) before now old new → OrMemory status given
    → IfSome old (λ all. (q : Planned) → reading all ≡ Ok q → HasNo is_suspect q → (Rose before now → ⊥) → (Sink → ⊥) → OrMemory status statuses.Done)
none_complete given status before now None new Sink from or = tt
none_complete statuses.SourceFailed status before now (Some all) new Sink from or = λ q e without steady holds. absurd (steady from)
none_complete (statuses.Scenario fault) status before now (Some all) new Sink from or = λ q e without steady holds. absurd (let r : Err fault ≡ Ok q = sym from.1 ∙ e in cc)
none_complete statuses.NoMemory status before now (Some all) new Sink from (inl m) = λ q e without steady holds. inr m
none_complete statuses.NoMemory status before now (Some all) new Sink from (inr m) = λ q e without steady holds. inr m
none_complete statuses.Words status before now (Some all) new Sink from or = absurd from
none_complete statuses.Done status before now (Some all) new Sink from or = absurd from
none_complete statuses.SinkFailed status before now (Some all) new Sink from or = absurd from
none_complete statuses.TurnsSpent status before now (Some all) new Sink from or = absurd from
none_complete (statuses.LineDown f t) status before now (Some all) new Sink from or = absurd from
none_complete (statuses.LineLied f t at put got) status before now (Some all) new Sink from or = absurd from
none_complete (statuses.NotARun place) status before now (Some all) new Sink from or = absurd from
none_complete (statuses.JournalRefused fault) status before now (Some all) new Sink from or = absurd from

-- Runs with threads -------------------------------------------------------------------------------------------------

-- what is true of the plan that was read
pub plan_ends : (old : Option (List ℕ)) (p : Planned) (Ends : Planned → Type 0) → IfSome old (λ all. reading all ≡ Ok p) → Ends p → IfSome old (λ all. (q : Planned) → reading all ≡ Ok q → Ends q)
plan_ends None p Ends read ends = tt
plan_ends (Some all) p Ends read ends = λ q e. subst Ends (same_plan read e) ends

pub plan_no_fault : (old : Option (List ℕ)) (p : Planned) (P : ScenarioFault → Type 0) → IfSome old (λ all. reading all ≡ Ok p) → IfSome old (λ all. (f : ScenarioFault) → reading all ≡ Err f → P f)
plan_no_fault None p P read = tt
plan_no_fault (Some all) p P read = λ f e. absurd (let both : Ok p ≡ Err f = sym read ∙ e in cc)

-- where none was read
pub none_kind : (given status : Status) (before now : ℕ) (old : Option (List ℕ)) → ScenarioCause given before now old → OrMemory status given → IsOfLive status
none_kind given status before now old cause (inr e) = subst IsOfLive (sym e) tt
none_kind statuses.SourceFailed status before now old cause (inl e) = subst IsOfLive (sym e) tt
none_kind (statuses.Scenario fault) status before now old cause (inl e) = subst IsOfLive (sym e) tt
none_kind statuses.NoMemory status before now old cause (inl e) = subst IsOfLive (sym e) tt
none_kind statuses.Words status before now old cause (inl e) = absurd cause
none_kind statuses.Done status before now old cause (inl e) = absurd cause
none_kind statuses.SinkFailed status before now old cause (inl e) = absurd cause
none_kind (statuses.LineDown from to) status before now old cause (inl e) = absurd cause
none_kind statuses.TurnsSpent status before now old cause (inl e) = absurd cause
none_kind (statuses.LineLied from to at put got) status before now old cause (inl e) = absurd cause
none_kind (statuses.NotARun place) status before now old cause (inl e) = absurd cause
none_kind (statuses.JournalRefused fault) status before now old cause (inl e) = absurd cause

pub none_there : (given status : Status) (before now : ℕ) (old : Option (List ℕ)) (There : Type 0) → ScenarioCause given before now old → OrMemory status given → IsRunStatus status
    → (status ≡ statuses.NoMemory) ⊎ There
none_there given status before now old There cause (inr e) is = inl e
none_there statuses.SourceFailed status before now old There cause (inl e) is = absurd (subst IsRunStatus e is)
none_there (statuses.Scenario fault) status before now old There cause (inl e) is = absurd (subst IsRunStatus e is)
none_there statuses.NoMemory status before now old There cause (inl e) is = inl e
none_there statuses.Words status before now old There cause (inl e) is = absurd cause
none_there statuses.Done status before now old There cause (inl e) is = absurd cause
none_there statuses.SinkFailed status before now old There cause (inl e) is = absurd cause
none_there (statuses.LineDown from to) status before now old There cause (inl e) is = absurd cause
none_there statuses.TurnsSpent status before now old There cause (inl e) is = absurd cause
none_there (statuses.LineLied from to at put got) status before now old There cause (inl e) is = absurd cause
none_there (statuses.NotARun place) status before now old There cause (inl e) is = absurd cause
none_there (statuses.JournalRefused fault) status before now old There cause (inl e) is = absurd cause

none_run_of : (given status : Status) (before now : ℕ) (all : List ℕ) (q : Planned) → ScenarioCause given before now (Some all) → OrMemory status given → reading all ≡ Ok q
    → IsRunStatus status ⊎ (status ≡ statuses.SourceFailed)
none_run_of given status before now all q cause (inr e) read = inl (subst IsRunStatus (sym e) tt)
none_run_of statuses.SourceFailed status before now all q cause (inl e) read = inr e
none_run_of (statuses.Scenario fault) status before now all q cause (inl e) read = absurd (let both : Err fault ≡ Ok q = sym cause.1 ∙ read in cc)
none_run_of statuses.NoMemory status before now all q cause (inl e) read = inl (subst IsRunStatus (sym e) tt)
none_run_of statuses.Words status before now all q cause (inl e) read = absurd cause
none_run_of statuses.Done status before now all q cause (inl e) read = absurd cause
none_run_of statuses.SinkFailed status before now all q cause (inl e) read = absurd cause
none_run_of (statuses.LineDown from to) status before now all q cause (inl e) read = absurd cause
none_run_of statuses.TurnsSpent status before now all q cause (inl e) read = absurd cause
none_run_of (statuses.LineLied from to at put got) status before now all q cause (inl e) read = absurd cause
none_run_of (statuses.NotARun place) status before now all q cause (inl e) read = absurd cause
none_run_of (statuses.JournalRefused fault) status before now all q cause (inl e) read = absurd cause

pub none_run : (given status : Status) (before now : ℕ) (old : Option (List ℕ)) → ScenarioCause given before now old → OrMemory status given
    → IfSome old (λ all. (q : Planned) → reading all ≡ Ok q → IsRunStatus status ⊎ (status ≡ statuses.SourceFailed))
none_run given status before now None cause or = tt
none_run given status before now (Some all) cause or = λ q read. none_run_of given status before now all q cause or read

pub none_ends : (given status : Status) (before now : ℕ) (old new : Option (List ℕ)) (Sink : Type 0) (Steady : Planned → Type 0) (Faithful : Planned → Type 0) (Lied : Type 0) → PlanFrom (Err given) before now old new → OrMemory status given
    → IfSome old (λ all. (q : Planned) → reading all ≡ Ok q → HasNo is_suspect q → (Rose before now → ⊥) → (Sink → ⊥) → Steady q → (Faithful q → OrMemory status statuses.Done) × (OrMemory status statuses.Done ⊎ Lied))
none_ends given status before now None new Sink Steady Faithful Lied from or = tt
none_ends given status before now (Some all) new Sink Steady Faithful Lied from or = λ q e without calm holds steady.
    let done = none_complete given status before now (Some all) new Sink from or q e without calm holds in
    (λ faithful. done, inl done)
