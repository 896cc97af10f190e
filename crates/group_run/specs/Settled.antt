-- Runs that have come to rest, and runs that nothing disturbed.
use Rattle.std.specs.Prelude.{ℕ, Bool, true, false, ◌≡◌, ◌<◌, Option, Some, None, List, [], ◌∷◌, Contains}
use Rattle.upd_base.specs.Plan.{Planned, planned}
use Rattle.upd_base.specs.declared.item.Item.{Item}
use Rattle.upd_base.specs.declared.item.Item.TheVariants.{Msg}
use Rattle.upd_base.specs.declared.entry.Entry.{Entry}
use Rattle.upd_base.specs.declared.event.Event.TheVariants.{Call as CallEvent, Receive, Release}
use Rattle.upd_base.specs.declared.call.Call.{Call}
use Rattle.upd_base.specs.declared.call.Call.TheVariants.{Suspect, Crash}
use Rattle.upd_base.specs.declared.call.Step.{Step as PlannedStep}
use Rattle.upd_base.specs.declared.answer.Answer.{Answer}
use Rattle.upd_base.specs.declared.answer.Answer.TheVariants.{Done}
use Rattle.group_run.specs.Group.{Rules}
use Rattle.group_run.specs.Run.{Events, IsReceipt, IsRelease, calls_made, log_in, version_in}
use Rattle.group_run.specs.Ordered.{accepted_in}

-- A run is settled where every planned call is made, and nothing can be received or released.
pub record IsSettled (rules : Rules) (plan : Planned) (past : Events) : Type 0 where
  pub calls : (thread : ℕ) → planned plan thread (calls_made thread past) ≡ None
  pub receipts : (from to : ℕ) → IsReceipt rules plan past from to → ⊥
  pub releases : (at : ℕ) → IsRelease rules plan past at → ⊥

-- a crash that was done, or a suspicion
abbrev pub is_loud : Call → Answer → Bool
is_loud Crash Done = true
is_loud (Suspect who) Done = true
is_loud call given = false

-- a suspicion that was done
abbrev pub is_suspicion : Call → Answer → Bool
is_suspicion (Suspect who) Done = true
is_suspicion call given = false

-- the same of the planned step, where there is one
abbrev pub is_made : (Call → Answer → Bool) → Option PlannedStep → Answer → Bool
is_made test None given = false
is_made test (Some s) given = test s.call given

-- A run is quiet where no crash and no suspicion was answered as done.
abbrev pub IsQuiet : Planned → Events → Type 0
IsQuiet plan [] = Unit {0}
IsQuiet plan (CallEvent thread index member given ∷ past) = (is_made is_loud (planned plan thread index) given ≡ false) × IsQuiet plan past
IsQuiet plan (Receive from to ∷ past) = IsQuiet plan past
IsQuiet plan (Release at ∷ past) = IsQuiet plan past

-- A run is trusting where no suspicion was answered as done. Members may have crashed in it.
abbrev pub IsTrusting : Planned → Events → Type 0
IsTrusting plan [] = Unit {0}
IsTrusting plan (CallEvent thread index member given ∷ past) = (is_made is_suspicion (planned plan thread index) given ≡ false) × IsTrusting plan past
IsTrusting plan (Receive from to ∷ past) = IsTrusting plan past
IsTrusting plan (Release at ∷ past) = IsTrusting plan past

-- an item stands in the log of member i
abbrev pub IsLogged : Rules → Planned → Events → ℕ → Item → Type 0
IsLogged rules plan past i item = (e : Entry) × Contains (log_in rules plan past i) e × (e.item ≡ item)

-- Every accepted message stands in every log, and all members have one version. A change that another one overtook is
-- no message.
pub record IsFulfilled (rules : Rules) (plan : Planned) (past : Events) : Type 0 where
  pub delivered : (origin number : ℕ) (payload : List ℕ) → Contains (accepted_in plan past) (Msg origin number payload)
      → (i : ℕ) → i < plan.members → IsLogged rules plan past i (Msg origin number payload)
  pub one_version : (i j : ℕ) → i < plan.members → j < plan.members → version_in rules plan past i ≡ version_in rules plan past j
