-- Lists of events that begin no run.
use Rattle.std.specs.Prelude.{true, false, ◌≡◌, [], ◌∷◌, refl}
use Rattle.std.proofs.Common.{lit<, arith}
use Rattle.upd_base.specs.Plan.{is_open}
use Rattle.upd_base.specs.declared.event.Event.TheVariants.{Call, Receive, Release}
use Rattle.upd_base.specs.declared.answer.Answer.TheVariants.{Accepted, Done}
use Rattle.group_run.specs.Run.{Events, IsGroupRun, AreEnabled}
use Rattle.group_run.proofs.Prefixes.{keeps_prefixes}
use Rattle.group_rows.specs.Kinds.{two_kinds}
use Rattle.group_rows.specs.Outcome.{BeginsNoRun}
use Rattle.group_rows.specs.EarlyFrame.{plan}
use Rattle.group_rows.specs.CrashedSequencer as crash

differ : true ≡ false → ⊥
differ e = cc

other : false ≡ true → ⊥
other e = cc

-- by the newest of the events that begin it
begins : (past : Events) → (AreEnabled two_kinds plan past → ⊥) → BeginsNoRun plan past
begins past h later r = h (keeps_prefixes two_kinds plan later past r).enabled

plan_is : is_open plan ≡ true
unfolding is_open
plan_is = refl

-- A call, a receipt of what it sent to its own member, and the same receipt again.
pub two_events : IsGroupRun two_kinds plan (Receive 0 0 ∷ Call 0 0 0 (Accepted 0) ∷ [])
two_events = record { of_plan = plan_is; short = lit< tt; enabled = (record { from_member = lit< tt; to_member = lit< tt; up = refl; frame = refl }, (record { next = refl; at = refl; answered = refl }, tt)) }

pub repeated : BeginsNoRun plan (Receive 0 0 ∷ Receive 0 0 ∷ Call 0 0 0 (Accepted 0) ∷ [])
repeated = begins (Receive 0 0 ∷ Receive 0 0 ∷ Call 0 0 0 (Accepted 0) ∷ []) (λ e. other (e.0).frame)

pub number : BeginsNoRun plan (Call 0 0 0 (Accepted 1) ∷ [])
number = begins (Call 0 0 0 (Accepted 1) ∷ []) (λ e. let q = (e.0).answered in cc)

pub answer : BeginsNoRun plan (Call 0 0 0 Done ∷ [])
answer = begins (Call 0 0 0 Done ∷ []) (λ e. let q = (e.0).answered in cc)

pub index : BeginsNoRun plan (Call 0 1 0 (Accepted 0) ∷ [])
index = begins (Call 0 1 0 (Accepted 0) ∷ []) (λ e. let q = (e.0).next in omega arith)

pub member : BeginsNoRun plan (Call 0 0 1 (Accepted 0) ∷ [])
member = begins (Call 0 0 1 (Accepted 0) ∷ []) (λ e. let q = (e.0).at in omega arith)

pub thread : BeginsNoRun plan (Call 2 0 0 (Accepted 0) ∷ [])
thread = begins (Call 2 0 0 (Accepted 0) ∷ []) (λ e. e.0)

pub nothing_held : BeginsNoRun plan (Release 0 ∷ Call 0 0 0 (Accepted 0) ∷ [])
nothing_held = begins (Release 0 ∷ Call 0 0 0 (Accepted 0) ∷ []) (λ e. other (e.0).ready)

pub no_sender : BeginsNoRun plan (Receive 2 0 ∷ Call 0 0 0 (Accepted 0) ∷ [])
no_sender = begins (Receive 2 0 ∷ Call 0 0 0 (Accepted 0) ∷ []) (λ e. let l = (e.0).from_member in omega arith)

pub crashed : BeginsNoRun crash.plan (Receive 1 0 ∷ Call 0 1 0 Done ∷ Call 0 0 1 (Accepted 0) ∷ [])
crashed later r = differ ((keeps_prefixes two_kinds crash.plan later (Receive 1 0 ∷ Call 0 1 0 Done ∷ Call 0 0 1 (Accepted 0) ∷ []) r).enabled.0).up
