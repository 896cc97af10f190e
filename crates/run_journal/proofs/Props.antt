-- To be a run is a fact: there is one proof of it. The same of what can be read of a member.
use Rattle.std.proofs.Common.{ℕ, Option, Some, None, List, [], ◌∷◌}
use Rattle.std.proofs.Props.{props}
use Rattle.upd_base.specs.Plan.{Planned, planned}
use Rattle.upd_base.specs.declared.kind.Kind.{Kind}
use Rattle.upd_base.specs.declared.item.Item.{Item}
use Rattle.upd_base.specs.declared.body.Body.{Body}
use Rattle.upd_base.specs.declared.frame.Frame.{Frame}
use Rattle.upd_base.specs.declared.entry.Entry.{Entry}
use Rattle.upd_base.specs.declared.event.Event.{Event}
use Rattle.upd_base.specs.declared.event.Event.TheVariants.{Call as CallEvent, Receive, Release}
use Rattle.upd_base.specs.declared.answer.Answer.{Answer}
use Rattle.upd_base.specs.declared.call.Step.{Step as PlannedStep}
use Rattle.group_run.specs.Group.{Rules}
use Rattle.group_run.specs.Run.{Events, IsCall, IsNextCall, IsReceipt, IsRelease, IsEnabled, AreEnabled, IsGroupRun}

pub Kind-set : IsSet Kind
Kind-set = hlevel props

pub Item-set : IsSet Item
Item-set = hlevel (props, Kind-set)

pub Entry-set : IsSet Entry
Entry-set = hlevel (props, Item-set)

pub Entries-set : IsSet (List Entry)
Entries-set = hlevel (props, Entry-set)

pub Body-set : IsSet Body
Body-set = hlevel (props, Item-set)

pub Frame-set : IsSet Frame
Frame-set = hlevel (props, Body-set)

pub Answer-set : IsSet Answer
Answer-set = hlevel props

IsNextCall-prop : (rules : Rules) (plan : Planned) (past : Events) (thread index member : ℕ) (given : Answer) (s : PlannedStep) → IsProp (IsNextCall rules plan past thread index member given s)
IsNextCall-prop rules plan past thread index member given s = hlevel (props, Answer-set)

IsCall-prop : (rules : Rules) (plan : Planned) (past : Events) (thread index member : ℕ) (given : Answer) (o : Option PlannedStep) → IsProp (IsCall rules plan past thread index member given o)
IsCall-prop rules plan past thread index member given None = hlevel
IsCall-prop rules plan past thread index member given (Some s) = IsNextCall-prop rules plan past thread index member given s

pub IsReceipt-prop : (rules : Rules) (plan : Planned) (past : Events) (from to : ℕ) → IsProp (IsReceipt rules plan past from to)
IsReceipt-prop rules plan past from to = hlevel props

pub IsRelease-prop : (rules : Rules) (plan : Planned) (past : Events) (at : ℕ) → IsProp (IsRelease rules plan past at)
IsRelease-prop rules plan past at = hlevel props

IsEnabled-prop : (rules : Rules) (plan : Planned) (past : Events) (e : Event) → IsProp (IsEnabled rules plan past e)
IsEnabled-prop rules plan past (CallEvent thread index member given) = IsCall-prop rules plan past thread index member given (planned plan thread index)
IsEnabled-prop rules plan past (Receive from to) = IsReceipt-prop rules plan past from to
IsEnabled-prop rules plan past (Release at) = IsRelease-prop rules plan past at

both : {A B : Type 0} → IsProp A → IsProp B → IsProp (A × B)
both a b = hlevel (a, b)

AreEnabled-prop : (rules : Rules) (plan : Planned) (past : Events) → IsProp (AreEnabled rules plan past)
AreEnabled-prop rules plan [] = hlevel
AreEnabled-prop rules plan (e ∷ past) = both (IsEnabled-prop rules plan past e) (AreEnabled-prop rules plan past)

pub IsGroupRun-prop : (rules : Rules) (plan : Planned) (past : Events) → IsProp (IsGroupRun rules plan past)
IsGroupRun-prop rules plan past = hlevel (props, AreEnabled-prop)
