-- What a prepared event comes to.
use Rattle.std.specs.Prelude.{ℕ, ◌≡◌, ◌<◌, ◌≤◌, ◌+◌, All, unwrap_or, length}
use Rattle.order_trait.specs.declared.ordering.Ordering.{Ghosts}
use Rattle.upd_base.specs.declared.answer.Answer.{Answer}
use Rattle.upd_base.specs.declared.answer.Answer.TheVariants.{Done}
use Rattle.group_run.specs.Part.{Part}
use Rattle.group_run.specs.Turn.{Turn}
use Rattle.member_rules.specs.Kept.{Kept, IsMember, group_of}
use Rattle.member_rules.specs.Stands.{Holds}
use Rattle.member_rules.specs.Steps.{SentFits}
use Rattle.member_core.specs.declared.change.Change.{Change}
use Rattle.member_core.specs.declared.change.Change.TheVariants.{Nothing, Stop, Hold, Tell, Advance}
use Rattle.member_core.specs.declared.prepared.Prepared.{Prepared}
use Rattle.member_core.specs.Prepared.{committed, sent_of}

-- the member has come to this part
abbrev pub Keeps : {O : Type 0} (G : Ghosts O) → Kept O → Part → Type 0
Keeps G k part = Holds G (group_of G k) k.me k part

-- the module or the member that a change names is there
abbrev pub Reaches : {O : Type 0} → Kept O → Change O → Type 0
Reaches k Nothing = Unit {0}
Reaches k Stop = Unit {0}
Reaches k (Hold from frame) = Unit {0}
Reaches k (Tell who on modules) = who < length k.suspected
Reaches k (Advance progress) = progress.version < length k.modules

-- Whatever the member has come to, it will be a member that made at most so many items more, and what goes out fits the
-- group.
pub record IsSound {O : Type 0} (G : Ghosts O) (k : Kept O) (more : ℕ) (p : Prepared O) : Type 0 where
  pub reaches : Reaches k p.change
  pub member : IsMember G (committed k p)
  pub made : (committed k p).repl.made ≤ k.repl.made + more
  pub fits : All (SentFits k.members) (sent_of p)

-- The event makes this turn.
pub record MakesTurn {O : Type 0} (G : Ghosts O) (k : Kept O) (p : Prepared O) (turn : Turn) : Type 0 where
  pub holds : Holds G (group_of G k) k.me (committed k p) turn.part
  pub frames : sent_of p ≡ turn.frames

-- what a prepared call answers
abbrev pub given_by : {O : Type 0} → Prepared O → Answer
given_by p = unwrap_or p.answer Done
