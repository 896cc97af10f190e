-- A prepared event: what a member will be once it is committed, and the room that this takes.
use Rattle.std.specs.Prelude.{ℕ, Bool, true, ◌≡◌, ◌-◌, ◌<◌, ◌≤◌, if◌then◌else◌, Option, is_some, option_to_list, List, [], ◌∷◌, ◌++◌, length, set, vec_len, vec_capacity, unwrap_or}
use Rattle.order_trait.specs.declared.ordering.Ordering.{Ghosts}
use Rattle.upd_base.specs.declared.answer.Answer.{Answer}
use Rattle.upd_base.specs.declared.frame.Frame.{Frame}
use Rattle.group_run.specs.Held.{without_ready}
use Rattle.member_rules.specs.Kept.{Kept, IsMember}
use Rattle.member_core.specs.declared.change.Change.{Change}
use Rattle.member_core.specs.declared.change.Change.TheVariants.{Nothing, Stop, Hold, Tell, Advance}
use Rattle.member_core.specs.declared.change.Progress.{Progress}
use Rattle.member_core.specs.declared.member.Member.{Member}
use Rattle.member_core.specs.declared.prepared.Prepared.{Prepared}
use Rattle.member_core.specs.Member.{kept_by}

-- a member that differs in one of these
abbrev pub stopped : {O : Type 0} → Kept O → Kept O
stopped k = record { members = k.members; me = k.me; first = k.first; modules = k.modules; repl = k.repl; held = k.held; entries = k.entries; suspected = k.suspected; crashed = true }

abbrev pub with_held : {O : Type 0} → Kept O → List (ℕ × Frame) → Kept O
with_held k held = record { members = k.members; me = k.me; first = k.first; modules = k.modules; repl = k.repl; held = held; entries = k.entries; suspected = k.suspected; crashed = k.crashed }

abbrev pub told : {O : Type 0} → Kept O → List O → ℕ → Bool → Kept O
told k modules who on = record { members = k.members; me = k.me; first = k.first; modules = modules; repl = k.repl; held = k.held; entries = k.entries; suspected = set k.suspected who on; crashed = k.crashed }

-- a step in a module: the module is another one, and maybe a fresh one is bound above it; the replacement may be another
-- one, entries come to the log, and where a held frame was processed it is held no longer
abbrev pub advanced : {O : Type 0} → Kept O → Progress O → Kept O
advanced k p = record {
  members = k.members;
  me = k.me;
  first = k.first;
  modules = set k.modules p.version p.module ++ option_to_list p.fresh;
  repl = unwrap_or p.repl k.repl;
  held = if p.releases then without_ready k.repl.version k.held else k.held;
  entries = k.entries ++ p.entries.items;
  suspected = k.suspected;
  crashed = k.crashed;
}

-- the member once a change is committed
abbrev pub changed : {O : Type 0} → Kept O → Change O → Kept O
changed k Nothing = k
changed k Stop = stopped k
changed k (Hold from frame) = with_held k (k.held ++ (from, frame) ∷ [])
changed k (Tell who on modules) = told k modules.items who on
changed k (Advance progress) = advanced k progress

abbrev pub committed : {O : Type 0} → Kept O → Prepared O → Kept O
committed k p = changed k p.change

-- what the event answers, and the frames that it sends, each with its receiver
abbrev pub answer_of : {O : Type 0} → Prepared O → Option Answer
answer_of p = p.answer

abbrev pub sent_of : {O : Type 0} → Prepared O → List (ℕ × Frame)
sent_of p = p.sent.items

-- the member has room for a change
pub record HasRoomFor {O : Type 0} {G : Ghosts O} (m : Member O G) (p : Progress O) : Type 0 where
  pub reached : p.version < length m.modules.items
  pub entries : length p.entries.items ≤ m.log.spare
  pub fresh : is_some p.fresh ≡ true → 1 ≤ vec_capacity m.modules - vec_len m.modules

abbrev pub HasRoom : {O : Type 0} {G : Ghosts O} → Member O G → Change O → Type 0
HasRoom m Nothing = Unit {0}
HasRoom m Stop = Unit {0}
HasRoom m (Hold from frame) = 1 ≤ m.held.spare
HasRoom m (Tell who on modules) = who < length m.suspected.items
HasRoom m (Advance progress) = HasRoomFor m progress

-- The member is ready for what was prepared on it: it has the room, and will be a member.
pub record IsReady {O : Type 0} (G : Ghosts O) (m : Member O G) (p : Prepared O) : Type 0 where
  pub room : HasRoom m p.change
  pub member : IsMember G (committed (kept_by m) p)
