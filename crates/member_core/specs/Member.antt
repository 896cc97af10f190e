-- A member as what it keeps.
use Rattle.order_trait.specs.declared.ordering.Ordering.{Ghosts}
use Rattle.member_rules.specs.Kept.{Kept}
use Rattle.member_core.specs.declared.member.Member.{Member}

-- the values of its fields
abbrev pub kept_by : {O : Type 0} {G : Ghosts O} → Member O G → Kept O
kept_by m = record {
  members = m.members;
  me = m.me;
  first = m.first;
  modules = m.modules.items;
  repl = m.repl;
  held = m.held.frames;
  entries = m.log.entries;
  suspected = m.suspected.items;
  crashed = m.crashed;
}
