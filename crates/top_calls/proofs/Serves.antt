-- Modules serve every kind.
use Rattle.std.proofs.Common.{◌≡◌, true, refl}
use Rattle.upd_base.specs.Plan.{Planned}
use Rattle.upd_base.specs.declared.kind.Kind.{Kind}
use Rattle.upd_base.specs.declared.kind.Kind.TheVariants.{Sequencer, Lamport, Consensus}
use Rattle.module_binding.specs.Kinds.{is_served}
use Rattle.group_run.specs.Laws.{ServesPlan}
use Rattle.program_texts.specs.Rules.{the_rules}

pub served : (kind : Kind) → is_served kind ≡ true
served (Sequencer member) = refl
served Lamport = refl
served Consensus = refl

pub plan_served : (plan : Planned) → ServesPlan the_rules plan
plan_served plan thread index s is kind call = served kind
