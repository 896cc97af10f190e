-- The run that the program makes of a plan.
use Rattle.std.specs.Prelude.{ℕ, ◌≡◌, Option, Some, None, [], length}
use Rattle.upd_base.specs.Plan.{Planned, bound}
use Rattle.group_run.specs.Run.{Events}
use Rattle.group_run.specs.Settled.{IsSettled}
use Rattle.program_texts.specs.Rules.{the_rules}
use Rattle.rehearsal.specs.Rounds.{round_robin}
use Rattle.rehearsal.specs.Seeded.{seeded, words_of}
use Rattle.program_texts.specs.declared.run_end.End.{End}
use Rattle.program_texts.specs.declared.run_end.End.TheVariants.{Settled, Spent, Lied, Down}

-- the schedule that the words ask for, from the opening
abbrev pub scheduled : Option ℕ → Planned → Events
scheduled None plan = round_robin the_rules plan []
scheduled (Some seed) plan = seeded the_rules plan [] (words_of seed)

-- The run came to this end without lines: settled, or with as many events as the plan's bound and not settled.
abbrev pub CameTo : End → Planned → Events → Type 0
CameTo Settled plan past = IsSettled the_rules plan past
CameTo Spent plan past = (length past ≡ bound plan) × (IsSettled the_rules plan past → ⊥)
CameTo (Lied from to at put got) plan past = ⊥
CameTo (Down from to) plan past = ⊥
