-- The rules of the program's groups.
use Rattle.group_run.specs.Group.{Rules}
use Rattle.module_binding.specs.Kinds.{is_served, sends_of, delivers_of}

-- the kinds that the program's modules serve, by their definitions
abbrev pub the_rules : Rules
the_rules = record { sends = sends_of; delivers = delivers_of; serves = is_served }
