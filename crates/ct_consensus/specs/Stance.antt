-- Where a member stands, and that it waits for no coordinator that it suspects.
use Rattle.std.specs.Prelude.{ℕ, Bool, true, ◌≡◌, ◌<◌, [], Option, Some, None}
use Rattle.instance_rules.specs.declared.place.Place.{Place}
use Rattle.instance_rules.specs.Say.{coordinator, last_round}
use Rattle.instance_rules.specs.Place as rules

-- A member does not wait for a coordinator that it suspects, but in the last round, where it has replied.
abbrev pub Settled : ℕ → (ℕ → Bool) → Place → Type 0
Settled n suspects p = 0 < p.round → suspects (coordinator n p.round) ≡ true → (p.round ≡ last_round) × (p.replied ≡ true)

-- where a member stands that has no place yet
abbrev pub standing : Option Place → Place
standing None = rules.place 0 []
standing (Some p) = p
