-- Which planned calls ask for kinds that are served.
use Rattle.std.specs.Prelude.{ℕ, Bool, true, ◌≡◌, ◌<◌, Some}
use Rattle.upd_base.specs.Plan.{Planned, planned}
use Rattle.upd_base.specs.declared.kind.Kind.{Kind}
use Rattle.upd_base.specs.declared.call.Call.TheVariants.{Change}
use Rattle.upd_base.specs.declared.call.Step.{Step}

-- a change asks for a kind that is served
abbrev pub ServesStep : (Kind → Bool) → Step → Type 0
ServesStep serves s = (kind : Kind) → s.call ≡ Change kind → serves kind ≡ true

-- each of the first so many calls of a thread does
abbrev pub ServesThread : (Kind → Bool) → Planned → ℕ → ℕ → Type 0
ServesThread serves plan thread n = (index : ℕ) → index < n → (s : Step) → planned plan thread index ≡ Some s → ServesStep serves s
