-- What became of a step.
use Rattle.std.proofs.Common.{◌≡◌, ◌≢◌, refl}
use Rattle.member_threads.specs.declared.step.Step.{Step}
use Rattle.member_threads.specs.declared.step.Step.TheVariants.{Went, Nothing, Ended, Wanted}
use Rattle.member_threads.specs.Worker.{IfWent, UnlessWent}

pub if_unmade : (P : Type 0) (s : Step) → s ≢ Went → IfWent s P
if_unmade P Went other = absurd (other refl)
if_unmade P Nothing other = tt
if_unmade P Ended other = tt
if_unmade P Wanted other = tt

pub unless_unmade : (P : Type 0) (s : Step) → P → UnlessWent s P
unless_unmade P Went p = tt
unless_unmade P Nothing p = p
unless_unmade P Ended p = p
unless_unmade P Wanted p = p

pub was_unmade : (P : Type 0) (s : Step) → s ≢ Went → UnlessWent s P → P
was_unmade P Went other p = absurd (other refl)
was_unmade P Nothing other p = p
was_unmade P Ended other p = p
was_unmade P Wanted other p = p

pub was_made : (P : Type 0) (s : Step) → s ≡ Went → IfWent s P → P
was_made P Went is p = p
was_made P Nothing is p = absurd (cc (is))
was_made P Ended is p = absurd (cc (is))
was_made P Wanted is p = absurd (cc (is))
