-- From the bytes that were read to all that the source had.
use Rattle.std.proofs.Common.{◌≡◌, inl, inr, ℕ, ◌+◌, List, take, Option, Some, None, IfSome, Result, Ok, Err, sym, ap, ◌∙◌}
use Rattle.std.specs.Io.KnownBytes.{IsAtEnd}
use Rattle.upd_base.specs.Plan.{Planned}
use Rattle.upd_io.specs.Whole.{ReadUpTo}
use Rattle.scenario.specs.declared.fault.ScenarioFault.{ScenarioFault}
use Rattle.scenario.specs.declared.fault.ScenarioFault.TheVariants as faults
use Rattle.scenario.specs.Gives.{OrMemory}
use Rattle.scenario.specs.Reading.{reading}
use Rattle.scenario.specs.declared.root.TheConstants.{MAX_TEXT}
use Rattle.scenario.proofs.Front.{reading_front, within_limit}
use Rattle.top_calls.specs.Causes.{PlanFrom, refused}

of_all : (old : Option (List ℕ)) (bytes : List ℕ) (r : Result Planned ScenarioFault) → IfSome old (λ all. bytes ≡ take (MAX_TEXT + 1) all)
    → reading bytes ≡ r → IfSome old (λ all. reading all ≡ r)
of_all None bytes r h e = tt
of_all (Some all) bytes r h e = sym (reading_front all) ∙ sym (ap reading h) ∙ e

pub plan_read : (old new : Option (List ℕ)) (bytes : List ℕ) (p : Planned) → ReadUpTo old new MAX_TEXT bytes → reading bytes ≡ Ok p
    → IfSome old (λ all. reading all ≡ Ok p) × IsAtEnd new
plan_read old new bytes p h e = (of_all old bytes (Ok p) h.given e, h.ended (within_limit bytes p e))

pub fault_read : (old new : Option (List ℕ)) (bytes : List ℕ) (f : ScenarioFault) (before now : ℕ) → ReadUpTo old new MAX_TEXT bytes → OrMemory f (reading bytes ≡ Err f)
    → PlanFrom (Err (refused f)) before now old new
fault_read old new bytes faults.TooLong before now h (inl m) = absurd (let no : faults.TooLong ≡ faults.NoMemory = m in cc)
fault_read old new bytes faults.TooLong before now h (inr e) = (λ m. cc, of_all old bytes _ h.given e)
fault_read old new bytes faults.NotJson before now h (inl m) = absurd (let no : faults.NotJson ≡ faults.NoMemory = m in cc)
fault_read old new bytes faults.NotJson before now h (inr e) = (λ m. cc, of_all old bytes _ h.given e)
fault_read old new bytes (faults.At path reason) before now h (inl m) = absurd (let no : faults.At path reason ≡ faults.NoMemory = m in cc)
fault_read old new bytes (faults.At path reason) before now h (inr e) = (λ m. cc, of_all old bytes _ h.given e)
fault_read old new bytes faults.NoMemory before now h e = tt
