-- The table of counts for the makings of each pair of members.
use Rattle.std.proofs.Common.{◌≡◌, ℕ, zero, suc, List, get_or, replicate, refl}

abbrev zeros : ℕ → List ℕ
zeros n = replicate n 0

abbrev number_at : List ℕ → ℕ → ℕ
number_at xs i = get_or xs i 0

abbrev nought : ℕ
nought = 0

pub zero_anywhere : (n i : ℕ) → number_at (zeros n) i ≡ nought
zero_anywhere zero i = refl
zero_anywhere (suc n) zero = refl
zero_anywhere (suc n) (suc i) = zero_anywhere n i
